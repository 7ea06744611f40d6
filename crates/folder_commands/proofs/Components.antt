-- Names as a folder can hold them, and paths of these.
use Rattle.std.proofs.Common.{◌≡◌, ◌≢◌, ◌/◌, ◌%◌, ◌++◌, ◌||◌, ℕ, true, false, List, [], ◌∷◌, refl, sym, ap, subst, ◌∙◌}
use Rattle.std.proofs.Common.{arith, nat_eq, append_assoc}
use Rattle.std.proofs.lemmas.List.{append-nil}
use Rattle.std.proofs.lemmas.List.Folds.{list_any-append}
use Rattle.std.specs.List.{AllByRecursion, join_with_byte, list_any}
use Rattle.cfb_names.specs.Names.{IsName, is_forbidden}
use Rattle.text_words.specs.Spelled.{byte_text, digit_text, is_hidden, name_text}
use Rattle.folder_commands.specs.Paths.{IsComponent, IsInside, before, component, is_parting, joined, last_text}
use Rattle.folder_commands.proofs.Bytes.{byte_cases, digits_of, digit_not_dot, digit_not_parting, last_cases, neither}
use Rattle.folder_commands.proofs.Bytes.{not_parting}

-- ---- the last byte
pub component_last : (front : List ℕ) (c : ℕ) → component (front ++ c ∷ []) ≡ name_text front ++ last_text c
component_last [] c = refl
component_last (x ∷ []) c = ap (λ t. t ++ last_text c) (sym (append-nil (byte_text x)))
component_last (x ∷ y ∷ ys) c = ap (λ t. byte_text x ++ t) (component_last (y ∷ ys) c)
    ∙ sym (append_assoc (byte_text x) (name_text (y ∷ ys)) (last_text c))

-- the text written for a name that ends with this byte
pub component_pushed : (text mid after name front : List ℕ) (c : ℕ) → name ≡ front ++ c ∷ []
    → mid ≡ text ++ name_text front → after ≡ mid ++ last_text c
    → after ≡ text ++ component name
component_pushed text mid after name front c is first then =
    then ∙ ap (λ t. t ++ last_text c) first ∙ append_assoc text (name_text front) (last_text c)
    ∙ ap (λ t. text ++ t) (sym (component_last front c)) ∙ ap (λ n. text ++ component n) (sym is)

-- ---- what a folder can hold
-- neither empty, nor ended by a dot
abbrev pub ends : List ℕ → ℕ
ends [] = 46
ends (c ∷ []) = c
ends (c ∷ d ∷ ds) = ends (d ∷ ds)

ends_behind : (c : ℕ) (rest : List ℕ) → ends rest ≢ 46 → ends (c ∷ rest) ≢ 46
ends_behind c [] not is = not refl
ends_behind c (d ∷ ds) not is = not is

ends_after : (front rest : List ℕ) → ends rest ≢ 46 → ends (front ++ rest) ≢ 46
ends_after [] rest not = not
ends_after (c ∷ cs) rest not = ends_behind c (cs ++ rest) (ends_after cs rest not)

byte_ends : (c : ℕ) → nat_eq c 46 ≡ false → ends (byte_text c) ≢ 46
byte_ends c not = byte_cases (λ t. ends t ≢ 46) c (λ h. digit_not_dot (c % 16) (digits_of c h).low)
    (λ h is. grind (arith, not, is))

last_ends : (c : ℕ) → ends (last_text c) ≢ 46
last_ends c = last_cases (λ t. ends t ≢ 46) c (λ h is. grind (arith, is)) (λ h. byte_ends c h)

component_ends : (c : ℕ) (cs : List ℕ) → ends (component (c ∷ cs)) ≢ 46
component_ends c [] = last_ends c
component_ends c (d ∷ ds) = ends_after (byte_text c) (component (d ∷ ds)) (component_ends d ds)

none_in : (xs ys : List ℕ) → list_any is_parting xs ≡ false → list_any is_parting ys ≡ false
    → list_any is_parting (xs ++ ys) ≡ false
none_in xs ys p q = list_any-append is_parting xs ys ∙ ap (λ b. b || list_any is_parting ys) p ∙ q

spelled_whole : (c : ℕ) → is_hidden c ≡ true
    → list_any is_parting (92 ∷ digit_text (c / 16) ∷ digit_text (c % 16) ∷ []) ≡ false
spelled_whole c h =
    let d = digits_of c h in
    rw (digit_not_parting (c / 16) d.high, digit_not_parting (c % 16) d.low) refl

byte_whole : (c : ℕ) → is_forbidden c ≡ false → list_any is_parting (byte_text c) ≡ false
byte_whole c allowed = byte_cases (λ t. list_any is_parting t ≡ false) c (spelled_whole c)
    (λ h. rw (not_parting c allowed) refl)

last_whole : (c : ℕ) → is_forbidden c ≡ false → list_any is_parting (last_text c) ≡ false
last_whole c allowed = last_cases (λ t. list_any is_parting t ≡ false) c (λ h. refl) (λ h. byte_whole c allowed)

component_whole : (name : List ℕ) → list_any is_forbidden name ≡ false → list_any is_parting (component name) ≡ false
component_whole [] h = refl
component_whole (c ∷ []) h = last_whole c (neither (is_forbidden c) false h).0
component_whole (c ∷ d ∷ ds) h =
    let both = neither (is_forbidden c) (list_any is_forbidden (d ∷ ds)) h in
    none_in (byte_text c) (component (d ∷ ds)) (byte_whole c both.0) (component_whole (d ∷ ds) both.1)

of_some : (c : ℕ) (cs : List ℕ) → list_any is_forbidden (c ∷ cs) ≡ false → IsComponent (component (c ∷ cs))
of_some c cs allowed = record {
  some = λ is. component_ends c cs (ap ends is);
  below = λ is. component_ends c cs (ap ends is);
  not_above = λ is. component_ends c cs (ap ends is);
  one = component_whole (c ∷ cs) allowed;
}

pub component_sound : (name : List ℕ) → IsName name → IsComponent (component name)
component_sound [] is = let some = is.some in absurd (omega arith)
component_sound (c ∷ cs) is = of_some c cs is.allowed

-- ---- paths
join_last : (n c : List ℕ) (ns : List (List ℕ)) → join_with_byte 47 (n ∷ (ns ++ c ∷ []))
    ≡ join_with_byte 47 (n ∷ ns) ++ 47 ∷ c
join_last n c [] = refl
join_last n c (m ∷ ms) = ap (λ t. n ++ 47 ∷ t) (join_last m c ms)
    ∙ sym (append_assoc n (47 ∷ join_with_byte 47 (m ∷ ms)) (47 ∷ c))

all_last : (c : List ℕ) (ns : List (List ℕ)) → AllByRecursion IsComponent ns → IsComponent c
    → AllByRecursion IsComponent (ns ++ c ∷ [])
all_last c [] are is = (is, tt)
all_last c (n ∷ ns) are is = (are.0, all_last c ns are.1 is)

before_some : (x : ℕ) (xs path : List ℕ) → path ≡ x ∷ xs → before path ≡ path ++ 47 ∷ []
before_some x xs path is = ap before is ∙ ap (λ p. p ++ 47 ∷ []) (sym is)

starts : (n : List ℕ) (rest : List ℕ) → n ≢ [] → (x : ℕ) × (xs : List ℕ) × (n ++ rest ≡ x ∷ xs)
starts [] rest some = absurd (some refl)
starts (x ∷ xs) rest some = (x, xs ++ rest, refl)

join_starts : (n : List ℕ) (ns : List (List ℕ)) → n ≢ [] → (x : ℕ) × (xs : List ℕ)
    × (join_with_byte 47 (n ∷ ns) ≡ x ∷ xs)
join_starts [] ns some = absurd (some refl)
join_starts (x ∷ xs) [] some = (x, xs, refl)
join_starts (x ∷ xs) (m ∷ ms) some = (x, xs ++ 47 ∷ join_with_byte 47 (m ∷ ms), refl)

within : (path c : List ℕ) (names : List (List ℕ)) → AllByRecursion IsComponent names
    → path ≡ join_with_byte 47 names → IsComponent c → IsInside (before path ++ c)
within path c [] are is one = record { names = c ∷ []; are = (one, tt); joined = ap (λ p. before p ++ c) is }
within path c (n ∷ ns) are is one =
    let first = join_starts n ns are.0.some in
    record {
      names = n ∷ (ns ++ c ∷ []);
      are = all_last c (n ∷ ns) are one;
      joined = ap (λ t. t ++ c) (before_some first.0 first.1 path (is ∙ first.2)) ∙ append_assoc path (47 ∷ []) c
          ∙ ap (λ p. p ++ 47 ∷ c) is ∙ sym (join_last n c ns);
    }

pub joined_inside : (path name : List ℕ) → IsInside path → IsComponent (component name) → IsInside (joined path name)
joined_inside path name inside one = within path (component name) inside.names inside.are inside.joined one

pub joined_here : (path slice text after name : List ℕ) → slice ≡ path → text ≡ before slice
    → after ≡ text ++ component name → IsInside path → IsComponent (component name) → IsInside after
joined_here path slice text after name same started written inside one =
    subst IsInside (sym (written ∙ ap (λ t. t ++ component name) (started ∙ ap before same)))
    (joined_inside path name inside one)

pub top_inside : IsInside []
top_inside = record { names = []; are = tt; joined = refl }
