-- Which links hold what comes, behind each command.
use Rattle.std.proofs.Common.{◌≡◌, ◌≤◌, ◌<◌, ◌+◌, ◌==◌, ◌++◌, ℕ, zero, suc, Bool, true, false, List, [], ◌∷◌, length}
use Rattle.std.proofs.Common.{if◌then◌else◌, refl, sym, ap, ◌∙◌, subst, arith, drop, slice_index_or, slice_set}
use Rattle.std.proofs.lemmas.Bool.{eqb-true, eq-eqb}
use Rattle.script_model.specs.declared.command.ScriptCommand.{ScriptCommand}
use Rattle.script_model.specs.Bounds.{pace}
use Rattle.script_model.specs.Errors.{behind_hold}
use Rattle.script_model.specs.Events.{Event, running}
use Rattle.std.specs.Prelude.{◌&&◌, ◌||◌, not}
use Rattle.script_links.specs.Links.{AreHeld, AreLinked, HoldFor, IsLinkAt, is_any_held, links_of}
use Rattle.script_links.specs.Shown.{has_free}
use Rattle.script_links.specs.declared.links.Link.{Link}
use Rattle.script_links.proofs.Paces.{any_at}
use Rattle.script_links.proofs.Shown.{linked_at}

-- ---- both are so

pub both_later : (b c : Bool) → (b && c) ≡ true → c ≡ true
both_later true c is = is
both_later false c is = absurd (cc)

-- ---- lists of links

-- the links from a place on, and from the next one on
pub links_from : (s : ℕ) (ls : List Link) (place : ℕ) (d : Link) → place < length ls
    → links_of s (drop place ls) ≡ links_of s (drop (place + 1) ls)
    + (if (slice_index_or ls place d).inc == s then 1 else 0)
links_from s [] place d within = absurd (omega (arith, within))
links_from s (l ∷ ls) zero d within = refl
links_from s (l ∷ ls) (suc place) d within = let next : suc place + 1 ≡ suc (place + 1) = omega arith in
    rw next (links_from s ls place d (omega (arith, within)))

pub none_from : (s : ℕ) (ls : List Link) (place : ℕ) → length ls ≤ place → links_of s (drop place ls) ≡ 0
none_from s [] zero past = refl
none_from s [] (suc place) past = refl
none_from s (l ∷ ls) zero past = absurd (omega (arith, past))
none_from s (l ∷ ls) (suc place) past = none_from s ls place (omega (arith, past))

-- another server's link adds none
pub not_this : (s : ℕ) (l : Link) (n : ℕ) → (l.inc ≡ s → ⊥) → n + (if l.inc == s then 1 else 0) ≡ n
not_this s l n other = none (l.inc == s) n (λ is. other (eqb-true l.inc s is))
  where
    none : (b : Bool) (k : ℕ) → (b ≡ true → ⊥) → k + (if b then 1 else 0) ≡ k
    none true k never = absurd (never refl)
    none false k never = omega arith

-- the server of the link at a place
pub server_at : (ls : List Link) (place inc : ℕ) (l : Link) → place < length ls → l ≡ slice_index_or ls place l
    → IsLinkAt ls place inc → l.inc ≡ inc
server_at ls place inc l within is at = ap (λ (x : Link). x.inc)
    (is ∙ any_at ls place l at.link within ∙ sym at.stands) ∙ at.server

-- it has a link
pub linked_there : (inc : ℕ) (ls : List Link) (place : ℕ) → place < length ls → IsLinkAt ls place inc
    → 1 ≤ links_of inc ls
linked_there inc ls place within at = linked_at inc ls place at.link within
    (ap (λ (x : Link). x.inc) (sym at.stands) ∙ at.server)

-- its link was made anew
pub cut_anew : {D : Type 0} (es : List (Event D)) (inc : ℕ) (ls : List Link) (place : ℕ) → IsLinkAt ls place inc
    → ((d : Link) → 1 ≤ (pace (slice_index_or ls place d).inc es).links) → 1 ≤ (pace inc es).links
cut_anew es inc ls place at anew = subst (λ (i : ℕ). 1 ≤ (pace i es).links)
    (ap (λ (x : Link). x.inc) (sym at.stands) ∙ at.server) (anew at.link)

-- ---- what holds

linked_here : (l : Link) (ls : List Link) → 1 ≤ links_of l.inc (l ∷ ls)
linked_here l ls = linked_at l.inc (l ∷ ls) 0 l (omega arith) refl

linked_too : (b : Bool) (n : ℕ) → 1 ≤ n → 1 ≤ n + (if b then 1 else 0)
linked_too true n some = omega (arith, some)
linked_too false n some = omega (arith, some)

-- the same of servers that have links
pub hold_same : (f g : ℕ → Bool) (ls : List Link) → ((s : ℕ) → 1 ≤ links_of s ls → f s ≡ g s) → HoldFor f ls
    → HoldFor g ls
hold_same f g [] same hold = tt
hold_same f g (l ∷ ls) same hold = (
  hold.0 ∙ same l.inc (linked_here l ls),
  hold_same f g ls
      (λ s some. same s (linked_too (l.inc == s) (links_of s ls) some)) hold.1,
)

-- a link that holds nothing comes behind the others
hold_end : (f : ℕ → Bool) (ls : List Link) (l : Link) → l.held ≡ false → f l.inc ≡ false → HoldFor f ls
    → HoldFor f (ls ++ l ∷ [])
hold_end f [] l free none hold = (free ∙ sym none, tt)
hold_end f (x ∷ xs) l free none hold = (hold.0, hold_end f xs l free none hold.1)

none_first : (b : Bool) (n m : ℕ) → (n ≡ 0 → m ≡ 0) → n + (if b then 1 else 0) ≡ 0 → m + (if b then 1 else 0) ≡ 0
none_first true n m first none = absurd (omega (arith, none))
none_first false n m first none = let all : n ≡ 0 = omega (arith, none) in let some = first all in omega (arith, some)

none_before : (s : ℕ) (ls : List Link) (l : Link) → links_of s (ls ++ l ∷ []) ≡ 0 → links_of s ls ≡ 0
none_before s [] l none = refl
none_before s (x ∷ xs) l none = none_first (x.inc == s) (links_of s (xs ++ l ∷ [])) (links_of s xs)
    (none_before s xs l) none

-- a server that had no link gets one
pub held_with : (f : ℕ → Bool) (ls new : List Link) (l : Link) (inc : ℕ) → l.held ≡ false → l.inc ≡ inc
    → links_of inc ls ≡ 0 → new ≡ ls ++ l ∷ [] → AreHeld f ls → AreHeld f new
held_with f ls new l inc free server none is held = subst (λ (all : List Link). AreHeld f all) (sym is) (record {
  each = hold_end f ls l free (ap f server ∙ held.none inc none) held.each;
  none = λ s without. held.none s (none_before s ls l without);
})

pub held_same : (f : ℕ → Bool) (ls new : List Link) → new ≡ ls → AreHeld f ls → AreHeld f new
held_same f ls new is held = subst (λ (all : List Link). AreHeld f all) (sym is) held

held_here : (f : ℕ → Bool) (l : Link) (ls : List Link) (b : Bool) → l.held ≡ b → (b || is_any_held ls) ≡ true
    → HoldFor f (l ∷ ls) → (is_any_held ls ≡ true → (server : ℕ) × (1 ≤ links_of server ls) × (f server ≡ true))
    → (server : ℕ) × (1 ≤ links_of server (l ∷ ls)) × (f server ≡ true)
held_here f l ls true held any hold later = (l.inc, linked_here l ls, sym hold.0 ∙ held)
held_here f l ls false held any hold later = let more = later any in let some = more.1 in
    (more.0, omega (arith, some), more.2)

-- a server of which this is true, as one of its links is held
pub some_held : (f : ℕ → Bool) (ls : List Link) → is_any_held ls ≡ true → HoldFor f ls → (server : ℕ)
    × (1 ≤ links_of server ls) × (f server ≡ true)
some_held f [] is hold = absurd (cc)
some_held f (l ∷ ls) is hold = held_here f l ls l.held refl is hold (λ any. some_held f ls any hold.1)

-- none of these links is held
free_first : (b c : Bool) → (b || c) ≡ false → b ≡ false
free_first true c is = absurd (cc)
free_first false c is = refl

free_later : (b c : Bool) → (b || c) ≡ false → c ≡ false
free_later true c is = absurd (cc)
free_later false c is = is

free_here : (f : ℕ → Bool) (l : Link) (s n : ℕ) (b : Bool) → (l.inc == s) ≡ b → l.held ≡ false → l.held ≡ f l.inc
    → 1 ≤ n + (if b then 1 else 0) → (1 ≤ n → f s ≡ false) → f s ≡ false
free_here f l s n true is free held some later = ap f (sym (eqb-true l.inc s is)) ∙ sym held ∙ free
free_here f l s n false is free held some later = later (omega (arith, some))

pub none_held : (f : ℕ → Bool) (ls : List Link) (s : ℕ) → is_any_held ls ≡ false → HoldFor f ls → 1 ≤ links_of s ls
    → f s ≡ false
none_held f [] s free hold some = absurd (omega (arith, some))
none_held f (l ∷ ls) s free hold some =
    free_here f l s (links_of s ls) (l.inc == s) refl (free_first l.held (is_any_held ls) free) hold.0 some
    (none_held f ls s (free_later l.held (is_any_held ls) free) hold.1)

-- where no link is held, and none of a server is free, it has no link
pub none_linked : (s : ℕ) (ls : List Link) → is_any_held ls ≡ false → has_free s ls ≡ false → links_of s ls ≡ 0
none_linked s [] free none = refl
none_linked s (l ∷ ls) free none = step (l.inc == s) l.held (is_any_held ls) (has_free s ls) (links_of s ls) free
    none (none_linked s ls)
  where
    step : (a held b c : Bool) (n : ℕ) → (held || b) ≡ false → ((a && not held) || c) ≡ false
        → (b ≡ false → c ≡ false → n ≡ 0) → n + (if a then 1 else 0) ≡ 0
    step a true b c n free none rest = absurd (cc)
    step true false b c n free none rest = absurd (cc)
    step false false b c n free none rest = let zeros = rest free none in omega (arith, zeros)

-- ---- holding and releasing

-- the same number, tested the other way round
turned : (a b : ℕ) → (a == b) ≡ true → (b == a) ≡ true
turned a b is = eq-eqb b a (sym (eqb-true a b is))

none_besides : (b : Bool) (n : ℕ) → b ≡ true → n + (if b then 1 else 0) ≤ 1 → n ≡ 0
none_besides true n this few = omega (arith, few)
none_besides false n this few = absurd (cc)

fewer : (b : Bool) (n : ℕ) → n + (if b then 1 else 0) ≤ 1 → n ≤ 1
fewer true n few = omega (arith, few)
fewer false n few = omega (arith, few)

one_alone : (b : Bool) (n : ℕ) → b ≡ true → n + (if b then 1 else 0) ≤ 1 → 1 ≤ n → ⊥
one_alone true n this few some = omega (arith, few, some)
one_alone false n this few some = absurd (cc)

this_one : (b to held : Bool) → b ≡ true → to ≡ (if b then to else held)
this_one true to held is = refl
this_one false to held is = absurd (cc)

other_one : (b to held : Bool) → (b ≡ true → ⊥) → held ≡ (if b then to else held)
other_one true to held never = absurd (never refl)
other_one false to held never = refl

not_linked : (inc s : ℕ) (ls : List Link) → links_of inc ls ≡ 0 → 1 ≤ links_of s ls → (inc == s) ≡ true → ⊥
not_linked inc s ls none some is = let zeros : links_of s ls ≡ 0 =
    ap (λ (n : ℕ). links_of n ls) (sym (eqb-true inc s is)) ∙ none in omega (arith, some, zeros)

-- a server without a link is held or released
pub set_none : (f : ℕ → Bool) (inc : ℕ) (to : Bool) (ls : List Link) → links_of inc ls ≡ 0 → HoldFor f ls
    → HoldFor (λ s. if inc == s then to else f s) ls
set_none f inc to ls none hold = hold_same f (λ s. if inc == s then to else f s) ls
    (λ s some. other_one (inc == s) to (f s) (not_linked inc s ls none some)) hold

-- a server with one link
set_one : (f : ℕ → Bool) (inc : ℕ) (to : Bool) (ls : List Link) (place : ℕ) (l d : Link) → place < length ls
    → (slice_index_or ls place d).inc ≡ inc → l.inc ≡ inc → l.held ≡ to → links_of inc ls ≤ 1 → HoldFor f ls
    → HoldFor (λ s. if inc == s then to else f s) (slice_set ls place l)
set_one f inc to [] place l d within was same is few hold = absurd (omega (arith, within))
set_one f inc to (x ∷ xs) zero l d within was same is few hold = (
  is ∙ this_one (inc == l.inc) to (f l.inc) (eq-eqb inc l.inc (sym same)),
  set_none f inc to xs (none_besides (x.inc == inc) (links_of inc xs) (eq-eqb x.inc inc was) few) hold.1,
)
set_one f inc to (x ∷ xs) (suc place) l d within was same is few hold =
    let inside : place < length xs = omega (arith, within) in (
      hold.0 ∙ other_one (inc == x.inc) to (f x.inc)
          (λ this. one_alone (x.inc == inc) (links_of inc xs) (turned inc x.inc this) few
          (linked_at inc xs place d inside was)),
      set_one f inc to xs place l d inside was same is (fewer (x.inc == inc) (links_of inc xs) few) hold.1,
    )

pub hold_this : (f : ℕ → Bool) (inc : ℕ) (ls : List Link) (place : ℕ) (l : Link) → place < length ls
    → l ≡ slice_index_or ls place l → l.inc ≡ inc → links_of inc ls ≤ 1 → HoldFor f ls
    → HoldFor (λ s. if inc == s then true else f s) (slice_set ls place (record l { held = true }))
hold_this f inc ls place l within is same few hold = set_one f inc true ls place (record l { held = true }) l within
    (ap (λ (x : Link). x.inc) (sym is) ∙ same) same refl few hold

pub let_go_holds : {D : Type 0} (f : ℕ → Bool) (es : List (Event D)) (ls new : List Link) (place inc : ℕ) (l : Link)
    → place < length ls → IsLinkAt ls place inc → ((s : ℕ) → running s es ≤ 1) → AreLinked es ls
    → new ≡ slice_set ls place (record (slice_index_or ls place l) { held = false; waiting = [] }) → HoldFor f ls
    → HoldFor (λ s. if inc == s then false else f s) new
let_go_holds f es ls new place inc l within at single linked set hold =
    let few = single inc in
    let all = linked inc in
    let same : (slice_index_or ls place l).inc ≡ inc =
    ap (λ (x : Link). x.inc) (any_at ls place l at.link within ∙ sym at.stands) ∙ at.server in
    subst (λ (now : List Link). HoldFor (λ s. if inc == s then false else f s) now) (sym set)
    (set_one f inc false ls place (record (slice_index_or ls place l) { held = false; waiting = [] }) l within same
    same refl (omega (arith, few, all)) hold)

-- ---- commands

-- the command that it is
pub as_command : (f : ℕ → Bool) (c is_it : ScriptCommand) (ls : List Link) → is_it ≡ c
    → HoldFor (λ s. behind_hold c s (f s)) ls → HoldFor (λ s. behind_hold is_it s (f s)) ls
as_command f c is_it ls is hold = subst (λ (x : ScriptCommand). HoldFor (λ s. behind_hold x s (f s)) ls) (sym is) hold
