-- Names that are spelled as they are.
use Rattle.std.proofs.Common.{◌≡◌, ◌||◌, ℕ, Bool, true, false, not, List, [], ◌∷◌, Some, None, nat_eq, if◌then◌else◌}
use Rattle.std.proofs.Common.{refl, ◌∙◌, ap}
use Rattle.std.specs.List.{list_any}
use Rattle.text_spelling.specs.Paths.{hidden_byte, is_escaped, name_read, plain_byte}
use Rattle.text_spelling.specs.Words.{is_hidden, lower_digit, onto, pair_value}

left : (a b : Bool) → (a || b) ≡ false → a ≡ false
left true b h = absurd (cc h)
left false b h = refl

right : (a b : Bool) → (a || b) ≡ false → b ≡ false
right true b h = absurd (cc h)
right false b h = h

itself : (c : ℕ) (cs : List ℕ) → is_escaped c ≡ false → onto (plain_byte c) (Some cs) ≡ Some (c ∷ cs)
itself c cs h = ap (λ b. onto (if b then None else Some c) (Some cs)) h

pub plain_read : (part : List ℕ) → list_any is_escaped part ≡ false → name_read part ≡ Some part
plain_read [] h = refl
plain_read (c ∷ []) h = itself c [] (left (is_escaped c) false h)
plain_read (c ∷ d ∷ []) h =
    let rest : name_read (d ∷ []) ≡ Some (d ∷ []) =
    plain_read (d ∷ []) (right (is_escaped c) (list_any is_escaped (d ∷ [])) h) in
    ap (λ r. onto (plain_byte c) r) rest ∙ itself c (d ∷ []) (left (is_escaped c) (list_any is_escaped (d ∷ [])) h)
plain_read (c ∷ d ∷ e ∷ cs) h =
    let here : is_escaped c ≡ false = left (is_escaped c) (list_any is_escaped (d ∷ e ∷ cs)) h in
    let no : nat_eq c 92 ≡ false = right (is_hidden c) (nat_eq c 92) here in
    let rest : name_read (d ∷ e ∷ cs) ≡ Some (d ∷ e ∷ cs) =
    plain_read (d ∷ e ∷ cs) (right (is_escaped c) (list_any is_escaped (d ∷ e ∷ cs)) h) in
    ap (λ (b : Bool). if b then onto (hidden_byte (pair_value (lower_digit d) (lower_digit e))) (name_read cs)
    else onto (plain_byte c) (name_read (d ∷ e ∷ cs))) no
    ∙ ap (λ r. onto (plain_byte c) r) rest
    ∙ itself c (d ∷ e ∷ cs) here

pub off : (b : Bool) → not b ≡ true → b ≡ false
off true h = absurd (cc h)
off false h = refl
