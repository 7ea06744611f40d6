-- Texts that are written piece by piece.
use Rattle.std.proofs.Common.{◌≡◌, ◌++◌, ℕ, List, [], ◌∷◌, length, refl, sym, ap, ◌∙◌, append_assoc, append-nil}
use Rattle.text_worlds.specs.Answers.{or_ok}

three : (a b c d m t k : List ℕ) → b ≡ a ++ m → c ≡ b ++ t → d ≡ c ++ k → d ≡ a ++ (m ++ t ++ k)
three a b c d m t k p q r =
    r ∙ ap (λ x. x ++ k) (q ∙ ap (λ x. x ++ t) p ∙ append_assoc a m t) ∙ append_assoc a (m ++ t) k

longer : (a t : List ℕ) → (length (a ++ t) ≡ length a → ⊥) → or_ok t ≡ t
longer a [] other = absurd (other (ap length (append-nil a)))
longer a (c ∷ cs) other = refl

-- what was written in three pieces is longer than what stood there
pub or_ok-written : (a b c d m t k : List ℕ) → b ≡ a ++ m → c ≡ b ++ t → d ≡ c ++ k → (length d ≡ length a → ⊥)
    → d ≡ a ++ or_ok (m ++ t ++ k)
or_ok-written a b c d m t k p q r other =
    let whole : d ≡ a ++ (m ++ t ++ k) = three a b c d m t k p q r in
    let same : or_ok (m ++ t ++ k) ≡ m ++ t ++ k = longer a (m ++ t ++ k) (λ e. other (ap length whole ∙ e)) in
    whole ∙ ap (λ x. a ++ x) (sym same)
