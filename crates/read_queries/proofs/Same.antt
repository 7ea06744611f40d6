-- A tree that a file denotes is told as its tree.
use Rattle.std.proofs.Common.{◌≡◌, Bool, true, false, List, ℕ, rules}
use Rattle.std.proofs.Math.Logic.{∥∥₁_elim}
use Rattle.std.specs.Prelude.{IsTrue}
use Rattle.cfb_entries.specs.Tree.{Tree}
use Rattle.cfb_file.specs.Denotes.{Denotes}
use Rattle.cfb_file.proofs.Unique.{one_tree}

⊥_prop : (a b : ⊥) → a ≡ b
⊥_prop a b = absurd a

false_true : false ≡ true → ⊥
false_true h = search rules

pub told_same : (same : Bool) (file : List ℕ) (a b : Tree) → ∥ Denotes file a ∥₁ → (b ≡ a → same ≡ true)
    → ∥ Denotes file b ∥₁ → IsTrue same
told_same true file a b one told two = search rules
told_same false file a b one told two =
    absurd (∥∥₁_elim one ⊥_prop (λ x. ∥∥₁_elim two ⊥_prop (λ y. false_true (told (one_tree file b a y x)))))
