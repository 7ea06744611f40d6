-- What any chain of crashes leaves.
use Rattle.std.proofs.Common.{◌≡◌, inl, inr, ⊎_elim, ℕ, List, Some, sym, ◌∙◌}
use Rattle.store_model.specs.Crash.{StaysIn}
use Rattle.store_model.specs.Image.{Image}
use Rattle.store_model.specs.Journal.{restored}
use Rattle.store_model.specs.Store.{IsBeforeOrAfter, StandsAsOneOf}
use Rattle.store_core.specs.Crashes.{Crashed, LeavesCrashed}
use Rattle.store_core.specs.Crashes.Crashed.{in_commit, in_open}
use Rattle.store_core.specs.Resolved.{IsEither, LeavesEither}

-- what stands for what one of some images stands for, where each of these stands for one of two documents
pub stands_on : (outcomes : Image → Type 0) (old new : List ℕ)
    → ((d : Image) → outcomes d → IsBeforeOrAfter old new d) → (c : Image) → StandsAsOneOf outcomes c
    → IsBeforeOrAfter old new c
stands_on outcomes old new each c is = ⊎_elim (λ was. inl (is.2 ∙ was)) (λ now. inr (is.2 ∙ now)) (each is.0 is.1)

module _ {D : Type 0} (may_leave : D → Image → Type 0) (moment : D → ℕ) (left_since : D → ℕ → Image → Type 0)
    (old new : List ℕ) where
  pub leaves_either : (disk : D) → Crashed may_leave moment left_since old new disk
      → LeavesEither may_leave disk old new
  leaves_either disk (in_commit before after _ run found) = λ c left. run.any_moment.each c (found c left)
  leaves_either disk (in_open before after _ so_far run found) =
      λ c left. stands_on (may_leave before) old new (leaves_either before so_far) c
      (run.any_moment.each c (found c left))

  -- a crash of a commit, and one of an open of such a disk
  pub starts : (before after : D) → StaysIn may_leave moment left_since before after (IsBeforeOrAfter old new)
      → LeavesCrashed may_leave moment left_since before after old new
  starts before after run = λ found is. in_commit before after found run is

  pub goes_on : (before after : D) → Crashed may_leave moment left_since old new before
      → StaysIn may_leave moment left_since before after (StandsAsOneOf (may_leave before))
      → LeavesCrashed may_leave moment left_since before after old new
  goes_on before after so_far run = λ found is. in_open before after found so_far run is

-- what is read of such a disk is one of two documents
pub either_is : (old new document : List ℕ) (image : Image) → IsBeforeOrAfter old new image
    → restored image ≡ Some document → IsEither old new document
either_is old new document image is read = ⊎_elim (λ was. inl (same (sym read ∙ was)))
    (λ now. inr (same (sym read ∙ now))) is
  where
    same : {a b : List ℕ} → Some a ≡ Some b → a ≡ b
    same e = cc
