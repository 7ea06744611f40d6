-- Crashes one after another, from a commit on.
use Rattle.std.specs.Prelude.{ℕ, List}
use Rattle.store_model.specs.Crash.{StaysIn}
use Rattle.store_model.specs.Image.{Image}
use Rattle.store_model.specs.Store.{IsBeforeOrAfter, StandsAsOneOf}

-- A disk as a crash leaves it at some moment of a call, between these two: what a further crash may leave of it is what
-- the first one might have left. It may be synced whole, or have writes pending still.
abbrev pub IsCrashOf : {D : Type 0} (may_leave : D → Image → Type 0) (moment : D → ℕ)
    (left_since : D → ℕ → Image → Type 0) (before after found : D) → Type 0
IsCrashOf may_leave moment left_since before after found = (c : Image) → may_leave found c
    → left_since after (moment before) c

-- A disk that a commit left which crashed, or after it any number of opens that crashed, each on what the crash before
-- had left. The commit was to put the new document in the place of the old one. What a call leaves at any moment is
-- said as the clauses of `commit` and `open` say it.
pub data Crashed {D : Type 0} (may_leave : D → Image → Type 0) (moment : D → ℕ)
    (left_since : D → ℕ → Image → Type 0) (old new : List ℕ) : D → Type 0 where
  in_commit : (before after found : D) → StaysIn may_leave moment left_since before after (IsBeforeOrAfter old new)
      → IsCrashOf may_leave moment left_since before after found
      → Crashed may_leave moment left_since old new found
  in_open : (before after found : D) → Crashed may_leave moment left_since old new before
      → StaysIn may_leave moment left_since before after (StandsAsOneOf (may_leave before))
      → IsCrashOf may_leave moment left_since before after found → Crashed may_leave moment left_since old new found

-- whatever a crash at some moment of a call between these two disks leaves is such a disk
abbrev pub LeavesCrashed : {D : Type 0} (may_leave : D → Image → Type 0) (moment : D → ℕ)
    (left_since : D → ℕ → Image → Type 0) (before after : D) → List ℕ → List ℕ → Type 0
LeavesCrashed {D = D} may_leave moment left_since before after old new = (found : D)
    → IsCrashOf may_leave moment left_since before after found → Crashed may_leave moment left_since old new found
