-- What a crash may make of calls that no sync has followed yet.
use Rattle.std.specs.Prelude.{◌≡◌, ◌<◌, ◌≤◌, ◌⊎◌, ◌+◌, ◌-◌, ◌^◌, ℕ, List, length, take, drop, min, max, Result, IsOk}
use Rattle.std.specs.Prelude.{IsErr}
use Rattle.store_model.specs.Image.{Image}
use Rattle.store_model.specs.declared.area.Area.{Area}
use Rattle.store_model.specs.declared.area.Area.TheVariants.{Document, Journal}
use Rattle.store_model.specs.declared.disk.DiskFailure.{DiskFailure}

-- A write of n bytes at an offset: any bytes in the range and past the old end, bytes outside stay, and any length
-- between the old one and the one that it was to get.
pub record Torn (at n : ℕ) (old new : List ℕ) : Type 0 where
  pub before : take (min at (length old)) new ≡ take at old
  pub after : drop (at + n) new ≡ drop (at + n) old
  pub no_shorter : length old ≤ length new
  pub no_longer : length new ≤ max (length old) (at + n)

-- A cut: some length between, and the bytes up to it stay.
pub record CutShort (size : ℕ) (old new : List ℕ) : Type 0 where
  pub no_shorter : min size (length old) ≤ length new
  pub front : new ≡ take (length new) old

-- a step of one area, while the other stays
abbrev pub InArea : Area → (List ℕ → List ℕ → Type 0) → Image → Image → Type 0
InArea Document step old new = step old.document new.document × (new.journal ≡ old.journal)
InArea Journal step old new = (new.document ≡ old.document) × step old.journal new.journal

-- each new outcome of a crash is an old outcome after a step
abbrev pub Follows : (Image → Image → Type 0) → (Image → Type 0) → (Image → Type 0) → Type 0
Follows step old new = (c : Image) → new c → (d : Image) × old d × step d c

-- each new outcome of a crash was one before
abbrev pub IsWithin : (Image → Type 0) → (Image → Type 0) → Type 0
IsWithin old new = (c : Image) → new c → old c

-- a crash leaves this and nothing else
abbrev pub Only : Image → (Image → Type 0) → Type 0
Only image outcomes = (c : Image) → outcomes c → c ≡ image

-- Time goes on: a crash since t might have left what it might have left before, or what it may leave now.
pub record Elapses (before now : ℕ) (past since : ℕ → Image → Type 0) (outcomes : Image → Type 0) : Type 0 where
  pub later : before ≤ now
  pub nothing_else : (t : ℕ) (c : Image) → t ≤ before → since t c → past t c ⊎ outcomes c
  pub keeps : (t : ℕ) (c : Image) → t ≤ before → past t c → since t c

-- A crash at any moment from old to new leaves an image that has P.
pub record LeavesOnly {D : Type 0} (moment : D → ℕ) (left_since : D → ℕ → Image → Type 0) (old new : D)
    (P : Image → Type 0) : Type 0 where
  pub later : moment old ≤ moment new
  pub each : (c : Image) → left_since new (moment old) c → P c
  -- for a run that began earlier
  pub before : (t : ℕ) (c : Image) → t ≤ moment old → left_since new t c → left_since old t c ⊎ P c

-- From old to new a crash leaves an image that has P, at any moment, and so does one now.
pub record StaysIn {D : Type 0} (may_leave : D → Image → Type 0) (moment : D → ℕ)
    (left_since : D → ℕ → Image → Type 0) (old new : D) (P : Image → Type 0) : Type 0 where
  pub any_moment : LeavesOnly moment left_since old new P
  pub now : (c : Image) → may_leave new c → P c

-- Calls that change no byte: a crash leaves what it could have left before.
abbrev pub Quiet : {D : Type 0} (may_leave : D → Image → Type 0) (moment : D → ℕ)
    (left_since : D → ℕ → Image → Type 0) (old new : D) → Type 0
Quiet may_leave moment left_since old new = StaysIn may_leave moment left_since old new (may_leave old)

-- The count of failures has risen. At its last value it is read as risen.
abbrev pub Rose : ℕ → ℕ → Type 0
Rose before now = (before < now) ⊎ (now ≡ 2 ^ 64 - 1)

-- a call that fails is counted, and no other
pub record Counts {T : Type 0} (before now : ℕ) (result : Result T DiskFailure) : Type 0 where
  pub later : before ≤ now
  pub on_failure : IsErr result → Rose before now
  pub else_same : IsOk result → now ≡ before

-- A call that fails is counted where the disk was to answer it, and no call that answers is. Of one that it wasn't to
-- answer, as past an area's end, nothing is said: the count may rise or not.
pub record CountsOwed {T : Type 0} (owed : Type 0) (before now : ℕ) (result : Result T DiskFailure) : Type 0 where
  pub later : before ≤ now
  pub on_failure : owed → IsErr result → Rose before now
  pub else_same : IsOk result → now ≡ before
