-- What holds of an opened store, and what a crash leaves of it.
use Rattle.std.specs.Prelude.{◌≡◌, ◌≢◌, ◌⊎◌, ◌<◌, ◌≤◌, ℕ, List, length, get_or, Bool, true, false, Some, None, ⊤}
use Rattle.store_model.specs.Crash.{Rose}
use Rattle.store_model.specs.Image.{Image}
use Rattle.store_model.specs.Journal.{restored}
use Rattle.store_model.specs.declared.fault.StoreFault.{StoreFault}
use Rattle.store_model.specs.declared.fault.StoreFault.TheVariants.{Device, NeedsReopen, TooBig, Damaged, NoMemory}
use Rattle.store_model.specs.declared.journal.TheConstants.{OPEN}
use Rattle.store_model.specs.declared.limit.TheConstants.{MAX_DOCUMENT}

-- byte 0 of the journal is there, and it isn't an open gate
pub record IsClosed (journal : List ℕ) : Type 0 where
  pub there : 0 < length journal
  pub shut : get_or journal 0 0 ≢ OPEN

-- The disk is at rest: a crash leaves what reads give, and the journal's gate is closed there.
pub record Rests {D : Type 0} (reads : D → Image) (may_leave : D → Image → Type 0) (disk : D) : Type 0 where
  pub durable : (c : Image) → may_leave disk c → c ≡ reads disk
  pub closed : IsClosed (reads disk).journal

-- the image stands for this document
abbrev pub StandsFor : List ℕ → Image → Type 0
StandsFor document image = restored image ≡ Some document

-- the image stands for the old document or for the new one
abbrev pub IsBeforeOrAfter : List ℕ → List ℕ → Image → Type 0
IsBeforeOrAfter old new image = StandsFor old image ⊎ StandsFor new image

-- the image stands for what one of these images stands for
abbrev pub StandsAsOneOf : (Image → Type 0) → Image → Type 0
StandsAsOneOf outcomes image = (d : Image) × outcomes d × (restored image ≡ restored d)

-- When `open` refuses with each fault, by what reads gave and the count of failures before and after. Of images it
-- is said where the disk follows the model.
abbrev pub OpenRefuses : Type 0 → Image → ℕ → ℕ → StoreFault → Type 0
OpenRefuses model image before after Device = Rose before after
OpenRefuses model image before after NeedsReopen = ⊥
OpenRefuses model image before after TooBig = ⊥
OpenRefuses model image before after Damaged = model → restored image ≡ None
OpenRefuses model image before after NoMemory = ⊥

-- When `current` refuses with each fault: `was` and `now` say whether the store had and has to be opened again.
abbrev pub CurrentRefuses : Bool → Bool → ℕ → ℕ → StoreFault → Type 0
CurrentRefuses was now before after Device = (was ≡ false) × (now ≡ true) × Rose before after
CurrentRefuses was now before after NeedsReopen = was ≡ true
CurrentRefuses was now before after TooBig = ⊥
CurrentRefuses was now before after Damaged = ⊥
CurrentRefuses was now before after NoMemory = (was ≡ false) × (now ≡ false)

-- When `holds` refuses with each fault.
abbrev pub HoldsRefuses : Bool → Bool → ℕ → ℕ → StoreFault → Type 0
HoldsRefuses was now before after Device = (was ≡ false) × (now ≡ true) × Rose before after
HoldsRefuses was now before after NeedsReopen = was ≡ true
HoldsRefuses was now before after TooBig = ⊥
HoldsRefuses was now before after Damaged = ⊥
HoldsRefuses was now before after NoMemory = ⊥

-- When the document isn't read, with each fault.
abbrev pub ReadRefuses : ℕ → ℕ → StoreFault → Type 0
ReadRefuses before after Device = Rose before after
ReadRefuses before after NeedsReopen = ⊥
ReadRefuses before after TooBig = ⊥
ReadRefuses before after Damaged = ⊥
ReadRefuses before after NoMemory = ⊤

-- When `commit` of so many bytes refuses with each fault.
abbrev pub CommitRefuses : ℕ → Bool → Bool → ℕ → ℕ → StoreFault → Type 0
CommitRefuses size was now before after Device = (was ≡ false) × (size ≤ MAX_DOCUMENT) × (now ≡ true)
    × Rose before after
CommitRefuses size was now before after NeedsReopen = was ≡ true
CommitRefuses size was now before after TooBig = (was ≡ false) × (MAX_DOCUMENT < size)
CommitRefuses size was now before after Damaged = ⊥
CommitRefuses size was now before after NoMemory = ⊥

-- where the refusal is none of the device's
abbrev pub UnlessDevice : Type 0 → StoreFault → Type 0
UnlessDevice fact Device = ⊤
UnlessDevice fact NeedsReopen = fact
UnlessDevice fact TooBig = fact
UnlessDevice fact Damaged = fact
UnlessDevice fact NoMemory = fact
