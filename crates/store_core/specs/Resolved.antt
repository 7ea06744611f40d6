-- How a commit ends whose disk is opened again after an error.
use Rattle.std.specs.Prelude.{◌≡◌, ◌≢◌, ◌⊎◌, ℕ, List, Bool, true, ⊤}
use Rattle.store_model.specs.Crash.{Rose}
use Rattle.store_model.specs.Image.{Image}
use Rattle.store_model.specs.Store.{CommitRefuses, IsBeforeOrAfter}
use Rattle.store_model.specs.declared.fault.StoreFault.{StoreFault}
use Rattle.store_model.specs.declared.fault.StoreFault.TheVariants.{Device, NeedsReopen, TooBig, Damaged, NoMemory}
use Rattle.store_core.specs.declared.outcome.Outcome.{Outcome}
use Rattle.store_core.specs.declared.outcome.Outcome.TheVariants.{Kept, Lost}

-- a document is one of two
abbrev pub IsEither : List ℕ → List ℕ → List ℕ → Type 0
IsEither old new document = (document ≡ old) ⊎ (document ≡ new)

-- whatever a crash now leaves stands for one of two documents
abbrev pub LeavesEither : {D : Type 0} (may_leave : D → Image → Type 0) (disk : D) → List ℕ → List ℕ → Type 0
LeavesEither may_leave disk old new = (c : Image) → may_leave disk c → IsBeforeOrAfter old new c

-- the outcome tells whether the document is these bytes
abbrev pub IsTold : Outcome → List ℕ → List ℕ → Type 0
IsTold Kept bytes document = document ≡ bytes
IsTold (Lost fault) bytes document = document ≢ bytes

-- a lost commit is told with this fault
abbrev pub IsLostFor : StoreFault → Outcome → Type 0
IsLostFor first Kept = ⊤
IsLostFor first (Lost fault) = fault ≡ first

-- what the document is then, of a store whose document was known
abbrev pub Ends : Outcome → (old bytes document : List ℕ) → Type 0
Ends Kept old bytes document = document ≡ bytes
Ends (Lost fault) old bytes document = (document ≢ bytes) × (document ≡ old)

-- a lost commit is told with its own fault, when `commit` refuses with it
abbrev pub LostAs : Outcome → ℕ → Bool → ℕ → ℕ → Type 0
LostAs Kept size was before after = ⊤
LostAs (Lost fault) size was before after = CommitRefuses size was true before after fault

-- When the disk isn't opened again, with each fault. An open journal that is damaged a commit never leaves.
abbrev pub ReopenRefuses : Type 0 → Bool → ℕ → ℕ → StoreFault → Type 0
ReopenRefuses model was before after Device = Rose before after
ReopenRefuses model was before after NeedsReopen = ⊥
ReopenRefuses model was before after TooBig = ⊥
ReopenRefuses model was before after Damaged = model → was ≡ true
ReopenRefuses model was before after NoMemory = ⊥
