-- A disk at rest, whose journal is closed or empty.
use Rattle.std.specs.Prelude.{◌≡◌, ◌≢◌, ℕ, List, get_or}
use Rattle.store_model.specs.Image.{Image}
use Rattle.store_model.specs.declared.journal.TheConstants.{OPEN}

-- No open gate is there: byte 0 of the journal is another one, or the journal is empty. Either stands for the document
-- as it is.
abbrev pub IsShut : List ℕ → Type 0
IsShut journal = get_or journal 0 0 ≢ OPEN

-- The disk is at rest: a crash leaves what reads give, and no gate is open there.
pub record IsAtRest {D : Type 0} (reads : D → Image) (may_leave : D → Image → Type 0) (disk : D) : Type 0 where
  pub durable : (c : Image) → may_leave disk c → c ≡ reads disk
  pub shut : IsShut (reads disk).journal
