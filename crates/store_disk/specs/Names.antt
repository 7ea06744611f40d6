-- What stands under the names of a document's files, and what that says of the document.
use Rattle.std.specs.Prelude.{ℕ, Bool, false, true, Result, OnOk, IsErr, ◌≡◌, ◌≤◌}
use Rattle.std.specs.declared.io.Error.{Error}
use Rattle.store_model.specs.Crash.{Rose}
use Rattle.store_disk.specs.declared.names.Beside.{Beside}
use Rattle.store_disk.specs.declared.names.Beside.TheVariants.{Nothing, Shut, Open}
use Rattle.store_disk.specs.declared.names.Standing.{Standing}
use Rattle.store_disk.specs.declared.names.Standing.TheVariants.{Missing, Empty, Taken}

-- an open journal, which holds a document
abbrev pub is_open : Beside → Bool
is_open Nothing = false
is_open Shut = false
is_open Open = true

-- a journal, or what else bears its name
abbrev pub is_beside : Beside → Bool
is_beside Nothing = false
is_beside Shut = true
is_beside Open = true

-- whether there is a document: something bears its name, or an open journal holds it
abbrev pub is_there : Standing → Beside → Bool
is_there Missing beside = is_open beside
is_there Empty beside = true
is_there Taken beside = true

-- whether there is one that may have bytes: a file without any has none where no journal stands beside it
abbrev pub is_filled : Standing → Beside → Bool
is_filled Missing beside = is_open beside
is_filled Empty beside = is_beside beside
is_filled Taken beside = true

-- a call that fails is counted, and no other
pub record CountsCalls {T : Type 0} (before now : ℕ) (result : Result T Error) : Type 0 where
  pub later : before ≤ now
  pub on_failure : IsErr result → Rose before now
  pub else_same : OnOk result (now ≡ before)
