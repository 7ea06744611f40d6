-- What is settled where a script ends well.
use Rattle.std.specs.Prelude.{◌≡◌, ℕ, true, false, List}
use Rattle.script_model.specs.Containers.{record_of}
use Rattle.script_model.specs.Errors.{is_asked}
use Rattle.script_model.specs.Events.{Event, running}
use Rattle.script_model.specs.Saved.{is_any_unsaved}

-- No call is pending of a server that runs: each that was made of one is answered. And no frame's file is to be
-- committed, or in doubt: the container is told what became of each commit that it asked for.
pub record IsSettled {D : Type 0} (es : List (Event D)) : Type 0 where
  pub answered : (s : ℕ) → is_asked s (record_of es).objects ≡ true → running s es ≡ 0
  pub saved : is_any_unsaved (record_of es).frames ≡ false
