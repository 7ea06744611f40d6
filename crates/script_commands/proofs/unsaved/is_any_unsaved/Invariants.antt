use Rattle.std.proofs.Common.{◌≡◌, drop}
use Rattle.script_model.specs.Saved.{is_any_unsaved}
use Rattle.script_commands.proofs.unsaved.is_any_unsaved.Given as goal

abbrev pub invariant-loop-frame : goal.invariant-loop-frame
invariant-loop-frame l = is_any_unsaved (drop l.frame-index l.core.frames) ≡ is_any_unsaved l.core.frames
