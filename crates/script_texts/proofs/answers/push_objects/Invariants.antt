use Rattle.std.proofs.Common.{◌≡◌, ◌++◌}
use Rattle.script_model.specs.Answers.{objects_from}
use Rattle.script_texts.proofs.answers.push_objects.Given as goal

abbrev pub invariant-loop-place : goal.invariant-loop-place
invariant-loop-place l = l.text.items ≡ l.initial.text.items ++ objects_from l.first l.place
