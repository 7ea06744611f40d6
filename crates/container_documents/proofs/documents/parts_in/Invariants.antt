use Rattle.std.proofs.Common.{◌≡◌, ◌++◌, drop}
use Rattle.container_model.specs.Saves.{parts_in}
use Rattle.container_documents.proofs.documents.parts_in.Given as goal

abbrev pub invariant-loop-object : goal.invariant-loop-object
invariant-loop-object l = l.parts.items ++ parts_in l.f (drop l.object-index l.objects) ≡ parts_in l.f l.objects
