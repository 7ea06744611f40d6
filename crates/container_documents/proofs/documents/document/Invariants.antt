use Rattle.std.proofs.Common.{◌≡◌, ◌++◌, drop}
use Rattle.container_model.specs.Saves.{held_parts}
use Rattle.container_documents.proofs.documents.document.Given as goal

abbrev pub invariant-loop-part : goal.invariant-loop-part
invariant-loop-part l = record {
  session : l.doc.session ≡ l.session;
  objects : l.doc.objects ++ held_parts (drop l.part-index l.parts) ≡ held_parts l.parts;
}
