use Rattle.std.proofs.Common.{◌≡◌, ◌++◌, drop}
use Rattle.ole_streams.proofs.doc.Doc.copy.Given as goal

abbrev pub invariant-loop-object : goal.invariant-loop-object
invariant-loop-object l = l.objects.items ++ drop l.object-index l.object-items ≡ l.object-items
