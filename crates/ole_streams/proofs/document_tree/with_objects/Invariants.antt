use Rattle.std.proofs.Common.{◌≡◌, ◌≤◌, length}
use Rattle.ole_model.specs.DocTree.{with_objects}
use Rattle.ole_streams.specs.Docs.{AreHeld}
use Rattle.cfb_entries.specs.Tree.{none}
use Rattle.tree_storage.specs.View.{children}
use Rattle.cfb_entries.specs.Whole.{AreTrees}
use Rattle.ole_streams.proofs.document_tree.with_objects.Given as goal

abbrev pub invariant-loop-object : goal.invariant-loop-object
invariant-loop-object l = record {
  value : with_objects 1 l.objects.items (children l.entries.entries) ≡ with_objects 1 l.fn.objects.items none;
  whole : AreTrees 32 (children l.entries.entries);
  few : length l.objects.items ≤ 64;
  within : AreHeld l.objects.items;
}

abbrev pub decreases-loop-object : goal.decreases-loop-object
decreases-loop-object l = length l.objects.items
