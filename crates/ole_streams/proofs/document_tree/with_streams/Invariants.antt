use Rattle.std.proofs.Common.{ℕ, ◌≡◌, length}
use Rattle.ole_model.specs.DocTree.{with_streams}
use Rattle.cfb_entries.specs.Tree.{none}
use Rattle.tree_storage.specs.View.{children}
use Rattle.cfb_entries.specs.Whole.{AreTrees}
use Rattle.ole_streams.proofs.document_tree.with_streams.Given as goal

abbrev pub invariant-loop-stream : goal.invariant-loop-stream
invariant-loop-stream l = record {
  value : with_streams l.streams.items (children l.entries.entries) ≡ with_streams l.fn.streams.items none;
  whole : (depth : ℕ) → AreTrees depth (children l.entries.entries);
}

abbrev pub decreases-loop-stream : goal.decreases-loop-stream
decreases-loop-stream l = length l.streams.items
