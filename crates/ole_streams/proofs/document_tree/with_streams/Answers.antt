use Rattle.std.proofs.Common.{ap, sym, ◌∙◌}
use Rattle.tree_storage.specs.View.{children}
use Rattle.ole_model.specs.DocTree.{with_streams}
use Rattle.ole_streams.proofs.Writing.{with_streams-last}
use Rattle.ole_streams.proofs.document_tree.with_streams.Goals as goal

pub loop-stream-preserved : goal.loop-stream-preserved
loop-stream-preserved c = record {
  value = ap (with_streams c.pop.new.self.items) c.in_ok-place_stream.ensures.value
      ∙ sym (with_streams-last c.pop.new.self.items c.in-Some.stream (children c.loop-stream.entries.entries))
      ∙ ap (λ ss. with_streams ss (children c.loop-stream.entries.entries)) (sym c.in-Some.ensures.items)
      ∙ c.loop-stream.invariant.value;
  whole = λ depth. c.in_ok-place_stream.ensures.whole depth (c.loop-stream.invariant.whole depth);
}
