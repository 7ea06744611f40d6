use Rattle.std.proofs.Common.{◌≡◌, IsOk, []}
use Rattle.tree_storage.specs.View.{children}
use Rattle.ole_model.specs.DocOf.{streams_behind}
use Rattle.ole_streams.specs.Begun.{first_stream}
use Rattle.ole_streams.proofs.document_of.streams_of.Given as goal

abbrev pub invariant-loop-name : goal.invariant-loop-name
invariant-loop-name l = record {
  value : streams_behind l.streams (children l.name-iterator) ≡ streams_behind [] (children l.fn.entries.entries);
  first : IsOk (first_stream (children l.name-iterator)) → IsOk (first_stream (children l.fn.entries.entries));
}
