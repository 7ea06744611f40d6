use Rattle.std.proofs.Common.{◌≡◌, ◌+◌, IsOk, drop}
use Rattle.tree_storage.specs.View.{children}
use Rattle.ole_model.specs.Documents.{no_objects}
use Rattle.ole_model.specs.DocOf.{objects_behind}
use Rattle.ole_streams.specs.Begun.{object_user_type}
use Rattle.ole_streams.proofs.document_of.objects_of.Given as goal

abbrev pub invariant-loop-index : goal.invariant-loop-index
invariant-loop-index l = record {
  value : objects_behind l.doc (l.index + 1) (drop l.index l.areas) (children l.entries.entries)
      ≡ objects_behind (no_objects l.session) 1 l.areas (children l.fn.entries.entries);
  begun : IsOk (object_user_type (l.index + 1) (children l.entries.entries))
      → IsOk (object_user_type 1 (children l.fn.entries.entries));
}
