-- Laws of documents and their trees.
use Rattle.std.specs.Prelude.{◌≡◌}
use Rattle.cfb_entries.specs.Tree.{Tree}
use Rattle.ole_model.specs.Documents.{Doc}
use Rattle.ole_model.specs.DocOf.{DocOf}
use Rattle.ole_model.specs.DocTree.{doc_tree}
use Rattle.ole_streams.specs.Docs.{IsDoc}

-- the tree of a document holds it
abbrev pub DocumentIsReadAgain : Type 0
DocumentIsReadAgain = (d : Doc) → IsDoc d → DocOf (doc_tree d) d

-- a tree holds at most one document
abbrev pub HoldsOneDocument : Type 0
HoldsOneDocument = (t : Tree) (d other : Doc) → DocOf t d → DocOf t other → d ≡ other
