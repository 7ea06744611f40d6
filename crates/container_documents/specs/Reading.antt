-- What a file gives, as it is read.
use Rattle.std.specs.Prelude.{◌≡◌, Option, Some, None}
use Rattle.cfb_entries.specs.Tree.{Tree}
use Rattle.ole_model.specs.DocOf.{DocOf}
use Rattle.ole_model.specs.Documents.{Doc}
use Rattle.container_model.specs.Opens.{Given}

-- a file that is there gives a document, or none
abbrev pub as_given : Option Doc → Given
as_given None = Given.Broken
as_given (Some d) = Given.Holding d

-- a tree holds this document, or it holds none
abbrev pub IsHeldAs : Tree → Option Doc → Type 0
IsHeldAs t None = (d : Doc) → DocOf t d → ⊥
IsHeldAs t (Some d) = DocOf t d
