-- The pictures that objects are stored with.
use Rattle.std.specs.Prelude.{ℕ, List, [], ◌∷◌}
use Rattle.object_core.specs.Content.{Content}
use Rattle.object_core.specs.Pictures.{picture_bytes}
use Rattle.ole_model.specs.Presentations.{presentation_bytes}

-- the stream "\2OlePres000" of a picture of these lines (MS-OLEDS 2.3.4), empty for a picture without lines
abbrev pub presented : List ℕ → List ℕ
presented [] = []
presented (c ∷ cs) = presentation_bytes (c ∷ cs)

-- What is stored of a content's picture.
unfoldable pub picture_of : Content → List ℕ
picture_of c = presented (picture_bytes c)
