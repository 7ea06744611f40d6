-- What the streams are that OLE (MS-OLEDS 2.3.3, 2.3.4, 2.3.6, 2.3.8) and property sets (MS-OLEPS 2.23) lay beside an
-- object's own, by their names.
use Rattle.std.specs.Prelude.{ℕ, List, [], ◌∷◌, cond, codes, nat_eq}
use Rattle.std.specs.List.{starts_with}
use Rattle.std.specs.Str.{bytes_eq}

abbrev pub stream_meaning : List ℕ → List ℕ
stream_meaning name =
    cond (bytes_eq name (1 ∷ codes "Ole")) (codes "OLE: linked or embedded") (
    cond (bytes_eq name (1 ∷ codes "CompObj")) (codes "OLE: class and format of the object") (
    cond (starts_with nat_eq name (2 ∷ codes "OlePres")) (codes "OLE: picture of the object") (
    cond (bytes_eq name (1 ∷ codes "Ole10Native")) (codes "OLE: data of a native object") (
    cond (bytes_eq name (5 ∷ codes "SummaryInformation")) (codes "properties: title, author, times") (
    cond (bytes_eq name (5 ∷ codes "DocumentSummaryInformation")) (codes "properties: of the document") [])))))
