-- The names of classes that are known: those that Microsoft's programs register for their documents, under `CLSID` in
-- the registry of Windows. An id that isn't known is told as it is spelled, and that of zeros by nothing.
use Rattle.std.specs.Prelude.{ℕ, List, [], cond, codes}
use Rattle.std.specs.Str.{bytes_eq}

abbrev pub object_name : List ℕ → List ℕ
object_name id =
    cond (bytes_eq id (codes "00020803-0000-0000-c000-000000000046")) (codes "Graph chart") (
    cond (bytes_eq id (codes "0002ce02-0000-0000-c000-000000000046")) (codes "equation") (
    cond (bytes_eq id (codes "0003000c-0000-0000-c000-000000000046")) (codes "package") (
    cond (bytes_eq id (codes "d3e34b21-9d75-101a-8c3d-00aa001a1652")) (codes "Paint picture") id)))

abbrev pub installer_name : List ℕ → List ℕ
installer_name id =
    cond (bytes_eq id (codes "000c1084-0000-0000-c000-000000000046")) (codes "Installer package") (
    cond (bytes_eq id (codes "000c1086-0000-0000-c000-000000000046")) (codes "Installer patch") (
    cond (bytes_eq id (codes "000c1082-0000-0000-c000-000000000046")) (codes "Installer transform") (object_name id)))

abbrev pub mail_name : List ℕ → List ℕ
mail_name id =
    cond (bytes_eq id (codes "00020d0b-0000-0000-c000-000000000046")) (codes "Outlook message") (
    cond (bytes_eq id (codes "00021a14-0000-0000-c000-000000000046")) (codes "Visio drawing") (installer_name id))

abbrev pub show_name : List ℕ → List ℕ
show_name id =
    cond (bytes_eq id (codes "64818d10-4f9b-11cf-86ea-00aa00b929e8")) (codes "PowerPoint presentation") (
    cond (bytes_eq id (codes "64818d11-4f9b-11cf-86ea-00aa00b929e8")) (codes "PowerPoint slide") (mail_name id))

abbrev pub office_name : List ℕ → List ℕ
office_name id =
    cond (bytes_eq id (codes "00020810-0000-0000-c000-000000000046")) (codes "Excel 5 sheet") (
    cond (bytes_eq id (codes "00020821-0000-0000-c000-000000000046")) (codes "Excel chart") (show_name id))

abbrev pub class_name : List ℕ → List ℕ
class_name id =
    cond (bytes_eq id (codes "00000000-0000-0000-0000-000000000000")) [] (
    cond (bytes_eq id (codes "00020906-0000-0000-c000-000000000046")) (codes "Word document") (
    cond (bytes_eq id (codes "00020900-0000-0000-c000-000000000046")) (codes "Word 6 document") (
    cond (bytes_eq id (codes "00020820-0000-0000-c000-000000000046")) (codes "Excel sheet") (office_name id))))
