use Rattle.std.proofs.Common.{◌≤◌, ℕ, List, Option, IfSome, length}
use Rattle.std.specs.Io.KnownBytes.{Appends}
use Rattle.cfb_file.specs.Alike.{Alike}
use Rattle.read_outlines.specs.declared.outline.Outline.{Outline}
use Rattle.tell_forms.specs.Listings.{told}
use Rattle.text_io.specs.Input.{most}
use Rattle.tell_lists.specs.Lists.{IsOfWriting, ListsAs, MayRefuseList}
use Rattle.tell_lists.proofs.Listed.{err_map, lists_as, not_written, ok_map, read_alike, some_both, some_map}
use Rattle.tell_lists.proofs.listing.list_as.Goals as goal

pub returns-in-Err-read_placed-clause-refused : goal.returns-in-Err-read_placed-clause-refused
returns-in-Err-read_placed-clause-refused g c =
    read_alike (g.S.Source.bytes c.args.source.now) c.in-Ok.catalog.file c.in-Ok.catalog.header c.read_placed.result _
    c.in-Ok.ensures.alike c.in-Ok.ensures.header c.in-Err-read_placed.is c.read_placed.ensures.reads
    c.read_placed.ensures.refused

pub returns-clause-listed : goal.returns-clause-listed
returns-clause-listed g c =
    let b : List ℕ = c.in-Ok.catalog.file in
    let o : Outline = c.in-Ok-read_placed.outline in
    let known : Option (List ℕ) = g.S.Source.bytes c.args.source.now in
    let old : Option (List ℕ) = g.W.Write.contents c.args.writer.now in
    let new : Option (List ℕ) = g.W.Write.contents c.write_listing.new.writer in
    ok_map c.write_listing.result (Appends old new (told c.args.listing o))
    (IfSome known (λ a. ListsAs c.args.listing a old new))
    (λ w. some_both known (λ a. Alike a b) (λ a. length a ≤ most) (λ a. ListsAs c.args.listing a old new)
    (λ a h few. lists_as c.args.listing a b o old new h few c.in-Ok-read_placed.ensures.placed w)
    c.in-Ok.ensures.alike c.in-Ok.ensures.few)
    c.write_listing.ensures.written

pub returns-clause-refused : goal.returns-clause-refused
returns-clause-refused g c =
    let b : List ℕ = c.in-Ok.catalog.file in
    let o : Outline = c.in-Ok-read_placed.outline in
    let known : Option (List ℕ) = g.S.Source.bytes c.args.source.now in
    err_map c.write_listing.result IsOfWriting (λ fault. IfSome known (λ a. MayRefuseList a fault))
    (λ fault r. some_map known (λ a. Alike a b) (λ a. MayRefuseList a fault)
    (λ a h. not_written a b o fault h c.in-Ok-read_placed.ensures.placed r) c.in-Ok.ensures.alike)
    c.write_listing.ensures.refused
