use Rattle.std.proofs.Common.{◌≤◌, ℕ, List, Option, IfSome, length, subst, sym}
use Rattle.cfb_file.specs.Alike.{Alike}
use Rattle.read_outlines.specs.declared.outline.Outline.{Outline}
use Rattle.read_source.specs.Filled.{MayRefusePlaces}
use Rattle.text_io.specs.Input.{most}
use Rattle.tell_lists.specs.Lists.{IsOfWriting, MayRefuseList}
use Rattle.tell_lists.proofs.Listed.{err_map, not_written, ok_map, places_refused, read_alike, some_both, some_map}
use Rattle.tell_files.specs.Maps.{Maps}
use Rattle.tell_files.proofs.Mapped.{maps}
use Rattle.tell_files.proofs.mapping.map_file.Goals as goal

pub returns-in-Err-clause-refused : goal.returns-in-Err-clause-refused
returns-in-Err-clause-refused g c =
    some_map (g.S.Source.bytes c.args.source.now) (λ a. MayRefusePlaces a c.in-Err.fault)
    (λ a. MayRefuseList a c.from.result)
    (λ a r. subst (MayRefuseList a) (sym c.from.ensures) (places_refused a c.in-Err.fault r)) c.in-Err.ensures.refused

pub returns-in-Err-read_placed-clause-refused : goal.returns-in-Err-read_placed-clause-refused
returns-in-Err-read_placed-clause-refused g c =
    read_alike (g.S.Source.bytes c.args.source.now) c.in-Ok.catalog.file c.in-Ok.catalog.header c.read_placed.result _
    c.in-Ok.ensures.alike c.in-Ok.ensures.header c.in-Err-read_placed.is c.read_placed.ensures.reads
    c.read_placed.ensures.refused

pub returns-clause-mapped : goal.returns-clause-mapped
returns-clause-mapped g c =
    let b : List ℕ = c.in-Ok.catalog.file in
    let o : Outline = c.in-Ok-read_placed.outline in
    let known : Option (List ℕ) = g.S.Source.bytes c.args.source.now in
    let old : Option (List ℕ) = g.W.Write.contents c.args.writer.now in
    let new : Option (List ℕ) = g.W.Write.contents c.write_map.new.writer in
    ok_map c.write_map.result _ (IfSome known (λ a. Maps a old new))
    (λ w. some_both known (λ a. Alike a b) (λ a. length a ≤ most) (λ a. Maps a old new)
    (λ a h few. maps a b o old new h few c.in-Ok-read_placed.ensures.placed w)
    c.in-Ok.ensures.alike c.in-Ok.ensures.few)
    c.write_map.ensures.written

pub returns-clause-refused : goal.returns-clause-refused
returns-clause-refused g c =
    let b : List ℕ = c.in-Ok.catalog.file in
    let o : Outline = c.in-Ok-read_placed.outline in
    let known : Option (List ℕ) = g.S.Source.bytes c.args.source.now in
    err_map c.write_map.result IsOfWriting (λ fault. IfSome known (λ a. MayRefuseList a fault))
    (λ fault r. some_map known (λ a. Alike a b) (λ a. MayRefuseList a fault)
    (λ a h. not_written a b o fault h c.in-Ok-read_placed.ensures.placed r) c.in-Ok.ensures.alike)
    c.write_map.ensures.refused
