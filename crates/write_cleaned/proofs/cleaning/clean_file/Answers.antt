use Rattle.std.proofs.Common.{List, Option, IfSome, ℕ, subst, sym}
use Rattle.write_cleaned.specs.Cleaning.{MayRefuseClean}
use Rattle.cfb_entries.specs.Tree.{Tree}
use Rattle.write_cleaned.specs.Opened.{IsOpenedOf}
use Rattle.write_files.specs.Sending.{WritesFile}
use Rattle.write_cleaned.proofs.Cleaned.{known_cleans, move_refused, source_refused}
use Rattle.write_cleaned.proofs.cleaning.clean_file.Goals as goal

pub returns-in-Err-clause-refused : goal.returns-in-Err-clause-refused
returns-in-Err-clause-refused g c =
    let known : Option (List ℕ) = g.S.Source.bytes c.args.source.now in
    subst (λ fault. IfSome known (λ file. MayRefuseClean file fault)) (sym c.of_source.ensures)
    (source_refused known c.in-Err.fault c.in-Err.ensures.refused)

pub returns-in-Ok-move_file-clause-cleaned : goal.returns-in-Ok-move_file-clause-cleaned
returns-in-Ok-move_file-clause-cleaned g c =
    let old : Option (List ℕ) = g.W.Write.contents c.args.writer.now in
    let new : Option (List ℕ) = g.W.Write.contents c.move_file.new.writer in
    let count : ℕ = c.in-Ok-move_file.count in
    known_cleans (g.S.Source.bytes c.args.source.now) c.in-Ok.opened old new count c.in-Ok.ensures.few
    c.in-Ok.ensures.opened
    (subst (λ known. IfSome known (λ file. (t : Tree) → IsOpenedOf file t c.in-Ok.opened → WritesFile t old new count))
    c.open.ensures.kept c.in-Ok-move_file.ensures.written)

pub returns-in-Err-move_file-clause-refused : goal.returns-in-Err-move_file-clause-refused
returns-in-Err-move_file-clause-refused g c =
    let known : Option (List ℕ) = g.S.Source.bytes c.args.source.now in
    subst (λ fault. IfSome known (λ file. MayRefuseClean file fault)) (sym c.of_moving.ensures)
    (move_refused known c.in-Ok.opened c.in-Err-move_file.fault c.in-Ok.ensures.opened
    c.in-Err-move_file.ensures.refused)
