use Rattle.std.proofs.Common.{List, Option, IfSome, ℕ, subst, sym}
use Rattle.tree_storage.specs.Kept.{kept}
use Rattle.tree_storage.specs.View.{view}
use Rattle.write_described.specs.Run.{MayRefuseMake}
use Rattle.write_described.proofs.Filed.{known_makes, known_refused}
use Rattle.write_described.proofs.making.make_with_tree.Goals as goal

pub returns-in-Ok-clause-made : goal.returns-in-Ok-clause-made
returns-in-Ok-clause-made g c =
    known_makes (g.R.Read.remaining c.args.reader.now) (kept c.in_ok-tree.tree) (view c.root.result.now)
    (g.W.Write.contents c.args.writer.now) (g.W.Write.contents c.send_file.new.writer)
    c.in-Ok.count c.in_ok-tree.ensures.made c.root.ensures.value c.root.ensures.whole c.in-Ok.ensures.written

pub returns-in-Err-clause-refused : goal.returns-in-Err-clause-refused
returns-in-Err-clause-refused g c =
    let known : Option (List ℕ) = g.R.Read.remaining c.args.reader.now in
    subst (λ fault. IfSome known (λ text. MayRefuseMake text fault)) (sym c.of_sending.ensures)
    (known_refused known (kept c.in_ok-tree.tree) (view c.root.result.now) c.in-Err.fault
    c.in_ok-tree.ensures.made c.root.ensures.value c.root.ensures.whole c.in-Err.ensures.refused)
