use Rattle.std.proofs.Common.{◌∙◌, ap, rules, subst, sym}
use Rattle.std.specs.Io.KnownBytes.{Appends}
use Rattle.tree_storage.specs.Kept.{kept}
use Rattle.folder_commands.specs.Packing.{packed}
use Rattle.folder_commands.proofs.packing.pack_found.Goals as goal

pub returns-in-Err-write_file-clause-refused : goal.returns-in-Err-write_file-clause-refused
returns-in-Err-write_file-clause-refused g c = (
  kept c.put_all.new.tree,
  ap (λ k. packed c.args.found.items k) (sym c.new-tree.ensures)
      ∙ c.in-Ok.ensures.put,
  c.in-Err-write_file.ensures.refused,
)

pub returns-in-Ok-write_all-clause-packed : goal.returns-in-Ok-write_all-clause-packed
returns-in-Ok-write_all-clause-packed g c = record {
  k = kept c.put_all.new.tree;
  holds = ap (λ k. packed c.args.found.items k) (sym c.new-tree.ensures) ∙ c.in-Ok.ensures.put;
  file = c.in-Ok-write_file.file.items;
  denotes = c.in-Ok-write_file.ensures.denotes;
  laid_out = c.in-Ok-write_file.ensures.laid_out;
  written = subst (λ b. Appends (g.W.Write.contents c.args.writer.now) (g.W.Write.contents c.write_all.new.writer)
      b) c.deref.ensures.value c.in-Ok-write_all.ensures;
  counted = search rules;
}

pub returns-clause-refused : goal.returns-clause-refused
returns-clause-refused g c =
    (kept c.put_all.new.tree, ap (λ k. packed c.args.found.items k) (sym c.new-tree.ensures) ∙ c.in-Ok.ensures.put)
