use Rattle.std.proofs.Common.{ap, arith}
use Rattle.std.proofs.Math.Logic.{∥∥₁_map}
use Rattle.cfb_entries.specs.Tree.{Tree}
use Rattle.tree_storage.specs.View.{view}
use Rattle.cfb_layout.specs.Directory.{balanced, parts_of}
use Rattle.cfb_layout.specs.Image.{image}
use Rattle.write_parts.specs.Counted.{AreEnough}
use Rattle.write_parts.proofs.Denoted.{file_denotes}
use Rattle.write_files.proofs.sending.send_file.Goals as goal

pub returns-in-Ok-send_all-clause-written : goal.returns-in-Ok-send_all-clause-written
returns-in-Ok-send_all-clause-written g c =
    let t : Tree = view c.args.root.now in
    let counts = c.in-Ok.counts in
    let are : AreEnough counts t = c.in-Ok.ensures.counted in
    record {
      fits = c.in-Ok.ensures.allowed;
      file = image counts.fat (parts_of balanced counts.fat t);
      denotes = λ whole. ∥∥₁_map whole (λ w. file_denotes counts t are c.in-Ok-front_of.ensures.directory.spelled w);
      laid_out = ap (λ f. image f (parts_of balanced f t)) are.least;
      written = c.in-Ok-send_all.ensures.sent;
      counted = omega (
        arith,
        c.file_len.ensures,
        c.in-Ok-send_all.ensures.long,
        are.counts.entries_counted,
        are.counts.minis_counted,
        are.counts.longs_counted,
      );
    }
