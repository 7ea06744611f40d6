use Rattle.std.proofs.Common.{◌≡◌, ◌+◌, ◌*◌, ◌∙◌, ap, arith, length, subst, sym}
use Rattle.std.proofs.Math.Logic.{∥∥₁_map}
use Rattle.std.specs.Io.KnownBytes.{Appends}
use Rattle.cfb_entries.specs.Tree.{Tree}
use Rattle.write_parts.proofs.Outlined.{same-enough, same-long, same-spelled, same-writable}
use Rattle.cfb_layout.specs.Directory.{balanced, parts_of}
use Rattle.cfb_layout.specs.Image.{behind_fat, image}
use Rattle.cfb_file.specs.Need.{data_sectors}
use Rattle.cfb_file.specs.Outline.{outline_of}
use Rattle.read_outlines.specs.View.{shown}
use Rattle.write_parts.specs.Counted.{AreEnough}
use Rattle.write_parts.proofs.Denoted.{file_denotes}
use Rattle.write_parts.proofs.Length.{length-image}
use Rattle.read_streams.specs.Tables.{read_by}
use Rattle.read_streams.proofs.Shown.{shown_read}
use Rattle.write_cleaned.proofs.Blank.{one-outline}
use Rattle.write_cleaned.proofs.Sources.{known_all}
use Rattle.write_cleaned.specs.Sizes.{IsSized, blank_of}
use Rattle.write_cleaned.proofs.moving.move_file.Goals as goal

pub returns-in-Ok-move_all-clause-written : goal.returns-in-Ok-move_all-clause-written
returns-in-Ok-move_all-clause-written g c =
    known_all (g.S.Source.bytes c.args.source.now) _ (λ a known t h.
    let o = c.args.opened.now.outline in
    let tables = c.args.opened.now.tables in
    let u : Tree = blank_of o in
    let counts = c.in-Ok.counts in
    let shows : shown (read_by a tables) o ≡ t = shown_read a t o h.placed tables h.tables in
    let sized : IsSized (read_by a tables) o = ap outline_of shows ∙ sym h.placed.outlined in
    let same : outline_of u ≡ outline_of t = one-outline (read_by a tables) o sized ∙ ap outline_of shows in
    let are : AreEnough counts t = same-enough u t same counts c.in-Ok.ensures.counted in
    let long : length (image counts.fat (parts_of balanced counts.fat t))
    ≡ 512 * (1 + behind_fat counts.fat + data_sectors t) =
    length-image counts.fat t (same-long u t same counts.fat c.in-Ok-move_all.ensures.long) are.covered in
    let sent = c.in-Ok-move_all.ensures.sent a known h.len (c.in-Ok-new.ensures a tables) sized in
    record {
      fits = sym (same-writable u t same) ∙ c.in-Ok.ensures.allowed;
      file = image counts.fat (parts_of balanced counts.fat t);
      denotes = λ whole. ∥∥₁_map whole
          (λ w. file_denotes counts t are (same-spelled u t same c.in-Ok-front_of.ensures.directory.spelled) w);
      laid_out = ap (λ f. image f (parts_of balanced f t)) are.least;
      written = subst (λ x. Appends (g.W.Write.contents c.args.writer.now)
          (g.W.Write.contents c.move_all.new.writer) (image counts.fat (parts_of balanced counts.fat x))) shows
          sent;
      counted = omega (
        arith,
        c.file_len.ensures,
        long,
        are.counts.entries_counted,
        are.counts.minis_counted,
        are.counts.longs_counted,
      );
    })
