use Rattle.std.proofs.Common.{◌≡◌, ◌-◌, ◌*◌, ◌/◌, ◌∙◌, ℕ, List, drop, length, take, arith}
use Rattle.std.proofs.lemmas.List.{length-append, length-drop, length-take}
use Rattle.std.specs.Io.KnownBytes.{Appends}
use Rattle.cfb_header.specs.Bytes.{joined, sector}
use Rattle.read_source.proofs.Filling.{some_both, some_map, some_same}
use Rattle.read_streams.proofs.Buffers.{copied_all, copied_more}
use Rattle.read_streams.proofs.copying.copy_sectors.Goals as goal

pub loop-done-preserved : goal.loop-done-preserved
loop-done-preserved g c =
    let i = c.loop-done.invariant in
    let ns : List ℕ = c.args.sectors.now in
    let done : ℕ = c.loop-done.done in
    let many : ℕ = c.min-many.result in
    let at : ℕ = 65536 * done / 512 in
    let piece : List ℕ = take many c.loop-done.buffer in
    let known = g.S.Source.bytes c.args.source.now in
    let new : length c.copy_piece.new.buffer ≡ length piece = c.copy_piece.ensures.long in
    let before = g.W.Write.contents c.args.writer.now in
    let mid = g.W.Write.contents c.loop-done.writer in
    let after = g.W.Write.contents c.copy_piece.new.writer in
    record {
      pieces = i.pieces;
      all = i.all;
      long = omega (
        arith,
        i.long,
        new,
        c.min-many.ensures,
        length-take many c.loop-done.buffer,
        length-append c.copy_piece.new.buffer (drop many c.loop-done.buffer),
        length-drop many c.loop-done.buffer,
      );
      written =
          some_both known
          (λ a. length a ≡ c.args.len
          → Appends before mid (take (65536 * done) (take c.args.size (joined (sector a) ns))))
          (λ a. length a ≡ c.args.len
          → Appends mid after (take (length piece) (joined (sector a) (take (length ns - at) (drop at ns))))) _
          (λ a h r len.
          copied_more before mid after a ns c.loop-done.buffer c.args.size done many at i.long (omega arith)
          (omega (arith, i.all, i.pieces, c.loop-done-test.true))
          (omega (arith, c.min-many.ensures, i.all)) (h len) (r len))
          i.written
          (some_same (g.S.Source.bytes c.loop-done.source) known
          (λ a. length a ≡ c.args.len
          → Appends mid after (take (length piece) (joined (sector a) (take (length ns - at) (drop at ns)))))
          i.kept
          c.in_ok-copy_piece.ensures.written);
      kept = c.copy_piece.ensures.kept ∙ i.kept;
    }

pub returns-clause-written : goal.returns-clause-written
returns-clause-written g c =
    let i = c.loop-done.invariant in
    let before = g.W.Write.contents c.args.writer.now in
    let after = g.W.Write.contents c.loop-done.writer in
    some_map (g.S.Source.bytes c.args.source.now)
    (λ a. length a ≡ c.args.len
    → Appends before after
    (take (65536 * c.loop-done.done) (take c.args.size (joined (sector a) c.args.sectors.now)))) _
    (λ a h len. copied_all before after a c.args.sectors.now c.args.size c.loop-done.done
    (omega (arith, i.all, i.pieces, c.loop-done-test.false)) (h len))
    i.written
