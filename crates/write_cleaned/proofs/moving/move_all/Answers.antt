use Rattle.std.proofs.Common.{◌≡◌, ◌++◌, ◌∙◌, [], ℕ, List, Option, subst, sym}
use Rattle.std.specs.Io.KnownBytes.{Appends}
use Rattle.cfb_entries.specs.Tree.{Tree}
use Rattle.write_parts.proofs.Outlined.{front-image, same-bytes, same-longs, same-minis}
use Rattle.write_parts.specs.Fronts.{front_bytes}
use Rattle.cfb_layout.specs.Directory.{long_streams, short_streams}
use Rattle.cfb_layout.specs.Image.{padded, whole_pieces}
use Rattle.cfb_file.specs.Outline.{outline_of}
use Rattle.read_outlines.specs.View.{shown}
use Rattle.write_parts.specs.Sends.{Sends}
use Rattle.write_parts.proofs.Sent.{sends_both, sent_all}
use Rattle.read_streams.specs.Tables.{read_by}
use Rattle.write_cleaned.proofs.Blank.{one-outline}
use Rattle.write_cleaned.specs.Sizes.{blank_of}
use Rattle.write_cleaned.proofs.moving.move_all.Goals as goal

pub returns-in-Ok-finish-clause-sent : goal.returns-in-Ok-finish-clause-sent
returns-in-Ok-finish-clause-sent g c = λ a known len window sized.
    let t : Tree = shown (read_by a c.args.tables.now) c.args.outline.now in
    let u : Tree = blank_of c.args.outline.now in
    let f : ℕ = c.args.counts.fat in
    let same : outline_of u ≡ outline_of t = one-outline (read_by a c.args.tables.now) c.args.outline.now sized in
    let w0 : Option (List ℕ) = g.W.Write.contents c.args.writer.now in
    let w1 : Option (List ℕ) = g.W.Write.contents c.send_front.new.writer in
    let w2 : Option (List ℕ) = g.W.Write.contents c.send_mini_stream.new.writer in
    let w3 : Option (List ℕ) = g.W.Write.contents c.send_long_streams.new.writer in
    let last : Option (List ℕ) = g.W.Write.contents c.finish.new.writer in
    let b1 : List ℕ = c.in-Ok.waiting.items in
    let b2 : List ℕ = c.send_mini_stream.new.waiting.items in
    let b3 : List ℕ = c.send_long_streams.new.waiting.items in
    let front : List ℕ = front_bytes f t in
    let shorts : List ℕ = padded 512 (whole_pieces 64 (short_streams t)) in
    let longs : List ℕ = whole_pieces 512 (long_streams t) in
    let s1 : Sends w0 w1 [] b1 front = subst (λ zs. Sends w0 w1 [] b1 zs) (same-bytes u t same f)
    c.in-Ok.ensures.sent in
    let s2 : Sends w1 w2 b1 b2 shorts = c.in_ok-send_mini_stream.ensures.sent a known len window sized
    (c.requires.counts.counts.minis_counted ∙ same-minis u t same) in
    let s3 : Sends w2 w3 b2 b3 longs = c.in_ok-send_long_streams.ensures.sent a
    (c.send_mini_stream.ensures.kept ∙ known) len sized (c.requires.counts.counts.longs_counted
    ∙ same-longs u t same) in
    let all : Sends w0 w3 [] b3 (front ++ shorts ++ longs) = sends_both w0 w2 w3 [] b2 b3 (front ++ shorts) longs
    (sends_both w0 w1 w2 [] b1 b2 front shorts s1 s2) s3 in
    subst (λ zs. Appends w0 last zs) (sym (front-image f t))
    (sent_all w0 w3 last [] b3 c.deref.result.now (front ++ shorts ++ longs) all c.deref.ensures.value
    c.in-Ok-finish.ensures)
