use Rattle.std.proofs.Common.{◌++◌, [], ℕ, List, Option, refl, subst}
use Rattle.std.specs.Io.KnownBytes.{Appends}
use Rattle.write_parts.specs.Fronts.{front_bytes}
use Rattle.cfb_layout.specs.Directory.{long_streams, short_streams}
use Rattle.cfb_layout.specs.Image.{difat_numbers, padded, whole_pieces}
use Rattle.cfb_file.specs.Need.{difat_sectors}
use Rattle.cfb_entries.specs.Tree.{Tree}
use Rattle.tree_storage.specs.NodeView.{view}
use Rattle.write_parts.specs.Filled.{fat_numbers, mini_numbers}
use Rattle.write_parts.specs.Front.{header_for}
use Rattle.write_parts.specs.Sends.{Sends}
use Rattle.write_parts.proofs.Length.{length-image}
use Rattle.write_parts.proofs.Sent.{sends_both, sent_all}
use Rattle.write_parts.proofs.Whole.{image_of}
use Rattle.write_files.proofs.sent_streams.send_all.Goals as goal

pub returns-clause-sent : goal.returns-clause-sent
returns-clause-sent g c =
    let w0 : Option (List ℕ) = g.W.Write.contents c.args.writer.now in
    let w1 : Option (List ℕ) = g.W.Write.contents c.send_front.new.writer in
    let w2 : Option (List ℕ) = g.W.Write.contents c.send_mini_stream.new.writer in
    let w3 : Option (List ℕ) = g.W.Write.contents c.send_long_streams.new.writer in
    let last : Option (List ℕ) = g.W.Write.contents c.finish.new.writer in
    let b1 : List ℕ = c.in_ok-waiting.waiting.items in
    let b2 : List ℕ = c.send_mini_stream.new.waiting.items in
    let b3 : List ℕ = c.send_long_streams.new.waiting.items in
    let f : ℕ = c.args.counts.fat in
    let t : Tree = view c.args.root.now in
    let front : List ℕ = front_bytes f t in
    let shorts : List ℕ = padded 512 (whole_pieces 64 (short_streams t)) in
    let longs : List ℕ = whole_pieces 512 (long_streams t) in
    let s2 : Sends w0 w2 [] b2 (front ++ shorts) = sends_both w0 w1 w2 [] b1 b2 front shorts
    c.in_ok-waiting.ensures.sent c.in_ok-send_mini_stream.ensures in
    let s3 : Sends w0 w3 [] b3 (front ++ shorts ++ longs) = sends_both w0 w2 w3 [] b2 b3 (front ++ shorts) longs s2
    c.in_ok-send_long_streams.ensures in
    subst (λ (zs : List ℕ). Appends w0 last zs)
    (image_of f t (header_for f t) (fat_numbers f t) (difat_numbers (difat_sectors f) f 109 f) (mini_numbers t) refl
    refl refl refl)
    (sent_all w0 w3 last [] b3 c.deref.result.now (front ++ shorts ++ longs) s3 c.deref.ensures.value
    c.in_ok-finish.ensures)

pub returns-clause-long : goal.returns-clause-long
returns-clause-long g c = length-image c.args.counts.fat (view c.args.root.now) c.in_ok-waiting.ensures.long
    c.requires.counts.covered
