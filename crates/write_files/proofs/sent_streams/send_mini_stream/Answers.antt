use Rattle.std.proofs.Common.{◌≡◌, ◌++◌, ◌-◌, ◌*◌, ◌∙◌, ℕ, List, Option, ap, length, replicate, subst, sym}
use Rattle.cfb_entries.specs.Tree.{Tree}
use Rattle.tree_storage.specs.NodeView.{view}
use Rattle.cfb_layout.specs.Directory.{short_streams}
use Rattle.cfb_layout.specs.Image.{padded, whole_pieces}
use Rattle.cfb_file.specs.Need.{pieces}
use Rattle.write_parts.specs.Sends.{Sends}
use Rattle.write_parts.proofs.Sent.{no_shorts, sends_both, sends_nothing, short_bytes}
use Rattle.write_files.proofs.sent_streams.send_mini_stream.Goals as goal

pub returns : goal.returns
returns g c =
    let w : Option (List ℕ) = g.W.Write.contents c.args.writer.now in
    let v : Option (List ℕ) = g.W.Write.contents c.send_short.new.writer in
    let u : Option (List ℕ) = g.W.Write.contents c.send_zeros.new.writer in
    let b : List ℕ = c.args.waiting.now.items in
    let m : List ℕ = c.send_short.new.waiting.items in
    let d : List ℕ = c.send_zeros.new.waiting.items in
    let t : Tree = view c.args.root.now in
    let all : List ℕ = whole_pieces 64 (short_streams t) in
    let count : c.sector_zeros.result ≡ 512 * pieces 512 (length all) - length all =
    c.sector_zeros.ensures.zeros ∙ ap (λ k. 512 * pieces 512 k - k) (sym (short_bytes t c.args.minis c.requires)) in
    subst (λ (k : ℕ). Sends w u b d (all ++ replicate k 0)) count
    (sends_both w v u b m d all (replicate c.sector_zeros.result 0) c.in_ok-send_short.ensures
    c.in_ok-send_zeros.ensures)

pub returns-then-minis-eq0 : goal.returns-then-minis-eq0
returns-then-minis-eq0 g c =
    sends_nothing (g.W.Write.contents c.args.writer.now) c.args.waiting.now.items
    (padded 512 (whole_pieces 64 (short_streams (view c.args.root.now))))
    (ap (padded 512) (no_shorts (view c.args.root.now) c.args.minis c.requires c.if-minis-eq0.true))
