use Rattle.std.proofs.Common.{◌≡◌, ◌++◌, ◌-◌, ◌*◌, ◌∙◌, ℕ, List, Option, ap, length, replicate, subst, sym}
use Rattle.cfb_entries.specs.Tree.{Tree}
use Rattle.cfb_layout.specs.Directory.{short_streams}
use Rattle.cfb_layout.specs.Image.{padded, whole_pieces}
use Rattle.cfb_file.specs.Need.{pieces}
use Rattle.read_outlines.specs.View.{shown}
use Rattle.write_parts.specs.Sends.{Sends}
use Rattle.write_parts.proofs.Sent.{no_shorts, sends_both, sends_nothing, short_bytes}
use Rattle.read_streams.specs.Tables.{read_by}
use Rattle.write_cleaned.proofs.Walks.{on_ok}
use Rattle.write_cleaned.proofs.sending.send_mini_stream.Goals as goal

pub returns-then-minis-eq0-clause-sent : goal.returns-then-minis-eq0-clause-sent
returns-then-minis-eq0-clause-sent g c = λ a known len window sized counted.
    let t : Tree = shown (read_by a c.args.tables.now) c.args.outline.now in
    sends_nothing (g.W.Write.contents c.args.writer.now) c.args.waiting.now.items
    (padded 512 (whole_pieces 64 (short_streams t)))
    (ap (padded 512) (no_shorts t c.args.minis counted c.if-minis-eq0.true))

pub returns-clause-sent : goal.returns-clause-sent
returns-clause-sent g c =
    on_ok c.pad.result _ _ (λ h a known len window sized counted.
    let t : Tree = shown (read_by a c.args.tables.now) c.args.outline.now in
    let w : Option (List ℕ) = g.W.Write.contents c.args.writer.now in
    let v : Option (List ℕ) = g.W.Write.contents c.send_shorts.new.writer in
    let u : Option (List ℕ) = g.W.Write.contents c.pad.new.writer in
    let b : List ℕ = c.args.waiting.now.items in
    let m : List ℕ = c.send_shorts.new.waiting.items in
    let d : List ℕ = c.pad.new.waiting.items in
    let all : List ℕ = whole_pieces 64 (short_streams t) in
    let count : c.sector_zeros.result ≡ 512 * pieces 512 (length all) - length all =
    c.sector_zeros.ensures.zeros ∙ ap (λ k. 512 * pieces 512 k - k) (sym (short_bytes t c.args.minis counted)) in
    let sent = c.in_ok-send_shorts.ensures.sent a known len window sized in
    subst (λ (k : ℕ). Sends w u b d (all ++ replicate k 0)) count
    (sends_both w v u b m d all (replicate c.sector_zeros.result 0) sent.0 h)) c.pad.ensures
