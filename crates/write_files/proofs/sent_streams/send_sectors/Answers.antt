use Rattle.std.proofs.Common.{◌≡◌, ◌++◌, ◌-◌, ◌*◌, ℕ, List, Option, length, replicate, subst}
use Rattle.cfb_file.specs.Need.{pieces}
use Rattle.write_parts.specs.Sends.{Sends}
use Rattle.write_parts.proofs.Sent.{sends_both}
use Rattle.write_files.proofs.sent_streams.send_sectors.Goals as goal

pub returns : goal.returns
returns g c =
    let w : Option (List ℕ) = g.W.Write.contents c.args.writer.now in
    let v : Option (List ℕ) = g.W.Write.contents c.send.new.writer in
    let u : Option (List ℕ) = g.W.Write.contents c.send_zeros.new.writer in
    let b : List ℕ = c.args.waiting.now.items in
    let m : List ℕ = c.send.new.waiting.items in
    let d : List ℕ = c.send_zeros.new.waiting.items in
    let bytes : List ℕ = c.args.bytes.now in
    let count : c.sector_zeros.result ≡ 512 * pieces 512 (length bytes) - length bytes = c.sector_zeros.ensures.zeros in
    subst (λ (zs : List ℕ). Sends w u b d zs) (λ i. bytes ++ replicate (count i) 0)
    (sends_both w v u b m d bytes (replicate c.sector_zeros.result 0) c.in_ok-send.ensures c.in_ok-send_zeros.ensures)
