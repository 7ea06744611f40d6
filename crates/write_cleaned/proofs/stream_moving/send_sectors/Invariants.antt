use Rattle.std.proofs.Common.{◌≡◌, ◌+◌, ◌-◌, ◌*◌, ◌/◌, IfSome, length, take}
use Rattle.write_parts.specs.Sends.{Sends}
use Rattle.write_cleaned.proofs.Pieces.{sector_bytes}
use Rattle.write_cleaned.proofs.stream_moving.send_sectors.Given as goal

abbrev pub invariant-loop-done : goal.invariant-loop-done
invariant-loop-done g l = record {
  pieces : l.pieces ≡ (l.size + 65535) / 65536;
  sent : IfSome (g.S.Source.bytes l.fn.source) (λ a. length a ≡ l.len
      → Sends (g.W.Write.contents l.fn.writer) (g.W.Write.contents l.writer) l.fn.waiting.items l.waiting.items
      (take (65536 * l.done) (sector_bytes a l.sectors l.size)));
  kept : g.S.Source.bytes l.source ≡ g.S.Source.bytes l.fn.source;
}

abbrev pub decreases-loop-done : goal.decreases-loop-done
decreases-loop-done g l = l.pieces - l.done
