use Rattle.std.proofs.Common.{◌≡◌, ◌≤◌, ◌+◌, ◌-◌, ◌*◌, ◌/◌, IfSome, length, min, take}
use Rattle.cfb_header.specs.Bytes.{joined, sector}
use Rattle.read_streams.proofs.filling.fill_sectors.Given as goal

abbrev pub invariant-loop-done : goal.invariant-loop-done
invariant-loop-done g l = record {
  all : l.all ≡ (length l.fn.buffer + 511) / 512;
  long : length l.buffer ≡ length l.fn.buffer;
  within : l.done ≤ length l.sectors;
  filled : IfSome (g.S.Source.bytes l.fn.source) (λ a. length a ≡ l.len → take (512 * l.done) l.buffer
      ≡ take (min (512 * l.done) (length l.buffer)) (joined (sector a) l.sectors));
  kept : g.S.Source.bytes l.source ≡ g.S.Source.bytes l.fn.source;
}

abbrev pub decreases-loop-done : goal.decreases-loop-done
decreases-loop-done g l = length l.sectors - l.done
