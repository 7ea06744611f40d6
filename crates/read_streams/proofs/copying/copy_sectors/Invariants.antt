use Rattle.std.proofs.Common.{◌≡◌, ◌+◌, ◌-◌, ◌*◌, ◌/◌, IfSome, length, min, take}
use Rattle.std.specs.Io.KnownBytes.{Appends}
use Rattle.cfb_header.specs.Bytes.{joined, sector}
use Rattle.read_streams.proofs.copying.copy_sectors.Given as goal

abbrev pub invariant-loop-done : goal.invariant-loop-done
invariant-loop-done g l = record {
  pieces : l.pieces ≡ (l.all + 65535) / 65536;
  all : l.all ≡ min l.size (512 * length l.sectors);
  long : length l.buffer ≡ 65536;
  written : IfSome (g.S.Source.bytes l.fn.source) (λ a. length a ≡ l.len
      → Appends (g.W.Write.contents l.fn.writer) (g.W.Write.contents l.writer)
      (take (65536 * l.done) (take l.size (joined (sector a) l.sectors))));
  kept : g.S.Source.bytes l.source ≡ g.S.Source.bytes l.fn.source;
}

abbrev pub decreases-loop-done : goal.decreases-loop-done
decreases-loop-done g l = l.pieces - l.done
