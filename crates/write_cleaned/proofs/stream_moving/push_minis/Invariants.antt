use Rattle.std.proofs.Common.{◌≡◌, ◌+◌, ◌-◌, ◌*◌, ◌/◌, IfSome, length}
use Rattle.cfb_header.specs.Bytes.{u32_at}
use Rattle.read_streams.specs.Chains.{walked}
use Rattle.write_cleaned.specs.Windows.{IsAdded, IsWindow}
use Rattle.write_cleaned.proofs.Minis.{first_minis, stream_bytes}
use Rattle.write_cleaned.proofs.stream_moving.push_minis.Given as goal

abbrev pub invariant-loop-mini : goal.invariant-loop-mini
invariant-loop-mini g l = record {
  minis : l.mini-items ≡ walked (λ n. u32_at l.tables.mini_fat.items (4 * n)) l.fn.place.first
      ((l.fn.place.size + 63) / 64);
  left : l.left ≡ l.fn.place.size - 64 * l.mini-index;
  added : IfSome (g.S.Source.bytes l.fn.source) (λ a. length a ≡ l.tables.len → IsWindow a l.tables l.fn.window
      → IsAdded a l.tables l.window (first_minis (stream_bytes a l.tables l.fn.place) l.fn.place.size l.mini-index)
      l.fn.waiting.items l.waiting.items);
  kept : g.S.Source.bytes l.source ≡ g.S.Source.bytes l.fn.source;
}
