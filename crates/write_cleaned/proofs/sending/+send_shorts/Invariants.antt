use Rattle.std.proofs.Common.{◌≡◌, ◌+◌, ◌*◌, ◌++◌, ℕ, List, Some, drop, length}
use Rattle.cfb_layout.specs.Directory.{short_streams_of}
use Rattle.cfb_layout.specs.Image.{whole_pieces}
use Rattle.cfb_file.specs.Outline.{outlines_of}
use Rattle.read_outlines.specs.View.{parts_view, shown_parts}
use Rattle.write_parts.specs.Sends.{Sends}
use Rattle.write_cleaned.specs.Windows.{IsWindow}
use Rattle.read_streams.specs.Tables.{read_by}
use Rattle.write_cleaned.proofs.Weights.{part_weight, weight}
use Rattle.write_cleaned.proofs.sending.+send_shorts.Given as goal

abbrev pub decreases-send_shorts : goal.decreases-send_shorts
decreases-send_shorts g l = 2 * weight l.outline.now

abbrev pub decreases-send_short_part : goal.decreases-send_short_part
decreases-send_short_part g l = 2 * part_weight l.part.now + 1

abbrev pub invariant-send_shorts-loop-part : goal.invariant-send_shorts-loop-part
invariant-send_shorts-loop-part g l = record {
  sent : (a : List ℕ) → g.S.Source.bytes l.fn.source ≡ Some a → length a ≡ l.tables.len
      → IsWindow a l.tables l.fn.window
      → outlines_of (shown_parts (read_by a l.tables) l.part-items) ≡ parts_view l.part-items
      → (gone : List ℕ) × Sends (g.W.Write.contents l.fn.writer) (g.W.Write.contents l.writer) l.fn.waiting.items
      l.waiting.items gone
      × (gone ++ whole_pieces 64
      (short_streams_of (shown_parts (read_by a l.tables) (drop l.part-index l.part-items)))
      ≡ whole_pieces 64 (short_streams_of (shown_parts (read_by a l.tables) l.part-items)))
      × IsWindow a l.tables l.window
      × (outlines_of (shown_parts (read_by a l.tables) (drop l.part-index l.part-items))
      ≡ parts_view (drop l.part-index l.part-items));
  kept : g.S.Source.bytes l.source ≡ g.S.Source.bytes l.fn.source;
}
