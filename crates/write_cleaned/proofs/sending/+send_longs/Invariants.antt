use Rattle.std.proofs.Common.{◌≡◌, ◌++◌, ℕ, List, Some, drop, length}
use Rattle.cfb_layout.specs.Directory.{long_streams_of}
use Rattle.cfb_layout.specs.Image.{whole_pieces}
use Rattle.cfb_file.specs.Outline.{outlines_of}
use Rattle.read_outlines.specs.View.{parts_view, shown_parts}
use Rattle.write_parts.specs.Sends.{Sends}
use Rattle.read_streams.specs.Tables.{read_by}
use Rattle.write_cleaned.proofs.sending.+send_longs.Given as goal

abbrev pub invariant-send_longs-loop-part : goal.invariant-send_longs-loop-part
invariant-send_longs-loop-part g l = record {
  sent : (a : List ℕ) → g.S.Source.bytes l.fn.source ≡ Some a → length a ≡ l.tables.len
      → outlines_of (shown_parts (read_by a l.tables) l.part-items) ≡ parts_view l.part-items
      → (gone : List ℕ) × Sends (g.W.Write.contents l.fn.writer) (g.W.Write.contents l.writer) l.fn.waiting.items
      l.waiting.items gone
      × (gone ++ whole_pieces 512
      (long_streams_of (shown_parts (read_by a l.tables) (drop l.part-index l.part-items)))
      ≡ whole_pieces 512 (long_streams_of (shown_parts (read_by a l.tables) l.part-items)))
      × (outlines_of (shown_parts (read_by a l.tables) (drop l.part-index l.part-items))
      ≡ parts_view (drop l.part-index l.part-items));
  kept : g.S.Source.bytes l.source ≡ g.S.Source.bytes l.fn.source;
}
