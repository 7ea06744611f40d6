use Rattle.std.proofs.Common.{◌≡◌, ℕ, List, Some, length, take}
use Rattle.folder_commands.specs.Made.{Adds}
use Rattle.folder_commands.specs.Planned.{entries_of}
use Rattle.write_cleaned.specs.Windows.{IsWindow}
use Rattle.read_streams.specs.Tables.{read_by}
use Rattle.folder_commands.proofs.making.make_all.Given as goal

abbrev pub invariant-loop-count : goal.invariant-loop-count
invariant-loop-count g l = record {
  made : (a : List ℕ) → g.S.Source.bytes l.fn.source ≡ Some a → length a ≡ l.tables.len
      → IsWindow a l.tables l.fn.window
      → Adds (g.F.Folder.made l.fn.folder) (g.F.Folder.made l.folder)
      (take l.count (entries_of (read_by a l.tables) l.planned)) × IsWindow a l.tables l.window;
  kept : g.S.Source.bytes l.source ≡ g.S.Source.bytes l.fn.source;
}
