-- The tree that is read is denoted, by the layout that it was read by.
use Rattle.std.proofs.Common.{◌≡◌, ℕ, true, List, [], ◌++◌, get_or, refl, sym, ◌∙◌, ap}
use Rattle.cfb_chains.specs.Fat.{marked}
use Rattle.cfb_header.specs.Header.{IsHeader}
use Rattle.cfb_entries.specs.Entries.{entry_at, kind}
use Rattle.cfb_entries.specs.Tree.{Tree}
use Rattle.cfb_file.specs.Denotes.{Denotes, Layout}
use Rattle.read_files.specs.Reads.{IsStorageRead, directory_in}
use Rattle.read_files.specs.declared.read.Reader.{Reader}
use Rattle.read_files.proofs.ReadingHeld.{IsHeld, met_new, storage_held}
use Rattle.read_files.proofs.ReadingStreams.{Stands}
use Rattle.read_files.proofs.ReadingWhole.{whole_storage}
use Rattle.cfb_faults.proofs.Lists.{distinct-cons}
use Rattle.cfb_faults.proofs.Opened.{IsReady}

pub stands : (file : List ℕ) (l : Layout) (r : Reader) → IsReady file l r.fat r.mini (directory_in r)
    → Stands file l r (l.fat ++ l.difat ++ l.directory ++ l.mini_fat ++ l.mini_stream) []
stands file l r h = record {
  directory = h.bytes_are;
  same = h.same;
  same_minis = h.same_minis;
  marks = h.marks;
  mini_marks = h.mini_marks;
}

pub denoted : (file : List ℕ) (l : Layout) (old new : Reader) (t : Tree) → IsHeader file
    → IsReady file l old.fat old.mini (directory_in old)
    → get_or old.entries.used 0 true ≡ true → kind (entry_at (directory_in old) 0) ≡ 5
    → IsStorageRead 32 0 t old new → (d : Denotes file t) × (d.layout ≡ l)
denoted file l old new t header r marked root h =
    let s : Stands file l old (l.fat ++ l.difat ++ l.directory ++ l.mini_fat ++ l.mini_stream) [] =
    stands file l old r in
    let held : IsHeld file l 0 t old new (l.fat ++ l.difat ++ l.directory ++ l.mini_fat ++ l.mini_stream) [] =
    storage_held file l 32 0 t old new (l.fat ++ l.difat ++ l.directory ++ l.mini_fat ++ l.mini_stream) [] s h in
    let d : Denotes file t = record {
      layout = l;
      used = held.used;
      header = header;
      laid_out = r.laid_out;
      root = ap (λ (x : List ℕ). kind (entry_at x 0)) (sym r.bytes_are) ∙ root;
      holds = held.held;
      sectors_apart = held.stands.marks.once;
      minis_apart = held.stands.mini_marks.once;
      ids_apart = distinct-cons 0 held.used.ids (λ c. met_new old 0 marked (held.fresh 0 c)) held.once;
      is_tree = whole_storage 32 0 t old new h;
    } in
    (d, refl)
