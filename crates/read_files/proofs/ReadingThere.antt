-- The storage of the root of a file that denotes a tree is there to be read.
use Rattle.std.proofs.Common.{◌≡◌, ◌<◌, ◌+◌, ◌*◌, ◌/◌, inl, inr, ℕ, true, false, List, [], ◌∷◌, ◌++◌, length, get_or}
use Rattle.std.proofs.Common.{replicate, sym, ◌∙◌, ap, subst, arith}
use Rattle.std.proofs.lemmas.Bool.{cases_eq}
use Rattle.std.specs.List.{Contains}
use Rattle.cfb_header.specs.Bytes.{sector}
use Rattle.cfb_chains.specs.Chain.{AreDistinct}
use Rattle.cfb_chains.proofs.Blocks.{length_block, length_joined}
use Rattle.cfb_chains.proofs.Marks.{distinct_tail}
use Rattle.cfb_chains.specs.Fat.{set_all}
use Rattle.cfb_entries.specs.Tree.{Tree}
use Rattle.cfb_entries.specs.Whole.{IsTree}
use Rattle.cfb_file.specs.Denotes.{Denotes, Holds, Layout, Used, directory_of}
use Rattle.read_files.specs.Reads.{IsStorageRead, directory_in}
use Rattle.read_files.specs.declared.read.Reader.{Reader}
use Rattle.cfb_faults.proofs.Opened.{IsReady}
use Rattle.read_files.proofs.ReadingFile.{stands}
use Rattle.read_files.proofs.ReadingFound.{IsThere, storage_there}
use Rattle.cfb_faults.proofs.Lists.{distinct-head}
use Rattle.cfb_file.proofs.Unique.{layout_unique}
use Rattle.cfb_faults.proofs.There.{others_free}

-- the storage of the root
module _ (file : List ℕ) (l : Layout) (old : Reader) (r : IsReady file l old.fat old.mini (directory_in old))
    (loaded : old.entries.used ≡ set_all (replicate (length (directory_in old) / 128) false) (0 ∷ [])) where
  unfolded : length (directory_of file l) ≡ 512 * length l.directory
  unfolding directory_of
  unfolded = length_joined (sector file) 512 l.directory (λ n. length_block 512 file (512 + 512 * n))

  within : (n : ℕ) → 128 * n < length (directory_of file l) → n < length (directory_in old) / 128
  within n lt =
      let same : length (directory_in old) ≡ length (directory_of file l) = ap (λ (x : List ℕ). length x) r.bytes_are in
      omega (arith, unfolded, same)

  -- just the root is marked
  pub root_alone : (n : ℕ) → 128 * n < length (directory_in old) → get_or old.entries.used n true ≡ true → n ≡ 0
  root_alone n lt m =
      elim (cases_eq n 0) [
        | inl e ↦ e
        | inr ne ↦ absurd (let f : true ≡ false = sym m ∙ others_free old.entries n loaded ne
            (within n (subst (λ (d : List ℕ). 128 * n < length d) r.bytes_are lt)) in cc f)
      ]

  in_tree : (t : Tree) (used : Used) → Holds file l 0 t used → IsTree 32 t
      → AreDistinct (l.fat ++ l.difat ++ l.directory ++ l.mini_fat ++ l.mini_stream ++ used.sectors)
      → AreDistinct used.minis → AreDistinct (0 ∷ used.ids)
      → IsThere file l 32 0 t used old (l.fat ++ l.difat ++ l.directory ++ l.mini_fat ++ l.mini_stream) []
  in_tree t used h whole apart minis_apart ids_apart =
      storage_there file l 32 0 t used old (l.fat ++ l.difat ++ l.directory ++ l.mini_fat ++ l.mini_stream) []
      (stands file l old r) h whole apart minis_apart
      (distinct_tail 0 used.ids ids_apart)
      (λ n c lt. others_free old.entries n loaded
      (λ z. distinct-head 0 used.ids ids_apart (subst (Contains used.ids) z c)) (within n lt))

  pub storage_read : (t : Tree) → Denotes file t → (new : Reader) × IsStorageRead 32 0 t old new
  storage_read t d =
      let same : d.layout ≡ l = layout_unique file d.layout l d.laid_out r.laid_out in
      let there : IsThere file l 32 0 t d.used old (l.fat ++ l.difat ++ l.directory ++ l.mini_fat ++ l.mini_stream) [] =
      in_tree t d.used (subst (λ (x : Layout). Holds file x 0 t d.used) same d.holds) d.is_tree
      (subst (λ (x : Layout). AreDistinct (x.fat ++ x.difat ++ x.directory ++ x.mini_fat ++ x.mini_stream
      ++ d.used.sectors)) same d.sectors_apart) d.minis_apart d.ids_apart in
      (there.new, there.is_read)
