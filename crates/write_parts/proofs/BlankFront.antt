-- The front of a tree's file, which is that of the tree whose streams are as many zeros.
use Rattle.std.proofs.Common.{◌≡◌, ◌+◌, ◌-◌, ◌*◌, ℕ, List, ◌∷◌, ◌++◌, length, min, replicate, slice_index, refl}
use Rattle.std.specs.Int.{to_le_bytes, w32}
use Rattle.std.specs.List.{concat, flat_map, range_with_len}
use Rattle.cfb_header.specs.Header.{header_bytes}
use Rattle.cfb_entries.specs.Entries.{NO_STREAM, root_name}
use Rattle.cfb_entries.specs.Written.{entry_bytes, free_entry_bytes}
use Rattle.cfb_entries.specs.declared.entries.EntryKind.TheVariants as kinds
use Rattle.cfb_entries.specs.Tree.{Tree, Children, tree, none, stream, storage}
use Rattle.write_parts.specs.Fronts.{front_bytes}
use Rattle.write_parts.proofs.Blank.{all_blanked, as_long, as_many, blanked, long_sized, same_directory_sectors}
use Rattle.write_parts.proofs.Blank.{same_long, same_longs, same_mini_fat, same_mini_stream, same_minis, same_short}
use Rattle.write_parts.proofs.Blank.{short_sized}
use Rattle.cfb_layout.specs.Directory.{Siblings, balanced, child_of, class_in, directory_of_tree, each_entry}
use Rattle.cfb_layout.specs.Directory.{entries_below, ids_from, linked, long_start, root_says, state_in, storage_says}
use Rattle.cfb_layout.specs.Directory.{stream_says}
use Rattle.cfb_layout.specs.Image.{behind_fat, difat_numbers, own_entries, runs, start}
use Rattle.cfb_file.specs.Limits.{LISTED}
use Rattle.cfb_file.specs.Need.{difat_sectors}
use Rattle.write_parts.specs.Filled.{fat_numbers, filled, mini_numbers}
use Rattle.write_parts.specs.Front.{header_for}

-- ---- the entries of siblings, and what a storage's entry says
same_ids : (id : ℕ) (cs : Children) → ids_from id cs ≡ ids_from id (all_blanked cs)
same_ids id none = refl
same_ids id (stream k n b cs) = λ i. id ∷ same_ids (id + 1) cs i
same_ids id (storage k n t cs) = λ i. id ∷ same_ids (id + 1 + as_many t i) cs i

same_class : (t : Tree) → class_in t ≡ class_in (blanked t)
same_class (tree class state cs) = refl

same_state : (t : Tree) → state_in t ≡ state_in (blanked t)
same_state (tree class state cs) = refl

same_start : (f : ℕ) (t : Tree) → long_start f t ≡ long_start f (blanked t)
same_start f t = λ i. behind_fat f + same_directory_sectors t i + same_mini_fat t i + same_mini_stream t i

module _ (links : ℕ → Siblings) where
  same_child : (id : ℕ) (t : Tree) → child_of links id t ≡ child_of links id (blanked t)
  same_child id (tree class state cs) = λ i. linked (same_ids (id + 1) cs i)
      (links (length (same_ids (id + 1) cs i))).top

  same_storage : (ids : List ℕ) (place id : ℕ) (t : Tree) → storage_says links ids place id t
      ≡ storage_says links ids place id (blanked t)
  same_storage ids place id t = λ i. record {
    kind = kinds.Storage;
    left = linked ids (slice_index (links (length ids)).left place);
    right = linked ids (slice_index (links (length ids)).right place);
    child = same_child id t i;
    class = same_class t i;
    state = same_state t i;
    first = 0;
    size = 0;
  }

  same_root : (f : ℕ) (t : Tree) → root_says links f t ≡ root_says links f (blanked t)
  same_root f t = λ i. record {
    kind = kinds.Root;
    left = NO_STREAM;
    right = NO_STREAM;
    child = same_child 0 t i;
    class = same_class t i;
    state = same_state t i;
    first = start (behind_fat f + same_directory_sectors t i + same_mini_fat t i) (same_mini_stream t i);
    size = 64 * same_minis t i;
  }

  -- ---- the directory
  mutual
    same_below : (id mini sector : ℕ) (t : Tree) → entries_below links id mini sector t
        ≡ entries_below links id mini sector (blanked t)
    same_below id mini sector (tree class state cs) = λ i. same_each (same_ids (id + 1) cs i) 0 (id + 1) mini sector
        cs i

    same_each : (ids : List ℕ) (place id mini sector : ℕ) (cs : Children)
        → each_entry links ids place id mini sector cs ≡ each_entry links ids place id mini sector (all_blanked cs)
    same_each ids place id mini sector none = refl
    same_each ids place id mini sector (stream k n b cs) =
        λ i. entry_bytes n (stream_says links ids place mini sector (as_long b i))
        ++ same_each ids (place + 1) (id + 1) (mini + short_sized b i) (sector + long_sized b i) cs i
    same_each ids place id mini sector (storage k n t cs) =
        λ i. entry_bytes n (same_storage ids place id t i)
        ++ (same_below id mini sector t i
        ++ same_each ids (place + 1) (id + 1 + as_many t i) (mini + same_minis t i) (sector + same_longs t i) cs i)

  pub same_directory : (f : ℕ) (t : Tree) → directory_of_tree links f t ≡ directory_of_tree links f (blanked t)
  same_directory f t =
      λ i. entry_bytes root_name (same_root f t i)
      ++ (same_below 0 0 (same_start f t i) t i ++ concat
      (replicate (4 * same_directory_sectors t i - (1 + as_many t i)) free_entry_bytes))

-- ---- the header and the tables
same_header : (f : ℕ) (t : Tree) → header_for f t ≡ header_for f (blanked t)
same_header f t = λ i. header_bytes (record {
  fat_count = f;
  fat = range_with_len 0 (min f LISTED);
  first_difat = start f (difat_sectors f);
  difat_count = difat_sectors f;
  first_directory = behind_fat f;
  first_mini_fat = start (behind_fat f + same_directory_sectors t i) (same_mini_fat t i);
  mini_fat_count = same_mini_fat t i;
})

same_fat : (f : ℕ) (t : Tree) → fat_numbers f t ≡ fat_numbers f (blanked t)
same_fat f t =
    λ i. filled f (own_entries f ++ runs (behind_fat f)
    (same_directory_sectors t i ∷ same_mini_fat t i ∷ same_mini_stream t i ∷ same_long t i))

same_mini_numbers : (t : Tree) → mini_numbers t ≡ mini_numbers (blanked t)
same_mini_numbers t = λ i. filled (same_mini_fat t i) (runs 0 (same_short t i))

pub same_front : (f : ℕ) (t : Tree) → front_bytes f t ≡ front_bytes f (blanked t)
same_front f t =
    λ i. same_header f t i ++ flat_map (to_le_bytes w32) (same_fat f t i) ++ flat_map (to_le_bytes w32)
    (difat_numbers (difat_sectors f) f LISTED f)
    ++ same_directory balanced f t i ++ flat_map (to_le_bytes w32) (same_mini_numbers t i)
