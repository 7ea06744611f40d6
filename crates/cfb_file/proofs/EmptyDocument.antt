-- The empty document's bytes denote its tree, by computing.
use Rattle.std.proofs.Common.{◌<◌, ◌≤◌, get_or, ◌≡◌, ℕ, zero, suc, [], ◌∷◌, refl, arith, lit≤, lit<}
use Rattle.std.specs.List.Sorted.{IsStrictlySortedBy}
use Rattle.cfb_header.specs.Bytes.{u16_at, u32_at, block}
use Rattle.cfb_header.specs.Header.{IsHeader}
use Rattle.cfb_chains.specs.Fat.{sectors_of}
use Rattle.cfb_entries.specs.Entries.{nobody}
use Rattle.cfb_file.specs.Denotes.{Denotes, IsLaidOut, Layout, nothing, directory_of, Holds}
use Rattle.cfb_file.specs.EmptyDocument.{empty_document, empty_tree}

header : IsHeader empty_document
unfolding empty_document u16_at u32_at
header = record {
  whole = lit≤ tt;
  signed = refl;
  major_version = refl;
  byte_order = refl;
  sector_shift = refl;
  mini_sector_shift = refl;
  cutoff = refl;
  fat_sectors = lit≤ tt;
  difat_sectors = lit≤ tt;
}

abbrev the_layout : Layout
the_layout = record { fat = 0 ∷ []; difat = []; directory = 1 ∷ []; mini_fat = []; mini_stream = [] }

only : (P : ℕ → Type 0) → P 0 → (k : ℕ) → k < 1 → P k
only P p zero h = p
only P p (suc k) h = absurd (omega arith)

one : (i j d x : ℕ) → i < j → j < 1 → get_or (x ∷ []) i d ≡ get_or (x ∷ []) j d → ⊥
one i j d x h l e = absurd (omega arith)

laid_out : IsLaidOut empty_document the_layout
unfolding empty_document u16_at u32_at block sectors_of directory_of
laid_out = record {
  fat_listed = refl;
  difat_listed = refl;
  fat_sectors = record {
    whole = refl;
    present = λ k d h. only (λ k. (get_or (0 ∷ []) k d ≤ 0xFFFFFFF9) × (get_or (0 ∷ []) k d < 2)) (lit≤ tt, lit< tt)
        k h;
    once = λ i j d h l. one i j d 0 h l;
  };
  directory = record {
    linked = (refl, refl);
    present = λ k d h. only (λ k. (get_or (1 ∷ []) k d ≤ 0xFFFFFFF9) × (get_or (1 ∷ []) k d < 2)) (lit≤ tt, lit< tt)
        k h;
    enough = lit≤ tt;
  };
  mini_fat = refl;
  mini_stream = refl;
}

holds : Holds empty_document the_layout 0 empty_tree nothing
unfolding empty_document u16_at u32_at block directory_of IsStrictlySortedBy
holds = (
  refl,
  refl,
  (
    [],
    record {
      reached = [];
      linked = nobody;
      once = λ i j d h l. absurd (omega arith);
      same = λ n. (λ c. c, λ c. c);
      ordered = tt;
    },
    refl,
  ),
)

two : (i j d : ℕ) → i < j → j < 2 → get_or (0 ∷ 1 ∷ []) i d ≡ get_or (0 ∷ 1 ∷ []) j d → ⊥
two i zero d h l e = omega arith
two zero (suc zero) d h l e = omega arith
two zero (suc (suc j)) d h l e = omega arith
two (suc i) (suc zero) d h l e = omega arith
two (suc i) (suc (suc j)) d h l e = omega arith

pub denoted : Denotes empty_document empty_tree
unfolding empty_document u16_at u32_at block directory_of
denoted = record {
  layout = the_layout;
  used = nothing;
  header = header;
  laid_out = laid_out;
  root = refl;
  holds = holds;
  sectors_apart = two;
  minis_apart = λ i j d h l. absurd (omega arith);
  ids_apart = λ i j d h l. absurd (omega arith);
  is_tree = tt;
}
