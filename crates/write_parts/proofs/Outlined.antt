-- Trees with one outline, whose files have the same front.
use Rattle.std.proofs.Common.{◌≡◌, ◌≤◌, ◌+◌, ◌*◌, ◌∙◌, ℕ, List, ◌++◌, cond, length, nat_lt, Err, Ok, refl, sym, ap}
use Rattle.std.proofs.Common.{subst}
use Rattle.cfb_entries.specs.Tree.{Tree}
use Rattle.write_parts.specs.Fronts.{front_bytes}
use Rattle.write_parts.specs.Blank.{blank}
use Rattle.write_parts.proofs.Blank.{as_many, as_spelled, blanked, same_data, same_directory_sectors, same_longs}
use Rattle.write_parts.proofs.Blank.{same_minis}
use Rattle.write_parts.proofs.BlankFront.{same_directory, same_front}
use Rattle.cfb_layout.specs.Directory.{IsSpelled, balanced, directory_of_tree, long_streams, parts_of, short_streams}
use Rattle.cfb_layout.specs.Image.{behind_fat, difat_numbers, image, padded, whole_pieces}
use Rattle.cfb_file.specs.Limits.{LISTED, MOST_FAT_SECTORS}
use Rattle.cfb_file.specs.Need.{data_sectors, difat_sectors, directory_sectors, entries, fat_sectors, long_sectors}
use Rattle.cfb_file.specs.Need.{mini_sectors}
use Rattle.cfb_file.specs.Outline.{outline_of}
use Rattle.cfb_file.specs.Refusals.{writable}
use Rattle.cfb_file.specs.declared.fault.WriteFault.TheVariants.{TooBig}
use Rattle.write_parts.specs.Counted.{AreEnough}
use Rattle.write_parts.specs.Filled.{fat_numbers, mini_numbers}
use Rattle.write_parts.specs.Front.{header_for}
use Rattle.write_parts.specs.declared.counts.Counts.{Counts}
use Rattle.write_parts.proofs.Whole.{image_of}

-- a file is its front, the mini stream and the long streams
pub front-image : (f : ℕ) (t : Tree)
    → image f (parts_of balanced f t) ≡ front_bytes f t ++ padded 512 (whole_pieces 64 (short_streams t))
    ++ whole_pieces 512 (long_streams t)
front-image f t =
    sym (image_of f t (header_for f t) (fat_numbers f t) (difat_numbers (difat_sectors f) f LISTED f)
    (mini_numbers t) refl refl refl refl)

-- what a tree has in common with the one of zeros, it has in common with each of its outline
carried {ℓ} : {A : Type ℓ} (of : Tree → A) → ((t : Tree) → of t ≡ of (blanked t)) → (t u : Tree)
    → outline_of t ≡ outline_of u → of t ≡ of u
carried of whole t u same = whole t ∙ ap (λ o. of (blank o)) same ∙ sym (whole u)

module _ (t u : Tree) (same : outline_of t ≡ outline_of u) where
  pub same-minis : mini_sectors t ≡ mini_sectors u
  same-minis = carried mini_sectors same_minis t u same

  pub same-longs : long_sectors t ≡ long_sectors u
  same-longs = carried long_sectors same_longs t u same

  needed_alike : data_sectors t ≡ data_sectors u
  needed_alike = carried data_sectors same_data t u same

  pub same-writable : writable t ≡ writable u
  same-writable = ap (λ n. cond (nat_lt MOST_FAT_SECTORS (fat_sectors n)) (Err TooBig) (Ok tt)) needed_alike

  pub same-enough : (c : Counts) → AreEnough c t → AreEnough c u
  same-enough c h = record {
    counts = record {
      few_sectors = h.counts.few_sectors;
      few_entries = h.counts.few_entries;
      few_minis = h.counts.few_minis;
      entries_counted = h.counts.entries_counted ∙ carried entries as_many t u same;
      minis_counted = h.counts.minis_counted ∙ same-minis;
      longs_counted = h.counts.longs_counted ∙ same-longs;
    };
    least = h.least ∙ ap fat_sectors needed_alike;
    covered = subst (λ (n : ℕ). behind_fat c.fat + n ≤ 128 * c.fat) needed_alike h.covered;
  }

  pub same-spelled : IsSpelled t → IsSpelled u
  same-spelled h = subst (λ (P : Type 0). P) (carried IsSpelled as_spelled t u same) h

  pub same-bytes : (f : ℕ) → front_bytes f t ≡ front_bytes f u
  same-bytes f = carried (front_bytes f) (same_front f) t u same

  -- and directories of as many bytes
  pub same-long : (f : ℕ) → length (directory_of_tree balanced f t) ≡ 512 * directory_sectors t
      → length (directory_of_tree balanced f u) ≡ 512 * directory_sectors u
  same-long f h =
      sym (ap (λ (xs : List ℕ). length xs) (carried (directory_of_tree balanced f) (same_directory balanced f) t u
      same))
      ∙ h ∙ ap (λ n. 512 * n) (carried directory_sectors same_directory_sectors t u same)
