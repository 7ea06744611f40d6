-- What `open` finds in the journal, and when it is damaged.
use Rattle.std.proofs.Common.{◌≡◌, ◌<◌, ◌≤◌, ◌+◌, ◌*◌, length, false, true, None, refl, arith}
use Rattle.std.proofs.lemmas.Bool.Decides.{nat_tests}
use Rattle.store_model.specs.Image.{Image}
use Rattle.store_model.specs.Journal.{blocks_from, count_in, fit, form_in, is_open, restored, size_in}
use Rattle.store_model.specs.declared.limit.TheConstants.{MAX_DOCUMENT}
use Rattle.store_model.proofs.Installed.{blocks_are_whole, damaged, image_whole}
use Rattle.store_core.specs.Steps.{IsOpenWith}
use Rattle.store_core.specs.declared.found.Change.TheVariants.{Blocks, Whole}

pub too_long : (image : Image) → is_open image.journal ≡ true → MAX_DOCUMENT < size_in image.journal
    → restored image ≡ None
too_long image gate long = damaged image gate (grind (arith, nat_tests, long))

pub whole_short : (image : Image) → is_open image.journal ≡ true → form_in image.journal ≡ 0
    → length image.journal < 9 + size_in image.journal → restored image ≡ None
whole_short image gate form short = damaged image gate (grind (arith, nat_tests, form, short))

pub other_form : (image : Image) → is_open image.journal ≡ true → (form_in image.journal ≡ 0 → ⊥)
    → (form_in image.journal ≡ 1 → ⊥) → restored image ≡ None
other_form image gate not_whole not_blocks = damaged image gate (grind (arith, nat_tests, not_whole, not_blocks))

pub blocks_headless : (image : Image) → is_open image.journal ≡ true → form_in image.journal ≡ 1
    → length image.journal < 13 → restored image ≡ None
blocks_headless image gate form short = damaged image gate (grind (arith, nat_tests, form, short))

pub blocks_short : (image : Image) → is_open image.journal ≡ true → form_in image.journal ≡ 1
    → length image.journal < 13 + 516 * count_in image.journal → restored image ≡ None
blocks_short image gate form short = damaged image gate (grind (arith, nat_tests, form, short))

pub blocks_unfit : (image : Image) → is_open image.journal ≡ true → form_in image.journal ≡ 1
    → fit (size_in image.journal) 0 (length image.document) (blocks_from (count_in image.journal) 13 image.journal)
    ≡ false → restored image ≡ None
blocks_unfit image gate form unfit = damaged image gate (grind (arith, nat_tests, form, unfit))

pub whole_found : (image : Image) → is_open image.journal ≡ true → form_in image.journal ≡ 0
    → size_in image.journal ≤ MAX_DOCUMENT → 9 + size_in image.journal ≤ length image.journal
    → IsOpenWith (Whole (size_in image.journal)) image
whole_found image gate form small room =
    record {
      gate = gate;
      whole = image_whole image (record { form = form; small = small; room = room });
      holds = (form, refl);
    }

pub blocks_found : (image : Image) → is_open image.journal ≡ true → form_in image.journal ≡ 1
    → size_in image.journal ≤ MAX_DOCUMENT → 13 ≤ length image.journal → 13 + 516 * count_in image.journal
    ≤ length image.journal
    → fit (size_in image.journal) 0 (length image.document) (blocks_from (count_in image.journal) 13 image.journal)
    ≡ true → IsOpenWith (Blocks (count_in image.journal) (size_in image.journal)) image
blocks_found image gate form small head room fits =
    record {
      gate = gate;
      whole = blocks_are_whole image
          (record { form = form; small = small; head = head; room = room; fits = fits });
      holds = (form, refl, refl);
    }
