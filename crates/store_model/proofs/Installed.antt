-- While an open journal is carried out, the disk stands for what it stood for.
use Rattle.std.proofs.Common.{◌≡◌, ◌<◌, ◌≤◌, ◌+◌, ◌*◌, ◌⊎◌, inl, inr, ⊎_elim, ℕ, List, length, take, drop, true, false}
use Rattle.std.proofs.Common.{Some, None, sym, ◌∙◌, ap, subst, arith}
use Rattle.std.proofs.lemmas.Bool.{cases_Bool, cases_eq, cases_lt}
use Rattle.std.proofs.lemmas.Bool.Decides.{nat_tests}
use Rattle.store_model.specs.Crash.{CutShort, Torn}
use Rattle.store_model.specs.Image.{Image}
use Rattle.store_model.specs.Journal.{Block, blocks_in, changed_document, count_in, fit, form_in, is_open, is_whole}
use Rattle.store_model.specs.Journal.{patched, restored, size_in}
use Rattle.store_model.specs.Patches.{IsTold, Misses}
use Rattle.store_model.specs.declared.limit.TheConstants.{MAX_DOCUMENT}
use Rattle.store_model.proofs.Patched.{Makes, made, makes_fit, makes_is}
use Rattle.store_model.proofs.Points.{cut_inside, torn_outside}
use Rattle.store_model.proofs.Spelled.{blocks_whole}

-- an open journal that isn't damaged
pub restores : (image : Image) → is_open image.journal ≡ true → is_whole image ≡ true
    → restored image ≡ Some (changed_document image)
restores image gate whole = grind (arith, nat_tests, gate, whole)

pub damaged : (image : Image) → is_open image.journal ≡ true → is_whole image ≡ false → restored image ≡ None
damaged image gate not_whole = grind (arith, nat_tests, gate, not_whole)

pub some_whole : (image : Image) (document : List ℕ) → is_open image.journal ≡ true → restored image ≡ Some document
    → is_whole image ≡ true
some_whole image document gate is = ⊎_elim (λ whole. whole) (λ not_whole. let no : Some document ≡ None =
    sym is ∙ damaged image gate not_whole in grind (arith, no)) (cases_Bool (is_whole image))

pub some_changed : (image : Image) (document : List ℕ) → is_open image.journal ≡ true
    → restored image ≡ Some document → changed_document image ≡ document
some_changed image document gate is = let same : Some (changed_document image) ≡ Some document =
    sym (restores image gate (some_whole image document gate is)) ∙ is in grind (arith, same)

-- what it is for a journal in form 0 not to be damaged
pub record IsWholeImage (image : Image) : Type 0 where
  pub form : form_in image.journal ≡ 0
  pub small : size_in image.journal ≤ MAX_DOCUMENT
  pub room : 9 + size_in image.journal ≤ length image.journal

-- and for one in form 1
pub record IsBlocksImage (image : Image) : Type 0 where
  pub form : form_in image.journal ≡ 1
  pub small : size_in image.journal ≤ MAX_DOCUMENT
  pub head : 13 ≤ length image.journal
  pub room : 13 + 516 * count_in image.journal ≤ length image.journal
  pub fits : fit (size_in image.journal) 0 (length image.document) (blocks_in image.journal) ≡ true

pub whole_forms : (image : Image) → is_whole image ≡ true → IsWholeImage image ⊎ IsBlocksImage image
whole_forms image whole = ⊎_elim
    (λ form. inl (record {
      form = form;
      small = grind (arith, nat_tests, whole);
      room = grind (arith, nat_tests, whole, form);
    }))
    (λ not_form. inr (record {
      form = grind (arith, nat_tests, whole, not_form);
      small = grind (arith, nat_tests, whole);
      head = grind (arith, nat_tests, whole, not_form);
      room = grind (arith, nat_tests, whole, not_form);
      fits = grind (arith, nat_tests, whole, not_form);
    }))
    (cases_eq (form_in image.journal) 0)

pub image_whole : (image : Image) → IsWholeImage image → is_whole image ≡ true
image_whole image is = grind (arith, nat_tests, is.form, is.small, is.room)

pub blocks_are_whole : (image : Image) → IsBlocksImage image → is_whole image ≡ true
blocks_are_whole image is = grind (arith, nat_tests, is.form, is.small, is.head, is.room, is.fits)

pub image_changed : (image : Image) → form_in image.journal ≡ 0 → changed_document image
    ≡ take (size_in image.journal) (drop 9 image.journal)
image_changed image form = grind (arith, nat_tests, form)

pub blocks_changed : (image : Image) → form_in image.journal ≡ 1 → changed_document image
    ≡ take (size_in image.journal) (patched image.document (blocks_in image.journal))
blocks_changed image form = grind (arith, nat_tests, form)

pub blocks_make : (image : Image) (document : List ℕ) → IsBlocksImage image → changed_document image ≡ document
    → Makes document (size_in image.journal) (blocks_in image.journal) image.document
blocks_make image document is same = made document (size_in image.journal) (blocks_in image.journal) image.document
    is.fits (blocks_whole (count_in image.journal) 13 image.journal is.room)
    (sym (blocks_changed image is.form) ∙ same)

-- another document area beside the journal
pub blocks_made : (image other : Image) (document : List ℕ) → IsBlocksImage image → other.journal ≡ image.journal
    → Makes document (size_in image.journal) (blocks_in image.journal) other.document → is_open image.journal ≡ true
    → restored other ≡ Some document
blocks_made image other document is same makes gate =
    let at : (journal : List ℕ) → journal ≡ image.journal → Makes document (size_in journal) (blocks_in journal)
    other.document = λ journal e. subst (λ (j : List ℕ). Makes document (size_in j) (blocks_in j)
    other.document) (sym e) makes in
    let here = at other.journal same in
    let parts : IsBlocksImage other = record {
      form = ap form_in same ∙ is.form;
      small = subst (λ (j : List ℕ). size_in j ≤ MAX_DOCUMENT) (sym same) is.small;
      head = subst (λ (j : List ℕ). 13 ≤ length j) (sym same) is.head;
      room = subst (λ (j : List ℕ). 13 + 516 * count_in j ≤ length j) (sym same) is.room;
      fits = makes_fit document (size_in other.journal) (length image.document) (blocks_in other.journal)
          other.document (subst (λ (j : List ℕ). fit (size_in j) 0 (length image.document) (blocks_in j) ≡ true)
          (sym same) is.fits) here;
    } in
    restores other (ap is_open same ∙ gate) (blocks_are_whole other parts)
    ∙ ap (λ (d : List ℕ). Some d) (blocks_changed other parts.form ∙ makes_is document (size_in other.journal)
    (blocks_in other.journal) other.document parts.fits
    (blocks_whole (count_in other.journal) 13 other.journal parts.room) here)

-- in form 0 the document area doesn't matter
pub image_stands : (image other : Image) → IsWholeImage image → other.journal ≡ image.journal
    → is_open image.journal ≡ true → restored other ≡ restored image
image_stands image other is same gate =
    let parts : IsWholeImage other = record {
      form = ap form_in same ∙ is.form;
      small = subst (λ (j : List ℕ). size_in j ≤ MAX_DOCUMENT) (sym same) is.small;
      room = subst (λ (j : List ℕ). 9 + size_in j ≤ length j) (sym same) is.room;
    } in
    restores other (ap is_open same ∙ gate) (image_whole other parts)
    ∙ ap (λ (d : List ℕ). Some d) (image_changed other parts.form ∙ ap (λ (j : List ℕ). take (size_in j) (drop 9 j))
    same ∙ sym (image_changed image is.form))
    ∙ sym (restores image gate (image_whole image is))

makes_torn : (document : List ℕ) (size : ℕ) (bs : List Block) (at n : ℕ) (old new : List ℕ)
    → ((p : ℕ) → at ≤ p → p < at + n → Misses p bs → ⊥) → Torn at n old new → Makes document size bs old
    → Makes document size bs new
makes_torn document size bs at n old new told torn makes = record {
  tells = makes.tells;
  long = makes.long;
  agrees = λ p small misses.
      let was = makes.agrees p small misses in
      let there = was.0 in
      let longer = torn.no_shorter in (
        omega (arith, there, longer),
        ⊎_elim (λ before. torn_outside at n old new p torn (inl before) there)
            (λ from. ⊎_elim (λ inside. absurd (told p from inside misses))
            (λ after. torn_outside at n old new p torn (inr after) there) (cases_lt p (at + n)))
            (cases_lt p at)
            ∙ was.1,
      );
}

makes_cut : (document : List ℕ) (size : ℕ) (bs : List Block) (old new : List ℕ) → CutShort size old new
    → Makes document size bs old → Makes document size bs new
makes_cut document size bs old new cut makes = record {
  tells = makes.tells;
  long = makes.long;
  agrees = λ p small misses.
      let was = makes.agrees p small misses in
      let there = was.0 in
      let longer = cut.no_shorter in
      let here : p < length new = omega (arith, there, small, longer) in
      (here, cut_inside size old new p cut here ∙ was.1);
}

-- a torn write of bytes that the journal tells
pub torn_stands : (image other : Image) (document : List ℕ) (at n : ℕ) → is_open image.journal ≡ true
    → restored image ≡ Some document → IsTold image.journal at n
    → Torn at n image.document other.document → other.journal ≡ image.journal → restored other ≡ Some document
torn_stands image other document at n gate is told torn same = ⊎_elim
    (λ form0. image_stands image other form0 same gate ∙ is)
    (λ form1. blocks_made image other document form1 same
    (makes_torn document (size_in image.journal) (blocks_in image.journal) at n image.document other.document
    (⊎_elim (λ form. let no : 0 ≡ 1 = sym form ∙ form1.form in let none : ⊥ = omega (arith, no) in absurd none)
    (λ all. all) told)
    torn (blocks_make image document form1 (some_changed image document gate is))) gate)
    (whole_forms image (some_whole image document gate is))

-- a cut to the new length, wherever it ends
pub cut_stands : (image other : Image) (document : List ℕ) → is_open image.journal ≡ true
    → restored image ≡ Some document
    → CutShort (size_in image.journal) image.document other.document → other.journal ≡ image.journal
    → restored other ≡ Some document
cut_stands image other document gate is cut same = ⊎_elim
    (λ form0. image_stands image other form0 same gate ∙ is)
    (λ form1. blocks_made image other document form1 same
    (makes_cut document (size_in image.journal) (blocks_in image.journal) image.document other.document cut
    (blocks_make image document form1 (some_changed image document gate is))) gate)
    (whole_forms image (some_whole image document gate is))
