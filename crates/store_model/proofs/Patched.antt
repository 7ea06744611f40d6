-- A document with blocks in their places, byte by byte.
use Rattle.std.proofs.Common.{◌≡◌, ◌<◌, ◌≤◌, ◌+◌, ◌-◌, ◌*◌, ◌⊎◌, inl, inr, ⊎_elim, max, ℕ, List, [], ◌∷◌, length}
use Rattle.std.proofs.Common.{get_or, take, true, false, refl, sym, ◌∙◌, ap, subst, arith, length-take}
use Rattle.std.proofs.lemmas.Bool.{cases_lt}
use Rattle.std.proofs.lemmas.Bool.Decides.{nat_tests}
use Rattle.std.proofs.lemmas.Grind.{same_number_lists}
use Rattle.std.proofs.lemmas.List.{get_or-take}
use Rattle.store_model.specs.Image.{put}
use Rattle.store_model.specs.Journal.{Block, fit, patched}
use Rattle.store_model.specs.Patches.{Agrees, AreWhole, Misses, Tell}
use Rattle.store_model.proofs.Points.{length_put, put_inside, put_outside}

-- what it is for the first block to fit
pub record FitsFirst (size least end : ℕ) (b : Block) (bs : List Block) : Type 0 where
  pub rises : least ≤ b.number
  pub below : 512 * b.number < size
  pub reached : 512 * b.number ≤ end
  pub rest : fit size (b.number + 1) (max end (512 * (b.number + 1))) bs ≡ true

pub first_fits : (size least end : ℕ) (b : Block) (bs : List Block) → fit size least end (b ∷ bs) ≡ true
    → FitsFirst size least end b bs
first_fits size least end b bs fits = record {
  rises = grind (arith, nat_tests, fits);
  below = grind (arith, nat_tests, fits);
  reached = grind (arith, nat_tests, fits);
  rest = grind (arith, nat_tests, fits);
}

pub fits_first : (size least end : ℕ) (b : Block) (bs : List Block) → FitsFirst size least end b bs
    → fit size least end (b ∷ bs) ≡ true
fits_first size least end b bs is = grind (arith, nat_tests, is.rises, is.below, is.reached, is.rest)

pub unfit_rise : (size least end : ℕ) (b : Block) (bs : List Block) → b.number < least
    → fit size least end (b ∷ bs) ≡ false
unfit_rise size least end b bs below = grind (arith, nat_tests, below)

pub unfit_below : (size least end : ℕ) (b : Block) (bs : List Block) → size ≤ 512 * b.number
    → fit size least end (b ∷ bs) ≡ false
unfit_below size least end b bs past = grind (arith, nat_tests, past)

pub unfit_reach : (size least end : ℕ) (b : Block) (bs : List Block) → end < 512 * b.number
    → fit size least end (b ∷ bs) ≡ false
unfit_reach size least end b bs past = grind (arith, nat_tests, past)

pub fits_on : (size least end : ℕ) (b : Block) (bs : List Block) → least ≤ b.number → 512 * b.number < size
    → 512 * b.number ≤ end → fit size least end (b ∷ bs) ≡ fit size (b.number + 1) (max end (512 * (b.number + 1)))
    bs
fits_on size least end b bs rises below reached = grind (arith, nat_tests, rises, below, reached)

pub none_fits : (size least end : ℕ) → fit size least end [] ≡ true → size ≤ end
none_fits size least end fits = grind (arith, nat_tests, fits)

pub fits_none : (size least end : ℕ) → size ≤ end → fit size least end [] ≡ true
fits_none size least end le = grind (arith, nat_tests, le)

-- what is below all numbers is missed
pub below_misses : (size least end p : ℕ) (bs : List Block) → fit size least end bs ≡ true → p < 512 * least
    → Misses p bs
below_misses size least end p [] fits below = tt
below_misses size least end p (b ∷ bs) fits below =
    let is = first_fits size least end b bs fits in let rises = is.rises in (
      inl (omega (arith, below, rises)),
      below_misses size (b.number + 1) (max end (512 * (b.number + 1))) p bs
          is.rest (omega (arith, below, rises)),
    )

-- what is missed is not past the end
pub covered : (size least end p : ℕ) (bs : List Block) → fit size least end bs ≡ true → p < size → Misses p bs → p < end
covered size least end p [] fits small misses = let le = none_fits size least end fits in omega (arith, small, le)
covered size least end p (b ∷ bs) fits small misses =
    let is = first_fits size least end b bs fits in let reached = is.reached in
    let so_far : p < max end (512 * (b.number + 1)) = covered size (b.number + 1) (max end (512 * (b.number + 1))) p
    bs is.rest small misses.1 in
    ⊎_elim (λ before. omega (arith, before, reached)) (λ after. omega (arith, so_far, after)) misses.0

-- Blocks that fit fit each document that has what they miss.
pub refitted : (size least end other : ℕ) (bs : List Block) → fit size least end bs ≡ true
    → ((p : ℕ) → p < size → Misses p bs → p < other) → fit size least other bs ≡ true
refitted size least end other [] fits has = fits_none size least other
    (⊎_elim (λ lt. let none : ⊥ = let there = has other lt tt in omega (arith, there) in absurd none) (λ le. le)
    (cases_lt other size))
refitted size least end other (b ∷ bs) fits has =
    let is = first_fits size least end b bs fits in
    let below = is.below in
    let reached : 512 * b.number ≤ other =
    ⊎_elim
    (λ lt. let there = has other (omega (arith, lt, below)) (
      inl lt,
      below_misses size (b.number + 1) (max end (512 * (b.number + 1))) other bs is.rest
          (omega (arith, lt)),
    ) in omega (arith, there))
    (λ le. le) (cases_lt other (512 * b.number)) in
    let more : (p : ℕ) → p < size → Misses p bs → p < max other (512 * (b.number + 1)) = λ p small misses.
    ⊎_elim (λ before. omega (arith, before, reached))
    (λ from. ⊎_elim (λ inside. omega (arith, inside)) (λ after. let there = has p small (inr after, misses) in
    omega (arith, there)) (cases_lt p (512 * b.number + 512)))
    (cases_lt p (512 * b.number)) in
    fits_first size least other b bs
    (record {
      rises = is.rises;
      below = is.below;
      reached = reached;
      rest = refitted size (b.number + 1) (max end (512 * (b.number + 1))) (max other (512 * (b.number + 1))) bs
          is.rest more;
    })

-- where the first block is written, the area agrees outside of the others
pub agrees_put : (document : List ℕ) (size : ℕ) (b : Block) (bs : List Block) (area : List ℕ)
    → 512 * b.number ≤ length area → length b.bytes ≡ 512
    → ((q : ℕ) → q < 512 → 512 * b.number + q < size → get_or b.bytes q 0 ≡ get_or document (512 * b.number + q) 0)
    → Agrees document size (b ∷ bs) area → Agrees document size bs (put area (512 * b.number) b.bytes)
agrees_put document size b bs area reached whole tells agrees p small misses =
    let long = length_put area b.bytes (512 * b.number) reached in
    let outside : p < 512 * b.number ⊎ 512 * b.number + 512 ≤ p → (p < length (put area (512 * b.number) b.bytes))
    × (get_or (put area (512 * b.number) b.bytes) p 0 ≡ get_or document p 0) = λ out.
    let was = agrees p small (out, misses) in
    let there = was.0 in (
      omega (arith, there, long),
      put_outside area b.bytes (512 * b.number) p reached
          (subst (λ (n : ℕ). p < 512 * b.number ⊎ 512 * b.number + n ≤ p) (sym whole) out) ∙ was.1,
    ) in
    let inside : 512 * b.number ≤ p → p < 512 * b.number + 512 → (p < length (put area (512 * b.number) b.bytes))
    × (get_or (put area (512 * b.number) b.bytes) p 0 ≡ get_or document p 0) = λ from to.
    let here : 512 * b.number + (p - 512 * b.number) ≡ p = omega (arith, from) in (
      omega (arith, to, long, whole),
      put_inside area b.bytes (512 * b.number) p reached from (omega (arith, to, whole))
          ∙ tells (p - 512 * b.number) (omega (arith, from, to)) (omega (arith, from, small))
          ∙ ap (λ (n : ℕ). get_or document n 0) here,
    ) in
    ⊎_elim (λ before. outside (inl before)) (λ from. ⊎_elim (λ to. inside from to) (λ after. outside (inr after))
    (cases_lt p (512 * b.number + 512))) (cases_lt p (512 * b.number))

-- the end of a document once its first block is written
pub end_put : (b : Block) (area : List ℕ) → 512 * b.number ≤ length area → length b.bytes ≡ 512
    → length (put area (512 * b.number) b.bytes) ≡ max (length area) (512 * (b.number + 1))
end_put b area reached whole = let long = length_put area b.bytes (512 * b.number) reached in omega (arith, long, whole)

rest_fits : (size least : ℕ) (b : Block) (bs : List Block) (area : List ℕ) → FitsFirst size least (length area) b bs
    → length b.bytes ≡ 512
    → fit size (b.number + 1) (length (put area (512 * b.number) b.bytes)) bs ≡ true
rest_fits size least b bs area is whole = subst (λ (n : ℕ). fit size (b.number + 1) n bs ≡ true)
    (sym (end_put b area is.reached whole)) is.rest

-- once all blocks are written, the area agrees everywhere
pub patched_agrees : (document : List ℕ) (size least : ℕ) (bs : List Block) (area : List ℕ)
    → fit size least (length area) bs ≡ true → AreWhole bs → Tell document size bs
    → Agrees document size bs area → Agrees document size [] (patched area bs)
patched_agrees document size least [] area fits whole tells agrees = agrees
patched_agrees document size least (b ∷ bs) area fits whole tells agrees =
    let is = first_fits size least (length area) b bs fits in
    patched_agrees document size (b.number + 1) bs (put area (512 * b.number) b.bytes)
    (rest_fits size least b bs area is whole.0) whole.1 tells.1
    (agrees_put document size b bs area is.reached whole.0 tells.0 agrees)

pub patched_keeps : (size least : ℕ) (bs : List Block) (area : List ℕ) (p : ℕ)
    → fit size least (length area) bs ≡ true → AreWhole bs → Misses p bs → get_or (patched area bs) p 0
    ≡ get_or area p 0
patched_keeps size least [] area p fits whole misses = refl
patched_keeps size least (b ∷ bs) area p fits whole misses =
    let is = first_fits size least (length area) b bs fits in
    patched_keeps size (b.number + 1) bs (put area (512 * b.number) b.bytes) p
    (rest_fits size least b bs area is whole.0) whole.1 misses.1
    ∙ put_outside area b.bytes (512 * b.number) p is.reached
    (subst (λ (n : ℕ). p < 512 * b.number ⊎ 512 * b.number + n ≤ p) (sym whole.0) misses.0)

-- the blocks tell what they make of a document
pub patched_tells : (size least : ℕ) (bs : List Block) (area : List ℕ) → fit size least (length area) bs ≡ true
    → AreWhole bs → Tell (patched area bs) size bs
patched_tells size least [] area fits whole = tt
patched_tells size least (b ∷ bs) area fits whole =
    let is = first_fits size least (length area) b bs fits in
    let reached = is.reached in
    let rest = rest_fits size least b bs area is whole.0 in (
      λ q within small. sym (
          patched_keeps size (b.number + 1) bs (put area (512 * b.number) b.bytes) (512 * b.number + q) rest whole.1
          (below_misses size (b.number + 1) (length (put area (512 * b.number) b.bytes)) (512 * b.number + q) bs
          rest (omega (arith, within)))
          ∙ put_inside area b.bytes (512 * b.number) (512 * b.number + q) is.reached (omega arith)
          (let w = whole.0 in omega (arith, within, w))
          ∙ ap (λ (n : ℕ). get_or b.bytes n 0) (omega arith)),
      patched_tells size (b.number + 1) bs (put area (512 * b.number) b.bytes) rest whole.1,
    )

pub patched_long : (size least : ℕ) (bs : List Block) (area : List ℕ) → fit size least (length area) bs ≡ true
    → AreWhole bs → size ≤ length (patched area bs)
patched_long size least [] area fits whole = none_fits size least (length area) fits
patched_long size least (b ∷ bs) area fits whole =
    let is = first_fits size least (length area) b bs fits in
    patched_long size (b.number + 1) bs (put area (512 * b.number) b.bytes)
    (rest_fits size least b bs area is whole.0) whole.1

pub told_alike : (document other : List ℕ) (size : ℕ) (bs : List Block)
    → ((p : ℕ) → p < size → get_or document p 0 ≡ get_or other p 0) → Tell document size bs → Tell other size bs
told_alike document other size [] alike tells = tt
told_alike document other size (b ∷ bs) alike tells = (
  λ q within small. tells.0 q within small ∙ alike (512 * b.number + q) small,
  told_alike document other size bs
      alike tells.1,
)

-- an area that agrees everywhere is the document, once it is cut
pub agreed : (document area : List ℕ) (size : ℕ) → length document ≡ size → Agrees document size [] area
    → take size area ≡ document
agreed document area size long agrees =
    let enough : size ≤ length area = ⊎_elim (λ lt. let there = (agrees (length area) lt tt).0 in
    let none : ⊥ = omega (arith, there) in absurd none) (λ le. le) (cases_lt (length area) size) in
    let cut = length-take size area in
    same_number_lists (take size area) document (omega (arith, long, enough, cut))
    (λ k below. get_or-take size area k 0 (omega (arith, below, cut)) ∙ (agrees k (omega (arith, below, cut)) tt).1)

-- What blocks that fit make of an area: they tell it, and outside of them the area has it.
pub record Makes (document : List ℕ) (size : ℕ) (bs : List Block) (area : List ℕ) : Type 0 where
  pub tells : Tell document size bs
  pub agrees : Agrees document size bs area
  pub long : length document ≡ size

pub made : (document : List ℕ) (size : ℕ) (bs : List Block) (area : List ℕ) → fit size 0 (length area) bs ≡ true
    → AreWhole bs → take size (patched area bs) ≡ document → Makes document size bs area
made document size bs area fits whole is =
    let enough = patched_long size 0 bs area fits whole in
    let alike : (p : ℕ) → p < size → get_or (patched area bs) p 0 ≡ get_or document p 0 =
    λ p small. sym (get_or-take size (patched area bs) p 0 small) ∙ ap (λ (l : List ℕ). get_or l p 0) is in
    record {
      tells = told_alike (patched area bs) document size bs alike (patched_tells size 0 bs area fits whole);
      agrees = λ p small misses. (
        covered size 0 (length area) p bs fits small misses,
        sym (patched_keeps size 0 bs area p fits whole misses) ∙ alike p small,
      );
      long = let cut = length-take size (patched area bs) in sym (ap length is) ∙ omega (arith, cut, enough);
    }

pub makes_fit : (document : List ℕ) (size end : ℕ) (bs : List Block) (area : List ℕ) → fit size 0 end bs ≡ true
    → Makes document size bs area → fit size 0 (length area) bs ≡ true
makes_fit document size end bs area fits makes = refitted size 0 end (length area) bs fits
    (λ p small misses. (makes.agrees p small misses).0)

pub makes_is : (document : List ℕ) (size : ℕ) (bs : List Block) (area : List ℕ) → fit size 0 (length area) bs ≡ true
    → AreWhole bs → Makes document size bs area → take size (patched area bs) ≡ document
makes_is document size bs area fits whole makes = agreed document (patched area bs) size makes.long
    (patched_agrees document size 0 bs area fits whole makes.tells makes.agrees)
