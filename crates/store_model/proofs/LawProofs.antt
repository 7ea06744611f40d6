-- The laws on journals.
use Rattle.std.proofs.Common.{◌≡◌, ◌<◌, ◌≤◌, ◌+◌, ◌*◌, inl, inr, ⊎_elim, max, ℕ, List, [], ◌∷◌, true, arith}
use Rattle.std.proofs.lemmas.Bool.{cases_lt}
use Rattle.store_model.specs.Journal.{Block, fit}
use Rattle.store_model.specs.Laws.{BeginBelow, CoverFrom, Rise}
use Rattle.store_model.specs.Patches.{Misses}
use Rattle.store_model.proofs.Patched.{first_fits, fits_first, fits_none}

pub fit_rises : (size least end : ℕ) (bs : List Block) → fit size least end bs ≡ true → Rise least bs
fit_rises size least end [] fits = tt
fit_rises size least end (b ∷ bs) fits = let is = first_fits size least end b bs fits in
    (is.rises, fit_rises size (b.number + 1) (max end (512 * (b.number + 1))) bs is.rest)

pub fit_below : (size least end : ℕ) (bs : List Block) → fit size least end bs ≡ true → BeginBelow size bs
fit_below size least end [] fits = tt
fit_below size least end (b ∷ bs) fits = let is = first_fits size least end b bs fits in
    (is.below, fit_below size (b.number + 1) (max end (512 * (b.number + 1))) bs is.rest)

-- what is below all numbers is missed
rise_misses : (least p : ℕ) (bs : List Block) → Rise least bs → p < 512 * least → Misses p bs
rise_misses least p [] rise below = tt
rise_misses least p (b ∷ bs) rise below = let first = rise.0 in
    (inl (omega (arith, below, first)), rise_misses (b.number + 1) p bs rise.1 (omega (arith, below, first)))

pub fit_from : (size least end : ℕ) (bs : List Block) → Rise least bs → BeginBelow size bs → CoverFrom size end bs
    → fit size least end bs ≡ true
fit_from size least end [] rise below cover = fits_none size least end
    (⊎_elim (λ lt. let there = cover end lt tt in let none : ⊥ = omega (arith, there) in absurd none) (λ le. le)
    (cases_lt end size))
fit_from size least end (b ∷ bs) rise below cover =
    let begins = below.0 in
    let reached : 512 * b.number ≤ end = ⊎_elim
    (λ lt. let there = cover end (omega (arith, lt, begins))
    (inl lt, rise_misses (b.number + 1) end bs rise.1 (omega (arith, lt))) in
    let none : ⊥ = omega (arith, there) in absurd none)
    (λ le. le) (cases_lt end (512 * b.number)) in
    let more : CoverFrom size (max end (512 * (b.number + 1))) bs = λ p small misses.
    ⊎_elim (λ before. omega (arith, before, reached))
    (λ from. ⊎_elim (λ inside. omega (arith, inside)) (λ after. let there = cover p small (inr after, misses) in
    omega (arith, there)) (cases_lt p (512 * b.number + 512)))
    (cases_lt p (512 * b.number)) in
    fits_first size least end b bs
    (record {
      rises = rise.0;
      below = below.0;
      reached = reached;
      rest = fit_from size (b.number + 1) (max end (512 * (b.number + 1))) bs rise.1 below.1 more;
    })
