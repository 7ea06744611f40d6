-- Blocks that follow one another, and parts of the journal's blocks.
use Rattle.std.proofs.Common.{◌≡◌, ◌<◌, ◌≤◌, ◌+◌, ◌-◌, ◌*◌, inl, ⊎_elim, max, ℕ, zero, suc, List, [], ◌∷◌, ◌++◌, length}
use Rattle.std.proofs.Common.{take, drop, true, refl, sym, ◌∙◌, ap, subst, arith, length-append, length-take}
use Rattle.std.specs.Int.{w32, from_le_bytes}
use Rattle.std.proofs.lemmas.Bool.{cases_lt}
use Rattle.std.proofs.lemmas.List.{append-nil, append_assoc, drop-drop, drop_at, drop-take, take-append-drop, take-take}
use Rattle.std.proofs.lemmas.List.{take_at}
use Rattle.store_model.specs.Image.{put}
use Rattle.store_model.specs.Journal.{Block, block_at, blocks_from, fit, number_at}
use Rattle.store_model.specs.Patches.{Agrees, AreWhole, Follow, Misses, Tell, joined}
use Rattle.store_model.proofs.Patched.{agrees_put, below_misses, first_fits}
use Rattle.store_model.proofs.Points.{length_put}

-- more blocks behind so many
pub blocks_more : (n k at : ℕ) (journal : List ℕ) → blocks_from (n + k) at journal ≡ blocks_from n at journal
    ++ blocks_from k (at + 516 * n) journal
blocks_more zero k at journal = let all : 0 + k ≡ k = omega arith in let here : at + 516 * 0 ≡ at = omega arith in
    ap (λ (m : ℕ). blocks_from m at journal) all ∙ ap (λ (m : ℕ). blocks_from k m journal) (sym here)
blocks_more (suc n) k at journal =
    let sum : suc n + k ≡ suc (n + k) = omega arith in
    let next : at + 516 + 516 * n ≡ at + 516 * suc n = omega arith in
    ap (λ (m : ℕ). blocks_from m at journal) sum
    ∙ ap (λ bs. block_at at journal ∷ bs) (blocks_more n k (at + 516) journal)
    ∙ ap (λ (m : ℕ). block_at at journal ∷ (blocks_from n (at + 516) journal ++ blocks_from k m journal)) next

pub length_blocks : (n at : ℕ) (journal : List ℕ) → length (blocks_from n at journal) ≡ n
length_blocks zero at journal = refl
length_blocks (suc n) at journal = let rest = length_blocks n (at + 516) journal in omega (arith, rest)

pub window_part : (m k n at : ℕ) (journal : List ℕ) → k + n ≤ m → take n (drop k (take m (drop at journal)))
    ≡ take n (drop (at + k) journal)
window_part m k n at journal room =
    let sum : k + (m - k) ≡ m = omega (arith, room) in
    ap (λ (x : ℕ). take n (drop k (take x (drop at journal)))) (sym sum)
    ∙ ap (λ (l : List ℕ). take n l) (drop-take k (m - k) (drop at journal))
    ∙ take-take n (m - k) (drop k (drop at journal)) (omega (arith, room))
    ∙ ap (λ (l : List ℕ). take n l) (drop-drop k at journal)

pub number_part : (k m at : ℕ) (journal : List ℕ) → k + 4 ≤ m → number_at k (take m (drop at journal))
    ≡ number_at (at + k) journal
unfolding number_at
number_part k m at journal room = ap (λ (l : List ℕ). from_le_bytes w32 l) (window_part m k 4 at journal room)

-- blocks of a part of the journal that was read
pub blocks_read : (n k m at : ℕ) (journal : List ℕ) → k + 516 * n ≤ m → blocks_from n k (take m (drop at journal))
    ≡ blocks_from n (at + k) journal
blocks_read zero k m at journal room = refl
blocks_read (suc n) k m at journal room =
    let number : number_at k (take m (drop at journal)) ≡ number_at (at + k) journal =
    number_part k m at journal (omega (arith, room)) in
    let behind : at + (k + 4) ≡ at + k + 4 = omega arith in
    let bytes : take 512 (drop (k + 4) (take m (drop at journal))) ≡ take 512 (drop (at + k + 4) journal) =
    window_part m (k + 4) 512 at journal (omega (arith, room)) ∙ ap (λ (x : ℕ). take 512 (drop x journal))
    behind in
    let next : at + (k + 516) ≡ at + k + 516 = omega arith in
    let rest : blocks_from n (k + 516) (take m (drop at journal)) ≡ blocks_from n (at + k + 516) journal =
    blocks_read n (k + 516) m at journal (omega (arith, room)) ∙ ap (λ (x : ℕ). blocks_from n x journal) next in
    ap (λ (x : ℕ). record { number = x; bytes = take 512 (drop (k + 4) (take m (drop at journal))) }
    ∷ blocks_from n (k + 516) (take m (drop at journal))) number
    ∙ ap (λ (l : List ℕ). record { number = number_at (at + k) journal; bytes = l }
    ∷ blocks_from n (k + 516) (take m (drop at journal))) bytes
    ∙ ap (λ bs. block_at (at + k) journal ∷ bs) rest

pub follow_more : (n : ℕ) (bs : List Block) (b : Block) → Follow n bs → b.number ≡ n + length bs
    → Follow n (bs ++ b ∷ [])
follow_more n [] b follow is = let here : n + 0 ≡ n = omega arith in (is ∙ here, tt)
follow_more n (x ∷ bs) b follow is = (follow.0, follow_more (n + 1) bs b follow.1 (omega (arith, is)))

pub joined_more : (bs cs : List Block) → joined (bs ++ cs) ≡ joined bs ++ joined cs
joined_more [] cs = refl
joined_more (b ∷ bs) cs = ap (λ (l : List ℕ). b.bytes ++ l) (joined_more bs cs)
    ∙ sym (append_assoc b.bytes (joined bs) (joined cs))

pub length_joined : (bs : List Block) → AreWhole bs → length (joined bs) ≡ 512 * length bs
length_joined [] whole = refl
length_joined (b ∷ bs) whole = let first = whole.0 in
    omega (arith, first, length_joined bs whole.1, length-append b.bytes (joined bs))

-- each byte of blocks that follow one another is in one of them
pub follow_covers : (n p : ℕ) (bs : List Block) → Follow n bs → 512 * n ≤ p → p < 512 * (n + length bs)
    → Misses p bs → ⊥
follow_covers n p [] follow from to misses = omega (arith, from, to)
follow_covers n p (b ∷ bs) follow from to misses =
    let is = follow.0 in
    ⊎_elim (λ before. omega (arith, before, from, is))
    (λ after. follow_covers (n + 1) p bs follow.1 (omega (arith, after, is)) (omega (arith, to)) misses.1)
    misses.0

pub misses_behind : (p : ℕ) (bs cs : List Block) → Misses p (bs ++ cs) → Misses p cs
misses_behind p [] cs misses = misses
misses_behind p (b ∷ bs) cs misses = misses_behind p bs cs misses.1

pub misses_front : (p : ℕ) (bs cs : List Block) → Misses p (bs ++ cs) → Misses p bs
misses_front p [] cs misses = tt
misses_front p (b ∷ bs) cs misses = (misses.0, misses_front p bs cs misses.1)

pub tell_behind : (document : List ℕ) (size : ℕ) (bs cs : List Block) → Tell document size (bs ++ cs)
    → Tell document size cs
tell_behind document size [] cs tells = tells
tell_behind document size (b ∷ bs) cs tells = tell_behind document size bs cs tells.1

pub whole_behind : (bs cs : List Block) → AreWhole (bs ++ cs) → AreWhole cs
whole_behind [] cs whole = whole
whole_behind (b ∷ bs) cs whole = whole_behind bs cs whole.1

-- the blocks behind others fit as well
pub record FitsSomewhere (size : ℕ) (bs : List Block) : Type 0 where
  pub least : ℕ
  pub end : ℕ
  pub fits : fit size least end bs ≡ true

pub fit_behind : (size least end : ℕ) (bs cs : List Block) → fit size least end (bs ++ cs) ≡ true
    → FitsSomewhere size cs
fit_behind size least end [] cs fits = record { least = least; end = end; fits = fits }
fit_behind size least end (b ∷ bs) cs fits = fit_behind size (b.number + 1) (max end (512 * (b.number + 1))) bs cs
    (first_fits size least end b (bs ++ cs) fits).rest

-- the area reaches to the next block
pub reaches : (document : List ℕ) (size : ℕ) (b : Block) (bs : List Block) (area : List ℕ)
    → FitsSomewhere size (b ∷ bs) → Agrees document size (b ∷ bs) area → 512 * b.number ≤ length area
reaches document size b bs area fits agrees =
    let is = first_fits size fits.least fits.end b bs fits.fits in
    let below = is.below in
    ⊎_elim
    (λ lt. let there =
    (agrees (length area) (omega (arith, lt, below)) (
      inl lt,
      below_misses size (b.number + 1) (max fits.end (512 * (b.number + 1))) (length area) bs is.rest
          (omega (arith, lt)),
    )).0 in let none : ⊥ = omega (arith, there) in absurd none)
    (λ le. le) (cases_lt (length area) (512 * b.number))

-- one write behind another
pub put_put : (area front back : List ℕ) (at : ℕ) → at ≤ length area
    → put (put area at front) (at + length front) back ≡ put area at (front ++ back)
put_put area front back at le =
    let long : length (take at area ++ front) ≡ at + length front =
    omega (arith, le, length-append (take at area) front, length-take at area) in
    let begins : take (at + length front) (put area at front) ≡ take at area ++ front =
    take_at (take at area ++ front) (drop (at + length front) area) (at + length front) long in
    let sum : at + length front + length back ≡ at + length (front ++ back) = omega (arith, length-append front back) in
    let apart : at + length front + (at + length front + length back - (at + length front))
    ≡ at + length front + length back = omega arith in
    let behind : drop (at + length front + length back) (put area at front) ≡ drop (at + length (front ++ back)) area =
    sym (drop-drop (length back) (at + length front) (put area at front))
    ∙ ap (λ (l : List ℕ). drop (length back) l)
    (drop_at (take at area ++ front) (drop (at + length front) area) (at + length front) long)
    ∙ drop-drop (length back) (at + length front) area
    ∙ ap (λ (n : ℕ). drop n area) sum in
    ap (λ (l : List ℕ). l ++ back ++ drop (at + length front + length back) (put area at front)) begins
    ∙ ap (λ (l : List ℕ). take at area ++ front ++ back ++ l) behind
    ∙ ap (λ (l : List ℕ). l ++ drop (at + length (front ++ back)) area) (append_assoc (take at area) front back)

-- a run is written
pub run_agrees : (document : List ℕ) (size n : ℕ) (bs cs : List Block) (area : List ℕ) → Follow n bs → AreWhole bs
    → Tell document size (bs ++ cs) → Agrees document size (bs ++ cs) area → 512 * n ≤ length area
    → Agrees document size cs (put area (512 * n) (joined bs))
run_agrees document size n [] cs area follow whole tells agrees reached =
    subst (λ (l : List ℕ). Agrees document size cs l) (sym (nothing area (512 * n) reached)) agrees
  where
    nothing : (area : List ℕ) (at : ℕ) → at ≤ length area → put area at [] ≡ area
    nothing area at le = let none : at + 0 ≡ at = omega arith in
        ap (λ (l : List ℕ). l ++ drop (at + 0) area) (append-nil (take at area))
        ∙ ap (λ (m : ℕ). take at area ++ drop m area) none ∙ take-append-drop at area
run_agrees document size n (b ∷ bs) cs area follow whole tells agrees reached =
    let at : 512 * b.number ≡ 512 * n = ap (λ (m : ℕ). 512 * m) follow.0 in
    let one = whole.0 in
    let step : Agrees document size (bs ++ cs) (put area (512 * n) b.bytes) =
    subst (λ (m : ℕ). Agrees document size (bs ++ cs) (put area m b.bytes)) at
    (agrees_put document size b (bs ++ cs) area (omega (arith, at, reached)) whole.0 tells.0 agrees) in
    let next : 512 * n + length b.bytes ≡ 512 * (n + 1) = omega (arith, one) in
    let rest = run_agrees document size (n + 1) bs cs (put area (512 * n) b.bytes) follow.1 whole.1 tells.1 step
    (omega (arith, next, length_put area b.bytes (512 * n) reached)) in
    subst (λ (l : List ℕ). Agrees document size cs l)
    (ap (λ (m : ℕ). put (put area (512 * n) b.bytes) m (joined bs)) (sym next)
    ∙ put_put area b.bytes (joined bs) (512 * n) reached)
    rest
