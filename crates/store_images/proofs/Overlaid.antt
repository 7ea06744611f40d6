-- A file that is made block by block.
use Rattle.std.proofs.Common.{◌≡◌, ◌≤◌, ◌+◌, ◌-◌, ◌*◌, ◌/◌, ◌∙◌, ◌++◌, ◌∷◌, [], ℕ, zero, suc, Bool, if◌then◌else◌, List}
use Rattle.std.proofs.Common.{ap, arith, drop, length, length-append, length-drop, length-take, min, refl, replicate}
use Rattle.std.proofs.Common.{sym, take, append-nil}
use Rattle.std.proofs.lemmas.List.{append_assoc, drop-append-le, drop_all, length-replicate, take-append-le, take_all}
use Rattle.std.proofs.lemmas.List.{take_min}
use Rattle.std.proofs.Math.Seq.{drop-append_seam}
use Rattle.std.proofs.lemmas.Slice.Eq.{bytes_eq-Decides}
use Rattle.store_model.specs.Changes.{bytes_in, change_between, changes_from}
use Rattle.store_images.specs.Changed.{changed_before, numbers_between, whole_block}
use Rattle.store_images.proofs.Numbers.{next, numbers}

-- a block within the front of a file
within : (n : ℕ) (file more : List ℕ) → 512 * n + 512 ≤ length file → bytes_in n (file ++ more) ≡ bytes_in n file
within n file more le =
    ap (take 512) (drop-append-le (512 * n) file more (omega (arith, le)))
    ∙ take-append-le 512 (drop (512 * n) file) more (omega (arith, le, length-drop (512 * n) file))

-- the one behind it
behind : (n : ℕ) (file piece : List ℕ) → length file ≡ 512 * n → length piece ≡ 512 → bytes_in n (file ++ piece) ≡ piece
behind n file piece long whole =
    ap (take 512) (drop-append-le (512 * n) file piece (omega (arith, long))
    ∙ ap (λ (l : List ℕ). l ++ piece) (drop_all (512 * n) file (omega (arith, long))))
    ∙ take_all 512 piece (omega (arith, whole))

-- what is added behind changes nothing of the blocks before
pub before : (m k : ℕ) (old file more : List ℕ) → 512 * (m + k) ≤ length file
    → changes_from m k old (file ++ more) ≡ changes_from m k old file
before m zero old file more le = refl
before m (suc k) old file more le =
    (λ i. change_between m (bytes_in m old) (within m file more (omega (arith, le)) i)
    ++ before (m + 1) k old file more (omega (arith, le)) i)

-- a block more
pub block_more : (n : ℕ) (old file piece : List ℕ) → length file ≡ 512 * n → length piece ≡ 512
    → changed_before (n + 1) old (file ++ piece) ≡ changed_before n old file ++ numbers_between n (bytes_in n old) piece
block_more n old file piece long whole =
    next n old (file ++ piece)
    ∙ (λ i. numbers (before 0 n old file piece (omega (arith, long)) i) ++ numbers_between n (bytes_in n old)
    (behind n file piece long whole i))

pub length_whole : (bytes : List ℕ) → length (whole_block bytes) ≡ 512
length_whole bytes = omega (
  arith,
  length-append (take 512 bytes) (replicate (512 - length (take 512 bytes)) 0),
  length-replicate {A = ℕ} (512 - length (take 512 bytes)) 0,
  length-take 512 bytes,
)

pub none_between : (n : ℕ) (was : List ℕ) → numbers_between n was was ≡ []
none_between n was = ap (λ (t : Bool). if t then [] else n ∷ []) ((bytes_eq-Decides was was).1 refl)

-- one that is given
pub block_given : (n : ℕ) (old file was piece now numbers_was numbers_now : List ℕ) → length file ≡ 512 * n
    → length piece ≡ 512 → was ≡ bytes_in n old → now ≡ file ++ piece
    → numbers_was ≡ changed_before n old file → numbers_now ≡ numbers_was ++ numbers_between n was piece
    → numbers_now ≡ changed_before (n + 1) old now
block_given n old file was piece now numbers_was numbers_now long whole is_was is_now so_far added =
    added ∙ (λ i. so_far i ++ numbers_between n (is_was i) piece)
    ∙ sym (block_more n old file piece long whole)
    ∙ ap (changed_before (n + 1) old) (sym is_now)

-- one that stays
pub block_kept : (n : ℕ) (old file was now numbers_was : List ℕ) → length file ≡ 512 * n → length was ≡ 512
    → was ≡ bytes_in n old → now ≡ file ++ was
    → numbers_was ≡ changed_before n old file → numbers_was ≡ changed_before (n + 1) old now
block_kept n old file was now numbers_was long whole is_was is_now so_far =
    block_given n old file was was now numbers_was numbers_was long whole is_was is_now so_far
    (sym (append-nil numbers_was) ∙ ap (λ (l : List ℕ). numbers_was ++ l) (sym (none_between n was)))

pub longer : (n : ℕ) (file piece now : List ℕ) → length file ≡ 512 * n → length piece ≡ 512 → now ≡ file ++ piece
    → length now ≡ 512 * (n + 1)
longer n file piece now long whole is_now = omega (arith, long, whole, ap length is_now, length-append file piece)

-- as many blocks as there are
pub all_blocks : (n : ℕ) (file : List ℕ) → length file ≡ 512 * n → (length file + 511) / 512 ≡ n
all_blocks n file long = omega (arith, long)

-- what is added of bytes, and zeros behind them
pub made_whole : (old bytes mid new : List ℕ) (m end : ℕ) → m ≡ min 512 (length bytes) → end ≡ length old + 512
    → mid ≡ old ++ take m bytes
    → new ≡ take end mid ++ replicate (end - length mid) 0 → new ≡ old ++ whole_block bytes
made_whole old bytes mid new m end is_m is_end is_mid is_new =
    let t : List ℕ = take 512 bytes in
    let front : mid ≡ old ++ t = is_mid ∙ ap (λ (k : ℕ). old ++ take k bytes) is_m
    ∙ ap (λ (l : List ℕ). old ++ l) (take_min 512 bytes) in
    let few : length t ≡ min 512 (length bytes) = length-take 512 bytes in
    let len : length mid ≡ length old + length t = ap length front ∙ length-append old t in
    let zeros : end - length mid ≡ 512 - length t = omega (arith, is_end, len) in
    is_new
    ∙ (λ i. take_all end mid (omega (arith, is_end, len, few)) i ++ replicate (zeros i) 0)
    ∙ ap (λ (l : List ℕ). l ++ replicate (512 - length t) 0) front
    ∙ append_assoc old t (replicate (512 - length t) 0)

-- a part that is cut out of the end
pub cut_off : (old piece all : List ℕ) (at : ℕ) → at ≡ length old → all ≡ old ++ piece → drop at all ≡ piece
cut_off old piece all at is_at is_all = (λ i. drop (is_at i) (is_all i)) ∙ drop-append_seam old piece

-- a block of an older file that is whole
pub full_block : (n : ℕ) (old was : List ℕ) → was ≡ bytes_in n old → 512 ≤ length was → length was ≡ 512
full_block n old was is full = omega (arith, full, ap length is, length-take 512 (drop (512 * n) old))
