-- What a file denotes, it denotes without what its FAT has no entries for.
use Rattle.std.proofs.Common.{◌≡◌, ◌<◌, ◌≤◌, ◌+◌, ◌-◌, ◌*◌, ◌/◌, ℕ, zero, suc, List, ◌∷◌, ◌++◌, ◌∙◌, append-nil, drop}
use Rattle.std.proofs.Common.{inl, inr, length, length-append, length-drop, min, refl, replicate, subst, sym, ap, take}
use Rattle.std.proofs.Common.{arith}
use Rattle.std.proofs.lemmas.Bool.{cases_lt}
use Rattle.std.proofs.lemmas.List.{drop-append-le, drop-take, length-replicate, length-take, take-append-le, take-take}
use Rattle.std.proofs.lemmas.List.{take_all}
use Rattle.std.proofs.Math.Bridge.{le_prop}
use Rattle.std.proofs.Math.Logic.{∥∥₁_elim, ∥∥₁_map}
use Rattle.std.proofs.Math.Seq.{take-append-add}
use Rattle.cfb_header.specs.Bytes.{block, sector}
use Rattle.cfb_header.specs.Header.{IsHeader, fat_count}
use Rattle.cfb_chains.specs.Fat.{sectors_in}
use Rattle.cfb_entries.specs.Tree.{Tree}
use Rattle.cfb_file.specs.Denotes.{Denotes}
use Rattle.store_images.specs.Trimmed.{trimmed, trimmed_len}
use Rattle.store_images.proofs.SameSectors.{HaveSameSectors, same_denotes}

-- ---- bytes with zeros behind them
take_zeros : (m n : ℕ) → m ≤ n → take {A = ℕ} m (replicate n 0) ≡ replicate m 0
take_zeros zero n le = refl
take_zeros (suc m) zero le = absurd (omega arith)
take_zeros (suc m) (suc n) le = ap (λ (l : List ℕ). 0 ∷ l) (take_zeros m n (omega arith))

-- a block's front is a smaller block
front_block : (size m : ℕ) (xs : List ℕ) → size ≤ m → take size (take m xs ++ replicate (m - length xs) 0)
    ≡ take size xs ++ replicate (size - length xs) 0
front_block size m xs le =
    elim (cases_lt (length xs) size) [
      | inl less ↦
          let all : take m xs ≡ xs = take_all m xs (omega (arith, less)) in
          let rest : size ≡ length xs + (size - length xs) = omega (arith, less) in
          ap (λ (l : List ℕ). take size (l ++ replicate (m - length xs) 0)) all
          ∙ ap (λ (k : ℕ). take k (xs ++ replicate (m - length xs) 0)) rest
          ∙ take-append-add xs (replicate (m - length xs) 0) (size - length xs)
          ∙ ap (λ (l : List ℕ). xs ++ l) (take_zeros (size - length xs) (m - length xs) (omega (arith, less)))
          ∙ ap (λ (l : List ℕ). l ++ replicate (size - length xs) 0) (sym (take_all size xs (omega (arith, less))))
      | inr more ↦
          let none : size - length xs ≡ 0 = omega (arith, more) in
          take-append-le size (take m xs) (replicate (m - length xs) 0) (omega (arith, more, length-take m xs))
          ∙ take-take size m xs le
          ∙ sym (append-nil (take size xs))
          ∙ ap (λ (k : ℕ). take size xs ++ replicate k 0) (sym none)
    ]

-- so many bytes of a file, zeros standing for those past its end
abbrev reach : ℕ → List ℕ → List ℕ
reach n xs = take n xs ++ replicate (n - length xs) 0

length_reach : (n : ℕ) (xs : List ℕ) → length (reach n xs) ≡ n
length_reach n xs =
    length-append (take n xs) (replicate (n - length xs) 0)
    ∙ (λ i. length-take n xs i + length-replicate {A = ℕ} (n - length xs) 0 i)
    ∙ omega arith

drop_reach : (at m : ℕ) (xs : List ℕ) → at ≤ length xs → drop at (reach (at + m) xs) ≡ reach m (drop at xs)
drop_reach at m xs le =
    let fill : at + m - length xs ≡ m - length (drop at xs) = omega (arith, le, length-drop at xs) in
    drop-append-le at (take (at + m) xs) (replicate (at + m - length xs) 0) (omega (arith, le, length-take (at + m) xs))
    ∙ (λ i. drop-take at m xs i ++ replicate (fill i) 0)

-- a block within them
block_reach : (size at n : ℕ) (xs : List ℕ) → at + size ≤ n → at ≤ length xs
    → block size (reach n xs) at ≡ block size xs at
unfolding block
block_reach size at n xs fits le =
    let m : ℕ = n - at in
    let e : n ≡ at + (n - at) = omega (arith, fits) in
    let behind : drop at (reach n xs) ≡ reach m (drop at xs) = ap (λ (k : ℕ). drop at (reach k xs)) e
    ∙ drop_reach at m xs le in
    let long : length (reach m (drop at xs)) ≡ m = length_reach m (drop at xs) in
    let none : size - length (reach m (drop at xs)) ≡ 0 = omega (arith, long, fits) in
    ap (λ (l : List ℕ). take size l ++ replicate (size - length l) 0) behind
    ∙ ap (λ (k : ℕ). take size (reach m (drop at xs)) ++ replicate k 0) none
    ∙ append-nil (take size (reach m (drop at xs)))
    ∙ front_block size m (drop at xs) (omega (arith, fits))

-- ---- the numbers
-- whole sectors
whole_again : (q : ℕ) → (512 * q + 511) / 512 ≡ q
whole_again q = omega arith

fewer : (m len q : ℕ) → q ≡ (len + 511) / 512 → min (128 * m) (q - 1) ≡ min (128 * m) (min (1 + 128 * m) q - 1)
fewer m len q is = omega arith

-- a sector with an entry lies before the end, and within what is kept
lies : (n c len q : ℕ) → q ≡ (len + 511) / 512 → n < min (128 * c) (q - 1) → (512 + 512 * n ≤ len)
    × (512 + 512 * n + 512 ≤ 512 * min (1 + 128 * c) q)
lies n c len q is lt = (omega (arith, is, lt), omega (arith, is, lt))

module _ (file : List ℕ) (header : IsHeader file) where
  q : ℕ
  q = (length file + 511) / 512

  length_trimmed : length (trimmed file) ≡ trimmed_len file
  unfolding trimmed
  length_trimmed = length_reach (trimmed_len file) file

  some : 1 ≤ (length file + 511) / 512
  some = omega (arith, header.whole)

  long_enough : 512 ≤ trimmed_len file
  long_enough = omega (arith, some)

  front : take 512 file ≡ take 512 (trimmed file)
  unfolding trimmed
  front =
      sym (take-append-le 512 (take (trimmed_len file) file) (replicate (trimmed_len file - length file) 0)
      (omega (arith, header.whole, long_enough, length-take (trimmed_len file) file))
      ∙ take-take 512 (trimmed_len file) file long_enough)

  sectors_kept : sectors_in (trimmed file) ≡ min (1 + 128 * fat_count file) ((length file + 511) / 512) - 1
  sectors_kept =
      ap (λ (n : ℕ). (n + 511) / 512 - 1) length_trimmed
      ∙ ap (λ (n : ℕ). n - 1) (whole_again (min (1 + 128 * fat_count file) ((length file + 511) / 512)))

  count : (m : ℕ) → m ≡ fat_count file → min (128 * m) (sectors_in file) ≡ min (128 * m) (sectors_in (trimmed file))
  count m is =
      fewer m (length file) ((length file + 511) / 512) refl
      ∙ ap (λ (k : ℕ). min (128 * m) (min (1 + 128 * k) ((length file + 511) / 512) - 1)) is
      ∙ ap (λ (k : ℕ). min (128 * m) k) (sym sectors_kept)

  agree : (n : ℕ) → n < min (128 * fat_count file) (sectors_in file) → sector file n ≡ sector (trimmed file) n
  unfolding trimmed
  agree n lt =
      let there : (512 + 512 * n ≤ length file) × (512 + 512 * n + 512 ≤ trimmed_len file) =
      lies n (fat_count file) (length file) ((length file + 511) / 512) refl lt in
      sym (block_reach 512 (512 + 512 * n) (trimmed_len file) file there.1 there.0)

  kept_sectors : HaveSameSectors file (trimmed file)
  kept_sectors = record {
    front = front;
    long = omega (arith, long_enough, length_trimmed);
    count = count;
    agree = agree;
  }

pub trimmed_denotes : (file : List ℕ) (t : Tree) → Denotes file t → Denotes (trimmed file) t
trimmed_denotes file t d = same_denotes file (trimmed file) (kept_sectors file d.header) t d

-- what a file is that was cut, or filled with zeros
pub made_trimmed : (file new : List ℕ) (len q k sectors : ℕ) → len ≡ length file → q ≡ (len + 511) / 512
    → k ≡ min q (1 + 128 * sectors) → sectors ≡ fat_count file
    → new ≡ take (512 * k) file ++ replicate (512 * k - length file) 0 → new ≡ trimmed file
unfolding trimmed
made_trimmed file new len q k sectors is_len is_q is_k is_sectors made =
    let is : 512 * k ≡ trimmed_len file = omega (arith, is_len, is_q, is_k, is_sectors) in
    made ∙ ap (λ (n : ℕ). take n file ++ replicate (n - length file) 0) is

-- ---- a file that was read, of which is known that it denotes a tree
pub has_header : (file seen again : List ℕ) (t : Tree) → seen ≡ file → again ≡ file → ∥ Denotes seen t ∥₁
    → 48 ≤ length again
has_header file seen again t is_seen is_again denoted =
    let same : length again ≡ length seen = ap (λ (l : List ℕ). length l) (is_again ∙ sym is_seen) in
    ∥∥₁_elim denoted le_prop (λ d. omega (arith, d.header.whole, same))

pub both_denote : (file seen new : List ℕ) (t : Tree) → seen ≡ file → new ≡ trimmed file → ∥ Denotes seen t ∥₁
    → (u : Tree) × ∥ Denotes file u ∥₁ × ∥ Denotes new u ∥₁
both_denote file seen new t is_seen is_new denoted =
    let here : ∥ Denotes file t ∥₁ = subst (λ (l : List ℕ). ∥ Denotes l t ∥₁) is_seen denoted in
    (t, here, subst (λ (l : List ℕ). ∥ Denotes l t ∥₁) (sym is_new) (∥∥₁_map here (λ d. trimmed_denotes file t d)))
