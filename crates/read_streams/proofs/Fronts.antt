-- The sectors that follow one another in a file's FAT are the front of a chain, where there is one.
use Rattle.std.proofs.Common.{◌≡◌, ◌<◌, ◌≤◌, ◌+◌, ◌-◌, ◌*◌, ◌/◌, ◌∙◌, ℕ, zero, suc, List, [], ◌∷◌, length, get_or, take}
use Rattle.std.proofs.Common.{refl, sym, ap, subst, arith}
use Rattle.std.proofs.lemmas.List.Elements.{All-head, All-tail}
use Rattle.std.proofs.lemmas.List.FromFn.{fill_by_all, get_or-map-range_with_len, length-map-range_with_len}
use Rattle.std.specs.List.{All}
use Rattle.cfb_chains.specs.Chain.{END_OF_CHAIN, IsChainOf, Leads, Store}
use Rattle.cfb_chains.specs.Fat.{followed}
use Rattle.cfb_chains.proofs.Followed.{followed_step}
use Rattle.cfb_file.specs.Denotes.{Layout, sectors}
use Rattle.read_streams.specs.Chains.{IsFatOf, table_of}
use Rattle.read_streams.proofs.Minis.{sector_width}

module _ (s : Store) where
  table_next : (n : ℕ) → n < s.count → get_or (table_of s) n 0 ≡ s.next n
  table_next n lt = get_or-map-range_with_len s.next 0 s.count n n 0 lt (omega arith)

  table_long : length (table_of s) ≡ s.count
  table_long = length-map-range_with_len s.next 0 s.count

  -- what is followed is the front of a chain
  front_followed : (count start last : ℕ) (ns : List ℕ) → Leads s.next start ns last → All (λ n. n < s.count) ns
      → count ≤ length ns → followed (table_of s) count start ≡ take count ns
  front_followed zero start last ns h below le = refl
  front_followed (suc count) start last [] h below le = absurd (omega (arith, le))
  front_followed (suc count) start last (n ∷ ns) h below le =
      let here : n < s.count = All-head (λ n. n < s.count) n ns below in
      let lt : start < s.count = omega (arith, h.0, here) in
      let less : suc count - 1 ≡ count = omega arith in
      let next : get_or (table_of s) start 0 ≡ s.next n = table_next start lt ∙ ap s.next h.0 in
      followed_step (table_of s) (suc count) start (omega (arith, lt, table_long)) (omega arith)
      ∙ (λ i. h.0 i ∷ followed (table_of s) (less i) (next i))
      ∙ ap (λ xs. n ∷ xs) (front_followed count (s.next n) last ns h.1 (All-tail (λ n. n < s.count) n ns below)
      (omega (arith, le)))

module _ (file : List ℕ) (l : Layout) where
  -- the FAT's entries, as they were read
  pub table_over : (table : List ℕ) → IsFatOf file l table → table ≡ table_of (sectors file l)
  table_over table o =
      fill_by_all (sectors file l).next table (sectors file l).count 0 o.count
      (λ k lt. o.next k (subst (λ (n : ℕ). k < n) (sym o.count) lt))

  -- a chain with room for some bytes, followed as far as these take sectors
  pub chain_followed : (first size : ℕ) (ns : List ℕ) → IsChainOf (sectors file l) first size ns
      → followed (table_of (sectors file l)) ((size + 511) / 512) first ≡ take ((size + 511) / 512) ns
  chain_followed first zero ns chain = refl
  chain_followed first (suc k) ns chain =
      let room : suc k ≤ 512 * length ns = subst (λ (w : ℕ). suc k ≤ w * length ns) (sector_width file l)
      chain.enough in
      front_followed (sectors file l) ((suc k + 511) / 512) first END_OF_CHAIN ns chain.linked
      (λ j d lt. (chain.present j d lt).1) (omega (arith, room))

  -- the same by the FAT's entries, as they were read
  pub front_read : (table : List ℕ) → IsFatOf file l table → (first size : ℕ) (ns : List ℕ)
      → IsChainOf (sectors file l) first size ns
      → (count : ℕ) → count ≡ (size + 511) / 512 → followed table count first ≡ take ((size + 511) / 512) ns
  front_read table o first size ns chain count e =
      ap (λ n. followed table n first) e ∙ ap (λ xs. followed xs ((size + 511) / 512) first) (table_over table o)
      ∙ chain_followed first size ns chain
