-- Stores with the same links, whatever their sectors hold.
use Rattle.std.proofs.Common.{◌≡◌, ◌<◌, ◌≤◌, ◌+◌, ◌-◌, ◌*◌, ◌/◌, ℕ, zero, suc, List, [], ◌∷◌, ◌++◌, ◌∙◌, map, min}
use Rattle.std.proofs.Common.{length, get_or, refl, sym, ap, subst, take}
use Rattle.std.proofs.lemmas.List.Elements.{All-head, All-tail}
use Rattle.std.specs.List.{All, flat_map, range_with_len}
use Rattle.cfb_header.specs.Bytes.{joined, sector, u32_at}
use Rattle.cfb_chains.specs.Chain.{END_OF_CHAIN, IsChain, IsChainOf, IsPresent, Leads, Store}
use Rattle.cfb_chains.specs.Fat.{mini_sectors_of, sectors_of}
use Rattle.cfb_header.specs.Header.{HeaderValue, difat_by, difat_from, fat_by, named_in}
use Rattle.cfb_file.specs.Alike.{AgreeOn}

pub record HaveSameLinks (s t : Store) : Type 0 where
  pub count : s.count ≡ t.count
  pub width : s.width ≡ t.width
  pub next : s.next ≡ t.next

pub links_back : (s t : Store) → HaveSameLinks s t → HaveSameLinks t s
links_back s t h = record { count = sym h.count; width = sym h.width; next = sym h.next }

-- ---- a chain of one is a chain of the other
pub present_carried : (s t : Store) → HaveSameLinks s t → (ns : List ℕ) → All (IsPresent s) ns → All (IsPresent t) ns
present_carried s t same ns h = λ k d l. ((h k d l).0, subst (λ (c : ℕ). get_or ns k d < c) same.count (h k d l).1)

pub chain_carried : (s t : Store) → HaveSameLinks s t → (start bytes : ℕ) (ns : List ℕ) → IsChain s start bytes ns
    → IsChain t start bytes ns
chain_carried s t same start bytes ns h = record {
  linked = subst (λ (next : ℕ → ℕ). Leads next start ns END_OF_CHAIN) same.next h.linked;
  present = present_carried s t same ns h.present;
  enough = subst (λ (w : ℕ). bytes ≤ w * length ns) same.width h.enough;
}

pub chain_of_carried : (s t : Store) → HaveSameLinks s t → (start bytes : ℕ) (ns : List ℕ)
    → IsChainOf s start bytes ns → IsChainOf t start bytes ns
chain_of_carried s t same start zero ns h = h
chain_of_carried s t same start (suc n) ns h = chain_carried s t same start (suc n) ns h

-- ---- files that agree on some sectors
pub agree_back : (a b ns : List ℕ) → AgreeOn a b ns → AgreeOn b a ns
agree_back a b ns h = λ k d l. sym (h k d l)

pub joined_alike : (a b ns : List ℕ) → AgreeOn a b ns → joined (sector a) ns ≡ joined (sector b) ns
joined_alike a b [] h = refl
joined_alike a b (n ∷ ns) h =
    let first : sector a n ≡ sector b n = All-head (λ n. sector a n ≡ sector b n) n ns h in
    let rest : joined (sector a) ns ≡ joined (sector b) ns =
    joined_alike a b ns (All-tail (λ n. sector a n ≡ sector b n) n ns h) in
    λ i. first i ++ rest i

-- where they agree on the FAT, their sectors have the same links
pub sectors_alike : (a b fat : List ℕ) → length a ≡ length b → AgreeOn a b fat
    → HaveSameLinks (sectors_of a fat) (sectors_of b fat)
unfolding sectors_of
sectors_alike a b fat len h = record {
  count = ap (λ n. min (128 * length fat) ((n + 511) / 512 - 1)) len;
  width = refl;
  next = λ i n. u32_at (joined_alike a b fat h i) (4 * n);
}

-- where they agree on the mini FAT, so do their mini sectors
pub minis_alike : (a b mini_fat mini_stream : List ℕ) (size : ℕ) → AgreeOn a b mini_fat
    → HaveSameLinks (mini_sectors_of a mini_fat mini_stream size) (mini_sectors_of b mini_fat mini_stream size)
unfolding mini_sectors_of
minis_alike a b mini_fat mini_stream size h = record {
  count = refl;
  width = refl;
  next = λ i n. u32_at (joined_alike a b mini_fat h i) (4 * n);
}

-- where they agree on the DIFAT, they list the same sectors
difat_alike_from : (a b : List ℕ) (count at : ℕ) → AgreeOn a b (difat_from a count at)
    → difat_from a count at ≡ difat_from b count at
difat_alike_from a b zero at h = refl
difat_alike_from a b (suc count) at h =
    let next : ℕ = u32_at (sector a at) 508 in
    let first : sector a at ≡ sector b at = All-head (λ n. sector a n ≡ sector b n) at (difat_from a count next) h in
    let rest : difat_from a count next ≡ difat_from b count next =
    difat_alike_from a b count next (All-tail (λ n. sector a n ≡ sector b n) at (difat_from a count next) h) in
    ap (λ xs. at ∷ xs) (rest ∙ ap (λ xs. difat_from b count (u32_at xs 508)) first)

named_alike : (a b ns : List ℕ) → AgreeOn a b ns → flat_map (named_in a) ns ≡ flat_map (named_in b) ns
named_alike a b [] h = refl
named_alike a b (n ∷ ns) h =
    let first : sector a n ≡ sector b n = All-head (λ n. sector a n ≡ sector b n) n ns h in
    let rest : flat_map (named_in a) ns ≡ flat_map (named_in b) ns =
    named_alike a b ns (All-tail (λ n. sector a n ≡ sector b n) n ns h) in
    λ i. map (λ k. u32_at (first i) (4 * k)) (range_with_len 0 127) ++ rest i

pub difat_by_alike : (a b : List ℕ) (h : HeaderValue) → AgreeOn a b (difat_by a h) → difat_by a h ≡ difat_by b h
difat_by_alike a b h agree = difat_alike_from a b h.difat_count h.first_difat agree

pub fat_by_alike : (a b : List ℕ) (h : HeaderValue) → AgreeOn a b (difat_by a h) → fat_by a h ≡ fat_by b h
fat_by_alike a b h agree =
    ap (λ xs. take h.fat_count (h.fat ++ xs)) (named_alike a b (difat_by a h) agree
    ∙ ap (flat_map (named_in b)) (difat_by_alike a b h agree))
