-- What is read of a file block by block.
use Rattle.std.proofs.Common.{◌≡◌, ◌≢◌, inl, inr, ◌<◌, ◌≤◌, ◌+◌, ◌-◌, ◌*◌, ℕ, List, [], ◌∷◌, ◌++◌, Option, Some, None}
use Rattle.std.proofs.Common.{IfSome, length, take, drop, replicate, get_or, min, refl, sym, ap, subst, ◌∙◌, arith}
use Rattle.std.proofs.Common.{length-drop}
use Rattle.std.proofs.lemmas.Bool.{cases_lt, cases_eq}
use Rattle.std.proofs.lemmas.List.{get_or_default, length-take, take_min, take-take}
use Rattle.cfb_bytes.specs.Bytes.{block}
use Rattle.std.proofs.lemmas.List.Elements.{All-append}
use Rattle.std.specs.List.{All}
use Rattle.cfb_header.specs.Bytes.{sector, u32_at}
use Rattle.cfb_header.specs.Header.{HeaderValue, difat_by, difat_from, fat_by}
use Rattle.cfb_chains.proofs.Tables.{difat_done, difat_more}
use Rattle.cfb_chains.specs.Chain.{END_OF_CHAIN, Leads}
use Rattle.read_packed.proofs.Placed.{block_past, run_block}
use Rattle.cfb_file.specs.Alike.{AgreeOn}
use Rattle.cfb_file.proofs.AlikeStores.{fat_by_alike}
use Rattle.read_source.specs.Filled.{AreListsRead, IsChainRead, IsRead, IsRunRead}

-- ---- blocks that are put
-- the blocks before one, of those from `first` on, were put
pub record ArePut (old new bytes : List ℕ) (first count : ℕ) : Type 0 where
  pub len : length new ≡ length old
  pub here : (k : ℕ) → k < count → block 512 new (512 * (first + k)) ≡ block 512 bytes (512 * k)
  pub before : (m : ℕ) → m < first → block 512 new (512 * m) ≡ block 512 old (512 * m)
  pub behind : (m : ℕ) → first + count ≤ m → block 512 new (512 * m) ≡ block 512 old (512 * m)

pub none_put : (old bytes : List ℕ) (first : ℕ) → ArePut old old bytes first 0
none_put old bytes first = record {
  len = refl;
  here = λ k l. absurd (omega arith);
  before = λ m l. refl;
  behind = λ m l. refl;
}

-- the first bytes of a block are those of the part that was cut out
block_cut : (bytes : List ℕ) (at end : ℕ) → at ≤ length bytes → end ≡ min 512 (length bytes - at) + at
    → block 512 (take (end - at) (drop at bytes)) 0 ≡ block 512 bytes at
unfolding block
block_cut bytes at end inside e =
    let rest : List ℕ = drop at bytes in
    let count : end - at ≡ min 512 (length rest) = omega (arith, e, length-drop at bytes) in
    let cut : take (end - at) rest ≡ take 512 rest = ap (λ n. take n rest) count ∙ take_min 512 rest in
    let left : 512 - length (take 512 rest) ≡ 512 - length rest = omega (arith, length-take 512 rest) in
    (λ i. take 512 (cut i) ++ replicate (512 - length (cut i)) 0)
    ∙ (λ i. take-take 512 512 rest (omega arith) i ++ replicate (left i) 0)

below : (j k : ℕ) → j ≤ k → (j ≡ k → ⊥) → j < k
below j k le other = elim (cases_lt j k) [ inl l ↦ l | inr ge ↦ absurd (other (omega arith)) ]

pub put_more : (old now new bytes part : List ℕ) (first k at end : ℕ) → ArePut old now bytes first k → at ≡ 512 * k
    → 512 * k < length bytes
    → end ≡ min 512 (length bytes - at) + at → part ≡ take (end - at) (drop at bytes)
    → length new ≡ length now → block 512 new (512 * (first + k)) ≡ block 512 part 0
    → ((m : ℕ) → m ≢ first + k → block 512 new (512 * m) ≡ block 512 now (512 * m))
    → ArePut old new bytes first (k + 1)
put_more old now new bytes part first k at end h at_is some end_is part_is len here apart = record {
  len = len ∙ h.len;
  here = λ j l.
      elim (cases_eq j k) [
        | inl same ↦
            ap (λ n. block 512 new (512 * (first + n))) same ∙ here ∙ ap (λ xs. block 512 xs 0) part_is
            ∙ block_cut bytes at end (omega (arith, at_is, some)) end_is
            ∙ ap (block 512 bytes) (at_is ∙ ap (λ n. 512 * n) (sym same))
        | inr other ↦
            apart (first + j) (λ e. other (omega (arith, e))) ∙ h.here j (let le : j ≤ k = omega (arith, l) in
            below j k le other)
      ];
  before = λ m l. apart m (λ e. omega (arith, e, l)) ∙ h.before m l;
  behind = λ m l. apart m (λ e. omega (arith, e, l)) ∙ h.behind m (omega (arith, l));
}

-- ---- a run of sectors
-- nothing stands past the end
pub run_past : (a old : List ℕ) (first count start : ℕ) → start ≡ 512 * (first + 1) → length old ≤ start
    → length a ≡ length old → IsRunRead a old old first count
run_past a old first count start start_is past len = record {
  kept = λ n e. e;
  there = λ k l.
      block_past a (512 + 512 * (first + k)) (omega (arith, start_is, past, len))
      ∙ sym (block_past old (512 + 512 * (first + k)) (omega (arith, start_is, past)));
}

at_block : (bytes : List ℕ) (n m : ℕ) → m ≡ n + 1 → block 512 bytes (512 + 512 * n) ≡ block 512 bytes (512 * m)
at_block bytes n m e = ap (block 512 bytes) (omega (arith, e))

module _ (a old new bytes : List ℕ) (first count start size : ℕ) (start_is : start ≡ 512 * (first + 1))
    (inside : start < length old) (len : length a ≡ length old)
    (size_is : size ≡ min (512 * count) (length old - start)) (is : bytes ≡ take size (drop start a))
    (long : length bytes ≡ size)
    (same_len : length new ≡ length old)
    (here : (k : ℕ) → 512 * k < length bytes → block 512 new (512 * (first + 1 + k)) ≡ block 512 bytes (512 * k))
    (before : (m : ℕ) → m < first + 1 → block 512 new (512 * m) ≡ block 512 old (512 * m))
    (behind : (m : ℕ) → 512 * (first + 1) + length bytes ≤ 512 * m → block 512 new (512 * m)
    ≡ block 512 old (512 * m)) where
  in_run : (k : ℕ) → 512 * k < size → sector a (first + k) ≡ sector new (first + k)
  in_run k l =
      let size_of_a : size ≡ min (512 * count) (length a - start) = size_is
      ∙ ap (λ n. min (512 * count) (n - start)) (sym len) in
      ap (block 512 a) (omega (arith, start_is))
      ∙ sym (run_block a bytes start count size k is size_of_a (omega (arith, inside, len)) l)
      ∙ sym (here k (omega (arith, l, long))) ∙ ap (block 512 new) (omega arith)

  run_there : (k : ℕ) → k < count → sector a (first + k) ≡ sector new (first + k)
  run_there k l =
      elim (cases_lt (512 * k) size) [
        | inl few ↦ in_run k few
        | inr past ↦
            let e : length old ≤ 512 + 512 * (first + k) = omega (arith, past, size_is, start_is, l, inside) in
            block_past a (512 + 512 * (first + k)) (omega (arith, e, len))
            ∙ sym (block_past new (512 + 512 * (first + k)) (omega (arith, e, same_len)))
      ]

  run_kept : (n : ℕ) → sector a n ≡ sector old n → sector a n ≡ sector new n
  run_kept n e =
      elim (cases_lt n first) [
        | inl l ↦ e ∙ at_block old n (n + 1) refl ∙ sym (before (n + 1) (omega (arith, l)))
            ∙ sym (at_block new n (n + 1) refl)
        | inr ge ↦
            let place : first + (n - first) ≡ n = omega (arith, ge) in
            elim (cases_lt (512 * (n - first)) size) [
              | inl few ↦ subst (λ m. sector a m ≡ sector new m) place (in_run (n - first) few)
              | inr past ↦
                  e ∙ at_block old n (n + 1) refl ∙ sym (behind (n + 1) (omega (arith, past, long, ge)))
                  ∙ sym (at_block new n (n + 1) refl)
            ]
      ]

  pub run_read : IsRunRead a old new first count
  run_read = record { kept = run_kept; there = run_there }

-- ---- sectors, run by run
pub record IsReadSoFar (a old new sectors : List ℕ) (count : ℕ) : Type 0 where
  pub kept : (n : ℕ) → sector a n ≡ sector old n → sector a n ≡ sector new n
  pub there : (k : ℕ) → k < count → sector a (get_or sectors k 0) ≡ sector new (get_or sectors k 0)

pub nothing_read : (a old sectors : List ℕ) → IsReadSoFar a old old sectors 0
nothing_read a old sectors = record { kept = λ n e. e; there = λ k l. absurd (omega arith) }

pub more_read : (a old now new sectors : List ℕ) (at count first : ℕ) → IsReadSoFar a old now sectors at
    → IsRunRead a now new first count
    → first ≡ get_or sectors at 0 → ((k : ℕ) → k < count → get_or sectors (at + k) 0 ≡ get_or sectors at 0 + k)
    → IsReadSoFar a old new sectors (at + count)
more_read a old now new sectors at count first h r first_is in_turn = record {
  kept = λ n e. r.kept n (h.kept n e);
  there = λ k l.
      elim (cases_lt k at) [
        | inl few ↦ r.kept (get_or sectors k 0) (h.there k few)
        | inr ge ↦
            let place : at + (k - at) ≡ k = omega (arith, ge) in
            let less : k - at < count = omega (arith, ge, l) in
            let e : first + (k - at) ≡ get_or sectors k 0 = ap (λ f. f + (k - at)) first_is
            ∙ sym (in_turn (k - at) less) ∙ ap (λ n. get_or sectors n 0) place in
            subst (λ n. sector a n ≡ sector new n) e (r.there (k - at) less)
      ];
}

pub all_read : (a old new sectors : List ℕ) (count : ℕ) → IsReadSoFar a old new sectors count
    → length sectors ≤ count → IsRead a old new sectors
all_read a old new sectors count h whole = record {
  kept = h.kept;
  there = λ k d l. subst (λ n. sector a n ≡ sector new n) (get_or_default sectors k 0 d l)
      (h.there k (omega (arith, l, whole)));
}

-- the sectors that were found are those of each chain that begins there
pub chain_was_read : (a old new table found : List ℕ) (start : ℕ)
    → ((ns : List ℕ) → length table ≤ END_OF_CHAIN → Leads (λ n. get_or table n 0) start ns END_OF_CHAIN
    → All (λ n. n < length table) ns → found ≡ ns)
    → IsRead a old new found → IsChainRead a old new table start
chain_was_read a old new table found start is r = record {
  kept = r.kept;
  there = λ ns few h below. subst (AgreeOn a new) (is ns few h below) r.there;
}

-- ---- where the bytes are known
-- ---- the DIFAT
-- The DIFAT's sectors that were read so far, `left` being left from `at` on.
pub record IsDifatSoFar (a old new whole : List ℕ) (left at : ℕ) : Type 0 where
  pub kept : (n : ℕ) → sector a n ≡ sector old n → sector a n ≡ sector new n
  pub met : List ℕ
  pub there : AgreeOn a new met
  pub rest : met ++ difat_from a left at ≡ whole

pub none_met : (a old whole : List ℕ) (left at : ℕ) → difat_from a left at ≡ whole
    → IsDifatSoFar a old old whole left at
none_met a old whole left at e = record { kept = λ n h. h; met = []; there = λ k d l. absurd (omega arith); rest = e }

pub more_met : (a old now new whole : List ℕ) (at next end counter : ℕ) → counter < end
    → next ≡ u32_at (sector new at) 508
    → IsDifatSoFar a old now whole (end - counter) at → IsRead a now new (at ∷ [])
    → IsDifatSoFar a old new whole (end - (counter + 1)) next
more_met a old now new whole at next end counter lt e h r =
    let same : sector a at ≡ sector new at = r.there 0 0 (omega arith) in
    record {
      kept = λ n k. r.kept n (h.kept n k);
      met = h.met ++ at ∷ [];
      there = All-append (λ n. sector a n ≡ sector new n) h.met (at ∷ []) (λ k d l. r.kept _ (h.there k d l)) r.there;
      rest = difat_more a h.met whole at next end counter lt (e ∙ ap (λ xs. u32_at xs 508) (sym same)) h.rest;
    }

pub all_met : (a old new whole : List ℕ) (at end counter : ℕ) → end ≤ counter
    → IsDifatSoFar a old new whole (end - counter) at → IsRead a old new whole
all_met a old new whole at end counter le h = record {
  kept = h.kept;
  there = subst (AgreeOn a new) (difat_done a h.met whole at end counter le h.rest) h.there;
}

-- and the FAT's
pub lists_read : (a old mid new : List ℕ) (h : HeaderValue) (ns : List ℕ) → ns ≡ fat_by mid h
    → IsRead a old mid (difat_by a h) → IsRead a mid new ns
    → AreListsRead a old new h ns
lists_read a old mid new h ns is d f = record {
  kept = λ n k. f.kept n (d.kept n k);
  difat_there = λ k x l. f.kept _ (d.there k x l);
  listed_are = is ∙ sym (fat_by_alike a mid h d.there);
  fat_there = f.there;
}

-- ---- files that are known, or not
pub if_some : (known : Option (List ℕ)) (P : List ℕ → Type 0) → ((a : List ℕ) → P a) → IfSome known P
if_some None P f = tt
if_some (Some a) P f = f a

pub some_map : (known : Option (List ℕ)) (P Q : List ℕ → Type 0) → ((a : List ℕ) → P a → Q a) → IfSome known P
    → IfSome known Q
some_map None P Q f h = tt
some_map (Some a) P Q f h = f a h

pub some_both : (known : Option (List ℕ)) (P Q R : List ℕ → Type 0) → ((a : List ℕ) → P a → Q a → R a)
    → IfSome known P → IfSome known Q → IfSome known R
some_both None P Q R f h k = tt
some_both (Some a) P Q R f h k = f a h k

pub some_same : (known other : Option (List ℕ)) (P : List ℕ → Type 0) → known ≡ other → IfSome known P → IfSome other P
some_same known other P e h = subst (λ k. IfSome k P) e h

pub some_five : (known : Option (List ℕ)) (P Q R S T U : List ℕ → Type 0)
    → ((a : List ℕ) → P a → Q a → R a → S a → T a → U a)
    → IfSome known P → IfSome known Q → IfSome known R → IfSome known S → IfSome known T → IfSome known U
some_five None P Q R S T U f p q r s t = tt
some_five (Some a) P Q R S T U f p q r s t = f a p q r s t

pub front_known : (known other : Option (List ℕ)) (front : List ℕ) (m n : ℕ) → known ≡ other → m ≡ n
    → IfSome known (λ a. front ≡ take m (drop 0 a)) → IfSome other (λ a. front ≡ take n (drop 0 a))
front_known known other front m n e f h =
    subst (λ k. IfSome k (λ a. front ≡ take n (drop 0 a))) e
    (subst (λ k. IfSome known (λ a. front ≡ take k (drop 0 a))) f h)
