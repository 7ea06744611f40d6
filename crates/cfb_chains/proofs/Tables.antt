-- How a table is made of the sectors that it lies in.
use Rattle.std.proofs.Common.{◌≡◌, ◌⊎◌, inl, inr, ◌<◌, ◌≤◌, ◌+◌, ◌-◌, ◌*◌, ◌++◌, ℕ, zero, suc, List, [], ◌∷◌, Bool}
use Rattle.std.proofs.Common.{false, true, length, length-append, append-nil, append_assoc, get_or, min, take}
use Rattle.std.proofs.Common.{replicate, refl, sym, ap, subst, ◌∙◌, arith}
use Rattle.std.proofs.Math.Seq.{take-append-add}
use Rattle.std.proofs.lemmas.List.{get_or-replicate, length-take, length-take-le}
use Rattle.std.proofs.lemmas.List.Elements.{All-weaker, Contains-append_left, Contains-append_right}
use Rattle.std.proofs.lemmas.List.FromFn.{length-map-range_with_len}
use Rattle.std.specs.List.{All, Contains, flat_map}
use Rattle.cfb_header.specs.Bytes.{block, joined, sector, u32_at}
use Rattle.cfb_chains.specs.Chain.{AreDistinct, IsPresent}
use Rattle.cfb_header.specs.Header.{HeaderValue, MOST_FAT_SECTORS, NAMED, difat_by, difat_from, fat_by, named_in}
use Rattle.std.proofs.lemmas.List.Concat.{flat_map-append}
use Rattle.cfb_chains.proofs.Blocks.{length_joined}
use Rattle.cfb_header.proofs.Headers.{take_by_index}
use Rattle.cfb_chains.specs.Fat.{AreSame, ComesBack, IsMiniTable, mini_sectors_of, store_of, AreFree, FatValue}
use Rattle.cfb_chains.specs.Fat.{IsTableOf, MayRefuseFat, marked, sectors_in, sectors_of, set_all}
use Rattle.cfb_chains.proofs.Chains.{joined_same}
use Rattle.cfb_header.specs.declared.fault.ChainFault.{ChainFault}
use Rattle.cfb_header.specs.declared.fault.ChainFault.TheVariants.{OutOfFile, CrossLinked, Cycle}

-- a table over a file
abbrev pub over : List ℕ → List ℕ → List Bool → FatValue
over file next used = record { bytes = file; start = 512; width = 512; table = next; used = used }

-- ---- the sectors that a DIFAT sector names
pub named_read : (file numbers : List ℕ) (n : ℕ) → length numbers ≡ 128
    → ((k : ℕ) → k < 128 → get_or numbers k 0 ≡ u32_at (joined (sector file) (n ∷ [])) (4 * k))
    → take 127 numbers ≡ named_in file n
named_read file numbers n len each =
    take_by_index (λ k. u32_at (sector file n) (4 * k)) numbers 128 127 len (omega arith)
    (λ k l. each k l ∙ ap (λ xs. u32_at xs (4 * k)) (append-nil (sector file n)))

pub named_more : (file front fat new xs : List ℕ) (n : ℕ) → fat ≡ front ++ flat_map (named_in file) xs
    → new ≡ fat ++ named_in file n
    → new ≡ front ++ flat_map (named_in file) (xs ++ n ∷ [])
named_more file front fat new xs n h pushed =
    pushed ∙ ap (λ ys. ys ++ named_in file n) h ∙ append_assoc front (flat_map (named_in file) xs) (named_in file n)
    ∙ ap (λ ys. front ++ ys) (ap (λ ys. flat_map (named_in file) xs ++ ys) (sym (append-nil (named_in file n)))
    ∙ sym (flat_map-append (named_in file) xs (n ∷ [])))

pub difat_more : (file xs whole : List ℕ) (at next end counter : ℕ) → counter < end → next ≡ u32_at (sector file at) 508
    → xs ++ difat_from file (end - counter) at ≡ whole → (xs ++ at ∷ []) ++ difat_from file (end - (counter + 1))
    next ≡ whole
difat_more file xs whole at next end counter lt e h =
    let left : end - counter ≡ suc (end - (counter + 1)) = omega arith in
    append_assoc xs (at ∷ []) (difat_from file (end - (counter + 1)) next)
    ∙ ap (λ m. xs ++ at ∷ difat_from file (end - (counter + 1)) m) e
    ∙ ap (λ m. xs ++ difat_from file m at) (sym left) ∙ h

pub difat_done : (file xs whole : List ℕ) (at end counter : ℕ) → end ≤ counter
    → xs ++ difat_from file (end - counter) at ≡ whole → xs ≡ whole
difat_done file xs whole at end counter le h =
    let none : end - counter ≡ 0 = omega arith in
    sym (append-nil xs) ∙ ap (λ m. xs ++ difat_from file m at) (sym none) ∙ h

-- ---- how many sectors are listed
length-difat : (file : List ℕ) (count at : ℕ) → length (difat_from file count at) ≡ count
length-difat file zero at = refl
length-difat file (suc count) at = omega (arith, length-difat file count (u32_at (sector file at) 508))

module _ (file : List ℕ) (h : HeaderValue) where
  named : List ℕ
  named = flat_map (named_in file) (difat_by file h)

  length-named : length named ≡ NAMED * h.difat_count
  unfolding named
  length-named =
      length_joined (named_in file) NAMED (difat_by file h)
      (λ n. length-map-range_with_len (λ k. u32_at (sector file n) (4 * k)) 0 NAMED)
      ∙ ap (λ n. NAMED * n) (length-difat file h.difat_count h.first_difat)

  pub all_listed : h.fat_count ≤ length h.fat + NAMED * h.difat_count → length (fat_by file h) ≡ h.fat_count
  unfolding named
  all_listed enough =
      let long : length (h.fat ++ named) ≡ length h.fat + length named = length-append h.fat named in
      length-take-le h.fat_count (h.fat ++ named) (omega (arith, long, length-named, enough))

  pub few_listed : length h.fat + NAMED * h.difat_count < h.fat_count → length (fat_by file h) < h.fat_count
  unfolding named
  few_listed short =
      let long : length (h.fat ++ named) ≡ length h.fat + length named = length-append h.fat named in
      omega (arith, length-take h.fat_count (h.fat ++ named), long, length-named, short)

  -- those that the header names are among them
  pub header_listed : (n : ℕ) → length h.fat ≤ h.fat_count → Contains h.fat n
      → Contains (fat_by file h ++ difat_by file h) n
  unfolding named
  header_listed n few c =
      let front : fat_by file h ≡ h.fat ++ take (h.fat_count - length h.fat) named =
      ap (λ k. take k (h.fat ++ named)) (let e : h.fat_count ≡ length h.fat + (h.fat_count - length h.fat) =
      omega (arith, few) in e)
      ∙ take-append-add h.fat named (h.fat_count - length h.fat) in
      Contains-append_left (fat_by file h) (difat_by file h) n
      (subst (λ xs. Contains xs n) (sym front)
      (Contains-append_left h.fat (take (h.fat_count - length h.fat) named) n c))

module _ (file : List ℕ) (h : HeaderValue) (own : List ℕ) (own_is : own ≡ fat_by file h ++ difat_by file h)
    (whole : length (fat_by file h) ≡ h.fat_count)
    (count : ℕ) (counted : count ≡ min (128 * h.fat_count) (sectors_in file)) where
  e : count ≡ min (128 * length (fat_by file h)) (sectors_in file)
  e = counted ∙ ap (λ n. min (128 * n) (sectors_in file)) (sym whole)

  pub absent : (n : ℕ) → Contains (fat_by file h ++ difat_by file h) n → count ≤ n → MayRefuseFat file h OutOfFile
  unfolding sectors_of
  absent n c l = (n, c, (λ p. omega (arith, e, p.1)))

  pub all_present : (ns : List ℕ) → h.fat_count ≤ MOST_FAT_SECTORS → All (λ n. n < count) ns
      → All (IsPresent (sectors_of file (fat_by file h))) ns
  unfolding sectors_of
  all_present ns few below =
      All-weaker (λ n. n < count) (IsPresent (sectors_of file (fat_by file h)))
      (λ n l.
      let a : n < min (128 * length (fat_by file h)) (sectors_in file) = subst (λ c. n < c) e l in
      let b : n ≤ 0xFFFFFFF9 = omega (arith, a, whole, few) in
      (b, a))
      ns below

  -- what the first of the DIFAT's sectors is refused for that isn't in the file, or is met again
  pub difat_refused : (e : ChainFault) (ns : List ℕ) → h.fat_count ≤ MOST_FAT_SECTORS → ns ≡ difat_by file h
      → ((e ≡ OutOfFile) × ((n : ℕ) × Contains ns n × (count ≤ n)))
      ⊎ ((e ≡ Cycle) × ((k : ℕ) × All (λ n. n < count) (take k ns) × (AreDistinct (take k ns) → ⊥)))
      → MayRefuseFat file h e
  difat_refused e ns few is (inl r) =
      subst (MayRefuseFat file h) (sym r.0)
      (absent r.1.0 (Contains-append_right (fat_by file h) (difat_by file h) r.1.0
      (subst (λ xs. Contains xs r.1.0) is r.1.1)) r.1.2)
  difat_refused e ns few is (inr r) =
      let back : MayRefuseFat file h Cycle = subst (ComesBack (sectors_of file (fat_by file h))) is (record {
        count = r.1.0;
        present = all_present (take r.1.0 ns) few r.1.1;
        again = r.1.2;
      }) in
      subst (MayRefuseFat file h) (sym r.0) back

  pub crossed : (next : List ℕ) (used : List Bool) → h.fat_count ≤ MOST_FAT_SECTORS → length next ≡ count
      → used ≡ replicate count false → All (λ n. n < count) own
      → All (λ n. n < count) (difat_by file h) → AreDistinct (difat_by file h)
      → (AreFree (over file next used) own → ⊥) → MayRefuseFat file h CrossLinked
  crossed next used few len fresh below below_difat once_difat clash = record {
    present = all_present (difat_by file h) few below_difat;
    once = once_difat;
    twice = λ apart.
        let once : AreDistinct own = subst AreDistinct (sym own_is) apart in
        clash (record {
          free = λ k d l.
              let b : get_or own k d < count = below k d l in (
                omega (arith, len, b),
                ap (λ u. get_or u (get_or own k d) true) fresh
                    ∙ get_or-replicate count (get_or own k d) false true b,
              );
          once = once;
        });
  }

  pub loaded : (next : List ℕ) (used : List Bool) (bytes : List ℕ) (f : FatValue) → h.fat_count ≤ MOST_FAT_SECTORS
      → All (λ n. n < count) own
      → bytes ≡ joined (sector file) (fat_by file h) → length next ≡ count
      → ((k : ℕ) → k < count → get_or next k 0 ≡ u32_at bytes (4 * k))
      → used ≡ replicate count false
      → AreFree (over file next used) own → f ≡ marked (over file next used) own → IsTableOf file h f
  unfolding sectors_of
  loaded next used bytes f few below b len each fresh free made =
      subst (IsTableOf file h) (sym made) (record {
        is_fat = record {
          whole = whole;
          present = subst (λ xs. All (IsPresent (sectors_of file (fat_by file h))) xs) own_is
              (all_present own few below);
          once = subst AreDistinct own_is free.once;
        };
        sectors = record {
          count = len ∙ e;
          width = refl;
          piece = λ n l. refl;
          next = λ n l. each n (omega (arith, len, l)) ∙ ap (λ x. u32_at x (4 * n)) b;
        };
        marks = ap (λ u. set_all u own) (fresh ∙ ap (λ n. replicate n false) (sym len))
            ∙ ap (set_all (replicate (length next) false)) own_is;
      })

-- The mini sectors that a table of them has are those of the file.
pub mini_same : (file fat mini_fat mini_stream : List ℕ) (size : ℕ) (f m : FatValue)
    → AreSame (store_of f) (sectors_of file fat)
    → All (λ n. n < length f.table) mini_fat → All (λ n. n < length f.table) mini_stream
    → IsMiniTable f mini_fat mini_stream size m
    → AreSame (store_of m) (mini_sectors_of file mini_fat mini_stream size)
unfolding sectors_of mini_sectors_of
mini_same file fat mini_fat mini_stream size f m same in_fat in_stream h =
    let entries : joined (store_of f).piece mini_fat ≡ joined (sector file) mini_fat =
    joined_same (store_of f) (sectors_of file fat) same mini_fat in_fat in
    let bytes : joined (store_of f).piece mini_stream ≡ joined (sector file) mini_stream =
    joined_same (store_of f) (sectors_of file fat) same mini_stream in_stream in
    record {
      count = h.sectors.count;
      width = h.sectors.width;
      piece = λ n l. h.sectors.piece n l ∙ ap (λ x. block 64 x (64 * n)) bytes;
      next = λ n l. h.sectors.next n l ∙ ap (λ x. u32_at x (4 * n)) entries;
    }
