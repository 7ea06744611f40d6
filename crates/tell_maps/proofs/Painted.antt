-- What is painted of a file are its sectors, each with its character.
use Rattle.std.proofs.Common.{◌≡◌, ◌<◌, ◌+◌, ◌-◌, ◌/◌, ◌++◌, ◌∙◌, ℕ, List, cond, length, get_or, map, nat_eq, replicate}
use Rattle.std.proofs.Common.{sym, ap, subst, arith}
use Rattle.std.proofs.lemmas.List.{get_or-replicate, length-replicate}
use Rattle.std.proofs.lemmas.List.FromFn.{fill_by_all}
use Rattle.std.specs.List.{range_with_len}
use Rattle.cfb_chains.specs.Chain.{END_OF_CHAIN}
use Rattle.cfb_chains.specs.Fat.{sectors_in}
use Rattle.cfb_file.specs.Denotes.{Layout, sectors}
use Rattle.read_streams.specs.Chains.{IsFatOf}
use Rattle.tell_maps.specs.Maps.{BEYOND, DIFAT, DIRECTORY, FAT, FREE, LAST, MINI_FAT, MINI_STREAM, STREAM, cells, is_in}
use Rattle.tell_maps.specs.Maps.{mark, stream_mark}
use Rattle.tell_maps.specs.Painting.{Paints}

-- the marks of streams' sectors by the FAT's entries are those by the file
marks_same : (file : List ℕ) (l : Layout) (table : List ℕ) → IsFatOf file l table → (ns old new : List ℕ)
    → length table ≡ length old
    → Paints (λ n. cond (nat_eq (get_or table n 0) END_OF_CHAIN) LAST STREAM) ns old new
    → Paints (stream_mark file l) ns old new
marks_same file l table o ns old new long h = λ n lt.
    h n lt ∙ ap (λ x. cond (is_in ns n) (cond (nat_eq x END_OF_CHAIN) LAST STREAM) (get_or old n 0))
    (o.next n (subst (λ c. n < c) (sym long) lt))

-- all parts that were painted, one behind the other
pub record ArePainted (file : List ℕ) (l : Layout) (table streams c0 c1 c2 c3 c4 c5 c6 : List ℕ) : Type 0 where
  pub over : IsFatOf file l table
  pub free : c0 ≡ replicate (length table) FREE
  pub long1 : length c1 ≡ length c0
  pub long2 : length c2 ≡ length c1
  pub long3 : length c3 ≡ length c2
  pub long4 : length c4 ≡ length c3
  pub long5 : length c5 ≡ length c4
  pub long6 : length c6 ≡ length c5
  pub fat : Paints (λ _. FAT) l.fat c0 c1
  pub difat : Paints (λ _. DIFAT) l.difat c1 c2
  pub mini_fat : Paints (λ _. MINI_FAT) l.mini_fat c2 c3
  pub directory : Paints (λ _. DIRECTORY) l.directory c3 c4
  pub mini_stream : Paints (λ _. MINI_STREAM) l.mini_stream c4 c5
  pub last : Paints (λ n. cond (nat_eq (get_or table n 0) END_OF_CHAIN) LAST STREAM) streams c5 c6

module _ (file : List ℕ) (l : Layout) (table streams c0 c1 c2 c3 c4 c5 c6 : List ℕ)
    (p : ArePainted file l table streams c0 c1 c2 c3 c4 c5 c6) where
  long0 : length c0 ≡ (sectors file l).count
  long0 = ap length p.free ∙ length-replicate (length table) FREE ∙ p.over.count

  long_table : length table ≡ length c5
  long_table = p.over.count ∙ sym long0 ∙ sym p.long1 ∙ sym p.long2 ∙ sym p.long3 ∙ sym p.long4 ∙ sym p.long5

  each_marked : (k : ℕ) → k < (sectors file l).count → get_or c6 k 0 ≡ mark file l streams k
  each_marked k lt =
      let l0 : k < length c0 = subst (λ n. k < n) (sym long0) lt in
      let l1 : k < length c1 = subst (λ n. k < n) (sym p.long1) l0 in
      let l2 : k < length c2 = subst (λ n. k < n) (sym p.long2) l1 in
      let l3 : k < length c3 = subst (λ n. k < n) (sym p.long3) l2 in
      let l4 : k < length c4 = subst (λ n. k < n) (sym p.long4) l3 in
      let l5 : k < length c5 = subst (λ n. k < n) (sym p.long5) l4 in
      let there : k < length table = subst (λ n. k < n) (sym p.over.count) lt in
      marks_same file l table p.over streams c5 c6 long_table p.last k l5
      ∙ ap (cond (is_in streams k) (stream_mark file l k)) (p.mini_stream k l4
      ∙ ap (cond (is_in l.mini_stream k) MINI_STREAM) (p.directory k l3
      ∙ ap (cond (is_in l.directory k) DIRECTORY) (p.mini_fat k l2
      ∙ ap (cond (is_in l.mini_fat k) MINI_FAT) (p.difat k l1
      ∙ ap (cond (is_in l.difat k) DIFAT) (p.fat k l0
      ∙ ap (cond (is_in l.fat k) FAT) (ap (λ xs. get_or xs k 0) p.free
      ∙ get_or-replicate (length table) k FREE 0 there))))))

  -- and those past the FAT behind them
  pub all_painted : (c7 : List ℕ) (len rest : ℕ) → len ≡ length file → c7 ≡ c6 ++ replicate rest BEYOND
      → rest ≡ (len - 1) / 512 - length table → c7 ≡ cells file l streams
  all_painted c7 len rest is pushed e =
      let whole : c6 ≡ map (mark file l streams) (range_with_len 0 (sectors file l).count) =
      fill_by_all (mark file l streams) c6 (sectors file l).count 0
      (p.long6 ∙ sym long_table ∙ p.over.count) each_marked in
      let behind : rest ≡ sectors_in file - (sectors file l).count = omega (arith, is, e, p.over.count) in
      pushed ∙ ap (λ xs. xs ++ replicate rest BEYOND) whole
      ∙ ap (λ n. map (mark file l streams) (range_with_len 0 (sectors file l).count) ++ replicate n BEYOND)
      behind
