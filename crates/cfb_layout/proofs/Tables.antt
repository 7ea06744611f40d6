-- Tables of sectors as bytes, and the runs that stand in them.
use Rattle.std.proofs.Common.{◌≡◌, append-nil, append_assoc, ◌<◌, ◌≤◌, ◌+◌, ◌-◌, ◌*◌, ◌^◌, ℕ, zero, suc, List, [], ◌∷◌}
use Rattle.std.proofs.Common.{◌++◌, length, drop, get_or, replicate, lit≤, refl, sym, ◌∙◌, ap, subst, arith}
use Rattle.std.proofs.Common.{length-append, length-drop}
use Rattle.std.proofs.Math.Seq.{drop-append-add}
use Rattle.std.proofs.lemmas.List.{drop-append-le, take-append-le, get_or_append_left, get_or-append-add}
use Rattle.std.proofs.lemmas.List.{length-replicate}
use Rattle.std.proofs.lemmas.Grind.{replicate_next}
use Rattle.std.proofs.lemmas.List.Concat.{concat_is, flat_map-append}
use Rattle.std.proofs.lemmas.List.Elements.{All-append, All-cons, All-nil, All-tail}
use Rattle.std.proofs.lemmas.List.FromFn.{length-range_with_len, get_or-range_with_len}
use Rattle.std.proofs.lemmas.List.Sums.{sum_by-cons}
use Rattle.std.proofs.lemmas.Nat.{from_le_bytes-to_le_bytes_4}
use Rattle.std.specs.List.{concat, flat_map, range_with_len, sum, All}
use Rattle.std.specs.Int.{w32, to_le_bytes}
use Rattle.cfb_header.specs.Bytes.{u32_at}
use Rattle.cfb_chains.specs.Chain.{Store, Leads, IsPresent, IsChain, IsChainOf, AreDistinct, END_OF_CHAIN, FREE_SECTOR}
use Rattle.cfb_layout.specs.Image.{run, runs, start, table_bytes}

-- a number that four bytes hold
abbrev pub IsWord : ℕ → Type 0
IsWord n = n < 2 ^ 32

abbrev pub numbers_bytes : List ℕ → List ℕ
numbers_bytes ns = flat_map (to_le_bytes w32) ns

pub u32_at_front : (xs ys : List ℕ) (n : ℕ) → n + 4 ≤ length xs → u32_at (xs ++ ys) n ≡ u32_at xs n
unfolding u32_at
u32_at_front xs ys n h =
    let a : n ≤ length xs = omega arith in
    let b : 4 ≤ length (drop n xs) = omega (arith, length-drop n xs) in
    rw (drop-append-le n xs ys a, take-append-le 4 (drop n xs) ys b) refl

pub u32_at_behind : (xs ys : List ℕ) (n : ℕ) → u32_at (xs ++ ys) (length xs + n) ≡ u32_at ys n
unfolding u32_at
u32_at_behind xs ys n = rw drop-append-add refl

pub u32_at_whole : (x : ℕ) → IsWord x → u32_at (to_le_bytes w32 x) 0 ≡ x
unfolding u32_at
u32_at_whole x fits = from_le_bytes-to_le_bytes_4 x fits

pub length-numbers_bytes : (ns : List ℕ) → length (numbers_bytes ns) ≡ 4 * length ns
length-numbers_bytes [] = refl
length-numbers_bytes (n ∷ ns) =
    let e : length (numbers_bytes (n ∷ ns)) ≡ 4 + length (numbers_bytes ns) =
    length-append (to_le_bytes w32 n) (numbers_bytes ns) in
    omega (arith, e, length-numbers_bytes ns)

-- the k-th of some numbers, read back
pub u32_at_number : (ns : List ℕ) (k : ℕ) → All IsWord ns → k < length ns
    → u32_at (numbers_bytes ns) (4 * k) ≡ get_or ns k 0
u32_at_number [] k fits h = absurd (omega arith)
u32_at_number (n ∷ ns) zero fits h =
    u32_at_front (to_le_bytes w32 n) (numbers_bytes ns) 0 (lit≤ tt) ∙ u32_at_whole n (fits 0 0 (omega arith))
u32_at_number (n ∷ ns) (suc k) fits h =
    let e : 4 * suc k ≡ 4 + 4 * k = omega arith in
    rw e (u32_at_behind (to_le_bytes w32 n) (numbers_bytes ns) (4 * k)
    ∙ u32_at_number ns k (All-tail IsWord n ns fits) (omega arith))

-- a table takes whole sectors
pub length-table_bytes : (count : ℕ) (ns : List ℕ) → length ns ≤ 128 * count
    → length (table_bytes count ns) ≡ 512 * count
length-table_bytes count ns h =
    omega (
      arith,
      length-numbers_bytes (ns ++ replicate (128 * count - length ns) FREE_SECTOR),
      length-append ns (replicate (128 * count - length ns) FREE_SECTOR),
      length-replicate (128 * count - length ns) FREE_SECTOR,
    )

pub table_number : (count : ℕ) (ns : List ℕ) (k : ℕ) → All IsWord ns → k < length ns
    → u32_at (table_bytes count ns) (4 * k) ≡ get_or ns k 0
table_number count ns k fits h =
    let free : List ℕ = replicate (128 * count - length ns) FREE_SECTOR in
    let front : u32_at (numbers_bytes ns ++ numbers_bytes free) (4 * k) ≡ u32_at (numbers_bytes ns) (4 * k) =
    u32_at_front (numbers_bytes ns) (numbers_bytes free) (4 * k) (omega (arith, length-numbers_bytes ns)) in
    ap (λ bytes. u32_at bytes (4 * k)) (flat_map-append (to_le_bytes w32) ns free) ∙ front ∙ u32_at_number ns k fits h

-- a run has so many entries
pub length-run : (at n : ℕ) → length (run at n) ≡ n
length-run at zero = refl
length-run at (suc n) = omega (
  arith,
  length-append (range_with_len (at + 1) n) (END_OF_CHAIN ∷ []),
  length-range_with_len (at + 1) n,
)

pub length-runs : (at : ℕ) (ns : List ℕ) → length (runs at ns) ≡ sum ns
length-runs at [] = refl
length-runs at (n ∷ ns) =
    omega (
      arith,
      length-append (run at n) (runs (at + n) ns),
      length-run at n,
      length-runs (at + n) ns,
      sum_by-cons (λ x. x) n ns,
    )

pub words_in_range : (at n : ℕ) → at + n ≤ 2 ^ 32 → All IsWord (range_with_len at n)
words_in_range at n h = λ k d l.
    let m : k < n = omega (arith, length-range_with_len at n) in
    rw get_or-range_with_len (omega arith)

pub words_in_run : (at n : ℕ) → at + n ≤ 2 ^ 32 → All IsWord (run at n)
words_in_run at zero h = All-nil IsWord
words_in_run at (suc n) h =
    All-append IsWord (range_with_len (at + 1) n) (END_OF_CHAIN ∷ []) (words_in_range (at + 1) n (omega arith))
    (All-cons IsWord END_OF_CHAIN [] (omega arith) (All-nil IsWord))

pub words_in_runs : (at : ℕ) (ns : List ℕ) → at + sum ns ≤ 2 ^ 32 → All IsWord (runs at ns)
words_in_runs at [] h = All-nil IsWord
words_in_runs at (n ∷ ns) h =
    All-append IsWord (run at n) (runs (at + n) ns) (words_in_run at n (omega (arith, sum_by-cons (λ x. x) n ns)))
    (words_in_runs (at + n) ns (omega (arith, sum_by-cons (λ x. x) n ns)))

-- an entry of a run that stands in a table behind others
pub run_entry : (front back : List ℕ) (at n k : ℕ) → length front ≡ at → k < n
    → get_or (front ++ (run at n ++ back)) (at + k) 0 ≡ get_or (run at n) k 0
run_entry front back at n k e h =
    let p : at + k ≡ length front + k = omega arith in
    rw p (get_or-append-add front (run at n ++ back) k 0 ∙ get_or_append_left (run at n) back 0 k
    (omega (arith, length-run at n)))

-- a run in a table is a chain
pub leads_run : (next : ℕ → ℕ) (at n : ℕ) → ((k : ℕ) → k < n → next (at + k) ≡ get_or (run at n) k 0) → 0 < n
    → Leads next at (range_with_len at n) END_OF_CHAIN
leads_run next at zero table some = absurd (omega arith)
leads_run next at (suc zero) table some =
    let e : at + 0 ≡ at = omega arith in (refl, sym (ap next e) ∙ table 0 (omega arith))
leads_run next at (suc (suc n)) table some =
    let e : at + 0 ≡ at = omega arith in
    let s : next at ≡ at + 1 = sym (ap next e) ∙ table 0 (omega arith) in
    let P : ℕ → Type 0 = λ x. Leads next x (range_with_len (at + 1) (suc n)) END_OF_CHAIN in (
      refl,
      subst P (sym s) (leads_run next (at + 1) (suc n) (λ k l. let f : at + 1 + k ≡ at + suc k = omega arith in
          ap next f ∙ table (suc k) (omega arith)) (omega arith)),
    )

-- A store whose sectors a table has, entry by entry.
pub record IsTabled (s : Store) (table : List ℕ) : Type 0 where
  pub count : s.count ≡ length table
  pub next : (k : ℕ) → k < length table → s.next k ≡ get_or table k 0
  pub small : length table ≤ 0xFFFFFFF9

pub present_in_range : (s : Store) (at n : ℕ) → at + n ≤ s.count → s.count ≤ 0xFFFFFFF9
    → All (IsPresent s) (range_with_len at n)
present_in_range s at n h small = λ k d l.
    let m : k < n = omega (arith, length-range_with_len at n) in
    rw get_or-range_with_len (omega arith, omega arith)

pub chain_in_table : (s : Store) (table front back : List ℕ) (at n bytes : ℕ) → IsTabled s table
    → table ≡ front ++ (run at n ++ back)
    → length front ≡ at → 0 < n → bytes ≤ s.width * n → IsChain s at bytes (range_with_len at n)
chain_in_table s table front back at n bytes t e before some enough =
    let long : length table ≡ at + (n + length back) =
    ap length e ∙ length-append front (run at n ++ back)
    ∙ omega (arith, length-append (run at n) back, length-run at n) in
    let entries : (k : ℕ) → k < n → s.next (at + k) ≡ get_or (run at n) k 0 =
    λ k l. t.next (at + k) (omega arith) ∙ ap (λ xs. get_or xs (at + k) 0) e ∙ run_entry front back at n k before l in
    record {
      linked = leads_run s.next at n entries some;
      present = present_in_range s at n (omega (arith, t.count)) (omega (arith, t.count, t.small));
      enough = let w : length (range_with_len at n) ≡ n = length-range_with_len at n in rw w enough;
    }

-- a run in a table is a chain, or none where it is empty
pub chain_of_in_table : (s : Store) (table front back : List ℕ) (at n bytes : ℕ) → IsTabled s table
    → table ≡ front ++ (run at n ++ back)
    → length front ≡ at → bytes ≤ s.width * n → (bytes ≡ 0 → n ≡ 0)
    → IsChainOf s (start at n) bytes (range_with_len at n)
chain_of_in_table s table front back at zero zero t e before enough none = refl
chain_of_in_table s table front back at zero (suc b) t e before enough none =
    absurd (let z : s.width * 0 ≡ 0 = omega arith in omega arith)
chain_of_in_table s table front back at (suc n) zero t e before enough none =
    absurd (let z : suc n ≡ 0 = none refl in omega arith)
chain_of_in_table s table front back at (suc n) (suc b) t e before enough none =
    chain_in_table s table front back at (suc n) (suc b) t e before (omega arith) enough

-- ranges one after another are one
pub range-append : (at m n : ℕ) → range_with_len at m ++ range_with_len (at + m) n ≡ range_with_len at (m + n)
range-append at zero n = let e : at + 0 ≡ at = omega arith in let z : 0 + n ≡ n = omega arith in rw (e, z) refl
range-append at (suc m) n =
    let e : at + suc m ≡ at + 1 + m = omega arith in
    let z : suc m + n ≡ suc (m + n) = omega arith in
    rw (e, z) (ap (λ xs. at ∷ xs) (range-append (at + 1) m n))

pub range_distinct : (at n : ℕ) → AreDistinct (range_with_len at n)
range_distinct at n = λ i j d l m e.
    let len : length (range_with_len at n) ≡ n = length-range_with_len at n in
    let a : get_or (range_with_len at n) i d ≡ at + i = get_or-range_with_len at n i d (omega arith) in
    let b : get_or (range_with_len at n) j d ≡ at + j = get_or-range_with_len at n j d (omega arith) in
    omega arith

-- one number of a range, pushed
pub range_more : (xs : List ℕ) (at end : ℕ) → at < end
    → (xs ++ at ∷ []) ++ range_with_len (at + 1) (end - (at + 1)) ≡ xs ++ range_with_len at (end - at)
range_more xs at end h =
    let e : end - at ≡ suc (end - (at + 1)) = omega arith in
    rw e (append_assoc xs (at ∷ []) (range_with_len (at + 1) (end - (at + 1))))

free_bytes : (n : ℕ) → numbers_bytes (replicate n FREE_SECTOR) ≡ replicate (4 * n) 255
free_bytes zero = refl
free_bytes (suc n) =
    let e : 4 * suc n ≡ suc (suc (suc (suc (4 * n)))) = omega arith in
    rw e (ap (λ xs. 255 ∷ 255 ∷ 255 ∷ 255 ∷ xs) (free_bytes n))

-- a table and its free entries, one after another
pub table_pushed : (count : ℕ) (ns out : List ℕ)
    → (out ++ numbers_bytes ns) ++ replicate (4 * (128 * count - length ns)) 255 ≡ out ++ table_bytes count ns
table_pushed count ns out =
    let free : List ℕ = replicate (128 * count - length ns) FREE_SECTOR in
    append_assoc out (numbers_bytes ns) (replicate (4 * (128 * count - length ns)) 255)
    ∙ ap (λ xs. out ++ (numbers_bytes ns ++ xs)) (sym (free_bytes (128 * count - length ns)))
    ∙ ap (λ xs. out ++ xs) (sym (flat_map-append (to_le_bytes w32) ns free))

-- one more of equal pieces
pub concat_more : (xs : List ℕ) (n : ℕ) → concat (replicate (n + 1) xs) ≡ concat (replicate n xs) ++ xs
concat_more xs n =
    concat_is (replicate (n + 1) xs) ∙ ap (flat_map (λ x. x)) (replicate_next n xs)
    ∙ flat_map-append (λ x. x) (replicate n xs) (xs ∷ [])
    ∙ (λ i. sym (concat_is (replicate n xs)) i ++ append-nil xs i)
