-- What is marked in a table, and what of it is free.
use Rattle.std.proofs.Common.{take, drop, ◌≡◌, ◌≢◌, ◌<◌, ◌⊎◌, inl, inr, ℕ, zero, suc, Bool, true, false, List, [], ◌∷◌}
use Rattle.std.proofs.Common.{◌++◌, length, get_or, set, replicate, refl, sym, ap, subst, ◌∙◌, arith, eqb}
use Rattle.std.proofs.Common.{get_or-set_other}
use Rattle.std.proofs.Math.ListN.{length-set}
use Rattle.std.proofs.Math.Seq.{drop-cons}
use Rattle.std.proofs.lemmas.List.{take-append-drop, get_or_default, length-replicate, get_or-replicate, same_lists}
use Rattle.std.proofs.lemmas.Bool.{cases_Bool, eqb-false, eqb-true}
use Rattle.std.proofs.lemmas.Grind.{get_or-set_at}
use Rattle.std.proofs.lemmas.List.Kept.{AllPairs-cons}
use Rattle.std.proofs.lemmas.List.Elements.{All-cons, All-head, All-tail, All-append, All-contains, All-contains_itself}
use Rattle.std.proofs.lemmas.List.Elements.{All-weaker, Contains-append_left, Contains-append_right}
use Rattle.std.specs.List.{All, Contains}
use Rattle.cfb_chains.specs.Chain.{AreDistinct, IsPresent}
use Rattle.cfb_chains.specs.Fat.{AreFree, FatValue, IsFree, IsTableOf, marked, sectors_of, set_all}
use Rattle.cfb_header.specs.Header.{HeaderValue, difat_by, fat_by}

-- numbers of which no two are equal
pub distinct_tail : (n : ℕ) (ns : List ℕ) → AreDistinct (n ∷ ns) → AreDistinct ns
distinct_tail n ns h = λ i j d l k. h (suc i) (suc j) d (omega arith) (omega arith)

pub distinct_head : (n : ℕ) (ns : List ℕ) → AreDistinct (n ∷ ns) → All (λ m. n ≢ m) ns
distinct_head n ns h = λ k d l. h 0 (suc k) d (omega arith) (omega arith)

pub distinct_cons : (n : ℕ) (ns : List ℕ) → All (λ m. n ≢ m) ns → AreDistinct ns → AreDistinct (n ∷ ns)
distinct_cons n ns h t = AllPairs-cons (λ m k. m ≢ k) n ns h t

pub distinct_append : (ns ms : List ℕ) → AreDistinct ns → AreDistinct ms
    → ((n : ℕ) → Contains ns n → Contains ms n → ⊥) → AreDistinct (ns ++ ms)
distinct_append [] ms h g apart = g
distinct_append (n ∷ ns) ms h g apart =
    distinct_cons n (ns ++ ms)
    (All-append (λ m. n ≢ m) ns ms (distinct_head n ns h)
    (All-weaker (Contains ms) (λ m. n ≢ m) (λ m in_ms same. apart m (0, omega arith, same) in_ms) ms
    (All-contains_itself ms)))
    (distinct_append ns ms (distinct_tail n ns h) g (λ m a b. apart m (suc a.0, omega (arith, a.1), a.2) b))

pub distinct_left : (ns ms : List ℕ) → AreDistinct (ns ++ ms) → AreDistinct ns
distinct_left [] ms h = λ i j d l k. absurd (omega arith)
distinct_left (n ∷ ns) ms h =
    distinct_cons n ns
    (All-weaker (Contains ns) (λ m. n ≢ m)
    (λ m c. All-contains (λ m. n ≢ m) (ns ++ ms) m (distinct_head n (ns ++ ms) h)
    (Contains-append_left ns ms m c)) ns (All-contains_itself ns))
    (distinct_left ns ms (distinct_tail n (ns ++ ms) h))

pub distinct_right : (ns ms : List ℕ) → AreDistinct (ns ++ ms) → AreDistinct ms
distinct_right [] ms h = h
distinct_right (n ∷ ns) ms h = distinct_right ns ms (distinct_tail n (ns ++ ms) h)

pub distinct_apart : (ns ms : List ℕ) → AreDistinct (ns ++ ms) → (n : ℕ) → Contains ns n → Contains ms n → ⊥
distinct_apart [] ms h n a b = omega (arith, a.1)
distinct_apart (m ∷ ns) ms h n (zero, l, e) b = All-contains (λ k. m ≢ k) (ns ++ ms) n
    (distinct_head m (ns ++ ms) h) (Contains-append_right ns ms n b) e
distinct_apart (m ∷ ns) ms h n (suc k, l, e) b = distinct_apart ns ms (distinct_tail m (ns ++ ms) h) n
    (k, omega arith, e) b

-- marks
set_kept : (xs : List Bool) (m n : ℕ) → get_or xs n true ≡ true → get_or (set xs m true) n true ≡ true
set_kept [] m n h = h
set_kept (x ∷ xs) zero zero h = refl
set_kept (x ∷ xs) zero (suc n) h = h
set_kept (x ∷ xs) (suc m) zero h = h
set_kept (x ∷ xs) (suc m) (suc n) h = set_kept xs m n h

set_here : (xs : List Bool) (n : ℕ) → get_or (set xs n true) n true ≡ true
set_here [] n = refl
set_here (x ∷ xs) zero = refl
set_here (x ∷ xs) (suc n) = set_here xs n

pub length-set_all : (used : List Bool) (ns : List ℕ) → length (set_all used ns) ≡ length used
length-set_all used [] = refl
length-set_all used (n ∷ ns) = length-set_all (set used n true) ns ∙ length-set used n true

pub marked_kept : (used : List Bool) (ms : List ℕ) (n : ℕ) → get_or used n true ≡ true
    → get_or (set_all used ms) n true ≡ true
marked_kept used [] n h = h
marked_kept used (m ∷ ms) n h = marked_kept (set used m true) ms n (set_kept used m n h)

pub marked_by : (used : List Bool) (ms : List ℕ) (n : ℕ) → Contains ms n → get_or (set_all used ms) n true ≡ true
marked_by used [] n c = absurd (omega (arith, c.1))
marked_by used (m ∷ ms) n (zero, l, e) =
    marked_kept (set used m true) ms n (subst (λ k. get_or (set used k true) n true ≡ true) (sym e) (set_here used n))
marked_by used (m ∷ ms) n (suc k, l, e) = marked_by (set used m true) ms n (k, omega arith, e)

pub marked_only : (used : List Bool) (ms : List ℕ) (n : ℕ) → get_or (set_all used ms) n true ≡ true
    → (get_or used n true ≡ true) ⊎ Contains ms n
marked_only used [] n h = inl h
marked_only used (m ∷ ms) n h =
    elim (marked_only (set used m true) ms n h) [
      | inr c ↦ inr (suc c.0, omega (arith, c.1), c.2)
      | inl t ↦ elim (cases_Bool (eqb n m)) [
        | inl same ↦ inr (0, omega arith, sym (eqb-true n m same))
        | inr other ↦ inl (sym (get_or-set_other used m n true true (eqb-false n m other)) ∙ t)
      ]
    ]

-- the marks stand at these sectors and nowhere else
abbrev pub IsMarked : FatValue → ℕ → Type 0
IsMarked f n = (n < length f.table) × (get_or f.used n true ≡ true)

pub record Marks (f : FatValue) (ns : List ℕ) : Type 0 where
  pub each : length f.table ≡ length f.used
  pub listed : All (IsMarked f) ns
  pub only : (n : ℕ) → IsMarked f n → Contains ns n
  pub once : AreDistinct ns

-- a table that was loaded marks the FAT's sectors
pub marks_load : (file : List ℕ) (v : HeaderValue) (f : FatValue) → IsTableOf file v f
    → Marks f (fat_by file v ++ difat_by file v)
marks_load file v f h =
    let fat : List ℕ = fat_by file v ++ difat_by file v in
    let fresh : List Bool = replicate (length f.table) false in
    let long : length f.used ≡ length f.table =
    ap length h.marks ∙ length-set_all fresh fat ∙ length-replicate (length f.table) false in
    record {
      each = sym long;
      listed = All-weaker (Contains fat) (IsMarked f)
          (λ n c. (
            subst (λ k. n < k) (sym h.sectors.count)
                (All-contains (IsPresent (sectors_of file (fat_by file v))) fat n h.is_fat.present c).1,
            subst (λ used. get_or used n true ≡ true) (sym h.marks) (marked_by fresh fat n c),
          ))
          fat (All-contains_itself fat);
      only = λ n m.
          elim (marked_only fresh fat n (subst (λ used. get_or used n true ≡ true) h.marks m.1)) [
            | inl t ↦ absurd (let f : true ≡ false = sym t ∙ get_or-replicate (length f.table) n false true m.0 in cc)
            | inr c ↦ c
          ];
      once = h.is_fat.once;
    }

-- those that are marked more
pub marks_more : (f : FatValue) (ns ms : List ℕ) → Marks f ns → AreFree f ms → Marks (marked f ms) (ns ++ ms)
marks_more f ns ms h g = record {
  each = h.each ∙ sym (length-set_all f.used ms);
  listed = All-append (IsMarked (marked f ms)) ns ms
      (All-weaker (IsMarked f) (IsMarked (marked f ms)) (λ n m. (m.0, marked_kept f.used ms n m.1)) ns h.listed)
      (All-weaker (Contains ms) (IsMarked (marked f ms))
      (λ n c. ((All-contains (IsFree f) ms n g.free c).0, marked_by f.used ms n c)) ms
      (All-contains_itself ms));
  only = λ n m.
      elim (marked_only f.used ms n m.1) [
        | inl t ↦ Contains-append_left ns ms n (h.only n (m.0, t))
        | inr c ↦ Contains-append_right ns ms n c
      ];
  once = distinct_append ns ms h.once g.once (λ n a b.
      let t : true ≡ false = sym (All-contains (IsMarked f) ns n h.listed a).1
      ∙ (All-contains (IsFree f) ms n g.free b).1 in cc);
}

-- sectors apart from those that are marked are free
pub free_when : (f : FatValue) (ns ms : List ℕ) → Marks f ns → AreDistinct (ns ++ ms)
    → All (λ n. n < length f.table) ms → AreFree f ms
free_when f ns ms h g below = record {
  free = All-weaker (Contains ms) (IsFree f)
      (λ n c.
      let l : n < length f.table = All-contains (λ n. n < length f.table) ms n below c in (
        l,
        elim (cases_Bool (get_or f.used n true)) [
          | inl t ↦ absurd (distinct_apart ns ms g n (h.only n (l, t)) c)
          | inr e ↦ e
        ],
      ))
      ms (All-contains_itself ms);
  once = distinct_right ns ms g;
}

-- sectors that are free one after another are free at once
unmarked_before : (used : List Bool) (ms : List ℕ) (n : ℕ) → get_or (set_all used ms) n true ≡ false
    → get_or used n true ≡ false
unmarked_before used ms n h =
    elim (cases_Bool (get_or used n true)) [
      | inl t ↦ absurd (let e : true ≡ false = sym (marked_kept used ms n t) ∙ h in cc)
      | inr e ↦ e
    ]

pub free_then : (f : FatValue) (ns ms : List ℕ) → AreFree f ns → AreFree (marked f ns) ms → AreFree f (ns ++ ms)
free_then f ns ms h g = record {
  free = All-append (IsFree f) ns ms h.free
      (All-weaker (IsFree (marked f ns)) (IsFree f) (λ n q. (q.0, unmarked_before f.used ns n q.1)) ms g.free);
  once = distinct_append ns ms h.once g.once (λ n a b.
      let e : true ≡ false = sym (marked_by f.used ns n a)
      ∙ (All-contains (IsFree (marked f ns)) ms n g.free b).1 in cc);
}

pub free_left : (f : FatValue) (ns ms : List ℕ) → AreFree f (ns ++ ms) → AreFree f ns
free_left f ns ms h = record {
  free = All-weaker (Contains ns) (IsFree f)
      (λ n c. All-contains (IsFree f) (ns ++ ms) n h.free (Contains-append_left ns ms n c)) ns
      (All-contains_itself ns);
  once = distinct_left ns ms h.once;
}

pub free_rest : (f : FatValue) (ns ms : List ℕ) → AreFree f (ns ++ ms) → AreFree (marked f ns) ms
free_rest f ns ms h = record {
  free = All-weaker (Contains ms) (IsFree (marked f ns))
      (λ n c.
      let q : IsFree f n = All-contains (IsFree f) (ns ++ ms) n h.free (Contains-append_right ns ms n c) in (
        q.0,
        elim (cases_Bool (get_or (set_all f.used ns) n true)) [
          | inl t ↦ elim (marked_only f.used ns n t) [
            | inl u ↦ absurd (let e : true ≡ false = sym u ∙ q.1 in cc)
            | inr a ↦ absurd (distinct_apart ns ms h.once n a c)
          ]
          | inr e ↦ e
        ],
      ))
      ms (All-contains_itself ms);
  once = distinct_right ns ms h.once;
}

pub set_all-append : (used : List Bool) (ns ms : List ℕ) → set_all used (ns ++ ms) ≡ set_all (set_all used ns) ms
set_all-append used [] ms = refl
set_all-append used (n ∷ ns) ms = set_all-append (set used n true) ns ms

-- marks taken away
abbrev pub clear_all : List Bool → List ℕ → List Bool
clear_all used [] = used
clear_all used (n ∷ ns) = clear_all (set used n false) ns

pub clear_all-append : (used : List Bool) (ns ms : List ℕ) → clear_all used (ns ++ ms)
    ≡ clear_all (clear_all used ns) ms
clear_all-append used [] ms = refl
clear_all-append used (n ∷ ns) ms = clear_all-append (set used n false) ns ms

pub length-clear_all : (used : List Bool) (ns : List ℕ) → length (clear_all used ns) ≡ length used
length-clear_all used [] = refl
length-clear_all used (n ∷ ns) = length-clear_all (set used n false) ns ∙ length-set used n false

cleared_other : (used : List Bool) (ns : List ℕ) (k : ℕ) (d : Bool) → All (λ n. k ≢ n) ns
    → get_or (clear_all used ns) k d ≡ get_or used k d
cleared_other used [] k d h = refl
cleared_other used (n ∷ ns) k d h =
    cleared_other (set used n false) ns k d (All-tail (λ n. k ≢ n) n ns h)
    ∙ get_or-set_other used n k false d (All-head (λ n. k ≢ n) n ns h)

set_other : (used : List Bool) (ns : List ℕ) (k : ℕ) (d : Bool) → All (λ n. k ≢ n) ns
    → get_or (set_all used ns) k d ≡ get_or used k d
set_other used [] k d h = refl
set_other used (n ∷ ns) k d h =
    set_other (set used n true) ns k d (All-tail (λ n. k ≢ n) n ns h)
    ∙ get_or-set_other used n k true d (All-head (λ n. k ≢ n) n ns h)

stands_or_not : (k : ℕ) (ns : List ℕ) → Contains ns k ⊎ All (λ n. k ≢ n) ns
stands_or_not k [] = inr (λ i d l. absurd (omega arith))
stands_or_not k (n ∷ ns) =
    elim (cases_Bool (eqb k n)) [
      | inl same ↦ inl (0, omega arith, sym (eqb-true k n same))
      | inr other ↦ elim (stands_or_not k ns) [
        | inl c ↦ inl (suc c.0, omega (arith, c.1), c.2)
        | inr a ↦ inr (All-cons (λ n. k ≢ n) n ns (eqb-false k n other) a)
      ]
    ]

cleared_by : (used : List Bool) (ns : List ℕ) (k : ℕ) (d : Bool) → k < length used → Contains ns k
    → get_or (clear_all used ns) k d ≡ false
cleared_by used [] k d l c = absurd (omega (arith, c.1))
cleared_by used (n ∷ ns) k d l (suc i, b, e) =
    cleared_by (set used n false) ns k d (omega (arith, l, length-set used n false)) (i, omega arith, e)
cleared_by used (n ∷ ns) k d l (zero, b, e) =
    elim (stands_or_not k ns) [
      | inl c ↦ cleared_by (set used n false) ns k d (omega (arith, l, length-set used n false)) c
      | inr a ↦ cleared_other (set used n false) ns k d a ∙ get_or-set_at used n k false d (sym e) (omega arith)
    ]

-- sectors that were free are so again
pub set_and_cleared : (used : List Bool) (ns : List ℕ) → All (λ n. get_or used n true ≡ false) ns
    → clear_all (set_all used ns) ns ≡ used
set_and_cleared used ns free =
    let long : length (clear_all (set_all used ns) ns) ≡ length used = length-clear_all (set_all used ns) ns
    ∙ length-set_all used ns in
    same_lists (clear_all (set_all used ns) ns) used long
    (λ k d l.
    let below : k < length used = omega arith in
    elim (stands_or_not k ns) [
      | inl c ↦
          cleared_by (set_all used ns) ns k d (omega (arith, length-set_all used ns)) c
          ∙ sym (get_or_default used k d true below ∙ All-contains (λ n. get_or used n true ≡ false) ns k free c)
      | inr a ↦ cleared_other (set_all used ns) ns k d a ∙ set_other used ns k d a
    ])

-- one sector more
pub free_more : (f : FatValue) (ns : List ℕ) (n : ℕ) → AreFree f ns → n < length f.table
    → get_or (set_all f.used ns) n true ≡ false
    → AreFree f (ns ++ n ∷ [])
free_more f ns n h l e =
    free_then f ns (n ∷ []) h (record {
      free = All-cons (IsFree (marked f ns)) n [] (l, e) (λ k d b. absurd (omega arith));
      once = λ i j d b k. absurd (omega arith);
    })

-- a sector that is marked already isn't free behind those before it
pub clash : (f : FatValue) (ns : List ℕ) (i d : ℕ) → i < length ns → AreFree f ns
    → get_or (set_all f.used (take i ns)) (get_or ns i d) true ≡ true → ⊥
clash f ns i d l g t =
    let n : ℕ = get_or ns i d in
    let e : take i ns ++ (n ∷ drop (suc i) ns) ≡ ns = ap (λ xs. take i ns ++ xs) (sym (drop-cons ns i d l))
    ∙ take-append-drop i ns in
    let r : AreFree (marked f (take i ns)) (n ∷ drop (suc i) ns) =
    free_rest f (take i ns) (n ∷ drop (suc i) ns) (subst (AreFree f) (sym e) g) in
    let q : true ≡ false = sym t ∙ (r.free 0 0 (omega arith)).1 in
    cc

-- a fresh table marks nothing
pub marks_none : (f : FatValue) → f.used ≡ replicate (length f.table) false → Marks f []
marks_none f fresh = record {
  each = sym (ap length fresh ∙ length-replicate (length f.table) false);
  listed = λ k d l. absurd (omega arith);
  only = λ n m.
      absurd (let e : true ≡ false = sym m.1 ∙ ap (λ u. get_or u n true) fresh
      ∙ get_or-replicate (length f.table) n false true m.0 in cc);
  once = λ i j d l k. absurd (omega arith);
}
