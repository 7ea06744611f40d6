-- Where the next streams of a tree lie, in the mini stream and in sectors.
use Rattle.std.proofs.Common.{◌≡◌, ◌<◌, ◌≤◌, ◌+◌, inl, inr, ℕ, List, [], ◌∷◌, ◌++◌, length, take, refl, sym, ◌∙◌, ap}
use Rattle.std.proofs.Common.{subst, arith, append_assoc}
use Rattle.std.proofs.lemmas.Bool.{cases_lt, lt-ltb, le-ltb}
use Rattle.std.specs.Prelude.{if◌then◌else◌}
use Rattle.std.specs.List.{range_with_len, sum}
use Rattle.cfb_header.specs.Bytes.{joined}
use Rattle.cfb_chains.specs.Chain.{Store, IsChainOf}
use Rattle.cfb_entries.specs.Tree.{Tree, Children, tree, none, stream, storage}
use Rattle.cfb_file.specs.Need.{pieces, over_streams, over_streams_of, short_pieces, long_pieces}
use Rattle.cfb_layout.specs.Image.{start, pieces_of}
use Rattle.cfb_layout.specs.Directory.{short_streams, short_streams_of, long_streams, long_streams_of}
use Rattle.cfb_layout.proofs.ContentsPieces.{sum-cons, IsWidth, IsStoreFrom, AreLeft, left-step, left-chain}
use Rattle.cfb_layout.proofs.ContentsPieces.{left-content}

-- the streams that are left begin at this piece
pub record AreNext (w base : ℕ) (table bytes : List ℕ) (count at : ℕ) (bs : List (List ℕ)) : Type 0 where
  pub done : ℕ
  pub is_at : base + done ≡ at
  pub left : AreLeft w base table bytes count done bs

pub short-is : (b : List ℕ) → length b < 4096 → short_pieces b ≡ pieces 64 (length b)
short-is b l = ap (λ c. if c then pieces 64 (length b) else 0) (lt-ltb (length b) 4096 l)

pub short-none : (b : List ℕ) → 4096 ≤ length b → short_pieces b ≡ 0
short-none b l = ap (λ c. if c then pieces 64 (length b) else 0) (le-ltb (length b) 4096 l)

pub long-none : (b : List ℕ) → length b < 4096 → long_pieces b ≡ 0
long-none b l = ap (λ c. if c then 0 else pieces 512 (length b)) (lt-ltb (length b) 4096 l)

pub long-is : (b : List ℕ) → 4096 ≤ length b → long_pieces b ≡ pieces 512 (length b)
long-is b l = ap (λ c. if c then 0 else pieces 512 (length b)) (le-ltb (length b) 4096 l)

pub shorts-with : (k n b : List ℕ) (cs : Children) → length b < 4096 → short_streams_of (stream k n b cs)
    ≡ b ∷ short_streams_of cs
shorts-with k n b cs l = ap (λ c. if c then b ∷ short_streams_of cs else short_streams_of cs) (lt-ltb (length b) 4096 l)

shorts-without : (k n b : List ℕ) (cs : Children) → 4096 ≤ length b → short_streams_of (stream k n b cs)
    ≡ short_streams_of cs
shorts-without k n b cs l = ap (λ c. if c then b ∷ short_streams_of cs else short_streams_of cs)
    (le-ltb (length b) 4096 l)

longs-without : (k n b : List ℕ) (cs : Children) → length b < 4096 → long_streams_of (stream k n b cs)
    ≡ long_streams_of cs
longs-without k n b cs l = ap (λ c. if c then long_streams_of cs else b ∷ long_streams_of cs) (lt-ltb (length b) 4096 l)

pub longs-with : (k n b : List ℕ) (cs : Children) → 4096 ≤ length b → long_streams_of (stream k n b cs)
    ≡ b ∷ long_streams_of cs
longs-with k n b cs l = ap (λ c. if c then long_streams_of cs else b ∷ long_streams_of cs) (le-ltb (length b) 4096 l)

pub sum-pieces-append : (w : ℕ) (xs ys : List (List ℕ)) → sum (pieces_of w (xs ++ ys))
    ≡ sum (pieces_of w xs) + sum (pieces_of w ys)
sum-pieces-append w [] ys = omega arith
sum-pieces-append w (x ∷ xs) ys =
    omega (
      arith,
      sum-cons (pieces w (length x)) (pieces_of w (xs ++ ys)),
      sum-cons (pieces w (length x))
          (pieces_of w xs),
      sum-pieces-append w xs ys,
    )

-- the sums over the streams of a tree
mutual
  pub shorts-sum : (t : Tree) → sum (pieces_of 64 (short_streams t)) ≡ over_streams short_pieces t
  shorts-sum (tree class state cs) = shorts-sum-of cs

  pub shorts-sum-of : (cs : Children) → sum (pieces_of 64 (short_streams_of cs)) ≡ over_streams_of short_pieces cs
  shorts-sum-of none = refl
  shorts-sum-of (stream k n b cs) = elim (cases_lt (length b) 4096) [
    | inl l ↦ ap (λ bs. sum (pieces_of 64 bs)) (shorts-with k n b cs l)
        ∙ omega (
          arith,
          sum-cons (pieces 64 (length b)) (pieces_of 64 (short_streams_of cs)),
          shorts-sum-of cs,
          short-is b l,
        )
    | inr g ↦ ap (λ bs. sum (pieces_of 64 bs)) (shorts-without k n b cs g)
        ∙ omega (arith, shorts-sum-of cs, short-none b g)
  ]
  shorts-sum-of (storage k n t cs) =
      omega (arith, sum-pieces-append 64 (short_streams t) (short_streams_of cs), shorts-sum t, shorts-sum-of cs)

mutual
  pub longs-sum : (t : Tree) → sum (pieces_of 512 (long_streams t)) ≡ over_streams long_pieces t
  longs-sum (tree class state cs) = longs-sum-of cs

  pub longs-sum-of : (cs : Children) → sum (pieces_of 512 (long_streams_of cs)) ≡ over_streams_of long_pieces cs
  longs-sum-of none = refl
  longs-sum-of (stream k n b cs) = elim (cases_lt (length b) 4096) [
    | inl l ↦ ap (λ bs. sum (pieces_of 512 bs)) (longs-without k n b cs l)
        ∙ omega (arith, longs-sum-of cs, long-none b l)
    | inr g ↦ ap (λ bs. sum (pieces_of 512 bs)) (longs-with k n b cs g)
        ∙ omega (
          arith,
          sum-cons (pieces 512 (length b)) (pieces_of 512 (long_streams_of cs)),
          longs-sum-of cs,
          long-is b g,
        )
  ]
  longs-sum-of (storage k n t cs) =
      omega (arith, sum-pieces-append 512 (long_streams t) (long_streams_of cs), longs-sum t, longs-sum-of cs)

module _ (w : ℕ) (width : IsWidth w) (base : ℕ) (table bytes : List ℕ) (count : ℕ) where
  abbrev pub Next : ℕ → List (List ℕ) → Type 0
  Next at bs = AreNext w base table bytes count at bs

  pub next-at : (at at' : ℕ) (bs : List (List ℕ)) → at ≡ at' → Next at bs → Next at' bs
  next-at at at' bs e r = record { done = r.done; is_at = r.is_at ∙ e; left = r.left }

  pub next-list : (at : ℕ) (bs bs' : List (List ℕ)) → bs ≡ bs' → Next at bs → Next at bs'
  next-list at bs bs' e r = subst (Next at) e r

  pub next-step : (at : ℕ) (b : List ℕ) (bs : List (List ℕ)) → Next at (b ∷ bs) → Next (at + pieces w (length b)) bs
  next-step at b bs r = record {
    done = r.done + pieces w (length b);
    is_at = omega (arith, r.is_at);
    left = left-step w width base table bytes count r.done b bs r.left;
  }

  pub next-skip : (at : ℕ) (xs ys : List (List ℕ)) → Next at (xs ++ ys) → Next (at + sum (pieces_of w xs)) ys
  next-skip at [] ys r = next-at at (at + 0) ys (omega arith) r
  next-skip at (x ∷ xs) ys r =
      let s : Next (at + pieces w (length x) + sum (pieces_of w xs)) ys =
      next-skip (at + pieces w (length x)) xs ys (next-step at x (xs ++ ys) r) in
      next-at (at + pieces w (length x) + sum (pieces_of w xs)) (at + sum (pieces_of w (x ∷ xs))) ys
      (omega (arith, sum-cons (pieces w (length x)) (pieces_of w xs))) s

  module _ (s : Store) (is : IsStoreFrom s w base table bytes count) (at : ℕ) (b : List ℕ) (bs : List (List ℕ))
      (r : Next at (b ∷ bs)) where
    pub next-chain : IsChainOf s (start at (pieces w (length b))) (length b) (range_with_len at (pieces w (length b)))
    next-chain = subst (λ (x : ℕ). IsChainOf s (start x (pieces w (length b))) (length b)
        (range_with_len x (pieces w (length b)))) r.is_at
        (left-chain w width base table bytes count r.done b bs r.left s is)

    pub next-content : b ≡ take (length b) (joined s.piece (range_with_len at (pieces w (length b))))
    next-content = subst (λ (x : ℕ). b ≡ take (length b) (joined s.piece (range_with_len x (pieces w (length b)))))
        r.is_at
        (left-content w width base table bytes count r.done b bs r.left s is)

-- past a stream, and past a storage
module _ (base : ℕ) (table bytes : List ℕ) (count at : ℕ) (more : List (List ℕ)) where
  pub minis-past : (width : IsWidth 64) (k n b : List ℕ) (cs : Children)
      → AreNext 64 base table bytes count at (short_streams_of (stream k n b cs) ++ more)
      → AreNext 64 base table bytes count (at + short_pieces b) (short_streams_of cs ++ more)
  minis-past width k n b cs r =
      let rest : List (List ℕ) = short_streams_of cs ++ more in
      elim (cases_lt (length b) 4096) [
        | inl l ↦
            let here : AreNext 64 base table bytes count at (b ∷ rest) =
            next-list 64 width base table bytes count at (short_streams_of (stream k n b cs) ++ more) (b ∷ rest)
            (ap (λ bs. bs ++ more) (shorts-with k n b cs l)) r in
            next-at 64 width base table bytes count (at + pieces 64 (length b)) (at + short_pieces b) rest
            (ap (λ m. at + m) (sym (short-is b l))) (next-step 64 width base table bytes count at b rest here)
        | inr g ↦
            let here : AreNext 64 base table bytes count at rest = next-list 64 width base table bytes count at
            (short_streams_of (stream k n b cs) ++ more) rest
            (ap (λ bs. bs ++ more) (shorts-without k n b cs g)) r in
            next-at 64 width base table bytes count at (at + short_pieces b) rest (omega (arith, short-none b g)) here
      ]

  pub sectors-past : (width : IsWidth 512) (k n b : List ℕ) (cs : Children)
      → AreNext 512 base table bytes count at (long_streams_of (stream k n b cs) ++ more)
      → AreNext 512 base table bytes count (at + long_pieces b) (long_streams_of cs ++ more)
  sectors-past width k n b cs r =
      let rest : List (List ℕ) = long_streams_of cs ++ more in
      elim (cases_lt (length b) 4096) [
        | inl l ↦
            let here : AreNext 512 base table bytes count at rest = next-list 512 width base table bytes count at
            (long_streams_of (stream k n b cs) ++ more) rest (ap (λ bs. bs ++ more) (longs-without k n b cs l))
            r in
            next-at 512 width base table bytes count at (at + long_pieces b) rest (omega (arith, long-none b l)) here
        | inr g ↦
            let here : AreNext 512 base table bytes count at (b ∷ rest) =
            next-list 512 width base table bytes count at (long_streams_of (stream k n b cs) ++ more) (b ∷ rest)
            (ap (λ bs. bs ++ more) (longs-with k n b cs g)) r in
            next-at 512 width base table bytes count (at + pieces 512 (length b)) (at + long_pieces b) rest
            (ap (λ m. at + m) (sym (long-is b g))) (next-step 512 width base table bytes count at b rest here)
      ]

  pub minis-within : (width : IsWidth 64) (t : Tree) (cs : Children)
      → AreNext 64 base table bytes count at ((short_streams t ++ short_streams_of cs) ++ more)
      → AreNext 64 base table bytes count at (short_streams t ++ (short_streams_of cs ++ more))
  minis-within width t cs r = next-list 64 width base table bytes count at
      ((short_streams t ++ short_streams_of cs) ++ more) (short_streams t ++ (short_streams_of cs ++ more))
      (append_assoc (short_streams t) (short_streams_of cs) more) r

  pub sectors-within : (width : IsWidth 512) (t : Tree) (cs : Children)
      → AreNext 512 base table bytes count at ((long_streams t ++ long_streams_of cs) ++ more)
      → AreNext 512 base table bytes count at (long_streams t ++ (long_streams_of cs ++ more))
  sectors-within width t cs r = next-list 512 width base table bytes count at
      ((long_streams t ++ long_streams_of cs) ++ more) (long_streams t ++ (long_streams_of cs ++ more))
      (append_assoc (long_streams t) (long_streams_of cs) more) r

  pub minis-behind : (width : IsWidth 64) (t : Tree) (bs : List (List ℕ))
      → AreNext 64 base table bytes count at (short_streams t ++ bs)
      → AreNext 64 base table bytes count (at + over_streams short_pieces t) bs
  minis-behind width t bs r = next-at 64 width base table bytes count (at + sum (pieces_of 64 (short_streams t)))
      (at + over_streams short_pieces t) bs
      (ap (λ m. at + m) (shorts-sum t)) (next-skip 64 width base table bytes count at (short_streams t) bs r)

  pub sectors-behind : (width : IsWidth 512) (t : Tree) (bs : List (List ℕ))
      → AreNext 512 base table bytes count at (long_streams t ++ bs)
      → AreNext 512 base table bytes count (at + over_streams long_pieces t) bs
  sectors-behind width t bs r = next-at 512 width base table bytes count (at + sum (pieces_of 512 (long_streams t)))
      (at + over_streams long_pieces t) bs
      (ap (λ m. at + m) (longs-sum t)) (next-skip 512 width base table bytes count at (long_streams t) bs r)
