-- Streams one after another in pieces of one width: mini sectors, or sectors.
use Rattle.std.proofs.Common.{◌≡◌, ◌<◌, ◌≤◌, ◌+◌, ◌-◌, ◌*◌, ℕ, zero, suc, List, [], ◌∷◌, ◌++◌, length, take, drop}
use Rattle.std.proofs.Common.{get_or, replicate, slice_index, refl, sym, ◌∙◌, ap, arith, append_assoc, drop-drop}
use Rattle.std.proofs.Common.{length-append}
use Rattle.std.proofs.lemmas.List.{drop_at, get_or-drop, length-replicate}
use Rattle.std.proofs.lemmas.List.FromFn.{length-range_with_len}
use Rattle.std.proofs.lemmas.List.Sums.{sum_by-cons}
use Rattle.std.proofs.Math.Nat.{mul-le-mul_left}
use Rattle.std.proofs.Math.ListN.{get_or-append}
use Rattle.std.specs.List.{range_with_len, sum}
use Rattle.cfb_header.specs.Bytes.{block, joined}
use Rattle.cfb_chains.specs.Chain.{Store, IsChainOf}
use Rattle.cfb_file.specs.Need.{pieces}
use Rattle.cfb_layout.specs.Image.{run, runs, start, padded, pieces_of, whole_pieces}
use Rattle.cfb_layout.proofs.ContentsBlocks.{block-drop, block-append, joined_blocks, take-padded, present_range}
use Rattle.cfb_layout.proofs.Tables.{leads_run, length-run}

pub sum-cons : (n : ℕ) (ns : List ℕ) → sum (n ∷ ns) ≡ n + sum ns
sum-cons n ns = sum_by-cons (λ x. x) n ns

-- a width of which so many pieces have room
pub record IsWidth (w : ℕ) : Type 0 where
  pub roomy : (n : ℕ) → n ≤ w * pieces w n
  pub empty : pieces w 0 ≡ 0

pub width-64 : IsWidth 64
width-64 = record { roomy = λ n. omega arith; empty = refl }

pub width-512 : IsWidth 512
width-512 = record { roomy = λ n. omega arith; empty = refl }

-- pieces of a store from one on, by their part of its table and their bytes
pub record IsStoreFrom (s : Store) (w base : ℕ) (table bytes : List ℕ) (count : ℕ) : Type 0 where
  pub width : s.width ≡ w
  pub there : 0 < count → base + count ≤ s.count
  pub few : base + count ≤ 0xFFFFFFFA
  pub piece : (m : ℕ) → m < count → s.piece (base + m) ≡ block w bytes (w * m)
  pub next : (m : ℕ) → m < count → s.next (base + m) ≡ slice_index table m

-- behind so many pieces, the table and the bytes are those of the streams that are left
pub record AreLeft (w base : ℕ) (table bytes : List ℕ) (count done : ℕ) (bs : List (List ℕ)) : Type 0 where
  pub runs_left : drop done table ≡ runs (base + done) (pieces_of w bs)
  pub rest : List ℕ
  pub bytes_left : drop (w * done) bytes ≡ whole_pieces w bs ++ rest
  pub all : done + sum (pieces_of w bs) ≡ count

module _ (w : ℕ) (width : IsWidth w) where
  pub length-padded : (b : List ℕ) → length (padded w b) ≡ w * pieces w (length b)
  length-padded b =
      let n : ℕ = w * pieces w (length b) - length b in
      let zeros : List ℕ = replicate n 0 in
      let e : length (padded w b) ≡ length b + length zeros = length-append b zeros in
      let r : length zeros ≡ n = length-replicate n 0 in
      omega (arith, width.roomy (length b))

  pub length-whole : (bs : List (List ℕ)) → length (whole_pieces w bs) ≡ w * sum (pieces_of w bs)
  length-whole [] = omega arith
  length-whole (b ∷ bs) =
      let e : length (whole_pieces w (b ∷ bs)) ≡ length (padded w b) + length (whole_pieces w bs) =
      length-append (padded w b) (whole_pieces w bs) in
      let m : w * (pieces w (length b) + sum (pieces_of w bs)) ≡ w * pieces w (length b) + w
      * sum (pieces_of w bs) = omega arith in
      e ∙ (λ t. length-padded b t + length-whole bs t) ∙ sym m
      ∙ ap (λ x. w * x) (sym (sum-cons (pieces w (length b)) (pieces_of w bs)))

  chain_within : (s : Store) (at size n : ℕ) → s.width ≡ w → pieces w size ≡ n
      → ((k : ℕ) → k < n → s.next (at + k) ≡ get_or (run at n) k 0) → (0 < n → at + n ≤ s.count) → at + n ≤ 0xFFFFFFFA
      → IsChainOf s (start at n) size (range_with_len at n)
  chain_within s at zero zero wide e next there few = refl
  chain_within s at zero (suc n) wide e next there few = absurd (omega (arith, width.empty))
  chain_within s at (suc size) zero wide e next there few =
      absurd (let z : w * 0 ≡ 0 = omega arith in let r : suc size ≤ w * pieces w (suc size) =
      width.roomy (suc size) in omega (arith, ap (λ x. w * x) e))
  chain_within s at (suc size) (suc n) wide e next there few = record {
    linked = leads_run s.next at (suc n) next (omega arith);
    present = present_range s at (suc n) (there (omega arith)) few;
    enough = let r : suc size ≤ w * pieces w (suc size) = width.roomy (suc size) in
        let l : length (range_with_len at (suc n)) ≡ suc n = length-range_with_len at (suc n) in
        rw wide (omega (arith, ap (λ x. w * x) e, ap (λ x. w * x) l));
  }

  module _ (base : ℕ) (table bytes : List ℕ) (count done : ℕ) (b : List ℕ) (bs : List (List ℕ))
      (are : AreLeft w base table bytes count done (b ∷ bs)) where
    abbrev n : ℕ
    n = pieces w (length b)

    counted : done + n + sum (pieces_of w bs) ≡ count
    counted = omega (arith, are.all, sum-cons n (pieces_of w bs))

    behind : drop (w * done) bytes ≡ padded w b ++ (whole_pieces w bs ++ are.rest)
    behind = are.bytes_left ∙ append_assoc (padded w b) (whole_pieces w bs) are.rest

    pub left-step : AreLeft w base table bytes count (done + n) bs
    left-step = record {
      runs_left = sym (drop-drop n done table) ∙ ap (drop n) are.runs_left
          ∙ drop_at (run (base + done) n) (runs (base + done + n) (pieces_of w bs)) n (length-run (base + done) n)
          ∙ (let e : base + done + n ≡ base + (done + n) = omega arith in ap (λ x. runs x (pieces_of w bs)) e);
      rest = are.rest;
      bytes_left = let m : w * (done + n) ≡ w * done + w * n = omega arith in
          ap (λ k. drop k bytes) m ∙ sym (drop-drop (w * n) (w * done) bytes) ∙ ap (drop (w * n)) behind
          ∙ drop_at (padded w b) (whole_pieces w bs ++ are.rest) (w * n) (length-padded b);
      all = counted;
    }

    module _ (s : Store) (is : IsStoreFrom s w base table bytes count) where
      next-is : (k : ℕ) → k < n → s.next (base + done + k) ≡ get_or (run (base + done) n) k 0
      next-is k l =
          let e : base + done + k ≡ base + (done + k) = omega arith in
          ap s.next e ∙ is.next (done + k) (omega (arith, counted)) ∙ sym (get_or-drop done table k 0)
          ∙ ap (λ t. get_or t k 0) are.runs_left
          ∙ get_or-append (run (base + done) n) (runs (base + done + n) (pieces_of w bs)) 0 k
          (omega (arith, length-run (base + done) n))

      piece-is : (k : ℕ) → k < n → s.piece (base + done + k) ≡ block w (padded w b) (w * k)
      piece-is k l =
          let e : base + done + k ≡ base + (done + k) = omega arith in
          let m : w * (done + k) ≡ w * done + w * k = omega arith in
          let u : w * (k + 1) ≡ w * k + w = omega arith in
          let inside : w * k + w ≤ length (padded w b) = within k l in
          ap s.piece e ∙ is.piece (done + k) (omega (arith, counted)) ∙ ap (block w bytes) m
          ∙ block-drop w (w * done) (w * k) bytes
          ∙ ap (λ t. block w t (w * k)) behind ∙ block-append w (padded w b) (whole_pieces w bs ++ are.rest) (w * k)
          inside
        where
          within : (k : ℕ) → k < n → w * k + w ≤ length (padded w b)
          within k l =
              let u : w * (k + 1) ≡ w * k + w = omega arith in
              let m : w * (k + 1) ≤ w * n = mul-le-mul_left w (let h : k + 1 ≤ n = omega arith in h) in
              omega (arith, length-padded b)

      pub left-chain : IsChainOf s (start (base + done) n) (length b) (range_with_len (base + done) n)
      left-chain = chain_within s (base + done) (length b) n is.width refl next-is
          (λ some. omega (arith, is.there (omega (arith, counted)), counted)) (omega (arith, is.few, counted))

      pub left-content : b ≡ take (length b) (joined s.piece (range_with_len (base + done) n))
      left-content =
          let e : joined s.piece (range_with_len (base + done) n) ≡ padded w b =
          joined_blocks w s.piece (padded w b) (base + done) n (length-padded b) piece-is in
          sym (take-padded w b) ∙ ap (take (length b)) (sym e)
