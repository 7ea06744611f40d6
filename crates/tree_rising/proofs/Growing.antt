-- Blocks that grow, one of which is being filled.
use Rattle.std.proofs.Common.{◌≡◌, ◌≤◌, ◌<◌, ◌∙◌, ◌++◌, ℕ, zero, suc, List, [], ◌∷◌, ap, arith, get_or, length, refl}
use Rattle.std.proofs.Common.{slice_set, subst, sym, take}
use Rattle.std.proofs.lemmas.List.{get_or_append_left, length-append, length-take, take-append-le, take-take, take_all}
use Rattle.tree_rising.specs.Laid.{Grows, laid}

-- A place that is held for the block that is filled changes no blocks.
pub laid-held : (bs : List (List ℕ)) (at : ℕ) (x : List ℕ) → at ≡ length bs → laid (bs ++ [] ∷ []) at x ≡ laid bs at x
laid-held [] zero x h = refl
laid-held [] (suc at) x h = absurd (omega (arith, h))
laid-held (b ∷ bs) zero x h = absurd (omega (arith, h))
laid-held (b ∷ bs) (suc at) x h = ap (λ xs. b ∷ xs) (laid-held bs at x (omega (arith, h)))

-- Where it has a place, it is put there.
pub laid-set : (bs : List (List ℕ)) (at : ℕ) (x : List ℕ) → at < length bs → slice_set bs at x ≡ laid bs at x
laid-set [] at x h = absurd (omega (arith, h))
laid-set (b ∷ bs) zero x h = refl
laid-set (b ∷ bs) (suc at) x h = ap (λ xs. b ∷ xs) (laid-set bs at x (omega (arith, h)))

pub length-laid : (bs : List (List ℕ)) (at : ℕ) (x : List ℕ) → at < length bs → length (laid bs at x) ≡ length bs
length-laid [] at x h = absurd (omega (arith, h))
length-laid (b ∷ bs) zero x h = refl
length-laid (b ∷ bs) (suc at) x h = ap suc (length-laid bs at x (omega (arith, h)))

pub laid-within : (bs : List (List ℕ)) (at : ℕ) (x : List ℕ) → at ≤ length bs → at < length (laid bs at x)
laid-within [] at x h = omega (arith, h)
laid-within (b ∷ bs) zero x h = omega arith
laid-within (b ∷ bs) (suc at) x h = let r : at < length (laid bs at x) = laid-within bs at x (omega (arith, h)) in
    omega (arith, r)

pub get_or-laid : (bs : List (List ℕ)) (at : ℕ) (x d : List ℕ) → at ≤ length bs → get_or (laid bs at x) at d ≡ x
get_or-laid [] zero x d h = refl
get_or-laid [] (suc at) x d h = absurd (omega (arith, h))
get_or-laid (b ∷ bs) zero x d h = refl
get_or-laid (b ∷ bs) (suc at) x d h = get_or-laid bs at x d (omega (arith, h))

-- What comes behind the others stays there.
pub laid-behind : (bs : List (List ℕ)) (at : ℕ) (x y : List ℕ) → at < length bs
    → laid (bs ++ y ∷ []) at x ≡ laid bs at x ++ y ∷ []
laid-behind [] at x y h = absurd (omega (arith, h))
laid-behind (b ∷ bs) zero x y h = refl
laid-behind (b ∷ bs) (suc at) x y h = ap (λ xs. b ∷ xs) (laid-behind bs at x y (omega (arith, h)))

-- The block that is filled comes behind the others, where it has no place among them.
pub laid-last : (bs : List (List ℕ)) (at : ℕ) (x : List ℕ) → at ≡ length bs → laid bs at x ≡ bs ++ x ∷ []
laid-last [] at x h = refl
laid-last (b ∷ bs) zero x h = absurd (omega (arith, h))
laid-last (b ∷ bs) (suc at) x h = ap (λ xs. b ∷ xs) (laid-last bs at x (omega (arith, h)))

pub grows-same : (old new : List (List ℕ)) → new ≡ old → Grows old new
grows-same old new is = subst (λ bs. Grows old bs) (sym is)
    (record {
      more = omega arith;
      kept = λ k h. take_all (length (get_or old k [])) (get_or old k [])
          (omega arith);
    })

-- Bytes put behind those of the block that is filled change nothing else.
kept-appended : (bs : List (List ℕ)) (at : ℕ) (x y : List ℕ) (k : ℕ)
    → take (length (get_or (laid bs at x) k [])) (get_or (laid bs at (x ++ y)) k []) ≡ get_or (laid bs at x) k []
kept-appended [] at x y zero = take-append-le (length x) x y (omega arith) ∙ take_all (length x) x (omega arith)
kept-appended [] at x y (suc k) = refl
kept-appended (b ∷ bs) zero x y zero = take-append-le (length x) x y (omega arith) ∙ take_all (length x) x (omega arith)
kept-appended (b ∷ bs) zero x y (suc k) = take_all (length (get_or bs k [])) (get_or bs k []) (omega arith)
kept-appended (b ∷ bs) (suc at) x y zero = take_all (length b) b (omega arith)
kept-appended (b ∷ bs) (suc at) x y (suc k) = kept-appended bs at x y k

length-appended : (bs : List (List ℕ)) (at : ℕ) (x y : List ℕ) → length (laid bs at x) ≡ length (laid bs at y)
length-appended [] at x y = refl
length-appended (b ∷ bs) zero x y = refl
length-appended (b ∷ bs) (suc at) x y = ap suc (length-appended bs at x y)

pub grows-appended : (bs : List (List ℕ)) (at : ℕ) (x y : List ℕ) → Grows (laid bs at x) (laid bs at (x ++ y))
grows-appended bs at x y = record {
  more = omega (arith, length-appended bs at x (x ++ y));
  kept = λ k h. kept-appended bs at x y k;
}

-- So does a block behind the others.
pub grows-behind : (bs : List (List ℕ)) (y : List ℕ) → Grows bs (bs ++ y ∷ [])
grows-behind bs y = record {
  more = omega (arith, length-append bs (y ∷ []));
  kept = λ k h.
      ap (take (length (get_or bs k []))) (get_or_append_left bs (y ∷ []) [] k h)
      ∙ take_all (length (get_or bs k [])) (get_or bs k []) (omega arith);
}

-- a block that was grown is no shorter
pub longer : (x y : List ℕ) → take (length x) y ≡ x → length x ≤ length y
longer x y is = omega (arith, length-take (length x) y, ap length is)

pub grows-further : (a b c : List (List ℕ)) → Grows a b → Grows b c → Grows a c
grows-further a b c f g = record {
  more = omega (arith, f.more, g.more);
  kept = λ k h.
      let x : List ℕ = get_or a k [] in
      let y : List ℕ = get_or b k [] in
      let z : List ℕ = get_or c k [] in
      let first : take (length x) y ≡ x = f.kept k h in
      let second : take (length y) z ≡ y = g.kept k (omega (arith, h, f.more)) in
      sym (take-take (length x) (length y) z (longer x y first)) ∙ ap (take (length x)) second ∙ first;
}

-- A block that is done with is put where its place was held.
pub put-back : (full held : List (List ℕ)) (at : ℕ) (last closed : List ℕ) → at < length held
    → ((x : List ℕ) → laid held at x ≡ laid full at x) → closed ≡ last → slice_set held at closed
    ≡ laid full at last
put-back full held at last closed there same is = laid-set held at closed there ∙ same closed ∙ ap (laid full at) is

-- and the next one begins behind them
pub begun : (full held : List (List ℕ)) (at next : ℕ) (last closed fresh : List ℕ) → at < length held
    → ((x : List ℕ) → laid held at x ≡ laid full at x) → closed ≡ last → next ≡ length held → fresh ≡ []
    → laid (slice_set held at closed) next fresh ≡ laid full at last ++ [] ∷ []
begun full held at next last closed fresh there same is behind none =
    let put : slice_set held at closed ≡ laid full at last = put-back full held at last closed there same is in
    let long : length (slice_set held at closed) ≡ length held = ap length (laid-set held at closed there)
    ∙ length-laid held at closed there in
    laid-last (slice_set held at closed) next fresh (behind ∙ sym long) ∙ ap (λ xs. xs ++ fresh ∷ []) put
    ∙ ap (λ x. laid full at last ++ x ∷ []) none
