use Rattle.std.proofs.Common.{◌≡◌, ℕ, ◌-◌, ◌+◌, ◌<◌, ◌≤◌, suc, zero, List, [], ◌∷◌, ◌++◌, length, take, get_or, refl}
use Rattle.std.proofs.Common.{◌∙◌, ap, sym, subst, true, Some, rules, arith, map, slice_get}
use Rattle.std.proofs.lemmas.List.{take_more, get_or-take, length-take}
use Rattle.std.proofs.lemmas.Option.{slice_get_read}
use Rattle.std.specs.Cmp.Lexicographic.{nat_list_cmp_total}
use Rattle.std.specs.Ordering.{is_lt}
use Rattle.std.specs.Char.{to_ascii_uppercase}
use Rattle.std.specs.declared.cmp.Ordering.{Ordering}
use Rattle.std.specs.declared.cmp.Ordering.TheVariants.{Less, Equal, Greater}
use Rattle.cfb_names.specs.Names.{name_cmp}
use Rattle.tree_streams.specs.Streams.{AreAfter, AreInOrder, is_next}
use Rattle.tree_streams.specs.declared.streams.NamedStream.{NamedStream}

same_some : {A : Type 0} {x y : A} → Some x ≡ Some y → x ≡ y
same_some h = search rules

-- the test of the last stream
pub last-next : (ss : List NamedStream) (s : NamedStream) (name : List ℕ) → slice_get ss (length ss - 1) ≡ Some s
    → is_next ss name ≡ is_lt (name_cmp s.name name)
last-next [] s name h = absurd (search rules)
last-next (t ∷ []) s name h = ap (λ x. is_lt (name_cmp x.name name)) (same_some h)
last-next (t ∷ u ∷ ss) s name h =
    let e : suc (length (u ∷ ss) - 1) ≡ length (t ∷ u ∷ ss) - 1 = omega arith in
    last-next (u ∷ ss) s name (ap (slice_get (t ∷ u ∷ ss)) e ∙ h)

less_from : (o : Ordering) → is_lt o ≡ true → o ≡ Less
less_from Less h = refl
less_from Equal h = absurd (search rules)
less_from Greater h = absurd (search rules)

name-trans : (a b c : List ℕ) → name_cmp a b ≡ Less → name_cmp b c ≡ Less → name_cmp a c ≡ Less
name-trans a b c = nat_list_cmp_total.trans (length a ∷ map to_ascii_uppercase a)
    (length b ∷ map to_ascii_uppercase b) (length c ∷ map to_ascii_uppercase c)

-- a name that is next is greater than all
next-greater : (name : List ℕ) (s : NamedStream) (ss : List NamedStream) (n : List ℕ) → AreAfter name (s ∷ ss)
    → is_next (s ∷ ss) n ≡ true → name_cmp name n ≡ Less
next-greater name s [] n a h = name-trans name s.name n a.0 (less_from _ h)
next-greater name s (t ∷ ss) n a h = next-greater name t ss n a.1 h

after-last : (name : List ℕ) (ss : List NamedStream) (s : NamedStream) → AreAfter name ss
    → name_cmp name s.name ≡ Less → AreAfter name (ss ++ s ∷ [])
after-last name [] s a h = (h, tt)
after-last name (t ∷ ss) s a h = (a.0, after-last name ss s a.1 h)

-- so it may stand at the end
pub in_order-last : (ss : List NamedStream) (s : NamedStream) → AreInOrder ss → is_next ss s.name ≡ true
    → AreInOrder (ss ++ s ∷ [])
in_order-last [] s o h = (tt, tt)
in_order-last (t ∷ []) s o h = ((less_from _ h, tt), (tt, tt))
in_order-last (t ∷ u ∷ ss) s o h =
    (after-last t.name (u ∷ ss) s o.0 (next-greater t.name u ss s.name o.0 h), in_order-last (u ∷ ss) s o.1 h)

-- one more of a vector's streams
pub order-more : (xs : List NamedStream) (i : ℕ) (a b : NamedStream) → 1 ≤ i → i < length xs
    → a ≡ get_or xs (i - 1) a → b ≡ get_or xs i b → AreInOrder (take i xs) → is_lt (name_cmp a.name b.name) ≡ true
    → AreInOrder (take (i + 1) xs)
order-more xs i a b one lt pa pb o h =
    let len : length (take i xs) ≡ i = omega (arith, length-take i xs) in
    let before : slice_get (take i xs) (length (take i xs) - 1) ≡ Some a =
    ap (λ n. slice_get (take i xs) (n - 1)) len ∙ slice_get_read (take i xs) i (i - 1) a (sym len) (omega arith)
    (pa ∙ sym (get_or-take i xs (i - 1) a (omega arith))) in
    let grown : take i xs ++ b ∷ [] ≡ take (i + 1) xs = ap (λ s. take i xs ++ s ∷ []) pb ∙ sym (take_more xs i b lt) in
    subst AreInOrder grown (in_order-last (take i xs) b o (last-next (take i xs) a b.name before ∙ h))

-- streams in order have each name below the next
pub order-less : (xs : List NamedStream) (i : ℕ) (a b : NamedStream) → 1 ≤ i → i < length xs
    → a ≡ get_or xs (i - 1) a → b ≡ get_or xs i b → AreInOrder xs → is_lt (name_cmp a.name b.name) ≡ true
order-less [] i a b one lt pa pb o = absurd (omega arith)
order-less (x ∷ []) i a b one lt pa pb o = absurd (omega arith)
order-less (x ∷ y ∷ ys) zero a b one lt pa pb o = absurd (omega arith)
order-less (x ∷ y ∷ ys) (suc zero) a b one lt pa pb o = ap (λ s. is_lt (name_cmp s.name b.name)) pa
    ∙ ap (λ s. is_lt (name_cmp x.name s.name)) pb ∙ ap is_lt o.0.0
order-less (x ∷ y ∷ ys) (suc (suc n)) a b one lt pa pb o =
    let e : suc (suc n) - 1 ≡ suc (suc n - 1) = omega arith in
    order-less (y ∷ ys) (suc n) a b (omega arith) (omega arith) (pa ∙ ap (λ m. get_or (x ∷ y ∷ ys) m a) e) pb o.1
