-- Streams whose last one grows.
use Rattle.std.proofs.Common.{◌≡◌, ℕ, zero, suc, ◌-◌, ◌+◌, ◌<◌, ◌≤◌, List, [], ◌∷◌, ◌++◌, length, take, refl, sym, ap}
use Rattle.std.proofs.Common.{subst, ◌∙◌, append_assoc, arith, slice_set, slice_get, slice_index_or, Some, Result, Ok}
use Rattle.std.proofs.Common.{Err}
use Rattle.std.specs.Prelude.{OnOk}
use Rattle.std.proofs.lemmas.List.{append-nil}
use Rattle.tree_streams.specs.Streams.{AreAfter, AreInOrder}
use Rattle.tree_streams.specs.declared.streams.NamedStream.{NamedStream}
use Rattle.message_drafts.specs.Drafts.{lengthened, longer, cut_last, last_len, Grew}

pub lengthened_nil : (ss : List NamedStream) → lengthened ss [] ≡ ss
lengthened_nil [] = refl
lengthened_nil (s ∷ []) = ap (λ (b : List ℕ). record { name = s.name; bytes = b } ∷ []) (append-nil s.bytes)
lengthened_nil (s ∷ t ∷ ss) = ap (λ (ts : List NamedStream). s ∷ ts) (lengthened_nil (t ∷ ss))

pub lengthened_last : (ss : List NamedStream) (t : NamedStream) (bs : List ℕ)
    → lengthened (ss ++ t ∷ []) bs ≡ ss ++ longer t bs ∷ []
lengthened_last [] t bs = refl
lengthened_last (s ∷ []) t bs = refl
lengthened_last (s ∷ u ∷ ss) t bs = ap (λ (ts : List NamedStream). s ∷ ts) (lengthened_last (u ∷ ss) t bs)

pub lengthened_more : (ss : List NamedStream) (a b : List ℕ) → lengthened (lengthened ss a) b ≡ lengthened ss (a ++ b)
lengthened_more [] a b = refl
lengthened_more (s ∷ []) a b = ap (λ (x : List ℕ). record { name = s.name; bytes = x } ∷ []) (append_assoc s.bytes a b)
lengthened_more (s ∷ t ∷ []) a b = ap (λ (ts : List NamedStream). s ∷ ts) (lengthened_more (t ∷ []) a b)
lengthened_more (s ∷ t ∷ u ∷ ss) a b = ap (λ (ts : List NamedStream). s ∷ ts) (lengthened_more (t ∷ u ∷ ss) a b)

after_lengthened : (name : List ℕ) (ss : List NamedStream) (bs : List ℕ) → AreAfter name ss
    → AreAfter name (lengthened ss bs)
after_lengthened name [] bs h = tt
after_lengthened name (s ∷ []) bs h = (h.0, tt)
after_lengthened name (s ∷ t ∷ ss) bs h = (h.0, after_lengthened name (t ∷ ss) bs h.1)

pub order_lengthened : (ss : List NamedStream) (bs : List ℕ) → AreInOrder ss → AreInOrder (lengthened ss bs)
order_lengthened [] bs h = tt
order_lengthened (s ∷ []) bs h = (tt, tt)
order_lengthened (s ∷ t ∷ ss) bs h = (after_lengthened s.name (t ∷ ss) bs h.0, order_lengthened (t ∷ ss) bs h.1)

-- ---- streams that grew

pub grew_same : (ss : List NamedStream) → Grew ss ss
grew_same [] = tt
grew_same (s ∷ []) = (refl, ([], sym (append-nil s.bytes)))
grew_same (s ∷ t ∷ ss) = (refl, grew_same (t ∷ ss))

pub grew_pushed : (old ss : List NamedStream) (t : NamedStream) → Grew old ss → Grew old (ss ++ t ∷ [])
grew_pushed [] ss t h = tt
grew_pushed (s ∷ []) [] t h = absurd h
grew_pushed (s ∷ []) (u ∷ ss) t h = h
grew_pushed (s ∷ v ∷ old) [] t h = absurd h
grew_pushed (s ∷ v ∷ old) (u ∷ ss) t h = (h.0, grew_pushed (v ∷ old) ss t h.1)

pub grew_lengthened : (old ss : List NamedStream) (bs : List ℕ) → Grew old ss → Grew old (lengthened ss bs)
grew_lengthened [] ss bs h = tt
grew_lengthened (s ∷ []) [] bs h = absurd h
grew_lengthened (s ∷ []) (u ∷ []) bs h =
    (h.0, (h.1.0 ++ bs, ap (λ (x : List ℕ). x ++ bs) h.1.1 ∙ append_assoc s.bytes h.1.0 bs))
grew_lengthened (s ∷ []) (u ∷ w ∷ ss) bs h = h
grew_lengthened (s ∷ v ∷ old) [] bs h = absurd h
grew_lengthened (s ∷ v ∷ old) (u ∷ []) bs h = absurd h.1
grew_lengthened (s ∷ v ∷ old) (u ∷ w ∷ ss) bs h = (h.0, grew_lengthened (v ∷ old) (w ∷ ss) bs h.1)

pub set_last : (ss : List NamedStream) (t : NamedStream) (bs : List ℕ) → 0 < length ss
    → t ≡ slice_index_or ss (length ss - 1) t → slice_set ss (length ss - 1) (longer t bs) ≡ lengthened ss bs
set_last [] t bs some e = absurd (omega arith)
set_last (s ∷ []) t bs some e = ap (λ (x : NamedStream). longer x bs ∷ []) e
set_last (s ∷ u ∷ ss) t bs some e =
    let n : suc (length (u ∷ ss) - 1) ≡ length (s ∷ u ∷ ss) - 1 = omega arith in
    ap (λ (k : ℕ). slice_set (s ∷ u ∷ ss) k (longer t bs)) (sym n)
    ∙ ap (λ (ts : List NamedStream). s ∷ ts)
    (set_last (u ∷ ss) t bs (omega arith) (e ∙ ap (λ (k : ℕ). slice_index_or (s ∷ u ∷ ss) k t) (sym n)))

pub on_ok_then : {A B : Type 0} {P Q : Type 0} (r : Result A B) → (P → Q) → OnOk r P → OnOk r Q
on_ok_then (Ok a) f p = f p
on_ok_then (Err e) f p = p

pub set_cut : (ss : List NamedStream) (t : NamedStream) (n : ℕ) → 0 < length ss
    → t ≡ slice_index_or ss (length ss - 1) t → slice_set ss (length ss - 1)
    (record { name = t.name; bytes = take n t.bytes }) ≡ cut_last n ss
set_cut [] t n some e = absurd (omega arith)
set_cut (s ∷ []) t n some e = ap (λ (x : NamedStream). record { name = x.name; bytes = take n x.bytes } ∷ []) e
set_cut (s ∷ u ∷ ss) t n some e =
    let m : suc (length (u ∷ ss) - 1) ≡ length (s ∷ u ∷ ss) - 1 = omega arith in
    ap (λ (k : ℕ). slice_set (s ∷ u ∷ ss) k (record { name = t.name; bytes = take n t.bytes })) (sym m)
    ∙ ap (λ (ts : List NamedStream). s ∷ ts)
    (set_cut (u ∷ ss) t n (omega arith) (e ∙ ap (λ (k : ℕ). slice_index_or (s ∷ u ∷ ss) k t) (sym m)))

some_is : (s t : NamedStream) → Some s ≡ Some t → s ≡ t
some_is s t e = cc

pub last_of : (ss : List NamedStream) (t : NamedStream) → slice_get ss (length ss - 1) ≡ Some t
    → length t.bytes ≡ last_len ss
last_of [] t e = absurd cc
last_of (s ∷ []) t e = ap (λ (x : NamedStream). length x.bytes) (sym (some_is s t e))
last_of (s ∷ u ∷ ss) t e =
    let m : suc (length (u ∷ ss) - 1) ≡ length (s ∷ u ∷ ss) - 1 = omega arith in
    last_of (u ∷ ss) t (ap (slice_get (s ∷ u ∷ ss)) m ∙ e)
