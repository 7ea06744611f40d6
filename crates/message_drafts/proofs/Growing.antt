-- Bodies that grow in several steps, and what they keep meanwhile.
use Rattle.std.proofs.Common.{◌≡◌, ℕ, zero, suc, ◌-◌, ◌+◌, ◌<◌, ◌≤◌, List, [], ◌∷◌, ◌++◌, length, take, drop, Option}
use Rattle.std.proofs.Common.{refl, sym, ap, subst, ◌∙◌, append_assoc, arith}
use Rattle.std.proofs.lemmas.List.{append-nil, length-take, length-append, take_at, take-append-le}
use Rattle.tree_streams.specs.declared.streams.NamedStream.{NamedStream}
use Rattle.message_drafts.specs.declared.draft.Draft.{Draft}
use Rattle.message_drafts.specs.declared.back.Mark.{Mark}
use Rattle.tree_streams.specs.Streams.{AreInOrder}
use Rattle.message_model.specs.declared.frame.Frame.{Frame}
use Rattle.message_drafts.specs.declared.draft.Plan.{Plan}
use Rattle.message_drafts.specs.Drafts.{Alike, Advances, Grew, IsMark, IsPlanned, IsPlannedAt, Keeps, cut_last}
use Rattle.message_drafts.specs.Drafts.{last_len, read_on, resume}
use Rattle.message_drafts.proofs.Streams.{grew_same}

pub goes_none : (d : Draft) → Advances d d []
goes_none d = record { count = omega arith; same = λ ys len. refl }

pub goes_on : (a b c : Draft) (x y : List ℕ) → Advances a b x → Advances b c y → Advances a c (x ++ y)
goes_on a b c x y p q =
    let first : a.plan.to_come ≡ length x + b.plan.to_come = p.count in
    let then : b.plan.to_come ≡ length y + c.plan.to_come = q.count in
    record {
      count = omega (arith, length-append x y);
      same = λ zs len.
          ap (resume a) (append_assoc x y zs)
          ∙ p.same (y ++ zs) (omega (arith, length-append y zs))
          ∙ q.same zs len;
    }

pub grew_on : (a b c : List NamedStream) → Grew a b → Grew b c → Grew a c
grew_on [] b c p q = tt
grew_on (s ∷ []) [] c p q = absurd p
grew_on (s ∷ []) (t ∷ []) [] p q = absurd q
grew_on (s ∷ []) (t ∷ []) (u ∷ c) p q =
    (p.0 ∙ q.0, (p.1.0 ++ q.1.0, q.1.1 ∙ ap (λ (x : List ℕ). x ++ q.1.0) p.1.1 ∙ append_assoc s.bytes p.1.0 q.1.0))
grew_on (s ∷ []) (t ∷ v ∷ b) [] p q = absurd q
grew_on (s ∷ []) (t ∷ v ∷ b) (u ∷ c) p q =
    (p.0 ∙ ap (λ (x : NamedStream). x.name) q.0, (p.1.0, ap (λ (x : NamedStream). x.bytes) (sym q.0) ∙ p.1.1))
grew_on (s ∷ w ∷ a) [] c p q = absurd p
grew_on (s ∷ w ∷ a) (t ∷ []) c p q = absurd p.1
grew_on (s ∷ w ∷ a) (t ∷ v ∷ b) [] p q = absurd q
grew_on (s ∷ w ∷ a) (t ∷ v ∷ b) (u ∷ c) p q = (p.0 ∙ q.0, grew_on (w ∷ a) (v ∷ b) c p.1 q.1)

-- the front of a longer list
front_longer : (a b : List ℕ) → take (length a) b ≡ a → length a ≤ length b
front_longer a b e = let n : length (take (length a) b) ≡ length a = ap length e in
    omega (arith, length-take (length a) b)

front_on : (a b c : List ℕ) → take (length a) b ≡ a → take (length b) c ≡ b → take (length a) c ≡ a
front_on [] b c p q = refl
front_on (x ∷ a) [] c p q = absurd cc
front_on (x ∷ a) (y ∷ b) [] p q = absurd cc
front_on (x ∷ a) (y ∷ b) (z ∷ c) p q =
    let xy : y ≡ x = cc in
    let yz : z ≡ y = cc in
    let pa : take (length a) b ≡ a = cc in
    let qb : take (length b) c ≡ b = cc in
    λ i. (yz ∙ xy) i ∷ front_on a b c pa qb i

pub keeps_same : (d : Draft) → Keeps d d
keeps_same d = record {
  opening = refl;
  streams = grew_same d.streams.items;
  picture = ap (take (length d.picture)) (sym (append-nil d.picture))
      ∙ take_at d.picture [] (length d.picture) refl;
}

pub keeps_on : (a b c : Draft) → Keeps a b → Keeps b c → Keeps a c
keeps_on a b c p q = record {
  opening = q.opening ∙ p.opening;
  streams = grew_on a.streams.items b.streams.items c.streams.items p.streams q.streams;
  picture = front_on a.picture b.picture c.picture p.picture q.picture;
}

-- ---- streams that are put back

grew_none : (u : NamedStream) (ss : List NamedStream) → Grew (u ∷ ss) [] → ⊥
grew_none u [] h = h
grew_none u (w ∷ ss) h = h

-- what grew is as before once it is cut
pub grew_back : (old new : List NamedStream) → Grew old new → cut_last (last_len old) (take (length old) new) ≡ old
grew_back [] new h = refl
grew_back (s ∷ []) [] h = absurd h
grew_back (s ∷ []) (t ∷ ts) h =
    let b : take (length s.bytes) t.bytes ≡ s.bytes = ap (take (length s.bytes)) h.1.1
    ∙ take_at s.bytes h.1.0 (length s.bytes) refl in
    λ i. record { name = sym h.0 i; bytes = b i } ∷ []
grew_back (s ∷ u ∷ ss) [] h = absurd h
grew_back (s ∷ u ∷ ss) (t ∷ []) h = absurd (grew_none u ss h.1)
grew_back (s ∷ u ∷ ss) (t ∷ v ∷ ts) h = λ i. sym h.0 i ∷ grew_back (u ∷ ss) (v ∷ ts) h.1 i

pub take_both : (n m : ℕ) (xs : List ℕ) → n ≤ length xs → take (n + m) xs ≡ take n xs ++ take m (drop n xs)
take_both zero m xs h = let e : zero + m ≡ m = omega arith in ap (λ k. take k xs) e
take_both (suc n) m [] h = absurd (omega arith)
take_both (suc n) m (x ∷ xs) h = let e : suc n + m ≡ suc (n + m) = omega arith in
    ap (λ k. take k (x ∷ xs)) e ∙ ap (λ a. x ∷ a) (take_both n m xs (omega arith))

pub put_back : (mark : Mark) (before now new : Draft) → IsMark mark before → Keeps before now → new.plan ≡ mark.plan
    → new.opening ≡ now.opening
    → new.streams.items ≡ cut_last mark.last (take mark.count now.streams.items)
    → new.picture ≡ take mark.picture now.picture → Alike before new
put_back mark before now new m k plan opening streams picture = record {
  plan = plan ∙ m.plan;
  opening = opening ∙ k.opening;
  streams = streams ∙ (λ i. cut_last (m.last i) (take (m.count i) now.streams.items))
      ∙ grew_back before.streams.items now.streams.items k.streams;
  picture = picture ∙ ap (λ (n : ℕ). take n now.picture) m.picture ∙ k.picture;
}

pub planned_alike : (d e : Draft) → Alike d e → IsPlanned d → IsPlanned e
planned_alike d e a p =
    let len : d.plan.len ≤ 36 = p.len in
    record {
      at = subst (λ (x : Plan). IsPlannedAt x.phase x.left x.missing x.to_come (take x.len x.held) e.picture)
          (sym a.plan)
          (subst (λ (x : List ℕ). IsPlannedAt d.plan.phase d.plan.left d.plan.missing d.plan.to_come
          (take d.plan.len d.plan.held) x) (sym a.picture) p.at);
      order = subst AreInOrder (sym a.streams) p.order;
      len = subst (λ (x : Plan). x.len ≤ 36) (sym a.plan) len;
    }

pub keeps_alike : (a b c : Draft) → Keeps a b → Alike b c → Keeps a c
keeps_alike a b c k e = record {
  opening = e.opening ∙ k.opening;
  streams = subst (Grew a.streams.items) (sym e.streams) k.streams;
  picture = ap (take (length a.picture)) e.picture ∙ k.picture;
}

pub resume_alike : (d e : Draft) → Alike d e → resume e ≡ resume d
unfolding resume
resume_alike d e a = λ i xs. read_on (a.plan i).phase (a.plan i).left (a.plan i).room (a.plan i).missing
    (take (a.plan i).len (a.plan i).held) (a.opening i) (a.streams i) (a.picture i) xs

pub made_of : (d e : Draft) (xs : List ℕ) (f : Option Frame) → Advances d e xs → e.plan.to_come ≡ 0
    → f ≡ resume e [] → f ≡ resume d xs
made_of d e xs f g none made = made ∙ sym (g.same [] (sym none)) ∙ ap (resume d) (append-nil xs)

pub goes_whole : (d e : Draft) (xs : List ℕ) → Advances d e xs → length xs ≡ d.plan.to_come → e.plan.to_come ≡ 0
goes_whole d e xs g whole = let c : d.plan.to_come ≡ length xs + e.plan.to_come = g.count in omega (arith, whole)
