-- Chains that are followed: what of them is marked, and what lies behind their ends.
use Rattle.std.proofs.Common.{◌≡◌, ◌≢◌, ◌<◌, ◌≤◌, ◌+◌, ◌-◌, ◌*◌, ◌⊎◌, inl, inr, ℕ, zero, suc, Bool, true, false, List}
use Rattle.std.proofs.Common.{[], ◌∷◌, ◌++◌, length, get_or, set, drop, take, eqb, replicate, refl, sym, ap, subst, ◌∙◌}
use Rattle.std.proofs.Common.{arith}
use Rattle.std.proofs.lemmas.Bool.{cases_Bool, cases_lt, eqb-true, eqb-false}
use Rattle.std.proofs.lemmas.List.{drop_all, get_or-set_other}
use Rattle.std.proofs.lemmas.List.Elements.{All-append, All-head, All-tail}
use Rattle.std.specs.List.{All, Contains}
use Rattle.cfb_header.specs.Bytes.{joined}
use Rattle.cfb_chains.specs.Chain.{END_OF_CHAIN, Leads}
use Rattle.cfb_file.proofs.Lists.{Contains-behind}
use Rattle.write_zeros.specs.Taken.{AllIn, AreWithin, IsLinked}
use Rattle.write_zeros.specs.Zeroed.{AreZeros}

-- ---- marks
pub within_more : (marks : List Bool) (n : ℕ) (taken : List ℕ) → Contains taken n → AreWithin marks taken
    → AreWithin (set marks n true) taken
within_more marks n taken c h = λ k t.
    elim (cases_Bool (eqb k n)) [
      | inl same ↦ subst (λ m. Contains taken m) (sym (eqb-true k n same)) c
      | inr other ↦ h k (sym (get_or-set_other marks n k true false (eqb-false k n other)) ∙ t)
    ]

pub none_within : (n : ℕ) (taken : List ℕ) → AreWithin (replicate n false) taken
none_within n taken = λ k t. absurd (not_both (replicate n false) k (unmarked n k) t)
  where
    not_both : (xs : List Bool) (k : ℕ) → get_or xs k false ≡ false → get_or xs k false ≡ true → ⊥
    not_both xs k f t = let e : false ≡ true = sym f ∙ t in cc e

    unmarked : (n k : ℕ) → get_or (replicate n false) k false ≡ false
    unmarked zero k = refl
    unmarked (suc n) zero = refl
    unmarked (suc n) (suc k) = unmarked n k

-- marks of which the first were written over
taken_true : (n : ℕ) (xs : List Bool) (k : ℕ) → get_or (take n xs) k false ≡ true → get_or xs k false ≡ true
taken_true zero xs k h = absurd (let e : false ≡ true = h in cc e)
taken_true (suc n) [] k h = h
taken_true (suc n) (x ∷ xs) zero h = h
taken_true (suc n) (x ∷ xs) (suc k) h = taken_true n xs k h

either_true : (n : ℕ) (new old : List Bool) (k : ℕ) → get_or (take n (new ++ drop (length new) old)) k false ≡ true
    → (get_or new k false ≡ true) ⊎ (get_or old k false ≡ true)
either_true zero new old k h = absurd (let e : false ≡ true = h in cc e)
either_true (suc n) [] old k h = inr (taken_true (suc n) old k h)
either_true (suc n) (x ∷ new) [] zero h = inl h
either_true (suc n) (x ∷ new) [] (suc k) h =
    elim (either_true n new [] k (subst (λ (xs : List Bool). get_or (take n (new ++ xs)) k false ≡ true)
    (sym (drop_all (length new) [] (omega arith))) h)) [
      | inl t ↦ inl t
      | inr t ↦ inr t
    ]
either_true (suc n) (x ∷ new) (y ∷ old) zero h = inl h
either_true (suc n) (x ∷ new) (y ∷ old) (suc k) h = elim (either_true n new old k h) [ inl t ↦ inl t | inr t ↦ inr t ]

pub within_kept : (n : ℕ) (new old : List Bool) (taken : List ℕ) → AreWithin new taken → AreWithin old taken
    → AreWithin (take n (new ++ drop (length new) old)) taken
within_kept n new old taken h g = λ k t. elim (either_true n new old k t) [ inl a ↦ h k a | inr b ↦ g k b ]

-- ---- a chain with something in it, and without
abbrev pub next_in : List ℕ → ℕ → ℕ
next_in table n = get_or table n 0

pub linked_some : (table : List ℕ) (start size : ℕ) (ns : List ℕ) → size ≢ 0 → IsLinked table start size ns
    → Leads (next_in table) start ns END_OF_CHAIN × All (λ n. n < length table) ns
linked_some table start zero ns ne h = absurd (ne refl)
linked_some table start (suc size) ns ne h = h

pub linked_none : (table : List ℕ) (start size : ℕ) (ns : List ℕ) → size ≡ 0 → IsLinked table start size ns → ns ≡ []
linked_none table start zero ns e h = h
linked_none table start (suc size) ns e h = absurd (omega (arith, e))

-- ---- a walk along a chain, which marks what it meets
pub record IsAhead (table taken : List ℕ) (at : ℕ) : Type 0 where
  pub rest : List ℕ
  pub leads : Leads (next_in table) at rest END_OF_CHAIN
  pub all_in : AllIn rest taken

pub record IsMarking (table taken : List ℕ) (marks : List Bool) (at : ℕ) : Type 0 where
  pub marked : AreWithin marks taken
  pub ahead : IsAhead table taken at

pub marking_first : (table taken : List ℕ) (marks : List Bool) (first size : ℕ) (ns : List ℕ) → size ≢ 0
    → IsLinked table first size ns → AllIn ns taken
    → AreWithin marks taken → IsMarking table taken marks first
marking_first table taken marks first size ns ne h more w = record {
  marked = w;
  ahead = record { rest = ns; leads = (linked_some table first size ns ne h).0; all_in = more };
}

marking_by : (table taken : List ℕ) (at : ℕ) (rest : List ℕ) → at ≢ END_OF_CHAIN
    → Leads (next_in table) at rest END_OF_CHAIN → AllIn rest taken
    → Contains taken at × IsAhead table taken (next_in table at)
marking_by table taken at [] ne h more = absurd (ne h)
marking_by table taken at (n ∷ ns) ne h more = (
  more at (0, omega arith, sym h.0),
  record {
    rest = ns;
    leads = subst (λ x. Leads (next_in table) (next_in table x) ns END_OF_CHAIN) (sym h.0) h.1;
    all_in = λ m c. more m (Contains-behind n ns m c);
  },
)

pub marking_more : (table taken : List ℕ) (marks now : List Bool) (at next : ℕ) → at ≢ END_OF_CHAIN
    → next ≡ next_in table at
    → (Contains taken at → AreWithin marks taken → AreWithin now taken) → IsMarking table taken marks at
    → IsMarking table taken now next
marking_more table taken marks now at next ne e put h =
    let s : Contains taken at × IsAhead table taken (next_in table at) =
    marking_by table taken at h.ahead.rest ne h.ahead.leads h.ahead.all_in in
    record { marked = put s.0 h.marked; ahead = subst (λ x. IsAhead table taken x) (sym e) s.1 }

-- ---- a walk along a chain, which looks behind its end
zeros_both : (k : ℕ) (xs ys : List ℕ) → AreZeros (drop k xs) → AreZeros (drop (k - length xs) ys)
    → AreZeros (drop k (xs ++ ys))
zeros_both zero xs ys h g =
    let e : 0 - length xs ≡ 0 = omega arith in
    All-append (λ b. b ≡ 0) xs ys h (subst (λ m. AreZeros (drop m ys)) e g)
zeros_both (suc k) [] ys h g = let e : suc k - 0 ≡ suc k = omega arith in subst (λ m. AreZeros (drop m ys)) e g
zeros_both (suc k) (x ∷ xs) ys h g =
    let e : suc k - suc (length xs) ≡ k - length xs = omega arith in
    zeros_both k xs ys h (subst (λ m. AreZeros (drop m ys)) e g)

-- how far it is: once the rest is zero behind what is left, all is behind the end
pub record IsEnding (table : List ℕ) (piece : ℕ → List ℕ) (size : ℕ) (ns : List ℕ) (at left : ℕ) : Type 0 where
  pub rest : List ℕ
  pub leads : Leads (next_in table) at rest END_OF_CHAIN
  pub below : All (λ n. n < length table) rest
  pub whole : AreZeros (drop left (joined piece rest)) → AreZeros (drop size (joined piece ns))

pub ending_first : (table : List ℕ) (piece : ℕ → List ℕ) (first size : ℕ) (ns : List ℕ) → size ≢ 0
    → IsLinked table first size ns
    → IsEnding table piece size ns first size
ending_first table piece first size ns ne h = let l = linked_some table first size ns ne h in
    record { rest = ns; leads = l.0; below = l.1; whole = λ z. z }

ending_by : (table : List ℕ) (piece : ℕ → List ℕ) (w size : ℕ) (ns : List ℕ) (at left after : ℕ) (rest : List ℕ)
    → ((n : ℕ) → length (piece n) ≡ w)
    → at < length table → length table ≤ END_OF_CHAIN → after ≡ left - w → AreZeros (drop left (piece at))
    → Leads (next_in table) at rest END_OF_CHAIN → All (λ n. n < length table) rest
    → (AreZeros (drop left (joined piece rest)) → AreZeros (drop size (joined piece ns)))
    → IsEnding table piece size ns (next_in table at) after
ending_by table piece w size ns at left after [] wide lt few e z h below whole = absurd (omega (arith, lt, few, h))
ending_by table piece w size ns at left after (n ∷ rest) wide lt few e z h below whole = record {
  rest = rest;
  leads = subst (λ x. Leads (next_in table) (next_in table x) rest END_OF_CHAIN) (sym h.0) h.1;
  below = All-tail (λ n. n < length table) n rest below;
  whole = λ g.
      let first : AreZeros (drop left (piece n)) = subst (λ x. AreZeros (drop left (piece x))) h.0 z in
      let m : after ≡ left - length (piece n) = e ∙ ap (λ x. left - x) (sym (wide n)) in
      whole (zeros_both left (piece n) (joined piece rest) first
      (subst (λ x. AreZeros (drop x (joined piece rest))) m g));
}

pub ending_more : (table : List ℕ) (piece : ℕ → List ℕ) (w size : ℕ) (ns : List ℕ) (at next left after : ℕ)
    → ((n : ℕ) → length (piece n) ≡ w)
    → at < length table → length table ≤ END_OF_CHAIN → next ≡ next_in table at → after ≡ left - w
    → AreZeros (drop left (piece at))
    → IsEnding table piece size ns at left → IsEnding table piece size ns next after
ending_more table piece w size ns at next left after wide lt few en e z h =
    subst (λ x. IsEnding table piece size ns x after) (sym en)
    (ending_by table piece w size ns at left after h.rest wide lt few e z h.leads h.below h.whole)

ending_at : (table : List ℕ) (piece : ℕ → List ℕ) (size : ℕ) (ns : List ℕ) (at left : ℕ) (rest : List ℕ)
    → length table ≤ at
    → Leads (next_in table) at rest END_OF_CHAIN → All (λ n. n < length table) rest
    → (AreZeros (drop left (joined piece rest)) → AreZeros (drop size (joined piece ns)))
    → AreZeros (drop size (joined piece ns))
ending_at table piece size ns at left [] past h below whole =
    whole (subst AreZeros (sym (drop_all left [] (omega arith))) (λ k d lt. absurd (omega (arith, lt))))
ending_at table piece size ns at left (n ∷ rest) past h below whole =
    absurd (let lt : n < length table = All-head (λ n. n < length table) n rest below in omega (arith, lt, past, h.0))

pub ending_last : (table : List ℕ) (piece : ℕ → List ℕ) (size : ℕ) (ns : List ℕ) (at left : ℕ) → length table ≤ at
    → IsEnding table piece size ns at left → AreZeros (drop size (joined piece ns))
ending_last table piece size ns at left past h = ending_at table piece size ns at left h.rest past h.leads h.below
    h.whole

pub none_behind : (table : List ℕ) (piece : ℕ → List ℕ) (first size : ℕ) (ns : List ℕ) → size ≡ 0
    → IsLinked table first size ns
    → AreZeros (drop size (joined piece ns))
none_behind table piece first size ns e h =
    subst (λ (ms : List ℕ). AreZeros (drop size (joined piece ms))) (sym (linked_none table first size ns e h))
    (subst AreZeros (sym (drop_all size [] (omega arith))) (λ k d lt. absurd (omega (arith, lt))))
