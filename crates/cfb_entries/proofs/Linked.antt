-- Entries that links reach.
use Rattle.std.proofs.Common.{◌≡◌, ◌≢◌, ◌<◌, ◌*◌, ℕ, List, [], ◌∷◌, ◌++◌, length, refl, sym, ◌∙◌, ap, subst}
use Rattle.std.proofs.Common.{append_assoc, append-nil}
use Rattle.cfb_entries.specs.Entries.{AreLinked, nobody, around, NO_STREAM, Reaches, here, by_left, by_right, entry_at}
use Rattle.cfb_entries.specs.Entries.{left, right}

module _ (d : List ℕ) where
  -- what stands around an entry that is there
  pub record Around (id : ℕ) (ids : List ℕ) : Type 0 where
    pub before : List ℕ
    pub after : List ℕ
    pub all : ids ≡ id ∷ (before ++ after)
    pub inside : 128 * id < length d
    pub lefts : AreLinked d (left (entry_at d id)) before
    pub rights : AreLinked d (right (entry_at d id)) after

  pub around_of : (id : ℕ) (ids : List ℕ) → id ≢ NO_STREAM → AreLinked d id ids → Around id ids
  around_of id ids ne nobody = absurd (ne refl)
  around_of id ids ne (around i before after other lt l r) =
      record { before = before; after = after; all = refl; inside = lt; lefts = l; rights = r }

  pub nobody_of : (id : ℕ) (ids : List ℕ) → id ≡ NO_STREAM → AreLinked d id ids → ids ≡ []
  nobody_of id ids e nobody = refl
  nobody_of id ids e (around i before after other lt l r) = absurd (other e)

  -- the linked entries are determined
  pub linked_unique : (a b : ℕ) (xs ys : List ℕ) → a ≡ b → AreLinked d a xs → AreLinked d b ys → xs ≡ ys
  linked_unique a b xs ys e nobody nobody = refl
  linked_unique a b xs ys e nobody (around id before after ne lt l r) = absurd (ne (sym e))
  linked_unique a b xs ys e (around id before after ne lt l r) nobody = absurd (ne e)
  linked_unique a b xs ys e (around id before after ne lt l r) (around id' before' after' ne' lt' l' r') =
      let p : before ≡ before' = linked_unique (left (entry_at d a)) (left (entry_at d b)) before before'
      (ap (λ x. left (entry_at d x)) e) l l' in
      let q : after ≡ after' = linked_unique (right (entry_at d a)) (right (entry_at d b)) after after'
      (ap (λ x. right (entry_at d x)) e) r r' in
      cc

  -- what is reached from what is reached
  pub reaches_left : (top id : ℕ) → id ≢ NO_STREAM → 128 * id < length d → Reaches d top id
      → Reaches d top (left (entry_at d id))
  reaches_left top id ne lt (here i) = by_left top (left (entry_at d top)) lt ne (here (left (entry_at d top)))
  reaches_left top id ne lt (by_left i to lt' ne' r) = by_left top (left (entry_at d id)) lt' ne'
      (reaches_left (left (entry_at d top)) id ne lt r)
  reaches_left top id ne lt (by_right i to lt' ne' r) = by_right top (left (entry_at d id)) lt' ne'
      (reaches_left (right (entry_at d top)) id ne lt r)

  pub reaches_right : (top id : ℕ) → id ≢ NO_STREAM → 128 * id < length d → Reaches d top id
      → Reaches d top (right (entry_at d id))
  reaches_right top id ne lt (here i) = by_right top (right (entry_at d top)) lt ne (here (right (entry_at d top)))
  reaches_right top id ne lt (by_left i to lt' ne' r) = by_left top (right (entry_at d id)) lt' ne'
      (reaches_right (left (entry_at d top)) id ne lt r)
  reaches_right top id ne lt (by_right i to lt' ne' r) = by_right top (right (entry_at d id)) lt' ne'
      (reaches_right (right (entry_at d top)) id ne lt r)

  -- what those that wait on a stack lead to, the last one first
  abbrev pub Rest : List ℕ → List ℕ → Type 0
  Rest [] xs = xs ≡ []
  Rest (w ∷ ws) xs = (front : List ℕ) × (own : List ℕ) × (xs ≡ front ++ own) × Rest ws front × AreLinked d w own

  pub Rest-push : (ws : List ℕ) (id : ℕ) (own rest : List ℕ) → AreLinked d id own → Rest ws rest
      → Rest (ws ++ id ∷ []) (own ++ rest)
  Rest-push [] id own rest a r = ([], own, ap (λ x. own ++ x) r ∙ append-nil own, refl, a)
  Rest-push (w ∷ ws) id own rest a r =
      (own ++ r.0, r.1, ap (λ x. own ++ x) r.2 ∙ sym (append_assoc own r.0 r.1), Rest-push ws id own r.0 a r.3, r.4)

  pub Rest-pop : (ws : List ℕ) (id : ℕ) (xs : List ℕ) → Rest (ws ++ id ∷ []) xs
      → (own : List ℕ) × (rest : List ℕ) × (xs ≡ own ++ rest) × AreLinked d id own × Rest ws rest
  Rest-pop [] id xs r = (r.1, [], r.2 ∙ ap (λ x. x ++ r.1) r.3 ∙ sym (append-nil r.1), r.4, refl)
  Rest-pop (w ∷ ws) id xs r =
      let q : (own : List ℕ) × (rest : List ℕ) × (r.0 ≡ own ++ rest) × AreLinked d id own × Rest ws rest =
      Rest-pop ws id r.0 r.3 in
      (q.0, q.1 ++ r.1, r.2 ∙ ap (λ x. x ++ r.1) q.2 ∙ append_assoc q.0 q.1 r.1, q.3, (q.1, r.1, refl, q.4, r.4))

  -- whatever the waiting ones lead to completes what was found, and nothing else does
  pub record Completes (top : ℕ) (found waiting : List ℕ) : Type 0 where
    pub whole : (rest : List ℕ) → Rest waiting rest → AreLinked d top (found ++ rest)
    pub only : (ids : List ℕ) → AreLinked d top ids → (rest : List ℕ) × (ids ≡ found ++ rest) × Rest waiting rest

  pub Completes-start : (top : ℕ) → Completes top [] (top ∷ [])
  Completes-start top = record {
    whole = λ rest r. subst (λ (xs : List ℕ). AreLinked d top xs) (sym (r.2 ∙ ap (λ x. x ++ r.1) r.3)) r.4;
    only = λ ids a. (ids, refl, ([], ids, refl, refl, a));
  }

  pub Completes-nobody : (top : ℕ) (found ws : List ℕ) (id : ℕ) → id ≡ NO_STREAM
      → Completes top found (ws ++ id ∷ []) → Completes top found ws
  Completes-nobody top found ws id e h = record {
    whole = λ rest r. h.whole rest (Rest-push ws id [] rest (subst (λ (x : ℕ). AreLinked d x []) (sym e) nobody) r);
    only = λ ids a.
        let o : (rest : List ℕ) × (ids ≡ found ++ rest) × Rest (ws ++ id ∷ []) rest = h.only ids a in
        let p : (own : List ℕ) × (more : List ℕ) × (o.0 ≡ own ++ more) × AreLinked d id own × Rest ws more =
        Rest-pop ws id o.0 o.2 in
        let none : p.0 ≡ [] = nobody_of id p.0 e p.3 in
        (p.1, o.1 ∙ ap (λ x. found ++ x) (p.2 ∙ ap (λ x. x ++ p.1) none), p.4);
  }

  pub Completes-step : (top : ℕ) (found ws : List ℕ) (id : ℕ) → id ≢ NO_STREAM → 128 * id < length d
      → Completes top found (ws ++ id ∷ [])
      → Completes top (found ++ id ∷ []) ((ws ++ right (entry_at d id) ∷ []) ++ left (entry_at d id) ∷ [])
  Completes-step top found ws id ne lt h =
      let L : ℕ = left (entry_at d id) in
      let R : ℕ = right (entry_at d id) in
      record {
        whole = λ rest r.
            let p : (own : List ℕ) × (more : List ℕ) × (rest ≡ own ++ more) × AreLinked d L own
            × Rest (ws ++ R ∷ []) more = Rest-pop (ws ++ R ∷ []) L rest r in
            let q : (own : List ℕ) × (more : List ℕ) × (p.1 ≡ own ++ more) × AreLinked d R own × Rest ws more =
            Rest-pop ws R p.1 p.4 in
            let own : List ℕ = id ∷ (p.0 ++ q.0) in
            let w : AreLinked d top (found ++ (own ++ q.1)) =
            h.whole (own ++ q.1) (Rest-push ws id own q.1 (around id p.0 q.0 ne lt p.3 q.3) q.4) in
            let e : found ++ (own ++ q.1) ≡ (found ++ id ∷ []) ++ rest =
            ap (λ x. found ++ (id ∷ x)) (append_assoc p.0 q.0 q.1 ∙ ap (λ x. p.0 ++ x) (sym q.2) ∙ sym p.2)
            ∙ sym (append_assoc found (id ∷ []) rest) in
            subst (λ (xs : List ℕ). AreLinked d top xs) e w;
        only = λ ids a.
            let o : (rest : List ℕ) × (ids ≡ found ++ rest) × Rest (ws ++ id ∷ []) rest = h.only ids a in
            let p : (own : List ℕ) × (more : List ℕ) × (o.0 ≡ own ++ more) × AreLinked d id own × Rest ws more =
            Rest-pop ws id o.0 o.2 in
            let g : Around id p.0 = around_of id p.0 ne p.3 in
            let e : ids ≡ (found ++ id ∷ []) ++ (g.before ++ (g.after ++ p.1)) =
            o.1 ∙ ap (λ x. found ++ x) (p.2 ∙ ap (λ x. x ++ p.1) g.all
            ∙ ap (λ x. id ∷ x) (append_assoc g.before g.after p.1))
            ∙ sym (append_assoc found (id ∷ []) (g.before ++ (g.after ++ p.1))) in (
              g.before ++ (g.after ++ p.1),
              e,
              Rest-push (ws ++ R ∷ []) L g.before (g.after ++ p.1) g.lefts
                  (Rest-push ws R g.after p.1 g.rights p.4),
            );
      }

  pub Completes-end : (top : ℕ) (found : List ℕ) → Completes top found [] → AreLinked d top found
  Completes-end top found h = subst (λ (xs : List ℕ). AreLinked d top xs) (append-nil found) (h.whole [] refl)

  -- the entry met next stands behind those that were found, in whatever is linked
  pub Completes-next : (top : ℕ) (found ws : List ℕ) (id : ℕ) → id ≢ NO_STREAM → Completes top found (ws ++ id ∷ [])
      → (ids : List ℕ) → AreLinked d top ids → (rest : List ℕ) × (ids ≡ found ++ (id ∷ rest))
  Completes-next top found ws id ne h ids a =
      let o : (rest : List ℕ) × (ids ≡ found ++ rest) × Rest (ws ++ id ∷ []) rest = h.only ids a in
      let p : (own : List ℕ) × (more : List ℕ) × (o.0 ≡ own ++ more) × AreLinked d id own × Rest ws more =
      Rest-pop ws id o.0 o.2 in
      let g : Around id p.0 = around_of id p.0 ne p.3 in
      ((g.before ++ g.after) ++ p.1, o.1 ∙ ap (λ x. found ++ x) (p.2 ∙ ap (λ x. x ++ p.1) g.all))
