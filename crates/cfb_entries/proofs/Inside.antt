-- Entries that links reach inside a directory.
use Rattle.std.proofs.Common.{◌≡◌, ◌≢◌, ◌<◌, ◌*◌, ℕ, List, [], ◌∷◌, ◌++◌, length, refl, sym, ◌∙◌, ap, append_assoc}
use Rattle.std.proofs.Common.{append-nil, arith}
use Rattle.std.proofs.lemmas.List.Elements.{All-append, All-push}
use Rattle.std.specs.List.{All}
use Rattle.cfb_entries.specs.Entries.{AreInside, AreLinked, NO_STREAM, around, around_inside, entry_at, left, nobody}
use Rattle.cfb_entries.specs.Entries.{nobody_inside, outside, right}

-- links that stay inside reach the same
pub linked_inside : (d : List ℕ) (id : ℕ) (ids : List ℕ) → AreLinked d id ids → AreInside d id ids
linked_inside d id ids nobody = nobody_inside
linked_inside d id ids (around i before after ne lt l r) =
    around_inside id before after ne lt (linked_inside d (left (entry_at d id)) before l)
    (linked_inside d (right (entry_at d id)) after r)

-- what they reach inside is inside
pub are_inside : (d : List ℕ) (id : ℕ) (ids : List ℕ) → AreInside d id ids → All (λ n. 128 * n < length d) ids
are_inside d id ids nobody_inside = λ k e lt. absurd (omega arith)
are_inside d id ids (outside i out) = λ k e lt. absurd (omega arith)
are_inside d id ids (around_inside i before after ne lt l r) =
    let In : ℕ → Type 0 = λ n. 128 * n < length d in
    All-append In (id ∷ []) (before ++ after) (one In id lt)
    (All-append In before after (are_inside d (left (entry_at d id)) before l)
    (are_inside d (right (entry_at d id)) after r))
  where
    one : (P : ℕ → Type 0) (n : ℕ) → P n → All P (n ∷ [])
    one P n h = All-push P [] n (λ k e lt. absurd (omega arith)) h

module _ (d : List ℕ) where
  -- what stands around an entry that is there
  record Around (id : ℕ) (ids : List ℕ) : Type 0 where
    pub before : List ℕ
    pub after : List ℕ
    pub all : ids ≡ id ∷ (before ++ after)
    pub lefts : AreInside d (left (entry_at d id)) before
    pub rights : AreInside d (right (entry_at d id)) after

  around_of : (id : ℕ) (ids : List ℕ) → id ≢ NO_STREAM → 128 * id < length d → AreInside d id ids → Around id ids
  around_of id ids ne lt nobody_inside = absurd (ne refl)
  around_of id ids ne lt (outside i out) = absurd (omega (arith, lt, out))
  around_of id ids ne lt (around_inside i before after other inside l r) =
      record { before = before; after = after; all = refl; lefts = l; rights = r }

  nobody_of : (id : ℕ) (ids : List ℕ) → id ≡ NO_STREAM → AreInside d id ids → ids ≡ []
  nobody_of id ids e nobody_inside = refl
  nobody_of id ids e (outside i out) = refl
  nobody_of id ids e (around_inside i before after other lt l r) = absurd (other e)

  -- what those that wait on a stack lead to inside, the last one first
  abbrev pub Rest : List ℕ → List ℕ → Type 0
  Rest [] xs = xs ≡ []
  Rest (w ∷ ws) xs = (front : List ℕ) × (own : List ℕ) × (xs ≡ front ++ own) × Rest ws front × AreInside d w own

  Rest-push : (ws : List ℕ) (id : ℕ) (own rest : List ℕ) → AreInside d id own → Rest ws rest
      → Rest (ws ++ id ∷ []) (own ++ rest)
  Rest-push [] id own rest a r = ([], own, ap (λ x. own ++ x) r ∙ append-nil own, refl, a)
  Rest-push (w ∷ ws) id own rest a r =
      (own ++ r.0, r.1, ap (λ x. own ++ x) r.2 ∙ sym (append_assoc own r.0 r.1), Rest-push ws id own r.0 a r.3, r.4)

  Rest-pop : (ws : List ℕ) (id : ℕ) (xs : List ℕ) → Rest (ws ++ id ∷ []) xs
      → (own : List ℕ) × (rest : List ℕ) × (xs ≡ own ++ rest) × AreInside d id own × Rest ws rest
  Rest-pop [] id xs r = (r.1, [], r.2 ∙ ap (λ x. x ++ r.1) r.3 ∙ sym (append-nil r.1), r.4, refl)
  Rest-pop (w ∷ ws) id xs r =
      let q : (own : List ℕ) × (rest : List ℕ) × (r.0 ≡ own ++ rest) × AreInside d id own × Rest ws rest =
      Rest-pop ws id r.0 r.3 in
      (q.0, q.1 ++ r.1, r.2 ∙ ap (λ x. x ++ r.1) q.2 ∙ append_assoc q.0 q.1 r.1, q.3, (q.1, r.1, refl, q.4, r.4))

  -- whatever is reached inside begins with what was found, and the waiting ones lead to the rest
  pub record Begins (top : ℕ) (found waiting : List ℕ) : Type 0 where
    pub only : (ids : List ℕ) → AreInside d top ids → (rest : List ℕ) × (ids ≡ found ++ rest) × Rest waiting rest

  pub Begins-start : (top : ℕ) → Begins top [] (top ∷ [])
  Begins-start top = record { only = λ ids a. (ids, refl, ([], ids, refl, refl, a)) }

  pub Begins-nobody : (top : ℕ) (found ws : List ℕ) (id : ℕ) → id ≡ NO_STREAM → Begins top found (ws ++ id ∷ [])
      → Begins top found ws
  Begins-nobody top found ws id e h = record {
    only = λ ids a.
        let o : (rest : List ℕ) × (ids ≡ found ++ rest) × Rest (ws ++ id ∷ []) rest = h.only ids a in
        let p : (own : List ℕ) × (more : List ℕ) × (o.0 ≡ own ++ more) × AreInside d id own × Rest ws more =
        Rest-pop ws id o.0 o.2 in
        let none : p.0 ≡ [] = nobody_of id p.0 e p.3 in
        (p.1, o.1 ∙ ap (λ x. found ++ x) (p.2 ∙ ap (λ x. x ++ p.1) none), p.4);
  }

  pub Begins-step : (top : ℕ) (found ws : List ℕ) (id : ℕ) → id ≢ NO_STREAM → 128 * id < length d
      → Begins top found (ws ++ id ∷ [])
      → Begins top (found ++ id ∷ []) ((ws ++ right (entry_at d id) ∷ []) ++ left (entry_at d id) ∷ [])
  Begins-step top found ws id ne lt h =
      let L : ℕ = left (entry_at d id) in
      let R : ℕ = right (entry_at d id) in
      record {
        only = λ ids a.
            let o : (rest : List ℕ) × (ids ≡ found ++ rest) × Rest (ws ++ id ∷ []) rest = h.only ids a in
            let p : (own : List ℕ) × (more : List ℕ) × (o.0 ≡ own ++ more) × AreInside d id own × Rest ws more =
            Rest-pop ws id o.0 o.2 in
            let g : Around id p.0 = around_of id p.0 ne lt p.3 in
            let e : ids ≡ (found ++ id ∷ []) ++ (g.before ++ (g.after ++ p.1)) =
            o.1 ∙ ap (λ x. found ++ x) (p.2 ∙ ap (λ x. x ++ p.1) g.all
            ∙ ap (λ x. id ∷ x) (append_assoc g.before g.after p.1))
            ∙ sym (append_assoc found (id ∷ []) (g.before ++ (g.after ++ p.1))) in (
              g.before ++ (g.after ++ p.1),
              e,
              Rest-push (ws ++ R ∷ []) L g.before (g.after ++ p.1) g.lefts
                  (Rest-push ws R g.after p.1 g.rights p.4),
            );
      }

  -- an entry inside that is met next stands behind those that were found, in whatever is reached
  pub Begins-next : (top : ℕ) (found ws : List ℕ) (id : ℕ) → id ≢ NO_STREAM → 128 * id < length d
      → Begins top found (ws ++ id ∷ [])
      → (ids : List ℕ) → AreInside d top ids → (rest : List ℕ) × (ids ≡ found ++ (id ∷ rest))
  Begins-next top found ws id ne lt h ids a =
      let o : (rest : List ℕ) × (ids ≡ found ++ rest) × Rest (ws ++ id ∷ []) rest = h.only ids a in
      let p : (own : List ℕ) × (more : List ℕ) × (o.0 ≡ own ++ more) × AreInside d id own × Rest ws more =
      Rest-pop ws id o.0 o.2 in
      let g : Around id p.0 = around_of id p.0 ne lt p.3 in
      ((g.before ++ g.after) ++ p.1, o.1 ∙ ap (λ x. found ++ x) (p.2 ∙ ap (λ x. x ++ p.1) g.all))
