-- Lists of runs, by their sessions, which rise.
use Rattle.std.proofs.Common.{◌≡◌, ◌≢◌, ◌<◌, ◌⊎◌, ◌++◌, ℕ, zero, suc, Bool, List, [], ◌∷◌, Some, refl, sym, ap, ◌∙◌}
use Rattle.std.proofs.Common.{subst, inl, inr, arith, if◌then◌else◌, slice_get}
use Rattle.std.proofs.lemmas.Bool.Decides.{eqb_tells}
use Rattle.message_values.specs.Found.{find, nth, put}
use Rattle.world_facts.proofs.Lookups.{among_join}
use Rattle.message_values.specs.declared.message.Message.{Message}
use Rattle.world_model.specs.declared.logs.Sent.{Sent}
use Rattle.world_model.specs.Safe.{Among, messages}
use Rattle.world_model.specs.SafeStory.{AreRising}
use Rattle.world_model.specs.Story.{Epoch, is_session}
use Rattle.world_stories.proofs.SafeRuns.{rising_above}

-- one of these, or the last one
pub each_run : (P : Epoch → Type 0) (past : List Epoch) (now : Epoch) → ((x : Epoch) → Among past x → P x) → P now
    → (x : Epoch)
    → Among (past ++ now ∷ []) x → P x
each_run P past now before here x g = elim (among_join past (now ∷ []) x g) [
  | inl old ↦ before x old
  | inr new ↦
      last new
]
  where
    last : Among (now ∷ []) x → P x
    last (inl q) = subst P (sym q) here
    last (inr z) = absurd z

-- the one that is found
pub found_session : (n : ℕ) (es : List Epoch) (e : Epoch) → find (is_session n) es ≡ Some e → Among es e
    × (e.session ≡ n)
found_session n [] e f = cc
found_session n (x ∷ es) e f = elim (eqb_tells x.session n) [
  | inl t ↦
      (let is : x ≡ e =
      (let g : Some x ≡ Some e = subst (λ b. (if b then Some x else find (is_session n) es) ≡ Some e) t.0 f in
      cc) in (inl (sym is), ap (λ (y : Epoch). y.session) (sym is) ∙ t.1))
  | inr t ↦
      (let k = found_session n es e (subst (λ b. (if b then Some x else find (is_session n) es) ≡ Some e) t.0 f) in
      (inr k.0, k.1))
]

abbrev Put : ℕ → Epoch → Epoch → List Epoch → Bool → List Epoch
Put n a x es b = if b then a ∷ es else x ∷ put (is_session n) a es

-- what stands in a list in which one was put: it, or another one
put_first : (n last : ℕ) (a x : Epoch) (es : List Epoch) (e : Epoch) → AreRising last (x ∷ es) → x.session ≡ n
    → Among (a ∷ es) e → (e ≡ a) ⊎ (Among (x ∷ es) e × (e.session ≢ n))
put_first n last a x es e r is (inl q) = inl q
put_first n last a x es e r is (inr k) = (let lt : x.session < e.session = rising_above x.session es e r.1 k in
    inr (inr k, λ same. absurd (let z : e.session ≡ n = same in let y : x.session ≡ n = is in omega arith)))

put_later : (n : ℕ) (a x : Epoch) (es : List Epoch) (e : Epoch) → x.session ≢ n
    → (Among (put (is_session n) a es) e → (e ≡ a) ⊎ (Among es e × (e.session ≢ n)))
    → Among (x ∷ put (is_session n) a es) e → (e ≡ a) ⊎ (Among (x ∷ es) e × (e.session ≢ n))
put_later n a x es e apart rest (inl q) = inr (inl q, λ same. apart (ap (λ (y : Epoch). y.session) (sym q) ∙ same))
put_later n a x es e apart rest (inr k) = elim (rest k) [ inl q ↦ inl q | inr p ↦ inr (inr p.0, p.1) ]

put_members : (n last : ℕ) (a : Epoch) (es : List Epoch) (e : Epoch) → AreRising last es
    → Among (put (is_session n) a es) e
    → (e ≡ a) ⊎ (Among es e × (e.session ≢ n))
put_members n last a [] e r g = absurd g
put_members n last a (x ∷ es) e r g = elim (eqb_tells x.session n) [
  | inl t ↦ put_first n last a x es e r t.1 (subst (λ b. Among (Put n a x es b) e) t.0 g)
  | inr t ↦ put_later n a x es e t.1 (λ k. put_members n x.session a es e r.1 k)
      (subst (λ b. Among (Put n a x es b) e) t.0 g)
]

pub put_each : (P : Epoch → Type 0) (n last : ℕ) (a : Epoch) (es : List Epoch) → AreRising last es → P a
    → ((x : Epoch) → Among es x → x.session ≢ n → P x)
    → (x : Epoch) → Among (put (is_session n) a es) x → P x
put_each P n last a es r here others x g =
    elim (put_members n last a es x r g) [ inl q ↦ subst P (sym q) here | inr q ↦ others x q.0 q.1 ]

-- the sessions are as they were
pub put_rises : (n last : ℕ) (a : Epoch) (es : List Epoch) → a.session ≡ n → AreRising last es
    → AreRising last (put (is_session n) a es)
put_rises n last a [] is r = tt
put_rises n last a (x ∷ es) is r = elim (eqb_tells x.session n) [
  | inl t ↦ (let same : x.session ≡ a.session = t.1 ∙ sym is in
      subst (λ b. AreRising last (Put n a x es b)) (sym t.0)
      (subst (λ m. last < m) same r.0, subst (λ m. AreRising m es) same r.1))
  | inr t ↦ subst (λ b. AreRising last (Put n a x es b)) (sym t.0) (r.0, put_rises n x.session a es is r.1)
]

keeps_first : (n : ℕ) (a x : Epoch) (es : List Epoch) (e : Epoch) → a.session ≡ n → x.session ≡ n → Among (x ∷ es) e
    → (y : Epoch) × Among (a ∷ es) y × (y.session ≡ e.session)
keeps_first n a x es e is t (inl q) = (a, inl refl, is ∙ (sym t ∙ ap (λ (y : Epoch). y.session) (sym q)))
keeps_first n a x es e is t (inr k) = (e, inr k, refl)

keeps_later : (n : ℕ) (a x : Epoch) (es : List Epoch) (e : Epoch)
    → (Among es e → (y : Epoch) × Among (put (is_session n) a es) y × (y.session ≡ e.session)) → Among (x ∷ es) e
    → (y : Epoch) × Among (x ∷ put (is_session n) a es) y × (y.session ≡ e.session)
keeps_later n a x es e rest (inl q) = (x, inl refl, ap (λ (y : Epoch). y.session) (sym q))
keeps_later n a x es e rest (inr k) = (let p = rest k in (p.0, inr p.1, p.2))

pub put_keeps : (n : ℕ) (a : Epoch) (es : List Epoch) (e : Epoch) → a.session ≡ n → Among es e
    → (x : Epoch) × Among (put (is_session n) a es) x × (x.session ≡ e.session)
put_keeps n a [] e is g = absurd g
put_keeps n a (x ∷ es) e is g = elim (eqb_tells x.session n) [
  | inl t ↦ subst (λ b. (y : Epoch) × Among (Put n a x es b) y × (y.session ≡ e.session)) (sym t.0)
      (keeps_first n a x es e is t.1 g)
  | inr t ↦ subst (λ b. (y : Epoch) × Among (Put n a x es b) y × (y.session ≡ e.session)) (sym t.0)
      (keeps_later n a x es e (λ k. put_keeps n a es e is k) g)
]

-- the one that was put is there, where one was found
pub put_there : (n : ℕ) (a : Epoch) (es : List Epoch) (e : Epoch) → find (is_session n) es ≡ Some e
    → Among (put (is_session n) a es) a
put_there n a [] e f = cc
put_there n a (x ∷ es) e f = elim (eqb_tells x.session n) [
  | inl t ↦ subst (λ b. Among (Put n a x es b) a) (sym t.0) (inl refl)
  | inr t ↦ subst (λ b. Among (Put n a x es b) a) (sym t.0)
      (inr (put_there n a es e (subst (λ b. (if b then Some x else find (is_session n) es) ≡ Some e) t.0 f)))
]

-- one more, greater than all
pub rising_more : (last : ℕ) (es : List Epoch) (e : Epoch) → AreRising last es → last < e.session
    → ((x : Epoch) → Among es x → x.session < e.session) → AreRising last (es ++ e ∷ [])
rising_more last [] e r from all = (from, tt)
rising_more last (x ∷ es) e r from all = (r.0, rising_more x.session es e r.1 (all x (inl refl)) (λ y g. all y (inr g)))

-- nothing was sent
pub none_sent : (xs : List Sent) → ((m : Message) → Among (messages xs) m → ⊥) → xs ≡ []
none_sent [] h = refl
none_sent (x ∷ xs) h = absurd (h x.message (inl refl))

-- what stands at a place
pub placed_among : (ms : List Message) (p : ℕ) (m : Message) → nth ms p ≡ Some m → Among ms m
placed_among ms zero m e = cc
placed_among ms (suc i) m e = at ms i e
  where
    at : (xs : List Message) (i : ℕ) → slice_get xs i ≡ Some m → Among xs m
    at [] i f = cc
    at (x ∷ xs) zero f = (let q : x ≡ m = cc in inl (sym q))
    at (x ∷ xs) (suc i) f = inr (at xs i f)
