-- What was sent in one session among what was ever sent.
use Rattle.std.proofs.Common.{◌≡◌, ◌≢◌, ◌==◌, ◌++◌, ℕ, zero, suc, Bool, true, false, List, [], ◌∷◌, Some, refl, sym, ap}
use Rattle.std.proofs.Common.{◌∙◌, subst, inl, inr, append-nil, slice_get, if◌then◌else◌}
use Rattle.std.proofs.lemmas.Bool.Decides.{eqb_tells}
use Rattle.message_values.specs.Found.{nth}
use Rattle.message_values.specs.declared.message.Message.{Message}
use Rattle.world_facts.proofs.Lookups.{among_map, among_mapped}
use Rattle.world_model.specs.declared.logs.Sent.{Sent}
use Rattle.world_model.specs.Safe.{Among, messages}
use Rattle.world_stories.specs.Holding.{sent_in}

abbrev pub message_in : Sent → Message
message_in x = x.message

-- by whether the first is of the session
abbrev First : ℕ → Sent → List Sent → Bool → List Sent
First s x xs b = if b then x ∷ sent_in s xs else sent_in s xs

pub among_in : (s : ℕ) (xs : List Sent) (m : Message) → m.session ≡ s → Among (messages xs) m
    → Among (messages (sent_in s xs)) m
among_in s [] m e g = absurd g
among_in s (x ∷ xs) m e (inl q) = elim (eqb_tells x.message.session s) [
  | inl t ↦ subst (λ b. Among (messages (First s x xs b)) m) (sym t.0) (inl q)
  | inr t ↦ absurd (t.1 (ap (λ (y : Message). y.session) (sym q) ∙ e))
]
among_in s (x ∷ xs) m e (inr g) = elim (eqb_tells x.message.session s) [
  | inl t ↦ subst (λ b. Among (messages (First s x xs b)) m) (sym t.0) (inr (among_in s xs m e g))
  | inr t ↦ subst (λ b. Among (messages (First s x xs b)) m) (sym t.0) (among_in s xs m e g)
]

pub sent_among : (s : ℕ) (xs : List Sent) (x : Sent) → Among (sent_in s xs) x → Among xs x
sent_among s [] x g = absurd g
sent_among s (y ∷ ys) x g = elim (y.message.session == s) as (λ b. Among (First s y ys b) x → Among (y ∷ ys) x) [
  | true ↦ (λ h. elim h [ inl q ↦ inl q | inr k ↦ inr (sent_among s ys x k) ])
  | false ↦ (λ h. inr (sent_among s ys x h))
] g

pub in_among : (s : ℕ) (xs : List Sent) (m : Message) → Among (messages (sent_in s xs)) m → Among (messages xs) m
in_among s xs m g = (let k = among_mapped message_in (sent_in s xs) m g in
    subst (Among (messages xs)) (sym k.2) (among_map message_in xs k.0 (sent_among s xs k.0 k.1)))

pub in_append : (s : ℕ) (xs ys : List Sent) → sent_in s (xs ++ ys) ≡ sent_in s xs ++ sent_in s ys
in_append s [] ys = refl
in_append s (x ∷ xs) ys =
    elim (x.message.session == s) as (λ b. (if b then x ∷ sent_in s (xs ++ ys) else sent_in s (xs ++ ys))
    ≡ First s x xs b ++ sent_in s ys) [
      | true ↦ ap (λ zs. x ∷ zs) (in_append s xs ys)
      | false ↦ in_append s xs ys
    ]

-- all of a list, or none of it
pub in_all : (s : ℕ) (xs : List Sent) → ((m : Message) → Among (messages xs) m → m.session ≡ s) → sent_in s xs ≡ xs
in_all s [] h = refl
in_all s (x ∷ xs) h = elim (eqb_tells x.message.session s) [
  | inl t ↦ subst (λ b. First s x xs b ≡ x ∷ xs) (sym t.0) (ap (λ zs. x ∷ zs) (in_all s xs (λ m g. h m (inr g))))
  | inr t ↦ absurd (t.1 (h x.message (inl refl)))
]

pub in_none : (s : ℕ) (xs : List Sent) → ((m : Message) → Among (messages xs) m → m.session ≢ s) → sent_in s xs ≡ []
in_none s [] h = refl
in_none s (x ∷ xs) h = elim (eqb_tells x.message.session s) [
  | inl t ↦ absurd (h x.message (inl refl) t.1)
  | inr t ↦ subst (λ b. First s x xs b ≡ []) (sym t.0) (in_none s xs (λ m g. h m (inr g)))
]

pub in_apart : (s : ℕ) (xs ys : List Sent) → ((m : Message) → Among (messages ys) m → m.session ≢ s)
    → sent_in s (xs ++ ys) ≡ sent_in s xs
in_apart s xs ys apart = in_append s xs ys
    ∙ (ap (λ zs. sent_in s xs ++ zs) (in_none s ys apart) ∙ append-nil (sent_in s xs))

-- each has its place among those of the session
slice_in : (s : ℕ) (xs : List Sent) (i : ℕ) (x : Sent) → slice_get xs i ≡ Some x → x.message.session ≡ s
    → (q : ℕ) × (slice_get (sent_in s xs) q ≡ Some x)
slice_in s [] i x e own = cc
slice_in s (y ∷ ys) zero x e own =
    let is : y ≡ x = cc in
    elim (eqb_tells y.message.session s) [
      | inl t ↦ (0, ap (λ (b : Bool). slice_get (First s y ys b) 0) t.0 ∙ e)
      | inr t ↦ absurd (t.1 (ap (λ (z : Sent). z.message.session) is ∙ own))
    ]
slice_in s (y ∷ ys) (suc i) x e own = (let k = slice_in s ys i x e own in
    elim (y.message.session == s) as (λ b. (q : ℕ) × (slice_get (First s y ys b) q ≡ Some x)) [
      | true ↦
          (suc k.0, k.1)
      | false ↦ k
    ])

pub place_in : (s : ℕ) (xs : List Sent) (p : ℕ) (x : Sent) → nth xs p ≡ Some x → x.message.session ≡ s
    → (q : ℕ) × (nth (sent_in s xs) q ≡ Some x)
place_in s xs zero x e own = cc
place_in s xs (suc i) x e own = (let k = slice_in s xs i x e own in (suc k.0, k.1))
