-- What the objects of a frame owe as its grant moves: whoever gets it from another pays as it is told so.
use Rattle.std.proofs.Common.{◌≡◌, ◌≤◌, ◌+◌, ◌==◌, ℕ, Bool, true, false, List, [], ◌∷◌, ◌++◌, Option, Some, None, Ok}
use Rattle.std.proofs.Common.{Err, refl, arith, if◌then◌else◌, cond}
use Rattle.std.proofs.lemmas.Bool.{eqb-true}
use Rattle.object_state.specs.declared.grant_states.Claim.{Claim}
use Rattle.object_state.specs.declared.grant_states.Tools.{Tools}
use Rattle.object_state.specs.declared.grant_states.GrantState.{GrantState}
use Rattle.object_state.specs.declared.grant_states.GrantState.TheVariants.{Free, Granting, Held, Revoking}
use Rattle.object_state.specs.declared.grant_faults.GrantFault.{GrantFault}
use Rattle.object_state.specs.Grants.{Event, Ask, Granted, Revoked, Lost, table, asked_at_held, but_for, is_own}
use Rattle.object_state.specs.Grants.{is_another, passed_on, waiting}
use Rattle.object_state.specs.Frames.{kept}
use Rattle.container_model.specs.Grants.{passed_to}
use Rattle.container_model.specs.Room.{claim_debt, grant_debt}
use Rattle.container_steady.proofs.SteadyTells.{if_told}

-- ---- how often an object is told of a grant
abbrev pub told : List Claim → ℕ → ℕ
told [] n = 0
told (claim ∷ claims) n = cond (claim.object == n) 1 0 + told claims n

pub told-append : (xs ys : List Claim) (n : ℕ) → told (xs ++ ys) n ≡ told xs n + told ys n
told-append [] ys n = omega arith
told-append (x ∷ xs) ys n = (let h = told-append xs ys n in omega arith)

-- ---- what nobody pays, and what whoever waited pays
abbrev pub Pays : GrantState → GrantState → Type 0
Pays old next = (n : ℕ) → grant_debt n next + told (passed_to old next) n ≤ grant_debt n old

pays_nothing : (s : GrantState) → passed_to s s ≡ [] → Pays s s
pays_nothing s e n = rw e (omega arith)

stays_at : (s : GrantState) → passed_to s s ≡ []
stays_at Free = refl
stays_at (Granting c) = refl
stays_at (Held c tools) = refl
stays_at (Revoking c None) = refl
stays_at (Revoking c (Some next)) = refl

pub pays_stays : (s : GrantState) → Pays s s
pays_stays s = pays_nothing s (stays_at s)

pays_held : (c : Claim) (tools : Tools) → Pays (Granting c) (Held c tools)
pays_held c tools n = omega arith

pays_free : (s : GrantState) → Pays s Free
pays_free Free n = omega arith
pays_free (Granting c) n = omega arith
pays_free (Held c tools) n = omega arith
pays_free (Revoking c None) n = omega arith
pays_free (Revoking c (Some next)) n = omega arith

pays_on : (c : Claim) (next : Option Claim) → Pays (Revoking c next) (passed_on next)
pays_on c None n = omega arith
pays_on c (Some next) n = elim (next.object == n) as (λ b. (if b then 1 else 0) + (cond b 1 0 + 0)
    ≤ (if b then 2 else 0)) [ true ↦ omega arith | false ↦ omega arith ]

pays_but : (act : ℕ) (c : Claim) (next : Option Claim) → Pays (Revoking c next) (Revoking c (but_for act next))
pays_but act c None = pays_stays (Revoking c None)
pays_but act c (Some next) = if_told (λ (o : Option Claim). Pays (Revoking c (Some next)) (Revoking c o))
    (act == next.act) None (Some next) (λ t n. omega arith) (λ t. pays_stays (Revoking c (Some next)))

pays_if : (b : Bool) (old next : GrantState) (fault : GrantFault) → Pays old next
    → Pays old (kept old (if b then Ok next else Err fault))
pays_if true old next fault h = h
pays_if false old next fault h = pays_stays old

pays_either : (b : Bool) (old next other : GrantState) → Pays old next → Pays old other
    → Pays old (kept old (if b then Ok next else Ok other))
pays_either true old next other h k = h
pays_either false old next other h k = k

-- all but the events of an object that asks
abbrev pub IsToldOf : Event → Type 0
IsToldOf (Ask claim) = ⊥
IsToldOf e = Unit {0}

pub pays_told : (s : GrantState) (e : Event) → IsToldOf e → Pays s (kept s (table s e))
pays_told s (Ask claim) h = absurd h
pays_told Free (Granted g tools) h = pays_stays Free
pays_told Free (Revoked g) h = pays_stays Free
pays_told Free (Lost act) h = pays_stays Free
pays_told (Granting c) (Granted g tools) h = pays_if (g == c.g) (Granting c) (Held c tools) _ (pays_held c tools)
pays_told (Granting c) (Revoked g) h = pays_stays (Granting c)
pays_told (Granting c) (Lost act) h = pays_either (act == c.act) (Granting c) Free (Granting c)
    (pays_free (Granting c)) (pays_stays (Granting c))
pays_told (Held c tools) (Granted g t) h = pays_stays (Held c tools)
pays_told (Held c tools) (Revoked g) h = pays_stays (Held c tools)
pays_told (Held c tools) (Lost act) h = pays_either (act == c.act) (Held c tools) Free (Held c tools)
    (pays_free (Held c tools)) (pays_stays (Held c tools))
pays_told (Revoking c next) (Granted g tools) h = pays_stays (Revoking c next)
pays_told (Revoking c next) (Revoked g) h = pays_if (g == c.g) (Revoking c next) (passed_on next) _ (pays_on c next)
pays_told (Revoking c next) (Lost act) h = pays_either (act == c.act) (Revoking c next) (passed_on next)
    (Revoking c (but_for act next)) (pays_on c next) (pays_but act c next)

other_less : (c : Claim) (n calls most : ℕ) → (c.object ≡ n → ⊥) → claim_debt n calls (Some c) ≤ most
other_less c n calls most ne = if_told (λ (x : ℕ). x ≤ most) (c.object == n) calls 0
    (λ t. absurd (ne (eqb-true c.object n t))) (λ t. omega arith)

-- whoever is told of the frame waited for it
pub told_waits : (s t : GrantState) (n : ℕ) → Pays s t → ((c : Claim) → waiting s ≡ Some c → c.object ≡ n → ⊥)
    → told (passed_to s t) n ≡ 0
told_waits Free t n p h = refl
told_waits (Granting c) t n p h = refl
told_waits (Held c tools) t n p h = refl
told_waits (Revoking c None) t n p h = refl
told_waits (Revoking c (Some next)) t n p h =
    let most = p n in
    let none : claim_debt n 2 (Some next) ≤ 0 = other_less next n 2 0 (h next refl) in
    omega arith

-- ---- an object that asks may owe more, and nobody else
asks_held : (holder claim : Claim) (tools : Tools) (n : ℕ) → (claim.object ≡ n → ⊥)
    → grant_debt n (kept (Held holder tools) (asked_at_held holder claim)) ≤ grant_debt n (Held holder tools)
asks_held holder claim tools n ne =
    if_told (λ r. grant_debt n (kept (Held holder tools) r) ≤ grant_debt n (Held holder tools))
    (is_own holder claim) _ _
    (λ t. omega arith)
    (λ t. if_told (λ r. grant_debt n (kept (Held holder tools) r) ≤ grant_debt n (Held holder tools))
    (is_another holder claim) _ _
    (λ u. other_less claim n 2 (grant_debt n (Held holder tools)) ne)
    (λ u. omega arith))

pub asks_less : (s : GrantState) (claim : Claim) (n : ℕ) → (claim.object ≡ n → ⊥)
    → grant_debt n (kept s (table s (Ask claim))) ≤ grant_debt n s
asks_less Free claim n ne = other_less claim n 1 0 ne
asks_less (Granting c) claim n ne = omega arith
asks_less (Held c tools) claim n ne = asks_held c claim tools n ne
asks_less (Revoking c next) claim n ne = omega arith

-- ---- nobody owes much
claim_few : (n calls : ℕ) (c : Claim) → claim_debt n calls (Some c) ≤ calls
claim_few n calls c = if_told (λ (x : ℕ). x ≤ calls) (c.object == n) calls 0 (λ t. omega arith) (λ t. omega arith)

pub grant_few : (n : ℕ) (s : GrantState) → grant_debt n s ≤ 2
grant_few n Free = omega arith
grant_few n (Granting c) = (let h = claim_few n 1 c in omega arith)
grant_few n (Held c tools) = (let h = claim_few n 1 c in omega arith)
grant_few n (Revoking c None) = omega arith
grant_few n (Revoking c (Some next)) = claim_few n 2 next
