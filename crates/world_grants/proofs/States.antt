-- How a frame's grant moves: who is named, and who holds it.
use Rattle.std.proofs.Common.{◌≡◌, ◌==◌, ℕ, Bool, true, false, List, Option, Some, None, Ok, Err, refl, sym, ap, ◌∙◌}
use Rattle.std.proofs.Common.{inl, inr, subst, if◌then◌else◌, eq-eqb}
use Rattle.std.proofs.lemmas.Bool.{eqb-true, ne_eqb}
use Rattle.message_values.specs.Found.{find}
use Rattle.object_state.specs.declared.grant_states.Claim.{Claim}
use Rattle.object_state.specs.declared.grant_states.Tools.{Tools}
use Rattle.object_state.specs.declared.grant_states.GrantState.{GrantState}
use Rattle.object_state.specs.declared.grant_states.GrantState.TheVariants.{Free, Granting, Held, Revoking}
use Rattle.object_state.specs.declared.grant_faults.GrantFault.TheVariants.{Busy, NotHolder}
use Rattle.object_state.specs.Grants.{Ask, Granted, Revoked, Lost, table, who, passed_on, but_for, is_own, is_another}
use Rattle.object_state.specs.Grants.{IsApart}
use Rattle.object_state.specs.Frames.{Ui, kept, after}
use Rattle.container_model.specs.declared.record.Object.{Object}
use Rattle.container_model.specs.Record.{is_object}
use Rattle.container_model.specs.Grants.{is_hosted_object, lost_by, unwaited, freed}
use Rattle.container_queues.specs.Roles.{Other, Getting, Holding, Giving, Waiting, role_in, waits_as}
use Rattle.world_grants.specs.Grants.{Names, Moves, NoClaim, NoTools}

-- it stays
pub same : (s : GrantState) → Moves NoClaim NoTools s s
same s = record { kept = λ c e. inl e; held = λ c tools e. inl e }

pub weaker : (Gone : Claim → Type 0) (New : Claim → Tools → Type 0) (s u : GrantState) → Moves NoClaim NoTools s u
    → Moves Gone New s u
weaker Gone New s u h = record {
  kept = λ c e. elim (h.kept c e) [ inl k ↦ inl k | inr z ↦ absurd z ];
  held = λ c tools e. elim (h.held c tools e) [ inl k ↦ inl k | inr z ↦ absurd z ];
}

-- an object asks for the frame, or offers it back
asked_held : (holder claim : Claim) (tools : Tools) (a b : Bool)
    → Moves NoClaim NoTools (Held holder tools)
    (kept (Held holder tools) (if a then Ok (Revoking holder None) else if b
    then Ok (Revoking holder (Some claim)) else Err Busy))
asked_held holder claim tools true b = record { kept = λ c e. inl e; held = λ c t e. cc }
asked_held holder claim tools false true = record { kept = λ c e. inl e; held = λ c t e. cc }
asked_held holder claim tools false false = same (Held holder tools)

pub asked : (s : GrantState) (claim : Claim) → Moves NoClaim NoTools s (kept s (table s (Ask claim)))
asked Free claim = record { kept = λ c e. cc; held = λ c tools e. cc }
asked (Granting h) claim = same (Granting h)
asked (Held holder tools) claim = asked_held holder claim tools (is_own holder claim) (is_another holder claim)
asked (Revoking holder next) claim = same (Revoking holder next)

-- it answers that it has it
abbrev pub IsGetting : GrantState → ℕ → Tools → Claim → Tools → Type 0
IsGetting s g tools c t = (s ≡ Granting c) × (c.g ≡ g) × (t ≡ tools)

granting : (claim : Claim) (g : ℕ) (tools : Tools) (b : Bool) → (g == claim.g) ≡ b
    → Moves NoClaim (IsGetting (Granting claim) g tools) (Granting claim)
    (kept (Granting claim) (if b then Ok (Held claim tools) else Err NotHolder))
granting claim g tools true e = record {
  kept = λ c k. inl k;
  held = λ c t k. (let same_claim : claim ≡ c = cc in let same_tools : tools ≡ t = cc in
      inr (
        ap Granting same_claim,
        (ap (λ (x : Claim). x.g) (sym same_claim) ∙ sym (eqb-true g claim.g e)),
        sym same_tools,
      ));
}
granting claim g tools false e = weaker NoClaim (IsGetting (Granting claim) g tools) (Granting claim)
    (Granting claim) (same (Granting claim))

pub granted : (s : GrantState) (g : ℕ) (tools : Tools)
    → Moves NoClaim (IsGetting s g tools) s (kept s (table s (Granted g tools)))
granted Free g tools = weaker NoClaim (IsGetting Free g tools) Free Free (same Free)
granted (Granting claim) g tools = granting claim g tools (g == claim.g) refl
granted (Held holder t) g tools = weaker NoClaim (IsGetting (Held holder t) g tools) (Held holder t) (Held holder t)
    (same (Held holder t))
granted (Revoking holder next) g tools = weaker NoClaim (IsGetting (Revoking holder next) g tools)
    (Revoking holder next) (Revoking holder next) (same (Revoking holder next))

-- it answers that it has given it up
abbrev pub IsGiving : GrantState → Claim → Type 0
IsGiving s c = (next : Option Claim) × (s ≡ Revoking c next)

not_held : (next : Option Claim) (c : Claim) (tools : Tools) → passed_on next ≡ Held c tools → ⊥
not_held None c tools e = cc
not_held (Some claim) c tools e = cc

holder_is : (holder c : Claim) (next : Option Claim) → who (Revoking holder next) ≡ Some c → holder ≡ c
holder_is holder c next e = cc

giving : (holder : Claim) (next : Option Claim) (b : Bool)
    → Moves (IsGiving (Revoking holder next)) NoTools (Revoking holder next)
    (kept (Revoking holder next) (if b then Ok (passed_on next) else Err NotHolder))
giving holder next true = record {
  kept = λ c k. inr (next, ap (λ x. Revoking x next) (holder_is holder c next k));
  held = λ c tools k. absurd (not_held next c tools k);
}
giving holder next false = weaker (IsGiving (Revoking holder next)) NoTools (Revoking holder next)
    (Revoking holder next) (same (Revoking holder next))

pub revoked : (s : GrantState) (g : ℕ) → Moves (IsGiving s) NoTools s (kept s (table s (Revoked g)))
revoked Free g = weaker (IsGiving Free) NoTools Free Free (same Free)
revoked (Granting claim) g = weaker (IsGiving (Granting claim)) NoTools (Granting claim) (Granting claim)
    (same (Granting claim))
revoked (Held holder t) g = weaker (IsGiving (Held holder t)) NoTools (Held holder t) (Held holder t)
    (same (Held holder t))
revoked (Revoking holder next) g = giving holder next (g == holder.g)

-- A server ended: whoever of its objects waits is forgotten, and what they have is free.
module _ (inc : ℕ) (os : List Object) where
  abbrev pub IsHosted : Claim → Type 0
  IsHosted c = is_hosted_object inc (find (is_object c.object) os) ≡ true

  unwaited_revoking : (width height : ℕ) (holder : Claim) (next : Option Claim) → IsApart (Revoking holder next)
      → (rest : Option Claim)
      × ((unwaited inc os (record { width = width; height = height; state = Revoking holder next })).state
      ≡ Revoking holder rest)
  unwaited_revoking width height holder None apart = (None, refl)
  unwaited_revoking width height holder (Some next) apart = at (is_hosted_object inc (find (is_object next.object) os))
    where
      ui : Ui
      ui = record { width = width; height = height; state = Revoking holder (Some next) }

      at : (b : Bool) → (rest : Option Claim)
          × ((if b then after ui (Lost next.act) else ui).state ≡ Revoking holder rest)
      at true = (
        but_for next.act (Some next),
        (let ne : (next.act == holder.act) ≡ false = ne_eqb next.act holder.act apart.1 in
            ap (λ b. kept (Revoking holder (Some next)) (if b then Ok (passed_on (Some next))
            else Ok (Revoking holder (but_for next.act (Some next))))) ne),
      )
      at false = (Some next, refl)

  freed_revoking : (ui : Ui) (holder : Claim) (next rest : Option Claim) → ui.state ≡ Revoking holder rest
      → Moves IsHosted NoTools (Revoking holder next) (lost_by inc os ui (Some holder)).state
  freed_revoking ui holder next rest e = at (is_hosted_object inc (find (is_object holder.object) os)) refl
    where
      at : (b : Bool) → is_hosted_object inc (find (is_object holder.object) os) ≡ b
          → Moves IsHosted NoTools (Revoking holder next) (if b then after ui (Lost holder.act) else ui).state
      at true h = record {
        kept = λ c k. inr (ap (λ (x : Claim). is_hosted_object inc (find (is_object x.object) os))
            (sym (holder_is holder c next k)) ∙ h);
        held = λ c tools k. absurd (gone c tools (holder.act == holder.act)
            (ap (λ s. kept s (table s (Lost holder.act))) (sym e) ∙ k));
      }
        where
          gone : (c : Claim) (tools : Tools) (b : Bool)
              → kept (Revoking holder rest) (if b then Ok (passed_on rest)
              else Ok (Revoking holder (but_for holder.act rest))) ≡ Held c tools → ⊥
          gone c tools true g = not_held rest c tools g
          gone c tools false g = cc
      at false h = record {
        kept = λ c k. inl (ap who e ∙ k);
        held = λ c tools k. (let z : Revoking holder rest ≡ Held c tools = sym e ∙ k in cc);
      }

  freed_at : (width height : ℕ) (s : GrantState) → IsApart s
      → Moves IsHosted NoTools s (freed inc os (record { width = width; height = height; state = s })).state
  freed_at width height Free apart = weaker IsHosted NoTools Free Free (same Free)
  freed_at width height (Granting claim) apart = at (is_hosted_object inc (find (is_object claim.object) os)) refl
    where
      ui : Ui
      ui = record { width = width; height = height; state = Granting claim }

      at : (b : Bool) → is_hosted_object inc (find (is_object claim.object) os) ≡ b
          → Moves IsHosted NoTools (Granting claim) (if b then after ui (Lost claim.act) else ui).state
      at true h = record {
        kept = λ c k. inr (let is : claim ≡ c = cc in
            ap (λ (x : Claim). is_hosted_object inc (find (is_object x.object) os)) (sym is) ∙ h);
        held = λ c tools k. absurd (gone c tools (claim.act == claim.act) k);
      }
        where
          gone : (c : Claim) (tools : Tools) (b : Bool)
              → kept (Granting claim) (if b then Ok Free else Ok (Granting claim)) ≡ Held c tools → ⊥
          gone c tools true g = cc
          gone c tools false g = cc
      at false h = weaker IsHosted NoTools (Granting claim) (Granting claim) (same (Granting claim))
  freed_at width height (Held holder t) apart = at (is_hosted_object inc (find (is_object holder.object) os)) refl
    where
      ui : Ui
      ui = record { width = width; height = height; state = Held holder t }

      at : (b : Bool) → is_hosted_object inc (find (is_object holder.object) os) ≡ b
          → Moves IsHosted NoTools (Held holder t) (if b then after ui (Lost holder.act) else ui).state
      at true h = record {
        kept = λ c k. inr (let is : holder ≡ c = cc in
            ap (λ (x : Claim). is_hosted_object inc (find (is_object x.object) os)) (sym is) ∙ h);
        held = λ c tools k. inl (stays c tools (holder.act == holder.act) k);
      }
        where
          stays : (c : Claim) (tools : Tools) (b : Bool)
              → kept (Held holder t) (if b then Ok Free else Ok (Held holder t)) ≡ Held c tools
              → Held holder t ≡ Held c tools
          stays c tools true g = cc
          stays c tools false g = g
      at false h = weaker IsHosted NoTools (Held holder t) (Held holder t) (same (Held holder t))
  freed_at width height (Revoking holder next) apart = (let u = unwaited_revoking width height holder next apart in
      freed_revoking (unwaited inc os (record { width = width; height = height; state = Revoking holder next }))
      holder next u.0 u.1)

  pub freed_moves : (ui : Ui) → IsApart ui.state → Moves IsHosted NoTools ui.state (freed inc os ui).state
  freed_moves ui apart = freed_at ui.width ui.height ui.state apart

-- who is named, and who holds the frame, by the object's number
pub named_is : (s : GrantState) (n g : ℕ) → Names (role_in s n) g → (c : Claim) × (who s ≡ Some c) × (c.object ≡ n)
    × (c.g ≡ g)
named_is Free n g h = absurd h
named_is (Granting claim) n g h = at (claim.object == n) refl h
  where
    at : (b : Bool) → (claim.object == n) ≡ b → Names (if b then Getting claim.g else Other) g
        → (c : Claim) × (who (Granting claim) ≡ Some c) × (c.object ≡ n) × (c.g ≡ g)
    at true e k = (claim, refl, eqb-true claim.object n e, k)
    at false e k = absurd k
named_is (Held holder tools) n g h = at (holder.object == n) refl h
  where
    at : (b : Bool) → (holder.object == n) ≡ b → Names (if b then Holding holder.g tools else Other) g
        → (c : Claim) × (who (Held holder tools) ≡ Some c) × (c.object ≡ n) × (c.g ≡ g)
    at true e k = (holder, refl, eqb-true holder.object n e, k)
    at false e k = absurd k
named_is (Revoking holder next) n g h = at (holder.object == n) refl h
  where
    waits_not : (x : Option Claim) → Names (waits_as n x) g → ⊥
    waits_not None k = k
    waits_not (Some x) k =
        (elim (x.object == n) as (λ b. Names (if b then Waiting x.g else Other) g → ⊥) [
          | true ↦ (λ z. z)
          | false ↦
              (λ z. z)
        ]) k

    at : (b : Bool) → (holder.object == n) ≡ b → Names (if b then Giving holder.g else waits_as n next) g
        → (c : Claim) × (who (Revoking holder next) ≡ Some c) × (c.object ≡ n) × (c.g ≡ g)
    at true e k = (holder, refl, eqb-true holder.object n e, k)
    at false e k = absurd (waits_not next k)

pub is_named : (s : GrantState) (c : Claim) → who s ≡ Some c → Names (role_in s c.object) c.g
is_named Free c e = cc
is_named (Granting claim) c e =
    (let is : claim ≡ c = cc in
    subst (λ (x : Claim). Names (if claim.object == x.object then Getting claim.g else Other) x.g) is (at claim))
  where
    at : (x : Claim) → Names (if x.object == x.object then Getting x.g else Other) x.g
    at x = rw (eq-eqb x.object x.object refl) refl
is_named (Held holder tools) c e =
    (let is : holder ≡ c = cc in
    subst (λ (x : Claim). Names (if holder.object == x.object then Holding holder.g tools else Other) x.g) is
    (at holder))
  where
    at : (x : Claim) → Names (if x.object == x.object then Holding x.g tools else Other) x.g
    at x = rw (eq-eqb x.object x.object refl) refl
is_named (Revoking holder next) c e =
    (let is : holder ≡ c = cc in
    subst (λ (x : Claim). Names (if holder.object == x.object then Giving holder.g else waits_as x.object next) x.g)
    is (at holder))
  where
    at : (x : Claim) → Names (if x.object == x.object then Giving x.g else waits_as x.object next) x.g
    at x = rw (eq-eqb x.object x.object refl) refl

pub holding_is : (s : GrantState) (n g : ℕ) (tools : Tools) → role_in s n ≡ Holding g tools → (c : Claim)
    × (s ≡ Held c tools) × (c.object ≡ n) × (c.g ≡ g)
holding_is Free n g tools e = cc
holding_is (Granting claim) n g tools e = at (claim.object == n) e
  where
    at : (b : Bool) → (if b then Getting claim.g else Other) ≡ Holding g tools → (c : Claim)
        × (Granting claim ≡ Held c tools) × (c.object ≡ n) × (c.g ≡ g)
    at true k = cc
    at false k = cc
holding_is (Held holder t) n g tools e = at (holder.object == n) refl e
  where
    at : (b : Bool) → (holder.object == n) ≡ b → (if b then Holding holder.g t else Other) ≡ Holding g tools
        → (c : Claim) × (Held holder t ≡ Held c tools) × (c.object ≡ n) × (c.g ≡ g)
    at true q k = (let same_g : holder.g ≡ g = cc in let same_t : t ≡ tools = cc in
        (holder, ap (Held holder) same_t, eqb-true holder.object n q, same_g))
    at false q k = cc
holding_is (Revoking holder next) n g tools e = absurd (at (holder.object == n) e)
  where
    waits_not : (x : Option Claim) → waits_as n x ≡ Holding g tools → ⊥
    waits_not None k = cc
    waits_not (Some x) k =
        (elim (x.object == n) as (λ b. (if b then Waiting x.g else Other) ≡ Holding g tools
        → ⊥) [ true ↦ (λ z. cc) | false ↦ (λ z. cc) ]) k

    at : (b : Bool) → (if b then Giving holder.g else waits_as n next) ≡ Holding g tools → ⊥
    at true k = cc
    at false k = waits_not next k

pub is_holding : (c : Claim) (tools : Tools) → role_in (Held c tools) c.object ≡ Holding c.g tools
is_holding c tools = rw (eq-eqb c.object c.object refl) refl
