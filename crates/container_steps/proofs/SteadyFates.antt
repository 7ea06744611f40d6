-- What the end of a server makes of the frames' grants.
use Rattle.std.proofs.Common.{◌≡◌, ℕ, Bool, true, false, List, [], ◌∷◌, Option, Some, None, refl, sym, ap, ◌∙◌, subst}
use Rattle.std.proofs.Common.{◌==◌, if◌then◌else◌, eq-eqb}
use Rattle.std.proofs.lemmas.Bool.{eqb-true, ne_eqb}
use Rattle.std.specs.Prelude.{IfSome}
use Rattle.message_values.specs.Found.{find}
use Rattle.object_state.specs.Frames.{Ui, after}
use Rattle.object_state.specs.Grants.{Lost, IsApart, waiting, who}
use Rattle.object_state.specs.declared.grant_states.Claim.{Claim}
use Rattle.object_state.specs.declared.grant_states.GrantState.{GrantState}
use Rattle.object_state.specs.declared.grant_states.GrantState.TheVariants as state
use Rattle.container_model.specs.declared.record.Object.{Object}
use Rattle.container_model.specs.Grants.{freed, is_hosted, is_hosted_object, lost_by, passed_to, unwaited}
use Rattle.container_model.specs.Record.{Record, is_object}
use Rattle.container_queues.specs.Roles.{IsClaim, Other, SteadyGrant, role_in, waits_as}

-- whether a claim's object is of the server
abbrev pub Hosted : ℕ → List Object → Claim → Bool
Hosted inc os c = is_hosted_object inc (find (is_object c.object) os)

-- A grant whose claims stay; that nobody has any more; that nobody waits for any more; that passes to whoever waited.
pub data Fate (inc : ℕ) (os : List Object) : GrantState → GrantState → List Claim → Type 0 where
  stays : {s : GrantState} → IfSome (who s) (λ (c : Claim). Hosted inc os c ≡ false)
      → IfSome (waiting s) (λ (c : Claim). Hosted inc os c ≡ false) → Fate inc os s s []
  ends : {s : GrantState} → IfSome (who s) (λ (c : Claim). Hosted inc os c ≡ true)
      → IfSome (waiting s) (λ (c : Claim). Hosted inc os c ≡ true) → Fate inc os s state.Free []
  unwaits : {h w : Claim} → Hosted inc os h ≡ false → Hosted inc os w ≡ true
      → Fate inc os (state.Revoking h (Some w)) (state.Revoking h None) []
  passes : {h w : Claim} → Hosted inc os h ≡ true → Hosted inc os w ≡ false
      → Fate inc os (state.Revoking h (Some w)) (state.Granting w) (w ∷ [])

abbrev ui_of : ℕ → ℕ → GrantState → Ui
ui_of a b s = record { width = a; height = b; state = s }

module _ (inc : ℕ) (os : List Object) (a b : ℕ) where
  fate_at : (s : GrantState) → IsApart s → Fate inc os s (freed inc os (ui_of a b s)).state
      (passed_to (unwaited inc os (ui_of a b s)).state (freed inc os (ui_of a b s)).state)
  fate_at state.Free x = stays tt tt
  fate_at (state.Granting c) x = elim (Hosted inc os c) as (λ z. Hosted inc os c ≡ z
      → Fate inc os (state.Granting c) (if z then after (ui_of a b (state.Granting c)) (Lost c.act)
      else ui_of a b (state.Granting c)).state []) [
        | true ↦ (λ t. rw (eq-eqb c.act c.act refl) (ends t tt))
        | false ↦ (λ t. stays t tt)
      ] refl
  fate_at (state.Held c tools) x = elim (Hosted inc os c) as (λ z. Hosted inc os c ≡ z
      → Fate inc os (state.Held c tools) (if z then after (ui_of a b (state.Held c tools)) (Lost c.act)
      else ui_of a b (state.Held c tools)).state []) [
        | true ↦ (λ t. rw (eq-eqb c.act c.act refl) (ends t tt))
        | false ↦ (λ t. stays t tt)
      ] refl
  fate_at (state.Revoking c None) x = elim (Hosted inc os c) as (λ z. Hosted inc os c ≡ z
      → Fate inc os (state.Revoking c None) (if z then after (ui_of a b (state.Revoking c None)) (Lost c.act)
      else ui_of a b (state.Revoking c None)).state
      (passed_to (state.Revoking c None) (if z then after (ui_of a b (state.Revoking c None)) (Lost c.act)
      else ui_of a b (state.Revoking c None)).state)) [
        | true ↦ (λ t. rw (eq-eqb c.act c.act refl) (ends t tt))
        | false ↦ (λ t. stays t tt)
      ] refl
  fate_at (state.Revoking c (Some w)) x =
      let u : Ui = ui_of a b (state.Revoking c (Some w)) in
      elim (Hosted inc os w) as (λ y. Hosted inc os w ≡ y
      → Fate inc os (state.Revoking c (Some w))
      (lost_by inc os (if y then after u (Lost w.act) else u) (Some c)).state
      (passed_to (if y then after u (Lost w.act) else u).state
      (lost_by inc os (if y then after u (Lost w.act) else u) (Some c)).state)) [
        | true ↦ (λ t. let gone : after u (Lost w.act) ≡ ui_of a b (state.Revoking c None) =
            rw (ne_eqb w.act c.act x.1, eq-eqb w.act w.act refl) refl in
            subst (λ (v : Ui). Fate inc os (state.Revoking c (Some w)) (lost_by inc os v (Some c)).state
            (passed_to v.state (lost_by inc os v (Some c)).state)) (sym gone)
            (elim (Hosted inc os c) as (λ z. Hosted inc os c ≡ z
            → Fate inc os (state.Revoking c (Some w))
            (if z then after (ui_of a b (state.Revoking c None)) (Lost c.act)
            else ui_of a b (state.Revoking c None)).state
            (passed_to (state.Revoking c None) (if z then after (ui_of a b (state.Revoking c None)) (Lost c.act)
            else ui_of a b (state.Revoking c None)).state)) [
              | true ↦ (λ q. rw (eq-eqb c.act c.act refl) (ends q t))
              | false ↦ (λ q. unwaits q t)
            ] refl))
        | false ↦
            (λ t. elim (Hosted inc os c) as (λ z. Hosted inc os c ≡ z
            → Fate inc os (state.Revoking c (Some w)) (if z then after u (Lost c.act) else u).state
            (passed_to (state.Revoking c (Some w)) (if z then after u (Lost c.act) else u).state)) [
              | true ↦ (λ q. rw (eq-eqb c.act c.act refl) (passes q t))
              | false ↦ (λ q. stays q t)
            ] refl)
      ] refl

pub fate : (inc : ℕ) (os : List Object) (ui : Ui) → IsApart ui.state
    → Fate inc os ui.state (freed inc os ui).state (passed_to (unwaited inc os ui).state (freed inc os ui).state)
fate inc os ui x = fate_at inc os ui.width ui.height ui.state x

-- an object that stays isn't one that has gone
pub hosted_apart : (inc : ℕ) (os : List Object) (c : Claim) (o : Object) → Hosted inc os c ≡ true
    → find (is_object o.number) os ≡ Some o → is_hosted inc o.link ≡ false → c.object ≡ o.number → ⊥
hosted_apart inc os c o h found still e =
    let gone : is_hosted inc o.link ≡ true =
    sym (ap (is_hosted_object inc) (ap (λ (n : ℕ). find (is_object n) os) e ∙ found)) ∙ h in
    let no = sym gone ∙ still in
    cc

-- whose part is another then: whoever waited and is granted now
pub data NewPart (s t : GrantState) (n : ℕ) (cs : List Claim) : Type 0 where
  keeps_part : role_in t n ≡ role_in s n → NewPart s t n cs
  granted_part : (w : Claim) → cs ≡ w ∷ [] → w.object ≡ n → NewPart s t n cs

ends_waits : (inc : ℕ) (os : List Object) (next : Option Claim) (o : Object)
    → IfSome next (λ (c : Claim). Hosted inc os c ≡ true) → find (is_object o.number) os ≡ Some o
    → is_hosted inc o.link ≡ false → waits_as o.number next ≡ Other
ends_waits inc os None o h found still = refl
ends_waits inc os (Some w) o h found still = rw (ne_eqb w.object o.number (hosted_apart inc os w o h found still)) refl

ends_out : (inc : ℕ) (os : List Object) (s : GrantState) (o : Object)
    → IfSome (who s) (λ (c : Claim). Hosted inc os c ≡ true)
    → IfSome (waiting s) (λ (c : Claim). Hosted inc os c ≡ true) → find (is_object o.number) os ≡ Some o
    → is_hosted inc o.link ≡ false → role_in s o.number ≡ Other
ends_out inc os state.Free o h w found still = refl
ends_out inc os (state.Granting c) o h w found still =
    rw (ne_eqb c.object o.number (hosted_apart inc os c o h found still)) refl
ends_out inc os (state.Held c tools) o h w found still =
    rw (ne_eqb c.object o.number (hosted_apart inc os c o h found still)) refl
ends_out inc os (state.Revoking c next) o h w found still =
    rw (ne_eqb c.object o.number (hosted_apart inc os c o h found still)) (ends_waits inc os next o w found still)

pub part_after : (inc : ℕ) (os : List Object) (s t : GrantState) (cs : List Claim) (o : Object) → Fate inc os s t cs
    → find (is_object o.number) os ≡ Some o → is_hosted inc o.link ≡ false → NewPart s t o.number cs
part_after inc os s t cs o (stays h w) found still = keeps_part refl
part_after inc os s t cs o (ends h w) found still = keeps_part (sym (ends_out inc os s o h w found still))
part_after inc os s t cs o (unwaits {h = c} {w = d} h w) found still =
    keeps_part (rw (ne_eqb d.object o.number (hosted_apart inc os d o w found still)) refl)
part_after inc os s t cs o (passes {h = c} {w = d} h w) found still =
    elim (d.object == o.number) as (λ b. (d.object == o.number) ≡ b
    → NewPart (state.Revoking c (Some d)) (state.Granting d) o.number (d ∷ [])) [
      | true ↦ (λ e. granted_part d refl (eqb-true d.object o.number e))
      | false ↦ (λ e. keeps_part (rw (ne_eqb c.object o.number (hosted_apart inc os c o h found still), e) refl))
    ] refl

-- the claims of a grant then
kept_claim : (r u : Record) (f inc : ℕ) (o : Option Claim)
    → ((c : Claim) → Hosted inc r.objects c ≡ false → IsClaim r f c → IsClaim u f c)
    → IfSome o (λ (c : Claim). Hosted inc r.objects c ≡ false) → IfSome o (IsClaim r f) → IfSome o (IsClaim u f)
kept_claim r u f inc None k a b = tt
kept_claim r u f inc (Some c) k a b = k c a b

pub grant_after : (r u : Record) (f inc : ℕ) (s t : GrantState) (cs : List Claim) → Fate inc r.objects s t cs
    → ((c : Claim) → Hosted inc r.objects c ≡ false → IsClaim r f c → IsClaim u f c) → SteadyGrant r f s
    → SteadyGrant u f t
grant_after r u f inc s t cs (stays h w) k g = record {
  apart = g.apart;
  holder = kept_claim r u f inc (who s) k h g.holder;
  next = kept_claim r u f inc (waiting s) k w g.next;
}
grant_after r u f inc s t cs (ends h w) k g = record { apart = tt; holder = tt; next = tt }
grant_after r u f inc s t cs (unwaits {h = c} {w = d} h w) k g =
    record { apart = tt; holder = k c h g.holder; next = tt }
grant_after r u f inc s t cs (passes {h = c} {w = d} h w) k g = record { apart = tt; holder = k d w g.next; next = tt }
