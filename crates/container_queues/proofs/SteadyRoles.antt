-- Parts in the grant of a frame: what queues and states say of them, and what operations make of them.
use Rattle.std.proofs.Common.{◌≡◌, ℕ, Bool, true, false, List, [], ◌∷◌, ◌++◌, Option, Some, None, Result, Ok, refl, sym}
use Rattle.std.proofs.Common.{ap, ◌∙◌, ◌==◌, if◌then◌else◌}
use Rattle.std.proofs.lemmas.Bool.{eqb-true}
use Rattle.std.specs.List.{AllByRecursion}
use Rattle.message_values.specs.Operations.{op_of}
use Rattle.message_values.specs.declared.operation.Operation.{Operation}
use Rattle.message_values.specs.declared.operation.Operation.TheVariants.{InitNew, Load, InPlace, UiActivate}
use Rattle.message_values.specs.declared.operation.Operation.TheVariants.{UiDeactivate, InPlaceDeactivate, OpenWindow}
use Rattle.message_values.specs.declared.operation.Operation.TheVariants.{Edit, Save, HandsOff, SaveCompleted}
use Rattle.message_values.specs.declared.operation.Operation.TheVariants.{SaveDropped, Close}
use Rattle.object_state.specs.Objects as object
use Rattle.object_state.specs.declared.operations.Op.TheVariants as op
use Rattle.object_state.specs.declared.faults.StateFault.{StateFault}
use Rattle.object_state.specs.declared.object_states.ObjectState.{ObjectState}
use Rattle.object_state.specs.declared.object_states.ObjectState.TheVariants.{Passive, Loaded, Running, InPlaceActive}
use Rattle.object_state.specs.declared.object_states.ObjectState.TheVariants.{UiActive, Open}
use Rattle.object_state.specs.declared.grant_states.Claim.{Claim}
use Rattle.object_state.specs.declared.grant_states.Tools.{Tools}
use Rattle.object_state.specs.declared.grant_states.GrantState.{GrantState}
use Rattle.object_state.specs.declared.grant_states.GrantState.TheVariants as state
use Rattle.object_state.specs.Grants.{waiting}
use Rattle.container_model.specs.Record.{is_claim}
use Rattle.container_queues.specs.Roles.{Role, Other, Getting, Holding, Giving, Waiting, IsShown, IsPlain, Plays}
use Rattle.container_queues.specs.Roles.{PlaysGetting, PlaysGiving, role_in, waits_as}
use Rattle.container_queues.proofs.SteadyLookups.{each_append}

if_both : {A : Type 0} (P : A → Type 0) (b : Bool) (x y : A) → (b ≡ true → P x) → (b ≡ false → P y)
    → P (if b then x else y)
if_both P true x y p q = p refl
if_both P false x y p q = q refl

-- a plain operation at the head of a queue goes
getting_pop : (g : ℕ) (op : Operation) (ops : List Operation) → IsPlain op → PlaysGetting g (op ∷ ops)
    → PlaysGetting g ops
getting_pop g (UiActivate h) ops p k = absurd p
getting_pop g _ ops p k = k.1

giving_pop : (op : Operation) (ops : List Operation) → IsPlain op → PlaysGiving (op ∷ ops) → PlaysGiving ops
giving_pop UiDeactivate ops p k = absurd p
giving_pop _ ops p k = k.1

pub plays_pop : (role : Role) (op : Operation) (ops : List Operation) → IsPlain op → Plays role (op ∷ ops)
    → Plays role ops
plays_pop Other op ops p k = k.1
plays_pop (Getting g) op ops p k = getting_pop g op ops p k
plays_pop (Holding g tools) op ops p k = k.1
plays_pop (Giving g) op ops p k = giving_pop op ops p k
plays_pop (Waiting g) op ops p k = k.1

-- plain operations at the end of a queue
getting_append : (g : ℕ) (ops : List Operation) (op : Operation) → IsPlain op → PlaysGetting g ops
    → PlaysGetting g (ops ++ op ∷ [])
getting_append g [] op p k = absurd k
getting_append g (UiActivate h ∷ ops) op p k = (k.0, each_append IsPlain ops op k.1 p)
getting_append g (_ ∷ ops) op p k = (k.0, getting_append g ops op p k.1)

giving_append : (ops : List Operation) (op : Operation) → IsPlain op → PlaysGiving ops → PlaysGiving (ops ++ op ∷ [])
giving_append [] op p k = absurd k
giving_append (UiDeactivate ∷ ops) op p k = each_append IsPlain ops op k p
giving_append (_ ∷ ops) op p k = (k.0, giving_append ops op p k.1)

pub plays_append : (role : Role) (ops : List Operation) (op : Operation) → IsPlain op → Plays role ops
    → Plays role (ops ++ op ∷ [])
plays_append Other ops op p k = each_append IsPlain ops op k p
plays_append (Getting g) ops op p k = getting_append g ops op p k
plays_append (Holding g tools) ops op p k = each_append IsPlain ops op k p
plays_append (Giving g) ops op p k = giving_append ops op p k
plays_append (Waiting g) ops op p k = each_append IsPlain ops op k p

-- an operation that takes the frame, or gives it up, behind plain ones
pub getting_last : (g : ℕ) (ops : List Operation) → AllByRecursion IsPlain ops
    → PlaysGetting g (ops ++ UiActivate g ∷ [])
getting_last g [] k = (refl, tt)
getting_last g (UiActivate h ∷ ops) k = absurd k.0
getting_last g (_ ∷ ops) k = (k.0, getting_last g ops k.1)

pub giving_last : (ops : List Operation) → AllByRecursion IsPlain ops → PlaysGiving (ops ++ UiDeactivate ∷ [])
giving_last [] k = tt
giving_last (UiDeactivate ∷ ops) k = absurd k.0
giving_last (_ ∷ ops) k = (k.0, giving_last ops k.1)

-- whose queue begins with taking the frame is to get it, and whose with giving it up, to give it up
pub getting_role : (role : Role) (h : ℕ) (ops : List Operation) → Plays role (UiActivate h ∷ ops)
    → (role ≡ Getting h) × AllByRecursion IsPlain ops
getting_role Other h ops k = absurd k.0
getting_role (Getting g) h ops k = (ap Getting (sym k.0), k.1)
getting_role (Holding g tools) h ops k = absurd k.0
getting_role (Giving g) h ops k = absurd k.0
getting_role (Waiting g) h ops k = absurd k.0

pub giving_role : (role : Role) (ops : List Operation) → Plays role (UiDeactivate ∷ ops)
    → (g : ℕ) × (role ≡ Giving g) × AllByRecursion IsPlain ops
giving_role Other ops k = absurd k.0
giving_role (Getting g) ops k = absurd k.0
giving_role (Holding g tools) ops k = absurd k.0
giving_role (Giving g) ops k = (g, refl, k)
giving_role (Waiting g) ops k = absurd k.0

-- what the frame's grant is then
pub record AtGranting (s : GrantState) (n g : ℕ) : Type 0 where
  pub claim : Claim
  pub is : s ≡ state.Granting claim
  pub named : claim.object ≡ n
  pub granted : claim.g ≡ g

pub record AtHeld (s : GrantState) (n : ℕ) : Type 0 where
  pub holder : Claim
  pub tools : Tools
  pub is : s ≡ state.Held holder tools
  pub named : holder.object ≡ n

pub record AtRevoking (s : GrantState) (n : ℕ) : Type 0 where
  pub holder : Claim
  pub next : Option Claim
  pub is : s ≡ state.Revoking holder next
  pub named : holder.object ≡ n

waits_other : (n : ℕ) (next : Option Claim) (P : Role → Type 0) → P Other → ((g : ℕ) → P (Waiting g))
    → P (waits_as n next)
waits_other n None P a b = a
waits_other n (Some claim) P a b = if_both P (claim.object == n) (Waiting claim.g) Other (λ t. b claim.g) (λ t. a)

pub getting_at : (s : GrantState) (n g : ℕ) → role_in s n ≡ Getting g → AtGranting s n g
getting_at state.Free n g e = cc
getting_at (state.Granting claim) n g e = if_both (λ (role : Role). role ≡ Getting g
    → AtGranting (state.Granting claim) n g) (claim.object == n) (Getting claim.g) Other
    (λ t q. record { claim = claim; is = refl; named = eqb-true claim.object n t; granted = cc }) (λ t q. cc) e
getting_at (state.Held holder tools) n g e =
    if_both (λ (role : Role). role ≡ Getting g → AtGranting (state.Held holder tools) n g) (holder.object == n)
    (Holding holder.g tools) Other (λ t q. cc) (λ t q. cc) e
getting_at (state.Revoking holder next) n g e =
    if_both (λ (role : Role). role ≡ Getting g → AtGranting (state.Revoking holder next) n g) (holder.object == n)
    (Giving holder.g) (waits_as n next)
    (λ t q. cc)
    (λ t q. waits_other n next (λ (role : Role). role ≡ Getting g → AtGranting (state.Revoking holder next) n g)
    (λ w. cc) (λ h w. cc) q) e

pub giving_at : (s : GrantState) (n g : ℕ) → role_in s n ≡ Giving g → AtRevoking s n
giving_at state.Free n g e = cc
giving_at (state.Granting claim) n g e = if_both (λ (role : Role). role ≡ Giving g
    → AtRevoking (state.Granting claim) n) (claim.object == n) (Getting claim.g) Other (λ t q. cc) (λ t q. cc) e
giving_at (state.Held holder tools) n g e =
    if_both (λ (role : Role). role ≡ Giving g → AtRevoking (state.Held holder tools) n) (holder.object == n)
    (Holding holder.g tools) Other (λ t q. cc) (λ t q. cc) e
giving_at (state.Revoking holder next) n g e =
    if_both (λ (role : Role). role ≡ Giving g → AtRevoking (state.Revoking holder next) n) (holder.object == n)
    (Giving holder.g) (waits_as n next)
    (λ t q. record { holder = holder; next = next; is = refl; named = eqb-true holder.object n t })
    (λ t q. waits_other n next (λ (role : Role). role ≡ Giving g → AtRevoking (state.Revoking holder next) n)
    (λ w. cc) (λ h w. cc) q) e

-- whoever waits for nothing and has nothing to do has the frame, or no part in its grant
pub data AtRest (s : GrantState) (n : ℕ) : Type 0 where
  holds : AtHeld s n → AtRest s n
  rests : role_in s n ≡ Other → AtRest s n

rests_as : (n : ℕ) (next : Option Claim) → is_claim n next ≡ false → waits_as n next ≡ Other
rests_as n None e = refl
rests_as n (Some claim) e = rw e refl

pub at_rest : (s : GrantState) (n : ℕ) → is_claim n (waiting s) ≡ false → Plays (role_in s n) [] → AtRest s n
at_rest state.Free n e k = rests refl
at_rest (state.Granting claim) n e k = elim (claim.object == n) as (λ b. (claim.object == n) ≡ b
    → Plays (if b then Getting claim.g else Other) [] → AtRest (state.Granting claim) n) [
      | true ↦ (λ t q. absurd q)
      | false ↦ (λ t q. rests (rw t refl))
    ] refl k
at_rest (state.Held holder tools) n e k = elim (holder.object == n) as (λ b. (holder.object == n) ≡ b
    → AtRest (state.Held holder tools) n) [
      | true ↦ (λ t. holds (record { holder = holder; tools = tools; is = refl; named = eqb-true holder.object n t }))
      | false ↦ (λ t. rests (rw t refl))
    ] refl
at_rest (state.Revoking holder next) n e k = elim (holder.object == n) as (λ b. (holder.object == n) ≡ b
    → Plays (if b then Giving holder.g else waits_as n next) [] → AtRest (state.Revoking holder next) n) [
      | true ↦ (λ t q. absurd q)
      | false ↦ (λ t q. rests (rw t (rests_as n next e)))
    ] refl k

-- active with menus and border, before and after an operation
abbrev pub is_ui : ObjectState → Bool
is_ui UiActive = true
is_ui s = false

pub ui_active : (s : ObjectState) → is_ui s ≡ true → s ≡ UiActive
ui_active UiActive e = refl
ui_active _ e = absurd (cc)

pub shown_as : (role : Role) (s t : ObjectState) → is_ui t ≡ is_ui s → IsShown role s → IsShown role t
shown_as Other s t e h = λ q. h (ui_active s (sym e ∙ ap is_ui q))
shown_as (Getting g) s t e h = λ q. h (ui_active s (sym e ∙ ap is_ui q))
shown_as (Holding g tools) s t e h = ui_active t (e ∙ ap is_ui h)
shown_as (Giving g) s t e h = ui_active t (e ∙ ap is_ui h)
shown_as (Waiting g) s t e h = λ q. h (ui_active s (sym e ∙ ap is_ui q))

reached : (s x t : ObjectState) → ◌≡◌ {A = Result ObjectState StateFault} (Ok x) (Ok t) → is_ui x ≡ is_ui s
    → is_ui t ≡ is_ui s
reached s x t e h = (let same : x ≡ t = cc in ap is_ui (sym same) ∙ h)

same_shown : (s t : ObjectState) → object.same_if_running s ≡ Ok t → is_ui t ≡ is_ui s
same_shown Passive t e = cc
same_shown Loaded t e = cc
same_shown Running t e = reached Running Running t e refl
same_shown InPlaceActive t e = reached InPlaceActive InPlaceActive t e refl
same_shown UiActive t e = reached UiActive UiActive t e refl
same_shown Open t e = reached Open Open t e refl

pub plain_shown : (o : Operation) (s t : ObjectState) → IsPlain o → object.table (op_of o) s ≡ Ok t → is_ui t ≡ is_ui s
plain_shown (InitNew class) Loaded t p e = reached Loaded Running t e refl
plain_shown (InitNew class) _ t p e = absurd (cc)
plain_shown (Load class content) Loaded t p e = reached Loaded Running t e refl
plain_shown (Load class content) _ t p e = absurd (cc)
plain_shown InPlace Running t p e = reached Running InPlaceActive t e refl
plain_shown InPlace _ t p e = absurd (cc)
plain_shown (UiActivate g) s t p e = absurd p
plain_shown UiDeactivate s t p e = absurd p
plain_shown InPlaceDeactivate InPlaceActive t p e = reached InPlaceActive Running t e refl
plain_shown InPlaceDeactivate Open t p e = reached Open Running t e refl
plain_shown InPlaceDeactivate _ t p e = absurd (cc)
plain_shown OpenWindow Running t p e = reached Running Open t e refl
plain_shown OpenWindow _ t p e = absurd (cc)
plain_shown (Close option) Running t p e = reached Running Passive t e refl
plain_shown (Close option) _ t p e = absurd (cc)
plain_shown (Edit bytes) s t p e = same_shown s t e
plain_shown (Save k) s t p e = same_shown s t e
plain_shown HandsOff s t p e = same_shown s t e
plain_shown (SaveCompleted k storage) s t p e = same_shown s t e
plain_shown (SaveDropped k) s t p e = same_shown s t e

pub activated : (g : ℕ) (s t : ObjectState) → object.table (op.UiActivate g) s ≡ Ok t → t ≡ UiActive
activated g InPlaceActive t e = (let same : UiActive ≡ t = cc in sym same)
activated g _ t e = absurd (cc)

pub deactivated : (s t : ObjectState) → object.table op.UiDeactivate s ≡ Ok t → (s ≡ UiActive) × (t ≡ InPlaceActive)
deactivated UiActive t e = (refl, let same : InPlaceActive ≡ t = cc in sym same)
deactivated _ t e = absurd (cc)
