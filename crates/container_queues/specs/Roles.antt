-- The parts that objects have in the grant of their frame's menus and border.
use Rattle.std.specs.Prelude.{◌≡◌, ◌≢◌, ◌≤◌, ◌==◌, ℕ, List, [], ◌∷◌, Option, Some, None, IfSome, if◌then◌else◌}
use Rattle.std.specs.List.{AllByRecursion}
use Rattle.message_values.specs.Found.{find}
use Rattle.message_values.specs.declared.operation.Operation.{Operation}
use Rattle.message_values.specs.declared.operation.Operation.TheVariants.{UiActivate, UiDeactivate}
use Rattle.object_state.specs.declared.object_states.ObjectState.{ObjectState}
use Rattle.object_state.specs.declared.object_states.ObjectState.TheVariants.{UiActive}
use Rattle.object_state.specs.declared.grant_states.Claim.{Claim}
use Rattle.object_state.specs.declared.grant_states.Tools.{Tools}
use Rattle.object_state.specs.declared.grant_states.GrantState.{GrantState}
use Rattle.object_state.specs.declared.grant_states.GrantState.TheVariants as state
use Rattle.object_state.specs.Grants.{IsApart, waiting, who}
use Rattle.container_model.specs.declared.record.Link.{Link}
use Rattle.container_model.specs.declared.record.Object.{Object}
use Rattle.container_model.specs.Record.{Record, is_object}

-- what an object is still to do: the pending operation, then those that wait
abbrev pub queue_of : Option Operation → List Operation → List Operation
queue_of None waiting = waiting
queue_of (Some op) waiting = op ∷ waiting

abbrev pub queue : Link → List Operation
queue l = queue_of l.pending l.waiting

-- An object is to get its frame, under this grant; has it, with these tools; is to give it up; or waits for it. Or none
-- of these.
pub data Role : Type 0 where
  Other : Role
  Getting : ℕ → Role
  Holding : ℕ → Tools → Role
  Giving : ℕ → Role
  Waiting : ℕ → Role

abbrev pub waits_as : ℕ → Option Claim → Role
waits_as number None = Other
waits_as number (Some claim) = if claim.object == number then Waiting claim.g else Other

abbrev pub role_in : GrantState → ℕ → Role
role_in state.Free number = Other
role_in (state.Granting claim) number = if claim.object == number then Getting claim.g else Other
role_in (state.Held holder tools) number = if holder.object == number then Holding holder.g tools else Other
role_in (state.Revoking holder next) number = if holder.object == number then Giving holder.g else waits_as number next

-- whoever has the frame, and nobody else, is active with its menus and border
abbrev pub IsShown : Role → ObjectState → Type 0
IsShown (Holding g tools) object = object ≡ UiActive
IsShown (Giving g) object = object ≡ UiActive
IsShown role object = object ≢ UiActive

-- an operation that neither takes the frame nor gives it up
abbrev pub IsPlain : Operation → Type 0
IsPlain (UiActivate g) = ⊥
IsPlain UiDeactivate = ⊥
IsPlain op = Unit {0}

-- In the queue of whoever is to get the frame stands that it does, under its grant, and in that of whoever is to give
-- it up stands that it does; once each. In no other queue stands either.
abbrev pub PlaysGetting : ℕ → List Operation → Type 0
PlaysGetting g [] = ⊥
PlaysGetting g (UiActivate h ∷ ops) = (h ≡ g) × AllByRecursion IsPlain ops
PlaysGetting g (op ∷ ops) = IsPlain op × PlaysGetting g ops

abbrev pub PlaysGiving : List Operation → Type 0
PlaysGiving [] = ⊥
PlaysGiving (UiDeactivate ∷ ops) = AllByRecursion IsPlain ops
PlaysGiving (op ∷ ops) = IsPlain op × PlaysGiving ops

abbrev pub Plays : Role → List Operation → Type 0
Plays (Getting g) ops = PlaysGetting g ops
Plays (Giving g) ops = PlaysGiving ops
Plays role ops = AllByRecursion IsPlain ops

-- a claim is of an object of the frame, by its activation, under a grant that was drawn
pub record IsClaim (r : Record) (f : ℕ) (claim : Claim) : Type 0 where
  pub object : Object
  pub link : Link
  pub found : find (is_object claim.object) r.objects ≡ Some object
  pub inside : object.frame ≡ f
  pub linked : object.link ≡ Some link
  pub act : link.act ≡ claim.act
  pub drawn : claim.g ≤ r.last_g

-- a frame's grant: who has it or is to get it, and who waits for it, which is another object
pub record SteadyGrant (r : Record) (f : ℕ) (grant : GrantState) : Type 0 where
  pub apart : IsApart grant
  pub holder : IfSome (who grant) (IsClaim r f)
  pub next : IfSome (waiting grant) (IsClaim r f)
