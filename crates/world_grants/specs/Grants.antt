-- The facts about who has a frame's menus and border: what an activation has, what its object's frame names, and what
-- was answered to it.
use Rattle.std.specs.Prelude.{◌≡◌, ◌⊎◌, ℕ, List, Option, Some, None}
use Rattle.message_values.specs.Found.{find, nth}
use Rattle.message_values.specs.declared.message.Said.{Said}
use Rattle.message_values.specs.declared.message.Said.TheVariants.{Call, Reply}
use Rattle.message_values.specs.declared.operation.Operation.{Operation}
use Rattle.message_values.specs.declared.operation.Operation.TheVariants.{UiActivate, UiDeactivate}
use Rattle.message_values.specs.declared.answer.Answer.{Answer}
use Rattle.message_values.specs.declared.answer.Answer.TheVariants as told
use Rattle.object_state.specs.declared.object_states.ObjectState.TheVariants.{UiActive}
use Rattle.object_state.specs.declared.grant_states.Claim.{Claim}
use Rattle.object_state.specs.declared.grant_states.Tools.{Tools}
use Rattle.object_state.specs.declared.grant_states.GrantState.{GrantState}
use Rattle.object_state.specs.declared.grant_states.GrantState.TheVariants.{Held}
use Rattle.object_state.specs.Grants.{who}
use Rattle.server_model.specs.Server.{Activation}
use Rattle.container_model.specs.declared.record.Link.{Link}
use Rattle.container_model.specs.declared.record.Object.{Object}
use Rattle.container_model.specs.declared.record.Frame.{Frame}
use Rattle.container_model.specs.Record.{Record, is_object}
use Rattle.container_queues.specs.Roles.{Role, Other, Getting, Holding, Giving, Waiting, role_in}
use Rattle.world_model.specs.World.{server_of}
use Rattle.world_model.specs.Safe.{Among}
use Rattle.world_facts.specs.Words.{Links, Acts, IsHonest, IsOpen}

-- the parts of objects in their frames' grants, by the objects' numbers
abbrev pub Roles : Type 0
Roles = ℕ → Role

abbrev pub role_at : ℕ → Option Frame → Role
role_at number None = Other
role_at number (Some frame) = role_in frame.ui.state number

abbrev pub role_of : List Frame → ℕ → Option Object → Role
role_of frames number None = Other
role_of frames number (Some o) = role_at number (nth frames o.frame)

abbrev pub roles_of : Record → Roles
roles_of r number = role_of r.frames number (find (is_object number) r.objects)

-- an object has its frame under this grant, is to get it or to give it up
abbrev pub Names : Role → ℕ → Type 0
Names (Getting h) g = h ≡ g
Names (Holding h tools) g = h ≡ g
Names (Giving h) g = h ≡ g
Names (Waiting h) g = ⊥
Names Other g = ⊥

-- these tools were answered to the grant
pub record WasTold (sent : List Said) (inc act g : ℕ) (tools : Tools) : Type 0 where
  pub n : ℕ
  pub called : Among sent (Call inc act n (UiActivate g))
  pub replied : Among sent (Reply inc act n (told.Tools tools.menus tools.border))

-- shown with its menus and border
abbrev pub IsUi : Activation → Type 0
IsUi a = IsOpen a × (a.states.object ≡ UiActive)

pub record Grants (hostile : List ℕ) (links : Links) (roles : Roles) (acts : Acts) (sent : List Said) : Type 0 where
  -- an activation that has a grant is open, with its menus and border
  pub g_is_ui : (inc act g : ℕ) (a : Activation) → IsHonest hostile inc → acts inc act ≡ Some a → a.g ≡ Some g → IsUi a
  -- and its frame names it
  pub holder_named : (o g : ℕ) (l : Link) (a : Activation) → links o ≡ Some l → IsHonest hostile l.inc
      → acts l.inc l.act ≡ Some a → a.g ≡ Some g → Names (roles o) g
  -- what was replied was called, at a hostile server too; so whatever is pending was sent once it is answered
  pub replied_called : (inc act n : ℕ) (r : Answer) → Among sent (Reply inc act n r) → (op : Operation)
      × Among sent (Call inc act n op)
  -- whoever holds its frame answered the tools that it holds it with
  pub held_told : (o g : ℕ) (tools : Tools) (l : Link) → links o ≡ Some l → IsHonest hostile l.inc
      → roles o ≡ Holding g tools → WasTold sent l.inc l.act g tools

-- a grant is asked of whoever is to get its frame; and only linked objects hold one
pub record IsReadyFor (links : Links) (roles : Roles) : Type 0 where
  pub getting : (o g : ℕ) (l : Link) → links o ≡ Some l → l.pending ≡ Some (UiActivate g) → roles o ≡ Getting g
  pub linked : (o g : ℕ) (tools : Tools) → roles o ≡ Holding g tools → (l : Link) × (links o ≡ Some l)

-- each link is of an activation that was linked to the same object before
abbrev pub Follows : Links → Links → Type 0
Follows links after = (o : ℕ) (m : Link) → after o ≡ Some m → (l : Link) × (links o ≡ Some l) × (m.inc ≡ l.inc)
    × (m.act ≡ l.act)

-- What a step took of honest servers was sent. Of hostile ones it takes what was forged.
abbrev pub AreSent : List ℕ → List Said → List Said → Type 0
AreSent hostile sent taken = (m : Said) → Among taken m → IsHonest hostile (server_of m) → Among sent m

-- A step took the answer of an object that it gave its frame up, or with which tools it holds its frame.
pub record GaveUp (links : Links) (taken : List Said) (o : ℕ) : Type 0 where
  pub link : Link
  pub linked : links o ≡ Some link
  pub pending : link.pending ≡ Some UiDeactivate
  pub answered : Among taken (Reply link.inc link.act link.last told.Done)

pub record GotTools (links : Links) (taken : List Said) (o g : ℕ) (tools : Tools) : Type 0 where
  pub link : Link
  pub linked : links o ≡ Some link
  pub pending : link.pending ≡ Some (UiActivate g)
  pub answered : Among taken (Reply link.inc link.act link.last (told.Tools tools.menus tools.border))

-- What a step of the container makes of roles: whoever is named stays named until it has given its frame up, and nobody
-- holds a frame that didn't, until it has answered its tools.
pub record RolesMove (links after : Links) (roles now : Roles) (taken : List Said) : Type 0 where
  pub named : (o g : ℕ) (m : Link) → after o ≡ Some m → Names (roles o) g → Names (now o) g ⊎ GaveUp links taken o
  pub held : (o g : ℕ) (tools : Tools) (m : Link) → after o ≡ Some m → now o ≡ Holding g tools
      → (roles o ≡ Holding g tools) ⊎ GotTools links taken o g tools

-- The same of a frame's state: who has it stays so, but for claims that are lost, and nobody holds it newly, but by
-- claims that are new.
pub record Moves (Gone : Claim → Type 0) (New : Claim → Tools → Type 0) (before after : GrantState) : Type 0 where
  pub kept : (c : Claim) → who before ≡ Some c → (who after ≡ Some c) ⊎ Gone c
  pub held : (c : Claim) (tools : Tools) → after ≡ Held c tools → (before ≡ Held c tools) ⊎ New c tools

abbrev pub NoClaim : Claim → Type 0
NoClaim c = ⊥

abbrev pub NoTools : Claim → Tools → Type 0
NoTools c tools = ⊥
