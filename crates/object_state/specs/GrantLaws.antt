-- Laws above the table of a frame's grant.
use Rattle.std.specs.Prelude.{◌≡◌, ◌≢◌, ◌⊎◌, ℕ, ◌+◌, ◌<◌, List, [], ◌∷◌, Some, None, ⊤, slice_index}
use Rattle.object_state.specs.declared.grant_states.Claim.{Claim}
use Rattle.object_state.specs.declared.grant_states.Tools.{Tools}
use Rattle.object_state.specs.declared.grant_states.GrantState.{GrantState}
use Rattle.object_state.specs.declared.grant_states.GrantState.TheVariants.{Granting, Held, Revoking}
use Rattle.object_state.specs.Grants.{Event, Ask, Granted, Revoked, Lost, who, waiting}
use Rattle.object_state.specs.Frames.{Ui, fresh, after, menu_of, border_of, container_menu, no_border}

abbrev pub IsHeld : GrantState → Type 0
IsHeld (Held holder tools) = ⊤
IsHeld _ = ⊥

abbrev pub IsRevoking : GrantState → Type 0
IsRevoking (Revoking holder next) = ⊤
IsRevoking _ = ⊥

-- the frame after a list of events
abbrev pub run : Ui → List Event → Ui
run ui [] = ui
run ui (event ∷ events) = run (after ui event) events

-- who has the frame, or is to get it, keeps it until its activation is lost, or until it gives the frame
-- up, having been told to
abbrev pub FreedByHolder : Type 0
FreedByHolder = (ui : Ui) (event : Event) (holder : Claim) → who ui.state ≡ Some holder
    → (who (after ui event).state ≡ Some holder)
    ⊎ ((event ≡ Lost holder.act) ⊎ (IsRevoking ui.state × (event ≡ Revoked holder.g)))

-- who has the frame, or is to get it, had it before; or asked for it while it was free; or waited for it
abbrev pub GivenInTurn : Type 0
GivenInTurn = (ui : Ui) (event : Event) (holder : Claim) → who (after ui event).state ≡ Some holder
    → (who ui.state ≡ Some holder) ⊎ (((who ui.state ≡ None) × (event ≡ Ask holder))
    ⊎ (waiting ui.state ≡ Some holder))

-- after any events whoever waits is another object than the holder, with another activation
abbrev pub WaitingApart : Type 0
WaitingApart = (width height : ℕ) (events : List Event) (holder next : Claim)
    → who (run (fresh width height) events).state ≡ Some holder → waiting (run (fresh width height) events).state
    ≡ Some next → (next.object ≢ holder.object) × (next.act ≢ holder.act)

-- an object comes to hold the frame only as it answers its own grant, with these tools
abbrev pub HeldByAnswer : Type 0
HeldByAnswer = (ui : Ui) (event : Event) (holder : Claim) (tools : Tools)
    → (after ui event).state ≡ Held holder tools → (ui.state ≡ Held holder tools)
    ⊎ ((ui.state ≡ Granting holder) × (event ≡ Granted holder.g tools))

-- after any events menu and border are the container's own unless an object holds the frame
abbrev pub ContainersUnlessHeld : Type 0
ContainersUnlessHeld = (width height : ℕ) (events : List Event) → IsHeld (run (fresh width height) events).state
    ⊎ ((menu_of (run (fresh width height) events).state ≡ container_menu)
    × (border_of (run (fresh width height) events) ≡ no_border))

-- a border (left, top, right, bottom) leaves room in a frame of this size
abbrev pub LeavesRoom : ℕ → ℕ → List ℕ → Type 0
LeavesRoom width height border = (slice_index border 0 + slice_index border 2 < width)
    × (slice_index border 1 + slice_index border 3 < height)

-- after any events the border is zero or leaves room in the frame
abbrev pub BorderLeavesRoom : Type 0
BorderLeavesRoom = (width height : ℕ) (events : List Event)
    → (border_of (run (fresh width height) events) ≡ no_border)
    ⊎ LeavesRoom width height (border_of (run (fresh width height) events))
