-- A frame's menus and border space, with its grant.
use Rattle.std.specs.Prelude.{ℕ, ◌+◌, Bool, ◌&&◌, List, [], ◌∷◌, Option, Some, None, Result, Ok, Err, if◌then◌else◌}
use Rattle.std.specs.Prelude.{slice_index, nat_lt, codes}
use Rattle.object_state.specs.declared.menu_texts.Menus.{Menus}
use Rattle.object_state.specs.declared.grant_states.GrantState.{GrantState}
use Rattle.object_state.specs.declared.grant_states.GrantState.TheVariants.{Free, Held}
use Rattle.object_state.specs.declared.grant_faults.GrantFault.{GrantFault}
use Rattle.object_state.specs.declared.grant_faults.GrantFault.TheVariants.{NoToolSpace}
use Rattle.object_state.specs.Grants.{Event, Ask, Granted, Revoked, Lost, table}

-- a frame of so many cells, and its grant
pub record Ui : Type 0 where
  pub width : ℕ
  pub height : ℕ
  pub state : GrantState

abbrev pub fresh : ℕ → ℕ → Ui
fresh width height = record { width = width; height = height; state = Free }

-- the border (left, top, right, bottom) leaves room in the frame
abbrev pub has_room : Ui → List ℕ → Bool
has_room ui border =
    nat_lt (slice_index border 0 + slice_index border 2) ui.width && nat_lt
    (slice_index border 1 + slice_index border 3) ui.height

-- a refused event leaves the state
abbrev pub kept : GrantState → Result GrantState GrantFault → GrantState
kept state (Ok next) = next
kept state (Err refusal) = state

-- the frame after an event
abbrev pub after : Ui → Event → Ui
after ui event = record ui { state = kept ui.state (table ui.state event) }

-- an object whose border leaves no room is told so as it gets the frame
abbrev pub told : Ui → Event → Result Unit GrantFault
told ui (Granted g tools) = if has_room ui tools.border then Ok tt else Err NoToolSpace
told ui (Ask claim) = Ok tt
told ui (Revoked g) = Ok tt
told ui (Lost act) = Ok tt

abbrev pub answered : Ui → Event → Result GrantState GrantFault → Result Unit GrantFault
answered ui event (Ok next) = told ui event
answered ui event (Err refusal) = Err refusal

-- what an event is answered
abbrev pub answer : Ui → Event → Result Unit GrantFault
answer ui event = answered ui event (table ui.state event)

-- the menu groups 0 to 5 (File, Edit, Container, Object, Window, Help) of the container alone
abbrev pub container_menu : List (Option (List ℕ))
container_menu = Some (codes "File") ∷ None ∷ Some (codes "Container") ∷ None ∷ Some (codes "Window") ∷ None ∷ []

-- the same with the holder's menus among them
abbrev pub merged_menu : Menus → List (Option (List ℕ))
merged_menu menus = Some (codes "File") ∷ Some menus.edit ∷ Some (codes "Container") ∷ Some menus.object
    ∷ Some (codes "Window") ∷ Some menus.help ∷ []

abbrev pub menu_of : GrantState → List (Option (List ℕ))
menu_of (Held holder tools) = merged_menu tools.menus
menu_of _ = container_menu

abbrev pub no_border : List ℕ
no_border = 0 ∷ 0 ∷ 0 ∷ 0 ∷ []

abbrev pub border_in : Ui → GrantState → List ℕ
border_in ui (Held holder tools) = if has_room ui tools.border then tools.border else no_border
border_in ui _ = no_border

abbrev pub border_of : Ui → List ℕ
border_of ui = border_in ui ui.state
