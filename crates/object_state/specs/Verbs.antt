-- What the verbs of an object do in each of its states.
use Rattle.std.specs.Prelude.{ℕ, ℤ, pos, negsuc, zero, suc, Bool, true, false, List, [], ◌∷◌, ◌++◌, Option, Some, None}
use Rattle.std.specs.Prelude.{option_map}
use Rattle.object_state.specs.declared.operations.Op.{Op}
use Rattle.object_state.specs.declared.operations.Op.TheVariants as op
use Rattle.object_state.specs.declared.operations.CloseOption.{CloseOption}
use Rattle.object_state.specs.declared.object_states.ObjectState.{ObjectState}
use Rattle.object_state.specs.declared.object_states.ObjectState.TheVariants.{Passive, Loaded, Running, InPlaceActive}
use Rattle.object_state.specs.declared.object_states.ObjectState.TheVariants.{UiActive}
use Rattle.object_state.specs.declared.object_states.ObjectState.TheVariants as state
use Rattle.object_state.specs.declared.verbs.Verb.{Verb}
use Rattle.object_state.specs.declared.verbs.Verb.TheVariants.{Primary, Show, Hide, InPlaceActivate}
use Rattle.object_state.specs.declared.verbs.Verb.TheVariants as verb
use Rattle.object_state.specs.declared.verbs.Step.{Step}
use Rattle.object_state.specs.declared.verbs.Step.TheVariants.{InPlace, UiActivate, UiDeactivate, InPlaceDeactivate}
use Rattle.object_state.specs.declared.verbs.Step.TheVariants.{OpenWindow, Close}

-- OLE's numbers: OLEIVERB_PRIMARY is 0, OLEIVERB_SHOW -1, and so on
abbrev pub number_of : Verb → ℤ
number_of Primary = pos 0
number_of Show = negsuc 0
number_of verb.Open = negsuc 1
number_of Hide = negsuc 2
number_of verb.UiActivate = negsuc 3
number_of InPlaceActivate = negsuc 4

abbrev pub verb_of : ℤ → Option Verb
verb_of (pos zero) = Some Primary
verb_of (negsuc zero) = Some Show
verb_of (negsuc (suc zero)) = Some verb.Open
verb_of (negsuc (suc (suc zero))) = Some Hide
verb_of (negsuc (suc (suc (suc zero)))) = Some verb.UiActivate
verb_of (negsuc (suc (suc (suc (suc zero))))) = Some InPlaceActivate
verb_of _ = None

abbrev pub activates_ui : Verb → Bool
activates_ui Primary = true
activates_ui Show = true
activates_ui verb.Open = false
activates_ui Hide = false
activates_ui verb.UiActivate = true
activates_ui InPlaceActivate = false

-- a row of the table: an entry for each state of a running object, none for the others
abbrev pub columns : {A : Type 0} → Option A → Option A → Option A → Option A → ObjectState → Option A
columns running in_place ui_active opened Passive = None
columns running in_place ui_active opened Loaded = None
columns running in_place ui_active opened Running = running
columns running in_place ui_active opened InPlaceActive = in_place
columns running in_place ui_active opened UiActive = ui_active
columns running in_place ui_active opened state.Open = opened

-- the table (IOleObject::DoVerb; the steps are this project's own)
-- verb          while Running, InPlaceActive, UiActive, Open
abbrev pub steps : Verb → ObjectState → Option (List Step)
steps Primary = columns (Some (InPlace ∷ UiActivate ∷ [])) (Some (UiActivate ∷ [])) (Some []) None
steps Show = columns (Some (InPlace ∷ UiActivate ∷ [])) (Some (UiActivate ∷ [])) (Some []) None
steps verb.UiActivate = columns (Some (InPlace ∷ UiActivate ∷ [])) (Some (UiActivate ∷ [])) (Some []) None
steps verb.Open = columns (Some (OpenWindow ∷ [])) (Some (InPlaceDeactivate ∷ OpenWindow ∷ []))
    (Some (UiDeactivate ∷ InPlaceDeactivate ∷ OpenWindow ∷ [])) (Some [])
steps Hide = columns (Some []) (Some (InPlaceDeactivate ∷ [])) (Some (UiDeactivate ∷ InPlaceDeactivate ∷ []))
    (Some (InPlaceDeactivate ∷ []))
steps InPlaceActivate = columns (Some (InPlace ∷ [])) (Some []) (Some (UiDeactivate ∷ [])) None

-- a close takes the steps of the verb that hides, and then Close
abbrev pub close_steps : CloseOption → ObjectState → Option (List Step)
close_steps option s = option_map (λ hiding. hiding ++ Close option ∷ []) (steps Hide s)

-- the operation of a step, under this grant
abbrev pub op_of : ℕ → Step → Op
op_of g InPlace = op.InPlace
op_of g UiActivate = op.UiActivate g
op_of g UiDeactivate = op.UiDeactivate
op_of g InPlaceDeactivate = op.InPlaceDeactivate
op_of g OpenWindow = op.OpenWindow
op_of g (Close option) = op.Close option
