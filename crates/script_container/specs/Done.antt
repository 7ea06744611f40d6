-- Which commits of frames' files are done.
use Rattle.std.specs.Prelude.{◌≡◌, ◌⊎◌, ℕ, Bool, false, List, Option, Some, None}
use Rattle.std.specs.List.{All}
use Rattle.message_values.specs.Found.{nth}
use Rattle.container_model.specs.Record.{Record, is_doubtful}
use Rattle.container_model.specs.Saves.{is_committing}
use Rattle.container_model.specs.declared.answer.Action.{Action}
use Rattle.container_model.specs.declared.answer.Action.TheVariants as action
use Rattle.container_model.specs.declared.record.Frame.{Frame}
use Rattle.container_model.specs.declared.record.Phase.{Phase}
use Rattle.script_model.specs.Saved.{is_unsaved}

-- whether a frame, if there is one, is in such a phase of its save
abbrev pub is_in : (Phase → Bool) → Option Frame → Bool
is_in test None = false
is_in test (Some frame) = test frame.phase

-- The frame of this number isn't to be committed.
abbrev pub IsAnswered : Record → ℕ → Type 0
IsAnswered r f = is_in is_committing (nth r.frames f) ≡ false

-- It isn't in doubt whether the frame of this number was committed.
abbrev pub IsCertain : Record → ℕ → Type 0
IsCertain r f = is_in is_doubtful (nth r.frames f) ≡ false

-- The frame of this number isn't to be committed, and not in doubt.
abbrev pub IsDone : Record → ℕ → Type 0
IsDone r f = is_in is_unsaved (nth r.frames f) ≡ false

-- Each frame is as it was, or its commit is done.
abbrev pub OnlyDone : (old now : Record) → Type 0
OnlyDone old now = (g : ℕ) → (nth now.frames g ≡ nth old.frames g) ⊎ IsDone now g

-- Each frame but one is as it was, or its commit is done.
abbrev pub OnlyDoneBut : ℕ → (old now : Record) → Type 0
OnlyDoneBut f old now = (g : ℕ) → (nth now.frames g ≡ nth old.frames g) ⊎ (g ≡ f)

-- The commit that an action asks for, if it asks for one, is done, unless it was in doubt before.
abbrev pub IsCarriedOut : (old now : Record) → Action → Type 0
IsCarriedOut old now (action.Send m) = Unit {0}
IsCarriedOut old now (action.Start inc) = Unit {0}
IsCarriedOut old now (action.End inc) = Unit {0}
IsCarriedOut old now (action.Commit f) = IsCertain old f → IsDone now f

abbrev pub AreCarriedOut : (old now : Record) → List Action → Type 0
AreCarriedOut old now actions = All (IsCarriedOut old now) actions
