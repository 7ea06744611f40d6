-- The steps of verbs and closes: what queues they make.
use Rattle.std.proofs.Common.{◌≡◌, ℕ, true, false, List, [], ◌∷◌, map, Option, Some, None, Result, Ok, Err, refl, ap}
use Rattle.std.proofs.Common.{subst}
use Rattle.std.specs.Prelude.{IfSome}
use Rattle.std.specs.List.{AllByRecursion}
use Rattle.object_state.specs.Both as both
use Rattle.object_state.specs.Laws.{then_run, goal_of}
use Rattle.object_state.specs.Objects as object
use Rattle.object_state.specs.Verbs.{activates_ui, close_steps, op_of, steps}
use Rattle.object_state.specs.declared.faults.StateFault.{StateFault}
use Rattle.object_state.specs.declared.operations.CloseOption.{CloseOption}
use Rattle.object_state.specs.declared.operations.Op.TheVariants as op
use Rattle.object_state.specs.declared.persist_states.PersistState.TheVariants.{Normal}
use Rattle.object_state.specs.declared.object_states.ObjectState.{ObjectState}
use Rattle.object_state.specs.declared.object_states.ObjectState.TheVariants.{Passive, Loaded, Running, InPlaceActive}
use Rattle.object_state.specs.declared.object_states.ObjectState.TheVariants.{UiActive, Open}
use Rattle.object_state.specs.declared.verbs.Verb.{Verb}
use Rattle.object_state.specs.declared.verbs.Verb.TheVariants.{Primary, Show, Hide, InPlaceActivate}
use Rattle.object_state.specs.declared.verbs.Verb.TheVariants as verb
use Rattle.object_state.specs.declared.verbs.Step.{Step}
use Rattle.object_state.specs.declared.verbs.Step.TheVariants as step
use Rattle.object_state.proofs.Tables.{verbs-lead, closes-end}
use Rattle.tree_streams.specs.declared.stored.Stored.{Stored}
use Rattle.container_model.specs.declared.record.Phase.TheVariants.{Idle}
use Rattle.container_model.specs.Verbs.{operation_of, takes, gives_up}
use Rattle.container_queues.specs.Roles.{IsPlain}
use Rattle.container_queues.specs.Steady.{ended, IsTimely}
use Rattle.container_queues.proofs.SteadyRoles.{is_ui}

-- what both tables make of steps, where the storage may be written into
steps_run : (g : ℕ) (ts : List Step) (last : Option ℕ) (r : Result ObjectState StateFault) (t : ObjectState)
    → then_run (map (op_of g) ts) r ≡ Ok t
    → ended (both.joined (Ok (record { state = Normal; last_save = last })) r) (map (operation_of g) ts)
    ≡ Ok (record { persist = record { state = Normal; last_save = last }; object = t })
steps_run g [] last (Ok s) t e = ap (both.joined (Ok (record { state = Normal; last_save = last }))) e
steps_run g [] last (Err fault) t e = cc
steps_run g (x ∷ ts) last (Err fault) t e = cc
steps_run g (step.InPlace ∷ ts) last (Ok s) t e = steps_run g ts last (object.table op.InPlace s) t e
steps_run g (step.UiActivate ∷ ts) last (Ok s) t e = steps_run g ts last (object.table (op.UiActivate g) s) t e
steps_run g (step.UiDeactivate ∷ ts) last (Ok s) t e = steps_run g ts last (object.table op.UiDeactivate s) t e
steps_run g (step.InPlaceDeactivate ∷ ts) last (Ok s) t e =
    steps_run g ts last (object.table op.InPlaceDeactivate s) t e
steps_run g (step.OpenWindow ∷ ts) last (Ok s) t e = steps_run g ts last (object.table op.OpenWindow s) t e
steps_run g (step.Close option ∷ ts) last (Ok s) t e = steps_run g ts last (object.table (op.Close option) s) t e

pub verb_runs : (v : Verb) (g : ℕ) (s : ObjectState) (ts : List Step) (last : Option ℕ) → steps v s ≡ Some ts
    → ended (Ok (record { persist = record { state = Normal; last_save = last }; object = s }))
    (map (operation_of g) ts)
    ≡ Ok (record { persist = record { state = Normal; last_save = last }; object = goal_of v })
verb_runs v g s ts last e = steps_run g ts last (Ok s) (goal_of v) (verbs-lead v s ts g e)

pub close_runs : (option : CloseOption) (g : ℕ) (s : ObjectState) (ts : List Step) (last : Option ℕ)
    → close_steps option s ≡ Some ts
    → ended (Ok (record { persist = record { state = Normal; last_save = last }; object = s }))
    (map (operation_of g) ts)
    ≡ Ok (record { persist = record { state = Normal; last_save = last }; object = Passive })
close_runs option g s ts last e = steps_run g ts last (Ok s) Passive (closes-end option s ts g e)

-- they may stand in a queue of an idle frame
pub steps_timely : (g : ℕ) (saved : Option Stored) (ts : List Step)
    → AllByRecursion (IsTimely Idle saved) (map (operation_of g) ts)
steps_timely g saved [] = tt
steps_timely g saved (step.InPlace ∷ ts) = (tt, steps_timely g saved ts)
steps_timely g saved (step.UiActivate ∷ ts) = (tt, steps_timely g saved ts)
steps_timely g saved (step.UiDeactivate ∷ ts) = (tt, steps_timely g saved ts)
steps_timely g saved (step.InPlaceDeactivate ∷ ts) = (tt, steps_timely g saved ts)
steps_timely g saved (step.OpenWindow ∷ ts) = (tt, steps_timely g saved ts)
steps_timely g saved (step.Close option ∷ ts) = (refl, steps_timely g saved ts)

-- Steps that take the frame begin with an object that runs without its window, or is active in place.
pub data TakesFrom (v : Verb) : ObjectState → List Step → Type 0 where
  hidden : activates_ui v ≡ true → TakesFrom v Running (step.InPlace ∷ step.UiActivate ∷ [])
  placed : activates_ui v ≡ true → TakesFrom v InPlaceActive (step.UiActivate ∷ [])

taking_row : (v : Verb) (s : ObjectState) → IfSome (steps v s) (λ (ts : List Step). takes ts ≡ true → TakesFrom v s ts)
taking_row Primary Passive = tt
taking_row Primary Loaded = tt
taking_row Primary Running = hidden
taking_row Primary InPlaceActive = placed
taking_row Primary UiActive = λ t. cc
taking_row Primary Open = tt
taking_row Show Passive = tt
taking_row Show Loaded = tt
taking_row Show Running = hidden
taking_row Show InPlaceActive = placed
taking_row Show UiActive = λ t. cc
taking_row Show Open = tt
taking_row verb.UiActivate Passive = tt
taking_row verb.UiActivate Loaded = tt
taking_row verb.UiActivate Running = hidden
taking_row verb.UiActivate InPlaceActive = placed
taking_row verb.UiActivate UiActive = λ t. cc
taking_row verb.UiActivate Open = tt
taking_row verb.Open Passive = tt
taking_row verb.Open Loaded = tt
taking_row verb.Open Running = λ t. cc
taking_row verb.Open InPlaceActive = λ t. cc
taking_row verb.Open UiActive = λ t. cc
taking_row verb.Open Open = λ t. cc
taking_row Hide Passive = tt
taking_row Hide Loaded = tt
taking_row Hide Running = λ t. cc
taking_row Hide InPlaceActive = λ t. cc
taking_row Hide UiActive = λ t. cc
taking_row Hide Open = λ t. cc
taking_row InPlaceActivate Passive = tt
taking_row InPlaceActivate Loaded = tt
taking_row InPlaceActivate Running = λ t. cc
taking_row InPlaceActivate InPlaceActive = λ t. cc
taking_row InPlaceActivate UiActive = λ t. cc
taking_row InPlaceActivate Open = tt

row_at : (P : List Step → Type 0) (row : Option (List Step)) (ts : List Step) → row ≡ Some ts → IfSome row P → P ts
row_at P None ts e h = cc
row_at P (Some us) ts e h = (let same : us ≡ ts = cc in subst P same h)

pub taking_from : (v : Verb) (s : ObjectState) (ts : List Step) → steps v s ≡ Some ts → takes ts ≡ true
    → TakesFrom v s ts
taking_from v s ts e = row_at (λ (us : List Step). takes us ≡ true → TakesFrom v s us) (steps v s) ts e (taking_row v s)

-- Other steps begin with giving up the frame where the object has its menus and border, and are plain behind it.
pub data LeavesFrom : ObjectState → List Step → Type 0 where
  leaves_nothing : {s : ObjectState} → LeavesFrom s []
  leaves_frame : {ts : List Step} → AllByRecursion IsPlain (map (operation_of 0) ts)
      → LeavesFrom UiActive (step.UiDeactivate ∷ ts)
  leaves_plain : {s : ObjectState} {ts : List Step} → is_ui s ≡ false → gives_up ts ≡ false
      → AllByRecursion IsPlain (map (operation_of 0) ts) → LeavesFrom s ts

leaving_row : (v : Verb) (s : ObjectState) → IfSome (steps v s) (λ (ts : List Step). takes ts ≡ false → LeavesFrom s ts)
leaving_row Primary Passive = tt
leaving_row Primary Loaded = tt
leaving_row Primary Running = λ t. cc
leaving_row Primary InPlaceActive = λ t. cc
leaving_row Primary UiActive = λ t. leaves_nothing
leaving_row Primary Open = tt
leaving_row Show Passive = tt
leaving_row Show Loaded = tt
leaving_row Show Running = λ t. cc
leaving_row Show InPlaceActive = λ t. cc
leaving_row Show UiActive = λ t. leaves_nothing
leaving_row Show Open = tt
leaving_row verb.UiActivate Passive = tt
leaving_row verb.UiActivate Loaded = tt
leaving_row verb.UiActivate Running = λ t. cc
leaving_row verb.UiActivate InPlaceActive = λ t. cc
leaving_row verb.UiActivate UiActive = λ t. leaves_nothing
leaving_row verb.UiActivate Open = tt
leaving_row verb.Open Passive = tt
leaving_row verb.Open Loaded = tt
leaving_row verb.Open Running = λ t. leaves_plain refl refl (tt, tt)
leaving_row verb.Open InPlaceActive = λ t. leaves_plain refl refl (tt, (tt, tt))
leaving_row verb.Open UiActive = λ t. leaves_frame (tt, (tt, tt))
leaving_row verb.Open Open = λ t. leaves_nothing
leaving_row Hide Passive = tt
leaving_row Hide Loaded = tt
leaving_row Hide Running = λ t. leaves_nothing
leaving_row Hide InPlaceActive = λ t. leaves_plain refl refl (tt, tt)
leaving_row Hide UiActive = λ t. leaves_frame (tt, tt)
leaving_row Hide Open = λ t. leaves_plain refl refl (tt, tt)
leaving_row InPlaceActivate Passive = tt
leaving_row InPlaceActivate Loaded = tt
leaving_row InPlaceActivate Running = λ t. leaves_plain refl refl (tt, tt)
leaving_row InPlaceActivate InPlaceActive = λ t. leaves_nothing
leaving_row InPlaceActivate UiActive = λ t. leaves_frame tt
leaving_row InPlaceActivate Open = tt

pub leaving_from : (v : Verb) (s : ObjectState) (ts : List Step) → steps v s ≡ Some ts → takes ts ≡ false
    → LeavesFrom s ts
leaving_from v s ts e = row_at (λ (us : List Step). takes us ≡ false → LeavesFrom s us) (steps v s) ts e
    (leaving_row v s)

closing_row : (option : CloseOption) (s : ObjectState) → IfSome (close_steps option s) (LeavesFrom s)
closing_row option Passive = tt
closing_row option Loaded = tt
closing_row option Running = leaves_plain refl refl (tt, tt)
closing_row option InPlaceActive = leaves_plain refl refl (tt, (tt, tt))
closing_row option UiActive = leaves_frame (tt, (tt, tt))
closing_row option Open = leaves_plain refl refl (tt, (tt, tt))

pub closing_from : (option : CloseOption) (s : ObjectState) (ts : List Step) → close_steps option s ≡ Some ts
    → LeavesFrom s ts
closing_from option s ts e = row_at (LeavesFrom s) (close_steps option s) ts e (closing_row option s)
