-- What changes and what stays, with the objects in boxes by what they contain.
use Rattle.std.specs.Prelude.{◌≡◌, ℕ, List, [], Ok, IfSome, slice_get}
use Rattle.message_values.specs.Found.{find}
use Rattle.object_core.specs.Content.{Content}
use Rattle.server_core.specs.declared.server.Seat.{Seat}
use Rattle.world_host.specs.declared.stops.Left.{Left}
use Rattle.world_model.specs.declared.event.Event.{Event}
use Rattle.world_model.specs.declared.event.Stop.{Stop}
use Rattle.world_model.specs.World.{StopsFor, limited}
use Rattle.world_model.specs.declared.moment.Moment.{Moment}
use Rattle.world_model.specs.Story.{EndsAt, Tells, as_of, earlier, goes_on, is_session, within}
use Rattle.world_run.specs.Passes.{Follows, HoldsBack, Passes, left_at, past_with, swapped}
use Rattle.world_run.specs.Told.{left_epoch, seen_past, seen_pasts, told}
use Rattle.world_run.specs.declared.past.Past.{Past}
use Rattle.world_run.specs.declared.runs.Runs.{Runs}
use Rattle.world_state.specs.View.{seen}
use Rattle.world_state.specs.declared.state.State.{State}

module _ {X : Type 0} {V : X → Type 0} (content : Seat X V → Content) where
  -- ---- the state of a run
  abbrev pub StateStays : State X V → State X V → Type 0
  StateStays old new = seen content new ≡ seen content old

  -- an event at a server of an earlier run
  abbrev pub GoesOn : State X V → Event → State X V → Type 0
  GoesOn old e new = limited (seen content old) (goes_on (seen content old) e) ≡ Ok (seen content new)

  abbrev pub RefusesOn : State X V → Event → Stop → Type 0
  RefusesOn old e stop = StopsFor (limited (seen content old) (goes_on (seen content old) e)) stop

  -- a run that took the place of another
  abbrev pub TakesPlace : State X V → Past X V → State X V → Type 0
  TakesPlace old past new = seen content new ≡ as_of (seen content old) (seen_past content past)

  abbrev pub MakesPlace : State X V → Past X V → Past X V → Type 0
  MakesPlace state old new = seen_past content new ≡ left_at old.session (seen content state)

  -- its servers are gone
  abbrev pub LosesServers : State X V → State X V → Type 0
  LosesServers old new = seen content new ≡ record (seen content old) { instances = [] }

  -- and stand with what a host has left
  abbrev pub IsPast : State X V → Left → Past X V → Type 0
  IsPast state l past = seen_past content past ≡ left_epoch l (seen content state).instances

  -- one run more, if it raised a session
  abbrev pub IsMore : List (Past X V) → Past X V → List (Past X V) → Type 0
  IsMore old run new = seen_pasts content new ≡ past_with (seen_past content run) (seen_pasts content old)

  abbrev pub LeavesPast : Runs X V → Left → Runs X V → Type 0
  LeavesPast old l new = seen_pasts content new.past.items
      ≡ past_with (left_epoch l (seen content old.state).instances) (seen_pasts content old.past.items)

  -- ---- runs
  abbrev pub Stays : Runs X V → Runs X V → Type 0
  Stays old new = told content new ≡ told content old

  abbrev pub Moves : Runs X V → Moment → Runs X V → Type 0
  Moves old m new = Passes (told content old) m (told content new)

  abbrev pub MovesOn : Runs X V → List Moment → Runs X V → Type 0
  MovesOn old ms new = Tells (told content old) ms (told content new)

  abbrev pub Ends : Runs X V → Moment → Stop → Type 0
  Ends old m stop = EndsAt (told content old) m stop

  -- an event of the present run
  abbrev pub MovesHere : Runs X V → Event → Runs X V → Type 0
  MovesHere old e new = Follows (told content old) e (told content new)

  abbrev pub EndsHere : Runs X V → Event → Stop → Type 0
  EndsHere old e stop = HoldsBack (told content old) e stop

  -- and at a server of the first run of a session
  abbrev pub MovesThere : Runs X V → ℕ → Event → Runs X V → Type 0
  MovesThere old n e new = within (told content old)
      (earlier (told content old) e (find (is_session n) (told content old).past)) ≡ Ok (told content new)

  abbrev pub EndsThere : Runs X V → ℕ → Event → Stop → Type 0
  EndsThere old n e stop =
      StopsFor
      (within (told content old) (earlier (told content old) e (find (is_session n) (told content old).past))) stop

  abbrev pub Swaps : Runs X V → ℕ → Runs X V → Type 0
  Swaps old i new = IfSome (slice_get (told content old).past i)
      (λ e. told content new ≡ swapped (told content old) e i)
