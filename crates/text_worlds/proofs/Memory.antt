-- A line that takes memory spells an event, or forges bytes.
use Rattle.std.proofs.Common.{◌||◌, Bool, Option, Some, None, Result, Ok, Err, IfErr, IsTrue, IsSome, is_some}
use Rattle.std.proofs.Common.{option_map, refl}
use Rattle.world_model.specs.declared.event.Event.{Event}
use Rattle.text_worlds.specs.Events.{Sized, new_of, open_of, or_else, takes_memory}

-- so does a frame of a name and a size, new or opened
pub new_takes : (s : Option Sized) → IsSome s → IsTrue (takes_memory (option_map new_of s))
new_takes None t = absurd (cc)
new_takes (Some s) t = refl

pub open_spells : (s : Option Sized) → IsSome s → IsSome (option_map open_of s)
open_spells None t = absurd (cc)
open_spells (Some s) t = refl

-- whichever of the three ways of reading a line takes it
pub open_wants : (o f e : Option Event) (b : Bool) → IsSome o → IsTrue (is_some (or_else o (or_else f e)) || b)
open_wants None f e b t = absurd (cc)
open_wants (Some x) f e b t = refl

pub forge_wants : (o f e : Option Event) (b : Bool) → IsTrue b → IsTrue (is_some (or_else o (or_else f e)) || b)
forge_wants (Some x) f e b t = refl
forge_wants None (Some x) e b t = refl
forge_wants None None (Some x) b t = refl
forge_wants None None None b t = t

pub event_wants : (o f e : Option Event) (b : Bool) → IsTrue (takes_memory e)
    → IsTrue (is_some (or_else o (or_else f e)) || b)
event_wants (Some x) f e b t = refl
event_wants None (Some x) e b t = refl
event_wants None None (Some x) b t = refl
event_wants None None None b t = absurd (cc)

-- what holds of any want of memory
pub lacking : {X E P : Type 0} (r : Result X E) → P → IfErr r (λ e. P)
lacking (Ok x) p = tt
lacking (Err e) p = p
