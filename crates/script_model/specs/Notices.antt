-- What a history has to tell of a command besides what the command makes: an object that refused a call, a save that
-- was lost.
use Rattle.std.specs.Prelude.{◌≡◌, List, [], ◌∷◌, Option, Some, None, Result, Ok, Err}
use Rattle.container_model.specs.Messages.{on_message}
use Rattle.container_model.specs.Record.{Took}
use Rattle.container_model.specs.Saves.{image}
use Rattle.container_model.specs.declared.answer.FrameDocument.{FrameDocument}
use Rattle.container_model.specs.declared.fault.ContainerFault.{ContainerFault}
use Rattle.container_model.specs.declared.fault.ContainerFault.TheVariants.{Full}
use Rattle.store_model.specs.declared.fault.StoreFault.{StoreFault}
use Rattle.message_values.specs.declared.refusal.Refusal.{Refusal}
use Rattle.script_model.specs.declared.answer.Told.{Told}
use Rattle.script_model.specs.declared.answer.Told.TheVariants as told
use Rattle.script_model.specs.declared.step.Step.{Step}
use Rattle.script_model.specs.declared.step.Step.TheVariants as step
use Rattle.script_model.specs.Containers.{record_of}
use Rattle.script_model.specs.Events.{Event, Started, Connected, Sent, Heard, Ended, Opened, Found, Shut, Stepped}

-- An object refused a call; no file can hold a frame's document; a frame's file wasn't saved.
pub data Notice : Type 0 where
  Refused : Refusal → Notice
  TooLarge : Notice
  Lost : Notice

-- the first of what is noticed
abbrev pub first_noticed : Option Notice → Option Notice → Option Notice
first_noticed (Some n) next = Some n
first_noticed None next = next

abbrev pub refusal_noticed : Option Refusal → Option Notice
refusal_noticed (Some refusal) = Some (Refused refusal)
refusal_noticed None = None

-- what is noticed of a message: what the container answers of a refusal
abbrev pub refused_by : Result Took ContainerFault → Option Notice
refused_by (Ok took) = refusal_noticed took.answer.refused
refused_by (Err fault) = None

-- what is noticed of a commit that failed, by the document that was to be saved
abbrev pub lost_as : Result FrameDocument ContainerFault → Notice
lost_as (Err Full) = TooLarge
lost_as document = Lost

abbrev pub behind_notices : {D : Type 0} → Step → List (Event D) → Option Notice → Option Notice
behind_notices (step.Begins n) es noticed = None
behind_notices (step.Command c) es noticed = noticed
behind_notices (step.Message inc m) es noticed =
    first_noticed noticed
    (refused_by (on_message (record_of es) (record { session = (record_of es).session; inc = inc }) m))
behind_notices (step.Reap inc) es noticed = noticed
behind_notices (step.Committed f) es noticed = noticed
behind_notices (step.Failed f) es noticed = first_noticed noticed (Some (lost_as (image (record_of es) f)))
behind_notices (step.Resolved f is_kept) es noticed = noticed
behind_notices (step.Open name w h session objects) es noticed = noticed
behind_notices step.NoMemory es noticed = noticed

-- what was noticed first since the command began that began last: the first refusal, or the first save that was lost
abbrev pub notices : {D : Type 0} → List (Event D) → Option Notice
notices [] = None
notices (Stepped step ∷ es) = behind_notices step es (notices es)
notices (Started session inc ok ∷ es) = notices es
notices (Connected inc ok ∷ es) = notices es
notices (Sent inc bytes ok ∷ es) = notices es
notices (Heard inc bytes ok ∷ es) = notices es
notices (Ended inc ∷ es) = notices es
notices (Opened name disk ∷ es) = notices es
notices (Found name disk ∷ es) = notices es
notices (Shut name disk ∷ es) = notices es

-- This is told of what is noticed. Why a file wasn't saved is told by the fault of its disk, which stays open here.
abbrev pub IsToldAs : Notice → Told → Type 0
IsToldAs (Refused refusal) t = t ≡ told.Refused refusal
IsToldAs TooLarge t = t ≡ told.Fault Full
IsToldAs Lost t = (why : StoreFault) × (t ≡ told.Lost why)

-- This is to be told where that is noticed, and nothing where nothing is.
abbrev pub Tells : Option Notice → Option Told → Type 0
Tells None None = Unit {0}
Tells None (Some t) = ⊥
Tells (Some n) None = ⊥
Tells (Some n) (Some t) = IsToldAs n t

-- Of what was noticed before and is noticed now, the last is told by this, or nothing was noticed.
abbrev pub Notes : (before now : Option Notice) → Option Told → Type 0
Notes before now None = now ≡ before
Notes before now (Some t) = (n : Notice) × (now ≡ first_noticed before (Some n)) × IsToldAs n t
