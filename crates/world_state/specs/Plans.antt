-- What the delivery of a message comes to, before anything changes.
use Rattle.std.specs.Prelude.{◌≡◌, ◌<◌, ◌++◌, ◌∷◌, [], ℕ, List, length, Option, Some, None, Result, Ok, Err, slice_get}
use Rattle.std.specs.List.{insert, remove}
use Rattle.message_values.specs.declared.message.Message.{Message}
use Rattle.message_values.specs.declared.message.Said.{Said}
use Rattle.container_model.specs.declared.server_link.ServerLink.{ServerLink}
use Rattle.message_values.specs.declared.message.Said.TheVariants.{Call, Reply, Write, Ask}
use Rattle.message_values.specs.declared.operation.Operation.{Operation}
use Rattle.object_core.specs.Kinds.{Kind}
use Rattle.server_model.specs.Server.{on_call, Server, Told, ask_deactivate, scribble}
use Rattle.container_model.specs.Messages.{on_message}
use Rattle.message_values.specs.Found.{find}
use Rattle.container_model.specs.Numbered.{IsNth}
use Rattle.world_state.specs.declared.plan.Plan.{Plan}
use Rattle.world_state.specs.declared.plan.Plan.TheVariants.{Quiet, Tell, Serve, Begin}
use Rattle.world_model.specs.declared.logs.EventAnswer.TheVariants as told
use Rattle.world_model.specs.declared.event.Stop.{Stop}
use Rattle.world_model.specs.declared.event.Stop.TheVariants.{NotEnabled}
use Rattle.world_model.specs.World.{World, Instance, forged_on, in_session, limited, link_of, served, spoken_by, took}
use Rattle.world_model.specs.World.{quiet_outcome, is_of, without_first}
use Rattle.server_model.specs.declared.fault.ServerFault.{ServerFault}
use Rattle.world_host.specs.Logging.{heard}

abbrev pub quiet : World → World
quiet w = record w { answers = w.answers ++ told.Took quiet_outcome ∷ [] }

-- a call at a server, with an object of this kind or none, where this stock is left
abbrev pub serving : World → ℕ → ℕ → ℕ → ℕ → Operation → List Kind → Option Kind → Option Instance → Result World Stop
serving w s inc act n op stock kind None = Err NotEnabled
serving w s inc act n op stock kind (Some i) =
    Ok (served w s inc act n i stock (on_call i.core (in_session s (Call inc act n op)) kind))

abbrev pub carried_call : World → ℕ → ℕ → ℕ → ℕ → Operation → Plan → Result World Stop
carried_call w s inc act n op Quiet = Ok (quiet w)
carried_call w s inc act n op (Tell link) = Err NotEnabled
carried_call w s inc act n op (Serve i) = serving w s inc act n op w.stock None (slice_get w.instances i)
carried_call w s inc act n op (Begin i at) = serving w s inc act n op (remove w.stock at) (slice_get w.stock at)
    (slice_get w.instances i)

abbrev pub carried_said : World → Message → Said → Plan → Result World Stop
carried_said w m (Call inc act n op) plan = carried_call w m.session inc act n op plan
carried_said w m (Reply inc act n answer) plan = Ok (took w (on_message w.rec (link_of m) m))
carried_said w m (Write inc act s number content) plan = Ok (took w (on_message w.rec (link_of m) m))
carried_said w m (Ask inc act g) plan = Ok (took w (on_message w.rec (link_of m) m))

abbrev pub carried : World → Message → Plan → Result World Stop
carried w m plan = carried_said w m m.said plan

-- the same for the message at a place, where what the container takes is logged
abbrev pub logged_said : World → ℕ → Message → Said → Plan → Result World Stop
logged_said w p m (Call inc act n op) plan = carried_call w m.session inc act n op plan
logged_said w p m (Reply inc act n answer) plan = Ok (heard w (Some p) (link_of m) m)
logged_said w p m (Write inc act s number content) plan = Ok (heard w (Some p) (link_of m) m)
logged_said w p m (Ask inc act g) plan = Ok (heard w (Some p) (link_of m) m)

abbrev pub logged : World → ℕ → Message → Plan → Result World Stop
logged w p m plan = logged_said w p m m.said plan

-- what is made of a world that takes no more events than it may
abbrev pub carry_call : World → ℕ → ℕ → ℕ → ℕ → Operation → Plan → Result World Stop
carry_call w s inc act n op plan = limited w (carried_call w s inc act n op plan)

abbrev pub carry : World → ℕ → Message → Plan → Result World Stop
carry w p message plan = limited w (logged w p message plan)

-- a message that comes to the container
abbrev pub tell : World → ℕ → ServerLink → Message → Result World Stop
tell w p link message = limited w (Ok (heard w (Some p) link message))

-- a message that comes on the link of a server, whether or not it was sent
abbrev pub forging : World → ℕ → Message → Result World Stop
forging w inc message = limited w (Ok (forged_on w inc message))

-- an activation of a server sends a message of its own accord
abbrev pub speaking : World → ℕ → ℕ → (Server → Result Told ServerFault) → Option Instance → Result World Stop
speaking w inc act speak None = Err NotEnabled
speaking w inc act speak (Some i) = Ok (spoken_by w inc act i (speak i.core))

-- it writes, or asks to be relieved of its frame
abbrev pub scribbling : World → ℕ → ℕ → Option Instance → Result World Stop
scribbling w inc act i = speaking w inc act (λ (v : Server). scribble v act) i

abbrev pub asking : World → ℕ → ℕ → Option Instance → Result World Stop
asking w inc act i = speaking w inc act (λ (v : Server). ask_deactivate v act) i

-- the places that a plan names are those of the server that is called, and of an object in stock
abbrev pub FitsCall : World → ℕ → Plan → Type 0
FitsCall w inc Quiet = Unit {0}
FitsCall w inc (Tell link) = ⊥
FitsCall w inc (Serve i) = IsNth inc w.instances i
FitsCall w inc (Begin i at) = IsNth inc w.instances i × (at < length w.stock)

abbrev pub FitsTold : ℕ → Plan → Type 0
FitsTold inc Quiet = ⊥
FitsTold inc (Tell link) = link ≡ inc
FitsTold inc (Serve i) = ⊥
FitsTold inc (Begin i at) = ⊥

abbrev pub FitsSaid : World → Said → Plan → Type 0
FitsSaid w (Call inc act n op) plan = FitsCall w inc plan
FitsSaid w (Reply inc act n answer) plan = FitsTold inc plan
FitsSaid w (Write inc act s number content) plan = FitsTold inc plan
FitsSaid w (Ask inc act g) plan = FitsTold inc plan

abbrev pub Fits : World → Message → Plan → Type 0
Fits w m plan = FitsSaid w m.said plan

-- the first object of a class stands at i
pub record IsFirst (class : List ℕ) (stock : List Kind) (i : ℕ) : Type 0 where
  pub fits : i < length stock
  pub found : find (is_of class) stock ≡ slice_get stock i
  pub out : without_first (is_of class) stock ≡ remove stock i

-- a stock with an object at a place, or none more
abbrev pub stock_with : List Kind → ℕ → Option Kind → List Kind
stock_with stock at None = stock
stock_with stock at (Some kind) = insert stock at kind

-- a call of this server
abbrev pub IsCallOf : ℕ → Said → Type 0
IsCallOf link (Call inc act n op) = link ≡ inc
IsCallOf link (Reply inc act n answer) = ⊥
IsCallOf link (Write inc act s number content) = ⊥
IsCallOf link (Ask inc act g) = ⊥
