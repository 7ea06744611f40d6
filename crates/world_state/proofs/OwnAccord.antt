-- What an activation that writes, or asks to be relieved of its frame, makes of a world.
use Rattle.std.proofs.Common.{◌≡◌, ℕ, false, List, [], ◌∷◌, ◌++◌, Option, Some, None, Result, Ok, Err, length, refl, ap}
use Rattle.std.proofs.Common.{sym, ◌∙◌, slice_get, rules}
use Rattle.std.specs.Prelude.{nat_le, IsOk}
use Rattle.std.proofs.lemmas.List.{append-nil}
use Rattle.message_values.specs.Found.{nth, set_nth}
use Rattle.message_values.specs.declared.message.Message.{Message}
use Rattle.object_core.specs.Kinds.{Kind}
use Rattle.container_model.specs.Numbered.{IsNth}
use Rattle.server_model.specs.Server.{Server, Tells, Told}
use Rattle.server_model.specs.Server as server
use Rattle.server_model.specs.declared.fault.ServerFault.{ServerFault}
use Rattle.world_model.specs.declared.life.Life.TheVariants.{Running}
use Rattle.world_model.specs.declared.logs.View.{View}
use Rattle.world_model.specs.declared.logs.EventAnswer.TheVariants as told
use Rattle.world_model.specs.World.{World, Instance, MOST_EVENTS, ask, limited, scribble, spoken, spoken_by, view_in}
use Rattle.world_host.specs.Rooms.{replied}
use Rattle.world_state.specs.Plans.{asking, scribbling, speaking}
use Rattle.world_state.proofs.Lifts.{emptied}
use Rattle.world_state.proofs.Serving.{not_full}

-- a server that runs, and where it stands
pub writes : (w : World) (inc act i : ℕ) (z : Instance) → IsNth inc w.instances i → nth w.instances inc ≡ Some z
    → z.life ≡ Running → scribble w inc act (nth w.instances inc) ≡ scribbling w inc act (slice_get w.instances i)
writes w inc act i z p e r = ap (scribble w inc act) e
    ∙ (ap (λ l. spoken w inc act z l (server.scribble z.core act)) r
    ∙ ap (scribbling w inc act) (sym (sym p.found ∙ e)))

pub asks : (w : World) (inc act i : ℕ) (z : Instance) → IsNth inc w.instances i → nth w.instances inc ≡ Some z
    → z.life ≡ Running → ask w inc act (nth w.instances inc) ≡ asking w inc act (slice_get w.instances i)
asks w inc act i z p e r = ap (ask w inc act) e
    ∙ (ap (λ l. spoken w inc act z l (server.ask_deactivate z.core act)) r
    ∙ ap (asking w inc act) (sym (sym p.found ∙ e)))

-- what it sends, by the server's own step
module _ (speak : Server → Result Told ServerFault) where
  some : (w : World) (inc act : ℕ) (o : Option Instance) (z : Instance) → o ≡ Some z
      → nat_le MOST_EVENTS (length w.answers) ≡ false → limited w (speaking w inc act speak o)
      ≡ Ok (spoken_by w inc act z (speak z.core))
  some w inc act o z e free = ap (λ x. limited w (speaking w inc act speak x)) e
      ∙ not_full w (spoken_by w inc act z (speak z.core)) free

  pub speaks_allowed : (w : World) (inc act : ℕ) (o : Option Instance) (z : Instance) → o ≡ Some z
      → nat_le MOST_EVENTS (length w.answers) ≡ false → IsOk (limited w (speaking w inc act speak o))
  speaks_allowed w inc act o z e free = rw (some w inc act o z e free) (search rules)

  pub speaks_taken : (w b : World) (inc act : ℕ) (o : Option Instance) (z : Instance) (is : List Instance)
      (stock : List Kind) (after : Server) (view : Option View) (message : Message)
      → o ≡ Some z
      → nat_le MOST_EVENTS (length w.answers) ≡ false
      → Tells (speak z.core) after message
      → view ≡ view_in z.core act
      → b ≡ replied (emptied w) inc view message None
      → is ≡ set_nth w.instances inc (record z { core = after })
      → stock ≡ w.stock
      → limited w (speaking w inc act speak o) ≡ Ok (record b { instances = is; stock = stock })
  speaks_taken w b inc act o z is stock after view message e free t ev eb ei es =
      some w inc act o z e free
      ∙ (ap (λ r. Ok (spoken_by w inc act z r)) t
      ∙ rw (eb, ei, ev, es, append-nil w.server_done) refl)

  pub speaks_dropped : (w b : World) (inc act : ℕ) (o : Option Instance) (z : Instance) (is : List Instance)
      (stock : List Kind) (fault : ServerFault)
      → o ≡ Some z
      → nat_le MOST_EVENTS (length w.answers) ≡ false
      → speak z.core ≡ Err fault
      → b ≡ record (emptied w) { answers = w.answers ++ told.Dropped fault ∷ [] }
      → is ≡ w.instances
      → stock ≡ w.stock
      → limited w (speaking w inc act speak o) ≡ Ok (record b { instances = is; stock = stock })
  speaks_dropped w b inc act o z is stock fault e free t eb ei es =
      some w inc act o z e free
      ∙ (ap (λ r. Ok (spoken_by w inc act z r)) t
      ∙ rw (eb, ei, es) refl)
