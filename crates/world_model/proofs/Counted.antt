-- Each event that is taken is answered, and no more of them than a world takes.
use Rattle.std.proofs.Common.{◌≡◌, ◌≤◌, ◌<◌, ◌+◌, ◌++◌, ℕ, Bool, true, false, List, [], ◌∷◌, Option, Some, None, Result}
use Rattle.std.proofs.Common.{Ok, Err, length, refl, ap, arith, nat_le, cond, length-append, ◌==◌, if◌then◌else◌}
use Rattle.std.proofs.lemmas.Bool.Decides.{nat_tests}
use Rattle.object_core.specs.Kinds.{Kind}
use Rattle.message_values.specs.declared.message.Message.{Message}
use Rattle.message_values.specs.declared.message.Said.TheVariants.{Call, Reply, Write, Ask}
use Rattle.message_values.specs.declared.operation.Operation.{Operation}
use Rattle.message_values.specs.Found.{find, nth}
use Rattle.server_model.specs.Server.{Served, Told, on_call, wanted}
use Rattle.server_model.specs.Server as server
use Rattle.server_model.specs.declared.fault.ServerFault.{ServerFault}
use Rattle.container_model.specs.Commands.{on_command}
use Rattle.container_model.specs.Messages.{on_message, on_reap}
use Rattle.container_model.specs.Opens.{opened}
use Rattle.container_model.specs.Record.{Took}
use Rattle.container_model.specs.Saves.{commit_done, commit_failed, image, resolve}
use Rattle.container_model.specs.declared.answer.FrameDocument.{FrameDocument}
use Rattle.container_model.specs.declared.command.Command.{Command}
use Rattle.container_model.specs.declared.fault.ContainerFault.{ContainerFault}
use Rattle.container_model.specs.declared.record.Frame.{Frame}
use Rattle.world_model.specs.World.{World, Instance, took, commanded, served, stocked, called_wanting, called_in}
use Rattle.world_model.specs.World.{called, delivered, taken_at, with_taken, deliver, forged, forge, spoken_by, spoken}
use Rattle.world_model.specs.World.{scribble, ask, crashed, crash, ended, reap}
use Rattle.world_model.specs.World.{only_taken, resolved, happened, limited, Run, MOST_EVENTS, is_of, Choice}
use Rattle.world_model.specs.World.{in_session, delivered_said, link_of, link_to, in_run, done_with}
use Rattle.world_model.specs.declared.event.Event.{Event}
use Rattle.world_model.specs.declared.event.Event.TheVariants as event
use Rattle.world_model.specs.declared.event.Stop.{Stop}
use Rattle.world_model.specs.declared.event.Stop.TheVariants.{EventLimit, NotEnabled}
use Rattle.world_model.specs.declared.life.Life.{Life}
use Rattle.world_model.specs.declared.life.Life.TheVariants.{Running, Ended, Reaped}
use Rattle.world_model.specs.declared.logs.Sent.{Sent}
use Rattle.world_model.specs.declared.logs.Taken.{Taken}
use Rattle.world_model.specs.declared.logs.EventAnswer.{EventAnswer}
use Rattle.message_values.specs.declared.message.Said.{Said}

-- one more event was answered
abbrev More : World → World → Type 0
More w next = length next.answers ≡ length w.answers + 1

abbrev IfTaken : World → Result World Stop → Type 0
IfTaken w (Err stop) = Unit {0}
IfTaken w (Ok next) = More w next

more : (answers : List EventAnswer) (a : EventAnswer) → length (answers ++ a ∷ []) ≡ length answers + 1
more answers a = length-append answers (a ∷ [])

took-more : (w : World) (r : Result Took ContainerFault) → More w (took w r)
took-more w (Err fault) = more w.answers _
took-more w (Ok t) = more w.answers _

commanded-more : (w : World) (c : Command) (r : Result Took ContainerFault) → More w (commanded w c r)
commanded-more w c (Err fault) = more w.answers _
commanded-more w c (Ok t) = more w.answers _

served-more : (w : World) (s inc act n : ℕ) (i : Instance) (stock : List Kind) (r : Result Served ServerFault)
    → More w (served w s inc act n i stock r)
served-more w s inc act n i stock (Err fault) = more w.answers _
served-more w s inc act n i stock (Ok v) = more w.answers _

stocked-taken : (w : World) (s inc act n : ℕ) (op : Operation) (i : Instance) (class : List ℕ) (kind : Option Kind)
    → IfTaken w (stocked w s inc act n op i class kind)
stocked-taken w s inc act n op i class None = tt
stocked-taken w s inc act n op i class (Some kind) = served-more w s inc act n i _
    (on_call i.core (in_session s (Call inc act n op)) (Some kind))

called_wanting-taken : (w : World) (s inc act n : ℕ) (op : Operation) (i : Instance) (class : Option (List ℕ))
    → IfTaken w (called_wanting w s inc act n op i class)
called_wanting-taken w s inc act n op i None = served-more w s inc act n i w.stock
    (on_call i.core (in_session s (Call inc act n op)) None)
called_wanting-taken w s inc act n op i (Some class) = stocked-taken w s inc act n op i class
    (find (is_of class) w.stock)

called_in-taken : (w : World) (s inc act n : ℕ) (op : Operation) (i : Instance) (life : Life)
    → IfTaken w (called_in w s inc act n op i life)
called_in-taken w s inc act n op i Running = called_wanting-taken w s inc act n op i
    (wanted i.core (in_session s (Call inc act n op)))
called_in-taken w s inc act n op i Ended = more w.answers _
called_in-taken w s inc act n op i Reaped = more w.answers _

called-taken : (w : World) (s inc act n : ℕ) (op : Operation) (i : Option Instance)
    → IfTaken w (called w s inc act n op i)
called-taken w s inc act n op None = more w.answers _
called-taken w s inc act n op (Some i) = called_in-taken w s inc act n op i i.life

said-taken : (w : World) (m : Message) (said : Said) → IfTaken w (delivered_said w m said)
said-taken w m (Call inc act n op) = called-taken w m.session inc act n op (nth w.instances inc)
said-taken w m (Reply inc act n answer) = took-more w (on_message w.rec (link_of m) m)
said-taken w m (Write inc act s number content) = took-more w (on_message w.rec (link_of m) m)
said-taken w m (Ask inc act g) = took-more w (on_message w.rec (link_of m) m)

delivered-taken : (w : World) (m : Message) → IfTaken w (delivered w m)
delivered-taken w m = said-taken w m m.said

with_taken-taken : (w : World) (taken : List Taken) (r : Result World Stop) → IfTaken w r
    → IfTaken w (with_taken w taken r)
with_taken-taken w taken (Err stop) one = tt
with_taken-taken w taken (Ok next) one = one

deliver-taken : (w : World) (p : ℕ) (sent : Option Sent) → IfTaken w (deliver w p sent)
deliver-taken w p None = tt
deliver-taken w p (Some sent) = with_taken-taken w (taken_at w.rec (Some p) (link_of sent.message) sent.message)
    (delivered w sent.message) (delivered-taken w sent.message)

forged-taken : (w : World) (inc : ℕ) (m : Message) (life : Life) → IfTaken w (forged w inc m life)
forged-taken w inc m Running = took-more w (on_message w.rec (link_to w inc) m)
forged-taken w inc m Ended = took-more w (on_message w.rec (link_to w inc) m)
forged-taken w inc m Reaped = tt

forge-taken : (w : World) (inc : ℕ) (m : Message) (i : Option Instance) → IfTaken w (forge w inc m i)
forge-taken w inc m None = tt
forge-taken w inc m (Some i) = forged-taken w inc m i.life

spoken_by-more : (w : World) (inc act : ℕ) (i : Instance) (r : Result Told ServerFault)
    → More w (spoken_by w inc act i r)
spoken_by-more w inc act i (Err fault) = more w.answers _
spoken_by-more w inc act i (Ok t) = more w.answers _

spoken-taken : (w : World) (inc act : ℕ) (i : Instance) (life : Life) (r : Result Told ServerFault)
    → IfTaken w (spoken w inc act i life r)
spoken-taken w inc act i Running r = spoken_by-more w inc act i r
spoken-taken w inc act i Ended r = tt
spoken-taken w inc act i Reaped r = tt

scribble-taken : (w : World) (inc act : ℕ) (i : Option Instance) → IfTaken w (scribble w inc act i)
scribble-taken w inc act None = tt
scribble-taken w inc act (Some i) = spoken-taken w inc act i i.life (server.scribble i.core act)

ask-taken : (w : World) (inc act : ℕ) (i : Option Instance) → IfTaken w (ask w inc act i)
ask-taken w inc act None = tt
ask-taken w inc act (Some i) = spoken-taken w inc act i i.life (server.ask_deactivate i.core act)

crashed-taken : (w : World) (inc : ℕ) (i : Instance) (life : Life) → IfTaken w (crashed w inc i life)
crashed-taken w inc i Running = more w.answers _
crashed-taken w inc i Ended = tt
crashed-taken w inc i Reaped = tt

crash-taken : (w : World) (inc : ℕ) (i : Option Instance) → IfTaken w (crash w inc i)
crash-taken w inc None = tt
crash-taken w inc (Some i) = crashed-taken w inc i i.life

ended-taken : (w : World) (inc : ℕ) (i : Instance) (life : Life) → IfTaken w (ended w inc i life)
ended-taken w inc i Running = tt
ended-taken w inc i Ended = took-more _ (on_reap w.rec inc)
ended-taken w inc i Reaped = tt

reap-taken : (w : World) (inc : ℕ) (i : Option Instance) → IfTaken w (reap w inc i)
reap-taken w inc None = tt
reap-taken w inc (Some i) = ended-taken w inc i i.life

done_with-taken : (w : World) (f : ℕ) (bytes : List ℕ) (frame : Option Frame)
    (saved : Result FrameDocument ContainerFault) (r : Result Took ContainerFault)
    → IfTaken w (done_with w f bytes frame saved r)
done_with-taken w f bytes None saved r = tt
done_with-taken w f bytes (Some frame) (Err fault) r = tt
done_with-taken w f bytes (Some frame) (Ok saved) (Err fault) = tt
done_with-taken w f bytes (Some frame) (Ok saved) (Ok t) = more w.answers _

only_taken-taken : (w : World) (r : Result Took ContainerFault) → IfTaken w (only_taken w r)
only_taken-taken w (Err fault) = tt
only_taken-taken w (Ok t) = more w.answers _

resolved-taken : (w : World) (f : ℕ) (is_kept : Bool) (bytes : List ℕ) → IfTaken w (resolved w f is_kept bytes)
resolved-taken w f true bytes = done_with-taken w f bytes (nth w.rec.frames f) (image w.rec f) (resolve w.rec f true)
resolved-taken w f false bytes = only_taken-taken w (resolve w.rec f false)

run-taken : (w : World) (s : ℕ) (r : Result World Stop) → IfTaken w r → IfTaken w (in_run w s r)
run-taken w s r one = elim (s == w.rec.session) as (λ b. IfTaken w (if b then r else Err NotEnabled)) [
  | true ↦
      one
  | false ↦ tt
]

happened-taken : (w : World) (choice : Choice) (e : Event) → IfTaken w (happened w choice e)
happened-taken w choice (event.Command c) = commanded-more w c (on_command w.rec c)
happened-taken w choice (event.Deliver p) = deliver-taken w p (nth w.sent p)
happened-taken w choice (event.Forge inc m) = forge-taken w inc m (nth w.instances inc)
happened-taken w choice (event.Crash s inc) = run-taken w s (crash w inc (nth w.instances inc))
    (crash-taken w inc (nth w.instances inc))
happened-taken w choice (event.Reap inc) = reap-taken w inc (nth w.instances inc)
happened-taken w choice (event.Done f) = done_with-taken w f choice.file (nth w.rec.frames f) (image w.rec f)
    (commit_done w.rec f)
happened-taken w choice (event.Fail f) = only_taken-taken w (commit_failed w.rec f)
happened-taken w choice (event.Resolve f is_kept) = resolved-taken w f is_kept choice.file
happened-taken w choice (event.Open name width height) = took-more w (opened w.rec name width height choice.given)
happened-taken w choice (event.Ask s inc act) = run-taken w s (ask w inc act (nth w.instances inc))
    (ask-taken w inc act (nth w.instances inc))
happened-taken w choice (event.Scribble s inc act) = run-taken w s (scribble w inc act (nth w.instances inc))
    (scribble-taken w inc act (nth w.instances inc))

limited-few : (w next : World) (r : Result World Stop) → IfTaken w r → limited w r ≡ Ok next
    → length next.answers ≤ MOST_EVENTS
limited-few w next (Err stop) one is = absurd (cc)
limited-few w next (Ok after) one is =
    let told : (Bool → Result World Stop) = λ b. cond b (Err EventLimit) (Ok after) in
    let P : Bool → Type 0 = λ b. nat_le MOST_EVENTS (length w.answers) ≡ b → told b ≡ Ok next
    → length next.answers ≤ MOST_EVENTS in
    let cases : P (nat_le MOST_EVENTS (length w.answers)) =
    elim (nat_le MOST_EVENTS (length w.answers)) as P [
      | true ↦ λ over e. absurd (cc)
      | false ↦ λ under e.
          let same : after ≡ next = cc in
          let below : length w.answers < MOST_EVENTS = grind (arith, nat_tests) in
          omega (arith, one, ap (λ v. length v.answers) same)
    ] in
    cases refl is

pub run-few : (es : List Event) (w after : World) → length w.answers ≤ MOST_EVENTS → Run w es after
    → length after.answers ≤ MOST_EVENTS
run-few [] w after few same = omega (arith, few, ap (λ v. length v.answers) same)
run-few (e ∷ es) w after few run =
    run-few es run.1 after (limited-few w run.1 (happened w run.0 e) (happened-taken w run.0 e) run.3) run.4
