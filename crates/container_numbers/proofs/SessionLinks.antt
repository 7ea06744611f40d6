-- An activation stays in its session, whatever it is asked and answers, and so do the calls that are sent to it.
use Rattle.std.proofs.Common.{◌==◌, ◌+◌, ℕ, Bool, List, [], ◌∷◌, ◌++◌, Option, Some, None, Result, Ok, Err, ◌∙◌}
use Rattle.std.specs.Prelude.{IfOk, IfSome}
use Rattle.std.specs.List.{AllByRecursion}
use Rattle.message_values.specs.Found.{find}
use Rattle.message_values.specs.declared.answer.Answer.{Answer}
use Rattle.message_values.specs.declared.message.Message.{Message}
use Rattle.message_values.specs.declared.operation.Operation.{Operation}
use Rattle.message_values.specs.declared.operation.Operation.TheVariants.{SaveDropped}
use Rattle.container_model.specs.declared.answer.Action.{Action}
use Rattle.container_model.specs.declared.answer.Action.TheVariants.{Commit}
use Rattle.container_model.specs.declared.fault.ContainerFault.{ContainerFault}
use Rattle.container_model.specs.declared.fault.ContainerFault.TheVariants.{Stale}
use Rattle.container_model.specs.declared.record.Frame.{Frame}
use Rattle.container_model.specs.declared.record.Link.{Link}
use Rattle.container_model.specs.declared.record.Object.{Object}
use Rattle.container_model.specs.Messages.{Replied, next_at, next_link, next_sent, reaped_object, replied_fitting}
use Rattle.container_model.specs.Messages.{reply_link, reply_pending}
use Rattle.container_model.specs.Record.{Asked, Record, ask, ask_at, ask_each, asked_all, asked_link, asked_object}
use Rattle.container_model.specs.Record.{asked_sent, sends}
use Rattle.container_model.specs.Room.{IfLinked}
use Rattle.container_model.specs.Saves.{cleared, completed, completion, counted_object, dropped_object}
use Rattle.container_model.specs.Saves.{forgotten_object, is_ready, kept, settle_actions, settled_action}
use Rattle.container_model.specs.Saves.{settled_actions}
use Rattle.container_steady.proofs.SteadyTells.{if_told}
use Rattle.container_numbers.specs.Sessions.{IsInSession, IsOf, SendsIn}
use Rattle.container_numbers.proofs.SoundReplies.{Grown, IsFine, fitting_fine}

-- ---- objects, calls and actions in a session
abbrev pub In : ℕ → Object → Type 0
In s o = IsInSession s o.link

abbrev pub AllIn : ℕ → List Object → Type 0
AllIn s os = AllByRecursion (In s) os

abbrev pub SentIn : ℕ → List Message → Type 0
SentIn s ms = AllByRecursion (λ (m : Message). IsOf s m.session) ms

abbrev pub ActsIn : ℕ → List Action → Type 0
ActsIn s actions = AllByRecursion (SendsIn s) actions

-- two lists, one after the other
pub each_after : {A : Type 0} (P : A → Type 0) (xs ys : List A) → AllByRecursion P xs → AllByRecursion P ys
    → AllByRecursion P (xs ++ ys)
each_after P [] ys h k = k
each_after P (x ∷ xs) ys h k = (h.0, each_after P xs ys h.1 k)

pub sent_after : (s : ℕ) (ms ns : List Message) → SentIn s ms → SentIn s ns → SentIn s (ms ++ ns)
sent_after s ms ns h k = each_after (λ (m : Message). IsOf s m.session) ms ns h k

-- what is found in a list
pub if_found : {A : Type 0} (P : A → Type 0) (test : A → Bool) (xs : List A) → AllByRecursion P xs
    → IfSome (find test xs) P
if_found P test [] h = tt
if_found P test (x ∷ xs) h = if_told (λ z. IfSome z P) (test x) (Some x) (find test xs) (λ t. h.0)
    (λ t. if_found P test xs h.1)

-- ---- operations that are asked
abbrev pub AskedIn : ℕ → Asked → Type 0
AskedIn s a = IsOf s a.link.session × SentIn s a.sent

asks_at : (s : ℕ) (l : Link) (op : Operation) (pending : Option Operation) → IsOf s l.session
    → AskedIn s (ask_at l op pending)
asks_at s l op None h = (h, (h, tt))
asks_at s l op (Some before) h = (h, tt)

pub asks : (s : ℕ) (l : Link) (op : Operation) → IsOf s l.session → AskedIn s (ask l op)
asks s l op h = asks_at s l op l.pending h

pub asks_each : (s : ℕ) (l : Link) (ops : List Operation) → IsOf s l.session → AskedIn s (ask_each l ops)
asks_each s l [] h = (h, tt)
asks_each s l (op ∷ ops) h =
    let first = asks s l op h in
    let next = asks_each s (ask l op).link ops first.0 in
    (next.0, sent_after s (ask l op).sent (ask_each (ask l op).link ops).sent first.1 next.1)

pub asks_link : (s : ℕ) (op : Operation) (link : Option Link) → IsInSession s link → IsInSession s (asked_link op link)
asks_link s op None h = tt
asks_link s op (Some l) h = (asks s l op h).0

pub asks_sent : (s : ℕ) (op : Operation) (link : Option Link) → IsInSession s link → SentIn s (asked_sent op link)
asks_sent s op None h = tt
asks_sent s op (Some l) h = (asks s l op h).1

pub asks_object : (s f : ℕ) (op : Operation) (o : Object) → In s o → In s (asked_object f op o)
asks_object s f op o h = if_told (In s) (o.frame == f) (record o { link = asked_link op o.link }) o
    (λ t. asks_link s op o.link h) (λ t. h)

pub asks_all : (s f : ℕ) (op : Operation) (os : List Object) → AllIn s os → SentIn s (asked_all f op os)
asks_all s f op [] h = tt
asks_all s f op (o ∷ os) h =
    let rest = asks_all s f op os h.1 in
    if_told (SentIn s) (o.frame == f) (asked_sent op o.link ++ asked_all f op os) (asked_all f op os)
    (λ t. sent_after s (asked_sent op o.link) (asked_all f op os) (asks_sent s op o.link h.0) rest) (λ t. rest)

-- ---- saves that are counted or dropped
clears : (s : ℕ) (link : Option Link) → IsInSession s link → IsInSession s (cleared link)
clears s None h = tt
clears s (Some l) h = h

pub completes : (s f : ℕ) (frame : Frame) (o : Object) → In s o → In s (completed f frame o)
completes s f frame o h =
    asks_object s f (completion frame) (counted_object f o)
    (if_told (In s) (o.frame == f) (record o { work = kept o; link = cleared o.link }) o
    (λ t. clears s o.link h) (λ t. h))

pub drops : (s f : ℕ) (frame : Frame) (o : Object) → In s o → In s (dropped_object f frame o)
drops s f frame o h =
    asks_object s f (SaveDropped frame.k) (forgotten_object f o)
    (if_told (In s) (o.frame == f) (record o { link = cleared o.link }) o (λ t. clears s o.link h) (λ t. h))

-- ---- the end of a server
pub ends : (s inc : ℕ) (o : Object) (link : Option Link) → In s o → In s (reaped_object inc o link)
ends s inc o None h = h
ends s inc o (Some l) h = if_told (In s) (l.inc == inc) (record o { work = kept o; link = None }) o (λ t. tt) (λ t. h)

-- ---- an answer
next_call : (s : ℕ) (l : Link) (ops : List Operation) → IsOf s l.session → IsOf s (next_at l ops).link.session
    × SentIn s (next_at l ops).sent
next_call s l [] h = (h, tt)
next_call s l (op ∷ ops) h = (h, (h, tt))

pub next_in : (s : ℕ) (link : Option Link) → IsInSession s link → IsInSession s (next_link link)
next_in s None h = tt
next_in s (Some l) h = (next_call s l l.waiting h).0

pub calls_in : (s : ℕ) (link : Option Link) → IsInSession s link → SentIn s (next_sent link)
calls_in s None h = tt
calls_in s (Some l) h = (next_call s l l.waiting h).1

abbrev pub RepliedIn : ℕ → Result Replied ContainerFault → Type 0
RepliedIn s told = IfOk told (λ (re : Replied). IsInSession s re.link)

grown_in : (s : ℕ) (l : Link) (link : Option Link) → IsOf s l.session → IfLinked (Grown l) link → IsInSession s link
grown_in s l None h g = tt
grown_in s l (Some next) h g = (g.session ∙ h.0, h.1)

fine_in : (s : ℕ) (l : Link) (told : Result Replied ContainerFault) → IsOf s l.session → IsFine l told
    → RepliedIn s told
fine_in s l (Err fault) h g = tt
fine_in s l (Ok re) h g = grown_in s l re.link h g

pending_in : (s n : ℕ) (answer : Answer) (l : Link) (pending : Option Operation) → IsOf s l.session
    → RepliedIn s (reply_pending l n answer pending)
pending_in s n answer l None h = tt
pending_in s n answer l (Some op) h =
    if_told (RepliedIn s) (n == l.last) (replied_fitting l op answer) (Err Stale)
    (λ t. fine_in s l (replied_fitting l op answer) h (fitting_fine l op answer)) (λ t. tt)

pub answers_in : (s n : ℕ) (answer : Answer) (link : Option Link) → IsInSession s link
    → RepliedIn s (reply_link n answer link)
answers_in s n answer None h = tt
answers_in s n answer (Some l) h = pending_in s n answer l l.pending h

-- ---- actions
pub sends_in : (s : ℕ) (ms : List Message) → SentIn s ms → ActsIn s (sends ms)
sends_in s [] h = tt
sends_in s (m ∷ ms) h = (h.0, sends_in s ms h.1)

settles : (s f : ℕ) (os : List Object) (frames : List Frame) → ActsIn s (settled_actions f os frames)
settles s f os [] = tt
settles s f os (x ∷ xs) =
    each_after (SendsIn s) (settled_action f os x) (settled_actions (f + 1) os xs)
    (if_told (ActsIn s) (is_ready f os x) (Commit f ∷ []) [] (λ t. (tt, tt)) (λ t. tt))
    (settles s (f + 1) os xs)

pub acts_in : (s : ℕ) (ms : List Message) (r : Record) → SentIn s ms → ActsIn s (sends ms ++ settle_actions r)
acts_in s ms r h = each_after (SendsIn s) (sends ms) (settle_actions r) (sends_in s ms h)
    (settles s 1 r.objects r.frames)
