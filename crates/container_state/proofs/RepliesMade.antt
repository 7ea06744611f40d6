-- The record after a reply.
use Rattle.std.proofs.Common.{◌≡◌, ℕ, ◌<◌, zero, suc, arith, length, Bool, true, false, List, [], ◌∷◌, ◌++◌, map}
use Rattle.std.proofs.Common.{Option, Some, None, Result, Ok, Err, refl, ap, sym, ◌∙◌}
use Rattle.std.proofs.lemmas.List.{append-nil, map-append}
use Rattle.std.specs.Prelude.{IfSome, IsOk, IsSomeAnd, is_some, slice_get}
use Rattle.message_values.specs.Found.{find, nth, put, IsPlace}
use Rattle.message_values.specs.declared.answer.Answer.{Answer}
use Rattle.object_state.specs.declared.grant_states.Claim.{Claim}
use Rattle.container_links.specs.Handing.{answers}
use Rattle.container_links.specs.Relieving.{gives_up}
use Rattle.container_model.specs.declared.answer.Action.{Action}
use Rattle.container_model.specs.declared.answer.Action.TheVariants.{Send}
use Rattle.container_model.specs.declared.answer.Answer as told_answer
use Rattle.container_model.specs.declared.fault.ContainerFault.{ContainerFault}
use Rattle.container_model.specs.declared.fault.ContainerFault.TheVariants.{NoSuch, Busy, NotRunning, InDoubt}
use Rattle.container_model.specs.declared.fault.ContainerFault.TheVariants.{WrongLink, Stale, Full, NumbersSpent}
use Rattle.container_model.specs.declared.fault.ContainerFault.TheVariants.{WrongState, BadFile, BadAnswer}
use Rattle.container_model.specs.declared.fault.ContainerFault.TheVariants.{UnknownClass, NoMemory}
use Rattle.container_model.specs.declared.record.Frame.{Frame}
use Rattle.container_model.specs.declared.record.Object.{Object}
use Rattle.container_model.specs.HandOffs.{is_answered}
use Rattle.container_model.specs.Messages.{Replied, next_sent, replied_grant, replied_record, reply_found, reply_link}
use Rattle.container_model.specs.Messages.{reply_made, reply_taken}
use Rattle.container_model.specs.Record.{Record, Refuses, Took, is_linked, quiet_answer, sends}
use Rattle.container_model.specs.Saves.{settle, settle_actions, settled_actions, settled_frames}
use Rattle.container_grants.specs.Granted.{actions_of, claims_if, installed_each, ready, told_frames, told_space_in}
use Rattle.container_objects.specs.Told.{ToldObject, told_of}
use Rattle.container_grants.proofs.GrantsEach.{Agrees, Differ, actions_are, granted_objects, granted_sent}
use Rattle.container_grants.proofs.GrantsEach.{installed_each_is}
use Rattle.container_grants.proofs.GrantsTold.{claims_are, regranted_is}

-- what a reply gives of which this is told
abbrev told_grants : Record → ℕ → ToldObject → List Object → List Claim → Record
told_grants r f t os claims = record r { frames = told_frames f t.grant r.frames; objects = granted_objects os claims }

abbrev made : Record → ℕ → List Object → List Claim → ToldObject → Took
made r f os claims t = record {
  rec = settle (told_grants r f t os claims);
  answer = record quiet_answer {
    taken = t.taken;
    refused = t.refused;
    no_tools = told_space_in t.grant (nth r.frames f);
    actions = (t.actions ++ sends (granted_sent os claims))
        ++ settle_actions (told_grants r f t os claims);
  };
  counted = [];
}

abbrev told_in : ToldObject → Result ToldObject ContainerFault → ToldObject
told_in d (Ok t) = t
told_in d (Err fault) = d

abbrev told_from : Object → Replied → ToldObject
told_from o x = told_in (record { object = o; taken = false; refused = None; grant = None; actions = [] })
    (told_of o (Ok x))

made_is : (r : Record) (inc act : ℕ) (o : Object) (x : Replied) → is_answered o.link x.link ≡ false
    → reply_made r inc act o x
    ≡ made r o.frame (put (is_linked inc act) (told_from o x).object r.objects)
    (claims_if (gives_up (Ok x)) (nth r.frames o.frame)) (told_from o x)
made_is r inc act o x quiet =
    let q : Record = replied_record r inc act o x in
    rw (
      quiet,
      append-nil (next_sent x.link ++ (replied_grant r inc act o x).sent),
      regranted_is q o.frame x.grant,
      claims_are x (nth r.frames o.frame),
      map-append Send (next_sent x.link)
          (granted_sent q.objects (claims_if (gives_up (Ok x)) (nth r.frames o.frame))),
    ) refl

taken_found : (r : Record) (inc act : ℕ) (o : Object) (R : Result Replied ContainerFault) (t : ToldObject)
    → answers o.link R ≡ false → told_of o R ≡ Ok t
    → reply_taken r inc act o R ≡ Ok (made r o.frame (put (is_linked inc act) t.object r.objects)
    (claims_if (gives_up R) (nth r.frames o.frame)) t)
taken_found r inc act o (Err fault) t quiet e = cc
taken_found r inc act o (Ok x) t quiet e =
    ap {A = Took} Ok (made_is r inc act o x quiet)
    ∙ ap (λ (u : ToldObject). Ok (made r o.frame (put (is_linked inc act) u.object r.objects)
    (claims_if (gives_up (Ok x)) (nth r.frames o.frame)) u)) (ap (told_in t) e)

taken_fine : (r : Record) (inc act : ℕ) (o : Object) (R : Result Replied ContainerFault)
    → is_some (gives_up R) ≡ true → IsOk (reply_taken r inc act o R)
taken_fine r inc act o (Err fault) h = absurd (cc)
taken_fine r inc act o (Ok x) h = refl

-- why a reply is refused
taken_spent : (r : Record) (inc act : ℕ) (o : Object) (R : Result Replied ContainerFault) → IsOk R
    → IsOk (reply_taken r inc act o R)
taken_spent r inc act o (Err fault) h = absurd (cc)
taken_spent r inc act o (Ok x) h = refl

taken_refused : (r : Record) (inc act : ℕ) (o : Object) (R : Result Replied ContainerFault) (fault : ContainerFault)
    → Refuses R fault → Refuses (reply_taken r inc act o R) fault
taken_refused r inc act o R NoMemory h = taken_spent r inc act o R h
taken_refused r inc act o R NoSuch h = ap (reply_taken r inc act o) h
taken_refused r inc act o R Busy h = ap (reply_taken r inc act o) h
taken_refused r inc act o R NotRunning h = ap (reply_taken r inc act o) h
taken_refused r inc act o R InDoubt h = ap (reply_taken r inc act o) h
taken_refused r inc act o R WrongLink h = ap (reply_taken r inc act o) h
taken_refused r inc act o R Stale h = ap (reply_taken r inc act o) h
taken_refused r inc act o R Full h = ap (reply_taken r inc act o) h
taken_refused r inc act o R NumbersSpent h = ap (reply_taken r inc act o) h
taken_refused r inc act o R WrongState h = ap (reply_taken r inc act o) h
taken_refused r inc act o R BadFile h = ap (reply_taken r inc act o) h
taken_refused r inc act o R BadAnswer h = ap (reply_taken r inc act o) h
taken_refused r inc act o R UnknownClass h = ap (reply_taken r inc act o) h

pub reply_refused : (r : Record) (inc act n : ℕ) (answer : Answer) (o : Object) (fault : ContainerFault)
    → find (is_linked inc act) r.objects ≡ Some o → Refuses (reply_link n answer o.link) fault
    → Refuses (reply_found r inc act n answer (find (is_linked inc act) r.objects)) fault
reply_refused r inc act n answer o fault found h =
    rw found (taken_refused r inc act o (reply_link n answer o.link) fault h)

-- what a reply makes of the record
module _ (r : Record) (inc act n : ℕ) (answer : Answer) (o : Object) (t : ToldObject) (os : List Object)
    (gives : Option ℕ)
    (found : find (is_linked inc act) r.objects ≡ Some o)
    (given : gives ≡ gives_up (reply_link n answer o.link))
    (quiet : answers o.link (reply_link n answer o.link) ≡ false) where
  abbrev claims : List Claim
  claims = claims_if gives (nth r.frames o.frame)

  pub reply_is : (installed : List Object) (frames last : List Frame) (actions all : List Action)
      (told : told_answer.Answer) (space : Bool)
      → told_of o (reply_link n answer o.link) ≡ Ok t
      → put (is_linked inc act) t.object r.objects ≡ os
      → Agrees r.objects os claims → Differ claims
      → installed ≡ installed_each (map (ready r.objects) claims) os
      → frames ≡ told_frames o.frame t.grant r.frames
      → space ≡ told_space_in t.grant (nth r.frames o.frame)
      → actions ≡ t.actions ++ actions_of (map (ready r.objects) claims)
      → last ≡ settled_frames 1 installed frames
      → all ≡ actions ++ settled_actions 1 installed frames
      → told ≡ record quiet_answer { taken = t.taken; refused = t.refused; no_tools = space; actions = all }
      → reply_found r inc act n answer (find (is_linked inc act) r.objects)
      ≡ Ok (record { rec = record r { frames = last; objects = installed }; answer = told; counted = [] })
  reply_is installed frames last actions all told space e puts agrees differ objects moved spaced sent settled asked
      answered =
      let granted : installed ≡ granted_objects os claims = objects ∙ installed_each_is r.objects claims os agrees
      differ in
      let sends_is : actions_of (map (ready r.objects) claims) ≡ sends (granted_sent os claims) =
      actions_are r.objects claims os agrees differ in
      let whole : reply_taken r inc act o (reply_link n answer o.link) ≡ Ok (made r o.frame os claims t) =
      taken_found r inc act o (reply_link n answer o.link) t quiet e
      ∙ (ap (λ xs. Ok (made r o.frame xs (claims_if (gives_up (reply_link n answer o.link)) (nth r.frames o.frame))
      t)) puts
      ∙ ap (λ b. Ok (made r o.frame os (claims_if b (nth r.frames o.frame)) t)) (sym given)) in
      rw (found, whole, answered, asked, settled, sent, sends_is, spaced, moved, granted) refl

  pub reply_fine : is_some gives ≡ true → IsOk (reply_found r inc act n answer (find (is_linked inc act) r.objects))
  reply_fine e = rw found (taken_fine r inc act o (reply_link n answer o.link) (sym (ap is_some given) ∙ e))

-- a content that was awaited is taken
content_ok : (r : Record) (inc act : ℕ) (o : Object) (R : Result Replied ContainerFault) → answers o.link R ≡ true
    → IsOk (reply_taken r inc act o R)
content_ok r inc act o (Ok x) e = refl
content_ok r inc act o (Err fault) e = absurd (cc)

content_at : (r : Record) (inc act n : ℕ) (answer : Answer) (o : Option Object)
    → IsSomeAnd o (λ (y : Object). Unit {0})
    → IfSome o (λ (y : Object). answers y.link (reply_link n answer y.link) ≡ true)
    → IsOk (reply_found r inc act n answer o)
content_at r inc act n answer None h e = absurd h
content_at r inc act n answer (Some o) h e = content_ok r inc act o (reply_link n answer o.link) e

there_is : (os : List Object) (i : ℕ) → i < length os → IsSomeAnd (slice_get os i) (λ (y : Object). Unit {0})
there_is [] i lt = absurd (omega arith)
there_is (o ∷ os) zero lt = tt
there_is (o ∷ os) (suc i) lt = there_is os i (omega arith)

pub content_fine : (r : Record) (inc act n : ℕ) (answer : Answer) (i : ℕ) → IsPlace (is_linked inc act) r.objects i
    → IfSome (slice_get r.objects i) (λ (y : Object). answers y.link (reply_link n answer y.link) ≡ true)
    → IsOk (reply_found r inc act n answer (find (is_linked inc act) r.objects))
content_fine r inc act n answer i p e =
    rw p.found (content_at r inc act n answer (slice_get r.objects i) (there_is r.objects i p.fits) e)
