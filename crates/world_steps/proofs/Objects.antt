-- Links by the numbers of their objects, after changes of a record; and what a step's actions send and start.
use Rattle.std.proofs.Common.{◌≡◌, ◌≢◌, ℕ, ◌+◌, Bool, true, false, List, [], ◌∷◌, ◌++◌, map, Option, Some, None}
use Rattle.std.proofs.Common.{option_map, refl, sym, ap, ◌∙◌, if◌then◌else◌}
use Rattle.std.specs.Prelude.{IfSome}
use Rattle.std.proofs.lemmas.Bool.{eqb-true}
use Rattle.std.proofs.lemmas.List.{append-nil}
use Rattle.message_values.specs.Found.{find, put, nth}
use Rattle.message_values.specs.declared.message.Message.{Message}
use Rattle.container_model.specs.Record.{Record, is_object, sends}
use Rattle.container_model.specs.Saves.{settled_action, settled_actions, is_ready}
use Rattle.container_model.specs.declared.answer.Action.{Action}
use Rattle.container_model.specs.declared.answer.Action.TheVariants.{Send, Start, End, Commit}
use Rattle.container_model.specs.declared.record.Frame.{Frame}
use Rattle.container_model.specs.declared.record.Link.{Link}
use Rattle.container_model.specs.declared.record.Object.{Object}
use Rattle.container_queues.specs.Roles.{role_in}
use Rattle.container_queues.specs.Steady.{EachPair, InOrder, SteadyLink, SteadyObject, Steady, WaitsBehind}
use Rattle.container_queues.proofs.SteadyLookups.{each_found}
use Rattle.container_steady.proofs.SteadyRecords.{if_at, some_and}
use Rattle.container_steady.proofs.SteadyFinds.{found_by_number, put_by_number, find-put_same, find-put_other, find-map}
use Rattle.world_model.specs.World.{Instance, messages_of, of_container, started_by, ended_by}
use Rattle.world_model.specs.declared.logs.Sent.{Sent}
use Rattle.world_model.specs.Safe.{link_at, links_of, sayings}
use Rattle.world_facts.specs.Words.{Links, all_said, sayings_of}
use Rattle.world_facts.proofs.Lookups.{find_passes}

-- a link is an object's, in a frame, and steady there
pub record IsHeld (r : Record) (n : ℕ) (l : Link) : Type 0 where
  pub object : Object
  pub frame : Frame
  pub found : find (is_object n) r.objects ≡ Some object
  pub linked : object.link ≡ Some l
  pub framed : nth r.frames object.frame ≡ Some frame
  pub steady : SteadyLink r.servers r.last_act frame.phase frame.asked frame.k (role_in frame.ui.state object.number) l

pub found_held : (r : Record) (n : ℕ) (l : Link) (o : Object) → Steady r → find (is_object n) r.objects ≡ Some o
    → o.link ≡ Some l → IsHeld r n l
found_held r n l o s e is =
    let h = each_found (SteadyObject r) (is_object n) r.objects o s.objects e in
    let f =
    some_and (λ (frame : Frame). IfSome o.link
    (SteadyLink r.servers r.last_act frame.phase frame.asked frame.k (role_in frame.ui.state o.number)))
    (nth r.frames o.frame) h.linked in
    record {
      object = o;
      frame = f.0;
      found = e;
      linked = is;
      framed = f.1;
      steady = if_at (SteadyLink r.servers r.last_act f.0.phase f.0.asked f.0.k (role_in f.0.ui.state o.number))
          o.link l is f.2;
    }

pub linked_object : (os : List Object) (n : ℕ) (l : Link) → links_of os n ≡ Some l → (o : Object)
    × (find (is_object n) os ≡ Some o) × (o.link ≡ Some l)
linked_object os n l e = at (find (is_object n) os) refl e
  where
    at : (o : Option Object) → find (is_object n) os ≡ o → link_at o ≡ Some l → (x : Object)
        × (find (is_object n) os ≡ Some x) × (x.link ≡ Some l)
    at None f q = cc
    at (Some x) f q = (x, f, q)

pub link_held : (r : Record) (n : ℕ) (l : Link) → Steady r → links_of r.objects n ≡ Some l → IsHeld r n l
link_held r n l s e = (let o = linked_object r.objects n l e in found_held r n l o.0 s o.1 o.2)

-- no operation waits where none is pending, at any link
abbrev pub Waits : Links → Type 0
Waits links = (o : ℕ) (l : Link) → links o ≡ Some l → WaitsBehind l.pending l.waiting

pub steady_waits : (r : Record) → Steady r → Waits (links_of r.objects)
steady_waits r s o l e = (link_held r o l s e).steady.waits_behind

pub found_number : (os : List Object) (n : ℕ) (o : Object) → find (is_object n) os ≡ Some o → o.number ≡ n
found_number os n o e = eqb-true o.number n (find_passes (is_object n) os o e)

-- one object takes another's place
module _ (os : List Object) (test : Object → Bool) (x a : Object) (order : EachPair InOrder os)
    (found : find test os ≡ Some x) (number : a.number ≡ x.number) where
  by_number : find (is_object x.number) os ≡ Some x
  by_number = found_by_number test os x order found

  pub link_was : links_of os x.number ≡ x.link
  link_was = ap link_at by_number

  pub put_here : links_of (put test a os) x.number ≡ a.link
  put_here = ap (λ zs. links_of zs x.number) (put_by_number test a x os order found)
      ∙ ap link_at (find-put_same x.number a x os by_number number)

  pub put_there : (n : ℕ) → n ≢ x.number → links_of (put test a os) n ≡ links_of os n
  put_there n ne = ap (λ zs. links_of zs n) (put_by_number test a x os order found)
      ∙ ap link_at (find-put_other x.number n a os number (λ e. ne (sym e)))

-- each object is changed under its number
pub link_mapped : (g : Object → Object) (os : List Object) (n : ℕ) → ((o : Object) → (g o).number ≡ o.number)
    → links_of (map g os) n ≡ link_at (option_map g (find (is_object n) os))
link_mapped g os n number = ap link_at (find-map n g os number)

-- what is said by lists of messages that are joined
pub said_join : (xs ys : List Message) → all_said (xs ++ ys) ≡ all_said xs ++ all_said ys
said_join [] ys = refl
said_join (m ∷ xs) ys = ap (λ v. m.said ∷ v) (said_join xs ys)

-- messages of actions
messages_back : (ms : List Message) → messages_of (sends ms) ≡ ms
messages_back [] = refl
messages_back (m ∷ ms) = ap (λ v. m ∷ v) (messages_back ms)

pub messages_sends : (ms : List Message) → sayings_of (sends ms) ≡ all_said ms
messages_sends ms = ap all_said (messages_back ms)

messages_join : (xs ys : List Action) → messages_of (xs ++ ys) ≡ messages_of xs ++ messages_of ys
messages_join [] ys = refl
messages_join (Send m ∷ xs) ys = ap (λ v. m ∷ v) (messages_join xs ys)
messages_join (Start inc ∷ xs) ys = messages_join xs ys
messages_join (End inc ∷ xs) ys = messages_join xs ys
messages_join (Commit f ∷ xs) ys = messages_join xs ys

messages_settled_one : (f : ℕ) (os : List Object) (frame : Frame) (rest : List Action)
    → messages_of (settled_action f os frame ++ rest) ≡ messages_of rest
messages_settled_one f os frame rest =
    elim (is_ready f os frame) as (λ b. messages_of ((if b then Commit f ∷ [] else []) ++ rest)
    ≡ messages_of rest) [ true ↦ refl | false ↦ refl ]

pub messages_settled : (f : ℕ) (os : List Object) (frames : List Frame) → messages_of (settled_actions f os frames) ≡ []
messages_settled f os [] = refl
messages_settled f os (frame ∷ frames) = messages_settled_one f os frame (settled_actions (f + 1) os frames)
    ∙ messages_settled (f + 1) os frames

-- what is said by an answer that sends messages and goes on with saves
pub sent_of : (ms : List Message) (f : ℕ) (os : List Object) (frames : List Frame)
    → sayings_of (sends ms ++ settled_actions f os frames) ≡ all_said ms
sent_of ms f os frames = ap all_said (messages_join (sends ms) (settled_actions f os frames)
    ∙ (ap (λ v. messages_of (sends ms) ++ v) (messages_settled f os frames)
    ∙ (append-nil (messages_of (sends ms)) ∙ messages_back ms)))

-- no server is started by what is sent, nor by saves that go on
pub no_start : (session numbers : ℕ) (ms : List Message) (rest : List Action) → started_by session numbers rest ≡ []
    → started_by session numbers (sends ms ++ rest) ≡ []
no_start session numbers [] rest h = h
no_start session numbers (m ∷ ms) rest h = no_start session numbers ms rest h

pub no_start_sent : (session numbers : ℕ) (ms : List Message) → started_by session numbers (sends ms) ≡ []
no_start_sent session numbers [] = refl
no_start_sent session numbers (m ∷ ms) = no_start_sent session numbers ms

pub no_start_settled : (session numbers f : ℕ) (os : List Object) (frames : List Frame)
    → started_by session numbers (settled_actions f os frames) ≡ []
no_start_settled session numbers f os [] = refl
no_start_settled session numbers f os (frame ∷ frames) =
    elim (is_ready f os frame) as (λ b. started_by session numbers
    ((if b then Commit f ∷ [] else []) ++ settled_actions (f + 1) os frames) ≡ []) [
      | true ↦ no_start_settled session numbers (f + 1) os frames
      | false ↦ no_start_settled session numbers (f + 1) os frames
    ]

-- nor is one ended
pub no_end : (ms : List Message) (rest : List Action) (is : List Instance) → ended_by rest is ≡ is
    → ended_by (sends ms ++ rest) is ≡ is
no_end [] rest is h = h
no_end (m ∷ ms) rest is h = no_end ms rest is h

pub no_end_sent : (ms : List Message) (is : List Instance) → ended_by (sends ms) is ≡ is
no_end_sent [] is = refl
no_end_sent (m ∷ ms) is = no_end_sent ms is

pub no_end_settled : (f : ℕ) (os : List Object) (frames : List Frame) (is : List Instance)
    → ended_by (settled_actions f os frames) is ≡ is
no_end_settled f os [] is = refl
no_end_settled f os (frame ∷ frames) is =
    elim (is_ready f os frame) as (λ b. ended_by
    ((if b then Commit f ∷ [] else []) ++ settled_actions (f + 1) os frames) is ≡ is) [
      | true ↦ no_end_settled (f + 1) os frames is
      | false ↦ no_end_settled (f + 1) os frames is
    ]

-- what is said in the log of what is sent
pub messages_of_log : (xs ys : List Sent) → sayings (xs ++ ys) ≡ sayings xs ++ sayings ys
messages_of_log [] ys = refl
messages_of_log (x ∷ xs) ys = ap (λ v. x.message.said ∷ v) (messages_of_log xs ys)

pub messages_told : (ms : List Message) → sayings (map of_container ms) ≡ all_said ms
messages_told [] = refl
messages_told (m ∷ ms) = ap (λ v. m.said ∷ v) (messages_told ms)
