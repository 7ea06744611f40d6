-- A run among others, and the same run by itself: an event makes the same of both, and sends the same messages.
use Rattle.std.proofs.Common.{◌≡◌, ◌==◌, ℕ, true, false, List, [], ◌∷◌, ◌++◌, map, Option, Some, None, Result, Ok, Err}
use Rattle.std.proofs.Common.{refl, sym, ap, ◌∙◌, subst, inl, inr, append-nil, if◌then◌else◌}
use Rattle.message_values.specs.Found.{find, nth, set_nth}
use Rattle.message_values.specs.declared.message.Message.{Message}
use Rattle.message_values.specs.declared.message.Said.{Said}
use Rattle.message_values.specs.declared.message.Said.TheVariants.{Call, Reply, Write, Ask}
use Rattle.message_values.specs.declared.operation.Operation.{Operation}
use Rattle.object_core.specs.Kinds.{Kind}
use Rattle.server_model.specs.Server.{Served, Told, on_call, wanted}
use Rattle.server_model.specs.Server as server
use Rattle.server_model.specs.declared.counted.Counted.{Counted}
use Rattle.server_model.specs.declared.fault.ServerFault.{ServerFault}
use Rattle.container_model.specs.Record.{Record, Took, is_linked}
use Rattle.container_model.specs.Commands.{on_command}
use Rattle.container_model.specs.Inputs.{Input, on_input}
use Rattle.container_model.specs.Messages.{on_message, on_reap}
use Rattle.container_model.specs.declared.answer.Action.{Action}
use Rattle.container_model.specs.declared.answer.Action.TheVariants.{Send, Start, End, Commit}
use Rattle.container_model.specs.declared.answer.FrameDocument.{FrameDocument}
use Rattle.container_model.specs.declared.command.Command.{Command}
use Rattle.container_model.specs.declared.fault.ContainerFault.{ContainerFault}
use Rattle.container_model.specs.declared.record.Frame.{Frame}
use Rattle.container_model.specs.declared.record.Link.{Link}
use Rattle.container_model.specs.declared.record.Object.{Object}
use Rattle.container_model.specs.declared.server_link.ServerLink.{ServerLink}
use Rattle.container_numbers.specs.Sessions.{InSession, IsOf, SendsIn}
use Rattle.container_numbers.proofs.Sessions.{sessions_stay}
use Rattle.std.specs.List.{AllByRecursion}
use Rattle.world_model.specs.declared.event.Stop.{Stop}
use Rattle.world_model.specs.declared.event.Stop.TheVariants.{NotEnabled}
use Rattle.world_model.specs.declared.life.Life.{Life}
use Rattle.world_model.specs.declared.life.Life.TheVariants.{Running, Ended, Reaped}
use Rattle.world_model.specs.declared.logs.File.{File}
use Rattle.world_model.specs.declared.logs.Sent.{Sent}
use Rattle.world_model.specs.declared.logs.ServerDone.{ServerDone}
use Rattle.world_model.specs.declared.logs.Taken.{Taken}
use Rattle.world_model.specs.World.{World, Instance, ask, called, called_in, called_wanting, commanded, counted_by}
use Rattle.world_model.specs.World.{crash, crashed, delivered_said, ended, in_run}
use Rattle.world_model.specs.World.{in_session, is_of, link_of, messages_of, of_container, only_taken, reap}
use Rattle.world_model.specs.World.{scribble, served, spoken, spoken_by, stocked, taken_at, taken_by, taken_link}
use Rattle.world_model.specs.World.{taken_of, taken_said, took, view_in, with_taken, done_with}
use Rattle.world_model.specs.Safe.{Among, messages}
use Rattle.world_safety.proofs.Speaking.{IsTelling, asking_is, writing_is}
use Rattle.world_stories.specs.Steps.{put_committed, quieted, twin}

pub ok_is : (x y : World) → ◌≡◌ {A = Result World Stop} (Ok x) (Ok y) → x ≡ y
ok_is x y e = cc

-- what is made of a message, and the log of what was taken with it
pub logged_is : (w : World) (more : List Taken) (told : Result World Stop) (v : World) → with_taken w more told ≡ Ok v
    → (a : World) × (told ≡ Ok a) × (record a { taken = w.taken ++ more } ≡ v)
logged_is w more (Err stop) v ok = cc
logged_is w more (Ok a) v ok = (a, refl, ok_is _ v ok)

-- ---- what is taken is the same wherever its message stands, but for the place

placed_link : (p q : Option ℕ) (o : ℕ) (l : Option Link) (t : Taken) → Among (taken_link p o l) t
    → Among (taken_link q o l) (record t { place = q }) × (t.place ≡ p)
placed_link p q o None t g = absurd g
placed_link p q o (Some l) t (inl e) =
    (inl (ap (λ (y : Taken). record y { place = q }) e), ap (λ (y : Taken). y.place) e)
placed_link p q o (Some l) t (inr z) = absurd z

placed_of : (p q : Option ℕ) (o : Option Object) (t : Taken) → Among (taken_of p o) t
    → Among (taken_of q o) (record t { place = q }) × (t.place ≡ p)
placed_of p q None t g = absurd g
placed_of p q (Some o) t g = placed_link p q o.number o.link t g

placed_by : (r : Record) (p q : Option ℕ) (inc act : ℕ) (told : Result Took ContainerFault) (t : Taken)
    → Among (taken_by r p inc act told) t
    → Among (taken_by r q inc act told) (record t { place = q }) × (t.place ≡ p)
placed_by r p q inc act (Err fault) t g = absurd g
placed_by r p q inc act (Ok u) t g = (let found = find (is_linked inc act) r.objects in
    elim (u.answer.taken) as (λ b. Among (if b then taken_of p found else []) t
    → Among (if b then taken_of q found else []) (record t { place = q }) × (t.place ≡ p)) [
      | true ↦ (λ h. placed_of p q found t h)
      | false ↦ (λ h. absurd h)
    ] g)

placed_said : (r : Record) (p q : Option ℕ) (link : ServerLink) (m : Message) (x : Said) (t : Taken)
    → Among (taken_said r p link m x) t
    → Among (taken_said r q link m x) (record t { place = q }) × (t.place ≡ p)
placed_said r p q link m (Call inc act n op) t g = absurd g
placed_said r p q link m (Reply inc act n answer) t g = placed_by r p q inc act (on_message r link m) t g
placed_said r p q link m (Write inc act s n content) t g = placed_by r p q inc act (on_message r link m) t g
placed_said r p q link m (Ask inc act j) t g = placed_by r p q inc act (on_message r link m) t g

pub taken_placed : (r : Record) (p q : Option ℕ) (link : ServerLink) (m : Message) (t : Taken)
    → Among (taken_at r p link m) t → Among (taken_at r q link m) (record t { place = q }) × (t.place ≡ p)
taken_placed r p q link m t g = placed_said r p q link m m.said t g

-- ---- messages that are sent

-- what bears another's session
pub same_of : (s a b : ℕ) → b ≡ a → IsOf s a → IsOf s b
same_of s a b e h = (e ∙ h.0, h.1)

pub one_of : (s : ℕ) (x : Sent) → IsOf s x.message.session → (m : Message) → Among (messages (x ∷ [])) m
    → IsOf s m.session
one_of s x h m (inl e) = same_of s x.message.session m.session (ap (λ (y : Message). y.session) e) h
one_of s x h m (inr z) = absurd z

sends_of : (s : ℕ) (actions : List Action) → AllByRecursion (SendsIn s) actions → (m : Message)
    → Among (messages_of actions) m → IsOf s m.session
sends_of s [] h m g = absurd g
sends_of s (Send x ∷ rest) h m (inl e) = same_of s x.session m.session (ap (λ (y : Message). y.session) e) h.0
sends_of s (Send x ∷ rest) h m (inr g) = sends_of s rest h.1 m g
sends_of s (Start inc ∷ rest) h m g = sends_of s rest h.1 m g
sends_of s (End inc ∷ rest) h m g = sends_of s rest h.1 m g
sends_of s (Commit f ∷ rest) h m g = sends_of s rest h.1 m g

told_again : (ms : List Message) → messages (map of_container ms) ≡ ms
told_again [] = refl
told_again (m ∷ ms) = ap (λ xs. m ∷ xs) (told_again ms)

-- what a step of the container sends is of its session
pub container_sends : (r : Record) (x : Input) (t : Took) → InSession r → on_input r x ≡ Ok t → (m : Message)
    → Among (messages (map of_container (messages_of t.answer.actions))) m
    → IsOf r.session m.session
container_sends r x t h q m g = sends_of r.session t.answer.actions (sessions_stay r x t h q).sends m
    (subst (λ ms. Among ms m) (told_again (messages_of t.answer.actions)) g)

-- ---- what is made of a world and of its twin

-- These are made of the world w, which then has these files; and of its twin, which has sent xs and then has the files
-- mine.
pub record Twins (w : World) (xs : List Sent) (mine files : List File) (v u : World) : Type 0 where
  pub more : List Sent
  pub sent : v.sent ≡ w.sent ++ more
  pub of : (m : Message) → Among (messages more) m → IsOf w.rec.session m.session
  pub same : quieted u ≡ twin v mine (xs ++ more)
  pub made : v.files ≡ files
  pub taken : v.taken ≡ w.taken
  pub hostile : v.hostile ≡ w.hostile

-- and what the twin is told is taken, too
pub record Both (w : World) (xs : List Sent) (mine files : List File) (v : World) (told : Result World Stop) : Type
    0 where
  pub world : World
  pub ok : told ≡ Ok world
  pub twins : Twins w xs mine files v world

module _ {w : World} {xs : List Sent} {mine files : List File} where
  pub landed : (a b v : World) → ◌≡◌ {A = Result World Stop} (Ok a) (Ok v) → Twins w xs mine files a b
      → Both w xs mine files v (Ok b)
  landed a b v e t = record { world = b; ok = refl; twins = subst (λ y. Twins w xs mine files y b) (ok_is a v e) t }

module _ (w : World) (mine : List File) (xs : List Sent) where
  abbrev other : World
  other = twin w mine xs

  -- nothing is sent, and no file is made
  pub still : (v u : World) → v.sent ≡ w.sent → quieted u ≡ twin v mine xs → v.files ≡ w.files → v.taken ≡ w.taken
      → v.hostile ≡ w.hostile → Twins w xs mine w.files v u
  still v u s q f t k = record {
    more = [];
    sent = s ∙ sym (append-nil w.sent);
    of = λ m g. absurd g;
    same = q ∙ ap (twin v mine) (sym (append-nil xs));
    made = f;
    taken = t;
    hostile = k;
  }

  -- the container's steps
  module _ (holds : InSession w.rec) where
    pub twins_took : (x : Input) (told : Result Took ContainerFault) → on_input w.rec x ≡ told
        → Twins w xs mine w.files (took w told) (took other told)
    twins_took x (Err fault) q = still (took w (Err fault)) (took other (Err fault)) refl refl refl refl refl
    twins_took x (Ok t) q =
        record {
          more = map of_container (messages_of t.answer.actions);
          sent = refl;
          of = container_sends w.rec x t holds q;
          same = refl;
          made = refl;
          taken = refl;
          hostile = refl;
        }

    pub twins_commanded : (c : Command) (told : Result Took ContainerFault) → on_command w.rec c ≡ told
        → Twins w xs mine w.files (commanded w c told) (commanded other c told)
    twins_commanded c (Err fault) q = still (commanded w c (Err fault)) (commanded other c (Err fault)) refl refl
        refl refl refl
    twins_commanded c (Ok t) q =
        record {
          more = map of_container (messages_of t.answer.actions);
          sent = refl;
          of = container_sends w.rec (Input.Ordered c) t holds q;
          same = refl;
          made = refl;
          taken = refl;
          hostile = refl;
        }

    pub twins_only : (x : Input) (told : Result Took ContainerFault) (v : World) → on_input w.rec x ≡ told
        → only_taken w told ≡ Ok v → Both w xs mine w.files v (only_taken other told)
    twins_only x (Err fault) v q e = cc
    twins_only x (Ok t) v q e = landed _ _ v e (twins_took x (Ok t) q)

    -- a commit makes the same file in both
    module _ (f : ℕ) (bytes : List ℕ) (x : Input) where
      pub twins_done : (frame : Option Frame) (saved : Result FrameDocument ContainerFault)
          (told : Result Took ContainerFault) (v : World)
          → on_input w.rec x ≡ told → done_with w f bytes frame saved told ≡ Ok v
          → Both w xs (put_committed bytes frame mine) (put_committed bytes frame w.files) v
          (done_with other f bytes frame saved told)
      twins_done None saved told v q e = cc
      twins_done (Some frame) (Err fault) told v q e = cc
      twins_done (Some frame) (Ok saved) (Err fault) v q e = cc
      twins_done (Some frame) (Ok saved) (Ok t) v q e =
          let more = map of_container (messages_of t.answer.actions) in
          landed _ _ v e (record {
            more = more;
            sent = refl;
            of = container_sends w.rec x t holds q;
            same = refl;
            made = refl;
            taken = refl;
            hostile = refl;
          })

  -- calls
  module _ (s inc act n : ℕ) (op : Operation) (own : IsOf w.rec.session s) where
    same_counted : (c : Option Counted) → counted_by other inc c ≡ counted_by w inc c
    same_counted None = refl
    same_counted (Some c) = refl

    twins_served : (i : Instance) (stock : List Kind) (told : Result Served ServerFault)
        → Twins w xs mine w.files (served w s inc act n i stock told) (served other s inc act n i stock told)
    twins_served i stock (Err fault) = still (served w s inc act n i stock (Err fault))
        (served other s inc act n i stock (Err fault)) refl refl refl refl refl
    twins_served i stock (Ok a) =
        let v : World = served w s inc act n i stock (Ok a) in
        let x : Sent = record { message = in_session s (Reply inc act n a.answer); view = view_in i.core act } in
        record {
          more = x ∷ [];
          sent = refl;
          of = one_of w.rec.session x own;
          same = ap (λ (d : List ServerDone). twin (record v { server_done = w.server_done ++ d }) mine
              (xs ++ x ∷ [])) (same_counted a.counted);
          made = refl;
          taken = refl;
          hostile = refl;
        }

    twins_stocked : (i : Instance) (class : List ℕ) (kind : Option Kind) (v : World)
        → stocked w s inc act n op i class kind ≡ Ok v
        → Both w xs mine w.files v (stocked other s inc act n op i class kind)
    twins_stocked i class None v e = cc
    twins_stocked i class (Some kind) v e =
        landed _ _ v e (twins_served i _ (on_call i.core (in_session s (Call inc act n op)) (Some kind)))

    twins_wanting : (i : Instance) (class : Option (List ℕ)) (v : World) → called_wanting w s inc act n op i class
        ≡ Ok v → Both w xs mine w.files v (called_wanting other s inc act n op i class)
    twins_wanting i None v e =
        landed _ _ v e (twins_served i w.stock (on_call i.core (in_session s (Call inc act n op)) None))
    twins_wanting i (Some class) v e = twins_stocked i class (find (is_of class) w.stock) v e

    twins_called_in : (i : Instance) (life : Life) (v : World) → called_in w s inc act n op i life ≡ Ok v
        → Both w xs mine w.files v (called_in other s inc act n op i life)
    twins_called_in i Running v e = twins_wanting i (wanted i.core (in_session s (Call inc act n op))) v e
    twins_called_in i Ended v e = landed _ _ v e (still _ _ refl refl refl refl refl)
    twins_called_in i Reaped v e = landed _ _ v e (still _ _ refl refl refl refl refl)

    twins_called : (i : Option Instance) (v : World) → called w s inc act n op i ≡ Ok v
        → Both w xs mine w.files v (called other s inc act n op i)
    twins_called None v e = landed _ _ v e (still _ _ refl refl refl refl refl)
    twins_called (Some i) v e = twins_called_in i i.life v e

  pub twins_delivered : (m : Message) (x : Said) (v : World) → InSession w.rec → IsOf w.rec.session m.session
      → delivered_said w m x ≡ Ok v → Both w xs mine w.files v (delivered_said other m x)
  twins_delivered m (Call inc act n op) v h own e = twins_called m.session inc act n op own (nth w.instances inc) v e
  twins_delivered m (Reply inc act n answer) v h own e =
      landed _ _ v e (twins_took h (Input.Told (link_of m) m) (on_message w.rec (link_of m) m) refl)
  twins_delivered m (Write inc act s n content) v h own e =
      landed _ _ v e (twins_took h (Input.Told (link_of m) m) (on_message w.rec (link_of m) m) refl)
  twins_delivered m (Ask inc act g) v h own e =
      landed _ _ v e (twins_took h (Input.Told (link_of m) m) (on_message w.rec (link_of m) m) refl)

  -- what a server does of its own accord
  module _ (inc act : ℕ) where
    twins_spoken_by : (i : Instance) (told : Result Told ServerFault) → IsOf w.rec.session i.core.session
        → ((t : Told) → told ≡ Ok t → IsTelling i.core act t)
        → Twins w xs mine w.files (spoken_by w inc act i told) (spoken_by other inc act i told)
    twins_spoken_by i (Err fault) own g = still (spoken_by w inc act i (Err fault))
        (spoken_by other inc act i (Err fault)) refl refl refl refl refl
    twins_spoken_by i (Ok t) own g =
        let x : Sent = record { message = t.message; view = view_in i.core act } in
        record {
          more = x ∷ [];
          sent = refl;
          of = one_of w.rec.session x (same_of w.rec.session i.core.session t.message.session (g t refl).session own);
          same = refl;
          made = refl;
          taken = refl;
          hostile = refl;
        }

    twins_spoken : (i : Instance) (life : Life) (told : Result Told ServerFault) (v : World)
        → IsOf w.rec.session i.core.session → ((t : Told) → told ≡ Ok t → IsTelling i.core act t)
        → spoken w inc act i life told ≡ Ok v → Both w xs mine w.files v (spoken other inc act i life told)
    twins_spoken i Running told v own g e = landed _ _ v e (twins_spoken_by i told own g)
    twins_spoken i Ended told v own g e = cc
    twins_spoken i Reaped told v own g e = cc

    pub twins_scribble : (i : Option Instance) (v : World)
        → ((j : Instance) → i ≡ Some j → IsOf w.rec.session j.core.session) → scribble w inc act i ≡ Ok v
        → Both w xs mine w.files v (scribble other inc act i)
    twins_scribble None v own e = cc
    twins_scribble (Some i) v own e = twins_spoken i i.life (server.scribble i.core act) v (own i refl)
        (λ t. writing_is i.core act t) e

    pub twins_ask : (i : Option Instance) (v : World)
        → ((j : Instance) → i ≡ Some j → IsOf w.rec.session j.core.session) → ask w inc act i ≡ Ok v
        → Both w xs mine w.files v (ask other inc act i)
    twins_ask None v own e = cc
    twins_ask (Some i) v own e = twins_spoken i i.life (server.ask_deactivate i.core act) v (own i refl)
        (λ t. asking_is i.core act t) e

  twins_crashed : (inc : ℕ) (i : Instance) (life : Life) (v : World) → crashed w inc i life ≡ Ok v
      → Both w xs mine w.files v (crashed other inc i life)
  twins_crashed inc i Running v e = landed _ _ v e (still _ _ refl refl refl refl refl)
  twins_crashed inc i Ended v e = cc
  twins_crashed inc i Reaped v e = cc

  pub twins_crash : (inc : ℕ) (i : Option Instance) (v : World) → crash w inc i ≡ Ok v
      → Both w xs mine w.files v (crash other inc i)
  twins_crash inc None v e = cc
  twins_crash inc (Some i) v e = twins_crashed inc i i.life v e

  -- in the run's session
  pub twins_run : (s : ℕ) (told again : Result World Stop) (files after : List File) (v : World)
      → (told ≡ Ok v → Both w xs files after v again) → in_run w s told ≡ Ok v
      → Both w xs files after v (in_run other s again)
  twins_run s told again files after v g e =
      elim (s == w.rec.session) as (λ b. (if b then told else Err NotEnabled) ≡ Ok v
      → Both w xs files after v (if b then again else Err NotEnabled)) [ true ↦ (λ q. g q) | false ↦ (λ q. cc) ]
      e

-- the end of a server that had ended
twins_ended : (w : World) (mine : List File) (xs : List Sent) (holds : InSession w.rec) (inc : ℕ) (i : Instance)
    (life : Life) (v : World) → ended w inc i life ≡ Ok v
    → Both w xs mine w.files v (ended (twin w mine xs) inc i life)
twins_ended w mine xs holds inc i Running v e = cc
twins_ended w mine xs holds inc i Ended v e =
    let a : World = record w { instances = set_nth w.instances inc (record i { life = Reaped }) } in
    let t = twins_took a mine xs holds (Input.Reaped inc) (on_reap w.rec inc) refl in
    landed (took a (on_reap w.rec inc)) (took (twin a mine xs) (on_reap w.rec inc)) v e (record {
      more = t.more;
      sent = t.sent;
      of = t.of;
      same = t.same;
      made = t.made;
      taken = t.taken;
      hostile = t.hostile;
    })
twins_ended w mine xs holds inc i Reaped v e = cc

pub twins_reap : (w : World) (mine : List File) (xs : List Sent) (holds : InSession w.rec) (inc : ℕ)
    (i : Option Instance) (v : World) → reap w inc i ≡ Ok v
    → Both w xs mine w.files v (reap (twin w mine xs) inc i)
twins_reap w mine xs holds inc None v e = cc
twins_reap w mine xs holds inc (Some i) v e = twins_ended w mine xs holds inc i i.life v e
