-- The step of an earlier run's world that a step of the story's is, with that run's own record, files and messages.
use Rattle.std.proofs.Common.{◌≡◌, ◌≢◌, ◌==◌, ℕ, true, List, [], ◌∷◌, ◌++◌, Option, Some, None, Result, Ok, Err, refl}
use Rattle.std.proofs.Common.{sym, ap, ◌∙◌, subst, inl, inr}
use Rattle.std.proofs.lemmas.List.{append-nil}
use Rattle.std.proofs.lemmas.Bool.Decides.{eqb_tells}
use Rattle.message_values.specs.Found.{find, nth, set_nth}
use Rattle.message_values.specs.declared.message.Message.{Message}
use Rattle.message_values.specs.declared.message.Said.{Said}
use Rattle.message_values.specs.declared.message.Said.TheVariants.{Call, Reply, Write, Ask}
use Rattle.message_values.specs.declared.operation.Operation.{Operation}
use Rattle.object_core.specs.Kinds.{Kind}
use Rattle.server_model.specs.Server.{Served, Told, on_call, wanted}
use Rattle.server_model.specs.Server as server
use Rattle.server_model.specs.declared.counted.Counted.{Counted}
use Rattle.server_model.specs.declared.fault.ServerFault.{ServerFault}
use Rattle.container_model.specs.Record.{Record}
use Rattle.world_model.specs.declared.event.Stop.{Stop}
use Rattle.world_model.specs.declared.life.Life.{Life}
use Rattle.world_model.specs.declared.life.Life.TheVariants.{Running, Ended, Reaped}
use Rattle.world_model.specs.declared.logs.EventAnswer.{EventAnswer}
use Rattle.world_model.specs.declared.logs.File.{File}
use Rattle.world_model.specs.declared.logs.Sent.{Sent}
use Rattle.world_model.specs.declared.logs.ServerDone.{ServerDone}
use Rattle.world_model.specs.World.{Instance, World, ask, called, called_in, called_wanting, counted_by, crash, crashed}
use Rattle.world_model.specs.World.{deliver, delivered_said, in_run, in_session, is_of, link_of, scribble, served}
use Rattle.world_model.specs.World.{spoken, spoken_by, stocked, taken_said, view_in, with_taken}
use Rattle.world_model.proofs.InRun.{in_run_here}
use Rattle.world_model.specs.Story.{session_at, session_of_call}
use Rattle.world_stories.specs.Steps.{left_of, quieted, twin}
use Rattle.world_stories.proofs.Twins.{logged_is, ok_is}

same_number : (s : ℕ) → (s == s) ≡ true
same_number s = elim (eqb_tells s s) [ inl t ↦ t.0 | inr t ↦ absurd (t.1 refl) ]

-- a run's world with its own record, files and messages
abbrev pub by_itself : World → Record → List File → List Sent → World
by_itself a rec files sent = record a { rec = rec; files = files; sent = sent; taken = []; answers = [] }

-- What a step makes of the run's world by itself, where it makes v of the story's: the same but for what stands in
-- them.
pub record Follows (a : World) (rec : Record) (files : List File) (sent : List Sent) (told : Result World Stop)
    (v : World) : Type 0 where
  pub more : List Sent
  pub grown : v.sent ≡ a.sent ++ more
  pub next : World
  pub is : told ≡ Ok next
  pub alike : quieted next ≡ twin (record v { rec = rec }) files (sent ++ more)
  pub stays : left_of a v ≡ v

module _ (a : World) (rec : Record) (files : List File) (sent : List Sent) where
  abbrev u : World
  u = by_itself a rec files sent

  -- nothing is sent
  silent : (instances : List Instance) (here there : List EventAnswer)
      → Follows a rec files sent (Ok (record u { instances = instances; answers = here }))
      (record a { instances = instances; answers = there })
  silent instances here there = record {
    more = [];
    grown = sym (append-nil a.sent);
    next = record u { instances = instances; answers = here };
    is = refl;
    alike = ap (twin (record a { rec = rec; instances = instances }) files) (sym (append-nil sent));
    stays = refl;
  }

  -- one message is sent
  tells : (instances : List Instance) (stock : List Kind) (x : Sent) (here there : List EventAnswer)
      (done own : List ServerDone) → own ≡ done
      → Follows a rec files sent
      (Ok (record u {
        instances = instances;
        stock = stock;
        sent = sent ++ x ∷ [];
        answers = here;
        server_done = own;
      }))
      (record a { instances = instances; stock = stock; sent = a.sent ++ x ∷ []; answers = there; server_done = done })
  tells instances stock x here there done own e = record {
    more = x ∷ [];
    grown = refl;
    next = record u { instances = instances; stock = stock; sent = sent ++ x ∷ []; answers = here; server_done = own };
    is = refl;
    alike = ap (λ d. twin (record a { rec = rec; instances = instances; stock = stock; server_done = d }) files
        (sent ++ x ∷ [])) e;
    stays = refl;
  }

  counted_same : (inc : ℕ) (c : Option Counted) → counted_by u inc c ≡ counted_by a inc c
  counted_same inc None = refl
  counted_same inc (Some c) = refl

  -- a call
  module _ (s inc act n : ℕ) (op : Operation) where
    follows_served : (i : Instance) (stock : List Kind) (told : Result Served ServerFault)
        → Follows a rec files sent (Ok (served u s inc act n i stock told)) (served a s inc act n i stock told)
    follows_served i stock (Err fault) = silent a.instances _ _
    follows_served i stock (Ok v) = tells (set_nth a.instances inc (record i { core = v.server })) stock
        (record { message = in_session s (Reply inc act n v.answer); view = view_in i.core act }) _ _
        (a.server_done ++ counted_by a inc v.counted) (a.server_done ++ counted_by u inc v.counted)
        (ap (λ d. a.server_done ++ d) (counted_same inc v.counted))

    follows_stocked : (i : Instance) (class : List ℕ) (kind : Option Kind) (v : World)
        → stocked a s inc act n op i class kind ≡ Ok v
        → Follows a rec files sent (stocked u s inc act n op i class kind) v
    follows_stocked i class None v e = cc
    follows_stocked i class (Some kind) v e =
        subst (Follows a rec files sent (stocked u s inc act n op i class (Some kind))) (ok_is _ v e)
        (follows_served i _ (on_call i.core (in_session s (Call inc act n op)) (Some kind)))

    follows_wanting : (i : Instance) (class : Option (List ℕ)) (v : World) → called_wanting a s inc act n op i class
        ≡ Ok v
        → Follows a rec files sent (called_wanting u s inc act n op i class) v
    follows_wanting i None v e = subst (Follows a rec files sent (called_wanting u s inc act n op i None)) (ok_is _ v e)
        (follows_served i a.stock (on_call i.core (in_session s (Call inc act n op)) None))
    follows_wanting i (Some class) v e = follows_stocked i class (find (is_of class) a.stock) v e

    follows_called_in : (i : Instance) (life : Life) (v : World) → called_in a s inc act n op i life ≡ Ok v
        → Follows a rec files sent (called_in u s inc act n op i life) v
    follows_called_in i Running v e = follows_wanting i (wanted i.core (in_session s (Call inc act n op))) v e
    follows_called_in i Ended v e = subst (Follows a rec files sent (called_in u s inc act n op i Ended))
        (ok_is _ v e) (silent a.instances _ _)
    follows_called_in i Reaped v e = subst (Follows a rec files sent (called_in u s inc act n op i Reaped))
        (ok_is _ v e) (silent a.instances _ _)

    pub follows_called : (i : Option Instance) (v : World) → called a s inc act n op i ≡ Ok v
        → Follows a rec files sent (called u s inc act n op i) v
    follows_called None v e = subst (Follows a rec files sent (called u s inc act n op None)) (ok_is _ v e)
        (silent a.instances _ _)
    follows_called (Some i) v e = follows_called_in i i.life v e

  -- A delivery of a call. It has another place among the messages of the run.
  follows_taken : (told : Result World Stop) (v : World) → Follows a rec files sent told v
      → Follows a rec files sent (with_taken u [] told) (record v { taken = a.taken ++ [] })
  follows_taken told v f = record {
    more = f.more;
    grown = f.grown;
    next = record f.next { taken = [] };
    is = ap (with_taken u []) f.is;
    alike = f.alike;
    stays = ap (λ ts. record (left_of a v) { taken = ts }) (sym (append-nil a.taken))
        ∙ ap (λ (y : World). record y { taken = a.taken ++ [] }) f.stays;
  }

  follows_said : (p q : ℕ) (m : Message) (said : Said) (v : World) → session_of_call a.rec.session m said
      ≢ a.rec.session
      → with_taken a (taken_said a.rec (Some p) (link_of m) m said) (delivered_said a m said) ≡ Ok v
      → Follows a rec files sent (with_taken u (taken_said rec (Some q) (link_of m) m said) (delivered_said u m said)) v
  follows_said p q m (Call inc act n op) v apart e =
      let i = nth a.instances inc in
      let k = logged_is a [] (called a m.session inc act n op i) v e in
      subst (Follows a rec files sent (with_taken u [] (called u m.session inc act n op i))) k.2
      (follows_taken (called u m.session inc act n op i) k.0 (follows_called m.session inc act n op i k.0 k.1))
  follows_said p q m (Reply inc act n answer) v apart e = absurd (apart refl)
  follows_said p q m (Write inc act s number content) v apart e = absurd (apart refl)
  follows_said p q m (Ask inc act g) v apart e = absurd (apart refl)

  pub follows_delivered : (p q : ℕ) (x : Sent) (v : World) → nth sent q ≡ Some x
      → session_at a.rec.session (Some x) ≢ a.rec.session
      → deliver a p (Some x) ≡ Ok v → Follows a rec files sent (deliver u q (nth sent q)) v
  follows_delivered p q x v at apart e = subst (λ y. Follows a rec files sent (deliver u q y) v) (sym at)
      (follows_said p q x.message x.message.said v apart e)

  -- a server crashes
  follows_crashed : (inc : ℕ) (i : Instance) (life : Life) (v : World) → crashed a inc i life ≡ Ok v
      → Follows a rec files sent (crashed u inc i life) v
  follows_crashed inc i Running v e = subst (Follows a rec files sent (crashed u inc i Running)) (ok_is _ v e)
      (silent (set_nth a.instances inc (record i { life = Ended })) _ _)
  follows_crashed inc i Ended v e = cc
  follows_crashed inc i Reaped v e = cc

  pub follows_crash : (inc : ℕ) (i : Option Instance) (v : World) → crash a inc i ≡ Ok v
      → Follows a rec files sent (crash u inc i) v
  follows_crash inc None v e = cc
  follows_crash inc (Some i) v e = follows_crashed inc i i.life v e

  -- a server sends a message of its own accord
  module _ (inc act : ℕ) where
    follows_spoken_by : (i : Instance) (told : Result Told ServerFault)
        → Follows a rec files sent (Ok (spoken_by u inc act i told)) (spoken_by a inc act i told)
    follows_spoken_by i (Err fault) = silent a.instances _ _
    follows_spoken_by i (Ok t) = tells (set_nth a.instances inc (record i { core = t.server })) a.stock
        (record { message = t.message; view = view_in i.core act }) _ _ a.server_done a.server_done refl

    follows_spoken : (i : Instance) (told : Result Told ServerFault) (life : Life) (v : World)
        → spoken a inc act i life told ≡ Ok v → Follows a rec files sent (spoken u inc act i life told) v
    follows_spoken i told Running v e = subst (Follows a rec files sent (spoken u inc act i Running told))
        (ok_is _ v e) (follows_spoken_by i told)
    follows_spoken i told Ended v e = cc
    follows_spoken i told Reaped v e = cc

    pub follows_scribble : (i : Option Instance) (v : World) → scribble a inc act i ≡ Ok v
        → Follows a rec files sent (scribble u inc act i) v
    follows_scribble None v e = cc
    follows_scribble (Some i) v e = follows_spoken i (server.scribble i.core act) i.life v e

    pub follows_ask : (i : Option Instance) (v : World) → ask a inc act i ≡ Ok v
        → Follows a rec files sent (ask u inc act i) v
    follows_ask None v e = cc
    follows_ask (Some i) v e = follows_spoken i (server.ask_deactivate i.core act) i.life v e

  -- in the run's own session
  pub follows_here : (told : Result World Stop) (v : World) → Follows a rec files sent told v
      → Follows a rec files sent (in_run u rec.session told) v
  follows_here told v f = subst (λ r. Follows a rec files sent r v)
      (sym (in_run_here u rec.session told (same_number rec.session))) f

-- what is of another session than the present one is a call of that session
pub own_call : (present s : ℕ) (m : Message) (said : Said) → session_of_call present m said ≡ s → s ≢ present
    → m.session ≡ s
own_call present s m (Call inc act n op) own apart = own
own_call present s m (Reply inc act n answer) own apart = absurd (apart (sym own))
own_call present s m (Write inc act k number content) own apart = absurd (apart (sym own))
own_call present s m (Ask inc act g) own apart = absurd (apart (sym own))
