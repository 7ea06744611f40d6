-- What commands are of the shapes of change, by what they make.
use Rattle.std.proofs.Common.{◌≡◌, ◌<◌, ◌+◌, ◌==◌, ℕ, true, false, List, [], ◌∷◌, ◌++◌, length, Some, None, Ok, refl}
use Rattle.std.proofs.Common.{sym, ap, ◌∙◌, arith, subst, if◌then◌else◌}
use Rattle.std.specs.List.{AllByRecursion}
use Rattle.std.proofs.lemmas.Bool.{eqb-true, ne_eqb}
use Rattle.message_values.specs.Found.{find, nth, put}
use Rattle.message_values.specs.declared.operation.Operation.TheVariants.{Edit}
use Rattle.container_model.specs.declared.command.Command.{Command}
use Rattle.container_model.specs.declared.record.Link.{Link}
use Rattle.container_model.specs.declared.record.Object.{Object}
use Rattle.container_model.specs.Commands.{new_object, kind_of, on_command}
use Rattle.container_model.specs.Record.{Record, Took, ask, is_alive, is_object, without_first}
use Rattle.container_steady.specs.Made.{IsMade, makes_activation, makes_edit, makes_end, makes_fewer, makes_frame}
use Rattle.container_steady.specs.Made.{makes_nothing, makes_object, makes_save, makes_server, makes_steps}
use Rattle.container_steady.specs.Made.{makes_taking, run_by}
use Rattle.container_queues.specs.Steady.{EachPair, InOrder, Steady}
use Rattle.container_steady.specs.Taken.{edited}
use Rattle.container_steady.proofs.Taken.{command_made}
use Rattle.world_model.specs.declared.life.Life.{Life}
use Rattle.world_model.specs.World.{ended_by, started_by}
use Rattle.world_model.specs.Safe.{link_at, links_of}
use Rattle.world_facts.specs.Shapes.{IsQuiet}
use Rattle.world_facts.specs.Words.{Lives, all_said, sayings_of}
use Rattle.world_steps.specs.Steps.{AsksInTurn, IsBegun, IsCommanded, IsTurned, asks_none, command_asks, command_begins}
use Rattle.world_steps.specs.Steps.{command_ends, command_starts}
use Rattle.world_steps.proofs.Asking.{one_asked}
use Rattle.world_steps.proofs.Handing.{save_turned}
use Rattle.world_steps.proofs.Objects.{messages_sends, no_end_sent, no_start_sent}
use Rattle.world_steps.proofs.Running.{run_begins}
use Rattle.world_steps.proofs.Turns.{one_turn}
use Rattle.world_steps.proofs.Verbing.{claiming_turned, leaving_turned}

-- where no link changes, and nothing is sent, started or ended, nobody is asked
still_turned : (r : Record) (t : Took) → ((k : ℕ) → links_of t.rec.objects k ≡ links_of r.objects k)
    → t.rec.last_act ≡ r.last_act → t.rec.servers ≡ r.servers → t.answer.actions ≡ [] → IsTurned r t
still_turned r t same last servers none = (
  asks_none (links_of r.objects) (links_of t.rec.objects) (sayings_of t.answer.actions) same (ap sayings_of none),
  record {
    last_act = last;
    servers = ap length servers;
    starts = λ session numbers. ap (started_by session numbers) none;
    ends = λ is. ap (λ actions. ended_by actions is) none;
  },
)

-- a new object is passive
link_more : (os : List Object) (y : Object) (n : ℕ) → y.link ≡ None → links_of (os ++ y ∷ []) n ≡ links_of os n
link_more [] y n e = elim (y.number == n) as (λ b. link_at (if b then Some y else None) ≡ None) [
  | true ↦ e
  | false ↦
      refl
]
link_more (z ∷ os) y n e =
    elim (z.number == n) as (λ b. link_at (if b then Some z else find (is_object n) (os ++ y ∷ []))
    ≡ link_at (if b then Some z else find (is_object n) os)) [ true ↦ refl | false ↦ link_more os y n e ]

-- no object behind another bears its number
none_later : (o : Object) (os : List Object) → AllByRecursion (InOrder o) os → find (is_object o.number) os ≡ None
none_later o [] h = refl
none_later o (p ∷ ps) h = (let up : o.number < p.number = h.0.rising in
    let far : (p.number == o.number) ≡ false = ne_eqb p.number o.number (λ e. absurd (omega arith)) in
    rw far (none_later o ps h.1))

-- so a passive object's place is all that goes
without_links : (os : List Object) (m k : ℕ) → EachPair InOrder os → links_of os m ≡ None
    → links_of (without_first (is_object m) os) k ≡ links_of os k
without_links [] m k order e = refl
without_links (o ∷ os) m k order e =
    elim (o.number == m) as (λ b. (o.number == m) ≡ b → link_at (if b then Some o else find (is_object m) os) ≡ None
    → links_of (if b then os else o ∷ without_first (is_object m) os) k ≡ links_of (o ∷ os) k) [
      | true ↦
          (λ t g. elim (o.number == k) as (λ c. (o.number == k) ≡ c
          → links_of os k ≡ link_at (if c then Some o else find (is_object k) os)) [
            | true ↦ (λ u. ap (links_of os) (sym (eqb-true o.number k u))
                ∙ (ap link_at (none_later o os order.0) ∙ sym g))
            | false ↦ (λ u. refl)
          ] refl)
      | false ↦
          (λ t g. elim (o.number == k) as (λ c. link_at (if c then Some o
          else find (is_object k) (without_first (is_object m) os))
          ≡ link_at (if c then Some o else find (is_object k) os)) [
            | true ↦ refl
            | false ↦ without_links os m k order.1 g
          ])
    ] refl e

-- an edit is asked of one object
edit_quiet : (bytes : List ℕ) → IsQuiet (Edit bytes)
edit_quiet bytes = λ k storage e. cc

edit_turned : (r : Record) (n : ℕ) (bytes : List ℕ) (x : Object) (l : Link) → Steady r
    → find (is_object n) r.objects ≡ Some x → x.link ≡ Some l → IsTurned r (edited r x l bytes)
edit_turned r n bytes x l s f xl =
    let a : Object = record x { link = Some (ask l (Edit bytes)).link } in
    let ms = (ask l (Edit bytes)).sent in
    let after = links_of (put (is_object x.number) a r.objects) in (
      subst (AsksInTurn (links_of r.objects) after) (sym (messages_sends ms))
          (one_turn (links_of r.objects) after (all_said ms)
          (one_asked r n (Edit bytes) x l s f xl (edit_quiet bytes))),
      record {
        last_act = refl;
        servers = refl;
        starts = λ session numbers. no_start_sent session numbers ms;
        ends = no_end_sent ms;
      },
    )

-- whatever a command makes
module _ (r : Record) (lives : Lives) (owners : List ℕ) (s : Steady r)
    (own : (n : ℕ) → nth (owners ++ n ∷ []) (r.last_act + 1) ≡ Some n) (host : (inc : ℕ) → is_alive r inc ≡ true
    → (life : Life) × (lives inc ≡ Some life)) where
  made_commanded : (ns : List ℕ) (t : Took) → IsMade r t ns → IsCommanded r lives owners t ns
  made_commanded _ t (makes_nothing made) =
      command_asks (subst (IsTurned r) made (still_turned r _ (λ k. refl) refl refl refl))
  made_commanded _ t (makes_frame name w h new made) =
      command_asks (subst (IsTurned r) made (still_turned r _ (λ k. refl) refl refl refl))
  made_commanded _ t (makes_object f kind area at made) =
      command_asks
      (subst (IsTurned r) made
      (still_turned r _ (λ k. link_more r.objects (new_object (r.last_object + 1) f (kind_of kind) area) k refl)
      refl refl refl))
  made_commanded _ t (makes_fewer n at passive made) = command_asks (subst (IsTurned r) made
      (still_turned r _ (λ k. without_links r.objects at.object.number k s.order (ap link_at at.own ∙ passive)) refl
      refl refl))
  made_commanded _ t (makes_server started made) = command_starts made
  made_commanded _ t (makes_end inc alive made) = command_ends inc made
  made_commanded _ t (makes_activation n inc at run made) =
      command_begins n (subst (IsBegun r lives (owners ++ n ∷ []) n) made
      (run_begins r lives (owners ++ n ∷ []) n inc at run s (own n) (host inc)))
  made_commanded _ t (makes_edit n bytes go small has made) =
      command_asks (subst (IsTurned r) made (edit_turned r n bytes go.at.object go.link s go.at.found go.linked))
  made_commanded _ t (makes_save f raised name at raising other made) =
      command_asks (subst (IsTurned r) made (save_turned r f at.frame raised name s))
  made_commanded _ t (makes_steps n go ts has row made) =
      command_asks
      (subst (IsTurned r) made (leaving_turned r n go.at.object go.link s go.at.found go.linked go.at.frame ts))
  made_commanded _ t (makes_taking n go ts taking made) =
      command_asks
      (subst (IsTurned r) made (claiming_turned r n go.at.object go.link s go.at.found go.linked go.at.frame ts
      go.at.inside taking))

  pub commanded_is : (c : Command) (t : Took) → on_command r c ≡ Ok t → IsCommanded r lives owners t (run_by c)
  commanded_is c t e = made_commanded (run_by c) t (command_made r c t e)
