-- What a step of the container makes of a world that agrees.
use Rattle.std.proofs.Common.{◌≡◌, ◌≢◌, ℕ, suc, ◌+◌, Bool, true, false, List, [], ◌∷◌, ◌++◌, length, map, Option, Some}
use Rattle.std.proofs.Common.{None, Ok, refl, sym, ap, ◌∙◌, inl, inr, arith, subst, slice_get}
use Rattle.std.proofs.lemmas.List.{append-nil}
use Rattle.std.proofs.lemmas.Bool.Decides.{eqb_tells}
use Rattle.message_values.specs.Found.{nth, set_nth}
use Rattle.message_values.specs.declared.operation.Operation.{Operation}
use Rattle.server_model.specs.Server.{Activation}
use Rattle.container_model.specs.Record.{Record, Took, acts, counts_none, is_alive, is_unreaped}
use Rattle.container_model.specs.Commands.{on_command, start_made}
use Rattle.container_model.specs.declared.command.Command.{Command}
use Rattle.container_model.specs.declared.answer.Action.TheVariants.{End}
use Rattle.container_model.specs.declared.answer.Done.{Done}
use Rattle.container_steady.specs.Made.{run_by}
use Rattle.container_queues.specs.Steady.{Steady}
use Rattle.world_model.specs.declared.life.Life.{Life}
use Rattle.world_model.specs.declared.life.Life.TheVariants.{Running, Ended, Reaped}
use Rattle.world_model.specs.World.{World, Instance, started_instance, messages_of, of_container, started_by, end_of}
use Rattle.world_model.specs.World.{ended_at}
use Rattle.world_model.specs.World.{ended_by, joined}
use Rattle.world_model.specs.Safe.{links_of, act_at, acts_of, sayings}
use Rattle.world_facts.specs.Words.{life_at, lives_of, sayings_of}
use Rattle.world_facts.specs.Facts.{Facts}
use Rattle.world_facts.specs.Shapes.{AsksAll, IsQuiet, StartsOrEnds}
use Rattle.world_facts.specs.Views.{Views}
use Rattle.world_facts.proofs.Lookups.{nth_old, nth_one, nth_aligned, length_set_nth}
use Rattle.world_facts.proofs.Beginning.{begun}
use Rattle.world_facts.proofs.Leaving.{AreCalls, asks_calls, asks_leave, begins_calls, begins_leave, grows_calls}
use Rattle.world_facts.proofs.Leaving.{grows_none, starts_leave, views_kept}
use Rattle.world_facts.proofs.Starting.{started}
use Rattle.world_files.proofs.Filing.{length_more}
use Rattle.world_grants.specs.Grants.{AreSent, Grants, roles_of}
use Rattle.world_grants.proofs.Alike.{grants_same}
use Rattle.world_grants.proofs.Answering.{ready_for}
use Rattle.world_grants.proofs.Stepping as starting
use Rattle.world_grants.proofs.Stepping.{followed}
use Rattle.world_grants.proofs.Taking.{MovesBy}
use Rattle.world_steps.specs.Steps.{IsBegun, IsCommanded, IsPlain, IsTurned, IsReplied, IsReaped}
use Rattle.world_steps.proofs.Keeping.{AreKept, longer, messages_longer, turned_kept, replied_kept, reaped_kept}
use Rattle.world_steps.proofs.Instances.{nth_same, nth_other}
use Rattle.world_steps.proofs.Objects.{messages_of_log, messages_told}
use Rattle.world_steps.proofs.Commanding.{commanded_is}
use Rattle.world_steps.proofs.Turns.{one_turn}
use Rattle.world_safety.specs.Holding.{Agrees, AgreesIn}
use Rattle.world_safety.proofs.Shaping.{IsFollowed, turned_followed, replied_followed, reaped_followed}
use Rattle.message_values.specs.declared.message.Said.{Said}

-- a step that starts and ends no server
module _ (w : World) (t : Took) (h : AgreesIn w) (steady : Steady t.rec)
    (servers : length t.rec.servers ≡ length w.rec.servers) (starts : (session numbers : ℕ)
    → started_by session numbers t.answer.actions ≡ [])
    (ends : (is : List Instance) → ended_by t.answer.actions is ≡ is) where
  pub joined_agrees : (owners : List ℕ) (counted : List Done)
      → Facts w.hostile (links_of t.rec.objects) (acts_of w.instances) (lives_of w.instances)
      (sayings w.sent ++ sayings_of t.answer.actions) owners t.rec.last_act counted w.server_done
      → Views w.hostile (links_of t.rec.objects) (acts_of w.instances)
      (w.sent ++ map of_container (messages_of t.answer.actions))
      → Grants w.hostile (links_of t.rec.objects) (roles_of t.rec) (acts_of w.instances)
      (sayings w.sent ++ sayings_of t.answer.actions)
      → Agrees w.hostile t.rec (ended_by t.answer.actions w.instances ++ started_by t.rec.session t.rec.numbers
      t.answer.actions) (w.sent ++ map of_container (messages_of t.answer.actions)) owners counted w.server_done
  joined_agrees owners counted f views grants =
      let more = sayings_of t.answer.actions in
      let ms : sayings (w.sent ++ map of_container (messages_of t.answer.actions)) ≡ sayings w.sent ++ more =
      messages_of_log w.sent (map of_container (messages_of t.answer.actions))
      ∙ ap (λ v. sayings w.sent ++ v) (messages_told (messages_of t.answer.actions)) in
      let same : ended_by t.answer.actions w.instances ++ started_by t.rec.session t.rec.numbers t.answer.actions
      ≡ w.instances =
      ap (λ v. ended_by t.answer.actions w.instances ++ v) (starts t.rec.session t.rec.numbers)
      ∙ (append-nil (ended_by t.answer.actions w.instances) ∙ ends w.instances) in
      let base : Agrees w.hostile t.rec w.instances (w.sent ++ map of_container (messages_of t.answer.actions))
      owners counted w.server_done = record {
        steady = steady;
        servers = servers ∙ h.servers;
        facts = subst (λ s. Facts w.hostile (links_of t.rec.objects) (acts_of w.instances) (lives_of w.instances) s
            owners t.rec.last_act counted w.server_done) (sym ms) f;
        views = views;
        grants = subst (λ s. Grants w.hostile (links_of t.rec.objects) (roles_of t.rec) (acts_of w.instances) s)
            (sym ms) grants;
      } in
      subst (λ v. Agrees w.hostile t.rec v (w.sent ++ map of_container (messages_of t.answer.actions)) owners
      counted w.server_done) (sym same) base

-- one that makes no activation either
pub plain_joined : (w : World) (t : Took) (counted : List Done) → AgreesIn w → Steady t.rec → IsPlain w.rec t
    → Facts w.hostile (links_of t.rec.objects) (acts_of w.instances) (lives_of w.instances)
    (sayings w.sent ++ sayings_of t.answer.actions) w.owners w.rec.last_act counted w.server_done
    → Views w.hostile (links_of t.rec.objects) (acts_of w.instances)
    (w.sent ++ map of_container (messages_of t.answer.actions))
    → Grants w.hostile (links_of t.rec.objects) (roles_of t.rec) (acts_of w.instances)
    (sayings w.sent ++ sayings_of t.answer.actions)
    → Agrees w.hostile t.rec (ended_by t.answer.actions w.instances ++ started_by t.rec.session t.rec.numbers
    t.answer.actions) (w.sent ++ map of_container (messages_of t.answer.actions)) w.owners counted w.server_done
plain_joined w t counted h steady p f views grants = joined_agrees w t h steady p.servers p.starts p.ends w.owners
    counted
    (subst (λ n. Facts w.hostile (links_of t.rec.objects) (acts_of w.instances) (lives_of w.instances)
    (sayings w.sent ++ sayings_of t.answer.actions) w.owners n counted w.server_done) (sym p.last_act) f) views
    grants

-- operations are asked
pub asked_views : (Asks : ℕ → Operation → Type 0) (w : World) (t : Took) → AgreesIn w
    → AsksAll Asks (links_of w.rec.objects) (links_of t.rec.objects) (sayings_of t.answer.actions)
    → Views w.hostile (links_of t.rec.objects) (acts_of w.instances)
    (w.sent ++ map of_container (messages_of t.answer.actions))
asked_views Asks w t h m =
    let links = links_of w.rec.objects in
    let after = links_of t.rec.objects in
    let acts = acts_of w.instances in
    let more = sayings_of t.answer.actions in
    views_kept links after acts acts w.sent (w.sent ++ map of_container (messages_of t.answer.actions))
    (asks_leave w.hostile Asks links after acts more m h.facts.in_step)
    (grows_calls w.sent (messages_of t.answer.actions) (asks_calls Asks links after more m)) h.views

-- who has frames, after a step whose links follow those before
pub joined_grants : (w : World) (t : Took) (taken : List Said) → AgreesIn w → MovesBy w.rec t.rec taken
    → AreSent w.hostile (sayings w.sent) taken → IsFollowed (links_of w.rec.objects) (links_of t.rec.objects)
    (sayings_of t.answer.actions)
    → Grants w.hostile (links_of t.rec.objects) (roles_of t.rec) (acts_of w.instances)
    (sayings w.sent ++ sayings_of t.answer.actions)
joined_grants w t taken h moves sends k =
    followed (links_of w.rec.objects) (links_of t.rec.objects) (acts_of w.instances) (lives_of w.instances)
    (sayings w.sent) (sayings_of t.answer.actions) w.owners w.rec.last_act w.container_done w.server_done
    (roles_of w.rec) (roles_of t.rec) taken
    h.facts h.grants (ready_for w.rec h.steady).linked moves sends k.calls k.follows

-- a step that is a list of shapes
kept_joined : (w : World) (t : Took) (taken : List Said) → AgreesIn w → Steady t.rec → IsPlain w.rec t
    → MovesBy w.rec t.rec taken → AreSent w.hostile (sayings w.sent) taken
    → IsFollowed (links_of w.rec.objects) (links_of t.rec.objects) (sayings_of t.answer.actions)
    → AreKept w.hostile (acts_of w.instances) (lives_of w.instances) w.owners w.rec.last_act w.container_done
    w.server_done (links_of t.rec.objects) (longer w.sent (messages_of t.answer.actions))
    → AgreesIn (joined w t)
kept_joined w t taken h steady p moves sends k now =
    let more = sayings_of t.answer.actions in
    plain_joined w t w.container_done h steady p
    (subst (λ s. Facts w.hostile (links_of t.rec.objects) (acts_of w.instances) (lives_of w.instances) s w.owners
    w.rec.last_act w.container_done w.server_done) (messages_longer w.sent (messages_of t.answer.actions))
    now.facts) now.views
    (joined_grants w t taken h moves sends k)

kept_before : (w : World) → AgreesIn w → AreKept w.hostile (acts_of w.instances) (lives_of w.instances) w.owners
    w.rec.last_act w.container_done w.server_done (links_of w.rec.objects) w.sent
kept_before w h = record { facts = h.facts; views = h.views }

-- operations are asked, in turn
pub turned_joined : (w : World) (t : Took) (taken : List Said) → AgreesIn w → Steady t.rec
    → MovesBy w.rec t.rec taken → AreSent w.hostile (sayings w.sent) taken → IsTurned w.rec t
    → AgreesIn (joined w t)
turned_joined w t taken h steady moves sends m = kept_joined w t taken h steady m.1 moves sends
    (turned_followed (links_of w.rec.objects) (links_of t.rec.objects) (sayings_of t.answer.actions) m.0)
    (turned_kept w.hostile (acts_of w.instances) (lives_of w.instances) w.owners w.rec.last_act w.container_done
    w.server_done (links_of w.rec.objects) (links_of t.rec.objects) w.sent (messages_of t.answer.actions) m.0
    (kept_before w h))

-- at once
pub asks_turned : (r : Record) (t : Took) → AsksAll (λ o op. IsQuiet op) (links_of r.objects)
    (links_of t.rec.objects) (sayings_of t.answer.actions) × IsPlain r t → IsTurned r t
asks_turned r t m = (one_turn (links_of r.objects) (links_of t.rec.objects) (sayings_of t.answer.actions) m.0, m.1)

-- an answer is taken
pub answered_joined : (w : World) (t : Took) (taken : List Said) → AgreesIn w → Steady t.rec
    → MovesBy w.rec t.rec taken → AreSent w.hostile (sayings w.sent) taken
    → IsReplied w.hostile (links_of w.rec.objects) (links_of t.rec.objects) (acts_of w.instances)
    (lives_of w.instances) (sayings_of t.answer.actions) × IsPlain w.rec t → AgreesIn (joined w t)
answered_joined w t taken h steady moves sends m =
    kept_joined w t taken h steady m.1 moves sends
    (replied_followed w.hostile (links_of w.rec.objects) (links_of t.rec.objects) (acts_of w.instances)
    (lives_of w.instances) (sayings_of t.answer.actions) m.0)
    (replied_kept w.hostile (acts_of w.instances) (lives_of w.instances) w.owners w.rec.last_act w.container_done
    w.server_done (links_of w.rec.objects) (links_of t.rec.objects) w.sent (messages_of t.answer.actions) m.0
    (kept_before w h))

-- the end of a server
pub reaped_joined : (w : World) (t : Took) → AgreesIn w → Steady t.rec → MovesBy w.rec t.rec []
    → IsReaped w.hostile (links_of w.rec.objects) (links_of t.rec.objects) (acts_of w.instances)
    (lives_of w.instances) (sayings_of t.answer.actions) × IsPlain w.rec t → AgreesIn (joined w t)
reaped_joined w t h steady moves m =
    kept_joined w t [] h steady m.1 moves (λ x z honest. absurd z)
    (reaped_followed w.hostile (links_of w.rec.objects) (links_of t.rec.objects) (acts_of w.instances)
    (lives_of w.instances) (sayings_of t.answer.actions) m.0)
    (reaped_kept w.hostile (acts_of w.instances) (lives_of w.instances) w.owners w.rec.last_act w.container_done
    w.server_done (links_of w.rec.objects) (links_of t.rec.objects) w.sent (messages_of t.answer.actions) m.0
    (kept_before w h))

-- an activation is made for an object
owner_new : (owners : List ℕ) (last o : ℕ) → length owners ≡ last → nth (owners ++ o ∷ []) (last + 1) ≡ Some o
owner_new owners last o e = (let z : suc (length owners) ≡ last + 1 = omega arith in
    subst (λ n. nth (owners ++ o ∷ []) n ≡ Some o) z (at owners))
  where
    at : (xs : List ℕ) → slice_get (xs ++ o ∷ []) (length xs) ≡ Some o
    at [] = refl
    at (x ∷ xs) = at xs

host : (w : World) → AgreesIn w → (inc : ℕ) → is_alive w.rec inc ≡ true → (life : Life)
    × (lives_of w.instances inc ≡ Some life)
host w h inc a = at (nth w.rec.servers inc) refl a
  where
    at : (s : Option Bool) → nth w.rec.servers inc ≡ s → is_unreaped s ≡ true → (life : Life)
        × (lives_of w.instances inc ≡ Some life)
    at None f g = cc
    at (Some b) f g = (let p = nth_aligned w.rec.servers w.instances inc b h.servers f in (p.0.life, ap life_at p.1))

-- what a command is of the shapes of change
pub command_shapes : (w : World) (c : Command) (t : Took) → AgreesIn w → on_command w.rec c ≡ Ok t
    → IsCommanded w.rec (lives_of w.instances) w.owners t (run_by c)
command_shapes w c t h e = commanded_is w.rec (lives_of w.instances) w.owners h.steady
    (λ n. owner_new w.owners w.rec.last_act n h.facts.drawn.many) (host w h) c t e

pub begun_joined : (w : World) (o : ℕ) (t : Took) → AgreesIn w → Steady t.rec → MovesBy w.rec t.rec []
    → IsBegun w.rec (lives_of w.instances) (w.owners ++ o ∷ []) o t
    → AgreesIn (record (joined w t) { owners = w.owners ++ o ∷ [] })
begun_joined w o t h steady moves b =
    let r = w.rec in
    let many : length (w.owners ++ o ∷ []) ≡ r.last_act + 1 = length_more w.owners o
    ∙ (ap suc h.facts.drawn.many ∙ (let y : suc r.last_act ≡ r.last_act + 1 = omega arith in y)) in
    let f = begun (links_of r.objects) (links_of t.rec.objects) (acts_of w.instances) (lives_of w.instances)
    (sayings w.sent) (sayings_of t.answer.actions) w.owners (o ∷ []) r.last_act w.container_done w.server_done o
    b.begins many h.facts in
    let more = sayings_of t.answer.actions in
    let calls : AreCalls more = begins_calls (links_of r.objects) (links_of t.rec.objects) (lives_of w.instances)
    (w.owners ++ o ∷ []) r.last_act o more b.begins in
    joined_agrees w t h steady b.servers b.starts b.ends (w.owners ++ o ∷ []) w.container_done
    (subst (λ n. Facts w.hostile (links_of t.rec.objects) (acts_of w.instances) (lives_of w.instances)
    (sayings w.sent ++ sayings_of t.answer.actions) (w.owners ++ o ∷ []) n w.container_done w.server_done)
    (sym b.last_act) f)
    (views_kept (links_of r.objects) (links_of t.rec.objects) (acts_of w.instances) (acts_of w.instances) w.sent
    (w.sent ++ map of_container (messages_of t.answer.actions))
    (begins_leave w.hostile (links_of r.objects) (links_of t.rec.objects) (acts_of w.instances)
    (lives_of w.instances) (w.owners ++ o ∷ []) r.last_act o more b.begins h.facts.drawn.acts_drawn)
    (grows_calls w.sent (messages_of t.answer.actions) calls) h.views)
    (starting.begun (links_of r.objects) (links_of t.rec.objects) (acts_of w.instances) (lives_of w.instances)
    (sayings w.sent) more w.owners (o ∷ []) r.last_act o w.container_done w.server_done (roles_of r)
    (roles_of t.rec)
    h.facts h.grants (ready_for r h.steady).linked moves calls b.begins)

-- the server of an activation is there
pub hosted : (is : List Instance) (inc act : ℕ) (a : Activation) → acts_of is inc act ≡ Some a
    → (life : Life) × (lives_of is inc ≡ Some life)
hosted is inc act a e = at (nth is inc) refl e
  where
    at : (i : Option Instance) → nth is inc ≡ i → act_at act i ≡ Some a → (life : Life) × (lives_of is inc ≡ Some life)
    at None f g = cc
    at (Some i) f g = (i.life, ap life_at f)

-- a new server has no activations
module _ (is : List Instance) (session numbers : ℕ) where
  abbrev new : Instance
  new = started_instance session numbers (length is + 1)

  found : (inc : ℕ) (life : Life) (i : Option Instance) → nth is inc ≡ i → life_at i ≡ Some life
      → (j : Instance) × (nth is inc ≡ Some j) × (j.life ≡ life)
  found inc life None f q = cc
  found inc life (Some j) f q = (j, f, (let z : Some j.life ≡ Some life = q in cc))

  no_acts : (inc act : ℕ) (j : Option Instance) → nth (is ++ new ∷ []) inc ≡ j → nth is inc ≡ None → act_at act j ≡ None
  no_acts inc act None f n = refl
  no_acts inc act (Some j) f n = elim (nth_one is new inc j f) [
    | inl o ↦ absurd (let z : None ≡ Some j = sym n ∙ o in cc)
    | inr o ↦ ap (act_at act) (ap Some o.0)
  ]

  same_act : (inc act : ℕ) (i : Option Instance) → nth is inc ≡ i → acts_of (is ++ new ∷ []) inc act
      ≡ acts_of is inc act
  same_act inc act None f = no_acts inc act (nth (is ++ new ∷ []) inc) refl f ∙ sym (ap (act_at act) f)
  same_act inc act (Some i) f = ap (act_at act) (nth_old is (new ∷ []) inc i f) ∙ sym (ap (act_at act) f)

  pub server_starts : StartsOrEnds (acts_of is) (acts_of (is ++ new ∷ [])) (lives_of is) (lives_of (is ++ new ∷ []))
  server_starts = record {
    same = λ inc act. same_act inc act (nth is inc) refl;
    there = λ inc life q. (let p = found inc life (nth is inc) refl q in
        (life, ap life_at (nth_old is (new ∷ []) inc p.0 p.1) ∙ ap Some p.2));
    runs = λ inc life q r. (let p = found inc life (nth is inc) refl q in
        q ∙ (sym (ap life_at (nth_old is (new ∷ []) inc p.0 p.1) ∙ ap Some p.2) ∙ r));
    hosted = hosted is;
  }

pub start_joined : (w : World) (t : Took) → AgreesIn w → Steady t.rec → start_made w.rec ≡ t → AgreesIn (joined w t)
start_joined w t h keeps is =
    let r = w.rec in
    let new = started_instance r.session r.numbers (length r.servers + 1) in
    let one : started_instance r.session r.numbers (length w.instances + 1) ≡ new =
    ap (λ n. started_instance r.session r.numbers (n + 1)) (sym h.servers) in
    let steady : Steady (start_made r).rec = subst (λ (v : Took). Steady v.rec) (sym is) keeps in
    let begins : StartsOrEnds (acts_of w.instances) (acts_of (w.instances ++ new ∷ [])) (lives_of w.instances)
    (lives_of (w.instances ++ new ∷ [])) =
    subst (λ i. StartsOrEnds (acts_of w.instances) (acts_of (w.instances ++ i ∷ [])) (lives_of w.instances)
    (lives_of (w.instances ++ i ∷ []))) one (server_starts w.instances r.session r.numbers) in
    let made : Agrees w.hostile (start_made r).rec (w.instances ++ new ∷ []) w.sent w.owners w.container_done
    w.server_done = record {
      steady = steady;
      servers = length_more r.servers false ∙ (ap suc h.servers ∙ sym (length_more w.instances new));
      facts = started (links_of r.objects) (acts_of w.instances) (acts_of (w.instances ++ new ∷ []))
          (lives_of w.instances) (lives_of (w.instances ++ new ∷ [])) (sayings w.sent) w.owners r.last_act
          w.container_done w.server_done begins h.facts;
      views = views_kept (links_of r.objects) (links_of r.objects) (acts_of w.instances)
          (acts_of (w.instances ++ new ∷ [])) w.sent w.sent
          (starts_leave w.hostile (links_of r.objects) (acts_of w.instances) (acts_of (w.instances ++ new ∷ []))
          (lives_of w.instances) (lives_of (w.instances ++ new ∷ [])) begins) (grows_none w.sent) h.views;
      grants = grants_same (links_of r.objects) (roles_of r) (acts_of w.instances)
          (acts_of (w.instances ++ new ∷ [])) (sayings w.sent) begins.same h.grants;
    } in
    subst (λ (v : Took). AgreesIn (joined w v)) is
    (subst (λ s. Agrees w.hostile (start_made r).rec (w.instances ++ new ∷ []) s w.owners w.container_done
    w.server_done) (sym (append-nil w.sent)) made)

-- a server that runs no more
module _ (is : List Instance) (inc : ℕ) (i : Instance) (life : Life) (at : nth is inc ≡ Some i)
    (over : life ≢ Running) where
  abbrev stopped : List Instance
  stopped = set_nth is inc (record i { life = life })

  pub server_ends : StartsOrEnds (acts_of is) (acts_of (set_nth is inc (record i { life = life }))) (lives_of is)
      (lives_of (set_nth is inc (record i { life = life })))
  server_ends =
      let j : Instance = record i { life = life } in
      record {
        same = λ x act. elim (eqb_tells x inc) [
          | inl s ↦ ap (act_at act) (ap (nth stopped) s.1 ∙ nth_same is inc i j at)
              ∙ sym (ap (act_at act) (ap (nth is) s.1 ∙ at))
          | inr s ↦ ap (act_at act) (nth_other is inc x j s.1)
        ];
        there = λ x l q. elim (eqb_tells x inc) [
          | inl s ↦ (life, ap life_at (ap (nth stopped) s.1 ∙ nth_same is inc i j at))
          | inr s ↦ (l, ap life_at (nth_other is inc x j s.1) ∙ q)
        ];
        runs = λ x l q r. elim (eqb_tells x inc) [
          | inl s ↦
              absurd
              (over (let z : Some life ≡ Some Running =
              sym (ap life_at (ap (nth stopped) s.1 ∙ nth_same is inc i j at)) ∙ r in cc))
          | inr s ↦ sym (ap life_at (nth_other is inc x j s.1)) ∙ r
        ];
        hosted = hosted is;
      }

pub stopped_agrees : (w : World) (inc : ℕ) (i : Instance) (life : Life) → nth w.instances inc ≡ Some i
    → life ≢ Running → AgreesIn w
    → AgreesIn (record w { instances = set_nth w.instances inc (record i { life = life }) })
stopped_agrees w inc i life at over h =
    let js = set_nth w.instances inc (record i { life = life }) in
    record {
      steady = h.steady;
      servers = h.servers ∙ sym (length_set_nth w.instances inc (record i { life = life }));
      facts = started (links_of w.rec.objects) (acts_of w.instances) (acts_of js) (lives_of w.instances)
          (lives_of js) (sayings w.sent) w.owners w.rec.last_act w.container_done w.server_done
          (server_ends w.instances inc i life at over) h.facts;
      views = views_kept (links_of w.rec.objects) (links_of w.rec.objects) (acts_of w.instances) (acts_of js) w.sent
          w.sent (starts_leave w.hostile (links_of w.rec.objects) (acts_of w.instances) (acts_of js)
          (lives_of w.instances) (lives_of js) (server_ends w.instances inc i life at over)) (grows_none w.sent)
          h.views;
      grants = grants_same (links_of w.rec.objects) (roles_of w.rec) (acts_of w.instances) (acts_of js)
          (sayings w.sent) (server_ends w.instances inc i life at over).same h.grants;
    }

-- a server that is to be ended
over_of : (life : Life) → end_of life ≢ Running
over_of Running = λ e. cc
over_of Ended = λ e. cc
over_of Reaped = λ e. cc

ended_agrees : (w : World) (inc : ℕ) (i : Option Instance) → nth w.instances inc ≡ i → AgreesIn w
    → AgreesIn (record w { instances = ended_at inc w.instances i })
ended_agrees w inc None at h = h
ended_agrees w inc (Some i) at h = stopped_agrees w inc i (end_of i.life) at (over_of i.life) h

pub kill_joined : (w : World) (inc : ℕ) (t : Took) → AgreesIn w → counts_none w.rec (acts (End inc ∷ [])) ≡ t
    → AgreesIn (joined w t)
kill_joined w inc t h made =
    let js = ended_at inc w.instances (nth w.instances inc) in
    let here : Agrees w.hostile w.rec js w.sent w.owners w.container_done w.server_done =
    ended_agrees w inc (nth w.instances inc) refl h in
    let more : Agrees w.hostile w.rec (js ++ []) (w.sent ++ []) w.owners w.container_done w.server_done =
    subst (λ is. Agrees w.hostile w.rec is (w.sent ++ []) w.owners w.container_done w.server_done) (sym (append-nil js))
    (subst (λ s. Agrees w.hostile w.rec js s w.owners w.container_done w.server_done) (sym (append-nil w.sent)) here) in
    subst (λ (v : Took). AgreesIn (joined w v)) made more
