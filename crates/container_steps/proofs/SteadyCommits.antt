-- A commit that is done, one that fails, and how one in doubt is resolved, keep a record steady.
use Rattle.std.proofs.Common.{◌≡◌, ◌≤◌, ◌==◌, inl, inr, arith, ℕ, Bool, true, false, List, map, Option, Some, None, Ok}
use Rattle.std.proofs.Common.{refl, sym, ap, ◌∙◌, subst}
use Rattle.std.proofs.lemmas.Bool.{eqb-true, eqb-false}
use Rattle.std.specs.Prelude.{IfSome}
use Rattle.message_values.specs.Found.{nth, set_nth}
use Rattle.message_values.specs.declared.operation.Operation.{Operation}
use Rattle.message_values.specs.declared.operation.Operation.TheVariants.{SaveDropped}
use Rattle.tree_streams.specs.Limits.{is_within}
use Rattle.tree_streams.specs.declared.stored.Stored.{Stored}
use Rattle.container_model.specs.declared.record.Link.{Link}
use Rattle.container_model.specs.declared.record.Object.{Object}
use Rattle.container_model.specs.declared.record.Frame.{Frame}
use Rattle.container_model.specs.declared.record.Phase.{Phase}
use Rattle.container_model.specs.declared.record.Phase.TheVariants.{Idle, Committing, InDoubt}
use Rattle.container_model.specs.Record.{Record, Took, MOST_OBJECTS, ask, asked_link}
use Rattle.container_model.specs.Saves.{commit_at, commit_done, commit_doubted, commit_failed, commit_made, kept}
use Rattle.container_model.specs.Saves.{cleared, completion, completed, doubted_frame, dropped_object, name_after}
use Rattle.container_model.specs.Saves.{resolve, resolved_at, save_dropped, session_after}
use Rattle.object_state.specs.declared.grant_states.GrantState.{GrantState}
use Rattle.container_queues.specs.Roles.{Role, SteadyGrant, role_in}
use Rattle.container_queues.specs.Steady.{IsUnsettled, SteadyLink, SteadyObject, SteadyFrame, InOrder, Steady}
use Rattle.container_steady.proofs.Settling.{done_commits, is_dropped, is_failed, kept_commits}
use Rattle.container_queues.proofs.SteadyLookups.{each_map, each_set, each_weaker, pairs_map}
use Rattle.container_steady.proofs.SteadyContents.{completed_if, dropped_if}
use Rattle.container_steady.proofs.SteadyCounts.{count_map}
use Rattle.container_queues.proofs.SteadyLinks.{completion_asked, drop_asked, now_doubtful, undoubted}
use Rattle.container_steady.proofs.SteadyRecords.{at_some, Held, kept_object_within, Follows, TookPlace, order_both}
use Rattle.container_steady.proofs.SteadyClaims.{LinkStays, claim_kept, grant_kept, keeps_map, keeps_refl, set_back}
use Rattle.container_steady.proofs.SteadyMoves.{set_object, unset_object}
use Rattle.container_steady.proofs.SteadyTests.{asked_follows, link_asked}

-- an object of the frame is told
cleared_held : (servers : List Bool) (last_act : ℕ) (asked : Option (List ℕ)) (k : ℕ) (role : Role) (op : Operation)
    (phase : Phase) (link : Option Link)
    → ((l : Link) → SteadyLink servers last_act phase asked k role l
    → SteadyLink servers last_act Idle None k role (ask (record l { saved = None }) op).link)
    → IfSome link (SteadyLink servers last_act phase asked k role)
    → IfSome (asked_link op (cleared link)) (SteadyLink servers last_act Idle None k role)
cleared_held servers last_act asked k role op phase None asks h = tt
cleared_held servers last_act asked k role op phase (Some l) asks h = asks l h

cleared_follows : (op : Operation) (link : Option Link) → Follows (asked_link op (cleared link)) link
cleared_follows op None l e = cc
cleared_follows op (Some m) l e = (let f = asked_follows op (Some (record m { saved = None })) l e in let q = f.1 in
    let same : record m { saved = None } ≡ f.0 = cc in (m, refl, f.2 ∙ sym (ap (λ (z : Link). z.act) same)))

cleared_stays : (op : Operation) (link : Option Link) → LinkStays link (asked_link op (cleared link))
cleared_stays op None l e = cc
cleared_stays op (Some m) l e =
    (let same : m ≡ l = cc in let f = link_asked op (Some (record m { saved = None })) (record m { saved = None })
    refl in (f.0, f.1, f.2 ∙ ap (λ (z : Link). z.act) same))

-- A save ends: its frame is idle under this name and in this session, and each object of it, with this work content, is
-- asked for an operation. The container is in a session, that which it was in or another one.
abbrev ended_frame : Frame → List ℕ → Bool → ℕ → Frame
ended_frame frame name stored session = record frame {
  name = name;
  asked = None;
  stored = stored;
  session = session;
  raised = None;
  phase = Idle;
}

abbrev IsTold : ℕ → Operation → (Object → Stored) → (Object → Object) → Type 1
IsTold f op work told = (P : Object → Type 0) (o : Object)
    → (o.frame ≡ f → P (record o { work = work o; link = asked_link op (cleared o.link) }))
    → ((o.frame ≡ f → ⊥) → P o) → P (told o)

module _ (r : Record) (f later : ℕ) (frame : Frame) (name : List ℕ) (stored : Bool) (session : ℕ) (op : Operation)
    (work : Object → Stored) (told : Object → Object) (s : Steady r) (at : nth r.frames f ≡ Some frame)
    (told_if : IsTold f op work told)
    (within : (o : Object) → SteadyObject r o → o.frame ≡ f → is_within (work o) ≡ true)
    (asks : (role : Role) (l : Link) → SteadyLink r.servers r.last_act frame.phase frame.asked frame.k role l
    → SteadyLink r.servers r.last_act Idle None frame.k role (ask (record l { saved = None }) op).link) where
  abbrev after : Record
  after = record r {
    session = later;
    frames = set_nth r.frames f (ended_frame frame name stored session);
    objects = map told r.objects;
  }

  told_took : (o : Object) → TookPlace (told o) o
  told_took o = told_if (λ (z : Object). TookPlace z o) o
      (λ e. record { number = refl; frame = refl; link = cleared_follows op o.link })
      (λ e. record { number = refl; frame = refl; link = λ l g. (l, g, refl) })

  told_steady : (o : Object) → SteadyObject r o → SteadyObject after (told o)
  told_steady o h = told_if (SteadyObject after) o
      (λ here. set_object r after f frame (ended_frame frame name stored session) o
      (record o { work = work o; link = asked_link op (cleared o.link) }) at refl here refl refl refl
      (within o h here) refl h
      (cleared_held r.servers r.last_act frame.asked frame.k (role_in frame.ui.state o.number) op frame.phase o.link
      (asks (role_in frame.ui.state o.number))))
      (λ other. unset_object r after f (ended_frame frame name stored session) o refl other refl refl refl h)

  told_stays : (o : Object) → LinkStays o.link (told o).link
  told_stays o = told_if (λ (z : Object). LinkStays o.link z.link) o (λ e. cleared_stays op o.link)
      (λ e l g. (l, g, refl))

  grants_stay : (i : ℕ) (x : GrantState) → SteadyGrant r i x → SteadyGrant after i x
  grants_stay i x h = grant_kept r after i x (λ c names k. claim_kept r after i c
      (keeps_map r.objects c.object told (λ y. (told_took y).number) (λ y. (told_took y).frame)
      (λ y found. told_stays y)) (omega arith) k) h

  ended_steady : Steady after
  ended_steady = record {
    frames = each_set SteadyFrame r.frames f (ended_frame frame name stored session) s.frames (record { asked = refl });
    objects = each_map (SteadyObject r) (SteadyObject after) told r.objects told_steady s.objects;
    order = pairs_map InOrder told r.objects (order_both told told_took) s.order;
    count = λ g. subst (λ (n : ℕ). n ≤ MOST_OBJECTS) (sym (count_map g told r.objects (λ o. (told_took o).frame)))
        (s.count g);
    grants = λ i x e. elim (set_back r.frames f i frame (ended_frame frame name stored session) x at e) [
      | inl same ↦ subst (λ (y : Frame). SteadyGrant after i y.ui.state) same.1
          (subst (λ (n : ℕ). SteadyGrant after n frame.ui.state) same.0
          (grants_stay f frame.ui.state (s.grants f frame at)))
      | inr other ↦ grants_stay i x.ui.state (s.grants i x other)
    ];
  }

-- an activation of a frame whose commit is asked or in doubt is as while it is asked
unsettled : (servers : List Bool) (last_act : ℕ) (asked : Option (List ℕ)) (k : ℕ) (role : Role) (phase : Phase)
    (l : Link) → IsUnsettled phase → SteadyLink servers last_act phase asked k role l
    → SteadyLink servers last_act Committing asked k role l
unsettled servers last_act asked k role phase l (inl e) h =
    subst (λ (z : Phase). SteadyLink servers last_act z asked k role l) e h
unsettled servers last_act asked k role phase l (inr e) h = undoubted servers last_act asked k role l
    (subst (λ (z : Phase). SteadyLink servers last_act z asked k role l) e h)

module _ (r : Record) (f : ℕ) (frame : Frame) (s : Steady r) (at : nth r.frames f ≡ Some frame) where
  -- it is counted
  pub commit_steady : IsUnsettled frame.phase → Steady (commit_made r f frame).rec
  commit_steady e = ended_steady r f (session_after r.session frame.raised) frame
      (name_after frame.name frame.asked) true (session_after frame.session frame.raised) (completion frame) kept
      (completed f frame) s at
      (λ P o. completed_if P f frame o)
      (λ o h here. kept_object_within r o frame h.within
      (at_some (Held r o.number o.link) (nth r.frames o.frame) frame (ap (nth r.frames) here ∙ at) h.linked))
      (λ role l h. completion_asked r.servers r.last_act frame.asked frame.k role l
      (unsettled r.servers r.last_act frame.asked frame.k role frame.phase l e h))

  -- it is dropped
  pub drop_steady : frame.phase ≡ InDoubt → Steady (save_dropped r f frame).rec
  drop_steady e = ended_steady r f r.session frame frame.name frame.stored frame.session (SaveDropped frame.k)
      (λ o. o.work) (dropped_object f frame) s at
      (λ P o. dropped_if P f frame o)
      (λ o h here. h.within)
      (λ role l h. drop_asked r.servers r.last_act frame.asked frame.k role l
      (subst (λ (z : Phase). SteadyLink r.servers r.last_act z frame.asked frame.k role l) e h))

  -- it is in doubt
  module _ (committing : frame.phase ≡ Committing) where
    abbrev doubted : Record
    doubted = (commit_doubted r f frame).rec

    doubted_held : (role : Role) (link : Option Link)
        → IfSome link (SteadyLink r.servers r.last_act frame.phase frame.asked frame.k role)
        → IfSome link (SteadyLink r.servers r.last_act InDoubt frame.asked frame.k role)
    doubted_held role None h = tt
    doubted_held role (Some l) h = now_doubtful r.servers r.last_act frame.asked frame.k role l
        (subst (λ (z : Phase). SteadyLink r.servers r.last_act z frame.asked frame.k role l) committing h)

    doubted_object : (o : Object) → SteadyObject r o → SteadyObject doubted o
    doubted_object o h = elim (o.frame == f) as (λ b. (o.frame == f) ≡ b → SteadyObject doubted o) [
      | true ↦ (λ t. set_object r doubted f frame (doubted_frame frame) o o at refl (eqb-true o.frame f t) refl refl
          refl h.within refl h (doubted_held (role_in frame.ui.state o.number) o.link))
      | false ↦ (λ t. unset_object r doubted f (doubted_frame frame) o refl (eqb-false o.frame f t) refl refl refl h)
    ] refl

    doubted_grants : (i : ℕ) (x : GrantState) → SteadyGrant r i x → SteadyGrant doubted i x
    doubted_grants i x h = grant_kept r doubted i x
        (λ c names k. claim_kept r doubted i c (keeps_refl r.objects c.object) (omega arith) k) h

    pub doubt_steady : Steady doubted
    doubt_steady = record {
      frames = each_set SteadyFrame r.frames f (doubted_frame frame) s.frames (record { asked = tt });
      objects = each_weaker (SteadyObject r) (SteadyObject doubted) r.objects doubted_object s.objects;
      order = s.order;
      count = s.count;
      grants = λ i x e. elim (set_back r.frames f i frame (doubted_frame frame) x at e) [
        | inl same ↦ subst (λ (y : Frame). SteadyGrant doubted i y.ui.state) same.1
            (subst (λ (n : ℕ). SteadyGrant doubted n frame.ui.state) same.0
            (doubted_grants f frame.ui.state (s.grants f frame at)))
        | inr other ↦ doubted_grants i x.ui.state (s.grants i x other)
      ];
    }

-- a commit that is done
done_at_keeps : (r : Record) (f : ℕ) (found : Option Frame) (t : Took) → Steady r → nth r.frames f ≡ found
    → commit_at r f found ≡ Ok t → Steady t.rec
done_at_keeps r f None t s at e = cc
done_at_keeps r f (Some frame) t s at e = (let c = done_commits r f frame at t (ap (commit_at r f) at ∙ e) in
    subst (λ (z : Took). Steady z.rec) c.1 (commit_steady r f frame s at c.0))

pub commit_done_keeps : (r : Record) (f : ℕ) (t : Took) → Steady r → commit_done r f ≡ Ok t → Steady t.rec
commit_done_keeps r f t s e = done_at_keeps r f (nth r.frames f) t s refl e

-- one that fails
pub commit_failed_keeps : (r : Record) (f : ℕ) (t : Took) → Steady r → commit_failed r f ≡ Ok t → Steady t.rec
commit_failed_keeps r f t s e = (let d = is_failed r f t e in
    subst (λ (z : Took). Steady z.rec) d.made (doubt_steady r f d.frame s d.there d.phase))

-- one that is resolved
kept_at_keeps : (r : Record) (f : ℕ) (found : Option Frame) (t : Took) → Steady r → nth r.frames f ≡ found
    → resolved_at r f true found ≡ Ok t → Steady t.rec
kept_at_keeps r f None t s at e = cc
kept_at_keeps r f (Some frame) t s at e = (let c = kept_commits r f frame at t (ap (resolved_at r f true) at ∙ e) in
    subst (λ (z : Took). Steady z.rec) c.1 (commit_steady r f frame s at c.0))

pub resolve_keeps : (r : Record) (f : ℕ) (is_kept : Bool) (t : Took) → Steady r → resolve r f is_kept ≡ Ok t
    → Steady t.rec
resolve_keeps r f true t s e = kept_at_keeps r f (nth r.frames f) t s refl e
resolve_keeps r f false t s e = (let d = is_dropped r f t e in
    subst (λ (z : Took). Steady z.rec) d.made (drop_steady r f d.frame s d.there d.phase))
