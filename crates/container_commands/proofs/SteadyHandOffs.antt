-- A frame that hands off keeps a record steady.
use Rattle.std.proofs.Common.{◌≡◌, ◌≤◌, inl, inr, ℕ, ◌+◌, Bool, true, false, List, [], ◌∷◌, Option, Some, None, refl}
use Rattle.std.proofs.Common.{sym, arith, subst, ◌==◌}
use Rattle.std.proofs.lemmas.Bool.{eqb-true, eqb-false}
use Rattle.std.specs.Prelude.{IfSome, is_some}
use Rattle.message_values.specs.Found.{nth}
use Rattle.message_values.specs.declared.operation.Operation.{Operation}
use Rattle.message_values.specs.declared.operation.Operation.TheVariants.{HandsOff}
use Rattle.object_state.specs.declared.grant_states.GrantState.{GrantState}
use Rattle.container_model.specs.declared.record.Link.{Link}
use Rattle.container_model.specs.declared.record.Object.{Object}
use Rattle.container_model.specs.declared.record.Frame.{Frame}
use Rattle.container_model.specs.declared.record.Phase.{Phase}
use Rattle.container_model.specs.declared.record.Phase.TheVariants.{Idle, Saving, HandingOff, Committing, InDoubt}
use Rattle.container_model.specs.Record.{Record, MOST_OBJECTS, asked_link, asked_object}
use Rattle.container_model.specs.Grants.{Requested}
use Rattle.container_model.specs.HandOffs.{hand_off, hand_off_at, hand_off_each, hand_off_in, handed_off, handing_frame}
use Rattle.container_model.specs.HandOffs.{hands_off, hands_off_at, unasked}
use Rattle.container_model.specs.Saves.{awaits, is_awaited_link}
use Rattle.container_queues.specs.Roles.{Role, SteadyGrant, role_in}
use Rattle.container_queues.specs.Steady.{SteadyLink, SteadyObject, SteadyFrame, InOrder, Steady}
use Rattle.container_steady.proofs.SteadyClaims.{LinkStays, claim_kept, grant_kept, keeps_map, set_back}
use Rattle.container_steady.proofs.SteadyCounts.{count_map}
use Rattle.container_queues.proofs.SteadyLinks.{hand_off_asked}
use Rattle.container_queues.proofs.SteadyLookups.{each_both, each_map, each_set, pairs_map}
use Rattle.container_steady.proofs.SteadyMoves.{set_object, unset_object}
use Rattle.container_steady.proofs.SteadyRecords.{Answered, TookPlace, all_answered, answered_link, if_told, order_both}
use Rattle.container_steady.proofs.SteadyTests.{asked_follows, link_asked}

-- an object that is asked
pub asked_took : (f : ℕ) (op : Operation) (o : Object) → TookPlace (asked_object f op o) o
asked_took f op o = if_told (λ (z : Object). TookPlace z o) (o.frame == f) (record o { link = asked_link op o.link }) o
    (λ e. record { number = refl; frame = refl; link = asked_follows op o.link })
    (λ e. record { number = refl; frame = refl; link = λ l g. (l, g, refl) })

pub asked_stays : (f : ℕ) (op : Operation) (o : Object) → LinkStays o.link (asked_object f op o).link
asked_stays f op o = if_told (λ (z : Object). LinkStays o.link z.link) (o.frame == f)
    (record o { link = asked_link op o.link }) o (λ e. link_asked op o.link) (λ e l g. (l, g, refl))

-- what a frame that hands off tells
pub handing_at : (phase : Phase) (asked : Option (List ℕ)) (waits : Bool) → hands_off_at phase asked waits ≡ true
    → (phase ≡ Saving) × (is_some asked ≡ true) × (waits ≡ false)
handing_at Saving (Some name) false e = (refl, refl, refl)
handing_at Saving (Some name) true e = cc
handing_at Saving None waits e = cc
handing_at Idle asked waits e = cc
handing_at HandingOff asked waits e = cc
handing_at Committing asked waits e = cc
handing_at InDoubt asked waits e = cc

hand_off_held : (servers : List Bool) (last_act : ℕ) (asked : Option (List ℕ)) (k : ℕ) (role : Role) (phase : Phase)
    (link : Option Link) → phase ≡ Saving → is_awaited_link link ≡ false
    → IfSome link (SteadyLink servers last_act phase asked k role)
    → IfSome (asked_link HandsOff link) (SteadyLink servers last_act HandingOff asked k role)
hand_off_held servers last_act asked k role phase None p q h = tt
hand_off_held servers last_act asked k role phase (Some l) p q h =
    hand_off_asked servers last_act asked k role l
    (subst (λ (z : Phase). SteadyLink servers last_act z asked k role l) p h) (answered_link l q)

module _ (r : Record) (f : ℕ) (frame : Frame) (s : Steady r) (at : nth r.frames f ≡ Some frame)
    (hands : hands_off f r.objects frame ≡ true) where
  abbrev handed : Record
  handed = (handed_off r f frame).rec

  known : (frame.phase ≡ Saving) × (is_some frame.asked ≡ true) × (awaits f r.objects ≡ false)
  known = handing_at frame.phase frame.asked (awaits f r.objects) hands

  handed_object : (o : Object) → SteadyObject r o → Answered r.objects o
      → SteadyObject handed (asked_object f HandsOff o)
  handed_object o h answered = if_told (SteadyObject handed) (o.frame == f)
      (record o { link = asked_link HandsOff o.link }) o
      (λ e. let here = eqb-true o.frame f e in
      set_object r handed f frame (handing_frame frame) o (record o { link = asked_link HandsOff o.link }) at refl
      here refl refl refl h.within refl h
      (hand_off_held r.servers r.last_act frame.asked frame.k (role_in frame.ui.state o.number) frame.phase o.link
      known.0 (answered f known.2 here)))
      (λ e. unset_object r handed f (handing_frame frame) o refl (eqb-false o.frame f e) refl refl refl h)

  grants_stay : (i : ℕ) (x : GrantState) → SteadyGrant r i x → SteadyGrant handed i x
  grants_stay i x h = grant_kept r handed i x (λ c names k. claim_kept r handed i c
      (keeps_map r.objects c.object (asked_object f HandsOff) (λ y. (asked_took f HandsOff y).number)
      (λ y. (asked_took f HandsOff y).frame) (λ y found. asked_stays f HandsOff y)) (omega arith) k) h

  pub handed_steady : Steady handed
  handed_steady = record {
    frames = each_set SteadyFrame r.frames f (handing_frame frame) s.frames (record { asked = known.1 });
    objects = each_map (λ o. SteadyObject r o × Answered r.objects o) (SteadyObject handed)
        (asked_object f HandsOff) r.objects (λ o k. handed_object o k.0 k.1)
        (each_both (SteadyObject r) (Answered r.objects) r.objects s.objects (all_answered r.objects));
    order = pairs_map InOrder (asked_object f HandsOff) r.objects
        (order_both (asked_object f HandsOff) (asked_took f HandsOff)) s.order;
    count = λ g. subst (λ (n : ℕ). n ≤ MOST_OBJECTS)
        (sym (count_map g (asked_object f HandsOff) r.objects (λ o. (asked_took f HandsOff o).frame))) (s.count g);
    grants = λ i x e. elim (set_back r.frames f i frame (handing_frame frame) x at e) [
      | inl same ↦ subst (λ (y : Frame). SteadyGrant handed i y.ui.state) same.1
          (subst (λ (n : ℕ). SteadyGrant handed n frame.ui.state) same.0
          (grants_stay f frame.ui.state (s.grants f frame at)))
      | inr other ↦ grants_stay i x.ui.state (s.grants i x other)
    ];
  }

-- one frame, and all of them
hand_off_at_steady : (r : Record) (f : ℕ) (frame : Option Frame) → Steady r → nth r.frames f ≡ frame
    → Steady (hand_off_at r f frame).rec
hand_off_at_steady r f None s at = s
hand_off_at_steady r f (Some frame) s at = if_told (λ (z : Requested). Steady z.rec) (hands_off f r.objects frame)
    (handed_off r f frame) (unasked r)
    (λ e. handed_steady r f frame s at e)
    (λ e. s)

pub hand_off_in_steady : (r : Record) (f : ℕ) → Steady r → Steady (hand_off_in r f).rec
hand_off_in_steady r f s = hand_off_at_steady r f (nth r.frames f) s refl

hand_off_each_steady : (f : ℕ) (frames : List Frame) (r : Record) → Steady r → Steady (hand_off_each f frames r).rec
hand_off_each_steady f [] r s = s
hand_off_each_steady f (x ∷ xs) r s = hand_off_each_steady (f + 1) xs (hand_off_in r f).rec (hand_off_in_steady r f s)

pub hand_off_steady : (r : Record) → Steady r → Steady (hand_off r).rec
hand_off_steady r s = hand_off_each_steady 1 r.frames r s
