-- Saves that are asked for and that go on: each object of a frame is asked for its content, and in a save under another
-- name then for its storage.
use Rattle.std.proofs.Common.{◌≡◌, ℕ, ◌+◌, Bool, true, false, List, [], ◌∷◌, ◌++◌, length, map, Option, Some, None}
use Rattle.std.proofs.Common.{refl, sym, ap, ◌∙◌, subst, if◌then◌else◌, ◌<◌}
use Rattle.message_values.specs.Found.{find, nth}
use Rattle.message_values.specs.declared.operation.Operation.{Operation}
use Rattle.message_values.specs.declared.operation.Operation.TheVariants.{HandsOff, Save, UiActivate}
use Rattle.object_state.specs.Grants.{Event}
use Rattle.object_state.specs.Frames.{after}
use Rattle.object_state.specs.declared.grant_states.Claim.{Claim}
use Rattle.container_model.specs.declared.grants.Tells.{Tells}
use Rattle.container_model.specs.declared.record.Frame.{Frame}
use Rattle.container_model.specs.declared.record.Object.{Object}
use Rattle.container_model.specs.Record.{Record, asked_all, asked_link, asked_object, is_object, with_frame}
use Rattle.container_model.specs.Grants.{Requested, event_of, further, grant_each, moved, passed_to, regranted}
use Rattle.container_model.specs.Grants.{regranted_by, regranted_in, request, requested}
use Rattle.container_model.specs.Saves.{settle_actions}
use Rattle.container_model.specs.HandOffs.{hand_off, hand_off_at, hand_off_each, hand_off_in, handed_off, hands_off}
use Rattle.container_model.specs.HandOffs.{unasked as not_handed}
use Rattle.container_model.specs.Commands.{save_made, saving, saving_on}
use Rattle.container_queues.specs.Steady.{EachPair, Steady}
use Rattle.container_steady.proofs.SteadyTests.{found_numbered}
use Rattle.world_model.specs.Safe.{links_of}
use Rattle.world_facts.specs.Words.{all_said}
use Rattle.world_facts.specs.Shapes.{IsQuiet}
use Rattle.world_facts.proofs.Lookups.{map_put, map_map_same}
use Rattle.world_steps.specs.Steps.{AsksInTurn, asks_first, asks_none, IsTurned}
use Rattle.world_steps.proofs.Objects.{Waits, steady_waits, said_join, sent_of, no_start, no_start_settled, no_end}
use Rattle.world_steps.proofs.Objects.{no_end_settled}
use Rattle.world_steps.proofs.Asking.{Rising, asked_number, frame_asked, numbers, ordered_rise}
use Rattle.world_steps.proofs.Turns.{one_turn, turns_further, waits_asked}

-- what an object that is asked next leans on
pub record IsOrderly (r : Record) : Type 0 where
  pub waits : Waits (links_of r.objects)
  pub rises : Rising r.objects

pub steady_orderly : (r : Record) → Steady r → IsOrderly r
steady_orderly r s = record { waits = steady_waits r s; rises = ordered_rise r.objects s.order }

-- objects keep their numbers
pub rises_same : (os us : List Object) → numbers us ≡ numbers os → Rising os → Rising us
rises_same os us e h = subst (EachPair ◌<◌) (sym e) h

-- operations are asked, and frames change alone besides
pub record IsHanded (r : Record) (v : Requested) : Type 0 where
  pub asked : AsksInTurn (links_of r.objects) (links_of v.rec.objects) (all_said v.sent)
  pub orderly : IsOrderly v.rec
  pub servers : v.rec.servers ≡ r.servers
  pub last_act : v.rec.last_act ≡ r.last_act

none_handed : (r : Record) → IsOrderly r → IsHanded r (not_handed r)
none_handed r h = record {
  asked = asks_none (links_of r.objects) (links_of r.objects) [] (λ o. refl) refl;
  orderly = h;
  servers = refl;
  last_act = refl;
}

hands_quiet : IsQuiet HandsOff
hands_quiet = λ k storage e. cc

asked_orderly : (os : List Object) (f : ℕ) (op : Operation) → IsQuiet op → Waits (links_of os) → Rising os
    → Waits (links_of (map (asked_object f op) os)) × Rising (map (asked_object f op) os)
asked_orderly os f op q w rise = (
  waits_asked (λ o p. IsQuiet p) (links_of os) (links_of (map (asked_object f op) os))
      (all_said (asked_all f op os)) (frame_asked os f op w rise q) w,
  rises_same os (map (asked_object f op) os)
      (map_map_same (λ (o : Object). o.number) (asked_object f op) os (asked_number f op)) rise,
)

frame_handed : (r : Record) (f : ℕ) (frame : Frame) → IsOrderly r → IsHanded r (handed_off r f frame)
frame_handed r f frame h =
    let o = asked_orderly r.objects f HandsOff hands_quiet h.waits h.rises in
    record {
      asked = one_turn (links_of r.objects) (links_of (map (asked_object f HandsOff) r.objects))
          (all_said (asked_all f HandsOff r.objects))
          (frame_asked r.objects f HandsOff h.waits h.rises hands_quiet);
      orderly = record { waits = o.0; rises = o.1 };
      servers = refl;
      last_act = refl;
    }

handed_at : (r : Record) (f : ℕ) (frame : Option Frame) → IsOrderly r → IsHanded r (hand_off_at r f frame)
handed_at r f None h = none_handed r h
handed_at r f (Some frame) h =
    elim (hands_off f r.objects frame) as (λ b. IsHanded r (if b then handed_off r f frame else not_handed r)) [
      | true ↦ frame_handed r f frame h
      | false ↦ none_handed r h
    ]

pub handed_in : (r : Record) (f : ℕ) → IsOrderly r → IsHanded r (hand_off_in r f)
handed_in r f h = handed_at r f (nth r.frames f) h

pub handed_if : (b : Bool) (r : Record) (f : ℕ) → IsOrderly r → IsHanded r (if b then hand_off_in r f else not_handed r)
handed_if true r f h = handed_in r f h
handed_if false r f h = none_handed r h

pub handed_further : (r : Record) (v u : Requested) → IsHanded r v → IsHanded v.rec u → IsHanded r (further v u)
handed_further r v u h k = record {
  asked = turns_further (links_of r.objects) (links_of v.rec.objects) (links_of u.rec.objects) v.sent u.sent h.asked
      k.asked;
  orderly = k.orderly;
  servers = k.servers ∙ h.servers;
  last_act = k.last_act ∙ h.last_act;
}

handed_each : (f : ℕ) (frames : List Frame) (r : Record) → IsOrderly r → IsHanded r (hand_off_each f frames r)
handed_each f [] r h = none_handed r h
handed_each f (frame ∷ frames) r h =
    let first = handed_in r f h in
    handed_further r (hand_off_in r f) (hand_off_each (f + 1) frames (hand_off_in r f).rec) first
    (handed_each (f + 1) frames (hand_off_in r f).rec first.orderly)

pub all_handed : (r : Record) → IsOrderly r → IsHanded r (hand_off r)
all_handed r h = handed_each 1 r.frames r h

-- a save is asked for
save_quiet : (k : ℕ) → IsQuiet (Save k)
save_quiet k = λ j storage e. cc

pub save_turned : (r : Record) (f : ℕ) (frame : Frame) (raised : Option ℕ) (name : Option (List ℕ)) → Steady r
    → IsTurned r (save_made r f frame raised name)
save_turned r f frame raised name s =
    let op = Save (frame.k + 1) in
    let first = asked_all f op r.objects in
    let v = saving r f frame raised name in
    let u = saving_on r f frame raised name in
    let h = steady_orderly r s in
    let o = asked_orderly r.objects f op (save_quiet (frame.k + 1)) h.waits h.rises in
    let k = handed_in v f (record { waits = o.0; rises = o.1 }) in
    let ms = first ++ u.sent in (
      subst (AsksInTurn (links_of r.objects) (links_of u.rec.objects)) (sym (sent_of ms 1 u.rec.objects u.rec.frames))
          (asks_first (links_of r.objects) (links_of v.objects) (links_of u.rec.objects) (all_said first)
          (all_said u.sent) (all_said ms) (frame_asked r.objects f op h.waits h.rises
          (save_quiet (frame.k + 1))) k.asked (said_join first u.sent)),
      record {
        last_act = k.last_act;
        servers = ap length k.servers;
        starts = λ session count. no_start session count ms (settle_actions u.rec)
            (no_start_settled session count 1 u.rec.objects u.rec.frames);
        ends = λ is. no_end ms (settle_actions u.rec) is (no_end_settled 1 u.rec.objects u.rec.frames is);
      },
    )

-- objects of a record keep their numbers as they are asked one by one
requested_numbers : (r : Record) (n : ℕ) (op : Operation) (x : Option Object) → find (is_object n) r.objects ≡ x
    → numbers (requested r op x).rec.objects ≡ numbers r.objects
requested_numbers r n op None e = refl
requested_numbers r n op (Some o) e = map_put (λ (z : Object). z.number) (is_object o.number)
    (record o { link = asked_link op o.link }) o r.objects (found_numbered n r.objects o e) refl

pub grants_numbers : (claims : List Claim) (r : Record) → numbers (grant_each r claims).rec.objects ≡ numbers r.objects
grants_numbers [] r = refl
grants_numbers (c ∷ cs) r = (let v = (request r c.object (UiActivate c.g)).rec in
    grants_numbers cs v ∙ requested_numbers r c.object (UiActivate c.g) (find (is_object c.object) r.objects) refl)

event_numbers : (r : Record) (f : ℕ) (frame : Frame) (e : Option Event)
    → numbers (regranted_by r f frame e).rec.objects ≡ numbers r.objects
event_numbers r f frame None = refl
event_numbers r f frame (Some e) = grants_numbers (passed_to frame.ui.state (after frame.ui e).state)
    (with_frame r f (moved frame e))

told_numbers : (r : Record) (f : ℕ) (told : Tells) (frame : Option Frame)
    → numbers (regranted_in r f told frame).rec.objects ≡ numbers r.objects
told_numbers r f told None = refl
told_numbers r f told (Some frame) = event_numbers r f frame (event_of frame.ui.state told)

pub regranted_numbers : (r : Record) (f : ℕ) (told : Option Tells) → numbers (regranted r f told).rec.objects
    ≡ numbers r.objects
regranted_numbers r f None = refl
regranted_numbers r f (Some told) = told_numbers r f told (nth r.frames f)
