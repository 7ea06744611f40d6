-- A frame that hands off leaves a record sound: whoever is asked pays with what the save under another name owes.
use Rattle.std.proofs.Common.{◌≡◌, ◌+◌, ◌==◌, ℕ, Bool, true, List, [], ◌∷◌, Option, Some, None, refl, sym, ◌∙◌, ap}
use Rattle.std.proofs.Common.{subst, arith}
use Rattle.std.proofs.lemmas.Bool.{eqb-true, eqb-false}
use Rattle.message_values.specs.Found.{nth, set_nth}
use Rattle.message_values.specs.declared.operation.Operation.{Operation}
use Rattle.message_values.specs.declared.operation.Operation.TheVariants.{HandsOff}
use Rattle.container_model.specs.declared.record.Object.{Object}
use Rattle.container_model.specs.declared.record.Frame.{Frame}
use Rattle.container_model.specs.declared.record.Phase.{Phase}
use Rattle.container_model.specs.declared.record.Phase.TheVariants.{Idle, Saving, HandingOff, Committing, InDoubt}
use Rattle.container_model.specs.Record.{Record, asked_link, asked_object}
use Rattle.container_model.specs.Room.{IfLinked, IsRoomy, debt, debt_in, grant_debt}
use Rattle.container_model.specs.Grants.{Requested}
use Rattle.container_model.specs.HandOffs.{hand_off, hand_off_at, hand_off_each, hand_off_in, handed_off, handing_frame}
use Rattle.container_model.specs.HandOffs.{hands_off, hands_off_at, unasked}
use Rattle.container_model.specs.Saves.{awaits}
use Rattle.container_queues.proofs.SteadyLookups.{each_map, each_nth, each_set, nth-set_other, nth-set_same, pairs_map}
use Rattle.container_steady.proofs.SteadyTells.{if_told}
use Rattle.container_numbers.proofs.SoundRooms.{Differs, IsSaved, Owing, Within, asked_linked, debts, length-set_nth}

pub asked_number : (f : ℕ) (op : Operation) (o : Object) → (asked_object f op o).number ≡ o.number
asked_number f op o = if_told (λ (z : Object). z.number ≡ o.number) (o.frame == f)
    (record o { link = asked_link op o.link }) o (λ t. refl) (λ t. refl)

handing_debt : (phase : Phase) (asked : Option (List ℕ)) (waits : Bool) → hands_off_at phase asked waits ≡ true
    → debt phase asked ≡ debt HandingOff asked + 1
handing_debt Saving (Some name) waits e = refl
handing_debt Saving None waits e = cc
handing_debt Idle asked waits e = cc
handing_debt HandingOff asked waits e = cc
handing_debt Committing asked waits e = cc
handing_debt InDoubt asked waits e = cc

module _ (r : Record) (f : ℕ) (frame : Frame) (at : nth r.frames f ≡ Some frame)
    (hands : hands_off f r.objects frame ≡ true) where
  abbrev after : List Frame
  after = set_nth r.frames f (handing_frame frame)

  paid : (n i : ℕ) → i ≡ f → debts r.frames n i ≡ debts after n i + 1
  paid n i e =
      let owed = handing_debt frame.phase frame.asked (awaits f r.objects) hands in
      let now : debts after n i ≡ debt HandingOff frame.asked + grant_debt n frame.ui.state = ap (debts after n) e
      ∙ ap (debt_in n) (nth-set_same r.frames f frame (handing_frame frame) at) in
      let old : debts r.frames n i ≡ debt frame.phase frame.asked + grant_debt n frame.ui.state =
      ap (debts r.frames n) e ∙ ap (debt_in n) at in
      omega arith

  asked_room : (o : Object) → Owing r.numbers (debts r.frames) o
      → Owing r.numbers (debts after) (asked_object f HandsOff o)
  asked_room o h = if_told (Owing r.numbers (debts after)) (o.frame == f)
      (record o { link = asked_link HandsOff o.link }) o
      (λ t. asked_linked r.numbers (debts after o.number o.frame) HandsOff o.link
      (subst (λ (m : ℕ). IfLinked (IsRoomy r.numbers m) o.link) (paid o.number o.frame (eqb-true o.frame f t))
      h))
      (λ t. subst (λ (m : ℕ). IfLinked (IsRoomy r.numbers m) o.link)
      (ap (debt_in o.number)
      (sym (nth-set_other r.frames f o.frame (handing_frame frame) (λ q. eqb-false o.frame f t (sym q))))) h)

  handed_within : {Greatest : ℕ → Type 0} → Within Greatest (debts r.frames) r
      → Within Greatest (debts after) (handed_off r f frame).rec
  handed_within h = record {
    limit = h.limit;
    room = each_map (Owing r.numbers (debts r.frames)) (Owing r.numbers (debts after)) (asked_object f HandsOff)
        r.objects asked_room h.room;
    saves = each_set (IsSaved r.numbers) r.frames f (handing_frame frame) h.saves
        (each_nth (IsSaved r.numbers) r.frames f frame h.saves at);
    frames = (let e = length-set_nth r.frames f (handing_frame frame) in let few = h.frames in omega arith);
    servers = h.servers;
    objects = h.objects;
    acts = h.acts;
    grants = h.grants;
    apart = pairs_map Differs (asked_object f HandsOff) r.objects
        (λ x y k q. k (sym (asked_number f HandsOff x) ∙ (q ∙ asked_number f HandsOff y))) h.apart;
  }

-- one frame, and all of them
hand_off_at_within : {Greatest : ℕ → Type 0} (r : Record) (f : ℕ) (frame : Option Frame) → nth r.frames f ≡ frame
    → Within Greatest (debts r.frames) r → Within Greatest (debts (hand_off_at r f frame).rec.frames)
    (hand_off_at r f frame).rec
hand_off_at_within r f None at h = h
hand_off_at_within {Greatest} r f (Some frame) at h =
    if_told (λ (z : Requested). Within Greatest (debts z.rec.frames) z.rec) (hands_off f r.objects frame)
    (handed_off r f frame) (unasked r)
    (λ t. handed_within r f frame at t h)
    (λ t. h)

pub hand_off_in_within : {Greatest : ℕ → Type 0} (r : Record) (f : ℕ) → Within Greatest (debts r.frames) r
    → Within Greatest (debts (hand_off_in r f).rec.frames) (hand_off_in r f).rec
hand_off_in_within r f h = hand_off_at_within r f (nth r.frames f) refl h

hand_off_each_within : {Greatest : ℕ → Type 0} (f : ℕ) (frames : List Frame) (r : Record)
    → Within Greatest (debts r.frames) r → Within Greatest (debts (hand_off_each f frames r).rec.frames)
    (hand_off_each f frames r).rec
hand_off_each_within f [] r h = h
hand_off_each_within f (x ∷ xs) r h = hand_off_each_within (f + 1) xs (hand_off_in r f).rec (hand_off_in_within r f h)

pub hand_off_within : {Greatest : ℕ → Type 0} (r : Record) → Within Greatest (debts r.frames) r
    → Within Greatest (debts (hand_off r).rec.frames) (hand_off r).rec
hand_off_within r h = hand_off_each_within 1 r.frames r h
