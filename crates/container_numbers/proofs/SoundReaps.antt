-- The end of a server leaves a record sound.
use Rattle.std.proofs.Common.{◌≡◌, ◌≤◌, ◌+◌, ◌==◌, ℕ, zero, suc, true, List, [], ◌∷◌, length, map, Option, Some, None}
use Rattle.std.proofs.Common.{Result, Ok, Err, refl, sym, ◌∙◌, ap, subst, arith, slice_get}
use Rattle.message_values.specs.Found.{find}
use Rattle.object_state.specs.declared.grant_states.Claim.{Claim}
use Rattle.object_state.specs.declared.grant_states.GrantState.{GrantState}
use Rattle.object_state.specs.declared.grant_states.GrantState.TheVariants.{Free, Granting, Held, Revoking}
use Rattle.object_state.specs.declared.grant_faults.GrantFault.{GrantFault}
use Rattle.object_state.specs.Grants.{Lost, but_for, table, waiting, who}
use Rattle.object_state.specs.Frames.{Ui, after}
use Rattle.object_state.specs.Frames as ui
use Rattle.container_model.specs.declared.fault.ContainerFault.{ContainerFault}
use Rattle.container_model.specs.declared.fault.ContainerFault.TheVariants.{NoSuch}
use Rattle.container_model.specs.declared.record.Link.{Link}
use Rattle.container_model.specs.declared.record.Object.{Object}
use Rattle.container_model.specs.declared.record.Frame.{Frame}
use Rattle.container_model.specs.Record.{Record, Took, is_alive, is_object}
use Rattle.container_model.specs.Grants.{freed, freed_claims, freed_frame, is_hosted_object, lost_by, passed_to}
use Rattle.container_model.specs.Grants.{unwaited}
use Rattle.container_model.specs.Messages.{on_reap, reap_made, reaped, reaped_grants, reaped_object, reaped_saving}
use Rattle.container_model.specs.Room.{HasNumbers, debt_in, grant_debt}
use Rattle.container_model.specs.Saves.{kept}
use Rattle.container_queues.specs.Steady.{Steady}
use Rattle.container_queues.proofs.SteadyLookups.{each_both, each_map, pairs_map}
use Rattle.container_steady.proofs.SteadyTells.{if_told}
use Rattle.container_numbers.proofs.SoundGrants.{Pays, pays_stays, pays_told, told, told-append, told_waits}
use Rattle.container_numbers.proofs.SoundHandOffs.{hand_off_within}
use Rattle.container_numbers.proofs.SoundMoves.{FoundIn, all_found, granted_frames, granted_pays, waits_in}
use Rattle.container_numbers.proofs.SoundRooms.{Differs, IsSaved, Owing, Within, debts, length-set_nth, owes_less}
use Rattle.container_numbers.proofs.SoundRooms.{within_of}
use Rattle.container_numbers.proofs.SoundSaves.{settled_sound}

-- ---- a frame that is freed
lost_pays : (inc : ℕ) (os : List Object) (ui : Ui) (c : Option Claim) → Pays ui.state (lost_by inc os ui c).state
lost_pays inc os ui None = pays_stays ui.state
lost_pays inc os ui (Some claim) = if_told (λ (x : Ui). Pays ui.state x.state)
    (is_hosted_object inc (find (is_object claim.object) os)) (after ui (Lost claim.act)) ui
    (λ t. pays_told ui.state (Lost claim.act) tt) (λ t. pays_stays ui.state)

freed_pays : (inc : ℕ) (os : List Object) (ui : Ui) (n : ℕ) → grant_debt n (freed inc os ui).state
    + told (passed_to (unwaited inc os ui).state (freed inc os ui).state) n ≤ grant_debt n ui.state
freed_pays inc os ui n =
    let first = lost_pays inc os ui (waiting ui.state) n in
    let second = lost_pays inc os (unwaited inc os ui) (who ui.state) n in
    omega arith

-- ---- whoever waits after it waited before
ended_waits : (s : GrantState) (act : ℕ) (c : Claim) → waiting (ui.kept s (table s (Lost act))) ≡ Some c
    → waiting s ≡ Some c
ended_waits Free act c e = e
ended_waits (Granting d) act c e = if_told (λ (z : Result GrantState GrantFault). waiting (ui.kept (Granting d) z)
    ≡ Some c → waiting (Granting d) ≡ Some c) (act == d.act) (Ok Free) (Ok (Granting d)) (λ t g. g) (λ t g. g) e
ended_waits (Held d tools) act c e =
    if_told (λ (z : Result GrantState GrantFault). waiting (ui.kept (Held d tools) z) ≡ Some c
    → waiting (Held d tools) ≡ Some c) (act == d.act) (Ok Free) (Ok (Held d tools)) (λ t g. g) (λ t g. g) e
ended_waits (Revoking d None) act c e =
    if_told (λ (z : Result GrantState GrantFault). waiting (ui.kept (Revoking d None) z) ≡ Some c
    → waiting (Revoking d None) ≡ Some c) (act == d.act) (Ok Free) (Ok (Revoking d None)) (λ t g. g) (λ t g. g)
    e
ended_waits (Revoking d (Some next)) act c e =
    if_told (λ (z : Result GrantState GrantFault). waiting (ui.kept (Revoking d (Some next)) z) ≡ Some c
    → Some next ≡ Some c) (act == d.act) (Ok (Granting next)) (Ok (Revoking d (but_for act (Some next))))
    (λ t g. absurd (cc))
    (λ t g. if_told (λ (z : Option Claim). z ≡ Some c → Some next ≡ Some c) (act == next.act) None (Some next)
    (λ u q. absurd (cc)) (λ u q. q) g) e

lost_waits : (inc : ℕ) (os : List Object) (ui : Ui) (claim : Option Claim) (c : Claim)
    → waiting (lost_by inc os ui claim).state ≡ Some c → waiting ui.state ≡ Some c
lost_waits inc os ui None c e = e
lost_waits inc os ui (Some claim) c e = if_told (λ (x : Ui). waiting x.state ≡ Some c → waiting ui.state ≡ Some c)
    (is_hosted_object inc (find (is_object claim.object) os)) (after ui (Lost claim.act)) ui
    (λ t g. ended_waits ui.state claim.act c g) (λ t g. g) e

-- ---- what all frames pay
abbrev Unwaited : ℕ → Frame → Type 0
Unwaited n frame = (c : Claim) → waiting frame.ui.state ≡ Some c → c.object ≡ n → ⊥

told_none : (inc n : ℕ) (os : List Object) (frame : Frame) → Unwaited n frame
    → told (passed_to (unwaited inc os frame.ui).state (freed inc os frame.ui).state) n ≡ 0
told_none inc n os frame k = told_waits (unwaited inc os frame.ui).state (freed inc os frame.ui).state n
    (lost_pays inc os (unwaited inc os frame.ui) (who frame.ui.state))
    (λ c e. k c (lost_waits inc os frame.ui (waiting frame.ui.state) c e))

none_told : (inc n : ℕ) (os : List Object) (frames : List Frame)
    → ((i : ℕ) (frame : Frame) → slice_get frames i ≡ Some frame → Unwaited n frame)
    → told (freed_claims inc os frames) n ≡ 0
none_told inc n os [] k = refl
none_told inc n os (y ∷ ys) k =
    let first = told_none inc n os y (k zero y refl) in
    let rest = none_told inc n os ys (λ i frame at. k (suc i) frame at) in
    let both = told-append (passed_to (unwaited inc os y.ui).state (freed inc os y.ui).state)
    (freed_claims inc os ys) n in
    omega arith

frames_pay : (inc n : ℕ) (os : List Object) (frames : List Frame) (p : ℕ)
    → ((i : ℕ) (frame : Frame) → slice_get frames i ≡ Some frame → (i ≡ p → ⊥) → Unwaited n frame)
    → debt_in n (slice_get (map (freed_frame inc os) frames) p) + told (freed_claims inc os frames) n
    ≤ debt_in n (slice_get frames p)
frames_pay inc n os [] p k = omega arith
frames_pay inc n os (y ∷ ys) zero k =
    let first = freed_pays inc os y.ui n in
    let rest = none_told inc n os ys (λ i frame at. k (suc i) frame at (λ e. absurd (omega arith))) in
    let both = told-append (passed_to (unwaited inc os y.ui).state (freed inc os y.ui).state)
    (freed_claims inc os ys) n in
    omega arith
frames_pay inc n os (y ∷ ys) (suc p) k =
    let first = told_none inc n os y (k zero y refl (λ e. absurd (omega arith))) in
    let rest = frames_pay inc n os ys p (λ i frame at ne. k (suc i) frame at (λ e. ne (omega arith))) in
    let both = told-append (passed_to (unwaited inc os y.ui).state (freed inc os y.ui).state)
    (freed_claims inc os ys) n in
    omega arith

-- ---- each object after its server's end
reaped_number : (inc : ℕ) (o : Object) (link : Option Link) → (reaped_object inc o link).number ≡ o.number
reaped_number inc o None = refl
reaped_number inc o (Some l) = if_told (λ (z : Object). z.number ≡ o.number) (l.inc == inc)
    (record o { work = kept o; link = None }) o (λ t. refl) (λ t. refl)

reaped_room : (inc numbers : ℕ) (D : ℕ → ℕ → ℕ) (o : Object) (link : Option Link) → Owing numbers D o
    → Owing numbers D (reaped_object inc o link)
reaped_room inc numbers D o None h = h
reaped_room inc numbers D o (Some l) h = if_told (Owing numbers D) (l.inc == inc)
    (record o { work = kept o; link = None }) o (λ t. tt) (λ t. h)

length-freed : (inc : ℕ) (os : List Object) (frames : List Frame) → length (map (freed_frame inc os) frames)
    ≡ length frames
length-freed inc os [] = refl
length-freed inc os (y ∷ ys) = ap suc (length-freed inc os ys)

module _ (r : Record) (inc : ℕ) (s : Steady r) where
  abbrev claims : List Claim
  claims = freed_claims inc r.objects r.frames

  abbrev freed_frames : List Frame
  freed_frames = map (freed_frame inc r.objects) r.frames

  abbrev gone : Record
  gone = record (reaped r inc) { frames = freed_frames }

  abbrev Owed : ℕ → ℕ → ℕ
  Owed m f = debts freed_frames m f + told claims m

  pays_in : (x : Object) (f : ℕ) → FoundIn r.objects x → x.frame ≡ f → Owed x.number f ≤ debts r.frames x.number f
  pays_in x zero found e =
      let none = none_told inc x.number r.objects r.frames
      (λ i frame at c waits same. (let in_it = waits_in r (suc i) frame s at x found c waits same in
      absurd (omega arith))) in
      omega arith
  pays_in x (suc p) found e = frames_pay inc x.number r.objects r.frames p
      (λ i frame at ne c waits same. (let in_it = waits_in r (suc i) frame s at x found c waits same in
      ne (omega arith)))

  gone_room : (o : Object) → Owing r.numbers (debts r.frames) o × FoundIn r.objects o
      → Owing r.numbers Owed (reaped_object inc o o.link)
  gone_room o h = reaped_room inc r.numbers Owed o o.link
      (owes_less r.numbers (debts r.frames) Owed o (pays_in o o.frame h.1 refl) h.0)

  gone_within : {Greatest : ℕ → Type 0} → Within Greatest (debts r.frames) r → Within Greatest Owed gone
  gone_within h = record {
    limit = h.limit;
    room = each_map (λ (o : Object). Owing r.numbers (debts r.frames) o × FoundIn r.objects o)
        (Owing r.numbers Owed) (λ o. reaped_object inc o o.link) r.objects gone_room
        (each_both (Owing r.numbers (debts r.frames)) (FoundIn r.objects) r.objects h.room
        (all_found r.objects s.order));
    saves = each_map (IsSaved r.numbers) (IsSaved r.numbers) (freed_frame inc r.objects) r.frames (λ x k. k) h.saves;
    frames = (let e = length-freed inc r.objects r.frames in let few = h.frames in omega arith);
    servers = (let e = length-set_nth r.servers inc true in let few = h.servers in omega arith);
    objects = h.objects;
    acts = h.acts;
    grants = h.grants;
    apart = pairs_map Differs (λ o. reaped_object inc o o.link) r.objects
        (λ x y ne q. ne (sym (reaped_number inc x x.link) ∙ (q ∙ reaped_number inc y y.link))) h.apart;
  }

  reap_sound : {Greatest : ℕ → Type 0} → HasNumbers Greatest r → HasNumbers Greatest (reap_made r inc).rec
  reap_sound {Greatest} h = settled_sound (reaped_saving r inc).rec
      (hand_off_within (reaped_grants r inc).rec
      (subst (λ (frames : List Frame). Within Greatest (debts frames) (reaped_grants r inc).rec)
      (sym (granted_frames claims gone))
      (granted_pays claims gone (debts freed_frames) (gone_within (within_of r s h)))))

pub reaps_keep : {Greatest : ℕ → Type 0} (r : Record) (inc : ℕ) (t : Took) → Steady r → HasNumbers Greatest r
    → on_reap r inc ≡ Ok t → HasNumbers Greatest t.rec
reaps_keep {Greatest} r inc t s h e = if_told (λ (z : Result Took ContainerFault). z ≡ Ok t
    → HasNumbers Greatest t.rec) (is_alive r inc) (Ok (reap_made r inc)) (Err NoSuch)
    (λ a g. let same : reap_made r inc ≡ t = cc in subst (λ (z : Took). HasNumbers Greatest z.rec) same
    (reap_sound r inc s h))
    (λ a g. cc) e
