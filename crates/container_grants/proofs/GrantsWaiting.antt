-- Objects that wait for their frames, where another one gives its frame up, or its server ends.
use Rattle.std.proofs.Common.{◌≡◌, ◌≤◌, ◌+◌, ◌==◌, ◌⊎◌, ℕ, zero, suc, Bool, true, false, List, [], ◌∷◌, ◌++◌, length}
use Rattle.std.proofs.Common.{map, Option, Some, None, Ok, inl, inr, refl, sym, ap, ◌∙◌, subst, arith, eq-eqb, nat_le}
use Rattle.std.proofs.Common.{slice_get, if◌then◌else◌}
use Rattle.std.proofs.lemmas.Bool.{ne_eqb}
use Rattle.std.specs.List.{AllByRecursion}
use Rattle.std.specs.Prelude.{IfSome, option_map, option_to_list}
use Rattle.message_values.specs.Found.{find, nth, put}
use Rattle.message_values.specs.declared.answer.Answer.{Answer}
use Rattle.message_values.specs.declared.operation.Operation.{Operation}
use Rattle.message_values.specs.declared.operation.Operation.TheVariants.{UiDeactivate}
use Rattle.object_state.specs.declared.grant_states.Claim.{Claim}
use Rattle.object_state.specs.declared.grant_states.GrantState.{GrantState}
use Rattle.object_state.specs.declared.grant_states.GrantState.TheVariants.{Free, Granting, Held, Revoking}
use Rattle.object_state.specs.Frames.{Ui, after, kept}
use Rattle.object_state.specs.Grants.{IsApart, Lost, waiting, who}
use Rattle.container_links.specs.Relieving.{gives_up}
use Rattle.container_model.specs.declared.record.Frame.{Frame}
use Rattle.container_model.specs.declared.record.Link.{Link}
use Rattle.container_model.specs.declared.record.Object.{Object}
use Rattle.container_model.specs.Grants.{freed, freed_claims, is_by, is_hosted, is_hosted_object, passed_to, unwaited}
use Rattle.container_model.specs.Saves as saves
use Rattle.container_model.specs.Messages.{reaped_object, reply_link}
use Rattle.container_model.specs.Record.{Record, is_object}
use Rattle.container_grants.specs.Granted.{claims_by, claims_if}
use Rattle.container_queues.specs.Roles.{Giving, IsClaim, Plays, SteadyGrant, queue_of, role_in, waits_as}
use Rattle.container_queues.specs.Steady.{Steady, SteadyLink, SteadyObject}
use Rattle.container_steady.proofs.SteadyFinds.{find-map, find-put_other, put_by_number}
use Rattle.container_queues.proofs.SteadyLookups.{each_found, each_weaker}
use Rattle.container_steady.proofs.SteadyRecords.{at_some, if_at}
use Rattle.container_grants.proofs.GrantsEach.{Agrees, Differ, IsOther}

-- ---- whoever waits is another object than the one that is to give the frame up
waits_apart : (state : GrantState) (number : ℕ) (ws : List Operation) (c : Claim) → IsApart state
    → waiting state ≡ Some c → Plays (role_in state number) (UiDeactivate ∷ ws) → c.object ≡ number → ⊥
waits_apart Free number ws c apart e plays same = absurd (cc)
waits_apart (Granting claim) number ws c apart e plays same = absurd (cc)
waits_apart (Held holder tools) number ws c apart e plays same = absurd (cc)
waits_apart (Revoking holder None) number ws c apart e plays same = absurd (cc)
waits_apart (Revoking holder (Some next)) number ws c apart e plays same =
    let n : next ≡ c = cc in
    let here : next.object ≡ number = ap (λ (x : Claim). x.object) n ∙ same in
    let other : (holder.object == number) ≡ false = ne_eqb holder.object number (λ h. apart.0 (here ∙ sym h)) in
    let own : (next.object == number) ≡ true = eq-eqb next.object number here in
    let waits : Plays (waits_as number (Some next)) (UiDeactivate ∷ ws) =
    subst (λ (b : Bool). Plays (if b then Giving holder.g else waits_as number (Some next)) (UiDeactivate ∷ ws))
    other plays in
    let plain = rw own at waits in
    plain.0

giving : (n : ℕ) (answer : Answer) (link : Option Link) (act : ℕ) → gives_up (reply_link n answer link) ≡ Some act
    → IfSome link (λ (l : Link). l.pending ≡ Some UiDeactivate) → (l : Link) × (link ≡ Some l)
    × (l.pending ≡ Some UiDeactivate)
giving n answer None act g h = absurd (cc)
giving n answer (Some l) act g h = (l, refl, h)

module _ (r : Record) (s : Steady r) (test : Object → Bool) (o a : Object) (found : find test r.objects ≡ Some o)
    (number : a.number ≡ o.number) where
  other_object : (frame : Frame) (l : Link) (c : Claim) → nth r.frames o.frame ≡ Some frame → o.link ≡ Some l
      → l.pending ≡ Some UiDeactivate → waiting frame.ui.state ≡ Some c → c.object ≡ o.number → ⊥
  other_object frame l c at linked pending waits same =
      let steady : SteadyObject r o = each_found (SteadyObject r) test r.objects o s.objects found in
      let link : SteadyLink r.servers r.last_act frame.phase frame.asked frame.k (role_in frame.ui.state o.number) l =
      if_at (SteadyLink r.servers r.last_act frame.phase frame.asked frame.k (role_in frame.ui.state o.number))
      o.link l linked
      (at_some (λ (x : Frame). IfSome o.link
      (SteadyLink r.servers r.last_act x.phase x.asked x.k (role_in x.ui.state o.number)))
      (nth r.frames o.frame) frame at steady.linked) in
      waits_apart frame.ui.state o.number l.waiting c (s.grants o.frame frame at).apart waits
      (subst (λ (p : Option Operation). Plays (role_in frame.ui.state o.number) (queue_of p l.waiting)) pending
      link.plays) same

  waiting_found : (c : Claim) → (c.object ≡ o.number → ⊥) → find (is_object c.object) (put test a r.objects)
      ≡ find (is_object c.object) r.objects
  waiting_found c ne =
      ap (find (is_object c.object)) (put_by_number test a o r.objects s.order found)
      ∙ find-put_other o.number c.object a r.objects number (λ e. ne (sym e))

  waiting_agrees : (frame : Frame) (l : Link) (next : Option Claim) → nth r.frames o.frame ≡ Some frame
      → o.link ≡ Some l → l.pending ≡ Some UiDeactivate → waiting frame.ui.state ≡ next
      → AllByRecursion (λ (claim : Claim). find (is_object claim.object) (put test a r.objects)
      ≡ find (is_object claim.object) r.objects) (option_to_list next)
  waiting_agrees frame l None at linked pending waits = tt
  waiting_agrees frame l (Some c) at linked pending waits =
      (waiting_found c (other_object frame l c at linked pending waits), tt)

  given_agrees : (act : ℕ) (frame : Option Frame) (l : Link) → nth r.frames o.frame ≡ frame → o.link ≡ Some l
      → l.pending ≡ Some UiDeactivate → Agrees r.objects (put test a r.objects) (claims_by act frame)
  given_agrees act None l at linked pending = tt
  given_agrees act (Some frame) l at linked pending =
      elim (is_by act (who frame.ui.state)) as (λ b. Agrees r.objects (put test a r.objects)
      (if b then option_to_list (waiting frame.ui.state) else [])) [
        | true ↦ waiting_agrees frame l (waiting frame.ui.state) at linked pending refl
        | false ↦ tt
      ]

  -- so what was prepared for it stays so
  pub reply_agrees : (n : ℕ) (answer : Answer) (gives : Option ℕ) → gives ≡ gives_up (reply_link n answer o.link)
      → IfSome gives (λ act. IfSome o.link (λ (l : Link). l.pending ≡ Some UiDeactivate))
      → Agrees r.objects (put test a r.objects) (claims_if gives (nth r.frames o.frame))
  reply_agrees n answer None e asked = tt
  reply_agrees n answer (Some act) e asked =
      let found_link = giving n answer o.link act (sym e) asked in
      given_agrees act (nth r.frames o.frame) found_link.0 refl found_link.1 found_link.2

one_differs : (next : Option Claim) → Differ (option_to_list next)
one_differs None = tt
one_differs (Some c) = (tt, tt)

frame_differs : (act : ℕ) (frame : Option Frame) → Differ (claims_by act frame)
frame_differs act None = tt
frame_differs act (Some frame) =
    elim (is_by act (who frame.ui.state)) as (λ b. Differ (if b then option_to_list (waiting frame.ui.state)
    else [])) [ true ↦ one_differs (waiting frame.ui.state) | false ↦ tt ]

pub reply_differs : (gives : Option ℕ) (frame : Option Frame) → Differ (claims_if gives frame)
reply_differs None frame = tt
reply_differs (Some act) frame = frame_differs act frame

-- ---- at the end of a server: who waits on isn't of it, and is of the frame
passed_none : (before later : GrantState) → waiting before ≡ None → passed_to before later ≡ []
passed_none Free later e = refl
passed_none (Granting claim) later e = refl
passed_none (Held holder tools) later e = refl
passed_none (Revoking holder None) later e = refl
passed_none (Revoking holder (Some next)) later e = absurd (cc)

abbrev Passes : ℕ → List Object → GrantState → List Claim → Type 0
Passes inc os state claims = ((c : Claim) × (waiting state ≡ Some c)
    × (is_hosted_object inc (find (is_object c.object) os) ≡ false) × (claims ≡ c ∷ [])) ⊎ (claims ≡ [])

module _ (w h : ℕ) (holder next : Claim) where
  abbrev ui : Ui
  ui = record { width = w; height = h; state = Revoking holder (Some next) }

  abbrev less : Bool → Ui
  less b = if b then after ui (Lost next.act) else ui

  abbrev least : Bool → Bool → Ui
  least b c = if c then after (less b) (Lost holder.act) else less b

  unwaits : waiting (after ui (Lost next.act)).state ≡ None
  unwaits =
      elim (next.act == holder.act) as (λ b. waiting
      (kept ui.state (if b then Ok (Granting next)
      else Ok (Revoking holder (if next.act == next.act then None else Some next)))) ≡ None) [
        | true ↦ refl
        | false ↦ rw (eq-eqb next.act next.act refl) refl
      ]

  passes : (b c : Bool) → ((b ≡ false) × (passed_to (less b).state (least b c).state ≡ next ∷ []))
      ⊎ (passed_to (less b).state (least b c).state ≡ [])
  passes true c = inr (passed_none (after ui (Lost next.act)).state (least true c).state unwaits)
  passes false true = inl (refl, rw (eq-eqb holder.act holder.act refl) refl)
  passes false false = inr refl

  pub passes_in : (inc : ℕ) (os : List Object) → Passes inc os (Revoking holder (Some next))
      (passed_to (unwaited inc os ui).state (freed inc os ui).state)
  passes_in inc os =
      elim (passes (is_hosted_object inc (find (is_object next.object) os))
      (is_hosted_object inc (find (is_object holder.object) os))) [
        | inl p ↦ inl (next, refl, p.0, p.1)
        | inr e ↦ inr e
      ]

passes_at : (inc : ℕ) (os : List Object) (w h : ℕ) (state : GrantState)
    → Passes inc os state (passed_to (unwaited inc os (record { width = w; height = h; state = state })).state
    (freed inc os (record { width = w; height = h; state = state })).state)
passes_at inc os w h Free = inr refl
passes_at inc os w h (Granting claim) = inr refl
passes_at inc os w h (Held holder tools) = inr refl
passes_at inc os w h (Revoking holder None) = inr refl
passes_at inc os w h (Revoking holder (Some next)) = passes_in w h holder next inc os

-- how many objects are of this frame or a later one
abbrev count_from : ℕ → List Object → ℕ
count_from f [] = 0
count_from f (o ∷ os) = (if nat_le f o.frame then 1 else 0) + count_from f os

from_one : (f m : ℕ) → (if nat_le (suc f) m then 1 else 0) ≤ (if nat_le f m then 1 else 0)
from_one f m = grind arith

from_more : (f : ℕ) (os : List Object) → count_from (suc f) os ≤ count_from f os
from_more f [] = omega arith
from_more f (o ∷ os) = let a = from_one f o.frame in let b = from_more f os in omega arith

from_all : (f : ℕ) (os : List Object) → count_from f os ≤ length os
from_all f [] = omega arith
from_all f (o ∷ os) = let b = from_all f os in
    elim (nat_le f o.frame) as (λ t. (if t then 1 else 0) + count_from f os ≤ suc (length os)) [
      | true ↦
          omega arith
      | false ↦ omega arith
    ]

from_here : (f n : ℕ) (o : Object) (os : List Object) → find (is_object n) os ≡ Some o → o.frame ≡ f
    → count_from (suc f) os + 1 ≤ count_from f os
from_here f n o [] e at = absurd (cc)
from_here f n o (y ∷ ys) e at = elim (y.number == n) as (λ b. (if b then Some y else find (is_object n) ys) ≡ Some o
    → count_from (suc f) (y ∷ ys) + 1 ≤ count_from f (y ∷ ys)) [
      | true ↦ (λ g. let same : y ≡ o = cc in
          let frame : y.frame ≡ f = ap (λ (x : Object). x.frame) same ∙ at in
          let on : nat_le f y.frame ≡ true = grind arith in
          let off : nat_le (suc f) y.frame ≡ false = grind arith in
          let rest = from_more f ys in
          rw (on, off) (omega arith))
      | false ↦ (λ g. let a = from_one f y.frame in let b = from_here f n o ys g at in omega arith)
    ] e

-- a claim of an object of this frame or a later one, that isn't of the server
record Above (inc : ℕ) (os : List Object) (f : ℕ) (c : Claim) : Type 0 where
  object : Object
  found : find (is_object c.object) os ≡ Some object
  above : f ≤ object.frame
  stays : is_hosted inc object.link ≡ false

above_less : (inc : ℕ) (os : List Object) (f : ℕ) (c : Claim) → Above inc os (suc f) c → Above inc os f c
above_less inc os f c a = let up = a.above in
    record { object = a.object; found = a.found; above = omega arith; stays = a.stays }

above_other : (inc : ℕ) (os : List Object) (f : ℕ) (c : Claim) (o : Object) → find (is_object c.object) os ≡ Some o
    → o.frame ≡ f → (d : Claim) → Above inc os (suc f) d → IsOther c d
above_other inc os f c o found at d a = λ e.
    let same : Some a.object ≡ Some o = sym a.found ∙ (ap (λ n. find (is_object n) os) e ∙ found) in
    let one : a.object ≡ o = cc in
    let frame : a.object.frame ≡ f = ap (λ (x : Object). x.frame) one ∙ at in
    let up = a.above in
    absurd (omega arith)

pub record AreFreed (inc : ℕ) (os : List Object) (f : ℕ) (claims : List Claim) : Type 0 where
  each : AllByRecursion (Above inc os f) claims
  pub differ : Differ claims
  few : length claims ≤ count_from f os

hosted_object : (inc : ℕ) (found : Option Object) (o : Object) → found ≡ Some o → is_hosted_object inc found ≡ false
    → is_hosted inc o.link ≡ false
hosted_object inc found o e h = sym (ap (is_hosted_object inc) e) ∙ h

module _ (inc : ℕ) (r : Record) where
  freed_step : (f : ℕ) (x : Frame) (rest first : List Claim) → SteadyGrant r f x.ui.state
      → Passes inc r.objects x.ui.state first → AreFreed inc r.objects (suc f) rest
      → AreFreed inc r.objects f (first ++ rest)
  freed_step f x rest first grant (inl p) later =
      let claim : IsClaim r f p.0 = if_at (IsClaim r f) (waiting x.ui.state) p.0 p.1 grant.next in
      let more = from_here f p.0.object claim.object r.objects claim.found claim.inside in
      let few = later.few in
      subst (λ (cs : List Claim). AreFreed inc r.objects f (cs ++ rest)) (sym p.3) (record {
        each = (
          record {
            object = claim.object;
            found = claim.found;
            above = rw claim.inside (omega arith);
            stays = hosted_object inc (find (is_object p.0.object) r.objects) claim.object claim.found p.2;
          },
          each_weaker (Above inc r.objects (suc f)) (Above inc r.objects f) rest (above_less inc r.objects f)
              later.each,
        );
        differ = (
          each_weaker (Above inc r.objects (suc f)) (IsOther p.0) rest
              (above_other inc r.objects f p.0 claim.object claim.found claim.inside) later.each,
          later.differ,
        );
        few = omega arith;
      })
  freed_step f x rest first grant (inr e) later =
      let few = later.few in
      let more = from_more f r.objects in
      subst (λ (cs : List Claim). AreFreed inc r.objects f (cs ++ rest)) (sym e) (record {
        each = each_weaker (Above inc r.objects (suc f)) (Above inc r.objects f) rest (above_less inc r.objects f)
            later.each;
        differ = later.differ;
        few = omega arith;
      })

  freed_from : (f : ℕ) (frames : List Frame)
      → ((i : ℕ) (x : Frame) → slice_get frames i ≡ Some x → SteadyGrant r (f + i) x.ui.state)
      → AreFreed inc r.objects f (freed_claims inc r.objects frames)
  freed_from f [] grants = record { each = tt; differ = tt; few = omega arith }
  freed_from f (x ∷ xs) grants =
      freed_step f x (freed_claims inc r.objects xs)
      (passed_to (unwaited inc r.objects x.ui).state (freed inc r.objects x.ui).state)
      (subst (λ (n : ℕ). SteadyGrant r n x.ui.state) (omega arith) (grants zero x refl))
      (passes_at inc r.objects x.ui.width x.ui.height x.ui.state)
      (freed_from (suc f) xs (λ i y e. subst (λ (n : ℕ). SteadyGrant r n y.ui.state) (omega arith)
      (grants (suc i) y e)))

  pub freed_all : Steady r → AreFreed inc r.objects 1 (freed_claims inc r.objects r.frames)
  freed_all s = freed_from 1 r.frames (λ i x e. subst (λ (n : ℕ). SteadyGrant r n x.ui.state) (omega arith)
      (s.grants (suc i) x e))

-- they are as many as there are objects, at the most
pub freed_few : (inc : ℕ) (os : List Object) (f : ℕ) (claims : List Claim) → AreFreed inc os f claims
    → length claims ≤ length os
freed_few inc os f claims a = let few = a.few in let all = from_all f os in omega arith

reaped_number : (inc : ℕ) (o : Object) (link : Option Link) → (reaped_object inc o link).number ≡ o.number
reaped_number inc o None = refl
reaped_number inc o (Some l) =
    elim (l.inc == inc) as (λ b. (if b then record o { work = saves.kept o; link = None } else o).number
    ≡ o.number) [ true ↦ refl | false ↦ refl ]

reaped_stays : (inc : ℕ) (o : Object) (link : Option Link) → is_hosted inc link ≡ false → reaped_object inc o link ≡ o
reaped_stays inc o None h = refl
reaped_stays inc o (Some l) h = rw h refl

above_agrees : (inc : ℕ) (os : List Object) (f : ℕ) (c : Claim) → Above inc os f c
    → find (is_object c.object) (map (λ o. reaped_object inc o o.link) os) ≡ find (is_object c.object) os
above_agrees inc os f c a =
    find-map c.object (λ o. reaped_object inc o o.link) os (λ x. reaped_number inc x x.link)
    ∙ (ap (option_map (λ o. reaped_object inc o o.link)) a.found
    ∙ (ap (λ (x : Object). Some x) (reaped_stays inc a.object a.object.link a.stays) ∙ sym a.found))

pub freed_agrees : (inc : ℕ) (os : List Object) (f : ℕ) (claims : List Claim) → AreFreed inc os f claims
    → Agrees os (map (λ o. reaped_object inc o o.link) os) claims
freed_agrees inc os f claims a = each_weaker (Above inc os f)
    (λ (c : Claim). find (is_object c.object) (map (λ o. reaped_object inc o o.link) os)
    ≡ find (is_object c.object) os) claims (above_agrees inc os f) a.each
