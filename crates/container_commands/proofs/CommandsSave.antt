-- A frame that begins a save: where all of its objects are passive, it goes on at once.
use Rattle.std.proofs.Common.{◌≡◌, ◌<◌, ◌+◌, ◌++◌, ◌==◌, ℕ, zero, suc, Bool, true, false, List, [], ◌∷◌, length, map}
use Rattle.std.proofs.Common.{Option, Some, None, Ok, get_or, set, refl, sym, ◌∙◌, ap, subst, arith, slice_get}
use Rattle.std.proofs.Common.{if◌then◌else◌}
use Rattle.std.proofs.lemmas.Bool.{eqb-true, eqb-false}
use Rattle.std.proofs.lemmas.List.{get_or_default}
use Rattle.std.proofs.lemmas.Option.{slice_get-get_or}
use Rattle.std.specs.Prelude.{IfSome, nat_le, slice_set}
use Rattle.std.specs.List.{AllByRecursion}
use Rattle.message_values.specs.Found.{nth, set_nth}
use Rattle.message_values.specs.declared.message.Message.{Message}
use Rattle.message_values.specs.declared.operation.Operation.{Operation}
use Rattle.message_values.specs.declared.operation.Operation.TheVariants.{HandsOff, Save}
use Rattle.tree_streams.specs.declared.stored.Stored.{Stored}
use Rattle.container_model.specs.declared.answer.Action.{Action}
use Rattle.container_model.specs.declared.answer.Answer.{Answer}
use Rattle.container_model.specs.declared.record.Frame.{Frame}
use Rattle.container_model.specs.declared.record.Link.{Link}
use Rattle.container_model.specs.declared.record.Object.{Object}
use Rattle.container_model.specs.declared.record.Phase.{Phase}
use Rattle.container_model.specs.declared.record.Phase.TheVariants.{Idle}
use Rattle.container_model.specs.Commands.{all_have_numbers, save_made, save_numbered, saving, saving_frame, saving_on}
use Rattle.container_model.specs.HandOffs.{hand_off_at, handing_frame, hands_off}
use Rattle.container_model.specs.Numbered.{IsNth}
use Rattle.container_model.specs.Record.{Record, Took, acts, ask, ask_at, asked_all, asked_link, asked_object}
use Rattle.container_model.specs.Record.{asked_sent, sends}
use Rattle.container_model.specs.Saves.{awaits, is_awaited_link, settle, settle_actions, settled_actions}
use Rattle.container_model.specs.Saves.{settled_frames}
use Rattle.container_queues.specs.Roles.{role_in}
use Rattle.container_queues.specs.Steady.{IsSavedIn, Steady, SteadyLink, SteadyObject}
use Rattle.container_queues.proofs.SteadyLookups.{none_awaited, nth-set_same}
use Rattle.container_steady.proofs.SteadyRecords.{Held, at_some, if_told, if_weaker}
use Rattle.container_commands.proofs.SteadyHandOffs.{asked_took, handing_at}

-- an activation that is asked has the content that it had
ask_saved : (l : Link) (op : Operation) (p : Option Operation) → (ask_at l op p).link.saved ≡ l.saved
ask_saved l op None = refl
ask_saved l op (Some before) = refl

unawaited : (was now : Option Stored) → now ≡ was → was ≡ None → elim now [ None ↦ true | Some content ↦ false ]
    ≡ false → ⊥
unawaited was None e n g = absurd (cc)
unawaited was (Some content) e n g = (let bad : Some content ≡ None = e ∙ n in cc)

awaited_behind : (b : Bool) (link : Option Link) (rest : Bool)
    → (if b then (if is_awaited_link link then true else rest) else rest) ≡ false → rest ≡ false
awaited_behind false link rest e = e
awaited_behind true link rest e = elim (is_awaited_link link) as (λ t. (if t then true else rest) ≡ false
    → rest ≡ false) [ true ↦ (λ g. absurd (cc)) | false ↦ (λ g. g) ] e

-- where a frame's objects are passive, nobody is asked
asked_none : (f : ℕ) (os : List Object) → AllByRecursion (λ (o : Object). o.frame ≡ f → o.link ≡ None) os
    → map (asked_object f HandsOff) os ≡ os
asked_none f [] h = refl
asked_none f (o ∷ os) h =
    let one : asked_object f HandsOff o ≡ o = if_told (λ (z : Object). z ≡ o) (o.frame == f)
    (record o { link = asked_link HandsOff o.link }) o
    (λ t. let none = h.0 (eqb-true o.frame f t) in
    ap (λ (z : Option Link). record o { link = asked_link HandsOff z }) none
    ∙ ap (λ (z : Option Link). record o { link = z }) (sym none))
    (λ t. refl) in
    ap (λ (z : Object). z ∷ map (asked_object f HandsOff) os) one ∙ ap (λ (zs : List Object). o ∷ zs)
    (asked_none f os h.1)

sent_none : (f : ℕ) (os : List Object) → AllByRecursion (λ (o : Object). o.frame ≡ f → o.link ≡ None) os
    → asked_all f HandsOff os ≡ []
sent_none f [] h = refl
sent_none f (o ∷ os) h = if_told (λ (z : List Message). z ≡ []) (o.frame == f)
    (asked_sent HandsOff o.link ++ asked_all f HandsOff os) (asked_all f HandsOff os)
    (λ t. ap (λ (z : Option Link). asked_sent HandsOff z ++ asked_all f HandsOff os) (h.0 (eqb-true o.frame f t))
    ∙ sent_none f os h.1)
    (λ t. sent_none f os h.1)

slice_twice : (xs : List Frame) (i : ℕ) (x y : Frame) → slice_set (slice_set xs i x) i y ≡ slice_set xs i y
slice_twice [] i x y = refl
slice_twice (z ∷ zs) zero x y = refl
slice_twice (z ∷ zs) (suc i) x y = ap (λ (ws : List Frame). z ∷ ws) (slice_twice zs i x y)

append_nil : (xs : List Message) → xs ++ [] ≡ xs
append_nil [] = refl
append_nil (x ∷ xs) = ap (λ (ys : List Message). x ∷ ys) (append_nil xs)

set_twice : (xs : List Frame) (n : ℕ) (x y : Frame) → set_nth (set_nth xs n x) n y ≡ set_nth xs n y
set_twice xs zero x y = refl
set_twice xs (suc i) x y = slice_twice xs i x y

-- ---- the record in which a save begins; where all are passive, it goes on at once
module _ (r : Record) (f : ℕ) (a : Frame) (raised : Option ℕ) (asked : Option (List ℕ)) (s : Steady r)
    (at : nth r.frames f ≡ Some a) (idle : a.phase ≡ Idle) where
  abbrev u : Record
  u = saving r f a raised asked

  abbrev next : Frame
  next = saving_frame raised asked a

  -- an activation of an idle frame has no content answered
  unsaved : (o : Object) → SteadyObject r o → o.frame ≡ f → IfSome o.link (λ (l : Link). l.saved ≡ None)
  unsaved o h here =
      let held = at_some (Held r o.number o.link) (nth r.frames o.frame) a (ap (nth r.frames) here ∙ at) h.linked in
      if_weaker (SteadyLink r.servers r.last_act a.phase a.asked a.k (role_in a.ui.state o.number))
      (λ (l : Link). l.saved ≡ None) o.link
      (λ l k. subst (λ (p : Phase). IsSavedIn p l.saved) idle k.saved_known) held

  awaited_on : (op : Operation) (link : Option Link) → IfSome link (λ (l : Link). l.saved ≡ None)
      → is_awaited_link (asked_link op link) ≡ false → asked_link op link ≡ None
  awaited_on op None h e = refl
  awaited_on op (Some l) h e = absurd (unawaited l.saved (ask l op).link.saved (ask_saved l op l.pending) h e)

  passive_at : (o : Object) → SteadyObject r o
      → (o.frame ≡ f → is_awaited_link (asked_object f (Save (a.k + 1)) o).link ≡ false)
      → (asked_object f (Save (a.k + 1)) o).frame ≡ f → (asked_object f (Save (a.k + 1)) o).link ≡ None
  passive_at o h k = if_told (λ (z : Object). (o.frame ≡ f → is_awaited_link z.link ≡ false) → z.frame ≡ f
      → z.link ≡ None) (o.frame == f) (record o { link = asked_link (Save (a.k + 1)) o.link }) o
      (λ t q here. awaited_on (Save (a.k + 1)) o.link (unsaved o h here) (q here))
      (λ t q here. absurd (eqb-false o.frame f t here)) k

  passive_all : (os : List Object) → AllByRecursion (SteadyObject r) os
      → awaits f (map (asked_object f (Save (a.k + 1))) os) ≡ false
      → AllByRecursion (λ (o : Object). o.frame ≡ f → o.link ≡ None) (map (asked_object f (Save (a.k + 1))) os)
  passive_all [] h e = tt
  passive_all (o ∷ os) h e =
      let none = none_awaited f (map (asked_object f (Save (a.k + 1))) (o ∷ os)) e in
      let one = asked_object f (Save (a.k + 1)) o in
      let rest = awaited_behind (one.frame == f) one.link (awaits f (map (asked_object f (Save (a.k + 1))) os)) e in
      (passive_at o h.0 (λ here. none.0 ((asked_took f (Save (a.k + 1)) o).frame ∙ here)), passive_all os h.1 rest)

  -- so nobody is asked then
  passive : hands_off f u.objects next ≡ true → AllByRecursion (λ (o : Object). o.frame ≡ f → o.link ≡ None) u.objects
  passive e = passive_all r.objects s.objects (handing_at next.phase next.asked (awaits f u.objects) e).2

  goes_on : (told : Bool) → hands_off f u.objects next ≡ told → hand_off_at u f (Some next)
      ≡ record {
        rec = record u { frames = set_nth r.frames f (if told then handing_frame next else next) };
        sent = [];
      }
  goes_on true e =
      let none = passive e in
      rw (
        e,
        asked_none f u.objects none,
        sent_none f u.objects none,
        set_twice r.frames f next
            (handing_frame next),
      ) refl
  goes_on false e = rw e refl

  pub saving_on_is : saving_on r f a raised asked
      ≡ record {
        rec = record u {
          frames = set_nth r.frames f (if hands_off f u.objects next then handing_frame next
              else next);
        };
        sent = [];
      }
  saving_on_is = ap (hand_off_at u f) (nth-set_same r.frames f a next at) ∙ goes_on (hands_off f u.objects next) refl

  -- what the code makes of the record
  module _ (i : ℕ) (b new on : Frame) (os : List Object) (place : IsNth f r.frames i)
      (here : a ≡ get_or r.frames i a) (found : b ≡ get_or r.frames i b) (begun : new ≡ saving_frame raised asked b)
      (objects : os ≡ map (asked_object f (Save (a.k + 1))) r.objects)
      (went : on ≡ (if hands_off f os new then handing_frame new else new)) where
    same : new ≡ next
    same = begun ∙ ap (saving_frame raised asked) (found ∙ get_or_default r.frames i b a place.fits ∙ sym here)

    pub on_is : on ≡ (if hands_off f u.objects next then handing_frame next else next)
    on_is = went ∙ (ap (λ (zs : List Object). if hands_off f zs new then handing_frame new else new) objects
        ∙ ap (λ (z : Frame). if hands_off f u.objects z then handing_frame z else z) same)

    pub saving_is : ◌≡◌ {A = Record} (record r { frames = set r.frames i on; objects = os })
        (saving_on r f a raised asked).rec
    saving_is =
        let frames : set r.frames i on ≡ set_nth r.frames f (if hands_off f u.objects next then handing_frame next
        else next) = ap (set r.frames i) on_is
        ∙ sym (place.puts (if hands_off f u.objects next then handing_frame next else next)) in
        (λ t. record r { frames = frames t; objects = objects t }) ∙ ap (λ z. z.rec) (sym saving_on_is)

    -- what a save gives
    pub saved_is : (fs : List Frame) (actions more : List Action) (answer : Answer)
        → fs ≡ settled_frames 1 os (set r.frames i on) → actions ≡ sends (asked_all f (Save (a.k + 1)) r.objects)
        → more ≡ actions ++ settled_actions 1 os (set r.frames i on) → answer ≡ acts more
        → ◌≡◌ {A = Took} (save_made r f a raised asked)
        (record { rec = record r { frames = fs; objects = os }; answer = answer; counted = [] })
    saved_is fs actions more answer settled sent all told =
        let done : ◌≡◌ {A = Record} (settle (saving_on r f a raised asked).rec)
        (record r { frames = fs; objects = os }) =
        ap settle (sym saving_is) ∙ ap {A = List Frame} (λ x. record r { frames = x; objects = os }) (sym settled) in
        let nothing : (saving_on r f a raised asked).sent ≡ [] = ap (λ z. z.sent) saving_on_is in
        let asks : sends (asked_all f (Save (a.k + 1)) r.objects ++ (saving_on r f a raised asked).sent)
        ≡ sends (asked_all f (Save (a.k + 1)) r.objects) =
        ap (λ (ms : List Message). sends (asked_all f (Save (a.k + 1)) r.objects ++ ms)) nothing
        ∙ ap sends (append_nil (asked_all f (Save (a.k + 1)) r.objects)) in
        let asked_for : more ≡ sends (asked_all f (Save (a.k + 1)) r.objects ++ (saving_on r f a raised asked).sent)
        ++ settle_actions (saving_on r f a raised asked).rec = all
        ∙ (ap (λ t. t ++ settled_actions 1 os (set r.frames i on)) (sent ∙ sym asks)
        ∙ ap (λ t. sends (asked_all f (Save (a.k + 1)) r.objects ++ (saving_on r f a raised asked).sent)
        ++ settle_actions t) saving_is) in
        let said : acts (sends (asked_all f (Save (a.k + 1)) r.objects ++ (saving_on r f a raised asked).sent)
        ++ settle_actions (saving_on r f a raised asked).rec) ≡ answer = ap acts (sym asked_for) ∙ sym told in
        λ t. record { rec = done t; answer = said t; counted = [] }

-- the command's answer
unspent : (r : Record) (f : ℕ) (a : Frame) (raised : Option ℕ) (asked : Option (List ℕ)) (t : Took)
    → a.k < r.numbers → all_have_numbers f r.numbers r.objects ≡ true → save_made r f a raised asked ≡ t
    → save_numbered r f a raised asked ≡ Ok t
unspent r f a raised asked t lt has made =
    let low : nat_le r.numbers a.k ≡ false = grind arith in
    rw (low, has) (ap {A = Took} Ok made)

pub saved_taken : (r q : Record) (f i : ℕ) (a : Frame) (raised : Option ℕ) (asked : Option (List ℕ)) (t : Took)
    → r ≡ q → i < length r.frames → a ≡ get_or r.frames i a → a.k < r.numbers
    → all_have_numbers f r.numbers r.objects ≡ true
    → save_made r f a raised asked ≡ t → IfSome (slice_get q.frames i) (λ x. save_numbered q f x raised asked ≡ Ok t)
saved_taken r q f i a raised asked t e lt at k has made =
    let here : slice_get r.frames i ≡ Some a = slice_get-get_or r.frames i a lt ∙ ap (λ (x : Frame). Some x) (sym at) in
    subst (λ (y : Record). IfSome (slice_get y.frames i) (λ x. save_numbered y f x raised asked ≡ Ok t)) e
    (subst (λ o. IfSome o (λ x. save_numbered r f x raised asked ≡ Ok t)) (sym here)
    (unspent r f a raised asked t k has made))
