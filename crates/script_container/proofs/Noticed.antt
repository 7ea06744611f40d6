-- What is noticed of a command, and what is told of it.
use Rattle.std.proofs.Common.{◌≡◌, ◌≢◌, ℕ, List, ◌∷◌, Option, Some, None, Result, Ok, Err, IfOk, IfErr, OnOk, refl, sym}
use Rattle.std.proofs.Common.{ap, ◌∙◌, subst}
use Rattle.container_model.specs.Messages.{on_message}
use Rattle.container_model.specs.Record.{Record, Took, Refuses, counts_none}
use Rattle.container_model.specs.Saves.{image}
use Rattle.container_model.specs.declared.answer.Answer.{Answer}
use Rattle.container_model.specs.declared.answer.FrameDocument.{FrameDocument}
use Rattle.container_model.specs.declared.fault.ContainerFault.{ContainerFault}
use Rattle.container_model.specs.declared.fault.ContainerFault.TheVariants as fault
use Rattle.store_model.specs.declared.fault.StoreFault.{StoreFault}
use Rattle.message_values.specs.declared.message.Message.{Message}
use Rattle.message_values.specs.declared.refusal.Refusal.{Refusal}
use Rattle.script_model.specs.declared.answer.Told.{Told}
use Rattle.script_model.specs.declared.answer.Told.TheVariants as told
use Rattle.script_model.specs.declared.step.Step.TheVariants as step
use Rattle.script_model.specs.Answers.{first_told}
use Rattle.script_model.specs.Containers.{record_of}
use Rattle.script_model.specs.Events.{Event, Stepped}
use Rattle.script_model.specs.Notices as notice
use Rattle.script_model.specs.Notices.{Notes, Notice, Tells, first_noticed, lost_as, notices, refusal_noticed}
use Rattle.script_model.specs.Notices.{refused_by}
use Rattle.script_container.proofs.Answered.{ok_as, err_as, refused_with}

-- nothing more is noticed
pub none_noticed : (n : Option Notice) → first_noticed n None ≡ n
none_noticed None = refl
none_noticed (Some n) = refl

-- ---- messages

module _ (r now : Record) (s inc : ℕ) (given m : Message) (at : s ≡ r.session) (one : given ≡ m) where
  -- the message that was given, on the link that it came on
  heard_as : (x : Result Answer ContainerFault)
      → IfOk x (λ a. on_message r (record { session = s; inc = inc }) given ≡ Ok (counts_none now a))
      → IfOk x (λ a. on_message r (record { session = r.session; inc = inc }) m ≡ Ok (counts_none now a))
  heard_as x taken =
      subst (λ (n : ℕ). IfOk x (λ a. on_message r (record { session = n; inc = inc }) m ≡ Ok (counts_none now a))) at
      (subst (λ (k : Message). IfOk x (λ a. on_message r (record { session = s; inc = inc }) k
      ≡ Ok (counts_none now a))) one taken)

  refused_as : (x : Result Answer ContainerFault)
      → IfErr x (Refuses (on_message r (record { session = s; inc = inc }) given))
      → IfErr x (Refuses (on_message r (record { session = r.session; inc = inc }) m))
  refused_as x refused =
      subst (λ (n : ℕ). IfErr x (Refuses (on_message r (record { session = n; inc = inc }) m))) at
      (subst (λ (k : Message). IfErr x (Refuses (on_message r (record { session = s; inc = inc }) k))) one refused)

pub one_message : (given : Option Message) (m other : Message) → given ≡ Some m → given ≡ Some other → other ≡ m
one_message given m other is so = cc

module _ {D : Type 0} (es mid after : List (Event D)) (r : Record) (inc : ℕ) (m : Message)
    (recorded : record_of es ≡ r) (noted : mid ≡ Stepped (step.Message inc m) ∷ es)
    (same : notices after ≡ notices mid) where
  answer_noticed : (told : Result Took ContainerFault) → on_message r (record { session = r.session; inc = inc }) m
      ≡ told → notices after ≡ first_noticed (notices es) (refused_by told)
  answer_noticed told is =
      same ∙ ap notices noted
      ∙ ap (λ (q : Record). first_noticed (notices es)
      (refused_by (on_message q (record { session = q.session; inc = inc }) m))) recorded
      ∙ ap (λ (t : Result Took ContainerFault). first_noticed (notices es) (refused_by t)) is

  message_heard : (now : Record) (x : Result Answer ContainerFault)
      → IfOk x (λ a. on_message r (record { session = r.session; inc = inc }) m ≡ Ok (counts_none now a))
      → IfOk x (λ a. notices after ≡ first_noticed (notices es) (refusal_noticed a.refused))
  message_heard now (Ok a) taken = answer_noticed (Ok (counts_none now a)) taken
  message_heard now (Err e) taken = tt

  -- what an object refused is noticed
  pub message_noticed : (now : Record) (s : ℕ) (given : Message) (told x : Result Answer ContainerFault)
      → s ≡ r.session → given ≡ m → told ≡ x
      → IfOk x (λ a. on_message r (record { session = s; inc = inc }) given ≡ Ok (counts_none now a))
      → IfOk told (λ a. notices after ≡ first_noticed (notices es) (refusal_noticed a.refused))
  message_noticed now s given told x at one is taken =
      ok_as told x (λ a. notices after ≡ first_noticed (notices es) (refusal_noticed a.refused)) is
      (message_heard now x (heard_as r now s inc given m at one x taken))

  message_passed : (x : Result Answer ContainerFault)
      → IfErr x (Refuses (on_message r (record { session = r.session; inc = inc }) m))
      → IfErr x (λ e. e ≢ fault.NoMemory → notices after ≡ notices es)
  message_passed (Ok a) refused = tt
  message_passed (Err e) refused = λ some. answer_noticed (Err e)
      (refused_with (on_message r (record { session = r.session; inc = inc }) m) e some refused)
      ∙ none_noticed (notices es)

  -- nothing is noticed of a message that the container refuses
  pub message_unnoticed : (s : ℕ) (given : Message) (told x : Result Answer ContainerFault) → s ≡ r.session
      → given ≡ m → told ≡ x
      → IfErr x (Refuses (on_message r (record { session = s; inc = inc }) given))
      → IfErr told (λ e. e ≢ fault.NoMemory → notices after ≡ notices es)
  message_unnoticed s given told x at one is refused =
      err_as told x (λ e. e ≢ fault.NoMemory → notices after ≡ notices es) is
      (message_passed x (refused_as r r s inc given m at one x refused))

-- ---- saves

-- a commit that failed is noticed
pub failure_noticed : {D : Type 0} (es mid after : List (Event D)) (r : Record) (f : ℕ) → record_of es ≡ r
    → mid ≡ Stepped (step.Failed f) ∷ es → notices after ≡ notices mid
    → notices after ≡ first_noticed (notices es) (Some (lost_as (image r f)))
failure_noticed es mid after r f recorded noted same = same ∙ ap notices noted
    ∙ ap (λ (q : Record). first_noticed (notices es) (Some (lost_as (image q f)))) recorded

module _ (before mid now : Option Notice) (document : Result FrameDocument ContainerFault) (same : mid ≡ before)
    (lost : now ≡ first_noticed mid (Some (lost_as document))) where
  -- that a file wasn't saved is told so
  pub lost_noted : (saved : FrameDocument) (why : StoreFault) → document ≡ Ok saved
      → Notes before now (Some (told.Lost why))
  lost_noted saved why is = (
    notice.Lost,
    lost ∙ ap (λ (t : Result FrameDocument ContainerFault). first_noticed mid (Some (lost_as t))) is
        ∙ ap (λ (n : Option Notice). first_noticed n (Some notice.Lost)) same,
    (why, refl),
  )

  -- and that no file can hold a document
  pub large_noted : document ≡ Err fault.Full → Notes before now (Some (told.Fault fault.Full))
  large_noted is = (
    notice.TooLarge,
    lost ∙ ap (λ (t : Result FrameDocument ContainerFault). first_noticed mid
        (Some (lost_as t))) is ∙ ap (λ (n : Option Notice). first_noticed n (Some notice.TooLarge)) same,
    refl,
  )

-- ---- what is told

-- nothing more is noticed
pub seen_still : (before now : Option Notice) (t : Option Told) → now ≡ before → Tells before t → Tells now t
seen_still before now t same tells = subst (λ (n : Option Notice). Tells n t) (sym same) tells

-- the first that is noticed is told
pub seen_more : (before now : Option Notice) (t next : Option Told) → Tells before t → Notes before now next
    → Tells now (first_told t next)
seen_more before now None None tells notes = subst (λ (n : Option Notice). Tells n None) (sym notes) tells
seen_more before now (Some t) None tells notes = subst (λ (n : Option Notice). Tells n (Some t)) (sym notes) tells
seen_more None now None (Some next) tells notes = subst (λ (n : Option Notice). Tells n (Some next)) (sym notes.1)
    notes.2
seen_more None now (Some t) (Some next) tells notes = absurd tells
seen_more (Some n) now None (Some next) tells notes = absurd tells
seen_more (Some n) now (Some t) (Some next) tells notes = subst (λ (n : Option Notice). Tells n (Some t))
    (sym notes.1) tells

pub seen_first : (before now : Option Notice) (t next first : Option Told) → first ≡ first_told t next
    → Tells before t → Notes before now next → Tells now first
seen_first before now t next first is tells notes = subst (λ (x : Option Told). Tells now x) (sym is)
    (seen_more before now t next tells notes)

-- ---- messages that are heard

-- that an object refused a call is told so
pub refusal_noted : (before : Option Notice) (refused : Option Refusal) (refusal : Refusal) → refused ≡ Some refusal
    → Notes before (first_noticed before (refusal_noticed refused)) (Some (told.Refused refusal))
refusal_noted before refused refusal is =
    (notice.Refused refusal, ap (λ (x : Option Refusal). first_noticed before (refusal_noticed x)) is, refl)

pub none_noted : (before : Option Notice) (refused : Option Refusal) → refused ≡ None
    → first_noticed before (refusal_noticed refused) ≡ before
none_noted before refused is = ap (λ (x : Option Refusal). first_noticed before (refusal_noticed x)) is
    ∙ none_noticed before

-- where it isn't for want of memory, nothing is noticed
pub seen_unless : {X E : Type 0} (r : Result X E) (e : ContainerFault) (before now : Option Notice)
    (t : Option Told) → OnOk r (e ≢ fault.NoMemory) → (e ≢ fault.NoMemory → now ≡ before) → Tells before t
    → OnOk r (Tells now t)
seen_unless (Ok x) e before now t known same tells = seen_still before now t (same known) tells
seen_unless (Err x) e before now t known same tells = tt
