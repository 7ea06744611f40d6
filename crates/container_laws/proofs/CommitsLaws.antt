-- What a commit counts, and whom it tells.
use Rattle.std.proofs.Common.{◌≡◌, ◌⊎◌, ◌==◌, ◌++◌, ℕ, Bool, true, false, not, List, [], ◌∷◌, map, Option, Some, None}
use Rattle.std.proofs.Common.{Result, Ok, Err, inl, inr, refl, sym, ◌∙◌, ap, subst, if◌then◌else◌}
use Rattle.std.proofs.lemmas.Bool.Decides.{eqb_tells}
use Rattle.std.proofs.lemmas.List.{map-append}
use Rattle.std.proofs.lemmas.List.Elements.{All-cons, All-nil}
use Rattle.std.specs.List.{All, AllByRecursion}
use Rattle.message_values.specs.Found.{nth}
use Rattle.message_values.specs.declared.operation.Operation.{Operation}
use Rattle.object_state.specs.declared.persist_states.PersistState.{PersistState}
use Rattle.object_state.specs.declared.persist_states.PersistState.TheVariants.{HandsOff}
use Rattle.tree_streams.specs.declared.stored.Stored.{Stored}
use Rattle.cfb_file.specs.Refusals.{writable}
use Rattle.cfb_file.specs.declared.fault.WriteFault.{WriteFault}
use Rattle.container_model.specs.declared.record.Link.{Link}
use Rattle.container_model.specs.declared.record.Object.{Object}
use Rattle.container_model.specs.declared.record.Frame.{Frame}
use Rattle.container_model.specs.declared.record.Phase.TheVariants.{Saving, HandingOff, Committing}
use Rattle.container_model.specs.declared.answer.FrameDocument.{FrameDocument}
use Rattle.container_model.specs.declared.answer.Part.{Part}
use Rattle.container_model.specs.declared.fault.ContainerFault.{ContainerFault}
use Rattle.container_model.specs.declared.fault.ContainerFault.TheVariants.{Full, WrongState}
use Rattle.container_model.specs.Record.{Record, Took, ask_at, asked_all, asked_sent, is_doubtful, sends}
use Rattle.container_model.specs.Saves.{awaits, commit_at, commit_fitting, commit_made, completed, completion}
use Rattle.container_model.specs.Saves.{document_tree, fitting, fitting_in, frame_document, held_parts, is_document}
use Rattle.container_model.specs.Saves.{has_image, image, image_at, is_awaited_link, is_away, is_committing}
use Rattle.container_model.specs.Saves.{is_keeping_link, is_ready, keeps, kept_by, kept_in, part_of, parts_in}
use Rattle.container_model.specs.Saves.{resolved_at}
use Rattle.container_laws.specs.CommitLaws.{AreParts, CommitCounts, CommitTells, Gives, HandOffWaits, HasAnswered}
use Rattle.container_laws.specs.CommitLaws.{HasGivenAway, IsCommit, IsPart, SaveWaits, free_link, free_links, none, one}
use Rattle.container_laws.specs.CommitLaws.{other, stored_part, stored_parts, telling}
use Rattle.container_queues.proofs.SteadyLookups.{each_weaker, none_keeping}
use Rattle.container_steady.proofs.SteadyRecords.{ready_at, if_told}
use Rattle.container_commands.proofs.SteadyHandOffs.{handing_at}
use Rattle.container_model.proofs.Completing.{completed_in, completed_out}

-- ---- a commit that succeeds
fitting_told : (d e : FrameDocument) (told : Result (Unit {0}) WriteFault) → fitting_in d told ≡ Ok e → e ≡ d
fitting_told d e (Ok done) h = cc
fitting_told d e (Err fault) h = absurd (cc)

fitting_is : (d e : FrameDocument) → fitting d ≡ Ok e → e ≡ d
fitting_is d e h = if_told (λ (z : Result FrameDocument ContainerFault). z ≡ Ok e → e ≡ d)
    (is_document (held_parts d.parts)) (fitting_in d (writable (document_tree d))) (Err Full)
    (λ t g. fitting_told d e (writable (document_tree d)) g)
    (λ t g. cc) h

-- what a commit writes is the frame's document
image_is : (r : Record) (f : ℕ) (frame : Frame) (d : FrameDocument) → image_at r f (Some frame) ≡ Ok d
    → d ≡ frame_document frame (parts_in f r.objects)
image_is r f frame d h =
    let mine : FrameDocument = frame_document frame (parts_in f r.objects) in
    if_told (λ (z : Result FrameDocument ContainerFault). z ≡ Ok d → d ≡ mine) (has_image frame.phase)
    (fitting mine) (Err WrongState)
    (λ t g. fitting_is mine d g)
    (λ t g. cc) h

pub record IsDone (r : Record) (f : ℕ) (t : Took) : Type 0 where
  pub frame : Frame
  pub here : nth r.frames f ≡ Some frame
  pub counts : image r f ≡ Ok (frame_document frame (parts_in f r.objects))
  pub made : t ≡ commit_made r f frame

fitted : (r : Record) (f : ℕ) (t : Took) (frame : Frame) (told : Result FrameDocument ContainerFault)
    → nth r.frames f ≡ Some frame → image r f ≡ told
    → commit_fitting r f frame told ≡ Ok t → IsDone r f t
fitted r f t frame (Err fault) here e h = absurd (cc)
fitted r f t frame (Ok d) here e h =
    record {
      frame = frame;
      here = here;
      counts = e ∙ ap (λ (x : FrameDocument). Ok x)
          (image_is r f frame d (ap (image_at r f) (sym here) ∙ e));
      made = cc;
    }

done_if : (r : Record) (f : ℕ) (t : Took) (frame : Frame) (b : Bool) → nth r.frames f ≡ Some frame
    → (if b then commit_fitting r f frame (image r f) else Err WrongState) ≡ Ok t → IsDone r f t
done_if r f t frame true here h = fitted r f t frame (image r f) here refl h
done_if r f t frame false here h = absurd (cc)

done_at : (r : Record) (f : ℕ) (t : Took) (found : Option Frame) → nth r.frames f ≡ found
    → commit_at r f found ≡ Ok t → IsDone r f t
done_at r f t None e h = absurd (cc)
done_at r f t (Some frame) e h = done_if r f t frame (is_committing frame.phase) e h

kept_at : (r : Record) (f : ℕ) (t : Took) (found : Option Frame) → nth r.frames f ≡ found
    → resolved_at r f true found ≡ Ok t → IsDone r f t
kept_at r f t None e h = absurd (cc)
kept_at r f t (Some frame) e h = done_if r f t frame (is_doubtful frame.phase) e h

pub done_from : (r : Record) (f : ℕ) (t : Took) → IsCommit r f t → IsDone r f t
done_from r f t (inl h) = done_at r f t (nth r.frames f) refl h
done_from r f t (inr h) = kept_at r f t (nth r.frames f) refl h

-- ---- what is counted
gives_at : (o : Object) (link : Option Link) → o.link ≡ link → Gives o (kept_by o.work link)
gives_at o None e = record {
  passive = λ h. refl;
  answered = λ l c h g. absurd (let no : ◌≡◌ {A = Option Link} None (Some l) = sym e ∙ h in cc);
}
gives_at o (Some m) e = record {
  passive = λ h. absurd (let no : ◌≡◌ {A = Option Link} (Some m) None = sym e ∙ h in cc);
  answered = λ l c h g.
      (let same : m ≡ l = (let y : ◌≡◌ {A = Option Link} (Some m) (Some l) = sym e ∙ h in cc) in
      ap (λ (x : Link). kept_in o.work x.saved) same ∙ ap (kept_in o.work) g);
}

is_part : (f : ℕ) (o : Object) → o.frame ≡ f → IsPart f o (part_of o)
is_part f o e = record {
  inside = e;
  number = refl;
  class = refl;
  user_type = refl;
  area = refl;
  gives = gives_at o o.link refl;
}

are_parts : (f : ℕ) (os : List Object) → AreParts f os (parts_in f os)
are_parts f [] = none
are_parts f (o ∷ os) =
    elim (eqb_tells o.frame f) [
      | inl p ↦ subst (λ (ps : List Part). AreParts f (o ∷ os) ps)
          (ap (λ b. if b then part_of o ∷ parts_in f os else parts_in f os) (sym p.0))
          (one o os (part_of o) (parts_in f os) (is_part f o p.1) (are_parts f os))
      | inr p ↦ subst (λ (ps : List Part). AreParts f (o ∷ os) ps)
          (ap (λ b. if b then part_of o ∷ parts_in f os else parts_in f os) (sym p.0))
          (other o os (parts_in f os) p.1 (are_parts f os))
    ]

stored_after : (f : ℕ) (frame : Frame) (os : List Object) → stored_parts f (map (completed f frame) os) ≡ parts_in f os
stored_after f frame [] = refl
stored_after f frame (o ∷ os) =
    let rest : List Object = map (completed f frame) os in
    elim (eqb_tells o.frame f) [
      | inl p ↦ ap (λ x. stored_parts f (x ∷ rest)) (completed_in f frame o p.0)
          ∙ ap (λ ps. if o.frame == f then part_of o ∷ ps else ps) (stored_after f frame os)
      | inr p ↦ ap (λ x. stored_parts f (x ∷ rest)) (completed_out f frame o p.0)
          ∙ (ap (λ b. if b then stored_part o ∷ stored_parts f rest else stored_parts f rest) p.0
          ∙ stored_after f frame os
          ∙ sym (ap (λ b. if b then part_of o ∷ parts_in f os else parts_in f os) p.0))
    ]

pub commit_counts : CommitCounts
commit_counts r f t h =
    let d : IsDone r f t = done_from r f t h in (
      d.frame,
      d.here,
      frame_document d.frame (parts_in f r.objects),
      d.counts,
      refl,
      are_parts f r.objects,
      ap (λ (x : Took). x.counted) d.made,
      ap (λ (x : Took). stored_parts f x.rec.objects) d.made
          ∙ stored_after f d.frame r.objects,
    )

-- ---- whom it tells
tells_at : (frame : Frame) (l : Link) (p : Option Operation) → l.pending ≡ p
    → sends (ask_at l (completion frame) p).sent ≡ map (telling frame) (elim p [ None ↦ l ∷ [] | Some op ↦ [] ])
tells_at frame l None e = refl
tells_at frame l (Some before) e = refl

tells_link : (frame : Frame) (link : Option Link) → sends (asked_sent (completion frame) link)
    ≡ map (telling frame) (free_link link)
tells_link frame None = refl
tells_link frame (Some l) = tells_at frame l l.pending refl

tells_all : (f : ℕ) (frame : Frame) (os : List Object) → sends (asked_all f (completion frame) os)
    ≡ map (telling frame) (free_links f os)
tells_all f frame [] = refl
tells_all f frame (o ∷ os) =
    elim (o.frame == f) as (λ b. sends (if b then asked_sent (completion frame) o.link
    ++ asked_all f (completion frame) os else asked_all f (completion frame) os)
    ≡ map (telling frame) (if b then free_link o.link ++ free_links f os else free_links f os)) [
      | true ↦ simp map-append (rw (tells_link frame o.link, tells_all f frame os) refl)
      | false ↦ tells_all f frame os
    ]

pub commit_tells : CommitTells
commit_tells r f t h =
    let d : IsDone r f t = done_from r f t h in
    (d.frame, d.here, ap (λ (x : Took). x.answer.actions) d.made ∙ tells_all f d.frame r.objects)

-- ---- whom a save waits for
answered_link : (link : Option Link) (l : Link) → is_awaited_link link ≡ false → link ≡ Some l
    → (c : Stored) × (l.saved ≡ Some c)
answered_link None l h e = absurd (cc)
answered_link (Some m) l h e =
    elim m.saved as (λ s. m.saved ≡ s → (elim s [ None ↦ true | Some content ↦ false ]) ≡ false
    → (c : Stored) × (l.saved ≡ Some c)) [
      | None ↦ λ g k. absurd (cc)
      | Some c ↦ λ g k. (let same : m ≡ l = cc in (c, ap (λ (x : Link). x.saved) (sym same) ∙ g))
    ] refl h

answered_at : (f : ℕ) (o : Object) (os : List Object) (b w : Bool) → (o.frame == f) ≡ b → is_awaited_link o.link ≡ w
    → (if b then (if w then true else awaits f os) else awaits f os) ≡ false → HasAnswered f o × (awaits f os ≡ false)
answered_at f o os true true e g h = absurd (cc)
answered_at f o os true false e g h = (λ same l k. answered_link o.link l g k, h)
answered_at f o os false w e g h = (
  λ same l k. absurd (let no : ◌≡◌ {A = Bool} true false =
      sym (elim (eqb_tells o.frame f) [ inl p ↦ p.0 | inr p ↦ absurd (p.1 same) ]) ∙ e in cc),
  h,
)

all_answered : (f : ℕ) (os : List Object) → awaits f os ≡ false → All (HasAnswered f) os
all_answered f [] h = All-nil (HasAnswered f)
all_answered f (o ∷ os) h =
    let parts : HasAnswered f o × (awaits f os ≡ false) = answered_at f o os (o.frame == f) (is_awaited_link o.link)
    refl refl h in
    All-cons (HasAnswered f) o os parts.0 (all_answered f os parts.1)

-- and each has given its storage away
away_by : (s : PersistState) → not (is_away s) ≡ false → s ≡ HandsOff
away_by HandsOff e = refl
away_by _ e = absurd (cc)

away_link : (link : Option Link) → is_keeping_link link ≡ false → (l : Link) → link ≡ Some l
    → l.states.persist.state ≡ HandsOff
away_link None e l k = cc
away_link (Some m) e l k =
    (let same : m ≡ l = cc in subst (λ (z : Link). z.states.persist.state ≡ HandsOff) same
    (away_by m.states.persist.state e))

all_of : (P : Object → Type 0) (xs : List Object) → AllByRecursion P xs → All P xs
all_of P [] h = All-nil P
all_of P (x ∷ xs) h = All-cons P x xs h.0 (all_of P xs h.1)

all_away : (f : ℕ) (os : List Object) → keeps f os ≡ false → All (HasGivenAway f) os
all_away f os h = all_of (HasGivenAway f) os
    (each_weaker (λ (o : Object). o.frame ≡ f → is_keeping_link o.link ≡ false) (HasGivenAway f) os
    (λ o k here. away_link o.link (k here)) (none_keeping f os h))

pub save_waits : SaveWaits
save_waits f os frame h ne =
    elim (is_ready f os frame) as (λ b. is_ready f os frame ≡ b
    → (if b then record frame { phase = Committing } else frame).phase ≡ Committing
    → ((frame.phase ≡ Saving) × (frame.asked ≡ None) × All (HasAnswered f) os)
    ⊎ ((frame.phase ≡ HandingOff) × All (HasGivenAway f) os)) [
      | true ↦ λ e g. elim (ready_at frame.phase frame.asked (awaits f os) (keeps f os) e) [
        | inl named ↦ inl (named.0, named.1, all_answered f os named.2)
        | inr handed ↦ inr (handed.0, all_away f os handed.1)
      ]
      | false ↦ λ e g. absurd (ne g)
    ] refl h

pub hand_off_waits : HandOffWaits
hand_off_waits f os frame h = (let k = handing_at frame.phase frame.asked (awaits f os) h in
    (k.0, k.1, all_answered f os k.2))
