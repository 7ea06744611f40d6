-- What a stop makes of a story.
use Rattle.std.proofs.Common.{◌≡◌, ◌||◌, ◌++◌, ◌≤◌, ◌+◌, ℕ, Bool, true, false, List, [], ◌∷◌, Option, Some, None}
use Rattle.std.proofs.Common.{is_some, Result, Ok, Err, length, refl, ap, sym, ◌∙◌, subst, arith, if◌then◌else◌}
use Rattle.std.specs.Prelude.{nat_le, reverse}
use Rattle.message_values.specs.Found.{nth}
use Rattle.object_core.specs.Content.{Content}
use Rattle.object_core.specs.Kinds.{Kind}
use Rattle.server_core.specs.declared.server.Seat.{Seat}
use Rattle.container_model.specs.declared.record.Frame.{Frame}
use Rattle.world_model.specs.declared.event.Stop.{Stop}
use Rattle.world_model.specs.declared.event.Stop.TheVariants.{EventLimit, NoMemory, NotEnabled, OutOfStock}
use Rattle.world_model.specs.World.{HoldsDocument, Instance, MOST_EVENTS, StopsFor, World, no_choice}
use Rattle.world_model.specs.declared.moment.Moment.TheVariants as moment
use Rattle.world_model.specs.Story.{EndsAt, Story, document_kept, epoch_of, is_among, made_name}
use Rattle.world_model.specs.Story.{may_stop, names_kept, rested, stopped, within}
use Rattle.world_host.specs.Stops.{IsLeft, MayGive, made_names}
use Rattle.world_host.specs.View.{bare}
use Rattle.world_host.specs.declared.host.Host.{Host}
use Rattle.world_host.specs.declared.stops.Left as code
use Rattle.world_run.specs.Names.{borne_by, document_of, name_left, or_else}
use Rattle.world_run.specs.Passes.{Passes, past_with}
use Rattle.world_run.specs.Told.{left_epoch, seen_pasts, told}
use Rattle.world_run.specs.declared.past.Past.{Past}
use Rattle.world_run.specs.declared.runs.Runs.{Runs}
use Rattle.world_state.specs.declared.state.State.{State}
use Rattle.world_state.specs.View.{seen}
use Rattle.world_run.proofs.Names.{kept_reverse}

-- no more files are made than there are frames
pub few_names : (fs : List ℕ) (f : ℕ) (frames : List Frame) → length (made_names fs f frames) ≤ length frames
few_names fs f [] = omega arith
few_names fs f (frame ∷ frames) = (let k = few_names fs (f + 1) frames in
    elim (is_among fs f) as (λ b. length (if b then made_name frame ∷ made_names fs (f + 1) frames
    else made_names fs (f + 1) frames) ≤ length (frame ∷ frames)) [
      | true ↦ omega arith
      | false ↦ omega arith
    ])

-- why a container doesn't stop
abbrev Stops : Story → List ℕ → (ℕ → List ℕ) → Bool → Result Story Stop
Stops s fs images b = if b then Ok (stopped s images fs) else Err NotEnabled

abbrev Within : Bool → Story → Result Story Stop
Within b after = if b then Err EventLimit else Ok after

pub stop_refused : {A : Type 0} (s : Story) (fs : List ℕ) (r : Result A Stop) (stop : Stop) → r ≡ Err stop
    → MayGive (may_stop s.now.rec fs) (nat_le MOST_EVENTS (length s.now.answers)) r → EndsAt s (moment.Stop fs) stop
stop_refused s fs r NotEnabled is h choice = ap (λ b. within s (Stops s fs choice.images b))
    (subst (MayGive (may_stop s.now.rec fs) (nat_le MOST_EVENTS (length s.now.answers))) is h)
stop_refused s fs r OutOfStock is h choice =
    absurd (subst (MayGive (may_stop s.now.rec fs) (nat_le MOST_EVENTS (length s.now.answers))) is h)
stop_refused s fs r EventLimit is h choice =
    (let k = subst (MayGive (may_stop s.now.rec fs) (nat_le MOST_EVENTS (length s.now.answers))) is h in
    ap (λ b. within s (Stops s fs choice.images b)) k.0 ∙ ap (λ b. Within b (stopped s choice.images fs)) k.1)
stop_refused s fs r NoMemory is h choice =
    (let k = subst (MayGive (may_stop s.now.rec fs) (nat_le MOST_EVENTS (length s.now.answers))) is h in
    subst (λ (o : Result Story Stop). StopsFor o NoMemory)
    (sym (ap (λ b. within s (Stops s fs choice.images b)) k.0 ∙ ap (λ b. Within b (stopped s choice.images fs))
    k.1)) refl)

-- the name of the session document, after a stop
module _ (fs : List ℕ) (has : Bool) (document : List ℕ) where
  abbrev Named : Bool → List ℕ → Option (List ℕ)
  Named b name = if b then Some name else None

  abbrev Told : Bool → Frame → Option (List ℕ)
  Told b frame = if b then Some (made_name frame) else Named has frame.name

  abbrev Left : Bool → Frame → Option (List ℕ) → Option (List ℕ)
  Left b frame name = Named (is_some (if b then Some (made_name frame) else name) || has)
      (or_else (if b then Some (made_name frame) else name) document)

  pub document_left : (o : Option Frame) → document_kept fs o (Named has (borne_by o document))
      ≡ Named (is_some (name_left fs o has) || has) (or_else (name_left fs o has) document)
  document_left None = elim (is_among fs 1) as (λ b. (if b then Named has document else Named has document)
      ≡ Named has document) [ true ↦ refl | false ↦ refl ]
  document_left (Some frame) =
      elim (is_among fs 1) as (λ b. Told b frame ≡ Left b frame (if has then Some frame.name else None)) [
        | true ↦ refl
        | false ↦ elim has as (λ h. (if h then Some frame.name else None)
            ≡ (if is_some (if h then Some frame.name else None) || h
            then Some (or_else (if h then Some frame.name else None) document) else None)) [
              | true ↦ refl
              | false ↦
                  refl
            ]
      ]

-- what is left of the run that is over
pub epoch_left : (h : Host) (instances : List Instance) (stock : List Kind) (names : List (List ℕ)) (l : code.Left)
    → IsLeft h names l → left_epoch l instances
    ≡ epoch_of (record (bare h) { instances = instances; stock = stock })
epoch_left h instances stock names l k =
    rw (k.session, k.owners, k.taken, k.container_done, k.server_done, k.counted, k.hostile) refl

-- a stop that is
pub stops_so : (s after : Story) (fs : List ℕ) (images : ℕ → List ℕ)
    → may_stop s.now.rec fs ≡ true → nat_le MOST_EVENTS (length s.now.answers) ≡ false
    → ((f : ℕ) → is_among fs f ≡ true → HoldsDocument s.now f (images f))
    → stopped s images fs ≡ after
    → Passes s (moment.Stop fs) after
stops_so s after fs images may free are is = (
  record { here = no_choice; images = images },
  are,
  ap (λ b. within s (Stops s fs images b)) may
      ∙ (ap (λ b. Within b (stopped s images fs)) free ∙ ap Ok is),
)

-- and what it makes of a story, part by part
pub is_stopped : (s after : Story) (fs : List ℕ) (images : ℕ → List ℕ) (has : Bool) (document : List ℕ)
    (kept : List (List ℕ))
    → s.document ≡ document_of s.now.rec has document → s.kept ≡ reverse kept
    → after.now ≡ rested s.now images fs
    → after.past ≡ past_with (epoch_of s.now) s.past
    → after.document ≡ document_of after.now.rec (is_some (name_left fs (nth s.now.rec.frames 1) has) || has)
    (or_else (name_left fs (nth s.now.rec.frames 1) has) document)
    → after.kept ≡ reverse (kept ++ made_names fs 1 s.now.rec.frames)
    → stopped s images fs ≡ after
is_stopped s after fs images has document kept bears names now past called left =
    let o = nth s.now.rec.frames 1 in
    let d : document_kept fs o s.document ≡ after.document =
    ap (document_kept fs o) bears ∙ (document_left fs has document o
    ∙ sym (called ∙ ap (λ (w : World). document_of w.rec (is_some (name_left fs o has) || has)
    (or_else (name_left fs o has) document)) now)) in
    let k : _ ≡ after.kept = ap (names_kept fs 1 s.now.rec.frames) names
    ∙ (kept_reverse fs s.now.rec.frames kept ∙ sym left) in
    ap (λ w. record (stopped s images fs) { now = w }) (sym now)
    ∙ (ap (λ es. record (stopped s images fs) { now = after.now; past = es }) (sym past)
    ∙ (ap (λ x. record (stopped s images fs) { now = after.now; past = after.past; document = x }) d
    ∙ ap (λ x. record { now = after.now; past = after.past; document = after.document; kept = x }) k))

module _ {X : Type 0} {V : X → Type 0} (content : Seat X V → Content) where
  -- what a story is told of
  pub told_same : (a b : Runs X V) → a.state ≡ b.state → a.past.items ≡ b.past.items
      → a.has_document ≡ b.has_document → a.document ≡ b.document → a.kept.items ≡ b.kept.items
      → told content a ≡ told content b
  told_same a b state past has document kept =
      ap (λ st. record {
        now = seen content st;
        past = seen_pasts content a.past.items;
        document = document_of (seen content st).rec a.has_document a.document;
        kept = reverse a.kept.items;
      })
      state
      ∙ (ap (λ ps. record {
        now = seen content b.state;
        past = seen_pasts content ps;
        document = document_of (seen content b.state).rec a.has_document a.document;
        kept = reverse a.kept.items;
      }) past
      ∙ (ap (λ h. record {
        now = seen content b.state;
        past = seen_pasts content b.past.items;
        document = document_of (seen content b.state).rec h a.document;
        kept = reverse a.kept.items;
      }) has
      ∙ (ap (λ d. record {
        now = seen content b.state;
        past = seen_pasts content b.past.items;
        document = document_of (seen content b.state).rec b.has_document d;
        kept = reverse a.kept.items;
      })
      document
      ∙ ap (λ ks. record {
        now = seen content b.state;
        past = seen_pasts content b.past.items;
        document = document_of (seen content b.state).rec b.has_document b.document;
        kept = reverse ks;
      }) kept)))

  pub told_parts : (a : Runs X V) (st : State X V) (past : List (Past X V)) (has : Bool) (document : List ℕ)
      (kept : List (List ℕ)) → a.state ≡ st → a.past.items ≡ past → a.has_document ≡ has → a.document ≡ document
      → a.kept.items ≡ kept
      → told content a ≡ record {
        now = seen content st;
        past = seen_pasts content past;
        document = document_of (seen content st).rec has document;
        kept = reverse kept;
      }
  told_parts a st past has document kept state ps h d ks =
      ap (λ x. record {
        now = seen content x;
        past = seen_pasts content a.past.items;
        document = document_of (seen content x).rec a.has_document a.document;
        kept = reverse a.kept.items;
      })
      state
      ∙ (ap (λ x. record {
        now = seen content st;
        past = seen_pasts content x;
        document = document_of (seen content st).rec a.has_document a.document;
        kept = reverse a.kept.items;
      }) ps
      ∙ (ap (λ x. record {
        now = seen content st;
        past = seen_pasts content past;
        document = document_of (seen content st).rec x a.document;
        kept = reverse a.kept.items;
      }) h
      ∙ (ap (λ x. record {
        now = seen content st;
        past = seen_pasts content past;
        document = document_of (seen content st).rec has x;
        kept = reverse a.kept.items;
      }) d
      ∙ ap (λ x. record {
        now = seen content st;
        past = seen_pasts content past;
        document = document_of (seen content st).rec has document;
        kept = reverse x;
      }) ks)))

  pub host_same : (a : Runs X V) (h : Host) → bare h ≡ bare a.state.host
      → told content (record a { state = record a.state { host = h } }) ≡ told content a
  host_same a h e =
      ap (λ (w : World). record (told content a) {
        now =
            record w { instances = (seen content a.state).instances; stock = (seen content a.state).stock };
        document = document_of w.rec a.has_document a.document;
      }) e

  pub stop_taken : (mid new : Runs X V) (h : Host) (l : code.Left) (name : Option (List ℕ)) (fs : List ℕ)
      → (images : ℕ → List ℕ) × ((f : ℕ) → is_among fs f ≡ true → HoldsDocument (bare mid.state.host) f (images f))
      × (bare h ≡ rested (bare mid.state.host) images fs)
      → (may_stop mid.state.host.core fs ≡ true) × (nat_le MOST_EVENTS (length mid.state.host.answers.items) ≡ false)
      → IsLeft mid.state.host (made_names fs 1 mid.state.host.core.frames) l
      → name ≡ name_left fs (nth mid.state.host.core.frames 1) mid.has_document
      → seen content new.state ≡ record (seen content (record mid.state { host = h })) { instances = [] }
      → seen_pasts content new.past.items ≡ past_with (left_epoch l (seen content mid.state).instances)
      (seen_pasts content mid.past.items)
      → new.has_document ≡ (is_some name || mid.has_document) → new.document ≡ or_else name mid.document
      → new.kept.items ≡ mid.kept.items ++ l.names.items
      → Passes (told content mid) (moment.Stop fs) (told content new)
  stop_taken mid new h l name fs k may left is state past has document kept =
      let s = told content mid in
      let images = k.0 in
      let now : seen content new.state ≡ rested s.now images fs = state
      ∙ ap (λ (w : World). record w { instances = []; stock = s.now.stock }) k.2 in
      let over : seen_pasts content new.past.items ≡ past_with (epoch_of s.now) s.past =
      past ∙ ap (λ e. past_with e s.past) (epoch_left mid.state.host s.now.instances s.now.stock
      (made_names fs 1 s.now.rec.frames) l left) in
      let called : document_of (seen content new.state).rec new.has_document new.document
      ≡ document_of (seen content new.state).rec
      (is_some (name_left fs (nth s.now.rec.frames 1) mid.has_document) || mid.has_document)
      (or_else (name_left fs (nth s.now.rec.frames 1) mid.has_document) mid.document) =
      ap (λ b. document_of (seen content new.state).rec b new.document) has
      ∙ (ap (λ d. document_of (seen content new.state).rec (is_some name || mid.has_document) d) document
      ∙ ap (λ o. document_of (seen content new.state).rec (is_some o || mid.has_document) (or_else o mid.document))
      is) in
      let names : reverse new.kept.items ≡ reverse (mid.kept.items ++ made_names fs 1 s.now.rec.frames) =
      ap reverse (kept ∙ ap (λ ns. mid.kept.items ++ ns) left.names) in
      stops_so s (told content new) fs images may.0 may.1 k.1
      (is_stopped s (told content new) fs images mid.has_document mid.document mid.kept.items refl refl now over
      called names)

pub may_given : {A : Type 0} (may full : Bool) (r : Result A Stop) (x : A) → r ≡ Ok x → MayGive may full r
    → (may ≡ true) × (full ≡ false)
may_given may full r x is h = subst (MayGive may full) is h
