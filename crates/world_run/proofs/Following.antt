-- What an event of the present run makes of the name of the session document, and of the names of the files that a stop
-- kept.
use Rattle.std.proofs.Common.{◌≡◌, ◌==◌, ◌||◌, ◌++◌, ℕ, Bool, true, false, List, [], ◌∷◌, Option, Some, None, is_some}
use Rattle.std.proofs.Common.{Result, Ok, Err, refl, ap, sym, ◌∙◌, subst, inl, inr, arith, if◌then◌else◌}
use Rattle.std.specs.Prelude.{reverse}
use Rattle.std.proofs.lemmas.Bool.Decides.{eqb_tells}
use Rattle.std.proofs.lemmas.Slice.Eq.{bytes_eq-Decides}
use Rattle.message_values.specs.Found.{nth, set_nth}
use Rattle.message_values.specs.declared.message.Message.{Message}
use Rattle.container_frames.specs.Frames.{Commits, FramesGo, FramesStay, frame_counted, frame_made, frame_opened}
use Rattle.container_frames.specs.Frames.{frames_stay}
use Rattle.container_frames.proofs.Steps.{steps_move_frames}
use Rattle.container_model.specs.Commands.{new_frame}
use Rattle.container_model.specs.Inputs.{Input}
use Rattle.container_model.specs.Opens.{Given, opened_frame}
use Rattle.container_model.specs.Record.{Record, Took}
use Rattle.container_model.specs.Saves.{committed_frame}
use Rattle.container_model.specs.declared.command.Command.{Command}
use Rattle.container_model.specs.declared.command.Command.TheVariants as command
use Rattle.container_model.specs.declared.record.Frame.{Frame}
use Rattle.container_model.specs.declared.server_link.ServerLink.{ServerLink}
use Rattle.container_queues.proofs.SteadyLookups.{nth-set_other, nth-set_same}
use Rattle.world_model.specs.declared.event.Event.{Event}
use Rattle.world_model.specs.declared.event.Event.TheVariants as event
use Rattle.world_model.specs.World.{Choice, World, happened}
use Rattle.world_model.specs.Story.{Epoch, Story, document_by, followed, is_it, kept_by, made_name, may_begin}
use Rattle.world_model.specs.Story.{may_command}
use Rattle.world_stories.specs.Steps.{Counts, IsInputOf, Steps, rec_stays, rec_steps}
use Rattle.world_stories.proofs.Documents.{done_counts, kept_counts}
use Rattle.world_stories.proofs.Going.{steps}
use Rattle.world_run.specs.Names.{borne_by, document_of, has_after, kept_after, struck_by}
use Rattle.world_run.proofs.Names.{without_reverse}

-- ---- a commit that was counted
after_it : (w v : World) (f : ℕ) (c : Counts w v f) → v.rec.frames ≡ set_nth w.rec.frames f (committed_frame c.frame)
after_it w v f c = ap (λ (r : Record). r.frames) c.rec

-- the name of the session document, and those that a stop kept
module _ (has : Bool) (document : List ℕ) where
  abbrev Named : Bool → Option Frame → Option (List ℕ)
  Named b o = if b then Some (borne_by o document) else None

  counted_document : (w v : World) (f : ℕ) → Counts w v f
      → document_by f (nth w.rec.frames f) (document_of w.rec has document)
      ≡ document_of v.rec (has || (f == 1)) document
  counted_document w v f c =
      let a = committed_frame c.frame in
      let there : nth v.rec.frames f ≡ Some a = ap (λ xs. nth xs f) (after_it w v f c)
      ∙ nth-set_same w.rec.frames f c.frame a c.at in
      ap (λ o. document_by f o (document_of w.rec has document)) c.at
      ∙ elim (eqb_tells f 1) [
        | inl t ↦
            ap (λ b. if b then Some (made_name c.frame) else document_of w.rec has document) t.0
            ∙ sym (ap (λ b. Named b (nth v.rec.frames 1)) (ap (λ b. has || b) t.0 ∙ always has)
            ∙ ap (Named true) (ap (nth v.rec.frames) (sym t.1) ∙ there))
        | inr t ↦
            ap (λ b. if b then Some (made_name c.frame) else document_of w.rec has document) t.0
            ∙ sym (ap (λ b. Named b (nth v.rec.frames 1)) (ap (λ b. has || b) t.0 ∙ as_before has)
            ∙ ap (Named has) (ap (λ xs. nth xs 1) (after_it w v f c) ∙ nth-set_other w.rec.frames f 1 a t.1))
      ]
    where
      always : (b : Bool) → (b || true) ≡ true
      always true = refl
      always false = refl

      as_before : (b : Bool) → (b || false) ≡ b
      as_before true = refl
      as_before false = refl

  counted_kept : (w v : World) (f : ℕ) (kept : List (List ℕ)) → Counts w v f
      → kept_by (nth w.rec.frames f) (reverse kept) ≡ reverse (kept_after (event.Done f) v.rec.frames kept)
  counted_kept w v f kept c =
      let a = committed_frame c.frame in
      let there : nth v.rec.frames f ≡ Some a = ap (λ xs. nth xs f) (after_it w v f c)
      ∙ nth-set_same w.rec.frames f c.frame a c.at in
      ap (λ o. kept_by o (reverse kept)) c.at
      ∙ (without_reverse (made_name c.frame) kept ∙ ap (λ o. reverse (struck_by o kept)) (sym there))

  -- ---- steps that count no commit
  -- a frame of this name may be made or opened
  data MayCome (o : Option Frame) (name : List ℕ) : Type 0 where
    first_there : is_some o ≡ true → MayCome o name
    none_yet : has ≡ false → MayCome o name
    bears_it : name ≡ document → MayCome o name

  comes : (frames : List Frame) (a : Frame) → MayCome (nth frames 1) a.name
      → Named has (nth (frames ++ a ∷ []) 1) ≡ Named has (nth frames 1)
  comes [] a (first_there e) = (let z : false ≡ true = e in cc)
  comes [] a (none_yet e) = ap (λ b. Named b (Some a)) e ∙ sym (ap (λ b. Named b None) e)
  comes [] a (bears_it e) = ap (λ n. if has then Some n else None) e
  comes (x ∷ xs) a h = refl

  stays : (session : ℕ) (old new : List Frame) → FramesStay session old new
      → Named has (nth new 1) ≡ Named has (nth old 1)
  stays session [] [] h = refl
  stays session [] (y ∷ ys) h = (let z = h.many in absurd (omega arith))
  stays session (x ∷ xs) [] h = (let z = h.many in absurd (omega arith))
  stays session (x ∷ xs) (y ∷ ys) h =
      (let k = h.from 1 y refl in let is : x ≡ k.0 = (let q : Some x ≡ Some k.0 = k.1 in cc) in
      ap (λ n. if has then Some n else None) (k.2.name ∙ ap (λ (z : Frame). z.name) (sym is)))

  record IsPlain (r : Record) (x : Input) : Type 0 where
    pub made : (name : List ℕ) (width height : ℕ) → x ≡ Input.Ordered (command.New name width height)
        → MayCome (nth r.frames 1) name
    pub opened : (name : List ℕ) (width height : ℕ) (given : Given) → x ≡ Input.Opened name width height given
        → MayCome (nth r.frames 1) name
    pub none : (f : ℕ) → Commits x f → ⊥

  plain_goes : (r : Record) (x : Input) (t : Took) → IsPlain r x → FramesGo r x t
      → document_of t.rec has document ≡ document_of r has document
  plain_goes r x t p (frames_stay same session) = stays r.session r.frames t.rec.frames same
  plain_goes r x t p (frame_made name width height is frames session) = ap (λ fs. Named has (nth fs 1)) frames
      ∙ comes r.frames (new_frame name width height) (p.made name width height is)
  plain_goes r x t p (frame_opened name width height d is frames session) = ap (λ fs. Named has (nth fs 1)) frames
      ∙ comes r.frames (opened_frame name width height d.session) (p.opened name width height (Given.Holding d) is)
  plain_goes r x t p (frame_counted f frame counts at phase is) = absurd (p.none f counts)

  plain_steps : (w v : World) (choice : Choice) (e : Event) → ((x : Input) → IsInputOf x choice e → IsPlain w.rec x)
      → Steps w v choice e → document_of v.rec has document ≡ document_of w.rec has document
  plain_steps w v choice e plain (rec_stays none same keeps) = ap (λ r. document_of r has document) same
  plain_steps w v choice e plain (rec_steps x t is on same counts) = ap (λ r. document_of r has document) same
      ∙ plain_goes w.rec x t (plain x is) (steps_move_frames w.rec x t on)

  -- what each event may do
  abbrev As : World → List Epoch → List (List ℕ) → Story
  As w past kept = record { now = w; past = past; document = document_of w.rec has document; kept = kept }

  may_make_is : (o : Option Frame) (b : Bool) (name : List ℕ) → has ≡ b
      → (if is_some o then true else if is_some (Named b o) then false else true) ≡ true → MayCome o name
  may_make_is (Some x) b name is h = first_there refl
  may_make_is None true name is h = (let z : false ≡ true = h in cc)
  may_make_is None false name is h = none_yet is

  may_open_is : (o : Option Frame) (b : Bool) (name : List ℕ) → has ≡ b
      → (if is_some o then true else is_it name (Named b o)) ≡ true → MayCome o name
  may_open_is (Some x) b name is h = first_there refl
  may_open_is None true name is h = bears_it (sym ((bytes_eq-Decides document name).0 h))
  may_open_is None false name is h = none_yet is

  plain_command : (w : World) (past : List Epoch) (kept : List (List ℕ)) (c : Command)
      → may_command (As w past kept) c ≡ true → IsPlain w.rec (Input.Ordered c)
  plain_command w past kept c may = record {
    made = λ name width height is. (let same : c ≡ command.New name width height = cc in
        may_make_is (nth w.rec.frames 1) has name refl
        (subst (λ x. may_command (As w past kept) x ≡ true) same may));
    opened = λ name width height given is. cc;
    none = λ f h. absurd h;
  }

  plain_open : (w : World) (past : List Epoch) (kept : List (List ℕ)) (name : List ℕ) (width height : ℕ)
      (given : Given) → may_begin (As w past kept) (event.Open name width height) ≡ true
      → IsPlain w.rec (Input.Opened name width height given)
  plain_open w past kept name width height given may = record {
    made = λ other x y is. cc;
    opened = λ other x y z is. (let same : name ≡ other = cc in
        subst (MayCome (nth w.rec.frames 1)) same (may_open_is (nth w.rec.frames 1) has name refl may));
    none = λ f h. absurd h;
  }

  plain_told : (r : Record) (link : ServerLink) (m : Message) → IsPlain r (Input.Told link m)
  plain_told r link m = record {
    made = λ name width height is. cc;
    opened = λ name width height given is. cc;
    none = λ f h. absurd h;
  }

  plain_reaped : (r : Record) (inc : ℕ) → IsPlain r (Input.Reaped inc)
  plain_reaped r inc = record {
    made = λ name width height is. cc;
    opened = λ name width height given is. cc;
    none = λ f h. absurd h;
  }

  plain_failed : (r : Record) (f : ℕ) → IsPlain r (Input.Failed f)
  plain_failed r f = record {
    made = λ name width height is. cc;
    opened = λ name width height given is. cc;
    none = λ g h. absurd h;
  }

  plain_lost : (r : Record) (f : ℕ) → IsPlain r (Input.Resolved f false)
  plain_lost r f = record {
    made = λ name width height is. cc;
    opened = λ name width height given is. cc;
    none = λ g h. absurd h;
  }

  -- ---- an event of the present run
  module _ (w v : World) (past : List Epoch) (kept : List (List ℕ)) (choice : Choice) where
    abbrev Before : Story
    Before = As w past (reverse kept)

    abbrev After : Event → Story
    After e = record {
      now = v;
      past = past;
      document = document_of v.rec (has_after e has) document;
      kept = reverse (kept_after e v.rec.frames kept);
    }

    quiet : (e : Event) → ((x : Input) → IsInputOf x choice e → IsPlain w.rec x) → happened w choice e ≡ Ok v
        → record Before { now = v } ≡ record {
          now = v;
          past = past;
          document = document_of v.rec has document;
          kept = reverse kept;
        }
    quiet e plain ok = ap (λ d. record { now = v; past = past; document = d; kept = reverse kept })
        (sym (plain_steps w v choice e plain (steps w choice e v ok)))

    counted : (f : ℕ) → Counts w v f → followed Before (event.Done f) v ≡ After (event.Done f)
    counted f c =
        ap (λ d. record { now = v; past = past; document = d; kept = kept_by (nth w.rec.frames f) (reverse kept) })
        (counted_document w v f c)
        ∙ ap (λ ks. record {
          now = v;
          past = past;
          document = document_of v.rec (has || (f == 1)) document;
          kept = ks;
        }) (counted_kept w v f kept c)

    pub followed_as : (e : Event) → may_begin Before e ≡ true → happened w choice e ≡ Ok v
        → followed Before e v ≡ After e
    followed_as (event.Command c) may ok = quiet (event.Command c)
        (λ x is. subst (IsPlain w.rec) (sym is) (plain_command w past (reverse kept) c may)) ok
    followed_as (event.Deliver p) may ok = quiet (event.Deliver p)
        (λ x is. subst (IsPlain w.rec) (sym is.2) (plain_told w.rec is.0 is.1)) ok
    followed_as (event.Forge inc m) may ok = quiet (event.Forge inc m)
        (λ x is. subst (IsPlain w.rec) (sym is.1) (plain_told w.rec is.0 m)) ok
    followed_as (event.Crash session inc) may ok = quiet (event.Crash session inc) (λ x is. absurd is) ok
    followed_as (event.Reap inc) may ok = quiet (event.Reap inc)
        (λ x is. subst (IsPlain w.rec) (sym is) (plain_reaped w.rec inc)) ok
    followed_as (event.Done f) may ok = counted f (done_counts w v choice f (steps w choice (event.Done f) v ok))
    followed_as (event.Fail f) may ok = quiet (event.Fail f)
        (λ x is. subst (IsPlain w.rec) (sym is) (plain_failed w.rec f)) ok
    followed_as (event.Resolve f true) may ok =
        counted f (kept_counts w v choice f (steps w choice (event.Resolve f true) v ok))
    followed_as (event.Resolve f false) may ok = quiet (event.Resolve f false)
        (λ x is. subst (IsPlain w.rec) (sym is) (plain_lost w.rec f)) ok
    followed_as (event.Open name width height) may ok = quiet (event.Open name width height)
        (λ x is. subst (IsPlain w.rec) (sym is)
        (plain_open w past (reverse kept) name width height choice.given may)) ok
    followed_as (event.Scribble session inc act) may ok = quiet (event.Scribble session inc act) (λ x is. absurd is) ok
    followed_as (event.Ask session inc act) may ok = quiet (event.Ask session inc act) (λ x is. absurd is) ok
