-- Every moment leaves a story in what it keeps.
use Rattle.std.proofs.Common.{◌≡◌, ◌≢◌, ◌<◌, ◌≤◌, ◌==◌, ◌⊎◌, ◌++◌, ◌+◌, ℕ, zero, suc, Bool, true, false, List, [], ◌∷◌}
use Rattle.std.proofs.Common.{length, Option, Some, None, Result, Ok, Err, refl, sym, ap, ◌∙◌, subst, inl, inr, arith}
use Rattle.std.proofs.Common.{append-nil, cond, if◌then◌else◌, nat_le}
use Rattle.std.proofs.lemmas.Bool.Decides.{eqb_tells}
use Rattle.object_core.specs.Kinds.{Kind}
use Rattle.message_values.specs.Found.{find, nth, put}
use Rattle.message_values.specs.declared.message.Message.{Message}
use Rattle.container_frames.specs.Frames.{AreUnraised, FramesGo, frame_counted, frame_made, frame_opened, frames_stay}
use Rattle.container_model.specs.Record.{Record, Took, empty}
use Rattle.container_model.specs.Saves.{session_after}
use Rattle.container_model.specs.declared.record.Frame.{Frame}
use Rattle.container_numbers.specs.Sessions.{MayRaise}
use Rattle.world_facts.proofs.Lookups.{among_new, among_old}
use Rattle.world_files.proofs.Kept.{images_make}
use Rattle.world_model.specs.declared.event.Event.{Event}
use Rattle.world_model.specs.declared.event.Event.TheVariants as event
use Rattle.world_model.specs.declared.event.Stop.{Stop}
use Rattle.world_model.specs.declared.event.Stop.TheVariants.{EventLimit, NotEnabled}
use Rattle.world_model.specs.declared.logs.File.{File}
use Rattle.world_model.specs.declared.logs.Taken.{Taken}
use Rattle.world_model.specs.Safe.{Among, IsHonest, WasSent, messages}
use Rattle.world_model.specs.World.{Choice, HoldsDocument, MOST_EVENTS, MayChoose, World, happened, put_file}
use Rattle.world_safety.specs.Holding.{Holds}
use Rattle.world_safety.proofs.Held.{empty_held}
use Rattle.world_model.specs.declared.moment.Moment.{Moment}
use Rattle.world_model.specs.declared.moment.Moment.TheVariants as moment
use Rattle.world_model.specs.SafeStory.{AreRising, IsGrantedIn, is_kept}
use Rattle.world_model.specs.Story.{Chosen, Epoch, MayChooseAt, Story, Tells, as_of, committed_by, document_by, earlier}
use Rattle.world_model.specs.Story.{empty_story, epoch_of, epochs, follow, followed, goes_on, is_among, is_session}
use Rattle.world_model.specs.Story.{kept_by, left_by, made_name, may_begin, may_stop, passed, past_by, present, rested}
use Rattle.world_model.specs.Story.{session_of, stopped, within, without}
use Rattle.world_stories.specs.Holding.{AreGranted, CountsSession, DocumentStands, HoldsPast, IsFrom, IsOfRuns, IsSaved}
use Rattle.world_stories.specs.Holding.{IsThere, Sound, sent_in}
use Rattle.world_stories.specs.Steps.{Counts, Goes, HasGoneOn, Steps, made_by, put_committed, rec_stays, rec_steps}
use Rattle.world_stories.specs.Steps.{twin}
use Rattle.world_stories.proofs.Documents.{document_follows, done_counts, kept_counts, none_made_follows}
use Rattle.world_stories.proofs.Documents.{unraised_follows}
use Rattle.world_stories.proofs.Elsewhere.{begun_held, elsewhere_now, elsewhere_past, granted_grows, over, sent_grows}
use Rattle.world_stories.proofs.Going.{goes, steps}
use Rattle.world_stories.proofs.GoingOn.{goes_on_held}
use Rattle.world_stories.proofs.Lists.{each_run, found_session, none_sent, placed_among, put_each, put_keeps, put_rises}
use Rattle.world_stories.proofs.Lists.{put_there, rising_more}
use Rattle.world_stories.proofs.Members.{in_all, in_append, in_none}
use Rattle.world_stories.proofs.SafeRuns.{rising_above}
use Rattle.world_stories.proofs.StoryFiles.{ComeFrom, MineThere, files_made, past_more, past_present, stop_files}
use Rattle.world_stories.proofs.Stopping.{stop_document}
use Rattle.container_frames.proofs.Steps.{steps_move_frames}

-- ---- what holds of any story that is sound
module _ (s : Story) (h : Sound s) where
  -- each run is an earlier one, or the present one
  pub which : (e : Epoch) → Among (epochs s) e → Among s.past e ⊎ (e ≡ epoch_of s.now)
  which = each_run (λ x. Among s.past x ⊎ (x ≡ epoch_of s.now)) s.past (epoch_of s.now) (λ x k. inl k) (inr refl)

  pub old : (e : Epoch) → Among s.past e → Among (epochs s) e
  old e g = among_old s.past (epoch_of s.now ∷ []) e g

  pub here : Among (epochs s) (epoch_of s.now)
  here = among_new s.past (epoch_of s.now ∷ []) (epoch_of s.now) (inl refl)

  -- earlier sessions are others
  pub other : (e : Epoch) → Among s.past e → e.session ≢ s.now.rec.session
  other e g same =
      let from : 0 < e.session = rising_above 0 s.past e h.rising g in
      elim (eqb_tells s.now.rec.session 0) [
        | inl t ↦ (let zero : s.now.rec.session ≡ 0 = t.1 in absurd (omega arith))
        | inr t ↦ (let lt : e.session < s.now.rec.session = h.above e g t.1 in absurd (omega arith))
      ]

  -- where the present one has raised its session, a commit that was counted bears it
  pub bears_now : s.now.rec.session ≢ 0 → CountsSession s.now.counted s.now.rec.session
  bears_now there = at s.document h.document
    where
      at : (d : Option (List ℕ)) → DocumentStands s d → CountsSession s.now.counted s.now.rec.session
      at None k = absurd (there k.1)
      at (Some name) k = (k.raised there).1

  -- nothing was sent in session 0
  unsent : (m : Message) → WasSent s.now m → m.session ≢ 0
  unsent m g nil = (let r = h.of_runs m g in r.3 (sym r.2 ∙ nil))

  granted_session : (session : ℕ) (t : Taken) → IsGrantedIn s.now session t → session ≢ 0
  granted_session session t k nil = unsent k.granted.message
      (placed_among (messages s.now.sent) k.granted.place k.granted.message k.granted.delivered)
      (k.in_session ∙ nil)

-- ---- the session after an event
-- it stays, or it is raised above all that were used
pub data Session (s : Story) (v : World) : Type 0 where
  session_stays : v.rec.session ≡ s.now.rec.session → Session s v
  session_raised : s.now.rec.session ≡ 0 → v.rec.session ≢ 0
      → ((e : Epoch) → Among s.past e → e.session < v.rec.session) → Session s v

module _ (s : Story) (h : Sound s) (v : World) where
  raised_above : (frame : Frame) (n : ℕ) (d : Option (List ℕ)) → DocumentStands s d
      → nth s.now.rec.frames 1 ≡ Some frame → n ≡ frame.session + 1 → (e : Epoch) → Among s.past e → e.session < n
  raised_above frame n None k at next e g = absurd (subst (λ es. Among es e) k.0 g)
  raised_above frame n (Some name) k at next e g =
      let most : e.session ≤ k.saved.session = k.above e (old s h e g) in
      let same : frame.session ≡ k.saved.session = (k.framed frame at).1 in
      omega arith

  counted_session : (f : ℕ) (frame : Frame) (raised : Option ℕ) → nth s.now.rec.frames f ≡ Some frame
      → MayRaise s.now.rec.session f frame raised → v.rec.session ≡ session_after s.now.rec.session raised
      → Session s v
  counted_session f frame None at may is = session_stays is
  counted_session f frame (Some n) at may is =
      let next : n ≡ frame.session + 1 = may.2 in
      session_raised may.0 (λ z. (let zero : n ≡ 0 = sym is ∙ z in absurd (omega arith)))
      (λ e g. subst (λ m. e.session < m) (sym is)
      (raised_above frame n s.document h.document (subst (λ m. nth s.now.rec.frames m ≡ Some frame) may.1 at)
      next e g))

  moved_session : (x : _) (t : Took) → v.rec ≡ t.rec → FramesGo s.now.rec x t → Session s v
  moved_session x t is (frames_stay stay same) = session_stays (ap (λ (r : Record). r.session) is ∙ same)
  moved_session x t is (frame_made name y z e frames same) = session_stays (ap (λ (r : Record). r.session) is ∙ same)
  moved_session x t is (frame_opened name y z d e frames same) =
      session_stays (ap (λ (r : Record). r.session) is ∙ same)
  moved_session x t is (frame_counted f frame commits at busy made) =
      counted_session f frame frame.raised at (h.now.in_session.holds.raising f frame at)
      (ap (λ (r : Record). r.session) is ∙ ap (λ (u : Took). u.rec.session) (sym made))

  session_follows : (choice : Choice) (e : Event) → Steps s.now v choice e → Session s v
  session_follows choice e (rec_stays none is keeps) = session_stays (ap (λ (r : Record). r.session) is)
  session_follows choice e (rec_steps x t input ok is counts) =
      moved_session x t is (steps_move_frames s.now.rec x t ok)

-- ---- an event of the present run
module _ (s : Story) (h : Sound s) (choice : Choice) (e : Event) (v : World) (k : Goes s.now v h.mine choice e)
    (moves : Session s v) where
  raised_unsent : s.now.rec.session ≡ 0 → k.more ≡ []
  raised_unsent nil = none_sent k.more (λ m g. absurd ((k.of m g).1 nil))

  -- none was sent in the session that is raised
  fresh_log : s.now.rec.session ≡ 0 → v.rec.session ≢ 0 → ((x : Epoch) → Among s.past x → x.session < v.rec.session)
      → sent_in v.rec.session s.now.sent ≡ []
  fresh_log nil there above = in_none v.rec.session s.now.sent (λ m g is. none m g is (h.of_runs m g))
    where
      none : (m : Message) → WasSent s.now m → m.session ≡ v.rec.session → (x : Epoch) × Among (epochs s) x
          × (m.session ≡ x.session) × (x.session ≢ 0) → ⊥
      none m g is r = elim (which s h r.0 r.1) [
        | inl p ↦ (let lt : r.0.session < v.rec.session = above r.0 p in let a : m.session ≡ r.0.session = r.2 in
            let b : m.session ≡ v.rec.session = is in absurd (omega arith))
        | inr q ↦ r.3 (ap (λ (y : Epoch). y.session) q ∙ nil)
      ]

  log_stays : v.rec.session ≡ s.now.rec.session → sent_in v.rec.session v.sent
      ≡ sent_in s.now.rec.session s.now.sent ++ k.more
  log_stays same = ap (λ n. sent_in n v.sent) same
      ∙ (ap (sent_in s.now.rec.session) k.sent ∙ (in_append s.now.rec.session s.now.sent k.more
      ∙ ap (λ xs. sent_in s.now.rec.session s.now.sent ++ xs) (in_all s.now.rec.session k.more (λ m g. (k.of m g).0))))

  log_raised : s.now.rec.session ≡ 0 → v.rec.session ≢ 0
      → ((x : Epoch) → Among s.past x → x.session < v.rec.session) → sent_in v.rec.session v.sent
      ≡ sent_in s.now.rec.session s.now.sent ++ k.more
  log_raised nil there above =
      let none = raised_unsent nil in
      let empty : sent_in s.now.rec.session s.now.sent ≡ [] = in_none s.now.rec.session s.now.sent
      (λ m g is. unsent s h m g (is ∙ nil)) in
      ap (sent_in v.rec.session) k.sent
      ∙ (in_append v.rec.session s.now.sent k.more
      ∙ (ap (λ xs. xs ++ sent_in v.rec.session k.more) (fresh_log nil there above)
      ∙ (ap (sent_in v.rec.session) none ∙ (sym none ∙ ap (λ xs. xs ++ k.more) (sym empty)))))

  log : Session s v → sent_in v.rec.session v.sent ≡ sent_in s.now.rec.session s.now.sent ++ k.more
  log (session_stays same) = log_stays same
  log (session_raised nil there above) = log_raised nil there above

  above_now : Session s v → (x : Epoch) → Among s.past x → v.rec.session ≢ 0 → x.session < v.rec.session
  above_now (session_stays same) x g there = subst (λ n. x.session < n) (sym same) (h.above x g (λ z. there (same ∙ z)))
  above_now (session_raised nil there above) x g ne = above x g

  -- what is of the present session stays so
  of_now : Session s v → (n : ℕ) → n ≡ s.now.rec.session → n ≢ 0 → n ≡ v.rec.session
  of_now (session_stays same) n is there = is ∙ sym same
  of_now (session_raised nil raised above) n is there = absurd (there (is ∙ nil))

  abbrev later : List Epoch
  later = s.past ++ epoch_of v ∷ []

  old_run : (m : Message) → (r : (x : Epoch) × Among (epochs s) x × (m.session ≡ x.session) × (x.session ≢ 0))
      → (x : Epoch) × Among (s.past ++ epoch_of v ∷ []) x × (m.session ≡ x.session) × (x.session ≢ 0)
  old_run m r = elim (which s h r.0 r.1) [
    | inl p ↦ (r.0, among_old s.past (epoch_of v ∷ []) r.0 p, r.2, r.3)
    | inr q ↦ (let is : m.session ≡ s.now.rec.session = r.2 ∙ ap (λ (y : Epoch). y.session) q in
        let there : m.session ≢ 0 = (λ z. r.3 (sym r.2 ∙ z)) in
        let now : m.session ≡ v.rec.session = of_now moves m.session is there in
        (epoch_of v, among_new s.past (epoch_of v ∷ []) (epoch_of v) (inl refl), now, λ z. there (now ∙ z)))
  ]

  new_run : (m : Message) → Among (messages k.more) m → (x : Epoch) × Among (s.past ++ epoch_of v ∷ []) x
      × (m.session ≡ x.session) × (x.session ≢ 0)
  new_run m g =
      let of = k.of m g in
      let there : m.session ≢ 0 = (λ z. of.1 (sym of.0 ∙ z)) in
      let now : m.session ≡ v.rec.session = of_now moves m.session of.0 there in
      (epoch_of v, among_new s.past (epoch_of v ∷ []) (epoch_of v) (inl refl), now, λ z. there (now ∙ z))

  granted_now : (t : Taken) → Among v.taken t → IsHonest v.hostile t.inc → IsGrantedIn v s.now.rec.session t
  granted_now t a honest = elim (k.granted t a honest) [
    | inl o ↦ granted_grows s.now v k.more s.now.rec.session t k.sent (h.granted (epoch_of s.now) (here s h) t o.0 o.1)
    | inr new ↦ new
  ]

  granted_later : (t : Taken) → IsGrantedIn v s.now.rec.session t → IsGrantedIn v v.rec.session t
  granted_later t g = elim (eqb_tells s.now.rec.session 0) [
    | inl z ↦ absurd (unsent_later g z.1)
    | inr ne ↦ subst (λ n. IsGrantedIn v n t) (of_now moves s.now.rec.session refl ne.1) g
  ]
    where
      unsent_later : IsGrantedIn v s.now.rec.session t → s.now.rec.session ≡ 0 → ⊥
      unsent_later g nil =
          let was : WasSent v g.granted.message = placed_among (messages v.sent) g.granted.place g.granted.message
          g.granted.delivered in
          elim (sent_grows s.now v k.more k.sent g.granted.message was) [
            | inl o ↦ unsent s h g.granted.message o (g.in_session ∙ nil)
            | inr new ↦ (k.of g.granted.message new).1 nil
          ]

  granted_at : (x : Epoch) → Among (s.past ++ epoch_of v ∷ []) x → AreGranted v x
  granted_at =
      each_run (AreGranted v) s.past (epoch_of v)
      (λ x p t a honest. granted_grows s.now v k.more x.session t k.sent (h.granted x (old s h x p) t a honest))
      (λ t a honest. granted_later t (granted_now t a honest))

  pub goes_sound : (document : Option (List ℕ)) (kept : List (List ℕ)) → AreUnraised v.rec
      → (v.rec.session ≡ 0 → made_by s.now choice e h.mine ≡ [])
      → ((name : List ℕ) (file : File) → IsThere (made_by s.now choice e h.mine) name file
      → IsThere v.files name file × (is_kept name kept ≡ false))
      → ((name : List ℕ) (file : File) → IsThere v.files name file
      → IsFrom (record { now = v; past = s.past; document = document; kept = kept })
      (made_by s.now choice e h.mine) h.archive name file)
      → DocumentStands (record { now = v; past = s.past; document = document; kept = kept }) document
      → Sound (record { now = v; past = s.past; document = document; kept = kept })
  goes_sound document kept unraised none there from stands = record {
    mine = made_by s.now choice e h.mine;
    records = h.records;
    archive = h.archive;
    now = subst (λ xs. Holds (twin v (made_by s.now choice e h.mine) xs)) (sym (log moves)) k.holds;
    past = λ x g. elsewhere_past s.now v x (h.records x.session) (h.archive x.session) k.more k.numbers k.sent
        (λ m a same. other s h x g (sym same ∙ (k.of m a).0)) (h.past x g);
    rising = h.rising;
    above = above_now moves;
    unraised = unraised;
    none_made = none;
    of_runs = λ m a. elim (sent_grows s.now v k.more k.sent m a) [
      | inl o ↦ old_run m (h.of_runs m o)
      | inr n ↦
          new_run m n
    ];
    granted = granted_at;
    mine_there = there;
    files = from;
    document = stands;
  }

-- ---- all events of the present run
-- an event that makes no file
module _ (s : Story) (h : Sound s) (choice : Choice) (e : Event) (v : World) (k : Goes s.now v h.mine choice e)
    (moves : Session s v) (unraised : AreUnraised v.rec) (none : v.rec.session ≡ 0
    → made_by s.now choice e h.mine ≡ []) where
  pub quiet_sound : made_by s.now choice e h.mine ≡ h.mine → v.files ≡ s.now.files
      → DocumentStands (record s { now = v }) s.document → Sound (record s { now = v })
  quiet_sound mine files stands = goes_sound s h choice e v k moves s.document s.kept unraised none
      (λ name file g. (let p = h.mine_there name file (subst (λ fs. IsThere fs name file) mine g) in
      (subst (λ fs. IsThere fs name file) (sym files) p.0, p.1)))
      (λ name file g. subst (λ fs. IsFrom s fs h.archive name file) (sym mine)
      (h.files name file (subst (λ fs. IsThere fs name file) files g)))
      stands

  -- and one that makes the file of a frame
  pub made_sound : (f : ℕ) (frame : Frame) (document : Option (List ℕ)) → nth s.now.rec.frames f ≡ Some frame
      → ((fs : List File) → made_by s.now choice e fs ≡ put_committed choice.file (nth s.now.rec.frames f) fs)
      → DocumentStands (record {
        now = v;
        past = s.past;
        document = document;
        kept = kept_by (nth s.now.rec.frames f) s.kept;
      }) document
      → Sound (record { now = v; past = s.past; document = document; kept = kept_by (nth s.now.rec.frames f) s.kept })
  made_sound f frame document at shape stands =
      let name = made_name frame in
      let bytes = choice.file in
      let made : (fs : List File) → made_by s.now choice e fs ≡ put_file (made_name frame) choice.file fs =
      (λ fs. shape fs ∙ ap (λ x. put_committed choice.file x fs) at) in
      let without_it : kept_by (nth s.now.rec.frames f) s.kept ≡ without (made_name frame) s.kept =
      ap (λ x. kept_by x s.kept) at in
      let facts = files_made h.mine s.now.files s.kept s.past h.archive name bytes h.mine_there h.files in
      let there : MineThere (made_by s.now choice e h.mine) v.files (kept_by (nth s.now.rec.frames f) s.kept) =
      subst (λ fs. MineThere fs v.files (kept_by (nth s.now.rec.frames f) s.kept)) (sym (made h.mine))
      (subst (λ fs. MineThere (put_file name bytes h.mine) fs (kept_by (nth s.now.rec.frames f) s.kept))
      (sym (k.files ∙ made s.now.files))
      (subst (λ ns. MineThere (put_file name bytes h.mine) (put_file name bytes s.now.files) ns) (sym without_it)
      facts.0)) in
      let from : ComeFrom (made_by s.now choice e h.mine) v.files (kept_by (nth s.now.rec.frames f) s.kept) s.past
      h.archive =
      subst (λ fs. ComeFrom fs v.files (kept_by (nth s.now.rec.frames f) s.kept) s.past h.archive) (sym (made h.mine))
      (subst (λ fs. ComeFrom (put_file name bytes h.mine) fs (kept_by (nth s.now.rec.frames f) s.kept) s.past
      h.archive) (sym (k.files ∙ made s.now.files))
      (subst (λ ns. ComeFrom (put_file name bytes h.mine) (put_file name bytes s.now.files) ns s.past h.archive)
      (sym without_it) facts.1)) in
      goes_sound s h choice e v k moves document (kept_by (nth s.now.rec.frames f) s.kept) unraised none there from
      stands

-- ---- all of them
module _ (s : Story) (h : Sound s) (choice : Choice) (v : World) where
  -- what is known of each
  pub record Known (e : Event) : Type 0 where
    pub here : session_of s.now e ≡ s.now.rec.session
    pub ok : happened s.now choice e ≡ Ok v
    pub image : MayChoose s.now choice e
    pub begins : may_begin s e ≡ true

  went : (e : Event) → Known e → Goes s.now v h.mine choice e
  went e k = goes s.now h.mine choice e v h.now (images_make s.now choice e k.image) k.here k.ok

  stepped : (e : Event) → Known e → Steps s.now v choice e
  stepped e k = steps s.now choice e v k.ok

  unraised_now : (e : Event) → Known e → AreUnraised v.rec
  unraised_now e k = unraised_follows s.now v choice e h.unraised h.now.in_session.holds (stepped e k)

  none_now : (e : Event) → Known e → v.rec.session ≡ 0 → made_by s.now choice e h.mine ≡ []
  none_now e k = none_made_follows s.now v choice e h.mine h.none_made h.unraised h.now.in_session.holds (stepped e k)

  stands_now : (e : Event) → Known e → DocumentStands (followed s e v) (followed s e v).document
  stands_now e k =
      let f = h.now.files.filed in
      document_follows s choice e v
      (record {
        document = h.document;
        apart = f.names_apart;
        in_session = h.now.in_session.holds;
        aligned = f.aligned;
      })
      (stepped e k) (went e k).files (images_make s.now choice e k.image) k.image k.begins

  quiet : (e : Event) → Known e → ((fs : List File) → made_by s.now choice e fs ≡ fs)
      → followed s e v ≡ record s { now = v } → Sound (record s { now = v })
  quiet e k made same = quiet_sound s h choice e v (went e k) (session_follows s h v choice e (stepped e k))
      (unraised_now e k) (none_now e k)
      (made h.mine) ((went e k).files ∙ made s.now.files)
      (subst (λ (x : Story). DocumentStands x x.document) same (stands_now e k))

  commits : (e : Event) → Known e → (f : ℕ) → Counts s.now v f
      → ((fs : List File) → made_by s.now choice e fs ≡ put_committed choice.file (nth s.now.rec.frames f) fs)
      → DocumentStands (committed_by s f v) (committed_by s f v).document → Sound (committed_by s f v)
  commits e k f c shape stands = made_sound s h choice e v (went e k) (session_follows s h v choice e (stepped e k))
      (unraised_now e k) (none_now e k)
      f c.frame (document_by f (nth s.now.rec.frames f) s.document) c.at shape stands

  pub event_sound : (e : Event) → Known e → Sound (followed s e v)
  event_sound (event.Command c) k = quiet (event.Command c) k (λ fs. refl) refl
  event_sound (event.Deliver p) k = quiet (event.Deliver p) k (λ fs. refl) refl
  event_sound (event.Forge inc m) k = quiet (event.Forge inc m) k (λ fs. refl) refl
  event_sound (event.Crash session inc) k = quiet (event.Crash session inc) k (λ fs. refl) refl
  event_sound (event.Reap inc) k = quiet (event.Reap inc) k (λ fs. refl) refl
  event_sound (event.Done f) k =
      commits (event.Done f) k f (done_counts s.now v choice f (stepped (event.Done f) k)) (λ fs. refl)
      (stands_now (event.Done f) k)
  event_sound (event.Fail f) k = quiet (event.Fail f) k (λ fs. refl) refl
  event_sound (event.Resolve f true) k =
      commits (event.Resolve f true) k f (kept_counts s.now v choice f (stepped (event.Resolve f true) k))
      (λ fs. refl) (stands_now (event.Resolve f true) k)
  event_sound (event.Resolve f false) k = quiet (event.Resolve f false) k (λ fs. refl) refl
  event_sound (event.Open name width height) k = quiet (event.Open name width height) k (λ fs. refl) refl
  event_sound (event.Scribble session inc act) k = quiet (event.Scribble session inc act) k (λ fs. refl) refl
  event_sound (event.Ask session inc act) k = quiet (event.Ask session inc act) k (λ fs. refl) refl

-- ---- an event at a server of an earlier run
module _ (s : Story) (h : Sound s) (e : Epoch) (v : World) (g : Among s.past e)
    (found : find (is_session e.session) s.past ≡ Some e)
    (k : HasGoneOn s.now e v (h.records e.session) (h.archive e.session)) where
  abbrev after : Epoch
  after = record (epoch_of v) { session = e.session }

  abbrev now : World
  now = record s.now { stock = v.stock; sent = v.sent; answers = v.answers }

  abbrev past : List Epoch
  past = put (is_session e.session) (record (epoch_of v) { session = e.session }) s.past

  abbrev next : Story
  next = record s {
    now = record s.now { stock = v.stock; sent = v.sent; answers = v.answers };
    past = put (is_session e.session) (record (epoch_of v) { session = e.session }) s.past;
  }

  not_here : (m : Message) → Among (messages k.more) m → m.session ≢ s.now.rec.session
  not_here m a same = other s h e g (sym (k.of m a) ∙ same)

  held_after : HoldsPast now after (h.records e.session) (h.archive e.session)
  held_after = (let p = h.past e g in record {
    session = p.session;
    numbers = p.numbers;
    raised = p.raised;
    bears = subst (λ (y : World). CountsSession y.counted e.session) k.stays p.bears;
    holds = subst (λ xs. Holds (twin (record v { rec = h.records e.session }) (h.archive e.session) xs)) (sym log)
        k.holds;
  })
    where
      log : sent_in e.session v.sent ≡ sent_in e.session s.now.sent ++ k.more
      log = ap (sent_in e.session) k.sent
          ∙ (in_append e.session s.now.sent k.more ∙ ap (λ xs. sent_in e.session s.now.sent ++ xs)
          (in_all e.session k.more k.of))

  held_past : (x : Epoch) → Among past x → HoldsPast now x (h.records x.session) (h.archive x.session)
  held_past = put_each (λ x. HoldsPast now x (h.records x.session) (h.archive x.session)) e.session 0 after s.past
      h.rising held_after
      (λ x a apart. elsewhere_past s.now now x (h.records x.session) (h.archive x.session) k.more refl k.sent
      (λ m b same. apart (sym same ∙ k.of m b)) (h.past x a))

  -- a run stays, as far as its session goes
  still : (x : Epoch) → Among (epochs s) x → (y : Epoch) × Among (past ++ epoch_of now ∷ []) y × (y.session ≡ x.session)
  still x a = elim (which s h x a) [
    | inl p ↦ (let q = put_keeps e.session after s.past x refl p in
        (q.0, among_old past (epoch_of now ∷ []) q.0 q.1, q.2))
    | inr q ↦ (
      epoch_of now,
      among_new past (epoch_of now ∷ []) (epoch_of now) (inl refl),
      ap (λ (y : Epoch). y.session) (sym q),
    )
  ]

  -- and was one
  abbrev Was : Epoch → Type 0
  Was x = (y : Epoch) × Among (epochs s) y × (y.session ≡ x.session)

  was : (x : Epoch) → Among (past ++ epoch_of now ∷ []) x → Was x
  was = each_run Was past (epoch_of now)
      (put_each Was e.session 0 after s.past h.rising (e, old s h e g, refl) (λ x a apart. (x, old s h x a, refl)))
      (epoch_of s.now, here s h, refl)

  run_of : (m : Message) → WasSent now m → (x : Epoch) × Among (past ++ epoch_of now ∷ []) x
      × (m.session ≡ x.session) × (x.session ≢ 0)
  run_of m a = elim (sent_grows s.now now k.more k.sent m a) [
    | inl o ↦ (let r = h.of_runs m o in let y = still r.0 r.1 in (y.0, y.1, r.2 ∙ sym y.2, λ z. r.3 (sym y.2 ∙ z)))
    | inr n ↦ (
      after,
      among_old past (epoch_of now ∷ []) after (put_there e.session after s.past e found),
      k.of m n,
      (h.past e g).raised,
    )
  ]

  granted_in : (x : Epoch) → Among (epochs s) x → AreGranted now x
  granted_in x a t b honest = granted_grows s.now now k.more x.session t k.sent (h.granted x a t b honest)

  granted_after : AreGranted now after
  granted_after t b honest =
      granted_in e (old s h e g) t (subst (λ (y : World). Among y.taken t) (sym k.stays) b)
      (subst (λ (y : World). IsHonest y.hostile t.inc) (sym k.stays) honest)

  granted_past : (x : Epoch) → Among (past ++ epoch_of now ∷ []) x → AreGranted now x
  granted_past = each_run (AreGranted now) past (epoch_of now)
      (put_each (AreGranted now) e.session 0 after s.past h.rising granted_after
      (λ x a apart. granted_in x (old s h x a)))
      (granted_in (epoch_of s.now) (here s h))

  from_past : (name : List ℕ) (file : File) → IsOfRuns h.mine s.past h.archive name file
      → IsOfRuns h.mine past h.archive name file
  from_past name file (inl own) = inl own
  from_past name file (inr p) = (let q = put_keeps e.session after s.past p.0 refl p.1 in
      inr (q.0, q.1, subst (λ n. IsThere (h.archive n) name file) (sym q.2) p.2))

  from_still : (name : List ℕ) (file : File) → IsFrom s h.mine h.archive name file
      → IsFrom next h.mine h.archive name file
  from_still name file is =
      elim (is_kept name s.kept) as (λ b. cond b (IsSaved file) (IsOfRuns h.mine s.past h.archive name file)
      → cond b (IsSaved file) (IsOfRuns h.mine past h.archive name file)) [
        | true ↦ (λ x. x)
        | false ↦ from_past name file
      ] is

  none_past : s.past ≡ [] → past ≡ []
  none_past none = ap (put (is_session e.session) after) none

  stands_still : (d : Option (List ℕ)) → DocumentStands s d → DocumentStands next d
  stands_still None k = (none_past k.0, k.1)
  stands_still (Some name) k = record {
    bytes = k.bytes;
    file = k.file;
    saved = k.saved;
    is = k.is;
    above = λ x a. (let y = was x a in subst (λ n. n ≤ k.saved.session) y.2 (k.above y.0 y.1));
    framed = k.framed;
    raised = k.raised;
  }

  above_still : (x : Epoch) → Among past x → s.now.rec.session ≢ 0 → x.session < s.now.rec.session
  above_still x a there =
      put_each (λ y. y.session < s.now.rec.session) e.session 0 after s.past h.rising (h.above e g there)
      (λ y b apart. h.above y b there) x a

  pub earlier_sound : Sound next
  earlier_sound = record {
    mine = h.mine;
    records = h.records;
    archive = h.archive;
    now = elsewhere_now s.now now h.mine k.more refl k.sent not_here h.now;
    past = held_past;
    rising = put_rises e.session 0 after s.past refl h.rising;
    above = above_still;
    unraised = h.unraised;
    none_made = h.none_made;
    of_runs = run_of;
    granted = granted_past;
    mine_there = h.mine_there;
    files = λ name file a. from_still name file (h.files name file a);
    document = stands_still s.document h.document;
  }

-- ---- a stop
module _ (s : Story) (h : Sound s) (images : ℕ → List ℕ) (fs : List ℕ) (may : may_stop s.now.rec fs ≡ true)
    (are : (f : ℕ) → is_among fs f ≡ true → HoldsDocument s.now f (images f)) where
  abbrev rests : World
  rests = rested s.now images fs

  abbrev left : List Epoch
  left = past_by s.now s.past

  abbrev records : ℕ → Record
  records n = if n == s.now.rec.session then s.now.rec else h.records n

  abbrev archive : ℕ → List File
  archive n = if n == s.now.rec.session then h.mine else h.archive n

  -- what is left is what was, and the run that ends, if it had a session
  left_of : (e : Epoch) → Among (past_by s.now s.past) e → Among s.past e
      ⊎ ((s.now.rec.session ≢ 0) × (e ≡ epoch_of s.now))
  left_of e a = elim (eqb_tells s.now.rec.session 0) [
    | inl t ↦ inl (subst (λ b. Among (if b then s.past else s.past ++ epoch_of s.now ∷ []) e) t.0 a)
    | inr t ↦
        (elim (which s h e (subst (λ b. Among (if b then s.past else s.past ++ epoch_of s.now ∷ []) e) t.0 a)) [
          | inl
              p ↦ inl p
          | inr q ↦ inr (t.1, q)
        ])
  ]

  sent_same : rests.sent ≡ s.now.sent ++ []
  sent_same = sym (append-nil s.now.sent)

  held_old : (e : Epoch) → Among s.past e → HoldsPast rests e (records e.session) (archive e.session)
  held_old e g = elim (eqb_tells e.session s.now.rec.session) [
    | inl t ↦ absurd (other s h e g t.1)
    | inr t ↦ subst (λ b. HoldsPast rests e (if b then s.now.rec else h.records e.session)
        (if b then h.mine else h.archive e.session)) (sym t.0)
        (elsewhere_past s.now rests e (h.records e.session) (h.archive e.session) [] refl sent_same
        (λ m a. absurd a) (h.past e g))
  ]

  held_new : s.now.rec.session ≢ 0 → HoldsPast rests (epoch_of s.now) (records s.now.rec.session)
      (archive s.now.rec.session)
  held_new there = elim (eqb_tells s.now.rec.session s.now.rec.session) [
    | inl t ↦ subst (λ b. HoldsPast rests (epoch_of s.now) (if b then s.now.rec else h.records s.now.rec.session)
        (if b then h.mine else h.archive s.now.rec.session)) (sym t.0)
        (over s.now h.mine h.now there (bears_now s h there) rests refl refl)
    | inr t ↦ absurd (t.1 refl)
  ]

  held_left : (e : Epoch) → Among (past_by s.now s.past) e → HoldsPast rests e (records e.session) (archive e.session)
  held_left e a = elim (left_of e a) [
    | inl p ↦ held_old e p
    | inr q ↦ subst (λ (y : Epoch). HoldsPast rests y (records y.session) (archive y.session)) (sym q.1) (held_new q.0)
  ]

  rises : AreRising 0 (past_by s.now s.past)
  rises = elim (eqb_tells s.now.rec.session 0) [
    | inl t ↦ subst (λ b. AreRising 0 (if b then s.past else s.past ++ epoch_of s.now ∷ [])) (sym t.0) h.rising
    | inr t ↦ subst (λ b. AreRising 0 (if b then s.past else s.past ++ epoch_of s.now ∷ [])) (sym t.0)
        (rising_more 0 s.past (epoch_of s.now) h.rising (from_none s.now.rec.session t.1) (λ x g. h.above x g t.1))
  ]
    where
      from_none : (n : ℕ) → n ≢ 0 → 0 < n
      from_none zero ne = absurd (ne refl)
      from_none (suc n) ne = omega arith

  -- each run that raised a session is left
  is_left : (e : Epoch) → Among (epochs s) e → e.session ≢ 0 → Among (past_by s.now s.past) e
  is_left e a there = elim (which s h e a) [
    | inl p ↦ past_more s.now s.past e p
    | inr q ↦ subst (Among (past_by s.now s.past)) (sym q)
        (past_present s.now s.past (λ z. there (ap (λ (y : Epoch). y.session) q ∙ z)))
  ]

  was_known : (e : Epoch) → Among (past_by s.now s.past) e → Among (epochs s) e
  was_known e p = elim (left_of e p) [ inl o ↦ old s h e o | inr n ↦ subst (Among (epochs s)) (sym n.1) (here s h) ]

  granted_left : (e : Epoch) → Among (past_by s.now s.past ++ epoch_of rests ∷ []) e → AreGranted rests e
  granted_left = each_run (AreGranted rests) (past_by s.now s.past) (epoch_of rests)
      (λ x p t b honest. granted_grows s.now rests [] x.session t sent_same
      (h.granted x (was_known x p) t b honest)) (λ t b. absurd b)

  no_frame : {B : Type 0} (f : ℕ) (frame : Frame) → nth {A = Frame} [] f ≡ Some frame → B
  no_frame zero frame at = cc
  no_frame (suc i) frame at = cc

  pub stop_sound : Sound (stopped s images fs)
  stop_sound =
      let files = stop_files s.now fs images h.mine s.kept s.past h.archive may are h.none_made
      (λ e g. (h.past e g).raised) h.above h.files in
      record {
        mine = [];
        records = records;
        archive = archive;
        now = begun_held s.now (unsent s h);
        past = held_left;
        rising = rises;
        above = λ e a there. absurd (there refl);
        unraised = λ f frame at. no_frame f frame at;
        none_made = λ z. refl;
        of_runs = λ m a. (let r = h.of_runs m a in
            (r.0, among_old (past_by s.now s.past) (epoch_of rests ∷ []) r.0 (is_left r.0 r.1 r.3), r.2, r.3));
        granted = granted_left;
        mine_there = files.0;
        files = files.1;
        document = stop_document s fs images h.document h.now.files.filed.names_apart h.now.in_session.holds may are;
      }

-- ---- whatever happens
if_right : {A : Type 0} (b : Bool) (x : Result A Stop) (stop : Stop) (y : A) → (if b then x else Err stop) ≡ Ok y
    → (b ≡ true) × (x ≡ Ok y)
if_right true x stop y e = (refl, e)
if_right false x stop y e = cc

followed_is : (s : Story) (e : Event) (r : Result World Stop) (next : Story) → follow s e r ≡ Ok next
    → (v : World) × (r ≡ Ok v) × (followed s e v ≡ next)
followed_is s e (Err stop) next q = cc
followed_is s e (Ok v) next q = (v, refl, (let same : followed s e v ≡ next = cc in same))

present_sound : (s : Story) (choice : Choice) (e : Event) (next : Story) → Sound s → MayChoose s.now choice e
    → session_of s.now e ≡ s.now.rec.session → present s choice e ≡ Ok next → Sound next
present_sound s choice e next h im here ok =
    let b = if_right (may_begin s e) (follow s e (happened s.now choice e)) NotEnabled next ok in
    let f = followed_is s e (happened s.now choice e) next b.1 in
    subst Sound f.2 (event_sound s h choice f.0 e (record { here = here; ok = f.1; image = im; begins = b.0 }))

left_is : (s : Story) (e : Epoch) (v : World) (after : Story) → left_by s e (Ok v) ≡ Ok after
    → record s {
      now = record s.now { stock = v.stock; sent = v.sent; answers = v.answers };
      past = put (is_session e.session) (record (epoch_of v) { session = e.session }) s.past;
    } ≡ after
left_is s e v after q = cc

none_left : (s : Story) (e : Epoch) (stop : Stop) (after : Story) → left_by s e (Err stop) ≡ Ok after → ⊥
none_left s e stop after q = cc

none_earlier : (s : Story) (e : Event) (after : Story) → earlier s e None ≡ Ok after → ⊥
none_earlier s e after q = cc

earlier_done : (s : Story) (h : Sound s) (x : Epoch) (v : World) (after : Story) → Among s.past x
    → find (is_session x.session) s.past ≡ Some x
    → HasGoneOn s.now x v (h.records x.session) (h.archive x.session) → left_by s x (Ok v) ≡ Ok after → Sound after
earlier_done s h x v after a there k q = subst Sound (left_is s x v after q) (earlier_sound s h x v a there k)

earlier_went : (s : Story) (h : Sound s) (x : Epoch) (r : Result World Stop) (after : Story) → Among s.past x
    → find (is_session x.session) s.past ≡ Some x
    → ((v : World) → r ≡ Ok v → HasGoneOn s.now x v (h.records x.session) (h.archive x.session))
    → left_by s x r ≡ Ok after → Sound after
earlier_went s h x (Err stop) after a there k q = absurd (none_left s x stop after q)
earlier_went s h x (Ok v) after a there k q = earlier_done s h x v after a there (k v refl) q

earlier_at : (s : Story) (e : Event) (n : ℕ) (x : Option Epoch) (after : Story) → Sound s → n ≡ session_of s.now e
    → n ≢ s.now.rec.session → find (is_session n) s.past ≡ x → earlier s e x ≡ Ok after → Sound after
earlier_at s e n None after h is apart f ok = absurd (none_earlier s e after ok)
earlier_at s e n (Some x) after h is apart f ok =
    let p = found_session n s.past x f in
    let held = h.past x p.0 in
    earlier_went s h x (goes_on (as_of s.now x) e) after p.0
    (subst (λ m. find (is_session m) s.past ≡ Some x) (sym p.1) f)
    (λ v g. goes_on_held s.now x e (h.records x.session) (h.archive x.session) v held.session held.holds
    (sym is ∙ sym p.1) (λ z. apart (sym p.1 ∙ z)) g) ok

moment_sound : (s : Story) (choice : Chosen) (m : Moment) (next : Story) → Sound s → MayChooseAt s choice m
    → passed s choice m ≡ Ok next → Sound next
moment_sound s choice (moment.Event e) next h im ok = elim (eqb_tells (session_of s.now e) s.now.rec.session) [
  | inl t ↦ present_sound s choice.here e next h im t.1
      (subst (λ b. (if b then present s choice.here e
      else earlier s e (find (is_session (session_of s.now e)) s.past)) ≡ Ok next) t.0 ok)
  | inr t ↦ earlier_at s e (session_of s.now e) (find (is_session (session_of s.now e)) s.past) next h refl t.1 refl
      (subst (λ b. (if b then present s choice.here e
      else earlier s e (find (is_session (session_of s.now e)) s.past)) ≡ Ok next) t.0 ok)
]
moment_sound s choice (moment.Stop fs) next h im ok =
    let b = if_right (may_stop s.now.rec fs) (Ok (stopped s choice.images fs)) NotEnabled next ok in
    let to : stopped s choice.images fs ≡ next = (let q = b.1 in cc) in
    subst Sound to (stop_sound s h choice.images fs b.0 im)

within_ok : (s : Story) (r : Result Story Stop) (next : Story) → within s r ≡ Ok next → r ≡ Ok next
within_ok s (Err stop) next e = cc
within_ok s (Ok after) next e =
    elim (nat_le MOST_EVENTS (length s.now.answers)) as (λ b. (if b then Err EventLimit else Ok after) ≡ Ok next
    → ◌≡◌ {A = Result Story Stop} (Ok after) (Ok next)) [ true ↦ (λ g. cc) | false ↦ (λ g. g) ] e

pub sound_told : (s : Story) (ms : List Moment) (end : Story) → Sound s → Tells s ms end → Sound end
sound_told s [] end h t = subst Sound (sym t) h
sound_told s (m ∷ ms) end h t = sound_told t.1 ms end
    (moment_sound s t.0 m t.1 h t.2 (within_ok s (passed s t.0 m) t.1 t.3)) t.4

pub empty_sound : (numbers : ℕ) (stock : List Kind) → Sound (empty_story numbers stock)
empty_sound numbers stock = record {
  mine = [];
  records = λ n. empty numbers;
  archive = λ n. [];
  now = (let h = empty_held numbers stock in
      record {
        in_session = h.in_session;
        agrees = h.agrees;
        files = h.files;
        numbers = h.numbers;
        taken_held = λ t a. absurd a;
      });
  past = λ e g. absurd g;
  rising = tt;
  above = λ e g. absurd g;
  unraised = λ f frame at. none f frame at;
  none_made = λ z. refl;
  of_runs = λ m a. absurd a;
  granted = granted_none;
  mine_there = λ name file a. cc;
  files = λ name file a. cc;
  document = (refl, refl);
}
  where
    none : {B : Type 0} (f : ℕ) (frame : Frame) → nth {A = Frame} [] f ≡ Some frame → B
    none zero frame at = cc
    none (suc i) frame at = cc

    granted_none : (e : Epoch) → Among (epochs (empty_story numbers stock)) e
        → AreGranted (empty_story numbers stock).now e
    granted_none = each_run (AreGranted (empty_story numbers stock).now) []
        (epoch_of (empty_story numbers stock).now) (λ x g. absurd g) (λ t a. absurd a)
