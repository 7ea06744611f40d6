-- What every story keeps makes it safe.
use Rattle.std.proofs.Common.{◌≡◌, ◌≢◌, ◌≤◌, ◌==◌, ℕ, zero, suc, true, false, List, Option, Some, None, refl, sym, ap}
use Rattle.std.proofs.Common.{◌∙◌, subst, inl, inr, arith, cond, if◌then◌else◌}
use Rattle.std.proofs.lemmas.Bool.Decides.{eqb_tells}
use Rattle.message_values.specs.Found.{find, nth}
use Rattle.message_values.specs.declared.message.Message.{Message}
use Rattle.message_values.specs.declared.message.Said.{Said}
use Rattle.message_values.specs.declared.message.Said.TheVariants.{Call, Reply, Write, Ask}
use Rattle.message_values.specs.declared.answer.Answer.{Answer}
use Rattle.container_laws.specs.OpenLaws.{IsFileOf}
use Rattle.container_laws.proofs.OpensLaws.{files-give_theirs}
use Rattle.container_model.specs.Opens.{Given, IsReadAs}
use Rattle.container_model.specs.declared.record.Frame.{Frame}
use Rattle.server_model.specs.Server.{Activation}
use Rattle.world_facts.specs.Words.{life_at, lives_of}
use Rattle.world_files.proofs.InTurn.{last_is}
use Rattle.world_model.specs.declared.life.Life.{Life}
use Rattle.world_model.specs.declared.logs.Document.{Document}
use Rattle.world_model.specs.declared.logs.File.{File}
use Rattle.world_model.specs.Safe.{Among, Commit, GivesCommit, IsWithin, WasSent, act_at, acts_of, sayings}
use Rattle.world_model.specs.World.{Instance, World, document_in, file_bytes, in_session, is_file}
use Rattle.world_safety.specs.Holding.{Holds}
use Rattle.world_safety.proofs.Events.{said_in_log}
use Rattle.world_safety.proofs.Held.{safe_held}
use Rattle.world_model.specs.SafeStory.{Gives, GivesCounted, GivesSaved, HasSession, IsOfRun, IsOfServer, IsRaised}
use Rattle.world_model.specs.SafeStory.{SafeNow, SafeRun, SafeStory, is_kept}
use Rattle.world_model.specs.Story.{Epoch, Story, epoch_of, epochs}
use Rattle.world_stories.specs.Holding.{CountsSession, DocumentStands, IsFrom, IsOfRuns, IsSaved, IsThere, Sound}
use Rattle.world_stories.specs.Holding.{mirror, mirror_of, sent_in}
use Rattle.world_stories.proofs.Laws.{earlier_stays, forged_stays}
use Rattle.world_stories.proofs.Members.{among_in}
use Rattle.world_stories.proofs.SafeRuns.{now_safe, past_commits, past_each, run_safe}
use Rattle.world_stories.proofs.Sounding.{bears_now, here, old, other, which}
use Rattle.world_stories.proofs.Stopping.{is_stopped}

from_one : (n : ℕ) → n ≢ 0 → 1 ≤ n
from_one zero g = absurd (g refl)
from_one (suc k) g = omega arith

module _ (s : Story) (h : Sound s) where
  abbrev commits_now : List Commit
  commits_now = (safe_held (mirror s.now h.mine) h.now).commits

  abbrev earlier_commits : ℕ → List Commit
  earlier_commits n = past_commits s.now h.records h.archive s.past h.past n

  abbrev commits : ℕ → List Commit
  commits n = if n == s.now.rec.session then (safe_held (mirror s.now h.mine) h.now).commits
      else past_commits s.now h.records h.archive s.past h.past n

  commits_here : (safe_held (mirror s.now h.mine) h.now).commits ≡ commits s.now.rec.session
  commits_here = elim (eqb_tells s.now.rec.session s.now.rec.session) [
    | inl t ↦ subst (λ b. commits_now ≡ (if b then commits_now else earlier_commits s.now.rec.session)) (sym t.0) refl
    | inr t ↦ absurd (t.1 refl)
  ]

  commits_there : (e : Epoch) → Among s.past e → past_commits s.now h.records h.archive s.past h.past e.session
      ≡ commits e.session
  commits_there e g = elim (eqb_tells e.session s.now.rec.session) [
    | inl t ↦ absurd (other s h e g t.1)
    | inr t ↦ subst (λ b. earlier_commits e.session ≡ (if b then commits_now else earlier_commits e.session))
        (sym t.0) refl
  ]

  run_here : SafeRun s.now (epoch_of s.now) commits_now
  run_here = run_safe s.now (epoch_of s.now) s.now.rec h.mine refl h.now (h.granted (epoch_of s.now) (here s h))

  run_there : (e : Epoch) → Among s.past e → SafeRun s.now e (earlier_commits e.session)
  run_there e g = past_each s.now h.records h.archive 0 s.past h.past h.rising (λ x cs. SafeRun s.now x cs)
      (λ x k. run_safe s.now x (h.records x.session) (h.archive x.session) (h.past x k).session (h.past x k).holds
      (h.granted x (old s h x k))) e g

  run : (e : Epoch) → Among (epochs s) e → SafeRun s.now e (commits e.session)
  run e g = elim (which s h e g) [
    | inl k ↦ subst (SafeRun s.now e) (commits_there e k) (run_there e k)
    | inr q ↦ subst (λ (x : Epoch). SafeRun s.now x (commits x.session)) (sym q)
        (subst (SafeRun s.now (epoch_of s.now)) commits_here run_here)
  ]

  -- numbers of messages
  within_past : (e : Epoch) → Among s.past e → (m : Message) → m.session ≡ e.session → WasSent s.now m
      → IsWithin s.now.rec.numbers m
  within_past e g m is a =
      (let k = h.past e g in subst (λ n. IsWithin n m) k.numbers
      (k.holds.numbers.sent m (among_in e.session s.now.sent m is a)))

  within : (m : Message) → WasSent s.now m → IsWithin s.now.rec.numbers m
  within m a = (let r = h.of_runs m a in elim (which s h r.0 r.1) [
    | inl k ↦ within_past r.0 k m r.2 a
    | inr q ↦ h.now.numbers.sent m (among_in s.now.rec.session s.now.sent m (r.2 ∙ ap (λ (x : Epoch). x.session) q) a)
  ])

  -- one answer of a call
  reply_past : (e : Epoch) → Among s.past e → (session inc act n : ℕ) (r q : Answer) → session ≡ e.session
      → WasSent s.now (in_session session (Reply inc act n r))
      → WasSent s.now (in_session session (Reply inc act n q)) → r ≡ q
  reply_past e g session inc act n r q is a b =
      let log = sent_in e.session s.now.sent in
      (h.past e g).holds.agrees.facts.replies.one_reply inc act n r q
      (said_in_log log (in_session session (Reply inc act n r))
      (among_in e.session s.now.sent (in_session session (Reply inc act n r)) is a))
      (said_in_log log (in_session session (Reply inc act n q))
      (among_in e.session s.now.sent (in_session session (Reply inc act n q)) is b))

  reply_now : (session inc act n : ℕ) (r q : Answer) → session ≡ s.now.rec.session
      → WasSent s.now (in_session session (Reply inc act n r))
      → WasSent s.now (in_session session (Reply inc act n q)) → r ≡ q
  reply_now session inc act n r q is a b =
      let log = sent_in s.now.rec.session s.now.sent in
      h.now.agrees.facts.replies.one_reply inc act n r q
      (said_in_log log (in_session session (Reply inc act n r))
      (among_in s.now.rec.session s.now.sent (in_session session (Reply inc act n r)) is a))
      (said_in_log log (in_session session (Reply inc act n q))
      (among_in s.now.rec.session s.now.sent (in_session session (Reply inc act n q)) is b))

  one : (session inc act n : ℕ) (r q : Answer) → WasSent s.now (in_session session (Reply inc act n r))
      → WasSent s.now (in_session session (Reply inc act n q)) → r ≡ q
  one session inc act n r q a b = (let k = h.of_runs (in_session session (Reply inc act n r)) a in
      elim (which s h k.0 k.1) [
        | inl g ↦ reply_past k.0 g session inc act n r q k.2 a b
        | inr e ↦ reply_now session inc act n r q (k.2 ∙ ap (λ (x : Epoch). x.session) e) a b
      ])

  -- ---- what files give
  given_saved : (file : File) (given : Given) → IsSaved file → IsReadAs (Some file.bytes) given → GivesSaved given
  given_saved file given k read =
      let of : IsFileOf file.bytes k.0 = record { denotes = k.1.denotes; holds = k.1.holds } in
      subst GivesSaved (sym (files-give_theirs file.bytes k.0 given of read)) (k.0, refl)

  given_here : (name : List ℕ) (file : File) (given : Given) → IsThere h.mine name file
      → IsReadAs (Some file.bytes) given → GivesCounted s commits given
  given_here name file given there read = (
    epoch_of s.now,
    here s h,
    subst (λ cs. GivesCommit cs given) commits_here
        ((safe_held (mirror s.now h.mine) h.now).opened name given
        (subst (λ (x : Option File). IsReadAs (file_bytes x) given) (sym there) read)),
  )

  given_there : (name : List ℕ) (file : File) (given : Given) (e : Epoch) → Among s.past e
      → IsThere (h.archive e.session) name file → IsReadAs (Some file.bytes) given → GivesCounted s commits given
  given_there name file given e g there read = (
    e,
    old s h e g,
    subst (λ cs. GivesCommit cs given) (commits_there e g)
        (past_each s.now h.records h.archive 0 s.past h.past h.rising
        (λ x cs. IsThere (h.archive x.session) name file → GivesCommit cs given)
        (λ x k at. (safe_held (mirror_of s.now x (h.records x.session) (h.archive x.session))
        (h.past x k).holds).opened name given
        (subst (λ (y : Option File). IsReadAs (file_bytes y) given) (sym at) read)) e g there),
  )

  given_counted : (name : List ℕ) (file : File) (given : Given) → IsOfRuns h.mine s.past h.archive name file
      → IsReadAs (Some file.bytes) given
      → GivesCounted s commits given
  given_counted name file given (inl there) read = given_here name file given there read
  given_counted name file given (inr k) read = given_there name file given k.0 k.1 k.2 read

  given_file : (name : List ℕ) (file : File) (given : Given) → IsFrom s h.mine h.archive name file
      → IsReadAs (Some file.bytes) given → Gives s commits name given
  given_file name file given from read =
      elim (is_kept name s.kept) as (λ b. cond b (IsSaved file) (IsOfRuns h.mine s.past h.archive name file)
      → cond b (GivesSaved given) (GivesCounted s commits given)) [
        | true ↦ (λ k. given_saved file given k read)
        | false ↦ (λ k. given_counted name file given k read)
      ] from

  given_none : (name : List ℕ) → Gives s commits name Given.Missing
  given_none name = elim (is_kept name s.kept) as (λ b. cond b (GivesSaved Given.Missing)
      (GivesCounted s commits Given.Missing))
      [ true ↦ tt | false ↦ (epoch_of s.now, here s h, tt) ]

  given : (name : List ℕ) (x : Option File) (told : Given) → find (is_file name) s.now.files ≡ x
      → IsReadAs (file_bytes x) told → Gives s commits name told
  given name None Given.Missing f read = given_none name
  given name None Given.Broken f read = absurd read
  given name None (Given.Holding d) f read = absurd read
  given name (Some file) told f read = given_file name file told (h.files name file f) read

  -- ---- messages, by their runs
  instance_there : (is : List Instance) (inc : ℕ) (life : Life) → lives_of is inc ≡ Some life → (i : Instance)
      × (nth is inc ≡ Some i)
  instance_there is inc life e = at (nth is inc) refl e
    where
      at : (found : Option Instance) → nth is inc ≡ found → life_at found ≡ Some life → (i : Instance)
          × (nth is inc ≡ Some i)
      at None f g = cc
      at (Some i) f g = (i, f)

  acting_there : (is : List Instance) (inc act : ℕ) (a : Activation) → acts_of is inc act ≡ Some a
      → (i : Instance) × (nth is inc ≡ Some i)
  acting_there is inc act a e = at (nth is inc) refl e
    where
      at : (found : Option Instance) → nth is inc ≡ found → act_at act found ≡ Some a → (i : Instance)
          × (nth is inc ≡ Some i)
      at None f g = cc
      at (Some i) f g = (i, f)

  -- a run by itself has the servers of its calls and replies
  of_server : (w : World) → Holds w → (x : Said) → Among (sayings w.sent) x → IsOfServer w.instances x
  of_server w k (Call inc act n op) a = (let p = k.agrees.facts.drawn.calls_told inc act n op a in
      instance_there w.instances inc p.0 p.1)
  of_server w k (Reply inc act n answer) a = (let p = k.agrees.facts.replies.replies_kept inc act n answer a in
      acting_there w.instances inc act p.0 p.1)
  of_server w k (Write inc act g number content) a = tt
  of_server w k (Ask inc act g) a = tt

  server_of_run : (e : Epoch) → Among (epochs s) e → (m : Message) → m.session ≡ e.session → WasSent s.now m
      → IsOfServer e.instances m.said
  server_of_run e g m is a = elim (which s h e g) [
    | inl k ↦ of_server (mirror_of s.now e (h.records e.session) (h.archive e.session)) (h.past e k).holds m.said
        (said_in_log (sent_in e.session s.now.sent) m (among_in e.session s.now.sent m is a))
    | inr q ↦ subst (λ (x : Epoch). IsOfServer x.instances m.said) (sym q) (of_server (mirror s.now h.mine) h.now m.said
        (said_in_log (sent_in s.now.rec.session s.now.sent) m
        (among_in s.now.rec.session s.now.sent m (is ∙ ap (λ (x : Epoch). x.session) q) a)))
  ]

  run_of : (m : Message) → WasSent s.now m → IsOfRun s m
  run_of m a = (let r = h.of_runs m a in record {
    run = r.0;
    known = r.1;
    session = r.2;
    raised = subst (λ n. 1 ≤ n) (sym r.2) (from_one r.0.session r.3);
    server = server_of_run r.0 r.1 m r.2 a;
  })

  -- ---- the commit that raised a session
  bears : (e : Epoch) → Among (epochs s) e → e.session ≢ 0 → CountsSession e.counted e.session
  bears e g there = elim (which s h e g) [
    | inl k ↦ (h.past e k).bears
    | inr q ↦ subst (λ (x : Epoch). CountsSession x.counted x.session) (sym q)
        (bears_now s h (λ z. there (ap (λ (x : Epoch). x.session) q ∙ z)))
  ]

  raised_by : (e : Epoch) → Among (epochs s) e → 1 ≤ e.session → IsRaised (commits e.session) e.session
  raised_by e g from =
      let b = bears e g (λ z. absurd (omega arith)) in
      let c = last_is 1 (commits e.session) b.document (sym ((run e g).last 1) ∙ ap document_in b.first) in
      record { commit = c.0; counted = c.1; first = c.2; bears = ap (λ (d : Document). d.session) c.3 ∙ b.bears }

  -- ---- the session document
  document_at : (d : Option (List ℕ)) → s.document ≡ d → DocumentStands s d → (e : Epoch) → Among (epochs s) e
      → 1 ≤ e.session → HasSession s e.session
  document_at None is k e g from = elim (which s h e g) [
    | inl p ↦ absurd (subst (λ es. Among es e) k.0 p)
    | inr q ↦ (let zero : e.session ≡ 0 = ap (λ (x : Epoch). x.session) q ∙ k.1 in absurd (omega arith))
  ]
  document_at (Some name) is k e g from = record {
    name = name;
    named = is;
    bytes = k.bytes;
    file = k.file;
    saved = k.saved;
    is = k.is;
    above = k.above e g;
  }

  first_at : (d : Option (List ℕ)) (frame : Frame) (name : List ℕ) → DocumentStands s d
      → nth s.now.rec.frames 1 ≡ Some frame → d ≡ Some name → frame.name ≡ name
  first_at None frame name k at is = cc
  first_at (Some other) frame name k at is = (let same : other ≡ name = cc in (k.framed frame at).0 ∙ same)

  pub safe_sound : SafeStory s
  safe_sound = record {
    rising = h.rising;
    above = h.above;
    of_runs = run_of;
    numbered = within;
    one_reply = one;
    commits = commits;
    runs = run;
    now = subst (SafeNow s.now) commits_here (now_safe s.now h.mine (λ name file g. (h.mine_there name file g).0)
        h.now);
    opened = λ name told read. given name (find (is_file name) s.now.files) told refl read;
    raised = raised_by;
    fresh = document_at s.document refl h.document;
    first = λ frame name at is. first_at s.document frame name h.document at is;
    earlier = earlier_stays s;
    forged = forged_stays s;
    stopped = λ fs choice next im ok. is_stopped s fs choice next h.now.files.filed.names_apart im ok;
  }
