-- Each run of a story is safe, since by itself it is a world of one run.
use Rattle.std.proofs.Common.{◌≡◌, ◌<◌, ◌==◌, ℕ, true, false, List, [], ◌∷◌, Option, Some, None, refl, sym, ap, ◌∙◌}
use Rattle.std.proofs.Common.{subst, inl, inr, arith, if◌then◌else◌}
use Rattle.std.proofs.lemmas.Bool.Decides.{eqb_tells}
use Rattle.message_values.specs.Found.{find, nth}
use Rattle.message_values.specs.declared.message.Message.{Message}
use Rattle.message_values.specs.declared.message.Said.TheVariants.{Reply}
use Rattle.container_model.specs.Record.{Record, is_doubtful}
use Rattle.container_model.specs.declared.record.Frame.{Frame}
use Rattle.world_model.specs.declared.logs.Document.{Document}
use Rattle.world_model.specs.declared.logs.File.{File}
use Rattle.world_model.specs.declared.logs.ServerDone.{ServerDone}
use Rattle.world_model.specs.declared.logs.Taken.{Taken}
use Rattle.world_model.specs.Safe.{Among, Commit, HoldsFrame, IsHolder, IsHonest, IsKept, IsShared, Safe, WasSent}
use Rattle.world_model.specs.World.{World, file_bytes, file_of, frame_file_in, in_session, is_file}
use Rattle.world_safety.specs.Holding.{Holds}
use Rattle.world_safety.proofs.Events.{said_in_log}
use Rattle.world_safety.proofs.Held.{safe_held}
use Rattle.world_safety.proofs.Once.{called_same}
use Rattle.world_model.specs.SafeStory.{AreRising, IsCommitted, IsGrantedIn, SafeNow, SafeRun}
use Rattle.world_model.specs.Story.{Epoch, as_of}
use Rattle.world_stories.specs.Holding.{HoldsPast, IsThere, mirror, mirror_of, sent_in}
use Rattle.world_stories.proofs.Members.{among_in, in_among}

-- ---- one run, with the record and the files that it has by itself
module _ (w : World) (e : Epoch) (rec : Record) (files : List File) (of : rec.session ≡ e.session)
    (h : Holds (mirror_of w e rec files)) where
  abbrev own : World
  own = mirror_of w e rec files

  abbrev safe : Safe (mirror_of w e rec files)
  safe = safe_held own h

  abbrev pub commits : List Commit
  commits = (safe_held (mirror_of w e rec files) h).commits

  -- what was sent in its session
  sent_own : (m : Message) → m.session ≡ e.session → WasSent w m → WasSent (mirror_of w e rec files) m
  sent_own m is g = among_in e.session w.sent m is g

  committed_in : (d : ServerDone) → IsShared (mirror_of w e rec files)
      (safe_held (mirror_of w e rec files) h).commits d
      → IsCommitted (safe_held (mirror_of w e rec files) h).commits d
  committed_in d s = record { commit = s.commit; counted = s.counted; part = s.part; holds = s.holds; same = s.same }

  pub run_safe : ((t : Taken) → Among e.taken t → IsHonest e.hostile t.inc → IsGrantedIn w e.session t)
      → SafeRun w e (safe_held (mirror_of w e rec files) h).commits
  run_safe granted = record {
    servers = λ inc i at. (let k = safe.servers inc i at in (k.0 ∙ of, k.1));
    acts_once = λ inc act n op r next sent is.
        (let k = h.agrees.facts.replies.replies_kept inc act n r
        (said_in_log (sent_in e.session w.sent) (in_session e.session (Reply inc act n r))
        (sent_own (in_session e.session (Reply inc act n r)) refl sent)) in
        called_same (as_of w e) e.session inc act n op (nth e.instances inc) k.0 refl k.1 k.2 next is);
    kept_reply = λ inc act a r known sent. safe.kept_reply inc act a r known
        (subst (λ s. WasSent own (in_session s (Reply inc act a.last r))) (sym of)
        (sent_own (in_session e.session (Reply inc act a.last r)) refl sent));
    writes = granted;
    container_once = safe.container_once;
    server_once = safe.server_once;
    agreed = safe.agreed;
    entries = safe.counted.entries;
    last = safe.counted.last;
    in_turn = safe.counted.in_turn;
    shared = λ d g honest. committed_in d (safe.shared d g honest);
  }

-- ---- the present one
module _ (w : World) (mine : List File) (there : (name : List ℕ) (file : File) → IsThere mine name file
    → IsThere w.files name file) (h : Holds (mirror w mine)) where
  abbrev safe_now : Safe (mirror w mine)
  safe_now = safe_held (mirror w mine) h

  file_there : (name bytes : List ℕ) → file_of (mirror w mine) name ≡ Some bytes → file_of w name ≡ Some bytes
  file_there name bytes e = at (find (is_file name) mine) refl e
    where
      at : (x : Option File) → find (is_file name) mine ≡ x → file_bytes x ≡ Some bytes → file_of w name ≡ Some bytes
      at None f g = cc
      at (Some file) f g = ap file_bytes (there name file f) ∙ g

  framed_there : (frame : Option Frame) (bytes : List ℕ) → frame_file_in (mirror w mine) frame ≡ Some bytes
      → frame_file_in w frame ≡ Some bytes
  framed_there None bytes e = cc
  framed_there (Some frame) bytes e =
      elim (is_doubtful frame.phase) as (λ b. (if b then None else if frame.stored
      then file_of (mirror w mine) frame.name else None) ≡ Some bytes
      → (if b then None else if frame.stored then file_of w frame.name else None) ≡ Some bytes) [
        | true ↦ (λ g. g)
        | false ↦ elim frame.stored as (λ b. (if b then file_of (mirror w mine) frame.name else None) ≡ Some bytes
            → (if b then file_of w frame.name else None) ≡ Some bytes) [
              | true ↦ (λ g. file_there frame.name bytes g)
              | false ↦ (λ g. g)
            ]
      ] e

  holds_frame : (inc act g f : ℕ) → HoldsFrame w inc act g f → HoldsFrame (mirror w mine) inc act g f
  holds_frame inc act g f x = record {
    instance = x.instance;
    hosted = x.hosted;
    runs = x.runs;
    activation = x.activation;
    known = x.known;
    has_grant = x.has_grant;
    object = x.object;
    owned = x.owned;
    inside = x.inside;
  }

  was_sent : (m : Message) → WasSent (mirror w mine) m → WasSent w m
  was_sent m g = in_among w.rec.session w.sent m g

  holder_there : (inc act g f : ℕ) → IsHolder (mirror w mine) inc act g f → IsHolder w inc act g f
  holder_there inc act g f x = record {
    frame = x.frame;
    there = x.there;
    named = x.named;
    unwaiting = x.unwaiting;
    told = λ holder tools e. (let t = x.told holder tools e in
        record { n = t.n; called = was_sent _ t.called; replied = was_sent _ t.replied });
  }

  shared_there : (d : ServerDone) → IsShared (mirror w mine) (safe_held (mirror w mine) h).commits d
      → IsShared w (safe_held (mirror w mine) h).commits d
  shared_there d s = record {
    commit = s.commit;
    counted = s.counted;
    part = s.part;
    holds = s.holds;
    same = s.same;
    denoted = λ frame document at sure c number. (let t = s.denoted frame document at sure c number in
        (t.0, framed_there (nth w.rec.frames s.commit.frame) t.0 t.1, t.2));
  }

  kept_there : (f : ℕ) (document : Document) → IsKept (mirror w mine) f document → IsKept w f document
  kept_there f document k = record {
    bytes = k.bytes;
    file = framed_there (nth w.rec.frames f) k.bytes k.file;
    denotes = k.denotes;
    counted = k.counted;
    again = k.again;
  }

  pub now_safe : SafeNow w (safe_held (mirror w mine) h).commits
  now_safe = record {
    answered = safe_now.answered;
    one_holder = λ f inc act g inc' act' g' honest honest' x y. safe_now.one_holder f inc act g inc' act' g' honest
        honest' (holds_frame inc act g f x) (holds_frame inc' act' g' f y);
    holder = λ f inc act g honest x. holder_there inc act g f
        (safe_now.holder f inc act g honest (holds_frame inc act g f x));
    counted = (let c = safe_now.counted in record {
      entries = c.entries;
      last = c.last;
      placed = c.placed;
      in_turn = c.in_turn;
      owned = c.owned;
    });
    shared = λ d g honest. shared_there d (safe_now.shared d g honest);
    files = λ f frame document at sure c. kept_there f document (safe_now.files f frame document at sure c);
  }

-- ---- the commits of the earlier ones, by session
abbrev pub Held : World → (ℕ → Record) → (ℕ → List File) → List Epoch → Type 0
Held w records archive es = (e : Epoch) → Among es e → HoldsPast w e (records e.session) (archive e.session)

abbrev pub past_commits : (w : World) (records : ℕ → Record) (archive : ℕ → List File) (es : List Epoch)
    → Held w records archive es → ℕ → List Commit
past_commits w records archive [] h n = []
past_commits w records archive (e ∷ es) h n = if e.session == n
    then (safe_held (mirror_of w e (records e.session) (archive e.session)) (h e (inl refl)).holds).commits
    else past_commits w records archive es (λ x g. h x (inr g)) n

-- all of these are greater
pub rising_above : (last : ℕ) (es : List Epoch) (e : Epoch) → AreRising last es → Among es e → last < e.session
rising_above last [] e r g = absurd g
rising_above last (x ∷ es) e r (inl q) = subst (λ (y : Epoch). last < y.session) (sym q) r.0
rising_above last (x ∷ es) e r (inr g) = (let l : last < x.session = r.0 in let m : x.session < e.session =
    rising_above x.session es e r.1 g in omega arith)

-- what holds of each of them with its own commits
pub past_each : (w : World) (records : ℕ → Record) (archive : ℕ → List File) (last : ℕ) (es : List Epoch)
    (h : Held w records archive es) → AreRising last es → (P : Epoch → List Commit → Type 0)
    → ((e : Epoch) (g : Among es e)
    → P e (safe_held (mirror_of w e (records e.session) (archive e.session)) (h e g).holds).commits)
    → (e : Epoch) → Among es e → P e (past_commits w records archive es h e.session)
past_each w records archive last [] h r P each e g = absurd g
past_each w records archive last (x ∷ es) h r P each e (inl q) =
    subst (λ (y : Epoch). P y (past_commits w records archive (x ∷ es) h y.session)) (sym q)
    (elim (eqb_tells x.session x.session) [
      | inl t ↦
          subst
          (λ b. P x
          (if b then (safe_held (mirror_of w x (records x.session) (archive x.session)) (h x (inl refl)).holds).commits
          else past_commits w records archive es (λ y g. h y (inr g)) x.session)) (sym t.0) (each x (inl refl))
      | inr t ↦ absurd (t.1 refl)
    ])
past_each w records archive last (x ∷ es) h r P each e (inr g) =
    let above : x.session < e.session = rising_above x.session es e r.1 g in
    elim (eqb_tells x.session e.session) [
      | inl t ↦ (let same : x.session ≡ e.session = t.1 in absurd (omega arith))
      | inr t ↦
          subst
          (λ b. P e
          (if b then (safe_held (mirror_of w x (records x.session) (archive x.session))
          (h x (inl refl)).holds).commits else past_commits w records archive es (λ y k. h y (inr k)) e.session))
          (sym t.0)
          (past_each w records archive x.session es (λ y k. h y (inr k)) r.1 P (λ y k. each y (inr k)) e g)
    ]
