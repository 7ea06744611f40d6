-- What a story keeps doesn't depend on what the objects in boxes contain.
use Rattle.std.proofs.Common.{◌≡◌, ◌⊎◌, ◌++◌, ◌<◌, ◌≤◌, ℕ, true, false, cond, List, [], ◌∷◌, Option, Some, None, refl}
use Rattle.std.proofs.Common.{sym, ◌∙◌, subst, inl, inr}
use Rattle.object_core.specs.Content.{Content}
use Rattle.server_core.specs.declared.server.Seat.{Seat}
use Rattle.container_model.specs.Record.{Record}
use Rattle.world_model.specs.Safe.{Among, IsHonest}
use Rattle.world_model.specs.declared.logs.File.{File}
use Rattle.world_model.specs.declared.logs.Taken.{Taken}
use Rattle.world_model.specs.SafeStory.{AreRising, IsGrantedIn, is_kept}
use Rattle.world_model.specs.Story.{Epoch, epoch_of, epochs}
use Rattle.world_stories.specs.Holding.{DocumentStands, HoldsPast, IsFrom, IsOfRuns, IsSaved, IsThere, Sound, mirror}
use Rattle.world_stories.specs.Holding.{mirror_of}
use Rattle.world_run.specs.Told.{seen_past, seen_pasts, told}
use Rattle.world_run.specs.declared.past.Past.{Past}
use Rattle.world_run.specs.declared.runs.Runs.{Runs}
use Rattle.world_run.proofs.Held.{held_seen}

-- runs that differ only in what the objects of their servers contain
record IsLike (e f : Epoch) : Type 0 where
  pub session : f.session ≡ e.session
  pub taken : f.taken ≡ e.taken
  pub hostile : f.hostile ≡ e.hostile

among_front : (xs ys : List Epoch) (e : Epoch) → Among xs e → Among (xs ++ ys) e
among_front [] ys e g = absurd g
among_front (x ∷ xs) ys e (inl is) = inl is
among_front (x ∷ xs) ys e (inr g) = inr (among_front xs ys e g)

among_last : (xs : List Epoch) (e : Epoch) → Among (xs ++ e ∷ []) e
among_last [] e = inl refl
among_last (x ∷ xs) e = inr (among_last xs e)

among_either : (xs : List Epoch) (a e : Epoch) → Among (xs ++ a ∷ []) e → Among xs e ⊎ (e ≡ a)
among_either [] a e (inl is) = inr is
among_either [] a e (inr g) = absurd g
among_either (x ∷ xs) a e (inl is) = inl (inl is)
among_either (x ∷ xs) a e (inr g) = elim (among_either xs a e g) [ inl k ↦ inl (inr k) | inr k ↦ inr k ]

module _ {X : Type 0} {V : X → Type 0} (c d : Seat X V → Content) where
  -- a run that is over, seen otherwise
  otherwise : (runs : List (Past X V)) (f : Epoch) → Among (seen_pasts d runs) f → (run : Past X V)
      × (f ≡ seen_past d run) × Among (seen_pasts c runs) (seen_past c run)
  otherwise [] f g = absurd g
  otherwise (run ∷ runs) f (inl is) = (run, is, inl refl)
  otherwise (run ∷ runs) f (inr g) = (let k = otherwise runs f g in (k.0, k.1, inr k.2))

  abbrev Has : List Epoch → Epoch → Type 0
  Has es f = (e : Epoch) × Among es e × IsLike e f

  like_past : (runs : List (Past X V)) (f : Epoch) → Among (seen_pasts d runs) f → Has (seen_pasts c runs) f
  like_past runs f g = (let k = otherwise runs f g in (
    seen_past c k.0,
    k.2,
    subst (IsLike (seen_past c k.0)) (sym k.1)
        (record { session = refl; taken = refl; hostile = refl }),
  ))

  -- all runs
  like_run : (r : Runs X V) (f : Epoch) → Among (epochs (told d r)) f → Has (epochs (told c r)) f
  like_run r f g = elim (among_either (told d r).past (epoch_of (told d r).now) f g) [
    | inl k ↦ (let l = like_past r.past.items f k in
        (l.0, among_front (told c r).past (epoch_of (told c r).now ∷ []) l.0 l.1, l.2))
    | inr k ↦ (
      epoch_of (told c r).now,
      among_last (told c r).past (epoch_of (told c r).now),
      subst (IsLike (epoch_of (told c r).now)) (sym k) (record { session = refl; taken = refl; hostile = refl }),
    )
  ]

  rising_seen : (last : ℕ) (runs : List (Past X V)) → AreRising last (seen_pasts c runs)
      → AreRising last (seen_pasts d runs)
  rising_seen last [] h = h
  rising_seen last (run ∷ runs) h = (h.0, rising_seen run.session runs h.1)

  none_seen : (runs : List (Past X V)) → seen_pasts c runs ≡ [] → seen_pasts d runs ≡ []
  none_seen [] e = refl
  none_seen (run ∷ runs) e = cc

  granted_seen : (r : Runs X V) (session : ℕ) (t : Taken) → IsGrantedIn (told c r).now session t
      → IsGrantedIn (told d r).now session t
  granted_seen r session t k = (let g = k.granted in record {
    granted = record {
      message = g.message;
      place = g.place;
      placed = g.placed;
      delivered = g.delivered;
      brings = g.brings;
      sent = g.sent;
      held_open = g.held_open;
      unasked = g.unasked;
    };
    in_session = k.in_session;
  })

  past_seen : (r : Runs X V) (run : Past X V) (rec : Record) (files : List File)
      → HoldsPast (told c r).now (seen_past c run) rec files → HoldsPast (told d r).now (seen_past d run) rec files
  past_seen r run rec files h = record {
    session = h.session;
    numbers = h.numbers;
    raised = h.raised;
    bears = h.bears;
    holds = held_seen c d (mirror_of (told c r).now (seen_past c run) rec files) run.instances.items
        (told c r).now.stock (told d r).now.stock h.holds;
  }

module _ {X : Type 0} {V : X → Type 0} (c d : Seat X V → Content) where
  counted_seen : (r : Runs X V) (mine : List File) (archive : ℕ → List File) (name : List ℕ) (file : File)
      → IsOfRuns mine (told c r).past archive name file → IsOfRuns mine (told d r).past archive name file
  counted_seen r mine archive name file (inl g) = inl g
  counted_seen r mine archive name file (inr g) = (let l = like_past d c r.past.items g.0 g.1 in
      inr (l.0, l.1, subst (λ n. IsThere (archive n) name file) l.2.session g.2))

  from_seen : (r : Runs X V) (mine : List File) (archive : ℕ → List File) (name : List ℕ) (file : File)
      → IsFrom (told c r) mine archive name file → IsFrom (told d r) mine archive name file
  from_seen r mine archive name file h =
      elim (is_kept name (told c r).kept) as (λ b. cond b (IsSaved file)
      (IsOfRuns mine (told c r).past archive name file)
      → cond b (IsSaved file) (IsOfRuns mine (told d r).past archive name file)) [
        | true ↦ (λ g. g)
        | false ↦ (λ g. counted_seen r mine archive name file g)
      ] h

  document_seen : (r : Runs X V) (document : Option (List ℕ)) → DocumentStands (told c r) document
      → DocumentStands (told d r) document
  document_seen r None h = (none_seen c d r.past.items h.0, h.1)
  document_seen r (Some name) h = record {
    bytes = h.bytes;
    file = h.file;
    saved = h.saved;
    is = h.is;
    above = λ e g. (let l = like_run c d r e g in subst (λ n. n ≤ h.saved.session) (sym l.2.session) (h.above l.0 l.1));
    framed = h.framed;
    raised = h.raised;
  }

  pub sound_seen : (r : Runs X V) → Sound (told c r) → Sound (told d r)
  sound_seen r h = record {
    mine = h.mine;
    records = h.records;
    archive = h.archive;
    now = held_seen c d (mirror (told c r).now h.mine) r.state.instances.items (told c r).now.stock
        (told d r).now.stock h.now;
    past = λ e g. (let k = otherwise c d r.past.items e g in
        subst (λ (x : Epoch). HoldsPast (told d r).now x (h.records x.session) (h.archive x.session)) (sym k.1)
        (past_seen c d r k.0 (h.records k.0.session) (h.archive k.0.session) (h.past (seen_past c k.0) k.2)));
    rising = rising_seen c d 0 r.past.items h.rising;
    above = λ e g raised. (let l = like_past c d r.past.items e g in
        subst (λ n. n < (told c r).now.rec.session) (sym l.2.session) (h.above l.0 l.1 raised));
    unraised = h.unraised;
    none_made = h.none_made;
    of_runs = λ m g. (let k = h.of_runs m g in let l = like_run d c r k.0 k.1 in
        (l.0, l.1, k.2 ∙ l.2.session, λ z. k.3 (l.2.session ∙ z)));
    granted = λ e g t taken honest. (let l = like_run c d r e g in
        subst (λ n. IsGrantedIn (told d r).now n t) (sym l.2.session)
        (granted_seen c d r l.0.session t (h.granted l.0 l.1 t (subst (λ ts. Among ts t) l.2.taken taken)
        (subst (λ hs. IsHonest hs t.inc) l.2.hostile honest))));
    mine_there = h.mine_there;
    files = λ name file g. from_seen r h.mine h.archive name file (h.files name file g);
    document = document_seen r (told c r).document h.document;
  }
