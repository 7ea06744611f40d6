-- What the container counted, commit by commit.
use Rattle.std.proofs.Common.{◌≡◌, ◌≢◌, ◌==◌, ℕ, zero, suc, true, false, List, [], ◌∷◌, ◌++◌, length, map, Option, Some}
use Rattle.std.proofs.Common.{None, refl, sym, ap, ◌∙◌, inl, inr, subst, slice_get, slice_set, append-nil, append_assoc}
use Rattle.std.proofs.Common.{if◌then◌else◌}
use Rattle.std.specs.List.{flat_map}
use Rattle.std.proofs.lemmas.Bool.{eqb-true, eqb-false}
use Rattle.message_values.specs.Found.{nth, set_nth}
use Rattle.cfb_file.specs.Denotes.{Denotes}
use Rattle.ole_model.specs.DocOf.{DocOf}
use Rattle.container_model.specs.Saves as saves
use Rattle.container_model.specs.Saves.{committed_frame, document_tree, frame_document, name_after, parts_in}
use Rattle.container_model.specs.Saves.{session_after}
use Rattle.container_model.specs.declared.record.Frame.{Frame}
use Rattle.container_model.specs.declared.record.Object.{Object}
use Rattle.container_model.specs.declared.record.Phase.TheVariants.{Idle}
use Rattle.container_model.specs.declared.answer.Done.{Done}
use Rattle.world_model.specs.declared.logs.Document.{Document}
use Rattle.world_model.specs.declared.logs.File.{File}
use Rattle.world_model.specs.World.{document_in, done_entry, put_file}
use Rattle.world_model.specs.Safe.{Commit, entries_of, committed, or_else, commit_of, last_commit}
use Rattle.world_files.specs.Files.{Id, id_of, AreNumbered, CommitsBounded, HasCommits, IsOfCommit}
use Rattle.world_facts.proofs.Lookups.{among_new, among_old, nth_aligned}
use Rattle.world_files.proofs.Filing.{put_one}
use Rattle.world_files.proofs.InTurn.{turns_committed, turns_framed}

-- a new frame, which has no counted commit
none_more : (xs : List (Option Document)) (i : ℕ) → document_in (slice_get (xs ++ None ∷ []) i)
    ≡ document_in (slice_get xs i)
none_more [] zero = refl
none_more [] (suc i) = refl
none_more (x ∷ xs) zero = refl
none_more (x ∷ xs) (suc i) = none_more xs i

none_counted : (xs : List (Option Document)) (f : ℕ) → document_in (nth (xs ++ None ∷ []) f) ≡ document_in (nth xs f)
none_counted xs zero = refl
none_counted xs (suc i) = none_more xs i

-- a step that counts nothing
pub commits_moved : (frames after : List Frame) (ids news : List Id) (last now : ℕ) (files : List File)
    (counted : List (Option Document)) (dones : List Done)
    → ((cs : List Commit) → CommitsBounded frames ids last cs → CommitsBounded after news now cs)
    → HasCommits frames ids last files counted dones → HasCommits after news now files counted dones
commits_moved frames after ids news last now files counted dones moved h =
    record {
      commits = h.commits;
      entries = h.entries;
      last = h.last;
      bounded = moved h.commits h.bounded;
      each_counted = h.each_counted;
    }

pub commits_framed : (frames : List Frame) (ids : List Id) (last : ℕ) (files : List File)
    (counted : List (Option Document)) (dones : List Done) (new : Frame)
    → HasCommits frames ids last files counted dones
    → HasCommits (frames ++ new ∷ []) ids last files (counted ++ None ∷ []) dones
commits_framed frames ids last files counted dones new h = record {
  commits = h.commits;
  entries = h.entries;
  last = λ f. none_counted counted f ∙ h.last f;
  bounded = turns_framed frames new ids last h.commits h.bounded;
  each_counted = h.each_counted;
}

-- one commit more
flat_map_more : (cs : List Commit) (c : Commit) → flat_map entries_of (cs ++ c ∷ []) ≡ flat_map entries_of cs
    ++ entries_of c
flat_map_more [] c = append-nil (entries_of c)
flat_map_more (b ∷ cs) c = ap (λ xs. entries_of b ++ xs) (flat_map_more cs c)
    ∙ sym (append_assoc (entries_of b) (flat_map entries_of cs) (entries_of c))

else_assoc : (x y z : Option Document) → or_else (or_else x y) z ≡ or_else x (or_else y z)
else_assoc None y z = refl
else_assoc (Some x) y z = refl

else_none : (x : Option Document) → or_else x None ≡ x
else_none None = refl
else_none (Some x) = refl

last_more : (f : ℕ) (cs : List Commit) (c : Commit) → last_commit f (cs ++ c ∷ [])
    ≡ or_else (commit_of f c) (last_commit f cs)
last_more f [] c = sym (else_none (commit_of f c))
last_more f (b ∷ cs) c = ap (λ x. or_else x (commit_of f b)) (last_more f cs c)
    ∙ else_assoc (commit_of f c) (last_commit f cs) (commit_of f b)

-- what stands at a number where one was set
set_there : (xs : List (Option Document)) (i : ℕ) (x a : Option Document) → slice_get xs i ≡ Some x
    → slice_get (slice_set xs i a) i ≡ Some a
set_there [] i x a e = cc
set_there (y ∷ ys) zero x a e = refl
set_there (y ∷ ys) (suc i) x a e = set_there ys i x a e

set_elsewhere : (xs : List (Option Document)) (i j : ℕ) (a : Option Document) → j ≢ i
    → slice_get (slice_set xs i a) j ≡ slice_get xs j
set_elsewhere [] i j a ne = refl
set_elsewhere (y ∷ ys) zero zero a ne = absurd (ne refl)
set_elsewhere (y ∷ ys) zero (suc j) a ne = refl
set_elsewhere (y ∷ ys) (suc i) zero a ne = refl
set_elsewhere (y ∷ ys) (suc i) (suc j) a ne = set_elsewhere ys i j a (λ e. ne (ap suc e))

nth_there : (xs : List (Option Document)) (n : ℕ) (x a : Option Document) → nth xs n ≡ Some x
    → nth (set_nth xs n a) n ≡ Some a
nth_there xs zero x a e = cc
nth_there xs (suc i) x a e = set_there xs i x a e

nth_elsewhere : (xs : List (Option Document)) (n m : ℕ) (a : Option Document) → m ≢ n
    → nth (set_nth xs n a) m ≡ nth xs m
nth_elsewhere xs zero zero a ne = refl
nth_elsewhere xs zero (suc j) a ne = refl
nth_elsewhere xs (suc i) zero a ne = refl
nth_elsewhere xs (suc i) (suc j) a ne = set_elsewhere xs i j a (λ e. ne (ap suc e))

-- a file stays that of a commit
of_commit_more : (file : File) (cs more : List Commit) → IsOfCommit file cs → IsOfCommit file (cs ++ more)
of_commit_more file cs more h = record {
  commit = h.commit;
  counted = among_old cs more h.commit h.counted;
  denotes = h.denotes;
  holds = h.holds;
}

-- a commit of a frame
module _ (frames : List Frame) (f : ℕ) (frame : Frame) (os : List Object) (last : ℕ) (files : List File)
    (counted : List (Option Document)) (dones : List Done) (bytes : List ℕ)
    (many : length counted ≡ length frames) (at : nth frames f ≡ Some frame) (committing : frame.phase ≢ Idle)
    (a : AreNumbered frames (map id_of os) last)
    (denotes : ∥ Denotes bytes (document_tree (frame_document frame (parts_in f os))) ∥₁)
    (holds : DocOf (document_tree (frame_document frame (parts_in f os)))
    (saves.document (frame_document frame (parts_in f os))))
    (h : HasCommits frames (map id_of os) last files counted dones) where
  abbrev pub name : List ℕ
  name = name_after frame.name frame.asked

  abbrev pub new : Commit
  new = record { frame = f; k = frame.k; session = session_after frame.session frame.raised; parts = parts_in f os }

  last_after : (g : ℕ) → document_in (nth (set_nth counted f (Some (committed new))) g)
      ≡ last_commit g (h.commits ++ new ∷ [])
  last_after g =
      let there = nth_aligned frames counted f frame (sym many) at in
      elim (f == g) as (λ b. (f == g) ≡ b → document_in (nth (set_nth counted f (Some (committed new))) g)
      ≡ or_else (if b then Some (committed new) else None) (last_commit g h.commits)) [
        | true ↦ (λ t. let e : f ≡ g = eqb-true f g t in
            ap document_in
            (subst (λ m. nth (set_nth counted f (Some (committed new))) m ≡ Some (Some (committed new))) e
            (nth_there counted f there.0 (Some (committed new)) there.1)))
        | false ↦
            (λ t. ap document_in (nth_elsewhere counted f g (Some (committed new)) (λ e. eqb-false f g t (sym e)))
            ∙ h.last g)
      ] refl
      ∙ sym (last_more g h.commits new)

  -- the file that the commit made
  made_file : (file : File) → file ≡ record { name = name; bytes = bytes } → IsOfCommit file (h.commits ++ new ∷ [])
  made_file file e = subst (λ v. IsOfCommit v (h.commits ++ new ∷ [])) (sym e)
      (record {
        commit = new;
        counted = among_new h.commits (new ∷ []) new (inl refl);
        denotes = denotes;
        holds = holds;
      })

  pub commits_committed : HasCommits (set_nth frames f (committed_frame frame)) (map id_of os) last
      (put_file (name_after frame.name frame.asked) bytes files)
      (set_nth counted f
      (Some (record {
        k = frame.k;
        session = session_after frame.session frame.raised;
        parts = parts_in f os;
      }))) (dones ++ map (done_entry frame.k) (parts_in f os))
  commits_committed = record {
    commits = h.commits ++ new ∷ [];
    entries = ap (λ xs. xs ++ map (done_entry frame.k) (parts_in f os)) h.entries ∙ sym (flat_map_more h.commits new);
    last = last_after;
    bounded = turns_committed frames f frame os last h.commits at committing a h.bounded;
    each_counted = λ file g. elim (put_one name bytes files file g) [
      | inl e ↦ made_file file e
      | inr old ↦ of_commit_more file h.commits (new ∷ []) (h.each_counted file old)
    ];
  }
