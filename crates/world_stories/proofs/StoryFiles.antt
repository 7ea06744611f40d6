-- The files of a story by their names: where each is from, after one more is made, and after a stop has kept some.
use Rattle.std.proofs.Common.{◌≡◌, ◌≢◌, ◌⊎◌, ◌++◌, ◌+◌, ◌<◌, ◌==◌, ℕ, Bool, true, false, cond, List, [], ◌∷◌, Option}
use Rattle.std.proofs.Common.{Some, None, Result, Ok, Err, refl, sym, ap, ◌∙◌, inl, inr, arith, subst, if◌then◌else◌}
use Rattle.std.proofs.Common.{bytes_eq, eq-eqb, ne_eqb, eqb-true}
use Rattle.std.proofs.lemmas.Bool.Decides.{eqb_tells}
use Rattle.std.proofs.lemmas.Slice.Eq.{bytes_eq-Decides}
use Rattle.message_values.specs.Found.{find, nth}
use Rattle.container_model.specs.Record.{Record}
use Rattle.container_model.specs.Saves.{image, image_at, name_after, session_after}
use Rattle.container_model.specs.declared.answer.FrameDocument.{FrameDocument}
use Rattle.container_model.specs.declared.fault.ContainerFault.{ContainerFault}
use Rattle.container_model.specs.declared.record.Frame.{Frame}
use Rattle.world_model.specs.declared.logs.File.{File}
use Rattle.world_model.specs.Safe.{Among}
use Rattle.world_model.specs.World.{HoldsDocument, World, is_file, put_file}
use Rattle.world_facts.proofs.Lookups.{among_new, among_old}
use Rattle.world_files.specs.Files.{Bears}
use Rattle.world_files.proofs.Kept.{image_is_at}
use Rattle.world_model.specs.SafeStory.{AreOf, is_kept}
use Rattle.world_model.specs.Story.{Epoch, epoch_of, has_image, is_among, made_name, may_stop, names_kept, past_by}
use Rattle.world_model.specs.Story.{put_kept, without}
use Rattle.world_stories.specs.Holding.{IsOfRuns, IsSaved, IsThere}

-- ---- files and names
pub names_tell : (a b : List ℕ) → (a ≡ b) ⊎ (a ≢ b)
names_tell a b = elim (bytes_eq a b) as (λ t. bytes_eq a b ≡ t → (a ≡ b) ⊎ (a ≢ b)) [
  | true ↦ (λ t. inl ((bytes_eq-Decides a b).0 t))
  | false ↦ (λ t. inr (λ e. (let u = (bytes_eq-Decides a b).1 e in cc)))
] refl

not_equal : (a b : List ℕ) → a ≢ b → bytes_eq a b ≡ false
not_equal a b ne = elim (bytes_eq a b) as (λ x. bytes_eq a b ≡ x → x ≡ false) [
  | true ↦
      (λ t. absurd (ne ((bytes_eq-Decides a b).0 t)))
  | false ↦ (λ t. refl)
] refl

pub found_put : (name bytes : List ℕ) (files : List File) → find (is_file name) (put_file name bytes files)
    ≡ Some (record { name = name; bytes = bytes })
found_put name bytes [] = rw ((bytes_eq-Decides name name).1 refl) refl
found_put name bytes (file ∷ files) =
    elim (is_file name file) as (λ b. is_file name file ≡ b
    → find (is_file name) (if b then record { name = name; bytes = bytes } ∷ files
    else file ∷ put_file name bytes files) ≡ Some (record { name = name; bytes = bytes })) [
      | true ↦ (λ t. rw ((bytes_eq-Decides name name).1 refl) refl)
      | false ↦ (λ t. rw t (found_put name bytes files))
    ] refl

pub found_other : (name other bytes : List ℕ) (files : List File) → other ≢ name
    → find (is_file other) (put_file name bytes files) ≡ find (is_file other) files
found_other name other bytes [] ne = rw (not_equal name other (λ e. ne (sym e))) refl
found_other name other bytes (file ∷ files) ne =
    elim (is_file name file) as (λ b. is_file name file ≡ b
    → find (is_file other) (if b then record { name = name; bytes = bytes } ∷ files
    else file ∷ put_file name bytes files) ≡ find (is_file other) (file ∷ files)) [
      | true ↦ (λ t. let e : file.name ≡ name = (bytes_eq-Decides file.name name).0 t in
          rw (not_equal name other (λ q. ne (sym q)), not_equal file.name other (λ q. ne (sym q ∙ e))) refl)
      | false ↦ (λ t. ap (λ v. if is_file other file then Some file else v) (found_other name other bytes files ne))
    ] refl

-- ---- names that a stop has kept
pub kept_without : (name : List ℕ) (kept : List (List ℕ)) → is_kept name (without name kept) ≡ false
kept_without name [] = refl
kept_without name (x ∷ xs) =
    elim (bytes_eq x name) as (λ b. bytes_eq x name ≡ b
    → is_kept name (if b then without name xs else x ∷ without name xs) ≡ false) [
      | true ↦ (λ t. kept_without name xs)
      | false ↦ (λ t. rw t (kept_without name xs))
    ] refl

pub kept_others : (name other : List ℕ) (kept : List (List ℕ)) → name ≢ other
    → is_kept other (without name kept) ≡ is_kept other kept
kept_others name other [] ne = refl
kept_others name other (x ∷ xs) ne =
    elim (bytes_eq x name) as (λ b. bytes_eq x name ≡ b
    → is_kept other (if b then without name xs else x ∷ without name xs) ≡ is_kept other (x ∷ xs)) [
      | true ↦ (λ t. let e : x ≡ name = (bytes_eq-Decides x name).0 t in
          rw (not_equal x other (λ q. ne (sym e ∙ q))) (kept_others name other xs ne))
      | false ↦ (λ t. ap (λ v. if bytes_eq x other then true else v) (kept_others name other xs ne))
    ] refl

kept_first : (name : List ℕ) (kept : List (List ℕ)) → is_kept name (name ∷ kept) ≡ true
kept_first name kept = rw ((bytes_eq-Decides name name).1 refl) refl

kept_later : (name other : List ℕ) (kept : List (List ℕ)) → name ≢ other
    → is_kept other (name ∷ kept) ≡ is_kept other kept
kept_later name other kept ne = rw (not_equal name other ne) refl

-- ---- where files are from, and that those of the present run are there, over lists: what `Sound` says of a story
abbrev pub MineThere : List File → List File → List (List ℕ) → Type 0
MineThere mine files kept = (name : List ℕ) (file : File) → IsThere mine name file → IsThere files name file
    × (is_kept name kept ≡ false)

-- each file that a stop has kept was saved, and of each other one this holds
abbrev pub AreFrom : (List ℕ → File → Type 0) → List File → List (List ℕ) → Type 0
AreFrom Counted files kept = (name : List ℕ) (file : File) → IsThere files name file
    → cond (is_kept name kept) (IsSaved file) (Counted name file)

abbrev pub ComeFrom : List File → List File → List (List ℕ) → List Epoch → (ℕ → List File) → Type 0
ComeFrom mine files kept past archive = (name : List ℕ) (file : File) → IsThere files name file
    → cond (is_kept name kept) (IsSaved file) (IsOfRuns mine past archive name file)

weaker : (b : Bool) (Saved Before After : Type 0) → (Before → After) → cond b Saved Before → cond b Saved After
weaker true Saved Before After f h = h
weaker false Saved Before After f h = f h

-- ---- a file that is made
mine_made : (mine files : List File) (kept : List (List ℕ)) (name bytes : List ℕ) → MineThere mine files kept
    → MineThere (put_file name bytes mine) (put_file name bytes files) (without name kept)
mine_made mine files kept name bytes h other file at = elim (names_tell name other) [
  | inl e ↦ (let own : find (is_file name) (put_file name bytes mine) ≡ Some file =
      subst (λ (n : List ℕ). find (is_file n) (put_file name bytes mine) ≡ Some file) (sym e) at in
      subst (λ (n : List ℕ). IsThere (put_file name bytes files) n file × (is_kept n (without name kept) ≡ false)) e
      (found_put name bytes files ∙ (sym (found_put name bytes mine) ∙ own), kept_without name kept))
  | inr ne ↦ (let apart : other ≢ name = λ q. ne (sym q) in
      let g = h other file (sym (found_other name other bytes mine apart) ∙ at) in
      (found_other name other bytes files apart ∙ g.0, kept_others name other kept ne ∙ g.1))
]

runs_made : (mine : List File) (past : List Epoch) (archive : ℕ → List File) (name other bytes : List ℕ)
    (file : File) → other ≢ name → IsOfRuns mine past archive other file
    → IsOfRuns (put_file name bytes mine) past archive other file
runs_made mine past archive name other bytes file apart (inl at) = inl (found_other name other bytes mine apart ∙ at)
runs_made mine past archive name other bytes file apart (inr h) = inr h

from_made : (mine files : List File) (kept : List (List ℕ)) (past : List Epoch) (archive : ℕ → List File)
    (name bytes : List ℕ) → ComeFrom mine files kept past archive
    → ComeFrom (put_file name bytes mine) (put_file name bytes files) (without name kept) past archive
from_made mine files kept past archive name bytes h other file at = elim (names_tell name other) [
  | inl e ↦ (let own : find (is_file name) (put_file name bytes files) ≡ Some file =
      subst (λ (n : List ℕ). find (is_file n) (put_file name bytes files) ≡ Some file) (sym e) at in
      let there : find (is_file name) (put_file name bytes mine) ≡ Some file = found_put name bytes mine
      ∙ (sym (found_put name bytes files) ∙ own) in
      subst (λ (n : List ℕ). cond (is_kept n (without name kept)) (IsSaved file)
      (IsOfRuns (put_file name bytes mine) past archive n file)) e
      (subst (λ (b : Bool). cond b (IsSaved file) (IsOfRuns (put_file name bytes mine) past archive name file))
      (sym (kept_without name kept)) (inl there)))
  | inr ne ↦ (let apart : other ≢ name = λ q. ne (sym q) in
      let g = h other file (sym (found_other name other bytes files apart) ∙ at) in
      subst (λ (b : Bool). cond b (IsSaved file) (IsOfRuns (put_file name bytes mine) past archive other file))
      (sym (kept_others name other kept ne))
      (weaker (is_kept other kept) (IsSaved file) (IsOfRuns mine past archive other file)
      (IsOfRuns (put_file name bytes mine) past archive other file)
      (runs_made mine past archive name other bytes file apart) g))
]

-- A commit that is counted puts its file among those of the story and those of the run, and its name is none that only
-- a stop has kept.
pub files_made : (mine files : List File) (kept : List (List ℕ)) (past : List Epoch) (archive : ℕ → List File)
    (name bytes : List ℕ) → MineThere mine files kept → ComeFrom mine files kept past archive
    → MineThere (put_file name bytes mine) (put_file name bytes files) (without name kept)
    × ComeFrom (put_file name bytes mine) (put_file name bytes files) (without name kept) past archive
files_made mine files kept past archive name bytes there from =
    (mine_made mine files kept name bytes there, from_made mine files kept past archive name bytes from)

-- ---- the images of a stop
pub image_frame : (r : Record) (f : ℕ) (found : Option Frame) (saved : FrameDocument) → nth r.frames f ≡ found
    → image_at r f found ≡ Ok saved
    → (frame : Frame) × (nth r.frames f ≡ Some frame) × (image_at r f (Some frame) ≡ Ok saved)
image_frame r f None saved at e = cc
image_frame r f (Some frame) saved at e = (frame, at, e)

pub image_session : (r : Record) (f : ℕ) (frame : Frame) (saved : FrameDocument)
    → image_at r f (Some frame) ≡ Ok saved → saved.session ≡ session_after frame.session frame.raised
image_session r f frame saved e = sym (ap (λ (d : FrameDocument). d.session) (image_is_at r f frame saved e))

pub bears_made : (frame : Frame) → Bears frame (made_name frame)
bears_made frame = elim frame.asked as (λ v. frame.asked ≡ v → (frame.name ≡ name_after frame.name v)
    ⊎ (frame.asked ≡ Some (name_after frame.name v))) [
      | None ↦ (λ q. inl refl)
      | Some asked ↦ (λ q. inr q)
    ] refl

both_pass : (a b : Bool) → (if a then b else false) ≡ true → (a ≡ true) × (b ≡ true)
both_pass true b e = (refl, e)
both_pass false b e = cc

one_passes : (a b : Bool) → (if a then true else b) ≡ true → (a ≡ true) ⊎ (b ≡ true)
one_passes true b e = inl refl
one_passes false b e = inr e

image_there : (told : Result FrameDocument ContainerFault) → has_image told ≡ true → (saved : FrameDocument)
    × (told ≡ Ok saved)
image_there (Ok saved) e = (saved, refl)
image_there (Err fault) e = cc

has_images : (r : Record) (fs : List ℕ) (f : ℕ) → may_stop r fs ≡ true → is_among fs f ≡ true
    → (saved : FrameDocument) × (image r f ≡ Ok saved)
has_images r [] f may among = cc
has_images r (g ∷ gs) f may among =
    let both = both_pass (has_image (image r g)) (may_stop r gs) may in
    elim (one_passes (g == f) (is_among gs f) among) [
      | inl t ↦ subst (λ (n : ℕ). (saved : FrameDocument) × (image r n ≡ Ok saved)) (eqb-true g f t)
          (image_there (image r g) both.0)
      | inr more ↦ has_images r gs f both.1 more
    ]

-- what a stop makes of a frame's file holds the document of its commit
pub images_saved : (w : World) (fs : List ℕ) (images : ℕ → List ℕ) → may_stop w.rec fs ≡ true
    → ((f : ℕ) → is_among fs f ≡ true → HoldsDocument w f (images f))
    → (f : ℕ) → is_among fs f ≡ true → (saved : FrameDocument) × (image w.rec f ≡ Ok saved) × AreOf (images f) saved
images_saved w fs images may are f among = (let p = has_images w.rec fs f may among in
    let h = are f among p.0 p.1 in
    (p.0, p.1, record { denotes = h.0; holds = h.1 }))

-- ---- the files that a stop keeps
put_kept_one : (Counted : List ℕ → File → Type 0) (files : List File) (kept : List (List ℕ)) (name bytes : List ℕ)
    (saved : FrameDocument) → AreOf bytes saved → AreFrom Counted files kept
    → AreFrom Counted (put_file name bytes files) (name ∷ kept)
put_kept_one Counted files kept name bytes saved of h other file at = elim (names_tell name other) [
  | inl e ↦ (let own : find (is_file name) (put_file name bytes files) ≡ Some file =
      subst (λ (n : List ℕ). find (is_file n) (put_file name bytes files) ≡ Some file) (sym e) at in
      let same : Some (record { name = name; bytes = bytes }) ≡ Some file = sym (found_put name bytes files) ∙ own in
      let is : record { name = name; bytes = bytes } ≡ file = cc in
      subst (λ (n : List ℕ). cond (is_kept n (name ∷ kept)) (IsSaved file) (Counted n file)) e
      (subst (λ (b : Bool). cond b (IsSaved file) (Counted name file)) (sym (kept_first name kept))
      (subst IsSaved is (saved, of))))
  | inr ne ↦ (let apart : other ≢ name = λ q. ne (sym q) in
      subst (λ (b : Bool). cond b (IsSaved file) (Counted other file)) (sym (kept_later name other kept ne))
      (h other file (sym (found_other name other bytes files apart) ∙ at)))
]

put_kept_all : (Counted : List ℕ → File → Type 0) (images : ℕ → List ℕ) (fs : List ℕ) (f : ℕ) (frames : List Frame)
    (files : List File) (kept : List (List ℕ))
    → ((g : ℕ) → is_among fs g ≡ true → (saved : FrameDocument) × AreOf (images g) saved) → AreFrom Counted files kept
    → AreFrom Counted (put_kept images fs f frames files) (names_kept fs f frames kept)
put_kept_all Counted images fs f [] files kept of h = h
put_kept_all Counted images fs f (frame ∷ frames) files kept of h =
    elim (is_among fs f) as (λ b. is_among fs f ≡ b
    → AreFrom Counted (put_kept images fs (f + 1) frames (if b then put_file (made_name frame) (images f) files
    else files)) (names_kept fs (f + 1) frames (if b then made_name frame ∷ kept else kept))) [
      | true ↦ (λ t. let p = of f t in
          put_kept_all Counted images fs (f + 1) frames (put_file (made_name frame) (images f) files)
          (made_name frame ∷ kept) of
          (put_kept_one Counted files kept (made_name frame) (images f) p.0 p.1 h))
      | false ↦ (λ t. put_kept_all Counted images fs (f + 1) frames files kept of h)
    ] refl

-- what an earlier run had, and what the present one has where it is stopped
abbrev pub archived : ℕ → List File → (ℕ → List File) → ℕ → List File
archived session mine archive n = if n == session then mine else archive n

archived_here : (session : ℕ) (mine : List File) (archive : ℕ → List File)
    → archived session mine archive session ≡ mine
archived_here session mine archive = ap (λ (b : Bool). if b then mine else archive session)
    (eq-eqb session session refl)

archived_other : (session : ℕ) (mine : List File) (archive : ℕ → List File) (n : ℕ) → n ≢ session
    → archived session mine archive n ≡ archive n
archived_other session mine archive n ne = ap (λ (b : Bool). if b then mine else archive n) (ne_eqb n session ne)

pub past_more : (w : World) (past : List Epoch) (e : Epoch) → Among past e → Among (past_by w past) e
past_more w past e h = elim (w.rec.session == 0) as (λ b. Among (if b then past else past ++ epoch_of w ∷ []) e) [
  | true ↦ h
  | false ↦ among_old past (epoch_of w ∷ []) e h
]

pub past_present : (w : World) (past : List Epoch) → w.rec.session ≢ 0 → Among (past_by w past) (epoch_of w)
past_present w past raised =
    subst (λ (b : Bool). Among (if b then past else past ++ epoch_of w ∷ []) (epoch_of w))
    (sym (ne_eqb w.rec.session 0 raised)) (among_new past (epoch_of w ∷ []) (epoch_of w) (inl refl))

none_there : (name : List ℕ) (file : File) (files : List File) → files ≡ [] → IsThere files name file → ⊥
none_there name file files none at = (let z : ◌≡◌ {A = Option File} None (Some file) =
    subst (λ (fs : List File). find (is_file name) fs ≡ Some file) none at in cc)

module _ (w : World) (mine : List File) (past : List Epoch) (archive : ℕ → List File)
    (none : w.rec.session ≡ 0 → mine ≡ []) (apart : (e : Epoch) → Among past e → e.session ≢ w.rec.session) where
  runs_stopped : (name : List ℕ) (file : File) → IsOfRuns mine past archive name file
      → IsOfRuns [] (past_by w past) (archived w.rec.session mine archive) name file
  runs_stopped name file (inl at) = elim (eqb_tells w.rec.session 0) [
    | inl unraised ↦ absurd (none_there name file mine (none unraised.1) at)
    | inr raised ↦
        inr (
          epoch_of w,
          past_present w past raised.1,
          subst
              (λ (fs : List File). find (is_file name) fs ≡ Some file) (sym (archived_here w.rec.session mine archive))
              at,
        )
  ]
  runs_stopped name file (inr h) =
      inr (
        h.0,
        past_more w past h.0 h.1,
        subst (λ (fs : List File). find (is_file name) fs ≡ Some file)
            (sym (archived_other w.rec.session mine archive h.0.session (apart h.0 h.1))) h.2,
      )

-- A stop keeps some files more. Those of the run that it ends are an earlier one's from then on.
pub stop_files : (w : World) (fs : List ℕ) (images : ℕ → List ℕ) (mine : List File) (kept : List (List ℕ))
    (past : List Epoch) (archive : ℕ → List File)
    → may_stop w.rec fs ≡ true → ((f : ℕ) → is_among fs f ≡ true → HoldsDocument w f (images f))
    → (w.rec.session ≡ 0 → mine ≡ []) → ((e : Epoch) → Among past e → e.session ≢ 0)
    → ((e : Epoch) → Among past e → w.rec.session ≢ 0 → e.session < w.rec.session)
    → ComeFrom mine w.files kept past archive → MineThere [] (put_kept images fs 1 w.rec.frames w.files)
    (names_kept fs 1 w.rec.frames kept)
    × ComeFrom [] (put_kept images fs 1 w.rec.frames w.files) (names_kept fs 1 w.rec.frames kept) (past_by w past)
    (archived w.rec.session mine archive)
stop_files w fs images mine kept past archive may are none raised above from =
    let apart : (e : Epoch) → Among past e → e.session ≢ w.rec.session =
    λ e g q. (let lt = above e g (λ z. raised e g (q ∙ z)) in omega arith) in
    let after = IsOfRuns [] (past_by w past) (archived w.rec.session mine archive) in
    let before : AreFrom after w.files kept = λ name file at.
    weaker (is_kept name kept) (IsSaved file) (IsOfRuns mine past archive name file) (after name file)
    (runs_stopped w mine past archive none apart name file) (from name file at) in (
      (λ name file at. absurd (none_there name file [] refl at)),
      put_kept_all after images fs 1 w.rec.frames w.files kept
          (λ g among. (let p = images_saved w fs images may are g among in (p.0, p.2))) before,
    )
