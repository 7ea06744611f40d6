-- Whether a container may stop, and what the files that are then made are.
use Rattle.std.proofs.Common.{◌≡◌, ◌==◌, ◌+◌, ◌≤◌, ◌<◌, ◌++◌, ◌&&◌, ℕ, zero, suc, Bool, true, false, not, List, [], ◌∷◌}
use Rattle.std.proofs.Common.{length, drop, Option, Some, None, refl, sym, ap, ◌∙◌, subst, inl, inr, arith}
use Rattle.std.proofs.Common.{if◌then◌else◌}
use Rattle.std.specs.Prelude.{is_some}
use Rattle.std.specs.List.{flat_map}
use Rattle.std.proofs.lemmas.Bool.{eq-eqb, eqb-true}
use Rattle.std.proofs.lemmas.Bool.Decides.{eqb_tells}
use Rattle.std.proofs.lemmas.List.{append-nil, drop_all}
use Rattle.std.proofs.lemmas.Option.{slice_get_within}
use Rattle.message_values.specs.Found.{nth}
use Rattle.container_model.specs.Record.{Record}
use Rattle.container_model.specs.Saves.{image, image_at}
use Rattle.container_model.specs.declared.record.Frame.{Frame}
use Rattle.world_model.specs.declared.logs.EventAnswer.TheVariants as told
use Rattle.world_model.specs.declared.logs.File.{File}
use Rattle.world_model.specs.World.{HoldsDocument, World, put_file, quiet_outcome}
use Rattle.world_model.specs.Story.{begun, has_image, is_among, made_name, may_stop, put_kept, rested}
use Rattle.world_host.specs.declared.host.Host.{Host}
use Rattle.world_host.specs.declared.stops.Left.{Left}
use Rattle.world_host.specs.Stops.{AreMade, IsLeft, IsMade, are_there, lacks_image, made_names, named, put_each}
use Rattle.world_host.specs.Stops.{put_made}
use Rattle.world_host.specs.View.{bare}
use Rattle.world_host.proofs.Counting.{no_image}

-- ---- tests

passed_on : (b c : Bool) → c ≡ false → (if b then c else false) ≡ false
passed_on true c e = e
passed_on false c e = refl

failed : (b c : Bool) → b ≡ false → (if b then c else false) ≡ false
failed true c e = absurd (cc)
failed false c e = refl

both : (b c : Bool) → b ≡ true → c ≡ true → (if b then c else false) ≡ true
both true c e h = h
both false c e h = absurd (cc)

parts : (b c : Bool) → (if b then c else false) ≡ true → (b ≡ true) × (c ≡ true)
parts true c e = (refl, e)
parts false c e = absurd (cc)

at_once : (b c : Bool) → b ≡ true → (if b then true else c) ≡ true
at_once true c e = refl
at_once false c e = absurd (cc)

later : (b c : Bool) → c ≡ true → (if b then true else c) ≡ true
later true c e = refl
later false c e = e

none_told : (among has : Bool) → (among && not has) ≡ true → (among ≡ true) × (has ≡ false)
none_told true true e = absurd (cc)
none_told true false e = (refl, refl)
none_told false has e = absurd (cc)

has_told : (among has : Bool) → (among && not has) ≡ false → among ≡ true → has ≡ true
has_told true true e m = refl
has_told true false e m = absurd (cc)
has_told false has e m = absurd (cc)

-- ---- whether a container may stop

one_there : (r : Record) (f : ℕ) (frame : Option Frame) (there may : Bool)
    → (if is_some frame then there else false) ≡ false
    → (there ≡ false → may ≡ false) → (if has_image (image_at r f frame) then may else false) ≡ false
one_there r f None there may e h = refl
one_there r f (Some frame) there may e h = passed_on (has_image (image_at r f (Some frame))) may (h e)

-- not with a number that is no frame's
pub unless_there : (r : Record) (fs : List ℕ) → are_there r.frames fs ≡ false → may_stop r fs ≡ false
unless_there r [] e = e
unless_there r (f ∷ fs) e = one_there r f (nth r.frames f) (are_there r.frames fs) (may_stop r fs) e (unless_there r fs)

one_without : (r : Record) (fs : List ℕ) (f g : ℕ) (b : Bool) → (g == f) ≡ b
    → (if b then true else is_among fs f) ≡ true → has_image (image r f) ≡ false
    → (is_among fs f ≡ true → may_stop r fs ≡ false)
    → (if has_image (image r g) then may_stop r fs else false) ≡ false
one_without r fs f g true e m h next = failed (has_image (image r g)) (may_stop r fs)
    (subst (λ x. has_image (image r x) ≡ false) (sym (eqb-true g f e)) h)
one_without r fs f g false e m h next = passed_on (has_image (image r g)) (may_stop r fs) (next m)

without_image : (r : Record) (fs : List ℕ) (f : ℕ) → is_among fs f ≡ true → has_image (image r f) ≡ false
    → may_stop r fs ≡ false
without_image r [] f m h = sym m
without_image r (g ∷ fs) f m h = one_without r fs f g (g == f) refl m h (λ n. without_image r fs f n h)

-- nor with a frame that has no such commit
pub unless_image : (r : Record) (fs : List ℕ) (f : ℕ) → lacks_image r fs f ≡ true → may_stop r fs ≡ false
unless_image r fs f e = (let t = none_told (is_among fs f) (has_image (image r f)) e in without_image r fs f t.0 t.1)

-- of these numbers from 1 on none is that of such a frame
abbrev pub LackNone : Record → List ℕ → ℕ → Type 0
LackNone r fs n = (f : ℕ) → 1 ≤ f → f ≤ n → lacks_image r fs f ≡ false

pub lack_at_first : (r : Record) (fs : List ℕ) → LackNone r fs 0
lack_at_first r fs f low high = absurd (omega arith)

pub lack_more : (r : Record) (fs : List ℕ) (n : ℕ) → LackNone r fs n → lacks_image r fs (n + 1) ≡ false
    → LackNone r fs (n + 1)
lack_more r fs n h e f low high = elim (eqb_tells f (n + 1)) [
  | inl is ↦ subst (λ x. lacks_image r fs x ≡ false) (sym is.1) e
  | inr other ↦ (let apart = other.1 in h f low (omega arith))
]

each_has : (r : Record) (fs : List ℕ) → ((f : ℕ) → is_among fs f ≡ true → has_image (image r f) ≡ true)
    → may_stop r fs ≡ true
each_has r [] h = refl
each_has r (f ∷ fs) h = both (has_image (image r f)) (may_stop r fs)
    (h f (at_once (f == f) (is_among fs f) (eq-eqb f f refl)))
    (each_has r fs (λ g m. h g (later (f == g) (is_among fs g) m)))

there_by : (frames : List Frame) (fs : List ℕ) (f g : ℕ) (b : Bool) → (g == f) ≡ b
    → (if b then true else is_among fs f) ≡ true → is_some (nth frames g) ≡ true
    → (is_among fs f ≡ true → is_some (nth frames f) ≡ true) → is_some (nth frames f) ≡ true
there_by frames fs f g true e m t next = subst (λ x. is_some (nth frames x) ≡ true) (eqb-true g f e) t
there_by frames fs f g false e m t next = next m

each_there : (frames : List Frame) (fs : List ℕ) (f : ℕ) → are_there frames fs ≡ true → is_among fs f ≡ true
    → is_some (nth frames f) ≡ true
each_there frames [] f e m = absurd (cc)
each_there frames (g ∷ fs) f e m = (let p = parts (is_some (nth frames g)) (are_there frames fs) e in
    there_by frames fs f g (g == f) refl m p.0 (λ n. each_there frames fs f p.1 n))

some_is : {A : Type 0} (x : Option A) → is_some x ≡ true → (a : A) × (x ≡ Some a)
some_is None e = absurd (cc)
some_is (Some a) e = (a, refl)

within : {A : Type 0} (xs : List A) (n : ℕ) (x : A) → nth xs n ≡ Some x → (1 ≤ n) × (n ≤ length xs)
within xs zero x e = absurd (cc)
within xs (suc i) x e = (let lt = slice_get_within xs i x e in (omega arith, omega arith))

-- but with all others
pub may_by : (r : Record) (fs : List ℕ) (n : ℕ) → are_there r.frames fs ≡ true → length r.frames ≤ n
    → LackNone r fs n → may_stop r fs ≡ true
may_by r fs n there le h = each_has r fs (λ f m.
    let frame = some_is (nth r.frames f) (each_there r.frames fs f there m) in
    let bounds = within r.frames f frame.0 frame.1 in
    let low = bounds.0 in
    let high = bounds.1 in
    has_told (is_among fs f) (has_image (image r f)) (h f low (omega arith)) m)

-- ---- the files that are made

pub made_end : (w : World) (fs : List ℕ) (frames : List Frame) (i : ℕ) (made : List (Option File)) → length frames ≤ i
    → ((rest : List (Option File)) → AreMade w fs (i + 1) (drop i frames) rest
    → AreMade w fs 1 frames (made ++ rest)) → AreMade w fs 1 frames made
made_end w fs frames i made le h = subst (λ xs. AreMade w fs 1 frames xs) (append-nil made)
    (h [] (subst (λ ys. AreMade w fs (i + 1) ys []) (sym (drop_all i frames le)) tt))

name_by : (w : World) (fs : List ℕ) (f : ℕ) (frame : Frame) (frames : List Frame) (x : Option File)
    (xs : List (Option File)) → IsMade w fs f frame x → flat_map named xs ≡ made_names fs (f + 1) frames
    → flat_map named (x ∷ xs) ≡ made_names fs f (frame ∷ frames)
name_by w fs f frame frames None xs is e = rw is e
name_by w fs f frame frames (Some file) xs is e =
    rw is.0 (ap (λ name. name ∷ flat_map named xs) is.1 ∙ ap (λ names. made_name frame ∷ names) e)

-- their names
pub names_made : (w : World) (fs : List ℕ) (f : ℕ) (frames : List Frame) (made : List (Option File))
    → AreMade w fs f frames made → flat_map named made ≡ made_names fs f frames
names_made w fs f [] [] h = refl
names_made w fs f [] (x ∷ xs) h = absurd h
names_made w fs f (frame ∷ frames) [] h = absurd h
names_made w fs f (frame ∷ frames) (x ∷ xs) h = name_by w fs f frame frames x xs h.0
    (names_made w fs (f + 1) frames xs h.1)

-- their bytes, by the numbers of frames
abbrev bytes_of : Option File → List ℕ
bytes_of None = []
bytes_of (Some file) = file.bytes

abbrev image_from : ℕ → List (Option File) → ℕ → List ℕ
image_from f [] g = []
image_from f (x ∷ xs) g = if f == g then bytes_of x else image_from (f + 1) xs g

image_here : (f : ℕ) (x : Option File) (xs : List (Option File)) → image_from f (x ∷ xs) f ≡ bytes_of x
image_here f x xs = rw (eq-eqb f f refl) refl

image_behind : (f g : ℕ) (x : Option File) (xs : List (Option File)) → f + 1 ≤ g
    → image_from f (x ∷ xs) g ≡ image_from (f + 1) xs g
image_behind f g x xs le = elim (eqb_tells f g) [
  | inl is ↦ (let same = is.1 in absurd (omega arith))
  | inr other ↦ rw other.0 refl
]

put_by : (w : World) (fs : List ℕ) (images : ℕ → List ℕ) (f : ℕ) (frame : Frame) (x : Option File)
    (files : List File) → images f ≡ bytes_of x → IsMade w fs f frame x
    → put_made x files ≡ (if is_among fs f then put_file (made_name frame) (images f) files else files)
put_by w fs images f frame None files e is = rw is refl
put_by w fs images f frame (Some file) files e is =
    rw is.0 (ap (λ name. put_file name file.bytes files) is.1 ∙ ap (λ bytes. put_file (made_name frame) bytes files)
    (sym e))

-- and what stands on the disk once they are made
puts : (w : World) (fs : List ℕ) (images : ℕ → List ℕ) (f : ℕ) (frames : List Frame) (made : List (Option File))
    (files : List File)
    → ((g : ℕ) → f ≤ g → images g ≡ image_from f made g) → AreMade w fs f frames made
    → put_each made files ≡ put_kept images fs f frames files
puts w fs images f [] [] files same h = refl
puts w fs images f [] (x ∷ xs) files same h = absurd h
puts w fs images f (frame ∷ frames) [] files same h = absurd h
puts w fs images f (frame ∷ frames) (x ∷ xs) files same h =
    ap (put_each xs) (put_by w fs images f frame x files (same f (omega arith) ∙ image_here f x xs) h.0)
    ∙ puts w fs images (f + 1) frames xs (if is_among fs f then put_file (made_name frame) (images f) files
    else files) (λ g le. same g (omega arith) ∙ image_behind f g x xs le) h.1

own_image : (w : World) (fs : List ℕ) (f : ℕ) (frame : Frame) (x : Option File) → is_among fs f ≡ true
    → IsMade w fs f frame x → HoldsDocument w f (bytes_of x)
own_image w fs f frame None m is = absurd (cc)
own_image w fs f frame (Some file) m is = is.2

image_by : (w : World) (fs : List ℕ) (n : ℕ) (frame : Frame) (x : Option File) (xs : List (Option File)) (f : ℕ)
    → is_among fs f ≡ true → IsMade w fs n frame x → n ≤ f
    → (n + 1 ≤ f → HoldsDocument w f (image_from (n + 1) xs f)) → HoldsDocument w f (image_from n (x ∷ xs) f)
image_by w fs n frame x xs f m is low next = elim (eqb_tells n f) [
  | inl same ↦ subst (λ g. HoldsDocument w g (image_from n (x ∷ xs) g)) same.1
      (subst (λ bytes. HoldsDocument w n bytes) (sym (image_here n x xs))
      (own_image w fs n frame x (subst (λ g. is_among fs g ≡ true) (sym same.1) m) is))
  | inr other ↦ (let apart = other.1 in let le : n + 1 ≤ f = omega arith in
      subst (λ bytes. HoldsDocument w f bytes) (sym (image_behind n f x xs le)) (next le))
]

images_are : (w : World) (fs : List ℕ) (n : ℕ) (frames : List Frame) (made : List (Option File)) (f : ℕ)
    → AreMade w fs n frames made → n ≤ f → f < n + length frames
    → is_among fs f ≡ true → HoldsDocument w f (image_from n made f)
images_are w fs n [] [] f h low high m = absurd (omega arith)
images_are w fs n [] (x ∷ xs) f h low high m = absurd h
images_are w fs n (frame ∷ frames) [] f h low high m = absurd h
images_are w fs n (frame ∷ frames) (x ∷ xs) f h low high m = image_by w fs n frame x xs f m h.0 low
    (λ le. images_are w fs (n + 1) frames xs f h.1 le (omega arith) m)

-- a frame that isn't there has no document
image_at_any : (w : World) (fs : List ℕ) (made : List (Option File)) (f : ℕ) → AreMade w fs 1 w.rec.frames made
    → is_among fs f ≡ true
    → (frame : Option Frame) → nth w.rec.frames f ≡ frame → HoldsDocument w f (image_from 1 made f)
image_at_any w fs made f h m None none = λ saved e. absurd (no_image w.rec f saved none e)
image_at_any w fs made f h m (Some frame) there =
    let bounds = within w.rec.frames f frame there in
    let low = bounds.0 in
    let high = bounds.1 in
    images_are w fs 1 w.rec.frames made f h low (omega arith) m

-- what a stop leaves, put together from its parts
pub rests : (w v after : World) (fs : List ℕ) (made : List (Option File)) → v ≡ w → AreMade w fs 1 w.rec.frames made
    → after ≡ record (begun v) { files = put_each made v.files; answers = v.answers ++ told.Took quiet_outcome ∷ [] }
    → (images : ℕ → List ℕ) × ((f : ℕ) → is_among fs f ≡ true → HoldsDocument w f (images f))
    × (after ≡ rested w images fs)
rests w v after fs made same h e = (
  image_from 1 made,
  (λ f m. image_at_any w fs made f h m (nth w.rec.frames f) refl),
  e
      ∙ (ap (λ (u : World). record (begun u) {
        files = put_each made u.files;
        answers = u.answers ++ told.Took quiet_outcome ∷ [];
      }) same
      ∙ ap (λ (files : List File). record (begun w) {
        files = files;
        answers = w.answers ++ told.Took quiet_outcome ∷ [];
      })
      (puts w fs (image_from 1 made) 1 w.rec.frames made w.files (λ g le. refl) h)),
)

pub leaves : (l k : Host) (names made : List (List ℕ)) (left : Left) → bare k ≡ bare l → names ≡ made
    → IsLeft k names left → IsLeft l made left
leaves l k names made left same e h = record {
  session = h.session ∙ ap (λ (w : World). w.rec.session) same;
  owners = h.owners ∙ ap (λ (w : World). w.owners) same;
  taken = h.taken ∙ ap (λ (w : World). w.taken) same;
  container_done = h.container_done ∙ ap (λ (w : World). w.container_done) same;
  server_done = h.server_done ∙ ap (λ (w : World). w.server_done) same;
  counted = h.counted ∙ ap (λ (w : World). w.counted) same;
  hostile = h.hostile ∙ ap (λ (w : World). w.hostile) same;
  names = h.names ∙ e;
}
