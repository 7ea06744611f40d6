-- What files give, and that the file of a commit gives its objects again.
use Rattle.std.proofs.Common.{◌≡◌, ◌≢◌, ◌≤◌, ◌<◌, ◌+◌, ◌++◌, ℕ, Bool, true, false, not, List, [], ◌∷◌, length, Some}
use Rattle.std.proofs.Common.{None, Result, Ok, Err, refl, sym, ◌∙◌, ap, arith, subst, eq-eqb}
use Rattle.std.proofs.Math.Logic.{∥∥₁_elim}
use Rattle.std.proofs.lemmas.Bool.{le-leb, leb-false, ne_eqb}
use Rattle.std.proofs.lemmas.List.{length-append}
use Rattle.std.specs.Prelude.{◌&&◌, cond, nat_le}
use Rattle.std.specs.List.{AllByRecursion}
use Rattle.cfb_names.specs.Names.{key}
use Rattle.cfb_file.specs.Denotes.{Denotes}
use Rattle.cfb_file.proofs.Unique.{one_tree}
use Rattle.tree_streams.specs.declared.area.Area.{Area}
use Rattle.ole_model.specs.Fields.{on_ok}
use Rattle.ole_model.specs.declared.fault.OleFault.{OleFault}
use Rattle.ole_model.specs.declared.fault.OleFault.TheVariants.{NotADocument, TooManyObjects}
use Rattle.cfb_entries.specs.Tree.{Tree, Children, none, storage, stream, tree}
use Rattle.tree_storage.specs.Change.{find, without}
use Rattle.ole_model.specs.Documents.{Doc, no_objects}
use Rattle.ole_model.specs.DocOf.{DocOf, as_storage, as_stream, behind_layout, doc_read, is_object, object_pushed}
use Rattle.ole_model.specs.DocOf.{object_read, objects_behind, pushed, session_read}
use Rattle.ole_model.specs.DocTree.{LAYOUT, SESSION, object_name}
use Rattle.ole_model.specs.Layouts.{MOST_OBJECTS, layout_read}
use Rattle.ole_model.specs.declared.object.DocObject.{DocObject}
use Rattle.container_model.specs.declared.fault.ContainerFault.TheVariants.{BadFile, Busy, Full, NumbersSpent}
use Rattle.container_model.specs.declared.fault.ContainerFault.TheVariants.{WrongState}
use Rattle.container_model.specs.declared.answer.FrameDocument.{FrameDocument}
use Rattle.container_model.specs.declared.record.Frame.{Frame}
use Rattle.container_model.specs.declared.record.Object.{Object}
use Rattle.container_model.specs.Record.{Record, Took, unless}
use Rattle.container_model.specs.Saves.{are_objects, document, document_tree, frame_document, held_parts, is_document}
use Rattle.container_model.specs.Saves.{parts_in}
use Rattle.container_model.specs.Commands.{is_named, is_size}
use Rattle.container_model.specs.Opens.{Given, IsReadAs, opened, opened_frame, opened_made, opened_objects}
use Rattle.container_queues.specs.Steady.{Steady, SteadyObject}
use Rattle.message_values.specs.Found.{nth}
use Rattle.container_steady.proofs.Opening.{is_opened, nth_last}
use Rattle.container_steady.proofs.SteadyTells.{and_both}
use Rattle.container_steps.proofs.SteadyOpens.{elsewhere}
use Rattle.container_laws.specs.OpenLaws.{CommitsAreOpenedAgain, FilesGiveOne, FilesGiveTheirs, HeldIsWithin}
use Rattle.container_laws.proofs.DocumentSets.{Document-set}

-- ---- what a tree holds is within its limits
both_hold : (a b : Bool) → a ≡ true → b ≡ true → (a && b) ≡ true
both_hold true b e g = g
both_hold false b e g = cc

on_ok_gives : {A B : Type 0} (f : A → Result B OleFault) (r : Result A OleFault) (y : B) → on_ok f r ≡ Ok y
    → (x : A) × (r ≡ Ok x) × (f x ≡ Ok y)
on_ok_gives f (Ok x) y e = (x, refl, e)
on_ok_gives f (Err fault) y e = cc

cond_err : {A : Type 0} (b : Bool) (fault : OleFault) (next : Result A OleFault) (y : A)
    → cond b (Err fault) next ≡ Ok y → (b ≡ false) × (next ≡ Ok y)
cond_err true fault next y e = cc
cond_err false fault next y e = (refl, e)

cond_ok : {A : Type 0} (b : Bool) (fault : OleFault) (x y : A) → cond b (Ok x) (Err fault) ≡ Ok y → (b ≡ true) × (x ≡ y)
cond_ok true fault x y e = (let same : x ≡ y = cc in (refl, same))
cond_ok false fault x y e = cc

objects_more : (ds : List DocObject) (d : DocObject) → are_objects ds ≡ true → is_object d ≡ true
    → are_objects (ds ++ d ∷ []) ≡ true
objects_more [] d h k = both_hold (is_object d) true k refl
objects_more (x ∷ ds) d h k = (let b = and_both (is_object x) (are_objects ds) h in
    both_hold (is_object x) (are_objects (ds ++ d ∷ [])) b.0 (objects_more ds d b.1 k))

pushed_within : (d : Doc) (o : DocObject) (more : Doc) → is_document d.objects ≡ true → pushed d o ≡ Ok more
    → is_document more.objects ≡ true
pushed_within d o more h e =
    let ds = d.objects in
    let after : Doc = record d { objects = ds ++ o ∷ [] } in
    let a = cond_err (nat_le MOST_OBJECTS (length ds)) TooManyObjects
    (cond (is_object o) (Ok after) (Err NotADocument)) more e in
    let b = cond_ok (is_object o) NotADocument after more a.1 in
    let was = and_both (nat_le (length ds) MOST_OBJECTS) (are_objects ds) h in
    let few : length ds < MOST_OBJECTS = leb-false MOST_OBJECTS (length ds) a.0 in
    let long : length (ds ++ o ∷ []) ≡ length ds + 1 = length-append ds (o ∷ []) in
    let most : length (ds ++ o ∷ []) ≤ MOST_OBJECTS = omega (arith, few, long) in
    subst (λ (x : Doc). is_document x.objects ≡ true) b.1
    (both_hold (nat_le (length (ds ++ o ∷ [])) MOST_OBJECTS) (are_objects (ds ++ o ∷ []))
    (le-leb (length (ds ++ o ∷ [])) MOST_OBJECTS most) (objects_more ds o was.1 b.0))

behind_within : (d : Doc) (number : ℕ) (areas : List Area) (cs : Children) (more : Doc)
    → is_document d.objects ≡ true → objects_behind d number areas cs ≡ Ok more → is_document more.objects ≡ true
behind_within d number [] none more h e =
    (let same : d ≡ more = cc in subst (λ (x : Doc). is_document x.objects ≡ true) same h)
behind_within d number [] (stream k name b cs) more h e = cc
behind_within d number [] (storage k name t cs) more h e = cc
behind_within d number (area ∷ areas) cs more h e =
    let p = on_ok_gives (λ x. objects_behind x (number + 1) areas (without (key (object_name number)) cs))
    (object_pushed d number area cs) more e in
    let o = on_ok_gives (λ o. pushed d o)
    (on_ok (λ t. object_read area t) (as_storage (find (key (object_name number)) cs))) p.0 p.1 in
    behind_within p.0 (number + 1) areas (without (key (object_name number)) cs) more
    (pushed_within d o.0 p.0 h o.2) p.2

pub held-is_within : HeldIsWithin
held-is_within (tree class state cs) d e =
    let a = on_ok_gives (λ areas. behind_layout areas (without (key LAYOUT) cs))
    (on_ok layout_read (as_stream (find (key LAYOUT) cs))) d e in
    let rest = without (key LAYOUT) cs in
    let b = on_ok_gives (λ session. objects_behind (no_objects session) 1 a.0 (without (key SESSION) rest))
    (session_read (find (key SESSION) rest)) d a.2 in
    behind_within (no_objects b.0) 1 a.0 (without (key SESSION) rest) d refl b.2

-- ---- a file gives one thing
same_held : (bytes : List ℕ) (t u : Tree) (ds es : Doc) → Denotes bytes t → Denotes bytes u → DocOf t ds
    → DocOf u es → ds ≡ es
same_held bytes t u ds es a b p q =
    let both : ◌≡◌ {A = Result Doc OleFault} (Ok ds) (Ok es) = sym p ∙ (ap doc_read (one_tree bytes t u a b) ∙ q) in
    cc

⊥_prop : (a b : ⊥) → a ≡ b
⊥_prop a b = absurd a

not_broken : (bytes : List ℕ) (ds : Doc) → IsReadAs (Some bytes) Given.Broken
    → IsReadAs (Some bytes) (Given.Holding ds) → ⊥
not_broken bytes ds broken holds = ∥∥₁_elim holds ⊥_prop (λ x. broken x.0 ds x.1 x.2)

pub files-give_one : FilesGiveOne
files-give_one None Given.Missing Given.Missing a b = refl
files-give_one None Given.Missing Given.Broken a b = absurd b
files-give_one None Given.Missing (Given.Holding es) a b = absurd b
files-give_one None Given.Broken other a b = absurd a
files-give_one None (Given.Holding ds) other a b = absurd a
files-give_one (Some bytes) Given.Missing other a b = absurd a
files-give_one (Some bytes) Given.Broken Given.Missing a b = absurd b
files-give_one (Some bytes) Given.Broken Given.Broken a b = refl
files-give_one (Some bytes) Given.Broken (Given.Holding es) a b = absurd (not_broken bytes es a b)
files-give_one (Some bytes) (Given.Holding ds) Given.Missing a b = absurd b
files-give_one (Some bytes) (Given.Holding ds) Given.Broken a b = absurd (not_broken bytes ds b a)
files-give_one (Some bytes) (Given.Holding ds) (Given.Holding es) a b =
    ap Given.Holding (∥∥₁_elim a (Document-set ds es)
    (λ x. ∥∥₁_elim b (Document-set ds es) (λ y. same_held bytes x.0 y.0 ds es x.1 y.1 x.2 y.2)))

pub files-give_theirs : FilesGiveTheirs
files-give_theirs bytes d Given.Missing f a = absurd a
files-give_theirs bytes d Given.Broken f a =
    absurd (∥∥₁_elim f.denotes ⊥_prop (λ n. a (document_tree d) (document d) n f.holds))
files-give_theirs bytes d (Given.Holding ds) f a =
    ap Given.Holding (∥∥₁_elim a (Document-set ds (document d))
    (λ x. ∥∥₁_elim f.denotes (Document-set ds (document d))
    (λ n. same_held bytes x.0 (document_tree d) ds (document d) x.1 n x.2 f.holds)))

-- ---- the file of a commit is opened
not_bad : (a b c d : Bool) (t : Took)
    → unless a Busy (unless b WrongState (unless c Full (unless d NumbersSpent (Ok t)))) ≢ Err BadFile
not_bad true b c d t = λ e. cc
not_bad false true c d t = λ e. cc
not_bad false false true d t = λ e. cc
not_bad false false false true t = λ e. cc
not_bad false false false false t = λ e. cc

good_document : (u : Record) (name : List ℕ) (w h : ℕ) (d : Doc) → is_document d.objects ≡ true
    → opened u name w h (Given.Holding d) ≢ Err BadFile
good_document u name w h d within =
    rw within (not_bad (is_named name u.frames) (not (is_size w h)) _ _ (opened_made u name w h d))

-- what the new frame has
others_out : (u : Record) (os ps : List Object) → AllByRecursion (SteadyObject u) os
    → parts_in (length u.frames + 1) (os ++ ps) ≡ parts_in (length u.frames + 1) ps
others_out u [] ps h = refl
others_out u (o ∷ os) ps h = rw (ne_eqb o.frame (length u.frames + 1) (elsewhere u o h.0)) (others_out u os ps h.1)

new_in : (last f : ℕ) (ds : List DocObject) → held_parts (parts_in f (opened_objects last f ds)) ≡ ds
new_in last f [] = refl
new_in last f (d ∷ ds) = rw (eq-eqb f f refl) (ap (λ (es : List DocObject). d ∷ es) (new_in (last + 1) f ds))

-- what the new frame has: the session and the objects of the document that was given
has_document : (u : Record) (name : List ℕ) (w h : ℕ) (d : Doc) → Steady u
    → document (frame_document (opened_frame name w h d.session)
    (parts_in (length u.frames + 1) (opened_made u name w h d).rec.objects)) ≡ d
has_document u name w h d steady =
    let n : ℕ = length u.frames + 1 in
    ap (λ (ds : List DocObject). record { session = d.session; objects = ds })
    (ap held_parts (others_out u u.objects (opened_objects u.last_object n d.objects) steady.objects)
    ∙ new_in u.last_object n d.objects)

abbrev HasAgain : Record → FrameDocument → Took → Type 0
HasAgain u d t = (frame : Frame) × (nth t.rec.frames (length u.frames + 1) ≡ Some frame)
    × (document (frame_document frame (parts_in (length u.frames + 1) t.rec.objects)) ≡ document d)

pub commits-are_opened_again : CommitsAreOpenedAgain
commits-are_opened_again r u f d bytes name w h given image file read steady =
    let is : given ≡ Given.Holding (document d) = files-give_theirs bytes d given file read in
    record {
      good = subst (λ (g : Given). opened u name w h g ≢ Err BadFile) (sym is)
          (good_document u name w h (document d) (held-is_within (document_tree d) (document d) file.holds));
      again = λ t e.
          (let o = is_opened u name w h given t e in
          let same : ◌≡◌ {A = Given} (Given.Holding o.d) (Given.Holding (document d)) = sym o.holds ∙ is in
          let theirs : o.d ≡ document d = cc in
          subst (HasAgain u d) o.made (
            opened_frame name w h o.d.session,
            nth_last u.frames
                (opened_frame name w h o.d.session),
            has_document u name w h o.d steady ∙ theirs,
          ));
    }
