-- A file that is opened: what its tests say of the step, and what is made.
use Rattle.std.proofs.Common.{◌≡◌, ◌≤◌, ◌<◌, ◌+◌, ◌||◌, ◌++◌, ℕ, Bool, true, false, not, List, [], ◌∷◌, length, map}
use Rattle.std.proofs.Common.{Option, Some, None, Result, Ok, Err, IfErr, IfOk, OnErr, refl, sym, ◌∙◌, ap, arith, subst}
use Rattle.std.proofs.lemmas.Bool.{leb-false, leb-true, ltb-false}
use Rattle.std.specs.Prelude.{nat_le, nat_lt}
use Rattle.std.specs.List.{range_with_len}
use Rattle.ole_model.specs.Documents.{Doc}
use Rattle.ole_model.specs.declared.object.DocObject.{DocObject}
use Rattle.container_model.specs.declared.answer.Answer.{Answer}
use Rattle.container_model.specs.declared.fault.ContainerFault.{ContainerFault}
use Rattle.container_model.specs.declared.record.Frame.{Frame}
use Rattle.container_model.specs.declared.record.Object.{Object}
use Rattle.container_model.specs.declared.fault.ContainerFault.TheVariants.{BadFile, Busy, Full, NoSuch, NumbersSpent}
use Rattle.container_model.specs.declared.fault.ContainerFault.TheVariants.{WrongState}
use Rattle.container_model.specs.Record.{Record, Took, MOST_FRAMES, MOST_OBJECTS, Refuses, counts_none, quiet_answer}
use Rattle.container_model.specs.Record.{unless}
use Rattle.container_model.specs.Commands.{is_named, is_size}
use Rattle.container_model.specs.Opens.{Given, IsReadAs, opened, opened_document, opened_frame, opened_given}
use Rattle.container_model.specs.Opens.{opened_made, opened_objects}
use Rattle.container_model.specs.Room.{IsSound}
use Rattle.container_model.specs.Saves.{are_objects, is_document}
use Rattle.container_steady.proofs.SteadyTells.{and_both, or_false, unless_ok}
use Rattle.container_documents.specs.Reading.{as_given as given_of}
use Rattle.container_core.specs.Opening.{MayRefuse, as_given, looked_at, room, unread}

-- ---- names and sizes
abbrev fine : Result (Unit {0}) ContainerFault
fine = Ok tt

opening_at : (b c : Bool) (next : Result Took ContainerFault) → unless b Busy (unless (not c) WrongState fine)
    ≡ fine → unless b Busy (unless (not c) WrongState next) ≡ next
opening_at true c next e = cc
opening_at false true next e = refl
opening_at false false next e = cc

-- where they pass, the file is looked at
pub opening_passes : (r : Record) (name : List ℕ) (w h : ℕ) (given : Given) → looked_at r name w h ≡ Ok tt
    → opened r name w h given ≡ opened_given r name w h given
opening_passes r name w h given e = opening_at (is_named name r.frames) (is_size w h) (opened_given r name w h given) e

-- the name as it is looked at
pub passed : (r : Record) (shown name : List ℕ) (w h : ℕ) → shown ≡ name → Ok tt ≡ looked_at r shown w h
    → looked_at r name w h ≡ Ok tt
passed r shown name w h s e = subst (λ (n : List ℕ). looked_at r n w h ≡ Ok tt) s (sym e)

pub barred : (r : Record) (shown name : List ℕ) (w h : ℕ) (file : Option (List ℕ)) (fault : ContainerFault)
    → shown ≡ name → Err fault ≡ looked_at r shown w h → MayRefuse r name w h file fault
barred r shown name w h file fault s e = unread (subst (λ (n : List ℕ). looked_at r n w h ≡ Err fault) s (sym e))

-- a file that is there, as it is read
pub read_is : (file : Option (List ℕ)) (bytes : List ℕ) (read d : Option Doc) → file ≡ Some bytes → read ≡ d
    → IsReadAs (Some bytes) (given_of read) → IsReadAs file (given_of d)
read_is file bytes read d e f h = subst (λ (x : Option (List ℕ)). IsReadAs x (given_of d)) (sym e)
    (subst (λ (x : Option Doc). IsReadAs (Some bytes) (given_of x)) f h)

-- ---- what the file gives, under a name and in a size that may be
module _ (r : Record) (name : List ℕ) (w h : ℕ) (file : Option (List ℕ)) (named : looked_at r name w h ≡ Ok tt) where
  pub no_file : file ≡ None → MayRefuse r name w h file NoSuch
  no_file e = as_given Given.Missing (subst (λ (f : Option (List ℕ)). IsReadAs f Given.Missing) (sym e) tt)
      (opening_passes r name w h Given.Missing named)

  pub bad_file : IsReadAs file Given.Broken → MayRefuse r name w h file BadFile
  bad_file is = as_given Given.Broken is (opening_passes r name w h Given.Broken named)

  pub document_taken : (d : Doc) (s : Record) (result : Result Answer ContainerFault)
      → IsReadAs file (Given.Holding d) → IfOk result (λ a. opened_document r name w h d ≡ Ok (counts_none s a))
      → IfOk result (λ a. (given : Given) × IsReadAs file given × (opened r name w h given ≡ Ok (counts_none s a)))
  document_taken d s (Ok a) is taken = (Given.Holding d, is, opening_passes r name w h (Given.Holding d) named ∙ taken)
  document_taken d s (Err fault) is taken = tt

  pub document_refused : (d : Doc) (result : Result Answer ContainerFault) → IsReadAs file (Given.Holding d)
      → IfErr result (Refuses (opened_document r name w h d)) → IfErr result (MayRefuse r name w h file)
  document_refused d (Ok a) is told = tt
  document_refused d (Err fault) is told = as_given (Given.Holding d) is
      (subst (λ (t : Result Took ContainerFault). Refuses t fault)
      (sym (opening_passes r name w h (Given.Holding d) named)) told)

-- ---- room
room_at : (b c d : Bool) (made : Took) → unless b Full (unless (c || d) NumbersSpent fine) ≡ fine
    → unless b Full (unless (c || d) NumbersSpent (Ok made)) ≡ Ok made
room_at true c d made e = cc
room_at false true d made e = cc
room_at false false true made e = cc
room_at false false false made e = refl

no_room_at : (b c : Bool) (made : Took) (fault : ContainerFault) → unless b Full (unless c NumbersSpent fine)
    ≡ Err fault → Refuses (unless b Full (unless c NumbersSpent (Ok made))) fault
no_room_at true c made fault e = (let same : Full ≡ fault = cc in
    subst (λ (f : ContainerFault). Refuses {A = Took} (Err Full) f) same refl)
no_room_at false true made fault e = (let same : NumbersSpent ≡ fault = cc in
    subst (λ (f : ContainerFault). Refuses {A = Took} (Err NumbersSpent) f) same refl)
no_room_at false false made fault e = cc

within_first : (r : Record) (name : List ℕ) (w h : ℕ) (d : Doc) → is_document d.objects ≡ true
    → opened_document r name w h d ≡ unless (nat_le MOST_FRAMES (length r.frames)) Full
    (unless (nat_le r.numbers (length r.frames) || nat_lt r.numbers (r.last_object + length d.objects))
    NumbersSpent (Ok (opened_made r name w h d)))
within_first r name w h d within = rw within refl

-- a document for which there is room is opened, and it isn't where there is none
pub room_opens : (r : Record) (name : List ℕ) (w h : ℕ) (d : Doc) → is_document d.objects ≡ true
    → room r (length d.objects) ≡ Ok tt → opened_document r name w h d ≡ Ok (opened_made r name w h d)
room_opens r name w h d within e =
    within_first r name w h d within ∙ room_at (nat_le MOST_FRAMES (length r.frames))
    (nat_le r.numbers (length r.frames)) (nat_lt r.numbers (r.last_object + length d.objects))
    (opened_made r name w h d) e

pub no_room : (r : Record) (name : List ℕ) (w h : ℕ) (d : Doc) (fault : ContainerFault)
    → is_document d.objects ≡ true → room r (length d.objects) ≡ Err fault
    → Refuses (opened_document r name w h d) fault
no_room r name w h d fault within e =
    subst (λ (t : Result Took ContainerFault). Refuses t fault) (sym (within_first r name w h d within))
    (no_room_at (nat_le MOST_FRAMES (length r.frames))
    (nat_le r.numbers (length r.frames) || nat_lt r.numbers (r.last_object + length d.objects))
    (opened_made r name w h d) fault e)

pub few_frames : (r : Record) (n : ℕ) → room r n ≡ Ok tt → length r.frames < 8
few_frames r n e = leb-false MOST_FRAMES (length r.frames)
    (unless_ok (nat_le MOST_FRAMES (length r.frames)) Full _ tt e).0

pub numbers_left : (r : Record) (n : ℕ) → IsSound r → room r n ≡ Ok tt → r.last_object + n ≤ 1000000
numbers_left r n s e =
    let a = unless_ok (nat_le MOST_FRAMES (length r.frames)) Full _ tt e in
    let b = unless_ok (nat_le r.numbers (length r.frames) || nat_lt r.numbers (r.last_object + n)) NumbersSpent _ tt
    a.1 in
    let c = or_false (nat_le r.numbers (length r.frames)) (nat_lt r.numbers (r.last_object + n)) b.0 in
    let fits : r.last_object + n ≤ r.numbers = ltb-false r.numbers (r.last_object + n) c.1 in
    let limit : r.numbers ≤ 1000000 = s.limit in
    omega (arith, fits, limit)

pub most_objects : (ds : List DocObject) → is_document ds ≡ true → length ds ≤ MOST_OBJECTS
most_objects ds h = leb-true (length ds) MOST_OBJECTS (and_both (nat_le (length ds) MOST_OBJECTS) (are_objects ds) h).0

-- ---- what is made: the objects' numbers are the next ones
pub numbers_next : (last f : ℕ) (ds : List DocObject) → map (λ o. o.number) (opened_objects last f ds)
    ≡ range_with_len (last + 1) (length ds)
numbers_next last f [] = refl
numbers_next last f (d ∷ ds) = ap (λ ns. (last + 1) ∷ ns) (numbers_next (last + 1) f ds)

abbrev told : ℕ → List ℕ → Answer
told f ns = record quiet_answer { frame = Some f; objects = ns }

abbrev left : Record → List Frame → List Object → ℕ → Answer → Took
left s fs os count a = counts_none (record s { frames = fs; objects = os; last_object = s.last_object + count }) a

pub made_is : (s r : Record) (name : List ℕ) (w h : ℕ) (d : Doc) (n count : ℕ) (frame : Frame) (fs : List Frame)
    (more os shown : List Object) (a : Answer)
    → s ≡ r → n ≡ length s.frames → count ≡ length d.objects → frame ≡ opened_frame name w h d.session
    → fs ≡ s.frames ++ frame ∷ []
    → more ≡ opened_objects s.last_object (n + 1) d.objects → os ≡ s.objects ++ more → shown ≡ more
    → a ≡ told (n + 1) (map (λ o. o.number) shown)
    → opened_made r name w h d ≡ left s fs os count a
made_is s r name w h d n count frame fs more os shown a e en ec ef efs em eos esh ea =
    let f : ℕ = length s.frames + 1 in
    let ds : List DocObject = d.objects in
    let made : List Object = opened_objects s.last_object f ds in
    let frames : List Frame = s.frames ++ opened_frame name w h d.session ∷ [] in
    let ns : List ℕ = range_with_len (s.last_object + 1) (length ds) in
    let more_is : more ≡ made = em ∙ ap (λ k. opened_objects s.last_object (k + 1) ds) en in
    let fs_is : frames ≡ fs = sym (efs ∙ ap (λ x. s.frames ++ x ∷ []) ef) in
    let os_is : s.objects ++ made ≡ os = sym (eos ∙ ap (λ xs. s.objects ++ xs) more_is) in
    let ns_is : map (λ o. o.number) shown ≡ ns = ap (map (λ o. o.number)) (esh ∙ more_is)
    ∙ numbers_next s.last_object f ds in
    let a_is : told f ns ≡ a = sym (ea ∙ (ap (λ k. told (k + 1) (map (λ o. o.number) shown)) en ∙ ap (told f) ns_is)) in
    ap (λ z. opened_made z name w h d) (sym e)
    ∙ (ap (λ x. left s x (s.objects ++ made) (length ds) (told f ns)) fs_is
    ∙ (ap (λ x. left s fs x (length ds) (told f ns)) os_is
    ∙ (ap (λ x. left s fs os x (told f ns)) (sym ec)
    ∙ ap (left s fs os count) a_is)))

-- ---- what a step keeps that is taken holds of the record after it, taken or refused, whatever the file gave
pub opening_keeps : (P : Record → Type 0) (Q : Given → Type 0) (r s : Record)
    (told : Given → Result Took ContainerFault) → P r → ((given : Given) (t : Took) → told given ≡ Ok t → P t.rec)
    → (result : Result Answer ContainerFault)
    → IfOk result (λ a. (given : Given) × Q given
    × (told given ≡ Ok (record { rec = s; answer = a; counted = [] }))) → OnErr result (s ≡ r) → P s
opening_keeps P Q r s told holds keeps (Ok a) taken kept =
    keeps taken.0 (record { rec = s; answer = a; counted = [] }) taken.2
opening_keeps P Q r s told holds keeps (Err fault) taken kept = subst P (sym kept) holds
