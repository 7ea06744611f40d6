-- A document that fits is refused for want of memory alone.
use Rattle.std.proofs.Common.{◌≡◌, ◌≤◌, ◌<◌, ◌+◌, ◌++◌, ◌&&◌, ℕ, zero, suc, Bool, true, false, List, [], ◌∷◌, length}
use Rattle.std.proofs.Common.{drop, Some, Result, Ok, Err, refl, sym, ap, subst, arith, get_or, slice_get, nat_le}
use Rattle.std.proofs.Common.{if◌then◌else◌}
use Rattle.std.specs.Prelude.{IsOk}
use Rattle.std.proofs.lemmas.Bool.{leb-true}
use Rattle.std.proofs.lemmas.List.{length-append}
use Rattle.std.proofs.lemmas.Option.{slice_get_read}
use Rattle.ole_model.specs.declared.object.DocObject.{DocObject}
use Rattle.ole_model.specs.Documents.{Doc}
use Rattle.ole_model.specs.DocOf.{is_object, pushed}
use Rattle.ole_model.specs.Layouts.{MOST_OBJECTS}
use Rattle.ole_model.specs.declared.fault.OleFault.{OleFault}
use Rattle.ole_model.specs.declared.fault.OleFault.TheVariants.{Truncated, BadVersion, Linked, BadString, NotADocument}
use Rattle.ole_model.specs.declared.fault.OleFault.TheVariants.{TooManyObjects, NoMemory}
use Rattle.ole_streams.specs.Docs.{Pushes}
use Rattle.cfb_file.specs.Refusals.{writable}
use Rattle.cfb_file.specs.declared.fault.WriteFault.{WriteFault}
use Rattle.cfb_file.specs.declared.fault.WriteFault.TheVariants.{TooBig}
use Rattle.container_model.specs.declared.answer.FrameDocument.{FrameDocument}
use Rattle.container_model.specs.declared.answer.Part.{Part}
use Rattle.container_model.specs.declared.fault.ContainerFault.{ContainerFault}
use Rattle.container_model.specs.declared.fault.ContainerFault.TheVariants.{Full}
use Rattle.container_model.specs.Saves.{are_objects, document_tree, fitting, fitting_in, held_part, held_parts}
use Rattle.container_model.specs.Saves.{is_document}

both_true : (a b : Bool) → (a && b) ≡ true → (a ≡ true) × (b ≡ true)
both_true true b e = (refl, e)
both_true false b e = cc

-- each object is as a document holds it
each_held : (parts : List Part) (i : ℕ) (p : Part) → are_objects (held_parts parts) ≡ true
    → slice_get parts i ≡ Some p → is_object (held_part p) ≡ true
each_held [] i p a e = cc
each_held (q ∷ qs) zero p a e =
    (let same : q ≡ p = cc in subst (λ (z : Part). is_object (held_part z) ≡ true) same
    (both_true (is_object (held_part q)) (are_objects (held_parts qs)) a).0)
each_held (q ∷ qs) (suc i) p a e =
    each_held qs i p (both_true (is_object (held_part q)) (are_objects (held_parts qs)) a).1 e

left_some : (parts : List Part) (i : ℕ) → i < length parts → 1 ≤ length (held_parts (drop i parts))
left_some [] i lt = absurd (omega arith)
left_some (p ∷ ps) zero lt = omega arith
left_some (p ∷ ps) (suc i) lt = left_some ps i (omega arith)

below : (n m : ℕ) → n < m → nat_le m n ≡ false
below n m lt = grind arith

-- so one more can be put to those before it
pub can_push : (parts : List Part) (i : ℕ) (doc : Doc) (p : Part) (x : DocObject)
    → is_document (held_parts parts) ≡ true → i < length parts → p ≡ get_or parts i p
    → doc.objects ++ held_parts (drop i parts) ≡ held_parts parts → x ≡ held_part p → IsOk (pushed doc x)
can_push parts i doc p x fine lt at inv is =
    let both = both_true (nat_le (length (held_parts parts)) MOST_OBJECTS) (are_objects (held_parts parts)) fine in
    let some = left_some parts i lt in
    let sum = length-append doc.objects (held_parts (drop i parts)) in
    let whole : length (doc.objects ++ held_parts (drop i parts)) ≡ length (held_parts parts) = ap length inv in
    let most : length (held_parts parts) ≤ MOST_OBJECTS = leb-true (length (held_parts parts)) MOST_OBJECTS both.0 in
    let few : nat_le MOST_OBJECTS (length doc.objects) ≡ false =
    below (length doc.objects) MOST_OBJECTS (omega (arith, some, sum, whole, most)) in
    let object : is_object (held_part p) ≡ true = each_held parts i p both.1
    (slice_get_read parts (length parts) i p refl lt at) in
    subst (λ (z : DocObject). IsOk (pushed doc z)) (sym is) (rw (few, object) refl)

not_refused : (told : Result Doc OleFault) (fault : OleFault) → IsOk told → told ≡ Err fault → ⊥
not_refused told fault ok e =
    (let no : ◌≡◌ {A = Bool} false true = subst (λ (z : Result Doc OleFault). IsOk z) e ok in cc)

pub lacks_memory : (told : Result Doc OleFault) (old new : Doc) (fault : OleFault) → IsOk told
    → Pushes (Err fault) told old new → fault ≡ NoMemory
lacks_memory told old new NoMemory ok h = refl
lacks_memory told old new Truncated ok h = absurd (not_refused told Truncated ok h.0)
lacks_memory told old new BadVersion ok h = absurd (not_refused told BadVersion ok h.0)
lacks_memory told old new Linked ok h = absurd (not_refused told Linked ok h.0)
lacks_memory told old new BadString ok h = absurd (not_refused told BadString ok h.0)
lacks_memory told old new NotADocument ok h = absurd (not_refused told NotADocument ok h.0)
lacks_memory told old new TooManyObjects ok h = absurd (not_refused told TooManyObjects ok h.0)

-- what fits is a document, and its tree is written
fits_by : (d : FrameDocument) (b : Bool) (told : Result (Unit {0}) WriteFault)
    → ◌≡◌ {A = Result FrameDocument ContainerFault} (if b then fitting_in d told else Err Full) (Ok d)
    → (b ≡ true) × (told ≡ Err TooBig → ⊥)
fits_by d true told e = (
  refl,
  λ q. (let no : fitting_in d (Err TooBig) ≡ Ok d =
      subst (λ (z : Result (Unit {0}) WriteFault). fitting_in d z ≡ Ok d) q e in cc),
)
fits_by d false told e = cc

pub fits_document : (d : FrameDocument) → fitting d ≡ Ok d → is_document (held_parts d.parts) ≡ true
fits_document d e = (fits_by d (is_document (held_parts d.parts)) (writable (document_tree d)) e).0

pub fits_file : (d : FrameDocument) → fitting d ≡ Ok d → writable (document_tree d) ≡ Err TooBig → ⊥
fits_file d e = (fits_by d (is_document (held_parts d.parts)) (writable (document_tree d)) e).1
