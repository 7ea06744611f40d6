-- What a file gives, from the tree that it denotes.
use Rattle.std.proofs.Common.{◌≡◌, ◌≤◌, ℕ, Bool, true, false, List, [], ◌∷◌, length, Option, Some, None, Result, Ok}
use Rattle.std.proofs.Common.{Err, refl, sym, ◌∙◌, ap, subst}
use Rattle.std.proofs.Math.Logic.{∥∥₁_elim, ∥∥₁_map}
use Rattle.std.proofs.lemmas.Bool.{le-leb}
use Rattle.std.specs.Prelude.{◌&&◌, nat_le}
use Rattle.cfb_file.specs.Denotes.{Denotes}
use Rattle.cfb_file.proofs.Unique.{one_tree}
use Rattle.cfb_entries.specs.Tree.{Tree}
use Rattle.ole_model.specs.Documents.{Doc}
use Rattle.ole_model.specs.DocOf.{DocOf, doc_read, is_object}
use Rattle.ole_model.specs.Layouts.{MOST_OBJECTS}
use Rattle.ole_model.specs.declared.object.DocObject.{DocObject}
use Rattle.ole_model.specs.declared.fault.OleFault.{OleFault}
use Rattle.ole_streams.specs.Docs.{AreHeld, IsDoc}
use Rattle.container_model.specs.Opens.{Given, IsReadAs}
use Rattle.container_model.specs.Saves.{are_objects, is_document}
use Rattle.container_documents.specs.Reading.{IsHeldAs, as_given}

⊥_prop : (a b : ⊥) → a ≡ b
⊥_prop a b = absurd a

-- the tree that is denoted holds this document, or none
pub read_as : (file : List ℕ) (t : Tree) (d : Option Doc) → ∥ Denotes file t ∥₁ → IsHeldAs t d
    → IsReadAs (Some file) (as_given d)
read_as file t None denoted h = λ u ds den doc. ∥∥₁_elim denoted ⊥_prop
    (λ mine. h ds (subst (λ (v : Tree). DocOf v ds) (one_tree file u t den mine) doc))
read_as file t (Some ds) denoted h = ∥∥₁_map denoted (λ mine. (t, mine, h))

-- no tree is denoted
pub unread : (file : List ℕ) → ((t : Tree) → Denotes file t → ⊥) → IsReadAs (Some file) Given.Broken
unread file k = λ t ds den doc. k t den

-- a tree that is refused holds no document
pub none_held : (t : Tree) (fault : OleFault) → doc_read t ≡ Err fault → IsHeldAs t None
none_held t fault e = λ ds doc. (let both : ◌≡◌ {A = Result Doc OleFault} (Err fault) (Ok ds) = sym e ∙ doc in cc)

-- what a document promises is that it is one
both_hold : (a b : Bool) → a ≡ true → b ≡ true → (a && b) ≡ true
both_hold true b e g = g
both_hold false b e g = cc

all_within : (ds : List DocObject) → AreHeld ds → are_objects ds ≡ true
all_within [] h = refl
all_within (d ∷ ds) h = both_hold (is_object d) (are_objects ds) h.0.within (all_within ds h.1)

pub document_within : (d : Doc) → IsDoc d → is_document d.objects ≡ true
document_within d h = both_hold (nat_le (length d.objects) MOST_OBJECTS) (are_objects d.objects)
    (le-leb (length d.objects) MOST_OBJECTS h.few) (all_within d.objects h.held)
