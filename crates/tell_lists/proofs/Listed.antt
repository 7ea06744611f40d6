-- What is listed of a file, and why it isn't.
use Rattle.std.proofs.Common.{◌≡◌, ◌≤◌, ◌∙◌, ℕ, List, Option, Some, None, Result, Ok, Err, IfErr, IfSome, OnOk, ap}
use Rattle.std.proofs.Common.{length, subst, sym}
use Rattle.std.proofs.Math.Logic.{∥∥₁_map}
use Rattle.std.specs.Io.KnownBytes.{Appends}
use Rattle.cfb_header.specs.Header.{HeaderValue, header_read}
use Rattle.cfb_header.specs.declared.fault.ChainFault.{ChainFault}
use Rattle.cfb_header.proofs.Headers.{read_whole}
use Rattle.cfb_entries.specs.Tree.{Tree}
use Rattle.cfb_file.specs.Alike.{Alike}
use Rattle.cfb_file.specs.Denotes.{Denotes}
use Rattle.read_outlines.specs.declared.outline.Outline.{Outline}
use Rattle.read_source.specs.Filled.{MayRefusePlaces}
use Rattle.read_source.specs.declared.fault.PlacesFault.{PlacesFault}
use Rattle.read_source.specs.declared.fault.PlacesFault.TheVariants.{Unreadable, TooBig, NoMemory, Header}
use Rattle.tell_forms.specs.Lines.{listed}
use Rattle.tell_forms.specs.Listings.{told}
use Rattle.tell_forms.specs.declared.asked_listings.Listing.{Listing}
use Rattle.tell_forms.specs.declared.asked_listings.Listing.TheVariants.{Lines}
use Rattle.read_outlines.specs.Places.{IsPlaced}
use Rattle.read_files.specs.Reads.{MayRefuseFile, MayRefuseRead, chain_fault}
use Rattle.read_files.specs.declared.fault.ReadFault.{ReadFault}
use Rattle.read_files.specs.declared.fault.ReadFault.TheVariants as read
use Rattle.read_files.proofs.ReadingAlike.{alike_read}
use Rattle.read_files.proofs.ReadingTold.{walk_refused}
use Rattle.read_files.proofs.ReadingRefused.{file_header}
use Rattle.text_io.specs.Input.{most}
use Rattle.tell_lists.specs.Faults.{of_places_fault}
use Rattle.tell_lists.specs.Lists.{IsOfWriting, Lists, ListsAs, MayRefuseList}
use Rattle.tell_lists.specs.declared.fault.ListFault.{ListFault}
use Rattle.tell_lists.specs.declared.fault.ListFault.TheVariants as list
use Rattle.tell_lists.proofs.Placed.{placed_alike}

-- ---- what was written of a file of which some blocks were read
pub lists_as : (form : Listing) (a b : List ℕ) (o : Outline) (old new : Option (List ℕ)) → Alike a b → length a ≤ most
    → (t : Tree) × IsPlaced b t o → Appends old new (told form o) → ListsAs form a old new
lists_as form a b o old new h few p w =
    let q : (t : Tree) × IsPlaced a t o = placed_alike a b o h p in
    record { t = q.0; o = o; placed = ∣ q.1 ∣₁; outlined = q.1.outlined; few = few; written = w }

denoted : (a b : List ℕ) (o : Outline) → Alike a b → (t : Tree) × IsPlaced b t o → (t : Tree) × ∥ Denotes a t ∥₁
denoted a b o h p = let q : (t : Tree) × IsPlaced a t o = placed_alike a b o h p in (q.0, ∣ q.1.denotes ∣₁)

pub not_written : (a b : List ℕ) (o : Outline) (fault : ListFault) → Alike a b → (t : Tree) × IsPlaced b t o
    → IsOfWriting fault → MayRefuseList a fault
not_written a b o (list.Input fault) h p r = absurd r
not_written a b o (list.Read fault) h p r = absurd r
not_written a b o list.Unwritable h p r = denoted a b o h p
not_written a b o list.NoMemory h p r = denoted a b o h p

-- the lines of an outline of the tree are the tree's
pub in_lines : (file : List ℕ) (old new : Option (List ℕ)) → ListsAs Lines file old new → Lists file old new
in_lines file old new l = record {
  t = l.t;
  denotes = ∥∥₁_map l.placed (λ p. p.denotes);
  few = l.few;
  written = subst (λ x. Appends old new (listed x)) l.outlined l.written;
}

-- ---- why its blocks aren't read
same_fault : {e f : ChainFault} → ◌≡◌ {A = Result HeaderValue ChainFault} (Err e) (Err f) → e ≡ f
same_fault p = cc

no_fault : {h : HeaderValue} {e : ChainFault} → ◌≡◌ {A = Result HeaderValue ChainFault} (Ok h) (Err e) → ⊥
no_fault p = cc

pub places_refused : (a : List ℕ) (fault : PlacesFault) → MayRefusePlaces a fault
    → MayRefuseList a (of_places_fault fault)
places_refused a Unreadable r = tt
places_refused a TooBig r = r
places_refused a NoMemory r = tt
places_refused a (Header fault) r = record {
  header = λ e he. ap chain_fault (same_fault (sym r ∙ he));
  reads = λ t d. absurd (no_fault (sym (read_whole a d.header) ∙ r));
  told = file_header a fault (sym r);
}

-- ---- where the bytes are known
pub some_map : (known : Option (List ℕ)) (P Q : List ℕ → Type 0) → ((a : List ℕ) → P a → Q a) → IfSome known P
    → IfSome known Q
some_map None P Q f h = tt
some_map (Some a) P Q f h = f a h

pub some_both : (known : Option (List ℕ)) (P Q R : List ℕ → Type 0) → ((a : List ℕ) → P a → Q a → R a)
    → IfSome known P → IfSome known Q → IfSome known R
some_both None P Q R f h i = tt
some_both (Some a) P Q R f h i = f a h i

-- what is told of the blocks that were read is told of the file
pub read_alike : {A : Type 0} (known : Option (List ℕ)) (b : List ℕ) (h : HeaderValue) (r : Result A ReadFault)
    (fault : ReadFault) → IfSome known (λ a. Alike a b) → header_read b ≡ Ok h → r ≡ Err fault
    → ((t : Tree) → Denotes b t → IfErr r (λ e. e ≡ read.NoMemory)) → IfErr r (MayRefuseFile b)
    → IfSome known (λ a. MayRefuseRead a fault)
read_alike known b h r fault alike header is reads told =
    some_map known (λ a. Alike a b) (λ a. MayRefuseRead a fault)
    (λ a s. alike_read a b fault s (walk_refused b h r fault header is reads told)) alike

-- ---- what is answered
pub ok_map : {A E : Type 0} (r : Result A E) (P Q : Type 0) → (P → Q) → OnOk r P → OnOk r Q
ok_map (Ok x) P Q f h = f h
ok_map (Err e) P Q f h = tt

pub err_map : {A E : Type 0} (r : Result A E) (P Q : E → Type 0) → ((e : E) → P e → Q e) → IfErr r P → IfErr r Q
err_map (Ok x) P Q f h = tt
err_map (Err e) P Q f h = f e h
