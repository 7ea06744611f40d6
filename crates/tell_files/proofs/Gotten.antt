-- A stream that was found where it lies.
use Rattle.std.proofs.Common.{◌≡◌, ◌≤◌, ◌∙◌, ℕ, List, Option, Result, Ok, Err, IsOk, ap, length, refl, sym, subst}
use Rattle.std.specs.Io.KnownBytes.{Appends}
use Rattle.tree_storage.specs.Change.{map_ok}
use Rattle.cfb_entries.specs.Tree.{Tree}
use Rattle.tree_storage.specs.declared.fault.TreeFault.{TreeFault}
use Rattle.cfb_file.specs.Alike.{Alike}
use Rattle.cfb_file.specs.Denotes.{Denotes}
use Rattle.read_outlines.specs.Streams.{stream_at}
use Rattle.read_outlines.specs.declared.outline.Place.{Place}
use Rattle.read_outlines.specs.Places.{IsPlaced, Leads}
use Rattle.tell_files.specs.Getting.{Gets, MayRefuseGet}
use Rattle.tell_lists.proofs.Listed.{places_refused}
use Rattle.tell_files.specs.declared.fault.GetFault.TheVariants as get
use Rattle.read_source.specs.Filled.{MayRefusePlaces}
use Rattle.read_source.specs.declared.fault.PlacesFault.{PlacesFault}
use Rattle.read_source.specs.declared.fault.PlacesFault.TheVariants as places
use Rattle.read_streams.specs.Blocks.{Begins, held_at, held_in}
use Rattle.read_streams.specs.declared.blocks.Lies.{Lies}
use Rattle.read_streams.specs.declared.fault.CopyFault.{CopyFault}
use Rattle.read_streams.specs.declared.fault.CopyFault.TheVariants as copy
use Rattle.read_streams.proofs.Shown.{shown_is}
use Rattle.tell_files.specs.Gets.{Begun, LiesAt, Stands, of_copy_fault, of_places_fault}
use Rattle.tell_lists.proofs.Placed.{placed_alike}
use Rattle.text_io.specs.Input.{most}

pub catalog_refused : (a : List ℕ) (path : List (List ℕ)) (fault : PlacesFault) → MayRefusePlaces a fault
    → MayRefuseGet a path (of_places_fault fault)
catalog_refused a path places.Unreadable r = tt
catalog_refused a path places.TooBig r = r
catalog_refused a path places.NoMemory r = tt
catalog_refused a path (places.Header fault) r = places_refused a (places.Header fault) r

-- where a path leads in one file it leads in the other one
module _ (a b : List ℕ) (path : List (List ℕ)) (h : Alike a b) where
  led : (there : Result Place TreeFault) → Leads b path there → (t : Tree) × (d : Denotes a t)
      × (stream_at path t ≡ map_ok (held_at a d.layout) there)
  led there l =
      let q : (t : Tree) × IsPlaced a t l.whole = placed_alike a b l.whole h (l.t, l.placed) in
      let held : Place → List ℕ = held_at a q.1.denotes.layout in
      (q.0, q.1.denotes, sym (ap (stream_at path) (shown_is a q.0 l.whole q.1)) ∙ sym (l.stands held))

  pub lies_at : (place : Place) → Leads b path (Ok place) → LiesAt a path place
  lies_at place l = led (Ok place) l

  pub missing : (fault : TreeFault) → Leads b path (Err fault) → MayRefuseGet a path (get.Tree fault)
  missing fault l =
      let q : (t : Tree) × (d : Denotes a t) × (stream_at path t ≡ Err fault) = led (Err fault) l in
      (q.0, ∣ q.1 ∣₁, q.2)

-- the blocks that were found are those of the place
pub found_stands : (a : List ℕ) (path : List (List ℕ)) (place : Place) (lies : Lies) → length a ≤ most
    → LiesAt a path place → ((t : Tree) → (d : Denotes a t) → held_in a lies ≡ held_at a d.layout place)
    → Stands a path lies
found_stands a path place lies few q each = (q.0, ∣ q.1 ∣₁, q.2 ∙ ap (λ xs. Ok xs) (sym (each q.0 q.1)), few)

pub gets : (a : List ℕ) (path : List (List ℕ)) (lies : Lies) (old new : Option (List ℕ)) → Stands a path lies
    → Appends old new (held_in a lies) → Gets a path old new
gets a path lies old new s w =
    record { t = s.0; denotes = s.1; few = s.3; content = held_in a lies; stands = s.2; written = w }

pub begun : (a : List ℕ) (path : List (List ℕ)) (lies : Lies) (old new : Option (List ℕ)) → Stands a path lies
    → Begins old new (held_in a lies) → Begun a path old new
begun a path lies old new s w = record { t = s.0; denotes = s.1; content = held_in a lies; stands = s.2; begins = w }

pub copy_refused : (a : List ℕ) (path : List (List ℕ)) (lies : Lies) (fault : CopyFault) → Stands a path lies
    → MayRefuseGet a path (of_copy_fault fault)
copy_refused a path lies copy.Unreadable s = tt
copy_refused a path lies copy.NoMemory s = tt
copy_refused a path lies copy.Unwritable s = (s.0, s.1, subst (λ r. IsOk r) (sym s.2) refl)
