-- What is kept of the outlines of entries, and of a file.
use Rattle.std.proofs.Common.{◌≡◌, ◌∙◌, ℕ, List, Result, length, ap, subst, sym}
use Rattle.std.specs.Global.{Vec}
use Rattle.cfb_entries.specs.Entries.{entry_at, first_of, kind, size_of}
use Rattle.cfb_file.specs.Outline.{nested, outline, outline_of, part_of, sized}
use Rattle.tree_storage.specs.Change.{Seen, bytes, inner, map_ok}
use Rattle.cfb_entries.specs.Tree.{Tree, tree}
use Rattle.tree_storage.specs.declared.fault.TreeFault.{TreeFault}
use Rattle.read_outlines.specs.Keeping.{AreKeptOf, Wanted, all, on_path}
use Rattle.read_outlines.specs.Streams.{stream_at}
use Rattle.read_outlines.specs.View.{shown, shown_parts}
use Rattle.read_outlines.specs.declared.outline.Outline.{Outline}
use Rattle.read_outlines.specs.declared.outline.Part.{Part}
use Rattle.read_outlines.specs.declared.outline.Part.TheVariants.{Storage, Stream}
use Rattle.read_outlines.specs.declared.outline.Part.TheViews.{roll-Outline}
use Rattle.read_outlines.specs.declared.outline.Place.{Place}
use Rattle.read_outlines.proofs.Kept.{IsWholeOf, kept_inner, kept_same, kept_whole}
use Rattle.read_outlines.proofs.Outlines.{AreSized, shown-nested, shown-roll, shown-stream, sized-all, view-roll}
use Rattle.read_outlines.specs.Places.{AreInOrder, AreTold, IsFileKept, IsPartKept, IsPlaced, IsStorageKept, Leads}
use Rattle.read_outlines.specs.Places.{holds, lies, storage}
use Rattle.read_outlines.proofs.Told.{told_long, view_nested, view_sized}

module _ (dir : List ℕ) (content : Place → List ℕ) (w : Wanted) (id : ℕ) where
  -- a storage, all of whose parts were read
  pub storage_kept : {A : Type 0} (IsRead : Tree → Type 0) (items : List ℕ) (ids : Vec A) (class : List ℕ)
      (state : ℕ) (whole : List (List ℕ × Part)) (parts : Vec (List ℕ × Part))
      → AreInOrder dir id items → AreTold dir items whole → AreSized content whole → AreKeptOf w whole parts.items
      → length items ≡ length ids.items
      → IsRead (tree class state (shown_parts content whole))
      → IsStorageKept dir content w id IsRead
      (roll-Outline (record { class = class; state = state; parts = parts }))
  storage_kept IsRead items ids class state whole parts ordered told each keeps long is_read =
      let k : IsWholeOf class state w whole parts = kept_whole class state w ids whole parts
      (told_long dir items whole told ∙ long) keeps in
      let full : Outline = roll-Outline (record { class = class; state = state; parts = k.all_parts }) in
      let shows : shown content full ≡ tree class state (shown_parts content k.all_parts.items) =
      shown-roll content class state k.all_parts in
      record {
        whole = full;
        is_read = subst IsRead (ap (λ ps. tree class state (shown_parts content ps)) (sym k.items_are) ∙ sym shows)
            is_read;
        sized = ap outline_of shows ∙ ap (outline class state)
            (sized-all content k.all_parts.items (subst (AreSized content) (sym k.items_are) each))
            ∙ sym (view-roll class state k.all_parts);
        told = storage id full items ordered (subst (AreTold dir items) (sym k.items_are) told);
        is_kept = k.is_kept;
      }

  -- a stream, where its entry says that it lies
  pub stream_kept : (IsRead : Seen → Type 0) (place : Place) → kind (entry_at dir id) ≡ 2
      → place.first ≡ first_of (entry_at dir id) → place.size ≡ size_of (entry_at dir id)
      → length (content place) ≡ place.size → IsRead (bytes (content place))
      → IsPartKept dir content w id IsRead (Stream place)
  stream_kept IsRead place is_stream first size long is_read = record {
    whole = Stream place;
    is_read = subst IsRead (sym (shown-stream content place)) is_read;
    sized = ap part_of (shown-stream content place) ∙ ap sized long ∙ sym (view_sized place);
    told = lies id place is_stream first size;
    is_kept = kept_same w (Stream place);
  }

  pub nested_kept : (IsRead : Seen → Type 0) (IsReadIn : Tree → Type 0) (o : Outline) → kind (entry_at dir id) ≡ 1
      → ((t : Tree) → IsReadIn t → IsRead (inner t))
      → IsStorageKept dir content w id IsReadIn o → IsPartKept dir content w id IsRead (Storage o)
  nested_kept IsRead IsReadIn o is_storage f h = record {
    whole = Storage h.whole;
    is_read = subst IsRead (sym (shown-nested content h.whole)) (f (shown content h.whole) h.is_read);
    sized = ap part_of (shown-nested content h.whole) ∙ ap nested h.sized ∙ sym (view_nested h.whole);
    told = holds id h.whole is_storage h.told;
    is_kept = kept_inner w h.whole o h.is_kept;
  }

module _ (file : List ℕ) (content : Place → List ℕ) (o : Outline) where
  -- a file of whose outline all was kept
  pub placed_whole : IsFileKept file content all o → IsPlaced file (shown content o) o
  placed_whole h = subst (λ (x : Outline). IsPlaced file (shown content x) x) (sym h.is_kept) h.placed

  -- and one of whose outline a path was
  pub placed_leads : (names : List (List ℕ)) (r told : Result Place TreeFault)
      → IsFileKept file content (on_path names) o
      → ((f : Place → List ℕ) → map_ok f r ≡ stream_at names (shown f o)) → r ≡ told → Leads file names told
  placed_leads names r told h at is = record {
    t = shown content h.whole;
    whole = h.whole;
    placed = h.placed;
    stands = λ f. ap (map_ok f) (sym is) ∙ at f ∙ h.is_kept f;
  }
