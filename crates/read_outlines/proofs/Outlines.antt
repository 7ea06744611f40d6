-- What an outline shows, part by part.
use Rattle.std.proofs.Common.{◌≡◌, ◌∙◌, ℕ, List, [], ◌∷◌, ◌++◌, ap, refl, sym}
use Rattle.std.specs.Global.{Vec}
use Rattle.cfb_names.specs.Names.{key}
use Rattle.cfb_entries.specs.Tree.{Tree, Children, tree, none}
use Rattle.tree_storage.specs.Change.{Seen, bytes, inner, child}
use Rattle.cfb_file.specs.Outline as model
use Rattle.cfb_file.specs.Outline.{outline, outline_of, outlines_of, part, part_of}
use Rattle.read_outlines.specs.View.{node_step, outline_step, outline_view, part_step, part_view, parts_view, shown}
use Rattle.read_outlines.specs.View.{shown_part, shown_parts, storage_step}
use Rattle.read_outlines.specs.declared.outline.Outline.{Outline, fold-roll-Outline, fold_out-Outline}
use Rattle.read_outlines.specs.declared.outline.Part.{Part, fold-roll-Part}
use Rattle.read_outlines.specs.declared.outline.Part.TheOpen.{Part-F}
use Rattle.read_outlines.specs.declared.outline.Part.TheVariants as variant
use Rattle.read_outlines.specs.declared.outline.Part.TheViews.{roll-Outline, rolls-Storage, rolls-Stream}
use Rattle.read_outlines.specs.declared.outline.Place.{Place}
use Rattle.read_outlines.proofs.Followed.{followed}

pub followed-front : (k : List ℕ) (c : List ℕ × Seen) (cs ds : Children)
    → followed (child k c cs) ds ≡ child k c (followed cs ds)
followed-front k (n, bytes b) cs ds = refl
followed-front k (n, inner t) cs ds = refl

pub outlines-child : (k n : List ℕ) (s : Seen) (cs : Children) → outlines_of (child k (n, s) cs)
    ≡ part n (part_of s) (outlines_of cs)
outlines-child k n (bytes b) cs = refl
outlines-child k n (inner t) cs = refl

pub view-roll : (class : List ℕ) (state : ℕ) (ps : Vec (List ℕ × Part))
    → outline_view (roll-Outline (record { class = class; state = state; parts = ps }))
    ≡ outline class state (parts_view ps.items)
view-roll class state ps = fold-roll-Outline model.Part model.Outline part_step outline_step
    (record { class = class; state = state; parts = ps })

module _ (content : Place → List ℕ) where
  pub shown-roll : (class : List ℕ) (state : ℕ) (ps : Vec (List ℕ × Part))
      → shown content (roll-Outline (record { class = class; state = state; parts = ps }))
      ≡ tree class state (shown_parts content ps.items)
  shown-roll class state ps = fold-roll-Outline Seen Tree (node_step content) (storage_step content)
      (record { class = class; state = state; parts = ps })

  pub shown-out : (o : Outline) → shown content o ≡ tree o.class o.state (shown_parts content o.parts.items)
  shown-out o = fold_out-Outline Seen Tree (node_step content) (storage_step content) o

  pub shown-nested : (o : Outline) → shown_part content (variant.Storage o) ≡ inner (shown content o)
  shown-nested o = ap (shown_part content) (sym (rolls-Storage o)) ∙ fold-roll-Part Seen Tree (node_step content)
      (storage_step content) (Part-F.Storage o)

  pub shown-stream : (place : Place) → shown_part content (variant.Stream place) ≡ bytes (content place)
  shown-stream place = ap (shown_part content) (sym (rolls-Stream place))
      ∙ fold-roll-Part Seen Tree (node_step content) (storage_step content) (Part-F.Stream place)

  pub shown-push : (ps : List (List ℕ × Part)) (p : List ℕ × Part) → shown_parts content (ps ++ p ∷ [])
      ≡ followed (shown_parts content ps) (child (key p.0) (p.0, shown_part content p.1) none)
  shown-push [] p = refl
  shown-push (q ∷ ps) p = ap (child (key q.0) (q.0, shown_part content q.1)) (shown-push ps p)
      ∙ sym (followed-front (key q.0) (q.0, shown_part content q.1) (shown_parts content ps)
      (child (key p.0) (p.0, shown_part content p.1) none))

  -- each part is as long as its stream
  abbrev pub AreSized : List (List ℕ × Part) → Type 0
  AreSized [] = Unit {0}
  AreSized (p ∷ ps) = (part_of (shown_part content p.1) ≡ part_view p.1) × AreSized ps

  pub sized-push : (ps : List (List ℕ × Part)) (p : List ℕ × Part) → AreSized ps
      → part_of (shown_part content p.1) ≡ part_view p.1 → AreSized (ps ++ p ∷ [])
  sized-push [] p h e = (e, tt)
  sized-push (q ∷ ps) p h e = (h.0, sized-push ps p h.1 e)

  pub sized-all : (ps : List (List ℕ × Part)) → AreSized ps → outlines_of (shown_parts content ps) ≡ parts_view ps
  sized-all [] h = refl
  sized-all (p ∷ ps) h = outlines-child (key p.0) p.0 (shown_part content p.1) (shown_parts content ps)
      ∙ (λ i. part p.0 (h.0 i) (sized-all ps h.1 i))
