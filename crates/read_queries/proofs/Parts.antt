-- Where two trees are one, so are their parts; where an outline tells a tree's sizes, so does each of its parts.
use Rattle.std.proofs.Common.{◌≡◌, ◌∙◌, ℕ, List, [], ◌∷◌, ap, drop, rules, subst, suc, sym, zero}
use Rattle.cfb_names.specs.Names.{key}
use Rattle.cfb_entries.specs.Tree.{Children, none, tree}
use Rattle.tree_storage.specs.Change.{Seen, bytes, inner, child}
use Rattle.tree_storage.specs.View.{children, seen, view}
use Rattle.tree_storage.specs.declared.nodes.Node.{Node}
use Rattle.tree_storage.specs.declared.nodes.Storage.{Storage}
use Rattle.tree_storage.proofs.Entries.{view-out}
use Rattle.cfb_file.specs.Outline as model
use Rattle.cfb_file.specs.Outline.{Parts, outline, outline_of, outlines_of, nested, part, part_of, sized}
use Rattle.read_outlines.specs.View.{outline_step, outline_view, part_step, part_view, parts_view, shown, shown_part}
use Rattle.read_outlines.specs.View.{shown_parts}
use Rattle.read_outlines.specs.declared.outline.Part.{Part}
use Rattle.read_outlines.specs.declared.outline.Outline.{Outline, fold_out-Outline}
use Rattle.read_outlines.specs.declared.outline.Place.{Place}
use Rattle.read_outlines.proofs.Outlines.{AreSized, outlines-child, shown-out}

pub tree_is : (c d : List ℕ) (s t : ℕ) (cs ds : Children) → tree c s cs ≡ tree d t ds → (c ≡ d) × (s ≡ t) × (cs ≡ ds)
tree_is c d s t cs ds h = (search rules, search rules, search rules)

pub child_is : (k q : List ℕ) (c d : List ℕ × Seen) (cs ds : Children) → child k c cs ≡ child q d ds
    → (k ≡ q) × (c.0 ≡ d.0) × (c.1 ≡ d.1) × (cs ≡ ds)
child_is k q (n, bytes a) (m, bytes b) cs ds h = (search rules, search rules, search rules, search rules)
child_is k q (n, bytes a) (m, inner b) cs ds h = absurd (search rules)
child_is k q (n, inner a) (m, bytes b) cs ds h = absurd (search rules)
child_is k q (n, inner a) (m, inner b) cs ds h = (search rules, search rules, search rules, search rules)

pub child_none : (k : List ℕ) (c : List ℕ × Seen) (cs : Children) → child k c cs ≡ none → ⊥
child_none k (n, bytes a) cs h = search rules
child_none k (n, inner a) cs h = search rules

part_is : (n m : List ℕ) (a b : model.Part) (ps qs : Parts) → part n a ps ≡ part m b qs → (a ≡ b) × (ps ≡ qs)
part_is n m (sized a) (sized b) ps qs h = (search rules, search rules)
part_is n m (sized a) (nested b) ps qs h = absurd (search rules)
part_is n m (nested a) (sized b) ps qs h = absurd (search rules)
part_is n m (nested a) (nested b) ps qs h = (search rules, search rules)

outline_is : (c d : List ℕ) (s t : ℕ) (ps qs : Parts) → outline c s ps ≡ outline d t qs → ps ≡ qs
outline_is c d s t ps qs h = search rules

module _ (content : Place → List ℕ) where
  sized_parts : (ps : List (List ℕ × Part)) → outlines_of (shown_parts content ps) ≡ parts_view ps → AreSized content ps
  sized_parts [] h = tt
  sized_parts (p ∷ ps) h =
      let is = part_is p.0 p.0 (part_of (shown_part content p.1)) (part_view p.1)
      (outlines_of (shown_parts content ps)) (parts_view ps)
      (sym (outlines-child (key p.0) p.0 (shown_part content p.1) (shown_parts content ps)) ∙ h) in
      (is.0, sized_parts ps is.1)

  -- the parts of an outline that tells a tree's sizes tell theirs
  pub sized_all : (o : Outline) → outline_of (shown content o) ≡ outline_view o → AreSized content o.parts.items
  sized_all o h = sized_parts o.parts.items
      (outline_is o.class o.class o.state o.state (outlines_of (shown_parts content o.parts.items))
      (parts_view o.parts.items)
      (sym (ap outline_of (shown-out content o)) ∙ h ∙ fold_out-Outline model.Part model.Outline part_step
      outline_step o))

  pub sized_rest : (n : ℕ) (ps : List (List ℕ × Part)) → AreSized content ps → AreSized content (drop n ps)
  sized_rest zero ps h = h
  sized_rest (suc n) [] h = tt
  sized_rest (suc n) (p ∷ ps) h = sized_rest n ps h.1

  -- the next child is the next part
  pub next_is : (l : List (List ℕ × (List ℕ × Node))) (e : List ℕ × (List ℕ × Node))
      (es : List (List ℕ × (List ℕ × Node))) (ps : List (List ℕ × Part)) (p : List ℕ × Part)
      (qs : List (List ℕ × Part))
      → l ≡ e ∷ es → ps ≡ p ∷ qs → children l ≡ shown_parts content ps
      → (e.0 ≡ key p.0) × (e.1.0 ≡ p.0) × (seen e.1.1 ≡ shown_part content p.1) × (children es ≡ shown_parts content qs)
  next_is l e es ps p qs a b h = child_is e.0 (key p.0) (e.1.0, seen e.1.1) (p.0, shown_part content p.1)
      (children es) (shown_parts content qs)
      (sym (ap children a) ∙ h ∙ ap (shown_parts content) b)

  pub none_left : (l : List (List ℕ × (List ℕ × Node))) (ps : List (List ℕ × Part)) (p : List ℕ × Part)
      (qs : List (List ℕ × Part))
      → l ≡ [] → ps ≡ p ∷ qs → children l ≡ shown_parts content ps → ⊥
  none_left l ps p qs a b h = child_none (key p.0) (p.0, shown_part content p.1) (shown_parts content qs)
      (sym (ap (shown_parts content) b) ∙ sym h ∙ ap children a)

  pub none_shown : (l : List (List ℕ × (List ℕ × Node))) (e : List ℕ × (List ℕ × Node))
      (es : List (List ℕ × (List ℕ × Node))) (ps : List (List ℕ × Part))
      → l ≡ e ∷ es → ps ≡ [] → children l ≡ shown_parts content ps → ⊥
  none_shown l e es ps a b h = child_none e.0 (e.1.0, seen e.1.1) (children es)
      (sym (ap children a) ∙ h ∙ ap (shown_parts content) b)

  -- what the parts of a storage are that an outline shows
  pub all_shown : (s : Storage) (o : Outline) (items : List (List ℕ × Part)) → items ≡ o.parts.items
      → view s ≡ shown content o → children s.children.entries ≡ shown_parts content items
  all_shown s o items is h =
      (tree_is s.class o.class s.state o.state (children s.children.entries) (shown_parts content o.parts.items)
      (sym (view-out s) ∙ h ∙ shown-out content o)).2
      ∙ ap (shown_parts content) (sym is)

  pub sized_next : (o : Outline) (items : List (List ℕ × Part)) (n : ℕ) (p : List ℕ × Part)
      (qs : List (List ℕ × Part)) → items ≡ o.parts.items → drop n items ≡ p ∷ qs
      → outline_of (shown content o) ≡ outline_view o → part_of (shown_part content p.1) ≡ part_view p.1
  sized_next o items n p qs is cut h =
      (subst (AreSized content) cut (sized_rest n items (subst (AreSized content) (sym is) (sized_all o h)))).0
