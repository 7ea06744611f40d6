-- A step of a walk over the streams of a storage, which are sent.
use Rattle.std.proofs.Common.{◌≡◌, ℕ, List, ◌∷◌, ◌++◌, refl, sym, ◌∙◌, ap, append_assoc}
use Rattle.std.proofs.lemmas.List.Concat.{flat_map-append}
use Rattle.cfb_entries.specs.Tree.{Children}
use Rattle.tree_storage.specs.Child.{Seen, child}
use Rattle.tree_storage.specs.NodeView.{seen, children}
use Rattle.tree_storage.specs.declared.nodes.Node.{Node}
use Rattle.cfb_layout.specs.Image.{padded, whole_pieces}
use Rattle.cfb_layout.specs.Directory.{short_streams_of, long_streams_of}
use Rattle.write_parts.specs.Streams.{long_within, short_within}
use Rattle.write_parts.proofs.Children.{longs-child, shorts-child}

abbrev pub Entries : Type 0
Entries = List (List ℕ × (List ℕ × Node))

walk-more : (put : List (List ℕ) → List ℕ) (of : Children → List (List ℕ)) (within : Seen → List (List ℕ))
    → ((xs ys : List (List ℕ)) → put (xs ++ ys) ≡ put xs ++ put ys)
    → ((k n : List ℕ) (s : Seen) (cs : Children) → of (child k (n, s) cs) ≡ within s ++ of cs)
    → (rest es : Entries) (k : List ℕ) (v : List ℕ × Node) (out more whole : List ℕ) → rest ≡ (k, v) ∷ es
    → more ≡ out ++ put (within (seen v.1))
    → out ++ put (of (children rest)) ≡ whole → more ++ put (of (children es)) ≡ whole
walk-more put of within append first rest es k v out more whole steps pushed h =
    ap (λ o. o ++ put (of (children es))) pushed
    ∙ append_assoc out (put (within (seen v.1))) (put (of (children es)))
    ∙ ap (λ r. out ++ r) (sym (append (within (seen v.1)) (of (children es)))
    ∙ ap put (sym (first k v.0 (seen v.1) (children es))) ∙ ap (λ r. put (of (children r))) (sym steps))
    ∙ h

-- one more child, of which the short or the long streams were put
module _ (w : ℕ) (rest es : Entries) (k : List ℕ) (v : List ℕ × Node) (out more whole : List ℕ)
    (steps : rest ≡ (k, v) ∷ es) where
  pub shorts-more : more ≡ out ++ whole_pieces w (short_within (seen v.1))
      → out ++ whole_pieces w (short_streams_of (children rest)) ≡ whole
      → more ++ whole_pieces w (short_streams_of (children es)) ≡ whole
  shorts-more = walk-more (whole_pieces w) short_streams_of short_within (flat_map-append (padded w))
      (shorts-child child (λ k n b cs. refl) (λ k n t cs. refl)) rest es k v out more whole steps

  pub longs-more : more ≡ out ++ whole_pieces w (long_within (seen v.1))
      → out ++ whole_pieces w (long_streams_of (children rest)) ≡ whole
      → more ++ whole_pieces w (long_streams_of (children es)) ≡ whole
  longs-more = walk-more (whole_pieces w) long_streams_of long_within (flat_map-append (padded w))
      (longs-child child (λ k n b cs. refl) (λ k n t cs. refl)) rest es k v out more whole steps
