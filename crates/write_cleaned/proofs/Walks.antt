-- A step of a walk over the parts of an outline, whose streams are sent.
use Rattle.std.proofs.Common.{◌≡◌, ◌∙◌, ℕ, Bool, true, false, List, Result, Ok, Err, OnOk, [], ◌∷◌, ◌++◌, ap}
use Rattle.std.proofs.Common.{append_assoc, if◌then◌else◌, length, nat_lt, refl, sym}
use Rattle.std.proofs.lemmas.List.{append-nil}
use Rattle.std.proofs.lemmas.List.Concat.{flat_map-append}
use Rattle.cfb_names.specs.Names.{key}
use Rattle.tree_storage.specs.Change.{Seen, bytes, child}
use Rattle.cfb_entries.specs.Tree.{Children}
use Rattle.cfb_layout.specs.Directory.{long_streams_of, short_streams_of}
use Rattle.cfb_layout.specs.Image.{padded, whole_pieces}
use Rattle.cfb_file.specs.Limits.{CUTOFF}
use Rattle.cfb_file.specs.Outline as model
use Rattle.cfb_file.specs.Outline.{nested, no_parts, outline, outline_of, outlines_of, part, part_of, sized}
use Rattle.cfb_file.specs.Outline.{storage_part, stream_part}
use Rattle.read_outlines.specs.View.{outline_view, part_view, parts_view, shown, shown_part, shown_parts}
use Rattle.read_outlines.specs.declared.outline.Outline.{Outline}
use Rattle.read_outlines.specs.declared.outline.Part.{Part}
use Rattle.read_outlines.specs.declared.outline.Part.TheVariants as variant
use Rattle.read_outlines.specs.declared.outline.Place.{Place}
use Rattle.read_outlines.proofs.Outlines.{outlines-child, shown-nested, shown-out}
use Rattle.read_outlines.proofs.Told.{view_nested}
use Rattle.read_streams.proofs.Shown.{first_in, first_is, rest_in, rest_is, view_out}
use Rattle.write_parts.specs.Streams.{long_within, short_within}
use Rattle.write_parts.proofs.Children.{longs-child, shorts-child}

-- ---- what stands in an outline
abbrev inside : model.Part → model.Outline
inside (sized size) = outline [] 0 no_parts
inside (nested o) = o

module _ (content : Place → List ℕ) (p : List ℕ × Part) (ps : List (List ℕ × Part)) where
  -- parts that are as long as their streams, whole or without the first
  module _ (same : outlines_of (shown_parts content (p ∷ ps)) ≡ parts_view (p ∷ ps)) where
    both : part p.0 (part_of (shown_part content p.1)) (outlines_of (shown_parts content ps))
        ≡ part p.0 (part_view p.1) (parts_view ps)
    both = sym (outlines-child (key p.0) p.0 (shown_part content p.1) (shown_parts content ps)) ∙ same

    pub sized-first : part_of (shown_part content p.1) ≡ part_view p.1
    sized-first = sym (first_is p.0 (part_of (shown_part content p.1)) (outlines_of (shown_parts content ps)))
        ∙ ap first_in both ∙ first_is p.0 (part_view p.1) (parts_view ps)

    pub sized-rest : outlines_of (shown_parts content ps) ≡ parts_view ps
    sized-rest = sym (rest_is p.0 (part_of (shown_part content p.1)) (outlines_of (shown_parts content ps)))
        ∙ ap rest_in both ∙ rest_is p.0 (part_view p.1) (parts_view ps)

  -- what the first part has was sent
  more : (put : List (List ℕ) → List ℕ) (of : Children → List (List ℕ)) (within : Seen → List (List ℕ))
      → ((xs ys : List (List ℕ)) → put (xs ++ ys) ≡ put xs ++ put ys)
      → ((k n : List ℕ) (s : Seen) (cs : Children) → of (child k (n, s) cs) ≡ within s ++ of cs)
      → (gone sent whole : List ℕ) → sent ≡ put (within (shown_part content p.1))
      → gone ++ put (of (shown_parts content (p ∷ ps))) ≡ whole
      → (gone ++ sent) ++ put (of (shown_parts content ps)) ≡ whole
  more put of within append first gone sent whole is h =
      let s : Seen = shown_part content p.1 in
      let rest : List (List ℕ) = of (shown_parts content ps) in
      append_assoc gone sent (put rest)
      ∙ ap (λ zs. gone ++ zs) (ap (λ zs. zs ++ put rest) is ∙ sym (append (within s) rest)
      ∙ ap put (sym (first (key p.0) p.0 s (shown_parts content ps))))
      ∙ h

  pub shorts-more : (gone sent whole : List ℕ) → sent ≡ whole_pieces 64 (short_within (shown_part content p.1))
      → gone ++ whole_pieces 64 (short_streams_of (shown_parts content (p ∷ ps))) ≡ whole
      → (gone ++ sent) ++ whole_pieces 64 (short_streams_of (shown_parts content ps)) ≡ whole
  shorts-more = more (whole_pieces 64) short_streams_of short_within (flat_map-append (padded 64))
      (shorts-child child (λ k n b cs. refl) (λ k n t cs. refl))

  pub longs-more : (gone sent whole : List ℕ) → sent ≡ whole_pieces 512 (long_within (shown_part content p.1))
      → gone ++ whole_pieces 512 (long_streams_of (shown_parts content (p ∷ ps))) ≡ whole
      → (gone ++ sent) ++ whole_pieces 512 (long_streams_of (shown_parts content ps)) ≡ whole
  longs-more = more (whole_pieces 512) long_streams_of long_within (flat_map-append (padded 512))
      (longs-child child (λ k n b cs. refl) (λ k n t cs. refl))

-- ---- a stream as long as its part says
pick-short : (t u : Bool) (b : List ℕ) → t ≡ u → (if t then b ∷ [] else []) ≡ (if u then b ∷ [] else [])
pick-short t u b e = ap (λ x. if x then b ∷ [] else []) e

pick-long : (t u : Bool) (b : List ℕ) → t ≡ u → (if t then [] else b ∷ []) ≡ (if u then [] else b ∷ [])
pick-long t u b e = ap (λ x. if x then [] else b ∷ []) e

size-is : (b : List ℕ) (size : ℕ) → sized (length b) ≡ sized size → length b ≡ size
size-is b size e = cc

module _ (b : List ℕ) (size : ℕ) (same : sized (length b) ≡ sized size) where
  test-is : (u : Bool) → nat_lt size CUTOFF ≡ u → nat_lt (length b) CUTOFF ≡ u
  test-is u e = ap (λ n. nat_lt n CUTOFF) (size-is b size same) ∙ e

  pub short-sent : nat_lt size CUTOFF ≡ true → padded 64 b ≡ whole_pieces 64 (short_within (bytes b))
  short-sent e = sym (append-nil (padded 64 b)) ∙ ap (whole_pieces 64)
      (sym (pick-short (nat_lt (length b) CUTOFF) true b (test-is true e)))

  pub no-short : nat_lt size CUTOFF ≡ false → [] ≡ whole_pieces 64 (short_within (bytes b))
  no-short e = ap (whole_pieces 64) (sym (pick-short (nat_lt (length b) CUTOFF) false b (test-is false e)))

  pub long-sent : nat_lt size CUTOFF ≡ false → padded 512 b ≡ whole_pieces 512 (long_within (bytes b))
  long-sent e = sym (append-nil (padded 512 b)) ∙ ap (whole_pieces 512)
      (sym (pick-long (nat_lt (length b) CUTOFF) false b (test-is false e)))

  pub no-long : nat_lt size CUTOFF ≡ true → [] ≡ whole_pieces 512 (long_within (bytes b))
  no-long e = ap (whole_pieces 512) (sym (pick-long (nat_lt (length b) CUTOFF) true b (test-is true e)))

-- ---- what is as long as it says, and what is in it
abbrev rest_of : model.Outline → model.Parts
rest_of (outline class state ps) = ps

module _ (content : Place → List ℕ) where
  pub parts-sized : (o : Outline) → outline_of (shown content o) ≡ outline_view o
      → outlines_of (shown_parts content o.parts.items) ≡ parts_view o.parts.items
  parts-sized o same = ap rest_of (sym (ap outline_of (shown-out content o)) ∙ same ∙ view_out o)

  pub inner-sized : (p : Part) (o : Outline) → p ≡ variant.Storage o → part_of (shown_part content p) ≡ part_view p
      → outline_of (shown content o) ≡ outline_view o
  inner-sized p o is same =
      let whole : nested (outline_of (shown content o)) ≡ nested (outline_view o) =
      sym (ap part_of (ap (shown_part content) is ∙ shown-nested content o)) ∙ same ∙ ap part_view is ∙ view_nested o in
      ap (λ x. inside x) whole

-- ---- what holds of a result
pub on_ok : {A E : Type 0} (r : Result A E) (P Q : Type 0) → (P → Q) → OnOk r P → OnOk r Q
on_ok (Ok x) P Q f h = f h
on_ok (Err e) P Q f h = h
