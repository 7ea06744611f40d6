-- The tree of an outline whose streams are zeros.
use Rattle.std.specs.Prelude.{ℕ, List, [], replicate}
use Rattle.cfb_entries.specs.Seen.{Seen, bytes, inner}
use Rattle.cfb_entries.specs.Tree.{Tree, Children, tree, none, stream, storage}
use Rattle.cfb_file.specs.Outline.{Outline, Part, Parts, nested, no_parts, outline, sized, storage_part, stream_part}

-- a stream of so many zeros
abbrev pub zeros : ℕ → List ℕ
zeros n = replicate n 0

abbrev mutual
  pub blank : Outline → Tree
  blank (outline class state ps) = tree class state (blanks ps)

  pub blanks : Parts → Children
  blanks no_parts = none
  blanks (stream_part n size ps) = stream [] n (zeros size) (blanks ps)
  blanks (storage_part n o ps) = storage [] n (blank o) (blanks ps)

-- what a part is there
abbrev pub blank_part : Part → Seen
blank_part (sized size) = bytes (zeros size)
blank_part (nested o) = inner (blank o)
