-- The tree of an outline whose streams are zeros. It has the counts of each tree of that outline.
use Rattle.std.proofs.Common.{◌≡◌, ◌+◌, ◌*◌, ◌<◌, ◌^◌, ◌∙◌, ℕ, Bool, true, false, List, ◌∷◌, ◌++◌, length}
use Rattle.std.proofs.Common.{if◌then◌else◌, nat_lt, refl, sym}
use Rattle.std.proofs.lemmas.List.{length-replicate, map-append}
use Rattle.cfb_entries.specs.Tree.{Tree, Children, tree, none, stream, storage}
use Rattle.write_parts.specs.Blank.{blank, blanks, zeros}
use Rattle.cfb_layout.specs.Directory.{AreSpelled, IsSpelled, long_streams, long_streams_of, short_streams}
use Rattle.cfb_layout.specs.Directory.{short_streams_of}
use Rattle.cfb_layout.specs.Image.{pieces_of}
use Rattle.cfb_file.specs.Limits.{CUTOFF}
use Rattle.cfb_file.specs.Need.{data_sectors, directory_sectors, entries, entries_of, long_pieces, long_sectors}
use Rattle.cfb_file.specs.Need.{mini_fat_sectors, mini_sectors, mini_stream_sectors, over_streams, over_streams_of}
use Rattle.cfb_file.specs.Need.{pieces, short_pieces}
use Rattle.cfb_file.specs.Outline.{Outline, Parts, no_parts, outline, outline_of, outlines_of, storage_part}
use Rattle.cfb_file.specs.Outline.{stream_part}

long : (n : ℕ) → length (zeros n) ≡ n
long n = length-replicate {A = ℕ} n 0

-- the outline of that tree is the one that it is of
mutual
  pub outline-blank : (o : Outline) → outline_of (blank o) ≡ o
  outline-blank (outline class state ps) = λ i. outline class state (outlines-blank ps i)

  pub outlines-blank : (ps : Parts) → outlines_of (blanks ps) ≡ ps
  outlines-blank no_parts = refl
  outlines-blank (stream_part n size ps) = λ i. stream_part n (long size i) (outlines-blank ps i)
  outlines-blank (storage_part n o ps) = λ i. storage_part n (outline-blank o i) (outlines-blank ps i)

-- a tree and children, each stream as many zeros
abbrev pub blanked : Tree → Tree
blanked t = blank (outline_of t)

abbrev pub all_blanked : Children → Children
all_blanked cs = blanks (outlines_of cs)

pub as_long : (b : List ℕ) → length b ≡ length (zeros (length b))
as_long b = sym (length-replicate (length b) 0)

-- ---- as many entries
mutual
  pub as_many : (t : Tree) → entries t ≡ entries (blanked t)
  as_many (tree class state cs) = all_as_many cs

  all_as_many : (cs : Children) → entries_of cs ≡ entries_of (all_blanked cs)
  all_as_many none = refl
  all_as_many (stream k n b cs) = λ i. 1 + all_as_many cs i
  all_as_many (storage k n t cs) = λ i. 1 + as_many t i + all_as_many cs i

-- ---- the same sums over all streams of what goes by their lengths
module _ (f : List ℕ → ℕ) (sized : (b : List ℕ) → f b ≡ f (zeros (length b))) where
  mutual
    same_sum : (t : Tree) → over_streams f t ≡ over_streams f (blanked t)
    same_sum (tree class state cs) = same_sums cs

    same_sums : (cs : Children) → over_streams_of f cs ≡ over_streams_of f (all_blanked cs)
    same_sums none = refl
    same_sums (stream k n b cs) = λ i. sized b i + same_sums cs i
    same_sums (storage k n t cs) = λ i. same_sum t i + same_sums cs i

pub short_sized : (b : List ℕ) → short_pieces b ≡ short_pieces (zeros (length b))
short_sized b = λ i. if nat_lt (as_long b i) CUTOFF then pieces 64 (as_long b i) else 0

pub long_sized : (b : List ℕ) → long_pieces b ≡ long_pieces (zeros (length b))
long_sized b = λ i. if nat_lt (as_long b i) CUTOFF then 0 else pieces 512 (as_long b i)

pub same_minis : (t : Tree) → mini_sectors t ≡ mini_sectors (blanked t)
same_minis t = same_sum short_pieces short_sized t

pub same_longs : (t : Tree) → long_sectors t ≡ long_sectors (blanked t)
same_longs t = same_sum long_pieces long_sized t

pub same_directory_sectors : (t : Tree) → directory_sectors t ≡ directory_sectors (blanked t)
same_directory_sectors t = λ i. pieces 4 (1 + as_many t i)

pub same_mini_fat : (t : Tree) → mini_fat_sectors t ≡ mini_fat_sectors (blanked t)
same_mini_fat t = λ i. pieces 128 (same_minis t i)

pub same_mini_stream : (t : Tree) → mini_stream_sectors t ≡ mini_stream_sectors (blanked t)
same_mini_stream t = λ i. pieces 512 (64 * same_minis t i)

pub same_data : (t : Tree) → data_sectors t ≡ data_sectors (blanked t)
same_data t = λ i. same_directory_sectors t i + same_mini_fat t i + same_mini_stream t i + same_longs t i

-- ---- the same pieces of each stream
either_way : (width : ℕ) (test : Bool) (xs ys : List (List ℕ)) → pieces_of width (if test then xs else ys)
    ≡ (if test then pieces_of width xs else pieces_of width ys)
either_way width true xs ys = refl
either_way width false xs ys = refl

mutual
  pub same_short : (t : Tree) → pieces_of 64 (short_streams t) ≡ pieces_of 64 (short_streams (blanked t))
  same_short (tree class state cs) = all_same_short cs

  all_same_short : (cs : Children) → pieces_of 64 (short_streams_of cs)
      ≡ pieces_of 64 (short_streams_of (all_blanked cs))
  all_same_short none = refl
  all_same_short (stream k n b cs) =
      let bs : List (List ℕ) = short_streams_of cs in
      let blank_bytes : List ℕ = zeros (length b) in
      let others : List (List ℕ) = short_streams_of (all_blanked cs) in
      either_way 64 (nat_lt (length b) CUTOFF) (b ∷ bs) bs
      ∙ (λ i. if nat_lt (as_long b i) CUTOFF then pieces 64 (as_long b i) ∷ all_same_short cs i
      else all_same_short cs i)
      ∙ sym (either_way 64 (nat_lt (length blank_bytes) CUTOFF) (blank_bytes ∷ others) others)
  all_same_short (storage k n t cs) =
      map-append (λ b. pieces 64 (length b)) (short_streams t) (short_streams_of cs)
      ∙ (λ i. same_short t i ++ all_same_short cs i)
      ∙ sym (map-append (λ b. pieces 64 (length b)) (short_streams (blanked t)) (short_streams_of (all_blanked cs)))

mutual
  pub same_long : (t : Tree) → pieces_of 512 (long_streams t) ≡ pieces_of 512 (long_streams (blanked t))
  same_long (tree class state cs) = all_same_long cs

  all_same_long : (cs : Children) → pieces_of 512 (long_streams_of cs)
      ≡ pieces_of 512 (long_streams_of (all_blanked cs))
  all_same_long none = refl
  all_same_long (stream k n b cs) =
      let bs : List (List ℕ) = long_streams_of cs in
      let blank_bytes : List ℕ = zeros (length b) in
      let others : List (List ℕ) = long_streams_of (all_blanked cs) in
      either_way 512 (nat_lt (length b) CUTOFF) bs (b ∷ bs)
      ∙ (λ i. if nat_lt (as_long b i) CUTOFF then all_same_long cs i else pieces 512 (as_long b i) ∷ all_same_long cs i)
      ∙ sym (either_way 512 (nat_lt (length blank_bytes) CUTOFF) others (blank_bytes ∷ others))
  all_same_long (storage k n t cs) =
      map-append (λ b. pieces 512 (length b)) (long_streams t) (long_streams_of cs)
      ∙ (λ i. same_long t i ++ all_same_long cs i)
      ∙ sym (map-append (λ b. pieces 512 (length b)) (long_streams (blanked t)) (long_streams_of (all_blanked cs)))

-- ---- as well spelled
mutual
  pub as_spelled : (t : Tree) → IsSpelled t ≡ IsSpelled (blanked t)
  as_spelled (tree class state cs) = λ i. (length class ≡ 16) × (state < 2 ^ 32) × all_as_spelled cs i

  all_as_spelled : (cs : Children) → AreSpelled cs ≡ AreSpelled (all_blanked cs)
  all_as_spelled none = refl
  all_as_spelled (stream k n b cs) = λ i. (as_long b i < 2 ^ 32) × all_as_spelled cs i
  all_as_spelled (storage k n t cs) = λ i. as_spelled t i × all_as_spelled cs i
