-- What is read of a stream.
use Rattle.std.proofs.Common.{◌≡◌, ◌<◌, ◌≤◌, ◌+◌, ◌/◌, ◌++◌, ◌∙◌, [], ℕ, Bool, true, false, List, Some, ap, arith}
use Rattle.std.proofs.Common.{if◌then◌else◌, length, min, nat_lt, rules, subst, sym, take}
use Rattle.std.proofs.lemmas.List.{length-take}
use Rattle.std.proofs.Math.Seq.{take-append_seam}
use Rattle.std.specs.Io.KnownBytes.{Appends}
use Rattle.cfb_header.specs.Bytes.{joined, sector}
use Rattle.cfb_chains.specs.Fat.{followed}
use Rattle.cfb_layout.specs.Image.{padded}
use Rattle.cfb_file.specs.Limits.{CUTOFF}
use Rattle.read_outlines.specs.declared.outline.Place.{Place}
use Rattle.write_parts.specs.Sends.{Sends}
use Rattle.write_cleaned.proofs.Ends.{minis_long}
use Rattle.write_cleaned.specs.Windows.{mini_bytes}
use Rattle.read_streams.specs.Tables.{minis_read, read_by}
use Rattle.read_streams.specs.declared.tables.Tables.{Tables}

-- the first bytes of two lists are those of the first
front : (xs ys : List ℕ) (n : ℕ) → length xs ≡ n → take n (xs ++ ys) ≡ xs
front xs ys n long = subst (λ k. take k (xs ++ ys) ≡ xs) long (take-append_seam xs ys)

module _ (a : List ℕ) (tables : Tables) (place : Place) where
  abbrev by_test : Bool → List ℕ
  by_test b = take place.size (if b then minis_read (mini_bytes a tables) tables.mini_fat.items place
      else joined (sector a) (followed tables.fat.items ((place.size + 511) / 512) place.first))

  -- a short stream has as many bytes as its place says
  short_long : place.size < CUTOFF → length (read_by a tables place) ≡ place.size
  short_long short =
      let test : nat_lt place.size CUTOFF ≡ true = search (rules, short) in
      let bytes : List ℕ = minis_read (mini_bytes a tables) tables.mini_fat.items place in
      ap (λ b. length (by_test b)) test ∙ length-take place.size bytes
      ∙ ap (min place.size) (minis_long (mini_bytes a tables) tables.mini_fat.items place) ∙ omega arith

  -- what was sent without the zeros behind it
  pub short_read : (old waited sent waiting slice whole read : List ℕ) → old ≡ [] → waited ≡ [] → place.size < CUTOFF
      → Sends (Some old) (Some sent) waited waiting (padded 64 (read_by a tables place))
      → slice ≡ waiting → Appends (Some sent) (Some whole) slice → read ≡ take place.size whole
      → read ≡ read_by a tables place
  short_read old waited sent waiting slice whole read empty none short sends same finished cut =
      let all : whole ≡ padded 64 (read_by a tables place) =
      finished ∙ ap (λ xs. sent ++ xs) same ∙ ap (λ xs. xs ++ waiting)
      (sends.written ∙ ap (λ xs. xs ++ sends.gone) empty)
      ∙ sends.all ∙ ap (λ xs. xs ++ padded 64 (read_by a tables place)) none in
      cut ∙ ap (take place.size) all ∙ front (read_by a tables place) _ place.size (short_long short)

  -- what lies where a long one does
  pub long_lies : (ns : List ℕ) → CUTOFF ≤ place.size → ns ≡ followed tables.fat.items ((place.size + 511) / 512)
      place.first
      → take place.size (joined (sector a) ns) ≡ read_by a tables place
  long_lies ns long is =
      let test : nat_lt place.size CUTOFF ≡ false = search (rules, long) in
      ap (λ xs. take place.size (joined (sector a) xs)) is ∙ ap by_test (sym test)
