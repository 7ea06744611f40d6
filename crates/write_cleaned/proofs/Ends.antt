-- Streams, with zeros up to whole sectors or mini sectors.
use Rattle.std.proofs.Common.{◌≡◌, ◌<◌, ◌≤◌, ◌+◌, ◌-◌, ◌*◌, ◌/◌, ◌∙◌, ℕ, zero, suc, Bool, true, false, List, ◌++◌}
use Rattle.std.proofs.Common.{length, take, map, min, nat_lt, replicate, if◌then◌else◌, refl, rules, sym, ap, arith}
use Rattle.std.proofs.lemmas.List.{length-map, length-take}
use Rattle.cfb_bytes.specs.Bytes.{block}
use Rattle.cfb_chains.specs.Fat.{followed}
use Rattle.cfb_chains.proofs.Blocks.{length_block, length_joined}
use Rattle.cfb_header.specs.Bytes.{joined, sector, u32_at}
use Rattle.cfb_layout.specs.Image.{padded}
use Rattle.cfb_file.specs.Limits.{CUTOFF}
use Rattle.cfb_file.specs.Need.{pieces}
use Rattle.read_outlines.specs.declared.outline.Place.{Place}
use Rattle.read_streams.specs.Chains.{walked}
use Rattle.read_streams.specs.Tables.{minis_read, read_by}
use Rattle.read_streams.specs.declared.tables.Tables.{Tables}
use Rattle.write_cleaned.specs.Windows.{mini_bytes}

-- zeros up to whole pieces of a width
padded_to : (width : ℕ) (xs : List ℕ) (size left : ℕ) → length xs ≡ size → left ≡ width * pieces width size - size
    → xs ++ replicate left 0 ≡ padded width xs
padded_to width xs size left long is = ap (λ n. xs ++ replicate n 0)
    (is ∙ ap (λ n. width * pieces width n - n) (sym long))

pub walked_long : (f : ℕ → ℕ) (at count : ℕ) → length (walked f at count) ≡ count
walked_long f at zero = refl
walked_long f at (suc count) = omega (arith, walked_long f (f at) count)

pub minis_long : (all fat : List ℕ) (place : Place) → length (minis_read all fat place) ≡ 64 * ((place.size + 63) / 64)
minis_long all fat place =
    let ns : List ℕ = walked (λ n. u32_at fat (4 * n)) place.first ((place.size + 63) / 64) in
    length_joined (block 64 all) 64 (map (λ n. 64 * n) ns) (λ n. length_block 64 all n)
    ∙ ap (λ n. 64 * n) (length-map ns (λ n. 64 * n) ∙ walked_long (λ n. u32_at fat (4 * n)) place.first
    ((place.size + 63) / 64))

module _ (a : List ℕ) (tables : Tables) (place : Place) where
  abbrev by_test : Bool → List ℕ
  by_test b = take place.size (if b then minis_read (mini_bytes a tables) tables.mini_fat.items place
      else joined (sector a) (followed tables.fat.items ((place.size + 511) / 512) place.first))

  pub short_padded : (left : ℕ) → place.size < CUTOFF → left ≡ 64 * pieces 64 place.size - place.size
      → take place.size (minis_read (mini_bytes a tables) tables.mini_fat.items place) ++ replicate left 0
      ≡ padded 64 (read_by a tables place)
  short_padded left short is =
      let test : nat_lt place.size CUTOFF ≡ true = search (rules, short) in
      let bytes : List ℕ = minis_read (mini_bytes a tables) tables.mini_fat.items place in
      let long : length (take place.size bytes) ≡ place.size =
      length-take place.size bytes ∙ ap (min place.size)
      (minis_long (mini_bytes a tables) tables.mini_fat.items place) ∙ omega arith in
      padded_to 64 (take place.size bytes) place.size left long is ∙ ap (λ b. padded 64 (by_test b)) (sym test)

  pub long_padded : (ns : List ℕ) (left : ℕ) → CUTOFF ≤ place.size
      → ns ≡ followed tables.fat.items ((place.size + 511) / 512) place.first
      → place.size ≤ 512 * length ns → left ≡ 512 * pieces 512 place.size - place.size
      → take place.size (joined (sector a) ns) ++ replicate left 0 ≡ padded 512 (read_by a tables place)
  long_padded ns left not_short followed_so enough is =
      let test : nat_lt place.size CUTOFF ≡ false = search (rules, not_short) in
      let bytes : List ℕ = joined (sector a) ns in
      let all : length bytes ≡ 512 * length ns = length_joined (sector a) 512 ns
      (λ n. length_block 512 a (512 + 512 * n)) in
      let long : length (take place.size bytes) ≡ place.size = length-take place.size bytes
      ∙ omega (arith, all, enough) in
      padded_to 512 (take place.size bytes) place.size left long is
      ∙ ap (λ xs. padded 512 (take place.size (joined (sector a) xs))) followed_so
      ∙ ap (λ b. padded 512 (by_test b)) (sym test)
