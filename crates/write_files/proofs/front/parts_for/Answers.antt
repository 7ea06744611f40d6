use Rattle.std.proofs.Common.{◌≡◌, ◌∙◌, ◌++◌, ℕ, List, ap, arith, length, rules}
use Rattle.std.specs.Vec.{vec_len}
use Rattle.cfb_entries.specs.Tree.{Tree}
use Rattle.cfb_layout.specs.Directory.{balanced, parts_of, short_streams}
use Rattle.cfb_layout.specs.Image.{behind_fat, counts, own_entries, pieces_of, runs}
use Rattle.cfb_layout.proofs.ContentsNext.{shorts-sum}
use Rattle.cfb_layout.proofs.Tables.{length-runs}
use Rattle.write_parts.proofs.Length.{length-fat}
use Rattle.write_parts.proofs.Whole.{as_counted, fat_joined}
use Rattle.write_files.proofs.front.parts_for.Goals as goal

pub fill_table-requires-clause-fits : goal.fill_table-requires-clause-fits
fill_table-requires-clause-fits g c =
    let t : Tree = g.B.Branch.tree c.args.root in
    let f : ℕ = c.args.counts.fat in
    let all : c.directory_of.new.tables.fat.items ≡ own_entries f ++ runs (behind_fat f)
    (counts (parts_of balanced f t)) =
    c.in_ok-directory.ensures.fat ∙ fat_joined f t c.in_ok-tables.tables.fat.items
    (c.in_ok-tables.ensures.fat ∙ as_counted c.args.counts t c.requires.counts) in
    let len : vec_len c.directory_of.new.tables.fat ≡ length c.directory_of.new.tables.fat.items = search rules in
    omega (arith, len, ap (λ (xs : List ℕ). length xs) all, length-fat f t, c.requires.covered)

pub fill_table-requires-2-clause-fits : goal.fill_table-requires-2-clause-fits
fill_table-requires-2-clause-fits g c =
    let t : Tree = g.B.Branch.tree c.args.root in
    let ns : List ℕ = pieces_of 64 (short_streams t) in
    let all : c.directory_of.new.tables.minis.items ≡ runs 0 ns =
    c.in_ok-directory.ensures.minis ∙ ap (λ xs. xs ++ runs 0 ns) c.in_ok-tables.ensures.minis in
    let len : vec_len c.directory_of.new.tables.minis ≡ length c.directory_of.new.tables.minis.items = search rules in
    omega (
      arith,
      len,
      ap (λ (xs : List ℕ). length xs) all,
      length-runs 0 ns,
      shorts-sum t,
      c.mini_fat_sectors.ensures,
      c.requires.counts.minis_counted,
    )
