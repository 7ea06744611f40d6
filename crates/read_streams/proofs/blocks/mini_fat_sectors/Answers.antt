use Rattle.std.proofs.Common.{◌≡◌, ◌∙◌, ◌+◌, ◌*◌, ◌/◌, ℕ, List, ap, arith, subst, sym, take}
use Rattle.cfb_chains.specs.Chain.{IsChainOf}
use Rattle.cfb_header.specs.Bytes.{joined, sector, u32_at}
use Rattle.cfb_file.specs.Denotes.{Layout, sectors}
use Rattle.read_streams.proofs.Fronts.{front_read}
use Rattle.read_streams.proofs.Placing.{mini_fat_of, next_same}
use Rattle.read_streams.proofs.blocks.mini_fat_sectors.Goals as goal

pub returns : goal.returns
returns c = record {
  next = λ a h t d o.
      let l : Layout = d.layout in
      let file : List ℕ = c.args.file.now in
      let fats : ℕ = c.args.header.now.mini_fat_count in
      let fat : IsChainOf (sectors a l) c.first_mini_fat.result (512 * fats) l.mini_fat =
      subst (λ (x : ℕ). IsChainOf (sectors a l) x (512 * fats) l.mini_fat) (sym c.first_mini_fat.ensures)
      (mini_fat_of a file h t d c.args.header.now c.requires.read) in
      let whole : (512 * fats + 511) / 512 ≡ fats = omega arith in
      let fronts : c.in_ok-sectors.sectors.items ≡ take fats l.mini_fat =
      c.in_ok-sectors.ensures
      ∙ front_read a l c.args.table.now o c.first_mini_fat.result (512 * fats) l.mini_fat fat
      c.mini_fat_count-count.result (c.mini_fat_count-count.ensures ∙ sym whole)
      ∙ ap (λ n. take n l.mini_fat) whole in
      ap (λ (ns : List ℕ). (λ (n : ℕ). u32_at (joined (sector file) ns) (4 * n))) fronts
      ∙ next_same a file h t d c.args.header.now c.requires.read;
}
