use Rattle.std.proofs.Common.{◌≤◌, ◌∙◌, ℕ, List, length, subst, sym}
use Rattle.read_streams.proofs.Placing.{entries_over}
use Rattle.read_streams.proofs.blocks.fat_entries.Goals as goal

pub returns : goal.returns
returns c = record {
  fat = λ a h t d.
      entries_over a c.args.file.now h t d c.args.header.now c.requires.read c.deref.result.now
      c.in_ok-table.table.items
      (c.deref.ensures.value ∙ c.in_ok-own.ensures.fat)
      (subst (λ (xs : List ℕ). length xs ≤ 1125) (sym c.deref.ensures.value) c.in_ok-own.ensures.few)
      c.in_ok-table.ensures.count c.in_ok-table.ensures.each;
}
