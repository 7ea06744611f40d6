use Rattle.std.proofs.Common.{subst}
use Rattle.read_source.specs.Filled.{IsChainFound}
use Rattle.read_source.proofs.chains.find_chains.Goals as goal

pub returns : goal.returns
returns c = record {
  table = c.in_ok-table.table;
  count = c.in_ok-table.ensures.count;
  each = c.in_ok-table.ensures.each;
  directory_found = subst (λ n. IsChainFound c.in_ok-table.table n c.in_ok-directory.directory.items)
      c.first_directory.ensures c.in_ok-directory.ensures;
  mini_fat_found = subst (λ n. IsChainFound c.in_ok-table.table n c.in_ok-mini_fat.mini_fat.items)
      c.first_mini_fat.ensures c.in_ok-mini_fat.ensures;
}
