use Rattle.std.proofs.Common.{◌≢◌, ◌<◌, ℕ, [], get_or}
use Rattle.std.specs.declared.cmp.Ordering.TheVariants.{Equal}
use Rattle.cfb_names.specs.Names.{name_cmp}
use Rattle.write_directory.proofs.links.twins_or_memory.Given as goal

abbrev pub invariant-loop-k : goal.invariant-loop-k
invariant-loop-k l = (i j : ℕ) → i < j → j < l.k → name_cmp (get_or l.names i []) (get_or l.names j []) ≢ Equal
