use Rattle.std.proofs.Common.{◌≢◌, ◌<◌, ℕ, [], get_or}
use Rattle.std.specs.declared.cmp.Ordering.TheVariants.{Equal}
use Rattle.cfb_names.specs.Names.{name_cmp}
use Rattle.write_directory.proofs.links.stands_before.Given as goal

abbrev pub invariant-loop-j : goal.invariant-loop-j
invariant-loop-j l = (i : ℕ) → i < l.j → name_cmp (get_or l.names i []) (get_or l.names l.k []) ≢ Equal
