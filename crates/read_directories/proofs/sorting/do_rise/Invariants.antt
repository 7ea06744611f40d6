use Rattle.std.proofs.Common.{◌≡◌, ◌-◌, get_or}
use Rattle.cfb_faults.specs.Faults.{key_at}
use Rattle.read_directories.proofs.Ordered.{DoRise}
use Rattle.read_directories.proofs.sorting.do_rise.Given as goal

abbrev pub invariant-loop-k : goal.invariant-loop-k
invariant-loop-k l = (l.last ≡ key_at l.entries.directory (get_or l.ids (l.k - 1) 0))
    × DoRise l.entries.directory l.ids l.k
