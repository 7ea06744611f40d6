use Rattle.std.proofs.Common.{◌≡◌, false, replicate, take}
use Rattle.cfb_bytes.specs.Marks.{set_all}
use Rattle.tell_faults.proofs.walking.marks.Given as goal

abbrev pub invariant-loop-n : goal.invariant-loop-n
invariant-loop-n l = l.marks.items ≡ set_all (replicate l.count false) (take l.n-index l.taken)
