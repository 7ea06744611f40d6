use Rattle.std.proofs.Common.{◌≡◌, ◌≤◌, ◌++◌, drop, map, vec_len}
use Rattle.container_model.specs.Grants.{freed_claims}
use Rattle.container_grants.specs.Granted.{ready}
use Rattle.container_grants.proofs.grants.prepare_freed.Given as goal

abbrev pub invariant-loop-frame : goal.invariant-loop-frame
invariant-loop-frame l = record {
  few : vec_len l.grants ≤ l.frame-index;
  same : l.grants.items ++ map (ready l.objects.list.items)
      (freed_claims l.inc l.objects.list.items (drop l.frame-index l.frames))
      ≡ map (ready l.objects.list.items) (freed_claims l.inc l.objects.list.items l.frames);
}
