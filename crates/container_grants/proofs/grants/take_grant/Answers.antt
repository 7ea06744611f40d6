use Rattle.std.proofs.Common.{ap}
use Rattle.container_model.specs.declared.record.Object.{Object}
use Rattle.container_checks.proofs.Numbers.{one_kept}
use Rattle.container_grants.proofs.grants.take_grant.Goals as goal

pub invariant_of-objects : goal.invariant_of-objects
invariant_of-objects c = record {
  rising = one_kept c.args.objects.now.list.items c.in-Some.i c.install.new.object c.index_mut.result.now
      c.args.objects.now.rising c.index_mut.ensures.value (ap (λ (o : Object). o.number) c.install.ensures);
}
