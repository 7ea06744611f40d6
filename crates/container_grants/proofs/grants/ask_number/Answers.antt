use Rattle.std.proofs.Common.{refl}
use Rattle.container_checks.proofs.Numbers.{one_kept}
use Rattle.container_grants.proofs.GrantsEach.{same_number}
use Rattle.container_grants.proofs.grants.ask_number.Goals as goal

pub invariant_of-objects : goal.invariant_of-objects
invariant_of-objects c = record {
  rising = one_kept c.args.objects.now.list.items c.in-Some.i c.ask_object.new.object c.index_mut.result.now
      c.args.objects.now.rising c.index_mut.ensures.value
      (same_number c.ask_object.result c.ask_object.new.object c.index_mut.result.now _ refl
      c.ask_object.ensures.asked c.ask_object.ensures.kept);
}
