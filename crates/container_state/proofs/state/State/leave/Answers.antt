use Rattle.container_checks.proofs.Numbers.{one_kept}
use Rattle.container_state.proofs.state.State.leave.Goals as goal

pub invariant_of-self-inside : goal.invariant_of-self-inside
invariant_of-self-inside c = (
  one_kept c.self.inside.objects.list.items c.args.i c.leave_object.new.object c.index_mut-object.result.now
      c.self.inside.objects.rising c.index_mut-object.ensures.value c.leave_object.ensures.same,
  tt,
)
