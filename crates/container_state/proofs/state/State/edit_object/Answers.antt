use Rattle.std.proofs.Common.{refl}
use Rattle.container_model.specs.Commands.{edit_linked}
use Rattle.container_commands.proofs.CommandsEdit.{object_refused, object_taken}
use Rattle.container_checks.proofs.Numbers.{one_kept}
use Rattle.container_state.proofs.state.State.edit_object.Goals as goal

pub returns-in-Err-clause-refused : goal.returns-in-Err-clause-refused
returns-in-Err-clause-refused c = object_refused (λ q o. edit_linked q o c.args.bytes o.link) _ c.args.self.now
    c.args.i c.index_mut.result.now c.in-Err.fault c.self.view_is c.requires.place.fits c.index_mut.ensures.value
    c.in-Err.ensures.refused

pub returns-clause-taken : goal.returns-clause-taken
returns-clause-taken c = object_taken (λ q o. edit_linked q o c.args.bytes o.link) _ c.args.self.now _ c.args.i
    c.index_mut.result.now c.edit_one.new.object c.in-Ok.actions _ c.self.view_is c.requires.place
    c.index_mut.ensures.value c.in-Ok.ensures.taken c.in-Ok.ensures.same refl c.acts.ensures

pub invariant_of-self-inside : goal.invariant_of-self-inside
invariant_of-self-inside c = record {
  rising = one_kept c.self.inside.objects.list.items c.args.i c.edit_one.new.object c.index_mut.result.now
      c.self.inside.objects.rising c.index_mut.ensures.value c.edit_one.ensures.same;
}
