use Rattle.std.proofs.Common.{arith}
use Rattle.std.proofs.lemmas.Grind.{common_steps}
use Rattle.message_values.specs.declared.operation.Operation.TheVariants.{HandsOff}
use Rattle.container_model.specs.Record.{asked_object}
use Rattle.container_checks.proofs.LookupPlaces.{mapped_more}
use Rattle.container_grants.proofs.AskedAway.{few_here, left_more, places_more, sent_here}
use Rattle.container_grants.proofs.handing.ask_slice.Goals as goal

pub loop-i-preserved : goal.loop-i-preserved
loop-i-preserved c = record {
  each = grind (arith, common_steps);
  left = left_more c.args.rooms.items c.loop-i.rooms.items c.loop-i.i c.replace-room.new.dest c.loop-i.invariant.left;
  places = places_more 0 c.args.f c.args.objects.now c.args.rooms.items c.loop-i.i c.loop-i.invariant.places;
  asked = mapped_more (asked_object c.args.f HandsOff) c.args.objects.now c.loop-i.objects c.loop-i.i
      c.index-objects-i.result c.ask_object.new.object c.loop-i.invariant.asked c.loop-i-test.true
      c.ask_object.ensures.asked;
  sent = sent_here (asked_object c.args.f HandsOff) c.args.f HandsOff c.args.objects.now c.loop-i.objects c.loop-i.i
      c.index-objects-i.result c.loop-i.actions.items c.ask_object.new.actions.items _
      c.loop-i.invariant.asked c.loop-i-test.true c.loop-i.invariant.sent c.ask_object.ensures.sent;
  few = few_here (asked_object c.args.f HandsOff) c.args.objects.now c.loop-i.objects c.loop-i.i
      c.index-objects-i.result _ _ _ _
      c.loop-i.invariant.asked c.loop-i-test.true c.loop-i.invariant.few c.ask_object.ensures.few
      c.ask_object.ensures.room;
  room = (let had = c.loop-i.invariant.room in let has = c.ask_object.ensures.room in omega arith);
}
