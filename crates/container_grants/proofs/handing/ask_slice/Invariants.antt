use Rattle.std.proofs.Common.{◌≡◌, ◌+◌, ◌≤◌, ◌++◌, drop, length, map, take, vec_capacity, vec_len}
use Rattle.message_values.specs.declared.operation.Operation.TheVariants.{HandsOff}
use Rattle.container_model.specs.Record.{asked_all, asked_object, sends}
use Rattle.container_grants.specs.Places.{HavePlaces, free}
use Rattle.container_grants.proofs.handing.ask_slice.Given as goal

abbrev pub invariant-loop-i : goal.invariant-loop-i
invariant-loop-i l = record {
  each : length l.rooms.items ≡ length l.fn.objects;
  left : drop l.i l.rooms.items ≡ drop l.i l.fn.rooms.items;
  places : HavePlaces 0 l.f (drop l.i l.fn.objects) (drop l.i l.fn.rooms.items);
  asked : l.objects ≡ map (asked_object l.f HandsOff) (take l.i l.fn.objects) ++ drop l.i l.fn.objects;
  sent : l.actions.items ++ sends (asked_all l.f HandsOff (drop l.i l.fn.objects)) ≡ l.initial.actions.items
      ++ sends (asked_all l.f HandsOff l.fn.objects);
  few : vec_len l.actions + free (drop l.i l.fn.objects) ≤ vec_capacity l.actions;
  room : vec_capacity l.initial.actions ≤ vec_capacity l.actions;
}
