use Rattle.std.proofs.Common.{◌≡◌, ◌+◌, ◌≤◌, ◌++◌, drop, length, vec_capacity, vec_len}
use Rattle.std.specs.Vec.Iter.{into_iter_items, into_iter_len}
use Rattle.container_model.specs.HandOffs.{hand_off, hand_off_each}
use Rattle.container_model.specs.Record.{Record, sends}
use Rattle.container_grants.specs.Places.{AllHavePlaces, free}
use Rattle.container_grants.proofs.handing.hand_off_all.Given as goal

abbrev pub invariant-loop-place : goal.invariant-loop-place
invariant-loop-place l = record {
  can_next : (goal.iterator-loop-place).can_next l.place-iterator;
  is_finite : (goal.iterator-loop-place).is_finite l.place-iterator;
  count : into_iter_len l.place-iterator ≡ length (into_iter_items l.place-iterator);
  few : l.f ≤ length l.initial.frames;
  len : length l.frames ≡ length l.initial.frames;
  left : drop l.f l.frames ≡ drop l.f l.initial.frames;
  places : AllHavePlaces 0 (l.f + 1) (drop l.f l.initial.frames) l.objects.items (into_iter_items l.place-iterator);
  handed : (r : Record) → r.frames ≡ l.initial.frames → r.objects ≡ l.initial.objects.items
      → (hand_off_each (l.f + 1) (drop l.f l.initial.frames)
      (record r { frames = l.frames; objects = l.objects.items })).rec ≡ (hand_off r).rec;
  sent : (r : Record) → r.frames ≡ l.initial.frames → r.objects ≡ l.initial.objects.items
      → l.actions.items ++ sends (hand_off_each (l.f + 1) (drop l.f l.initial.frames)
      (record r { frames = l.frames; objects = l.objects.items })).sent ≡ l.initial.actions.items
      ++ sends (hand_off r).sent;
  free : vec_len l.actions + free l.objects.items ≤ vec_len l.initial.actions + free l.initial.objects.items;
  room : vec_capacity l.initial.actions ≤ vec_capacity l.actions;
}
