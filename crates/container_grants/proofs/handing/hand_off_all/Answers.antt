use Rattle.std.proofs.Common.{◌≡◌, ◌+◌, ◌<◌, arith, length, refl, []}
use Rattle.std.specs.Vec.Iter.{into_iter_items, into_iter_len}
use Rattle.container_grants.proofs.AskedAway.{count_more, fits_place, frames_left, handed_done, handed_turn, no_more}
use Rattle.container_grants.proofs.AskedAway.{places_next, places_turned, sent_done, sent_turn}
use Rattle.container_grants.proofs.handing.hand_off_all.Goals as goal

pub hand_off_in-requires-clause-places : goal.hand_off_in-requires-clause-places
hand_off_in-requires-clause-places c =
    let lt : c.loop-place.f < length c.args.frames.now =
    (fits_place c.args.frames.now c.loop-place.objects.items _ _ c.in-Some.place (c.loop-place.f + 1)
    c.loop-place.f c.in-Some.ensures.steps.0 c.loop-place.invariant.places) in
    places_next c.args.frames.now c.loop-place.frames c.loop-place.objects.items c.loop-place.f _ _ c.in-Some.place
    c.in-Some.ensures.steps.0 lt c.loop-place.invariant.left c.loop-place.invariant.places

pub loop-place-preserved : goal.loop-place-preserved
loop-place-preserved c =
    let lt : c.loop-place.f < length c.args.frames.now =
    (fits_place c.args.frames.now c.loop-place.objects.items _ _ c.in-Some.place (c.loop-place.f + 1)
    c.loop-place.f c.in-Some.ensures.steps.0 c.loop-place.invariant.places) in
    record {
      can_next = tt;
      is_finite = tt;
      count = count_more _ _ c.in-Some.place _ _ c.loop-place.invariant.count c.in-Some.ensures.steps.0
          c.in-Some.ensures.steps.1;
      few = omega (arith, lt);
      len = (let had = c.loop-place.invariant.len in let has = c.hand_off_in.ensures.len in omega arith);
      left = frames_left c.args.frames.now c.loop-place.frames c.hand_off_in.new.frames c.loop-place.objects.items
          c.hand_off_in.new.objects.items c.loop-place.f c.loop-place.invariant.left c.hand_off_in.ensures.handed;
      places = places_turned c.args.frames.now c.loop-place.frames c.hand_off_in.new.frames
          c.loop-place.objects.items c.hand_off_in.new.objects.items c.loop-place.f _ _ c.in-Some.place
          c.in-Some.ensures.steps.0 lt c.hand_off_in.ensures.handed c.loop-place.invariant.places;
      handed = λ r frames objects. handed_turn c.args.frames.now c.loop-place.frames c.hand_off_in.new.frames
          c.loop-place.objects.items c.hand_off_in.new.objects.items c.loop-place.f lt c.hand_off_in.ensures.handed
          r _ (c.loop-place.invariant.handed r frames objects);
      sent = λ r frames objects. sent_turn c.args.frames.now c.loop-place.frames c.hand_off_in.new.frames
          c.loop-place.objects.items c.hand_off_in.new.objects.items c.loop-place.f lt c.hand_off_in.ensures.handed
          r
          c.loop-place.actions.items c.hand_off_in.new.actions.items _
          (c.loop-place.invariant.sent r frames objects)
          (c.hand_off_in.ensures.sent
          (record r { frames = c.loop-place.frames; objects = c.loop-place.objects.items }) refl refl);
      free = (let had = c.loop-place.invariant.free in let has = c.hand_off_in.ensures.few in omega arith);
      room = (let had = c.loop-place.invariant.room in let has = c.hand_off_in.ensures.room in omega arith);
    }

pub returns-clause-handed : goal.returns-clause-handed
returns-clause-handed c =
    let none : into_iter_items c.loop-place.place-iterator ≡ [] =
    no_more (into_iter_items c.loop-place.place-iterator) (into_iter_len c.loop-place.place-iterator)
    c.loop-place.invariant.count c.in-None.ensures.steps.0 in
    λ r frames objects. handed_done c.args.frames.now c.loop-place.frames c.loop-place.objects.items c.loop-place.f
    _ r _ none c.loop-place.invariant.places (c.loop-place.invariant.handed r frames objects)

pub returns-clause-sent : goal.returns-clause-sent
returns-clause-sent c =
    let none : into_iter_items c.loop-place.place-iterator ≡ [] =
    no_more (into_iter_items c.loop-place.place-iterator) (into_iter_len c.loop-place.place-iterator)
    c.loop-place.invariant.count c.in-None.ensures.steps.0 in
    λ r frames objects. sent_done c.args.frames.now c.loop-place.frames c.loop-place.objects.items c.loop-place.f _
    r c.loop-place.actions.items _ none c.loop-place.invariant.places
    (c.loop-place.invariant.sent r frames objects)
