use Rattle.std.proofs.Common.{◌≡◌, ◌≤◌, ◌+◌, ◌++◌, true, List, length, map, ap, arith, refl, rules, subst, sym, vec_len}
use Rattle.std.proofs.Common.{◌∙◌}
use Rattle.std.proofs.lemmas.List.{length-map}
use Rattle.container_model.specs.Grants.{freed_claims, freed_frame}
use Rattle.container_model.specs.Messages.{reaped_object}
use Rattle.container_model.specs.Record.{Record, acts, is_alive}
use Rattle.container_model.specs.declared.record.Frame.{Frame}
use Rattle.container_model.specs.declared.record.Object.{Object}
use Rattle.container_grants.specs.Granted.{actions_of, installed_each, ready}
use Rattle.container_grants.specs.Places.{AllHavePlaces, free}
use Rattle.container_queues.specs.Steady.{Steady}
use Rattle.container_grants.proofs.ReapsMade.{few_at, reap_is, rooms_at}
use Rattle.container_checks.proofs.Numbers.{numbers, still}
use Rattle.container_state.proofs.NumbersKept.{handed_kept, reaped_kept}
use Rattle.container_core.proofs.reaps.on_reap.Goals as goal

pub hand_off_all-requires-clause-places : goal.hand_off_all-requires-clause-places
hand_off_all-requires-clause-places c =
    let r : Record = record {
      session = c.state.inside.session;
      frames = c.state.inside.frames;
      objects = c.state.inside.objects.list.items;
      servers = c.state.inside.servers;
      last_object = c.state.inside.last_object;
      last_act = c.state.inside.last_act;
      last_g = c.state.inside.last_g;
      numbers = c.state.inside.numbers;
    } in
    let v : c.args.state.now ≡ r = sym c.state.view_is in
    let steady : Steady r = subst Steady v c.requires.steady in
    let ready_is : c.in-Ok.grants.items ≡ map (ready r.objects) (freed_claims c.args.inc r.objects r.frames) =
    c.in-Ok.ensures.ready
    ∙ ap (λ (fs : List Frame). map (ready r.objects) (freed_claims c.args.inc r.objects fs)) c.as_slice.ensures in
    let freed : c.free_frames.new.frames ≡ map (freed_frame c.args.inc r.objects) r.frames = c.free_frames.ensures in
    let objects : c.take_grants.new.objects.list.items ≡ installed_each
    (map (ready r.objects) (freed_claims c.args.inc r.objects r.frames))
    (map (λ o. reaped_object c.args.inc o o.link) r.objects) =
    c.take_grants.ensures.objects ∙ (ap (λ qs. installed_each qs c.reap_all.new.objects.items) ready_is
    ∙ ap (λ (os : List Object). installed_each
    (map (ready r.objects) (freed_claims c.args.inc r.objects r.frames)) os) c.reap_all.ensures) in
    let grants : vec_len c.in-Ok.grants ≡ length c.in-Ok.grants.items = search rules in
    let many : c.len.result ≡ length (freed_claims c.args.inc r.objects r.frames) = c.len.ensures
    ∙ (grants ∙ (ap length ready_is ∙ length-map (freed_claims c.args.inc r.objects r.frames)
    (ready r.objects))) in
    let rooms : AllHavePlaces c.len.result 1 r.frames r.objects c.in-Ok-prepare_rooms.rooms.items =
    subst (λ (fs : List Frame). AllHavePlaces c.len.result 1 fs r.objects c.in-Ok-prepare_rooms.rooms.items)
    c.as_slice-frames.ensures c.in-Ok-prepare_rooms.ensures in
    rooms_at r c.args.inc steady c.len.result c.free_frames.new.frames c.take_grants.new.objects.list.items
    c.in-Ok-prepare_rooms.rooms.items many freed objects rooms

pub hand_off_all-requires-clause-room : goal.hand_off_all-requires-clause-room
hand_off_all-requires-clause-room c =
    let r : Record = record {
      session = c.state.inside.session;
      frames = c.state.inside.frames;
      objects = c.state.inside.objects.list.items;
      servers = c.state.inside.servers;
      last_object = c.state.inside.last_object;
      last_act = c.state.inside.last_act;
      last_g = c.state.inside.last_g;
      numbers = c.state.inside.numbers;
    } in
    let v : c.args.state.now ≡ r = sym c.state.view_is in
    let steady : Steady r = subst Steady v c.requires.steady in
    let ready_is : c.in-Ok.grants.items ≡ map (ready r.objects) (freed_claims c.args.inc r.objects r.frames) =
    c.in-Ok.ensures.ready
    ∙ ap (λ (fs : List Frame). map (ready r.objects) (freed_claims c.args.inc r.objects fs)) c.as_slice.ensures in
    let freed : c.free_frames.new.frames ≡ map (freed_frame c.args.inc r.objects) r.frames = c.free_frames.ensures in
    let objects : c.take_grants.new.objects.list.items ≡ installed_each
    (map (ready r.objects) (freed_claims c.args.inc r.objects r.frames))
    (map (λ o. reaped_object c.args.inc o o.link) r.objects) =
    c.take_grants.ensures.objects ∙ (ap (λ qs. installed_each qs c.reap_all.new.objects.items) ready_is
    ∙ ap (λ (os : List Object). installed_each
    (map (ready r.objects) (freed_claims c.args.inc r.objects r.frames)) os) c.reap_all.ensures) in
    let sent : c.take_grants.new.actions.items
    ≡ actions_of (map (ready r.objects) (freed_claims c.args.inc r.objects r.frames)) =
    c.take_grants.ensures.sent
    ∙ (ap (λ xs. xs ++ actions_of c.in-Ok.grants.items) c.in-Ok-with_capacity.ensures.items
    ∙ ap actions_of ready_is) in
    let told : vec_len c.take_grants.new.actions ≡ length c.take_grants.new.actions.items = search rules in
    let few : length c.take_grants.new.actions.items + free c.take_grants.new.objects.list.items
    ≤ length r.objects = few_at r c.args.inc steady c.take_grants.new.objects.list.items
    c.take_grants.new.actions.items objects sent in
    let count : vec_len c.state.inside.objects.list ≡ length r.objects = search rules in
    let kept : length c.free_frames.new.frames ≡ length r.frames = ap length freed
    ∙ length-map r.frames (freed_frame c.args.inc r.objects) in
    omega (
      arith,
      told,
      few,
      count,
      c.in-Ok-with_capacity.ensures.exact,
      c.take_grants.ensures.room,
      c.len-2.ensures,
      c.len-3.ensures,
      c.len-4.ensures,
    )

pub settle_into-requires-clause-room : goal.settle_into-requires-clause-room
settle_into-requires-clause-room c =
    let r : Record = record {
      session = c.state.inside.session;
      frames = c.state.inside.frames;
      objects = c.state.inside.objects.list.items;
      servers = c.state.inside.servers;
      last_object = c.state.inside.last_object;
      last_act = c.state.inside.last_act;
      last_g = c.state.inside.last_g;
      numbers = c.state.inside.numbers;
    } in
    let v : c.args.state.now ≡ r = sym c.state.view_is in
    let steady : Steady r = subst Steady v c.requires.steady in
    let ready_is : c.in-Ok.grants.items ≡ map (ready r.objects) (freed_claims c.args.inc r.objects r.frames) =
    c.in-Ok.ensures.ready
    ∙ ap (λ (fs : List Frame). map (ready r.objects) (freed_claims c.args.inc r.objects fs)) c.as_slice.ensures in
    let freed : c.free_frames.new.frames ≡ map (freed_frame c.args.inc r.objects) r.frames = c.free_frames.ensures in
    let objects : c.take_grants.new.objects.list.items ≡ installed_each
    (map (ready r.objects) (freed_claims c.args.inc r.objects r.frames))
    (map (λ o. reaped_object c.args.inc o o.link) r.objects) =
    c.take_grants.ensures.objects ∙ (ap (λ qs. installed_each qs c.reap_all.new.objects.items) ready_is
    ∙ ap (λ (os : List Object). installed_each
    (map (ready r.objects) (freed_claims c.args.inc r.objects r.frames)) os) c.reap_all.ensures) in
    let sent : c.take_grants.new.actions.items
    ≡ actions_of (map (ready r.objects) (freed_claims c.args.inc r.objects r.frames)) =
    c.take_grants.ensures.sent
    ∙ (ap (λ xs. xs ++ actions_of c.in-Ok.grants.items) c.in-Ok-with_capacity.ensures.items
    ∙ ap actions_of ready_is) in
    let told : vec_len c.take_grants.new.actions ≡ length c.take_grants.new.actions.items = search rules in
    let few : length c.take_grants.new.actions.items + free c.take_grants.new.objects.list.items
    ≤ length r.objects = few_at r c.args.inc steady c.take_grants.new.objects.list.items
    c.take_grants.new.actions.items objects sent in
    let count : vec_len c.state.inside.objects.list ≡ length r.objects = search rules in
    let kept : length c.free_frames.new.frames ≡ length r.frames = ap length freed
    ∙ length-map r.frames (freed_frame c.args.inc r.objects) in
    omega (
      arith,
      told,
      few,
      count,
      kept,
      c.in-Ok-with_capacity.ensures.exact,
      c.take_grants.ensures.room,
      c.len-2.ensures,
      c.len-3.ensures,
      c.len-4.ensures,
      c.hand_off_all.ensures.few,
      c.hand_off_all.ensures.len,
      c.hand_off_all.ensures.room,
    )

pub returns-clause-taken : goal.returns-clause-taken
returns-clause-taken c =
    let r : Record = record {
      session = c.state.inside.session;
      frames = c.state.inside.frames;
      objects = c.state.inside.objects.list.items;
      servers = c.state.inside.servers;
      last_object = c.state.inside.last_object;
      last_act = c.state.inside.last_act;
      last_g = c.state.inside.last_g;
      numbers = c.state.inside.numbers;
    } in
    let v : c.args.state.now ≡ r = sym c.state.view_is in
    let steady : Steady r = subst Steady v c.requires.steady in
    let ready_is : c.in-Ok.grants.items ≡ map (ready r.objects) (freed_claims c.args.inc r.objects r.frames) =
    c.in-Ok.ensures.ready
    ∙ ap (λ (fs : List Frame). map (ready r.objects) (freed_claims c.args.inc r.objects fs)) c.as_slice.ensures in
    let freed : c.free_frames.new.frames ≡ map (freed_frame c.args.inc r.objects) r.frames = c.free_frames.ensures in
    let objects : c.take_grants.new.objects.list.items ≡ installed_each
    (map (ready r.objects) (freed_claims c.args.inc r.objects r.frames))
    (map (λ o. reaped_object c.args.inc o o.link) r.objects) =
    c.take_grants.ensures.objects ∙ (ap (λ qs. installed_each qs c.reap_all.new.objects.items) ready_is
    ∙ ap (λ (os : List Object). installed_each
    (map (ready r.objects) (freed_claims c.args.inc r.objects r.frames)) os) c.reap_all.ensures) in
    let sent : c.take_grants.new.actions.items
    ≡ actions_of (map (ready r.objects) (freed_claims c.args.inc r.objects r.frames)) =
    c.take_grants.ensures.sent
    ∙ (ap (λ xs. xs ++ actions_of c.in-Ok.grants.items) c.in-Ok-with_capacity.ensures.items
    ∙ ap actions_of ready_is) in
    let alive : is_alive r c.args.inc ≡ true = sym c.is_alive.ensures ∙ c.if-not-is_alive.false in
    let q : Record = record r {
      frames = c.free_frames.new.frames;
      objects = c.take_grants.new.objects.list.items;
      servers = c.reap.new.self;
    } in
    rw v (reap_is r c.args.inc steady c.free_frames.new.frames c.hand_off_all.new.frames c.settle_into.new.frames
    c.reap.new.self c.take_grants.new.objects.list.items c.hand_off_all.new.objects.items
    c.take_grants.new.actions.items c.hand_off_all.new.actions.items c.settle_into.new.actions.items c.acts.result
    alive freed c.reap.ensures objects sent (c.hand_off_all.ensures.handed q refl refl)
    (c.hand_off_all.ensures.sent q refl refl)
    c.settle_into.ensures.settled c.settle_into.ensures.asked (c.acts.ensures ∙ ap acts c.from_vec.ensures))

pub returns-clause-few : goal.returns-clause-few
returns-clause-few c =
    let r : Record = record {
      session = c.state.inside.session;
      frames = c.state.inside.frames;
      objects = c.state.inside.objects.list.items;
      servers = c.state.inside.servers;
      last_object = c.state.inside.last_object;
      last_act = c.state.inside.last_act;
      last_g = c.state.inside.last_g;
      numbers = c.state.inside.numbers;
    } in
    let v : c.args.state.now ≡ r = sym c.state.view_is in
    let steady : Steady r = subst Steady v c.requires.steady in
    let ready_is : c.in-Ok.grants.items ≡ map (ready r.objects) (freed_claims c.args.inc r.objects r.frames) =
    c.in-Ok.ensures.ready
    ∙ ap (λ (fs : List Frame). map (ready r.objects) (freed_claims c.args.inc r.objects fs)) c.as_slice.ensures in
    let freed : c.free_frames.new.frames ≡ map (freed_frame c.args.inc r.objects) r.frames = c.free_frames.ensures in
    let objects : c.take_grants.new.objects.list.items ≡ installed_each
    (map (ready r.objects) (freed_claims c.args.inc r.objects r.frames))
    (map (λ o. reaped_object c.args.inc o o.link) r.objects) =
    c.take_grants.ensures.objects ∙ (ap (λ qs. installed_each qs c.reap_all.new.objects.items) ready_is
    ∙ ap (λ (os : List Object). installed_each
    (map (ready r.objects) (freed_claims c.args.inc r.objects r.frames)) os) c.reap_all.ensures) in
    let sent : c.take_grants.new.actions.items
    ≡ actions_of (map (ready r.objects) (freed_claims c.args.inc r.objects r.frames)) =
    c.take_grants.ensures.sent
    ∙ (ap (λ xs. xs ++ actions_of c.in-Ok.grants.items) c.in-Ok-with_capacity.ensures.items
    ∙ ap actions_of ready_is) in
    let told : vec_len c.take_grants.new.actions ≡ length c.take_grants.new.actions.items = search rules in
    let few : length c.take_grants.new.actions.items + free c.take_grants.new.objects.list.items
    ≤ length r.objects = few_at r c.args.inc steady c.take_grants.new.objects.list.items
    c.take_grants.new.actions.items objects sent in
    let count : vec_len c.state.inside.objects.list ≡ length r.objects = search rules in
    let kept : length c.free_frames.new.frames ≡ length r.frames = ap length freed
    ∙ length-map r.frames (freed_frame c.args.inc r.objects) in
    let all : vec_len c.settle_into.new.actions ≡ length c.settle_into.new.actions.items = search rules in
    let said : length c.acts.result.actions ≡ length c.settle_into.new.actions.items =
    ap (λ a. length a.actions) c.acts.ensures ∙ ap length c.from_vec.ensures in
    let those : length c.args.state.now.objects ≡ length r.objects = ap (λ (x : Record). length x.objects) v in
    let these : length c.args.state.now.frames ≡ length r.frames = ap (λ (x : Record). length x.frames) v in
    omega (
      arith,
      told,
      few,
      kept,
      all,
      said,
      those,
      these,
      c.settle_into.ensures.few,
      c.hand_off_all.ensures.few,
      c.hand_off_all.ensures.len,
    )

pub invariant_of-state-inside : goal.invariant_of-state-inside
invariant_of-state-inside c =
    record {
      rising = still c.state.inside.objects.rising
          (sym (reaped_kept c.args.inc c.state.inside.objects.list.items) ∙ ap numbers (sym c.reap_all.ensures));
    }

pub invariant_of-state-inside-2 : goal.invariant_of-state-inside-2
invariant_of-state-inside-2 c =
    let q : Record = record {
      session = c.state.inside.session;
      frames = c.free_frames.new.frames;
      objects = c.take_grants.new.objects.list.items;
      servers = c.reap.new.self;
      last_object = c.state.inside.last_object;
      last_act = c.state.inside.last_act;
      last_g = c.state.inside.last_g;
      numbers = c.state.inside.numbers;
    } in (
      still c.take_grants.new.objects.rising (sym (handed_kept q) ∙ ap (λ (t : Record). numbers t.objects)
          (c.hand_off_all.ensures.handed q refl refl)),
      tt,
    )
