use Rattle.std.proofs.Common.{◌≡◌, ◌++◌, arith, ℕ, true, IfSome, List, Some, slice_get, slice_set, length, vec_len}
use Rattle.std.proofs.Common.{rules, map, ap, subst, sym, ◌∙◌, refl}
use Rattle.std.proofs.lemmas.List.{get_or_default, length-map, length-set}
use Rattle.std.proofs.lemmas.Option.{slice_get-get_or}
use Rattle.message_values.specs.Found.{find, nth, IsPlace}
use Rattle.message_values.specs.declared.operation.Operation.TheVariants.{HandsOff}
use Rattle.container_links.specs.Asking.{prepared}
use Rattle.container_links.specs.Handing.{answers, awaits_but, next_prepared}
use Rattle.container_model.specs.HandOffs.{handing_frame, hands_off_at}
use Rattle.container_model.specs.Messages.{reply_link}
use Rattle.container_model.specs.Numbered.{IsNth}
use Rattle.container_model.specs.Record.{Record, asked_all, asked_object, is_linked, sends}
use Rattle.container_model.specs.declared.record.Frame.{Frame}
use Rattle.container_model.specs.declared.record.Link.{Link}
use Rattle.container_model.specs.declared.record.Object.{Object}
use Rattle.container_model.specs.Room.{IsSound}
use Rattle.container_queues.specs.Steady.{Steady}
use Rattle.container_objects.specs.Told.{ToldObject}
use Rattle.container_state.proofs.ContentsMade.{content_linked, few_all, last_is, prepared_there}
use Rattle.container_state.proofs.RepliesMade.{content_fine, reply_refused}
use Rattle.container_checks.proofs.Numbers.{AreRising, numbers, one_kept, still}
use Rattle.container_state.proofs.NumbersKept.{asked_kept}
use Rattle.container_state.proofs.state.State.last_content.Goals as goal

pub returns-clause-taken : goal.returns-clause-taken
returns-clause-taken c =
    let r : Record = record {
      session = c.self.inside.session;
      frames = c.self.inside.frames;
      objects = c.self.inside.objects.list.items;
      servers = c.self.inside.servers;
      last_object = c.self.inside.last_object;
      last_act = c.self.inside.last_act;
      last_g = c.self.inside.last_g;
      numbers = c.self.inside.numbers;
    } in
    let v : c.args.self.now ≡ r = sym c.self.view_is in
    let p : IsPlace (is_linked c.args.inc c.args.act) r.objects c.args.i =
    subst (λ (z : Record). IsPlace (is_linked c.args.inc c.args.act) z.objects c.args.i) v c.requires.place in
    let o : Object = c.index_mut.result.now in
    let g : slice_get r.objects c.args.i ≡ Some o = slice_get-get_or r.objects c.args.i o p.fits
    ∙ ap Some (sym c.index_mut.ensures.value) in
    let found : find (is_linked c.args.inc c.args.act) r.objects ≡ Some o = p.found ∙ g in
    let content : answers o.link (reply_link c.args.n c.args.answer o.link) ≡ true =
    subst (λ z. IfSome z (λ (y : Object). answers y.link (reply_link c.args.n c.args.answer y.link) ≡ true)) g
    (subst (λ (z : Record). IfSome (slice_get z.objects c.args.i)
    (λ (y : Object). answers y.link (reply_link c.args.n c.args.answer y.link) ≡ true)) v c.requires.content) in
    let k = content_linked o.link c.args.n c.args.answer content in
    let place : IsNth o.frame r.frames c.args.at =
    subst (λ z. IfSome z (λ (y : Object). IsNth y.frame r.frames c.args.at)) g
    (subst (λ (z : Record). IfSome (slice_get z.objects c.args.i)
    (λ (y : Object). IsNth y.frame z.frames c.args.at)) v c.requires.frame) in
    let x : Frame = c.index_mut-2.result.now in
    let gx : slice_get r.frames c.args.at ≡ Some x = slice_get-get_or r.frames c.args.at x place.fits
    ∙ ap Some (sym c.index_mut-2.ensures.value) in
    let there : nth r.frames o.frame ≡ Some x = place.found ∙ gx in
    let hands : hands_off_at x.phase x.asked (awaits_but o.frame c.args.i r.objects) ≡ true =
    subst (λ z. IfSome z (λ (y : Frame). hands_off_at y.phase y.asked (awaits_but o.frame c.args.i r.objects)
    ≡ true)) gx
    (subst
    (λ z. IfSome z (λ (q : Object). IfSome (slice_get r.frames c.args.at)
    (λ (y : Frame). hands_off_at y.phase y.asked (awaits_but q.frame c.args.i r.objects) ≡ true))) g
    (subst (λ (z : Record). IfSome (slice_get z.objects c.args.i)
    (λ (q : Object). IfSome (slice_get z.frames c.args.at)
    (λ (y : Frame). hands_off_at y.phase y.asked (awaits_but q.frame c.args.i z.objects) ≡ true))) v
    c.requires.hands)) in
    let at : c.index.result.now.frame ≡ o.frame = ap (λ (y : Object). y.frame)
    (c.index.ensures ∙ (get_or_default r.objects c.args.i c.index.result.now o p.fits
    ∙ sym c.index_mut.ensures.value)) in
    let w : ToldObject = record {
      object = c.told_object.new.object;
      taken = c.in-Ok-told_object.replied.taken;
      refused = c.in-Ok-told_object.replied.refused;
      grant = c.in-Ok-told_object.replied.grant;
      actions = c.in-Ok-told_object.replied.actions.items;
    } in
    let ready : c.in-Ok.takes.items ≡ slice_set (map (prepared o.frame HandsOff) r.objects) c.args.i
    (next_prepared k.0) =
    subst (λ (f : ℕ). c.in-Ok.takes.items ≡ slice_set (map (prepared f HandsOff) r.objects) c.args.i
    (next_prepared k.0)) at
    (subst
    (λ z. IfSome z (λ (l : Link). c.in-Ok.takes.items
    ≡ slice_set (map (prepared c.index.result.now.frame HandsOff) r.objects) c.args.i (next_prepared l))) k.1
    (subst
    (λ z. IfSome z (λ (q : Object). IfSome q.link (λ (l : Link). c.in-Ok.takes.items
    ≡ slice_set (map (prepared c.index.result.now.frame HandsOff) r.objects) c.args.i (next_prepared l)))) g
    (subst (λ (os : List Object). IfSome (slice_get os c.args.i)
    (λ (q : Object). IfSome q.link (λ (l : Link). c.in-Ok.takes.items
    ≡ slice_set (map (prepared c.index.result.now.frame HandsOff) os) c.args.i (next_prepared l))))
    c.as_slice.ensures.value c.in-Ok.ensures))) in
    rw v (last_is r c.args.inc c.args.act c.args.n c.args.answer o k.0 x k.2 found k.1 there k.3 content w
    c.in-Ok-told_object.ensures.taken c.args.i p.fits (p.puts w.object)
    (slice_set r.frames c.args.at c.hand_off.new.frame) c.settle_into.new.frames
    (slice_set r.objects c.args.i w.object) c.hand_off.new.objects.items c.in-Ok.takes.items
    c.hand_off.new.actions.items c.settle_into.new.actions.items c.answered.result
    hands ready refl
    (subst (λ (f : ℕ). c.in-Ok.takes.items ≡ map (prepared f HandsOff) (slice_set r.objects c.args.i w.object)
    → c.hand_off.new.objects.items ≡ map (asked_object f HandsOff) (slice_set r.objects c.args.i w.object)) at
    c.hand_off.ensures.objects)
    (subst (λ (f : ℕ). c.in-Ok.takes.items ≡ map (prepared f HandsOff) (slice_set r.objects c.args.i w.object)
    → c.hand_off.new.actions.items ≡ w.actions
    ++ sends (asked_all f HandsOff (slice_set r.objects c.args.i w.object))) at c.hand_off.ensures.asked)
    (ap (slice_set r.frames c.args.at) c.hand_off.ensures.frame ∙ sym (place.puts (handing_frame x)))
    c.settle_into.ensures.settled c.settle_into.ensures.asked c.answered.ensures)

pub index_mut-requires-2 : goal.index_mut-requires-2
index_mut-requires-2 c =
    let r : Record = record {
      session = c.self.inside.session;
      frames = c.self.inside.frames;
      objects = c.self.inside.objects.list.items;
      servers = c.self.inside.servers;
      last_object = c.self.inside.last_object;
      last_act = c.self.inside.last_act;
      last_g = c.self.inside.last_g;
      numbers = c.self.inside.numbers;
    } in
    let v : c.args.self.now ≡ r = sym c.self.view_is in
    let p : IsPlace (is_linked c.args.inc c.args.act) r.objects c.args.i =
    subst (λ (z : Record). IsPlace (is_linked c.args.inc c.args.act) z.objects c.args.i) v c.requires.place in
    let o : Object = c.index_mut.result.now in
    let g : slice_get r.objects c.args.i ≡ Some o = slice_get-get_or r.objects c.args.i o p.fits
    ∙ ap Some (sym c.index_mut.ensures.value) in
    let found : find (is_linked c.args.inc c.args.act) r.objects ≡ Some o = p.found ∙ g in
    let content : answers o.link (reply_link c.args.n c.args.answer o.link) ≡ true =
    subst (λ z. IfSome z (λ (y : Object). answers y.link (reply_link c.args.n c.args.answer y.link) ≡ true)) g
    (subst (λ (z : Record). IfSome (slice_get z.objects c.args.i)
    (λ (y : Object). answers y.link (reply_link c.args.n c.args.answer y.link) ≡ true)) v c.requires.content) in
    let k = content_linked o.link c.args.n c.args.answer content in
    let place : IsNth o.frame r.frames c.args.at =
    subst (λ z. IfSome z (λ (y : Object). IsNth y.frame r.frames c.args.at)) g
    (subst (λ (z : Record). IfSome (slice_get z.objects c.args.i)
    (λ (y : Object). IsNth y.frame z.frames c.args.at)) v c.requires.frame) in
    place.fits

pub told_object-requires-clause-few : goal.told_object-requires-clause-few
told_object-requires-clause-few c =
    let r : Record = record {
      session = c.self.inside.session;
      frames = c.self.inside.frames;
      objects = c.self.inside.objects.list.items;
      servers = c.self.inside.servers;
      last_object = c.self.inside.last_object;
      last_act = c.self.inside.last_act;
      last_g = c.self.inside.last_g;
      numbers = c.self.inside.numbers;
    } in
    let v : c.args.self.now ≡ r = sym c.self.view_is in
    let few = few_all r (subst Steady v c.requires.steady) (subst IsSound v c.requires.sound) in
    let objects : length c.self.inside.objects.list.items ≡ vec_len c.self.inside.objects.list = search rules in
    omega (arith, few, objects, c.len.ensures, c.len-2.ensures)

pub hand_off-requires-clause-len : goal.hand_off-requires-clause-len
hand_off-requires-clause-len c =
    let r : Record = record {
      session = c.self.inside.session;
      frames = c.self.inside.frames;
      objects = c.self.inside.objects.list.items;
      servers = c.self.inside.servers;
      last_object = c.self.inside.last_object;
      last_act = c.self.inside.last_act;
      last_g = c.self.inside.last_g;
      numbers = c.self.inside.numbers;
    } in
    let v : c.args.self.now ≡ r = sym c.self.view_is in
    let p : IsPlace (is_linked c.args.inc c.args.act) r.objects c.args.i =
    subst (λ (z : Record). IsPlace (is_linked c.args.inc c.args.act) z.objects c.args.i) v c.requires.place in
    let o : Object = c.index_mut.result.now in
    let g : slice_get r.objects c.args.i ≡ Some o = slice_get-get_or r.objects c.args.i o p.fits
    ∙ ap Some (sym c.index_mut.ensures.value) in
    let found : find (is_linked c.args.inc c.args.act) r.objects ≡ Some o = p.found ∙ g in
    let content : answers o.link (reply_link c.args.n c.args.answer o.link) ≡ true =
    subst (λ z. IfSome z (λ (y : Object). answers y.link (reply_link c.args.n c.args.answer y.link) ≡ true)) g
    (subst (λ (z : Record). IfSome (slice_get z.objects c.args.i)
    (λ (y : Object). answers y.link (reply_link c.args.n c.args.answer y.link) ≡ true)) v c.requires.content) in
    let k = content_linked o.link c.args.n c.args.answer content in
    let place : IsNth o.frame r.frames c.args.at =
    subst (λ z. IfSome z (λ (y : Object). IsNth y.frame r.frames c.args.at)) g
    (subst (λ (z : Record). IfSome (slice_get z.objects c.args.i)
    (λ (y : Object). IsNth y.frame z.frames c.args.at)) v c.requires.frame) in
    let at : c.index.result.now.frame ≡ o.frame = ap (λ (y : Object). y.frame)
    (c.index.ensures ∙ (get_or_default r.objects c.args.i c.index.result.now o p.fits
    ∙ sym c.index_mut.ensures.value)) in
    let w : ToldObject = record {
      object = c.told_object.new.object;
      taken = c.in-Ok-told_object.replied.taken;
      refused = c.in-Ok-told_object.replied.refused;
      grant = c.in-Ok-told_object.replied.grant;
      actions = c.in-Ok-told_object.replied.actions.items;
    } in
    let ready : c.in-Ok.takes.items ≡ slice_set (map (prepared o.frame HandsOff) r.objects) c.args.i
    (next_prepared k.0) =
    subst (λ (f : ℕ). c.in-Ok.takes.items ≡ slice_set (map (prepared f HandsOff) r.objects) c.args.i
    (next_prepared k.0)) at
    (subst
    (λ z. IfSome z (λ (l : Link). c.in-Ok.takes.items
    ≡ slice_set (map (prepared c.index.result.now.frame HandsOff) r.objects) c.args.i (next_prepared l))) k.1
    (subst
    (λ z. IfSome z (λ (q : Object). IfSome q.link (λ (l : Link). c.in-Ok.takes.items
    ≡ slice_set (map (prepared c.index.result.now.frame HandsOff) r.objects) c.args.i (next_prepared l)))) g
    (subst (λ (os : List Object). IfSome (slice_get os c.args.i)
    (λ (q : Object). IfSome q.link (λ (l : Link). c.in-Ok.takes.items
    ≡ slice_set (map (prepared c.index.result.now.frame HandsOff) os) c.args.i (next_prepared l))))
    c.as_slice.ensures.value c.in-Ok.ensures))) in
    let counted : vec_len c.in-Ok.takes ≡ length c.in-Ok.takes.items = search rules in
    counted
    ∙ (ap length ready ∙ (length-set (map (prepared o.frame HandsOff) r.objects) c.args.i (next_prepared k.0)
    ∙ (length-map r.objects (prepared o.frame HandsOff) ∙ sym (length-set r.objects c.args.i w.object))))

pub returns-in-Err-clause-refused : goal.returns-in-Err-clause-refused
returns-in-Err-clause-refused c =
    let r : Record = record {
      session = c.self.inside.session;
      frames = c.self.inside.frames;
      objects = c.self.inside.objects.list.items;
      servers = c.self.inside.servers;
      last_object = c.self.inside.last_object;
      last_act = c.self.inside.last_act;
      last_g = c.self.inside.last_g;
      numbers = c.self.inside.numbers;
    } in
    let v : c.args.self.now ≡ r = sym c.self.view_is in
    let p : IsPlace (is_linked c.args.inc c.args.act) r.objects c.args.i =
    subst (λ (z : Record). IsPlace (is_linked c.args.inc c.args.act) z.objects c.args.i) v c.requires.place in
    let o : Object = c.index_mut.result.now in
    let g : slice_get r.objects c.args.i ≡ Some o = slice_get-get_or r.objects c.args.i o p.fits
    ∙ ap Some (sym c.index_mut.ensures.value) in
    let found : find (is_linked c.args.inc c.args.act) r.objects ≡ Some o = p.found ∙ g in
    let content : answers o.link (reply_link c.args.n c.args.answer o.link) ≡ true =
    subst (λ z. IfSome z (λ (y : Object). answers y.link (reply_link c.args.n c.args.answer y.link) ≡ true)) g
    (subst (λ (z : Record). IfSome (slice_get z.objects c.args.i)
    (λ (y : Object). answers y.link (reply_link c.args.n c.args.answer y.link) ≡ true)) v c.requires.content) in
    let k = content_linked o.link c.args.n c.args.answer content in
    let place : IsNth o.frame r.frames c.args.at =
    subst (λ z. IfSome z (λ (y : Object). IsNth y.frame r.frames c.args.at)) g
    (subst (λ (z : Record). IfSome (slice_get z.objects c.args.i)
    (λ (y : Object). IsNth y.frame z.frames c.args.at)) v c.requires.frame) in
    rw v (reply_refused r c.args.inc c.args.act c.args.n c.args.answer o c.in-Err.fault found c.in-Err.ensures.refused)

pub returns-in_default-clause-refused : goal.returns-in_default-clause-refused
returns-in_default-clause-refused c =
    let r : Record = record {
      session = c.self.inside.session;
      frames = c.self.inside.frames;
      objects = c.self.inside.objects.list.items;
      servers = c.self.inside.servers;
      last_object = c.self.inside.last_object;
      last_act = c.self.inside.last_act;
      last_g = c.self.inside.last_g;
      numbers = c.self.inside.numbers;
    } in
    let v : c.args.self.now ≡ r = sym c.self.view_is in
    rw v (content_fine r c.args.inc c.args.act c.args.n c.args.answer c.args.i
    (subst (λ (z : Record). IsPlace (is_linked c.args.inc c.args.act) z.objects c.args.i) v c.requires.place)
    (subst (λ (z : Record). IfSome (slice_get z.objects c.args.i)
    (λ (y : Object). answers y.link (reply_link c.args.n c.args.answer y.link) ≡ true)) v c.requires.content))

pub invariant_of-self-inside : goal.invariant_of-self-inside
invariant_of-self-inside c = record {
  rising = one_kept c.self.inside.objects.list.items c.args.i c.told_object.new.object c.index_mut.result.now
      c.self.inside.objects.rising c.index_mut.ensures.value c.told_object.ensures.same;
}

pub invariant_of-self-inside-2 : goal.invariant_of-self-inside-2
invariant_of-self-inside-2 c =
    let r : Record = record {
      session = c.self.inside.session;
      frames = c.self.inside.frames;
      objects = c.self.inside.objects.list.items;
      servers = c.self.inside.servers;
      last_object = c.self.inside.last_object;
      last_act = c.self.inside.last_act;
      last_g = c.self.inside.last_g;
      numbers = c.self.inside.numbers;
    } in
    let v : c.args.self.now ≡ r = sym c.self.view_is in
    let p : IsPlace (is_linked c.args.inc c.args.act) r.objects c.args.i =
    subst (λ (z : Record). IsPlace (is_linked c.args.inc c.args.act) z.objects c.args.i) v c.requires.place in
    let o : Object = c.index_mut.result.now in
    let g : slice_get r.objects c.args.i ≡ Some o = slice_get-get_or r.objects c.args.i o p.fits
    ∙ ap Some (sym c.index_mut.ensures.value) in
    let found : find (is_linked c.args.inc c.args.act) r.objects ≡ Some o = p.found ∙ g in
    let content : answers o.link (reply_link c.args.n c.args.answer o.link) ≡ true =
    subst (λ z. IfSome z (λ (y : Object). answers y.link (reply_link c.args.n c.args.answer y.link) ≡ true)) g
    (subst (λ (z : Record). IfSome (slice_get z.objects c.args.i)
    (λ (y : Object). answers y.link (reply_link c.args.n c.args.answer y.link) ≡ true)) v c.requires.content) in
    let k = content_linked o.link c.args.n c.args.answer content in
    let place : IsNth o.frame r.frames c.args.at =
    subst (λ z. IfSome z (λ (y : Object). IsNth y.frame r.frames c.args.at)) g
    (subst (λ (z : Record). IfSome (slice_get z.objects c.args.i)
    (λ (y : Object). IsNth y.frame z.frames c.args.at)) v c.requires.frame) in
    let x : Frame = c.index_mut-2.result.now in
    let gx : slice_get r.frames c.args.at ≡ Some x = slice_get-get_or r.frames c.args.at x place.fits
    ∙ ap Some (sym c.index_mut-2.ensures.value) in
    let there : nth r.frames o.frame ≡ Some x = place.found ∙ gx in
    let hands : hands_off_at x.phase x.asked (awaits_but o.frame c.args.i r.objects) ≡ true =
    subst (λ z. IfSome z (λ (y : Frame). hands_off_at y.phase y.asked (awaits_but o.frame c.args.i r.objects)
    ≡ true)) gx
    (subst
    (λ z. IfSome z (λ (q : Object). IfSome (slice_get r.frames c.args.at)
    (λ (y : Frame). hands_off_at y.phase y.asked (awaits_but q.frame c.args.i r.objects) ≡ true))) g
    (subst (λ (z : Record). IfSome (slice_get z.objects c.args.i)
    (λ (q : Object). IfSome (slice_get z.frames c.args.at)
    (λ (y : Frame). hands_off_at y.phase y.asked (awaits_but q.frame c.args.i z.objects) ≡ true))) v
    c.requires.hands)) in
    let at : c.index.result.now.frame ≡ o.frame = ap (λ (y : Object). y.frame)
    (c.index.ensures ∙ (get_or_default r.objects c.args.i c.index.result.now o p.fits
    ∙ sym c.index_mut.ensures.value)) in
    let w : ToldObject = record {
      object = c.told_object.new.object;
      taken = c.in-Ok-told_object.replied.taken;
      refused = c.in-Ok-told_object.replied.refused;
      grant = c.in-Ok-told_object.replied.grant;
      actions = c.in-Ok-told_object.replied.actions.items;
    } in
    let ready : c.in-Ok.takes.items ≡ slice_set (map (prepared o.frame HandsOff) r.objects) c.args.i
    (next_prepared k.0) =
    subst (λ (f : ℕ). c.in-Ok.takes.items ≡ slice_set (map (prepared f HandsOff) r.objects) c.args.i
    (next_prepared k.0)) at
    (subst
    (λ z. IfSome z (λ (l : Link). c.in-Ok.takes.items
    ≡ slice_set (map (prepared c.index.result.now.frame HandsOff) r.objects) c.args.i (next_prepared l))) k.1
    (subst
    (λ z. IfSome z (λ (q : Object). IfSome q.link (λ (l : Link). c.in-Ok.takes.items
    ≡ slice_set (map (prepared c.index.result.now.frame HandsOff) r.objects) c.args.i (next_prepared l)))) g
    (subst (λ (os : List Object). IfSome (slice_get os c.args.i)
    (λ (q : Object). IfSome q.link (λ (l : Link). c.in-Ok.takes.items
    ≡ slice_set (map (prepared c.index.result.now.frame HandsOff) os) c.args.i (next_prepared l))))
    c.as_slice.ensures.value c.in-Ok.ensures))) in
    let os : List Object = slice_set r.objects c.args.i w.object in
    let f : ℕ = c.index.result.now.frame in
    let fit : c.in-Ok.takes.items ≡ map (prepared f HandsOff) os =
    subst (λ (n : ℕ). c.in-Ok.takes.items ≡ map (prepared n HandsOff) os) (sym at)
    (ready ∙ prepared_there r c.args.inc c.args.act c.args.n c.args.answer o k.0 x k.2 found k.1 there k.3 content w
    c.in-Ok-told_object.ensures.taken c.args.i p.fits (p.puts w.object)) in
    let before : AreRising (numbers os) = one_kept r.objects c.args.i w.object o c.self.inside.objects.rising
    c.index_mut.ensures.value c.told_object.ensures.same in
    (still before (sym (asked_kept f HandsOff os) ∙ ap numbers (sym (c.hand_off.ensures.objects fit))), tt)
