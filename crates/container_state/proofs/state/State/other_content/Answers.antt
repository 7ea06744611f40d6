use Rattle.std.proofs.Common.{◌≡◌, true, false, IfSome, Some, slice_get, slice_set, ap, subst, sym, ◌∙◌, refl}
use Rattle.std.proofs.lemmas.Option.{slice_get-get_or}
use Rattle.message_values.specs.Found.{find, nth, IsPlace}
use Rattle.container_links.specs.Handing.{answers, awaits_but}
use Rattle.container_model.specs.HandOffs.{hands_off_at}
use Rattle.container_model.specs.Messages.{reply_link}
use Rattle.container_model.specs.Numbered.{IsNth}
use Rattle.container_model.specs.Record.{Record, is_linked}
use Rattle.container_model.specs.declared.record.Frame.{Frame}
use Rattle.container_model.specs.declared.record.Object.{Object}
use Rattle.container_objects.specs.Told.{ToldObject}
use Rattle.container_state.proofs.ContentsMade.{content_linked, frame_at, other_is}
use Rattle.container_state.proofs.RepliesMade.{reply_refused}
use Rattle.container_checks.proofs.Numbers.{one_kept}
use Rattle.container_state.proofs.state.State.other_content.Goals as goal

pub returns-clause-taken : goal.returns-clause-taken
returns-clause-taken c =
    let r : Record = record {
      session = c.self.inside.session;
      frames = c.self.inside.frames;
      objects = c.self.inside.objects.list.items;
      servers = c.self.inside.servers;
      last_object = c.self.inside.last_object;
      last_act = c.self.inside.last_act;
      last_g = c.self.inside.last_g;
      numbers = c.self.inside.numbers;
    } in
    let v : c.args.self.now ≡ r = sym c.self.view_is in
    let p : IsPlace (is_linked c.args.inc c.args.act) r.objects c.args.i =
    subst (λ (z : Record). IsPlace (is_linked c.args.inc c.args.act) z.objects c.args.i) v c.requires.place in
    let o : Object = c.index_mut.result.now in
    let g : slice_get r.objects c.args.i ≡ Some o = slice_get-get_or r.objects c.args.i o p.fits
    ∙ ap Some (sym c.index_mut.ensures.value) in
    let found : find (is_linked c.args.inc c.args.act) r.objects ≡ Some o = p.found ∙ g in
    let content : answers o.link (reply_link c.args.n c.args.answer o.link) ≡ true =
    subst (λ z. IfSome z (λ (y : Object). answers y.link (reply_link c.args.n c.args.answer y.link) ≡ true)) g
    (subst (λ (z : Record). IfSome (slice_get z.objects c.args.i)
    (λ (y : Object). answers y.link (reply_link c.args.n c.args.answer y.link) ≡ true)) v c.requires.content) in
    let k = content_linked o.link c.args.n c.args.answer content in
    let place : IsNth o.frame r.frames c.args.at =
    subst (λ z. IfSome z (λ (y : Object). IsNth y.frame r.frames c.args.at)) g
    (subst (λ (z : Record). IfSome (slice_get z.objects c.args.i)
    (λ (y : Object). IsNth y.frame z.frames c.args.at)) v c.requires.frame) in
    let fx = frame_at r.frames c.args.at place.fits in
    let x : Frame = fx.0 in
    let there : nth r.frames o.frame ≡ Some x = place.found ∙ fx.1 in
    let hands : hands_off_at x.phase x.asked (awaits_but o.frame c.args.i r.objects) ≡ false =
    subst (λ z. IfSome z (λ (y : Frame). hands_off_at y.phase y.asked (awaits_but o.frame c.args.i r.objects)
    ≡ false)) fx.1
    (subst
    (λ z. IfSome z (λ (q : Object). IfSome (slice_get r.frames c.args.at)
    (λ (y : Frame). hands_off_at y.phase y.asked (awaits_but q.frame c.args.i r.objects) ≡ false))) g
    (subst (λ (z : Record). IfSome (slice_get z.objects c.args.i)
    (λ (q : Object). IfSome (slice_get z.frames c.args.at)
    (λ (y : Frame). hands_off_at y.phase y.asked (awaits_but q.frame c.args.i z.objects) ≡ false))) v
    c.requires.hands)) in
    let w : ToldObject = record {
      object = c.told_object.new.object;
      taken = c.in-Ok.replied.taken;
      refused = c.in-Ok.replied.refused;
      grant = c.in-Ok.replied.grant;
      actions = c.in-Ok.replied.actions.items;
    } in
    rw v (other_is r c.args.inc c.args.act c.args.n c.args.answer o k.0 x k.2 found k.1 there k.3 content w
    c.in-Ok.ensures.taken c.args.i p.fits (p.puts w.object)
    c.settle_into.new.frames (slice_set r.objects c.args.i w.object) c.settle_into.new.actions.items c.answered.result
    hands refl c.settle_into.ensures.settled c.settle_into.ensures.asked c.answered.ensures)

pub returns-in-Err-clause-refused : goal.returns-in-Err-clause-refused
returns-in-Err-clause-refused c =
    let r : Record = record {
      session = c.self.inside.session;
      frames = c.self.inside.frames;
      objects = c.self.inside.objects.list.items;
      servers = c.self.inside.servers;
      last_object = c.self.inside.last_object;
      last_act = c.self.inside.last_act;
      last_g = c.self.inside.last_g;
      numbers = c.self.inside.numbers;
    } in
    let v : c.args.self.now ≡ r = sym c.self.view_is in
    let p : IsPlace (is_linked c.args.inc c.args.act) r.objects c.args.i =
    subst (λ (z : Record). IsPlace (is_linked c.args.inc c.args.act) z.objects c.args.i) v c.requires.place in
    let o : Object = c.index_mut.result.now in
    let g : slice_get r.objects c.args.i ≡ Some o = slice_get-get_or r.objects c.args.i o p.fits
    ∙ ap Some (sym c.index_mut.ensures.value) in
    let found : find (is_linked c.args.inc c.args.act) r.objects ≡ Some o = p.found ∙ g in
    let content : answers o.link (reply_link c.args.n c.args.answer o.link) ≡ true =
    subst (λ z. IfSome z (λ (y : Object). answers y.link (reply_link c.args.n c.args.answer y.link) ≡ true)) g
    (subst (λ (z : Record). IfSome (slice_get z.objects c.args.i)
    (λ (y : Object). answers y.link (reply_link c.args.n c.args.answer y.link) ≡ true)) v c.requires.content) in
    let k = content_linked o.link c.args.n c.args.answer content in
    let place : IsNth o.frame r.frames c.args.at =
    subst (λ z. IfSome z (λ (y : Object). IsNth y.frame r.frames c.args.at)) g
    (subst (λ (z : Record). IfSome (slice_get z.objects c.args.i)
    (λ (y : Object). IsNth y.frame z.frames c.args.at)) v c.requires.frame) in
    rw v (reply_refused r c.args.inc c.args.act c.args.n c.args.answer o c.in-Err.fault found c.in-Err.ensures.refused)

pub invariant_of-self-inside : goal.invariant_of-self-inside
invariant_of-self-inside c = record {
  rising = one_kept c.self.inside.objects.list.items c.args.i c.told_object.new.object c.index_mut.result.now
      c.self.inside.objects.rising c.index_mut.ensures.value c.told_object.ensures.same;
}
