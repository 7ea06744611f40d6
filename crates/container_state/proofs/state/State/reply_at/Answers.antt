use Rattle.std.proofs.Common.{◌≡◌, ◌++◌, ℕ, false, List, Option, Some, IfSome, slice_get, slice_set, ap, subst, sym}
use Rattle.std.proofs.Common.{◌∙◌, map}
use Rattle.std.proofs.lemmas.List.{get_or_default}
use Rattle.std.proofs.lemmas.Option.{slice_get-get_or}
use Rattle.message_values.specs.Found.{find, nth, put, IsPlace}
use Rattle.container_links.specs.Handing.{answers}
use Rattle.container_links.specs.Relieving.{gives_up}
use Rattle.container_model.specs.Messages.{reply_link}
use Rattle.container_model.specs.Record.{Record, is_linked}
use Rattle.container_model.specs.declared.record.Object.{Object}
use Rattle.message_values.specs.declared.operation.Operation.TheVariants.{UiDeactivate}
use Rattle.container_grants.specs.Granted.{actions_of, claims_if, installed_each, ready, told_frames, told_space_in}
use Rattle.container_objects.specs.Told.{ToldObject}
use Rattle.container_queues.specs.Steady.{Steady}
use Rattle.container_grants.proofs.GrantsEach.{Agrees}
use Rattle.container_grants.proofs.GrantsWaiting.{reply_agrees, reply_differs}
use Rattle.container_state.proofs.RepliesMade.{reply_is, reply_refused}
use Rattle.container_checks.proofs.Numbers.{one_kept}
use Rattle.container_state.proofs.state.State.reply_at.Goals as goal

pub returns-in-Err-clause-refused : goal.returns-in-Err-clause-refused
returns-in-Err-clause-refused c =
    let r : Record = record {
      session = c.self.inside.session;
      frames = c.self.inside.frames;
      objects = c.self.inside.objects.list.items;
      servers = c.self.inside.servers;
      last_object = c.self.inside.last_object;
      last_act = c.self.inside.last_act;
      last_g = c.self.inside.last_g;
      numbers = c.self.inside.numbers;
    } in
    let v : c.args.self.now ≡ r = sym c.self.view_is in
    let p : IsPlace (is_linked c.args.inc c.args.act) r.objects c.args.place =
    subst (λ (x : Record). IsPlace (is_linked c.args.inc c.args.act) x.objects c.args.place) v
    c.requires.place in
    let g : slice_get r.objects c.args.place ≡ Some c.index_mut.result.now =
    slice_get-get_or r.objects c.args.place c.index_mut.result.now p.fits
    ∙ ap Some (sym c.index_mut.ensures.value) in
    rw v (reply_refused r c.args.inc c.args.act c.args.n c.args.answer c.index_mut.result.now c.in-Err.fault
    (p.found ∙ g) c.in-Err.ensures.refused)

pub returns-clause-taken : goal.returns-clause-taken
returns-clause-taken c =
    let r : Record = record {
      session = c.self.inside.session;
      frames = c.self.inside.frames;
      objects = c.self.inside.objects.list.items;
      servers = c.self.inside.servers;
      last_object = c.self.inside.last_object;
      last_act = c.self.inside.last_act;
      last_g = c.self.inside.last_g;
      numbers = c.self.inside.numbers;
    } in
    let v : c.args.self.now ≡ r = sym c.self.view_is in
    let p : IsPlace (is_linked c.args.inc c.args.act) r.objects c.args.place =
    subst (λ (x : Record). IsPlace (is_linked c.args.inc c.args.act) x.objects c.args.place) v
    c.requires.place in
    let o : Object = c.index_mut.result.now in
    let g : slice_get r.objects c.args.place ≡ Some o = slice_get-get_or r.objects c.args.place o p.fits
    ∙ ap Some (sym c.index_mut.ensures.value) in
    let found : find (is_linked c.args.inc c.args.act) r.objects ≡ Some o = p.found ∙ g in
    let before : c.index-3.result.now ≡ o = c.index-3.ensures
    ∙ (get_or_default r.objects c.args.place c.index-3.result.now o p.fits ∙ sym c.index_mut.ensures.value) in
    let at : c.index-2.result.now.frame ≡ o.frame = ap (λ (x : Object). x.frame)
    (c.index-2.ensures ∙ (get_or_default r.objects c.args.place c.index-2.result.now o p.fits
    ∙ sym c.index_mut.ensures.value)) in
    let w : ToldObject = record {
      object = c.told_object.new.object;
      taken = c.in-Ok-told_object.replied.taken;
      refused = c.in-Ok-told_object.replied.refused;
      grant = c.in-Ok-told_object.replied.grant;
      actions = c.in-Ok-told_object.replied.actions.items;
    } in
    let gives : Option ℕ = c.gives_up-gives.result in
    let given : gives ≡ gives_up (reply_link c.args.n c.args.answer o.link) = c.gives_up-gives.ensures.told
    ∙ ap (λ (x : Object). gives_up (reply_link c.args.n c.args.answer x.link)) before in
    let asked : IfSome gives (λ act. IfSome o.link (λ l. l.pending ≡ Some UiDeactivate)) =
    subst (λ (x : Object). IfSome gives (λ act. IfSome x.link (λ l. l.pending ≡ Some UiDeactivate))) before
    c.gives_up-gives.ensures.asked in
    let ready_is : c.in-Ok.grants.items ≡ map (ready r.objects) (claims_if gives (nth r.frames o.frame)) =
    c.in-Ok.ensures.ready
    ∙ ap (λ (f : ℕ). map (ready r.objects) (claims_if gives (nth r.frames f))) at in
    let first : c.index.result.now ≡ o = c.index.ensures
    ∙ (get_or_default r.objects c.args.place c.index.result.now o p.fits ∙ sym c.index_mut.ensures.value) in
    let quiet : answers o.link (reply_link c.args.n c.args.answer o.link) ≡ false =
    ap (λ (x : Object). answers x.link (reply_link c.args.n c.args.answer x.link)) (sym first)
    ∙ (sym c.is_content.ensures ∙ c.if-is_content.false) in
    let steady : Steady r = subst Steady v c.requires.steady in
    let number : w.object.number ≡ o.number = c.in-Ok-told_object.ensures.same in
    let puts : put (is_linked c.args.inc c.args.act) w.object r.objects ≡ slice_set r.objects c.args.place
    w.object = p.puts w.object in
    let agrees : _ = subst (λ (os : List Object). Agrees r.objects os (claims_if gives (nth r.frames o.frame))) puts
    (reply_agrees r steady (is_linked c.args.inc c.args.act) o w.object found number c.args.n c.args.answer
    gives given asked) in
    rw v (reply_is r c.args.inc c.args.act c.args.n c.args.answer o w (slice_set r.objects c.args.place w.object)
    gives found given quiet
    c.take_grants.new.objects.list.items c.tell_frame-no_tools.new.frames c.settle_into.new.frames
    c.take_grants.new.actions.items c.settle_into.new.actions.items c.answered.result
    c.tell_frame-no_tools.result
    c.in-Ok-told_object.ensures.taken puts agrees (reply_differs gives (nth r.frames o.frame))
    (c.take_grants.ensures.objects ∙ ap (λ qs. installed_each qs (slice_set r.objects c.args.place w.object)) ready_is)
    (c.tell_frame-no_tools.ensures.frames ∙ ap (λ (f : ℕ). told_frames f w.grant r.frames) at)
    (c.tell_frame-no_tools.ensures.space ∙ ap (λ (f : ℕ). told_space_in w.grant (nth r.frames f)) at)
    (c.take_grants.ensures.sent ∙ ap (λ qs. w.actions ++ actions_of qs) ready_is)
    c.settle_into.ensures.settled c.settle_into.ensures.asked c.answered.ensures)

pub invariant_of-self-inside : goal.invariant_of-self-inside
invariant_of-self-inside c = record {
  rising = one_kept c.self.inside.objects.list.items c.args.place c.told_object.new.object c.index_mut.result.now
      c.self.inside.objects.rising c.index_mut.ensures.value c.told_object.ensures.same;
}
