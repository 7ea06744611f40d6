use Rattle.std.proofs.Common.{◌≡◌, ◌+◌, ◌++◌, ◌∙◌, List, Some, IfSome, ap, refl, set, slice_get, subst, sym}
use Rattle.message_values.specs.Found.{put}
use Rattle.object_state.specs.declared.verbs.Step.{Step}
use Rattle.object_state.specs.Grants.{Ask}
use Rattle.object_state.specs.declared.grant_states.Claim.{Claim}
use Rattle.container_model.specs.declared.record.Frame.{Frame}
use Rattle.container_model.specs.declared.record.Object.{Object}
use Rattle.container_model.specs.Grants.{moved}
use Rattle.container_model.specs.Numbered.{IsNth}
use Rattle.container_model.specs.Record.{Record, is_object, sends}
use Rattle.container_model.specs.Verbs.{claim_of, holder_of, stepped_link, steps_now, taking_made}
use Rattle.container_objects.specs.Stepping.{told_objects, told_sent}
use Rattle.container_commands.proofs.VerbsPlaced.{in_frame}
use Rattle.container_objects.proofs.VerbsTaken.{read_as, taken_made}
use Rattle.container_state.proofs.state.State.take_numbered.Goals as goal

pub returns-clause-taken : goal.returns-clause-taken
returns-clause-taken c o l frame at stands linked =
    let s : Record = record {
      session = c.self.inside.session;
      frames = c.self.inside.frames;
      objects = c.self.inside.objects.list.items;
      servers = c.self.inside.servers;
      last_object = c.self.inside.last_object;
      last_act = c.self.inside.last_act;
      last_g = c.self.inside.last_g;
      numbers = c.self.inside.numbers;
    } in
    let view : s ≡ c.args.self.now = c.self.view_is in
    let here : slice_get s.objects c.args.i ≡ Some o = subst (λ (t : Record). slice_get t.objects c.args.i ≡ Some o)
    (sym view) at in
    let there : slice_get s.frames c.args.at ≡ Some frame =
    subst (λ (t : Record). slice_get t.frames c.args.at ≡ Some frame) (sym view) stands in
    let x : c.index-2.result.now ≡ o = read_as s.objects c.args.i c.index-2.result.now o c.index-2.ensures here in
    let y : c.index.result.now ≡ frame = read_as s.frames c.args.at c.index.result.now frame c.index.ensures there in
    let y2 : c.index_mut.result.now ≡ frame = read_as s.frames c.args.at c.index_mut.result.now frame
    c.index_mut.ensures.value there in
    let state : c.state-state.result ≡ frame.ui.state = c.state-state.ensures.state
    ∙ ap (λ (f : Frame). f.ui.state) y in
    let steps : List Step = c.steps_now-now.result.now in
    let now : steps ≡ steps_now frame.ui.state c.args.steps.now = c.steps_now-now.ensures
    ∙ ap (λ t. steps_now t c.args.steps.now) state in
    let holder : c.holder_of-holder.result ≡ holder_of frame.ui.state = c.holder_of-holder.ensures
    ∙ ap holder_of state in
    let claim : c.claim_of-claim.result ≡ claim_of o l (s.last_g + 1) =
    subst (λ t. IfSome t (λ m. c.claim_of-claim.result ≡ claim_of o m (s.last_g + 1))) linked
    (subst (λ (v : Object). IfSome v.link (λ m. c.claim_of-claim.result ≡ claim_of v m (s.last_g + 1))) x
    c.claim_of-claim.ensures) in
    let own : Object = record o { link = Some (stepped_link (s.last_g + 1) l steps).link } in
    let asked : c.ask_taking.new.objects.list.items ≡ put (is_object o.number) own
    (told_objects (holder_of frame.ui.state) s.objects) =
    c.in-Ok.ensures.asked o l here linked ∙ ap (λ h. put (is_object o.number) own (told_objects h s.objects)) holder in
    let sent : c.in-Ok.actions ≡ sends (told_sent (holder_of frame.ui.state) s.objects
    ++ (stepped_link (s.last_g + 1) l steps).sent) =
    c.in-Ok.ensures.sent o l here linked
    ∙ ap (λ h. sends (told_sent h s.objects ++ (stepped_link (s.last_g + 1) l steps).sent)) holder in
    let made : c.claim_frame.new.frame ≡ moved frame (Ask (claim_of o l (s.last_g + 1))) =
    c.claim_frame.ensures ∙ (ap (λ f. moved f (Ask c.claim_of-claim.result)) y2
    ∙ ap (λ (k : Claim). moved frame (Ask k)) claim) in
    let place : IsNth o.frame s.frames c.args.at = subst (λ (t : Record). IsNth o.frame t.frames c.args.at)
    (sym view) (in_frame c.args.self.now c.args.i c.args.at o at c.requires.frame) in
    ap (λ t. taking_made t frame o l c.args.steps.now) (sym view)
    ∙ taken_made s _ frame c.claim_frame.new.frame o l c.args.steps.now steps c.ask_taking.new.objects.list.items
    (set s.frames c.args.at c.claim_frame.new.frame) c.in-Ok.actions c.acts.result
    now made (sym (place.puts c.claim_frame.new.frame)) asked sent refl c.acts.ensures
