use Rattle.std.proofs.Common.{◌≡◌, ◌∙◌, Ok, IsOk, ap, nat_le, refl, true, false, slice_get, Some, subst, sym}
use Rattle.std.proofs.lemmas.Result.{IfErr-weaker, IfOk-weaker}
use Rattle.container_model.specs.declared.fault.ContainerFault.{ContainerFault}
use Rattle.container_model.specs.declared.record.Frame.{Frame}
use Rattle.container_model.specs.Record.{Record, Refuses}
use Rattle.container_model.specs.Verbs.{holder_has_numbers, holder_of, taking}
use Rattle.container_objects.proofs.VerbsTaken.{past_last, read_as, taking_by}
use Rattle.container_state.proofs.state.State.take.Goals as goal

pub returns-clause-taken : goal.returns-clause-taken
returns-clause-taken c =
    let r : Record = c.args.self.now in
    IfOk-weaker c.take_numbered.result _ _ (λ a made o l frame at stands linked.
    let s : Record = record {
      session = c.self.inside.session;
      frames = c.self.inside.frames;
      objects = c.self.inside.objects.list.items;
      servers = c.self.inside.servers;
      last_object = c.self.inside.last_object;
      last_act = c.self.inside.last_act;
      last_g = c.self.inside.last_g;
      numbers = c.self.inside.numbers;
    } in
    let view : s ≡ r = c.self.view_is in
    let there : slice_get s.frames c.args.at ≡ Some frame =
    subst (λ (t : Record). slice_get t.frames c.args.at ≡ Some frame) (sym view) stands in
    let y : c.index.result.now ≡ frame = read_as s.frames c.args.at c.index.result.now frame c.index.ensures there in
    let holder : c.holder_of-holder.result ≡ holder_of frame.ui.state = c.holder_of-holder.ensures
    ∙ (ap holder_of (c.state-state.ensures.state ∙ ap (λ (f : Frame). f.ui.state) y)) in
    let few : nat_le r.numbers r.last_g ≡ false = subst (λ (t : Record). nat_le t.numbers t.last_g ≡ false) view
    (past_last s.numbers s.last_g c.if-self.false) in
    let has : holder_has_numbers r (holder_of frame.ui.state) ≡ true = ap (holder_has_numbers r) (sym holder)
    ∙ (sym (c.holder_has_numbers.ensures r (ap (λ (t : Record). t.numbers) (sym view))
    (ap (λ (t : Record). t.objects) (sym view))) ∙ c.if-not-holder_has_numbers.false) in
    taking_by r frame o l c.args.steps.now few has ∙ ap Ok (made o l frame at stands linked))
    c.take_numbered.ensures.taken

pub returns-clause-refused : goal.returns-clause-refused
returns-clause-refused c =
    let r : Record = c.args.self.now in
    IfErr-weaker c.take_numbered.result _ _ (λ e is o l frame at stands linked.
    let s : Record = record {
      session = c.self.inside.session;
      frames = c.self.inside.frames;
      objects = c.self.inside.objects.list.items;
      servers = c.self.inside.servers;
      last_object = c.self.inside.last_object;
      last_act = c.self.inside.last_act;
      last_g = c.self.inside.last_g;
      numbers = c.self.inside.numbers;
    } in
    let view : s ≡ r = c.self.view_is in
    let there : slice_get s.frames c.args.at ≡ Some frame =
    subst (λ (t : Record). slice_get t.frames c.args.at ≡ Some frame) (sym view) stands in
    let y : c.index.result.now ≡ frame = read_as s.frames c.args.at c.index.result.now frame c.index.ensures there in
    let holder : c.holder_of-holder.result ≡ holder_of frame.ui.state = c.holder_of-holder.ensures
    ∙ (ap holder_of (c.state-state.ensures.state ∙ ap (λ (f : Frame). f.ui.state) y)) in
    let few : nat_le r.numbers r.last_g ≡ false = subst (λ (t : Record). nat_le t.numbers t.last_g ≡ false) view
    (past_last s.numbers s.last_g c.if-self.false) in
    let has : holder_has_numbers r (holder_of frame.ui.state) ≡ true = ap (holder_has_numbers r) (sym holder)
    ∙ (sym (c.holder_has_numbers.ensures r (ap (λ (t : Record). t.numbers) (sym view))
    (ap (λ (t : Record). t.objects) (sym view))) ∙ c.if-not-holder_has_numbers.false) in
    subst (λ (f : ContainerFault). Refuses (taking r frame o l c.args.steps.now) f) (sym is)
    (subst (λ t. IsOk t) (sym (taking_by r frame o l c.args.steps.now few has)) refl))
    c.take_numbered.ensures.refused
