use Rattle.std.proofs.Common.{◌∙◌, ◌++◌, ℕ, List, ap, length, subst, sym}
use Rattle.container_model.specs.Record.{Record}
use Rattle.container_model.specs.Opens.{opened_frame, opened_objects}
use Rattle.container_model.specs.declared.record.Object.{Object}
use Rattle.container_checks.proofs.Numbers.{AreRising, numbers}
use Rattle.container_state.proofs.Drawn.{numbers_past}
use Rattle.container_core.proofs.OpensMade.{made_is, numbers_next}
use Rattle.container_core.proofs.opens.make_opened.Goals as goal

pub returns-clause-made : goal.returns-clause-made
returns-clause-made c =
    let s : Record = record {
      session = c.state.inside.session;
      frames = c.state.inside.frames;
      objects = c.state.inside.objects.list.items;
      servers = c.state.inside.servers;
      last_object = c.state.inside.last_object;
      last_act = c.state.inside.last_act;
      last_g = c.state.inside.last_g;
      numbers = c.state.inside.numbers;
    } in
    made_is s c.args.state.now c.args.name c.args.w c.args.h c.args.document c.len.result c.len-count.result
    c.opened_frame.result c.push.new.self c.in_ok-more.more.items c.append_reserved.new.self.list.items
    c.as_slice.result.now c.in_ok-answer.answer
    c.state.view_is c.len.ensures (c.len-count.ensures ∙ c.into_vec-objects.result.ok.0
    ∙ ap length c.into_vec-objects.ensures.objects)
    (c.opened_frame.ensures ∙ ap (opened_frame c.args.name c.args.w c.args.h) c.session-session.ensures)
    c.in_ok-push.ensures.items
    (c.in_ok-more.ensures ∙ ap (opened_objects _ _) c.into_vec-objects.ensures.objects)
    (c.append_reserved.ensures ∙ ap (λ (os : List Object). os ++ c.in_ok-more.more.items)
    c.reserve.ensures.kept) c.as_slice.ensures.value c.in_ok-answer.ensures

pub append_reserved-requires-clause-rising : goal.append_reserved-requires-clause-rising
append_reserved-requires-clause-rising c =
    let s : Record = record {
      session = c.state.inside.session;
      frames = c.state.inside.frames;
      objects = c.state.inside.objects.list.items;
      servers = c.state.inside.servers;
      last_object = c.state.inside.last_object;
      last_act = c.state.inside.last_act;
      last_g = c.state.inside.last_g;
      numbers = c.state.inside.numbers;
    } in
    subst (λ (ks : List ℕ). AreRising (ks ++ numbers c.in_ok-more.more.items)) (ap numbers (sym c.reserve.ensures.kept))
    (numbers_past s c.args.state.now c.state.view_is c.requires.steady c.state.inside.objects.rising
    (numbers c.in_ok-more.more.items) (length c.into_vec-objects.result.items)
    (ap numbers c.in_ok-more.ensures ∙ numbers_next s.last_object _ c.into_vec-objects.result.items))
