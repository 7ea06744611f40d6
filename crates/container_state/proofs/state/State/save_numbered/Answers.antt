use Rattle.std.proofs.Common.{◌≡◌, ◌+◌, ℕ, IfSome, List, Some, true, map, arith, sym, ◌∙◌, ap, slice_get, subst, set}
use Rattle.std.proofs.Common.{◌++◌, if◌then◌else◌}
use Rattle.std.proofs.lemmas.Option.{slice_get-get_or}
use Rattle.message_values.specs.Found.{nth}
use Rattle.container_model.specs.Saves.{settled_actions}
use Rattle.message_values.specs.declared.operation.Operation.TheVariants.{Save}
use Rattle.container_links.specs.Asking.{IsAsking}
use Rattle.container_model.specs.Commands.{all_have_numbers}
use Rattle.container_model.specs.HandOffs.{handing_frame, hands_off}
use Rattle.container_model.specs.declared.record.Phase.TheVariants.{Idle}
use Rattle.container_queues.specs.Steady.{Steady}
use Rattle.container_model.specs.Numbered.{IsNth}
use Rattle.container_model.specs.Record.{Record, acts, asked_object}
use Rattle.container_model.specs.declared.record.Frame.{Frame}
use Rattle.container_model.specs.declared.record.Object.{Object}
use Rattle.container_commands.proofs.CommandsSave.{saved_is, saved_taken}
use Rattle.container_checks.proofs.Numbers.{numbers, still}
use Rattle.container_state.proofs.NumbersKept.{asked_kept}
use Rattle.container_state.proofs.state.State.save_numbered.Goals as goal

pub returns-clause-taken : goal.returns-clause-taken
returns-clause-taken c =
    let r : Record = record {
      session = c.self.inside.session;
      frames = c.self.inside.frames;
      objects = c.self.inside.objects.list.items;
      servers = c.self.inside.servers;
      last_object = c.self.inside.last_object;
      last_act = c.self.inside.last_act;
      last_g = c.self.inside.last_g;
      numbers = c.self.inside.numbers;
    } in
    let view : r ≡ c.args.self.now = c.self.view_is in
    let f : ℕ = c.args.frame in
    let a : Frame = c.index.result.now in
    let place : IsNth f r.frames c.args.at = subst (λ (x : Record). IsNth f x.frames c.args.at) (sym view)
    c.requires.place in
    let has : all_have_numbers f r.numbers r.objects ≡ true = ap (all_have_numbers f r.numbers)
    (sym c.as_slice.ensures.value) ∙ (sym c.all_have_numbers.ensures ∙ c.if-not-all_have_numbers.false) in
    let asking : IsAsking f (Save (a.k + 1)) r.objects c.in-Ok.asking.actions.items c.in-Ok.asking.takes.items =
    subst (λ (os : List Object). IsAsking f (Save (a.k + 1)) os c.in-Ok.asking.actions.items
    c.in-Ok.asking.takes.items) c.as_slice-2.ensures.value c.in-Ok.ensures in
    let objects : c.take_up.new.objects.items ≡ map (asked_object f (Save (a.k + 1))) r.objects =
    c.take_up.ensures f (Save (a.k + 1)) asking.takes in
    let steady : Steady r = subst Steady (sym view) c.requires.steady in
    let here : slice_get r.frames c.args.at ≡ Some a = slice_get-get_or r.frames c.args.at a place.fits
    ∙ ap (λ (x : Frame). Some x) (sym c.index.ensures) in
    let there : nth r.frames f ≡ Some a = place.found ∙ here in
    let idle : a.phase ≡ Idle = subst (λ o. IfSome o (λ (x : Frame). x.phase ≡ Idle)) here
    (subst (λ (x : Record). IfSome (slice_get x.frames c.args.at) (λ (y : Frame). y.phase ≡ Idle)) (sym view)
    c.requires.idle) in
    saved_taken r c.args.self.now f c.args.at a c.args.raised c.args.asked _ view place.fits c.index.ensures
    (omega (arith, c.if-k-self.false)) has
    (saved_is r f a c.args.raised c.args.asked steady there idle c.args.at c.index_mut-target.result.now
    c.begin_save.new.frame c.go_on.new.frame c.take_up.new.objects.items
    place c.index.ensures c.index_mut-target.ensures.value c.begin_save.ensures objects
    (c.go_on.ensures ∙ ap (λ (os : List Object). if hands_off f os c.begin_save.new.frame
    then handing_frame c.begin_save.new.frame else c.begin_save.new.frame) c.as_slice-3.ensures.value)
    c.settle_into.new.frames c.in-Ok.asking.actions.items c.settle_into.new.actions.items c.acts.result
    c.settle_into.ensures.settled asking.sent
    (c.settle_into.ensures.asked
    ∙ ap (λ t. t ++ settled_actions 1 c.take_up.new.objects.items
    (set c.self.inside.frames c.args.at c.go_on.new.frame)) c.reserve.ensures.items)
    (c.acts.ensures ∙ ap acts c.from_vec.ensures))

pub invariant_of-self-inside : goal.invariant_of-self-inside
invariant_of-self-inside c =
    let r : Record = record {
      session = c.self.inside.session;
      frames = c.self.inside.frames;
      objects = c.self.inside.objects.list.items;
      servers = c.self.inside.servers;
      last_object = c.self.inside.last_object;
      last_act = c.self.inside.last_act;
      last_g = c.self.inside.last_g;
      numbers = c.self.inside.numbers;
    } in
    let f : ℕ = c.args.frame in
    let k : ℕ = c.index.result.now.k + 1 in
    let asking : IsAsking f (Save k) r.objects c.in-Ok.asking.actions.items c.in-Ok.asking.takes.items =
    subst (λ (os : List Object). IsAsking f (Save k) os c.in-Ok.asking.actions.items c.in-Ok.asking.takes.items)
    c.as_slice-2.ensures.value c.in-Ok.ensures in
    let objects : c.take_up.new.objects.items ≡ map (asked_object f (Save k)) r.objects =
    c.take_up.ensures f (Save k) asking.takes in
    (still c.self.inside.objects.rising (sym (asked_kept f (Save k) r.objects) ∙ ap numbers (sym objects)), tt)
