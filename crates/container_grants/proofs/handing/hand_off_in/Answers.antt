use Rattle.std.proofs.Common.{◌≡◌, ◌∙◌, ap, arith, false, length, List, rules, sym, true, vec_len}
use Rattle.container_model.specs.declared.record.Object.{Object}
use Rattle.container_model.specs.HandOffs.{hands_off}
use Rattle.container_model.specs.Numbered.{IsNth}
use Rattle.container_grants.proofs.AskedAway.{few_handed, handed_is, handed_sent, places_of, stays_sent}
use Rattle.container_grants.proofs.handing.hand_off_in.Goals as goal

pub returns-then-not-hands_off-clause-sent : goal.returns-then-not-hands_off-clause-sent
returns-then-not-hands_off-clause-sent c =
    let place : IsNth c.args.f c.args.frames.now c.in-Some.at = c.in-Some.ensures in
    let hands : hands_off c.args.f c.args.objects.now.items c.index.result.now ≡ false =
    ap (λ (os : List Object). hands_off c.args.f os c.index.result.now) (sym c.as_slice.ensures.value)
    ∙ (sym c.hands_off.ensures ∙ c.if-not-hands_off.true) in
    λ r frames objects. stays_sent r c.args.f c.in-Some.at c.args.frames.now c.args.objects.now.items
    c.index.result.now place c.index.ensures frames objects c.args.actions.now.items hands

pub ask_all-requires-clause-places : goal.ask_all-requires-clause-places
ask_all-requires-clause-places c =
    let place : IsNth c.args.f c.args.frames.now c.in-Some.at = c.in-Some.ensures in
    let hands : hands_off c.args.f c.args.objects.now.items c.index.result.now ≡ true =
    ap (λ (os : List Object). hands_off c.args.f os c.index.result.now) (sym c.as_slice.ensures.value)
    ∙ (sym c.hands_off.ensures ∙ c.if-not-hands_off.false) in
    places_of c.args.f c.in-Some.at c.args.frames.now c.args.objects.now.items c.args.rooms.items c.index.result.now
    place c.index.ensures c.requires.places hands

pub returns-clause-handed : goal.returns-clause-handed
returns-clause-handed c =
    let place : IsNth c.args.f c.args.frames.now c.in-Some.at = c.in-Some.ensures in
    let hands : hands_off c.args.f c.args.objects.now.items c.index.result.now ≡ true =
    ap (λ (os : List Object). hands_off c.args.f os c.index.result.now) (sym c.as_slice.ensures.value)
    ∙ (sym c.hands_off.ensures ∙ c.if-not-hands_off.false) in
    λ r frames objects. handed_is r c.args.f c.in-Some.at c.args.frames.now c.args.objects.now.items
    c.index.result.now place c.index.ensures frames objects c.index_mut.result.now c.hand_frame.new.frame
    c.ask_all.new.objects.items c.index_mut.ensures.value hands c.hand_frame.ensures c.ask_all.ensures.asked

pub returns-clause-sent : goal.returns-clause-sent
returns-clause-sent c =
    let place : IsNth c.args.f c.args.frames.now c.in-Some.at = c.in-Some.ensures in
    let hands : hands_off c.args.f c.args.objects.now.items c.index.result.now ≡ true =
    ap (λ (os : List Object). hands_off c.args.f os c.index.result.now) (sym c.as_slice.ensures.value)
    ∙ (sym c.hands_off.ensures ∙ c.if-not-hands_off.false) in
    λ r frames objects. handed_sent r c.args.f c.in-Some.at c.args.frames.now c.args.objects.now.items
    c.index.result.now place c.index.ensures frames objects c.args.actions.now.items c.ask_all.new.actions.items
    hands c.ask_all.ensures.sent

pub returns-clause-few : goal.returns-clause-few
returns-clause-few c =
    let before : vec_len c.args.actions.now ≡ length c.args.actions.now.items = search rules in
    let later : vec_len c.ask_all.new.actions ≡ length c.ask_all.new.actions.items = search rules in
    omega (
      arith,
      before,
      later,
      few_handed c.args.f c.args.actions.now.items c.ask_all.new.actions.items
          c.args.objects.now.items c.ask_all.new.objects.items c.ask_all.ensures.sent c.ask_all.ensures.asked,
    )
