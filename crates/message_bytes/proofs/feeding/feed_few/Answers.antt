use Rattle.std.proofs.Common.{◌≡◌, ◌≤◌, ◌-◌, ◌++◌, ◌∷◌, [], List, ℕ, length, take, drop, None, sym, ap, subst, ◌∙◌}
use Rattle.std.proofs.Common.{arith, rules, refl}
use Rattle.message_model.specs.declared.frame.Frame.{Frame}
use Rattle.message_model.specs.Spelling.{spell}
use Rattle.message_bytes.specs.Holding.{Rest}
use Rattle.message_bytes.specs.Fronts.{IsFaulty, IsWhole, Leaves}
use Rattle.message_bytes.proofs.Fronts.{faulty_more}
use Rattle.message_bytes.proofs.Leaving.{few_parts, held_few, held_parts, leaves_none, leaves_on, leaves_pushed, on_err}
use Rattle.message_bytes.proofs.Leaving.{on_ok, taken_back}
use Rattle.message_bytes.proofs.feeding.feed_few.Goals as goal

pub returns-in-Ok-None-clause-leaves : goal.returns-in-Ok-None-clause-leaves
returns-in-Ok-None-clause-leaves c none =
    let held : List ℕ = c.args.held.now.front in
    let piece : List ℕ = c.args.piece.now in
    let n : ℕ = c.with-more.result.1 in
    let all : List ℕ = c.as_slice-in-Ok-Partial.result.now in
    let front : all ≡ held ++ take n piece = c.as_slice-in-Ok-Partial.ensures
    ∙ ap (λ (r : Rest). r.front) c.with-more.ensures.bytes in
    let g = (rw c.in-Ok-None.field-0-is at c.in-Ok-None.ensures.grows) all c.in-Ok.ensures in
    leaves_on c.args.waiting.now.items c.feed_body.new.waiting.items (held ++ piece)
    (all ++ c.split_at.result.1.now) c.of_body.result _ g.0 c.of_body.ensures
    (few_parts held piece all c.split_at.result.1.now n front c.split_at.ensures.back) g.1 g.2

pub returns-in-Ok-Some-clause-leaves : goal.returns-in-Ok-Some-clause-leaves
returns-in-Ok-Some-clause-leaves c none =
    let held : List ℕ = c.args.held.now.front in
    let piece : List ℕ = c.args.piece.now in
    let n : ℕ = c.with-more.result.1 in
    let all : List ℕ = c.as_slice-in-Ok-Partial.result.now in
    let front : all ≡ held ++ take n piece = c.as_slice-in-Ok-Partial.ensures
    ∙ ap (λ (r : Rest). r.front) c.with-more.ensures.bytes in
    let g = (rw c.in-Ok-Some.field-0-is at c.in-Ok-Some.ensures.grows) all c.in-Ok.ensures in
    subst (λ (bytes : List ℕ). Leaves c.args.waiting.now.items c.feed_body.new.waiting.items bytes
    c.in-Ok-Some.taken.0 c.in-Ok-Some.taken.1)
    (few_parts held piece all c.split_at.result.1.now n front c.split_at.ensures.back) g

pub returns-in-Ok-Whole-clause-leaves : goal.returns-in-Ok-Whole-clause-leaves
returns-in-Ok-Whole-clause-leaves c =
    let held : List ℕ = c.args.held.now.front in
    let piece : List ℕ = c.args.piece.now in
    let n : ℕ = c.with-more.result.1 in
    let f : Frame = c.in-Ok-Whole.frame in
    let used : ℕ = c.in-Ok-Whole.used in
    let at : ℕ = c.min.result in
    let front : c.as_slice.result.now ≡ held ++ take n piece = c.as_slice.ensures
    ∙ ap (λ (r : Rest). r.front) c.with-more.ensures.bytes in
    let v : IsWhole f used c.as_slice.result.now = rw c.in-Ok-Whole.field-0-is at c.in-Ok-Whole.ensures in
    let w : IsWhole f used (held ++ take n piece) = subst (IsWhole f used) front v in
    let within : n ≤ length piece = c.with-more.ensures.within in
    let few : used - length held ≤ length piece = held_few held piece n used f within w in
    let at_is : at ≡ used - length held =
    omega (arith, few, c.min.ensures, c.saturating_sub.ensures, ap length c.as_slice-len.ensures) in
    on_ok c.take_behind-in-Ok-Whole.result
    (λ x l none. subst (λ (y : List ℕ). Leaves c.args.waiting.now.items c.take_behind-in-Ok-Whole.new.waiting.items
    y x.0 x.1) (sym (held_parts held piece f n used none within w at at_is))
    (subst (λ (b : List ℕ). Leaves c.args.waiting.now.items c.take_behind-in-Ok-Whole.new.waiting.items
    (spell f ++ b) x.0 x.1) c.split_at-in-Ok-Whole.ensures.back
    (leaves_pushed c.args.waiting.now.items c.take_behind-in-Ok-Whole.new.waiting.items f (spell f)
    c.split_at-in-Ok-Whole.result.1.now x.0 x.1 w.frame refl (rw c.in-Ok-put_behind.ensures.items at l))))
    c.take_behind-in-Ok-Whole.ensures.leaves

pub returns-in-Ok-Whole-clause-kept : goal.returns-in-Ok-Whole-clause-kept
returns-in-Ok-Whole-clause-kept c =
    on_err c.take_behind-in-Ok-Whole.result
    (λ e. taken_back c.args.waiting.now.items c.take_behind-in-Ok-Whole.new.waiting.items c.in-Ok-Whole.frame
    (rw c.in-Ok-put_behind.ensures.items at e)) c.take_behind-in-Ok-Whole.ensures.kept

pub returns-in-Ok-Faulty-clause-leaves : goal.returns-in-Ok-Faulty-clause-leaves
returns-in-Ok-Faulty-clause-leaves c none =
    let held : List ℕ = c.args.held.now.front in
    let piece : List ℕ = c.args.piece.now in
    let n : ℕ = c.with-more.result.1 in
    let front : c.as_slice.result.now ≡ held ++ take n piece = c.as_slice.ensures
    ∙ ap (λ (r : Rest). r.front) c.with-more.ensures.bytes in
    let f : IsFaulty c.in-Ok-Faulty.fault c.as_slice.result.now =
    rw c.in-Ok-Faulty.field-0-is at c.in-Ok-Faulty.ensures in
    leaves_none c.args.waiting.now.items c.args.waiting.now.items (held ++ piece) c.with-more.result.0 _ refl
    (subst (IsFaulty c.in-Ok-Faulty.fault) (few_parts held piece c.as_slice.result.now (drop n piece) n front refl)
    (faulty_more c.in-Ok-Faulty.fault c.as_slice.result.now (drop n piece) f))
