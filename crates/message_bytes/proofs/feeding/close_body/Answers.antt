use Rattle.std.proofs.Common.{◌≡◌, ◌++◌, ◌∷◌, [], List, ℕ, length, take, Some, sym, ap, subst, ◌∙◌, append_assoc, arith}
use Rattle.std.proofs.Common.{rules, refl}
use Rattle.message_model.specs.declared.frame.Frame.{Frame}
use Rattle.message_model.specs.declared.frame.Frame.TheVariants.{Turn}
use Rattle.message_model.specs.declared.fault.WireFault.TheVariants.{BadField}
use Rattle.message_bytes.specs.Fronts.{Leaves}
use Rattle.message_bytes.proofs.Bodies.{body_faulty, body_whole}
use Rattle.message_bytes.proofs.Leaving.{cut_place, leaves_faulty, leaves_put, taken_back}
use Rattle.message_bytes.proofs.feeding.close_body.Goals as goal

pub returns-in-Err-take_behind-clause-waiting : goal.returns-in-Err-take_behind-clause-waiting
returns-in-Err-take_behind-clause-waiting c =
    let n : c.len-before.result ≡ length c.args.waiting.now.items = search rules in
    c.truncate.ensures.items ∙ ap (λ (k : ℕ). take k c.take_behind.new.waiting.items) n
    ∙ taken_back c.args.waiting.now.items c.take_behind.new.waiting.items Turn
    (rw c.in-Ok.ensures.items at c.in-Err-take_behind.ensures.kept)

pub returns-in-Ok-Some-clause-leaves : goal.returns-in-Ok-Some-clause-leaves
returns-in-Ok-Some-clause-leaves c rest h =
    let n : c.len-before.result ≡ length c.args.waiting.now.items = search rules in
    subst (λ (x : List ℕ). Leaves c.args.waiting.now.items c.put.new.waiting.items x c.in-Ok-take_behind.taken.0
    c.in-Ok-take_behind.taken.1) (append_assoc rest c.args.front.now c.args.behind.now)
    (leaves_put c.args.waiting.now.items c.take_behind.new.waiting.items c.put.new.waiting.items Turn
    c.in-Ok-Some.frame c.len-before.result (rest ++ c.args.front.now) c.args.behind.now
    c.in-Ok-take_behind.taken.0 c.in-Ok-take_behind.taken.1
    (body_whole c.args.body.now rest c.args.front.now c.in-Ok-Some.frame (λ i. omega (arith, c.type_inv.front i)) h
    c.requires (sym c.in-Ok-Some.field-0-is ∙ c.in-Ok-Some.ensures.made))
    (rw c.in-Ok.ensures.items at c.in-Ok-take_behind.ensures.leaves) n c.put.ensures)

pub returns-in-Ok-None-clause-leaves : goal.returns-in-Ok-None-clause-leaves
returns-in-Ok-None-clause-leaves c rest h =
    let n : c.len-before.result ≡ length c.args.waiting.now.items = search rules in
    let old : List Frame = c.args.waiting.now.items in
    let l : Leaves (old ++ Turn ∷ []) c.take_behind.new.waiting.items c.args.behind.now c.in-Ok-take_behind.taken.0
    c.in-Ok-take_behind.taken.1 = rw c.in-Ok.ensures.items at c.in-Ok-take_behind.ensures.leaves in
    let same : c.truncate-in-Ok-None.new.self.items ≡ old =
    c.truncate-in-Ok-None.ensures.items ∙ ap (λ (k : ℕ). take k c.take_behind.new.waiting.items) n
    ∙ cut_place old c.take_behind.new.waiting.items Turn c.args.behind.now c.in-Ok-take_behind.taken.0
    c.in-Ok-take_behind.taken.1 l in
    subst (λ (x : List ℕ). Leaves old c.truncate-in-Ok-None.new.self.items x c.new.result (Some BadField))
    (append_assoc rest c.args.front.now c.args.behind.now)
    (leaves_faulty old c.truncate-in-Ok-None.new.self.items (rest ++ c.args.front.now) c.args.behind.now
    c.new.result same
    (body_faulty c.args.body.now rest c.args.front.now (λ i. omega (arith, c.type_inv.front i)) h c.requires
    (sym c.in-Ok-None.field-0-is ∙ c.in-Ok-None.ensures.made)))
