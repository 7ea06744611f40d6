use Rattle.std.proofs.Common.{◌≡◌, ◌∷◌, ◌∙◌, List, ap, map, rules, sym, refl}
use Rattle.message_values.specs.declared.operation.Operation.{Operation}
use Rattle.container_model.specs.Record.{sends}
use Rattle.container_model.specs.Verbs.{operation_of}
use Rattle.container_links.proofs.AskingEach.{begins_link, begins_sent, waits_link, waits_sent}
use Rattle.container_links.proofs.closing.prepare_steps.Goals as goal

pub returns-then-is_some-clause-asked : goal.returns-then-is_some-clause-asked
returns-then-is_some-clause-asked c =
    waits_link c.args.link.now _ c.in_ok-behind.field-0 (map (operation_of c.args.g) c.args.steps.now)
    (sym c.is_some.ensures ∙ c.if-is_some.true) c.in_ok-behind.ensures refl

pub returns-then-is_some-clause-sent : goal.returns-then-is_some-clause-sent
returns-then-is_some-clause-sent c =
    sym (ap sends (waits_sent c.args.link.now (map (operation_of c.args.g) c.args.steps.now)
    (sym c.is_some.ensures ∙ c.if-is_some.true)))

pub returns-clause-asked : goal.returns-clause-asked
returns-clause-asked c =
    let rest : List Operation = map (operation_of c.args.g) c.in-Some.rest.now in
    let all : List Operation = map (operation_of c.args.g) c.args.steps.now in
    let first : all ≡ c.operation_of.result ∷ rest = search rules in
    begins_link c.args.link.now _ c.in_ok-waiting.waiting c.operation_of.result rest all
    (sym c.is_some.ensures ∙ c.if-is_some.false) c.in_ok-waiting.ensures first refl

pub returns-clause-sent : goal.returns-clause-sent
returns-clause-sent c =
    let rest : List Operation = map (operation_of c.args.g) c.in-Some.rest.now in
    let all : List Operation = map (operation_of c.args.g) c.args.steps.now in
    let first : all ≡ c.operation_of-2.result ∷ rest = search rules in
    rw c.call.ensures
    (sym (ap sends (begins_sent c.args.link.now c.operation_of-2.result rest all
    (sym c.is_some.ensures ∙ c.if-is_some.false) first)))
