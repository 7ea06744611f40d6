use Rattle.std.proofs.Common.{◌≡◌, ◌∙◌, Err, IsOk, Ok, ap, refl, subst, sym, true, false}
use Rattle.std.specs.Prelude.{is_some}
use Rattle.container_model.specs.Commands.{is_known_class, run_object}
use Rattle.container_model.specs.Record.{Record, counts_none}
use Rattle.container_model.specs.declared.fault.ContainerFault.TheVariants.{NumbersSpent, UnknownClass, WrongState}
use Rattle.container_model.specs.declared.record.Object.{Object}
use Rattle.container_commands.proofs.CommandsRun.{at_object, few_spent, last_spent, not_spent, run_fine, run_is}
use Rattle.container_commands.proofs.CommandsRun.{run_linked, run_spent, run_unknown}
use Rattle.container_checks.proofs.Numbers.{one_kept}
use Rattle.container_state.proofs.state.State.run_object.Goals as goal
use Rattle.container_state.proofs.state.State.run_object.Goals.{then-self-lt-MARGIN-via-then-self-lt-MARGIN}
use Rattle.container_state.proofs.state.State.run_object.Goals.{then-self-lt-MARGIN-via-else-self-lt-MARGIN+then-self}

pub returns-then-is_some-clause-refused : goal.returns-then-is_some-clause-refused
returns-then-is_some-clause-refused c =
    let r : Record = c.args.self.now in
    at_object (λ o. run_object r o c.args.inc ≡ Err WrongState) _ r c.args.i c.index-object.result.now
    c.self.view_is c.requires.fits c.index-object.ensures
    (run_linked r c.index-object.result.now c.args.inc (sym c.is_some.ensures ∙ c.if-is_some.true))

pub returns-then-not-is_known_class-clause-refused : goal.returns-then-not-is_known_class-clause-refused
returns-then-not-is_known_class-clause-refused c =
    let r : Record = c.args.self.now in
    at_object (λ o. run_object r o c.args.inc ≡ Err UnknownClass) _ r c.args.i c.index-object.result.now
    c.self.view_is c.requires.fits c.index-object.ensures
    (run_unknown r c.index-object.result.now c.args.inc (sym c.is_some.ensures ∙ c.if-is_some.false)
    (sym c.is_known_class.ensures ∙ c.if-not-is_known_class.true))

pub returns-then-self-lt-MARGIN-clause-refused : goal.returns-then-self-lt-MARGIN-clause-refused
returns-then-self-lt-MARGIN-clause-refused c =
    let r : Record = c.args.self.now in
    let x : Object = c.index-object.result.now in
    let passive : is_some x.link ≡ false = sym c.is_some.ensures ∙ c.if-is_some.false in
    let known : is_known_class x.class ≡ true = sym c.is_known_class.ensures ∙ c.if-not-is_known_class.false in
    at_object (λ o. run_object r o c.args.inc ≡ Err NumbersSpent) _ r c.args.i x c.self.view_is c.requires.fits
    c.index-object.ensures
    (elim c.then-self-lt-MARGIN.branch [
      | then-self-lt-MARGIN-via-then-self-lt-MARGIN w ↦ run_spent r x c.args.inc passive known
          (few_spent r _ c.self.view_is w.if-self-lt-MARGIN.true)
      | then-self-lt-MARGIN-via-else-self-lt-MARGIN+then-self w ↦
          run_spent r x c.args.inc passive known (last_spent r _ c.self.view_is w.if-self.true)
    ])

pub returns-in_default-clause-refused : goal.returns-in_default-clause-refused
returns-in_default-clause-refused c =
    let r : Record = c.args.self.now in
    let x : Object = c.index-object.result.now in
    let passive : is_some x.link ≡ false = sym c.is_some.ensures ∙ c.if-is_some.false in
    let known : is_known_class x.class ≡ true = sym c.is_known_class.ensures ∙ c.if-not-is_known_class.false in
    at_object (λ o. IsOk (run_object r o c.args.inc)) _ r c.args.i x c.self.view_is c.requires.fits
    c.index-object.ensures
    (subst (λ t. IsOk t)
    (sym (run_fine r x c.args.inc passive known
    (not_spent r _ c.self.view_is c.if-self-lt-MARGIN.false c.if-self.false))) refl)

pub returns-clause-taken : goal.returns-clause-taken
returns-clause-taken c =
    let r : Record = c.args.self.now in
    let x : Object = c.index-object.result.now in
    let passive : is_some x.link ≡ false = sym c.is_some.ensures ∙ c.if-is_some.false in
    let known : is_known_class x.class ≡ true = sym c.is_known_class.ensures ∙ c.if-not-is_known_class.false in
    at_object (λ o. run_object r o c.args.inc ≡ Ok (counts_none _ c.acts.result)) _ r c.args.i x c.self.view_is
    c.requires.fits c.index-object.ensures
    (run_fine r x c.args.inc passive known (not_spent r _ c.self.view_is c.if-self-lt-MARGIN.false c.if-self.false)
    ∙ ap Ok (run_is _ r _ c.args.i c.args.inc x c.index_mut.result.now c.begin.new.object c.in-Ok.link
    c.in-Ok.actions c.acts.result c.self.view_is c.requires c.index-object.ensures c.index_mut.ensures.value
    c.in-Ok.ensures.link c.in-Ok.ensures.sent c.begin.ensures refl c.acts.ensures))

pub invariant_of-self-inside : goal.invariant_of-self-inside
invariant_of-self-inside c = record {
  rising = one_kept c.self.inside.objects.list.items c.args.i c.begin.new.object c.index_mut.result.now
      c.self.inside.objects.rising c.index_mut.ensures.value (ap (λ (o : Object). o.number) c.begin.ensures);
}
