use Rattle.std.proofs.Common.{◌≡◌, ◌∙◌, Err, Ok, refl, sym}
use Rattle.std.specs.Prelude.{is_some}
use Rattle.container_model.specs.Commands.{delete_made}
use Rattle.container_model.specs.Record.{Record, counts_none, unless}
use Rattle.container_model.specs.declared.fault.ContainerFault.TheVariants.{WrongState}
use Rattle.container_commands.proofs.CommandsRun.{at_object, delete_linked, deleted_is}
use Rattle.container_state.proofs.state.State.delete_object.Goals as goal

pub returns-then-is_some-clause-refused : goal.returns-then-is_some-clause-refused
returns-then-is_some-clause-refused c =
    let r : Record = c.args.self.now in
    at_object (λ o. unless (is_some o.link) WrongState (Ok (delete_made r o)) ≡ Err WrongState) _ r c.args.i
    c.index.result.now c.self.view_is c.requires.fits c.index.ensures
    (delete_linked r c.index.result.now (sym c.is_some.ensures ∙ c.if-is_some.true))

pub returns-clause-taken : goal.returns-clause-taken
returns-clause-taken c =
    let r : Record = c.args.self.now in
    at_object (λ o. unless (is_some o.link) WrongState (Ok (delete_made r o)) ≡ Ok (counts_none _ c.quiet.result)) _
    r c.args.i c.index.result.now c.self.view_is c.requires.fits c.index.ensures
    (deleted_is _ r _ c.args.i c.index.result.now c.remove.new.self.list.items c.quiet.result c.self.view_is
    c.requires c.index.ensures (sym c.is_some.ensures ∙ c.if-is_some.false) c.remove.ensures refl
    c.quiet.ensures)
