use Rattle.std.proofs.Common.{◌∙◌, sym}
use Rattle.folder_commands.proofs.Results.{on_ok}
use Rattle.folder_commands.proofs.Components.{component_pushed}
use Rattle.folder_commands.proofs.path.push_component.Goals as goal

pub returns-in_ok-push_name-in-Some : goal.returns-in_ok-push_name-in-Some
returns-in_ok-push_name-in-Some c =
    on_ok c.push_last.result _ _
    (component_pushed c.args.text.now.items c.push_name.new.text.items c.push_last.new.text.items c.args.name.now
    c.in-Some.front.now c.in-Some.last.now
    (sym c.as_bytes.ensures.spelled ∙ c.in-Some.ensures.cases.0) c.in_ok-push_name-in-Some.ensures)
    c.push_last.ensures
