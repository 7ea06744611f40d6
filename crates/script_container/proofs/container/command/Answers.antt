use Rattle.std.proofs.Common.{◌≡◌, refl, ◌∙◌, ap}
use Rattle.script_container.proofs.Answered.{command_refused, command_taken, one_command, starts_none}
use Rattle.script_container.specs.Servers.{servers, turned}
use Rattle.script_container.proofs.container.command.Goals as goal

pub returns-clause-answered : goal.returns-clause-answered
returns-clause-answered g c =
    let same : c.in-Some.command ≡ c.args.command = one_command c.command_of.result c.args.command c.in-Some.command
    (c.command_of.ensures c.args.command refl) c.in-Some.is in
    command_taken c.args.command c.in-Some.command same c.args.core.now c.command-told.new.self c.noted.result
    c.command-told.result c.noted.ensures.same c.command-told.ensures.taken

pub returns-clause-refused : goal.returns-clause-refused
returns-clause-refused g c =
    let same : c.in-Some.command ≡ c.args.command = one_command c.command_of.result c.args.command c.in-Some.command
    (c.command_of.ensures c.args.command refl) c.in-Some.is in
    command_refused c.args.command c.in-Some.command same c.args.core.now c.args.core.now c.noted.result
    c.command-told.result c.noted.ensures.same c.command-told.ensures.refused

pub returns-clause-starts : goal.returns-clause-starts
returns-clause-starts g c =
    starts_none c.sessions_stay.ensures c.args.core.now c.command-told.new.self c.in-Some.command c.noted.result
    c.command-told.result c.steady.ensures.in_session c.noted.ensures.same c.command-told.ensures.taken

pub returns-clause-serving : goal.returns-clause-serving
unfolding servers turned
returns-clause-serving g c = c.noted.ensures.serving ∙ ap servers c.note.ensures
