use Rattle.text_words.specs.Words.{words}
use Rattle.text_worlds.specs.Events.{event_read, forge_in, is_forge, open_in}
use Rattle.text_worlds.proofs.Memory.{event_wants, forge_wants, lacking, open_wants}
use Rattle.text_worlds.proofs.lines.parse_line.Goals as goal

pub returns-in_err-event-clause-within : goal.returns-in_err-event-clause-within
returns-in_err-event-clause-within c =
    lacking c.from_residual.result (open_wants (open_in (words c.args.line.now)) (forge_in (words c.args.line.now))
    (event_read c.args.line.now) (is_forge (words c.args.line.now)) c.in_err-event.ensures.within)

pub returns-in_err-event-2-clause-within : goal.returns-in_err-event-2-clause-within
returns-in_err-event-2-clause-within c =
    lacking c.from_residual-in_err-event-2.result
    (forge_wants (open_in (words c.args.line.now)) (forge_in (words c.args.line.now))
    (event_read c.args.line.now) (is_forge (words c.args.line.now)) c.in_err-event-2.ensures.within)

pub returns-in_err-event-3-clause-within : goal.returns-in_err-event-3-clause-within
returns-in_err-event-3-clause-within c =
    lacking c.from_residual-in_err-event-3.result
    (event_wants (open_in (words c.args.line.now)) (forge_in (words c.args.line.now))
    (event_read c.args.line.now) (is_forge (words c.args.line.now)) c.in_err-event-3.ensures.within)
