use Rattle.text_words.specs.Words.{words}
use Rattle.text_worlds.specs.Events.{may_want}
use Rattle.text_worlds.proofs.Memory.{lacking}
use Rattle.text_worlds.specs.Moments.{stop_in}
use Rattle.text_worlds.proofs.Stops.{event_wants, stop_wants}
use Rattle.text_worlds.proofs.moments.parse_moment.Goals as goal

pub returns-in_err-stop-clause-within : goal.returns-in_err-stop-clause-within
returns-in_err-stop-clause-within c =
    lacking c.from_residual.result (stop_wants (stop_in (words c.args.line.now)) (may_want c.args.line.now)
    c.in_err-stop.ensures.within)

pub returns-in_err-event-clause-within : goal.returns-in_err-event-clause-within
returns-in_err-event-clause-within c =
    lacking c.from_residual-in_err-event.result
    (event_wants (stop_in (words c.args.line.now)) (may_want c.args.line.now) c.in_err-event.ensures.within)
