use Rattle.std.proofs.Common.{rules}
use Rattle.container_state.proofs.state.State.ask_at.Goals as goal

pub returns-then-not-is_held_by-clause-kept : goal.returns-then-not-is_held_by-clause-kept
returns-then-not-is_held_by-clause-kept c = search rules
