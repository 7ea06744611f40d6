-- A record is steady whatever was done from the start on.
use Rattle.std.proofs.Common.{List, [], ◌∷◌, subst}
use Rattle.container_model.specs.Record.{Record, empty}
use Rattle.container_queues.specs.Steady.{Steady}
use Rattle.container_model.specs.Inputs.{Input, Leads}
use Rattle.container_steps.specs.Steps.{SteadyAfter, SteadyAlways}
use Rattle.container_steady.proofs.SteadyRecords.{empty_steady}
use Rattle.container_commands.proofs.SteadyCommands.{on_command_keeps}
use Rattle.container_steps.proofs.SteadyMessages.{on_message_keeps}
use Rattle.container_steps.proofs.SteadyOpens.{opened_keeps}
use Rattle.container_steps.proofs.SteadyReaps.{on_reap_keeps}
use Rattle.container_steps.proofs.SteadyCommits.{commit_done_keeps, commit_failed_keeps, resolve_keeps}

-- whatever it is given
pub on_input_keeps : SteadyAfter
on_input_keeps r (Input.Ordered c) t s e = on_command_keeps r c t s e
on_input_keeps r (Input.Told link m) t s e = on_message_keeps r link m t s e
on_input_keeps r (Input.Reaped inc) t s e = on_reap_keeps r inc t s e
on_input_keeps r (Input.Committed f) t s e = commit_done_keeps r f t s e
on_input_keeps r (Input.Failed f) t s e = commit_failed_keeps r f t s e
on_input_keeps r (Input.Resolved f is_kept) t s e = resolve_keeps r f is_kept t s e
on_input_keeps r (Input.Opened name w h given) t s e = opened_keeps r name w h given t s e

runs_keep : (r : Record) (xs : List Input) (u : Record) → Steady r → Leads r xs u → Steady u
runs_keep r [] u s e = subst Steady e s
runs_keep r (x ∷ xs) u s e = runs_keep e.0.rec xs u (on_input_keeps r x e.0 s e.1) e.2

pub steady_always : SteadyAlways
steady_always numbers xs u e = runs_keep (empty numbers) xs u (empty_steady numbers) e
