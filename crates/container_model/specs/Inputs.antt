-- What a container may be given, and what it does with it.
use Rattle.std.specs.Prelude.{◌≡◌, ℕ, Bool, List, [], ◌∷◌, Result, Ok}
use Rattle.message_values.specs.declared.message.Message.{Message}
use Rattle.container_model.specs.declared.command.Command.{Command}
use Rattle.container_model.specs.declared.server_link.ServerLink.{ServerLink}
use Rattle.container_model.specs.declared.fault.ContainerFault.{ContainerFault}
use Rattle.container_model.specs.Record.{Record, Took}
use Rattle.container_model.specs.Commands.{on_command}
use Rattle.container_model.specs.Messages.{on_message, on_reap}
use Rattle.container_model.specs.Opens.{Given, opened}
use Rattle.container_model.specs.Saves.{commit_done, commit_failed, resolve}

-- a command of a user, a message on a link, the end of a server; a commit that is done, one that failed, and whether
-- one that failed was kept after all; a file that is opened, with what it gave
pub data Input : Type 0 where
  Ordered : Command → Input
  Told : ServerLink → Message → Input
  Reaped : ℕ → Input
  Committed : ℕ → Input
  Failed : ℕ → Input
  Resolved : ℕ → Bool → Input
  Opened : List ℕ → ℕ → ℕ → Given → Input

abbrev pub on_input : Record → Input → Result Took ContainerFault
on_input r (Input.Ordered c) = on_command r c
on_input r (Input.Told link m) = on_message r link m
on_input r (Input.Reaped inc) = on_reap r inc
on_input r (Input.Committed f) = commit_done r f
on_input r (Input.Failed f) = commit_failed r f
on_input r (Input.Resolved f is_kept) = resolve r f is_kept
on_input r (Input.Opened name w h given) = opened r name w h given

-- a whole run of it: each step is taken, one after the other
abbrev pub Leads : Record → List Input → Record → Type 0
Leads r [] u = r ≡ u
Leads r (x ∷ xs) u = (t : Took) × (on_input r x ≡ Ok t) × Leads t.rec xs u
