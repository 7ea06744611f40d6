-- Whatever a container is given, it stays within its numbers.
use Rattle.std.proofs.Common.{◌≡◌, ℕ, Ok}
use Rattle.container_model.specs.Inputs.{Input, on_input}
use Rattle.container_model.specs.Record.{Record, Took}
use Rattle.container_model.specs.Room.{HasNumbers}
use Rattle.container_queues.specs.Steady.{Steady}
use Rattle.container_numbers.specs.Sound.{NumbersAfter, SoundAfter}
use Rattle.container_numbers.proofs.SoundCommands.{commands_keep}
use Rattle.container_numbers.proofs.SoundMessages.{messages_keep}
use Rattle.container_numbers.proofs.SoundOpens.{opens_keep}
use Rattle.container_numbers.proofs.SoundReaps.{reaps_keep}
use Rattle.container_numbers.proofs.SoundSaves.{commits_keep, fails_keep, resolves_keep}

inputs_keep : {Greatest : ℕ → Type 0} (r : Record) (x : Input) (t : Took) → Steady r → HasNumbers Greatest r
    → on_input r x ≡ Ok t → HasNumbers Greatest t.rec
inputs_keep r (Input.Ordered c) t s h e = commands_keep r c t s h e
inputs_keep r (Input.Told link m) t s h e = messages_keep r link m t s h e
inputs_keep r (Input.Reaped inc) t s h e = reaps_keep r inc t s h e
inputs_keep r (Input.Committed f) t s h e = commits_keep r f t h e
inputs_keep r (Input.Failed f) t s h e = fails_keep r f t h e
inputs_keep r (Input.Resolved f is_kept) t s h e = resolves_keep r f is_kept t h e
inputs_keep r (Input.Opened name w k given) t s h e = opens_keep r name w k given t h e

pub sound_after : SoundAfter
sound_after r x t s h e = inputs_keep r x t s h e

pub numbers_after : NumbersAfter
numbers_after limit r x t s h e = inputs_keep r x t s h e
