use Rattle.world_safety.proofs.Held.{empty_held, held_run, safe_held}
use Rattle.world_model.specs.World.{empty_world}
use Rattle.world_safety.proofs.safe_laws.every_world_is_safe.Goals as goal

pub returns : goal.returns
returns c = λ numbers stock events w run. safe_held w
    (held_run (empty_world numbers stock) events w (empty_held numbers stock) run)
