use Rattle.world_facts.specs.Shapes.{IsQuiet}
use Rattle.world_facts.proofs.Asking.{asked_quietly}
use Rattle.world_facts.proofs.laws.asking_keeps.Goals as goal

pub returns : goal.returns
returns c = λ hostile links after acts lives sent more owners last counted served h f. asked_quietly
    (λ o op. IsQuiet op) links after acts lives sent more owners last counted served h f (λ o op q. q)
