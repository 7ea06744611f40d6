-- Whatever comes on a link, sent or forged: the container takes it of the link's own server alone. What is taken with a
-- forged message is then of a hostile server.
use Rattle.std.proofs.Common.{◌≡◌, ◌==◌, ℕ, Bool, true, false, List, [], ◌∷◌, ◌++◌, Result, Ok, Err, refl, ap, ◌∙◌}
use Rattle.std.proofs.Common.{if◌then◌else◌}
use Rattle.std.proofs.lemmas.Bool.{eqb-true}
use Rattle.message_values.specs.declared.message.Said.{Said}
use Rattle.message_values.specs.declared.message.Said.TheVariants.{Call, Reply, Write, Ask}
use Rattle.container_model.specs.declared.fault.ContainerFault.{ContainerFault}
use Rattle.container_model.specs.declared.fault.ContainerFault.TheVariants.{WrongLink}
use Rattle.container_model.specs.Record.{Record, Took}
use Rattle.container_model.specs.Messages.{on_reply, on_write, on_ask}
use Rattle.container_model.proofs.SaidOn.{said_on}
use Rattle.world_model.specs.World.{server_of}
use Rattle.world_model.specs.Safe.{is_hostile}
use Rattle.world_facts.proofs.Honest.{just_hostile}

pub own_link : (r : Record) (link : ℕ) (m : Said) (t : Took) → said_on r link m ≡ Ok t → server_of m ≡ link
own_link r link m t e = of m e
  where
    at : (inc : ℕ) (b : Bool) (told : Result Took ContainerFault) → (inc == link) ≡ b
        → (if b then told else Err WrongLink) ≡ Ok t → inc ≡ link
    at inc true told q g = eqb-true inc link q
    at inc false told q g = cc

    of : (x : Said) → said_on r link x ≡ Ok t → server_of x ≡ link
    of (Call inc act n op) g = cc
    of (Reply inc act n answer) g = at inc (inc == link) (on_reply r inc act n answer) refl g
    of (Write inc act s w content) g = at inc (inc == link) (on_write r inc act s w content) refl g
    of (Ask inc act g') g = at inc (inc == link) (on_ask r inc act g') refl g

pub forged_hostile : (hostile : List ℕ) (r : Record) (link : ℕ) (m : Said) (t : Took) → said_on r link m ≡ Ok t
    → is_hostile (hostile ++ link ∷ []) (server_of m) ≡ true
forged_hostile hostile r link m t e = ap (is_hostile (hostile ++ link ∷ [])) (own_link r link m t e)
    ∙ just_hostile hostile link
