-- An event that leaves nothing open happens with no choice.
use Rattle.std.proofs.Common.{◌≡◌, Result, Ok, Err, OnOk, sym, subst}
use Rattle.world_model.specs.declared.event.Event.{Event}
use Rattle.world_model.specs.declared.event.Stop.{Stop}
use Rattle.world_model.specs.World.{World, Choice, MayChoose, no_choice, step}

pub chosen : {T : Type 0} (w v : World) (e x : Event) (r : Result T Stop) → x ≡ e → MayChoose w no_choice e
    → OnOk r (step w no_choice e ≡ Ok v)
    → OnOk r ((choice : Choice) × MayChoose w choice x × (step w choice x ≡ Ok v))
chosen w v e x (Ok t) is im h = subst (λ y. (choice : Choice) × MayChoose w choice y × (step w choice y ≡ Ok v))
    (sym is) (no_choice, im, h)
chosen w v e x (Err fault) is im h = tt
