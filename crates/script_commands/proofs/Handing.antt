-- Of which servers the container is given messages in a command.
use Rattle.std.proofs.Common.{◌≡◌, ◌==◌, ◌∙◌, ℕ, Bool, true, false, List, if◌then◌else◌, refl, ap}
use Rattle.std.proofs.lemmas.Bool.{eq-eqb}
use Rattle.script_container.specs.Handed.{handed}
use Rattle.script_model.specs.Errors.{behind_hold}
use Rattle.script_model.specs.Events.{Event}
use Rattle.script_model.specs.declared.command.ScriptCommand.{ScriptCommand}
use Rattle.script_model.specs.declared.command.ScriptCommand.TheVariants as script
use Rattle.script_commands.specs.Lines.{IsBeginning}

-- where a command begins it was given none
pub none_handed : {D : Type 0} (es : List (Event D)) → IsBeginning es → (f : ℕ → Bool) → handed f es ≡ 0
none_handed es b f = ap (handed f) b.last

let_go : (b held : Bool) → b ≡ true → (if b then false else held) ≡ false
let_go true held is = refl
let_go false held is = absurd (cc)

-- what is released isn't held
pub released : (c : ScriptCommand) (inc : ℕ) (held : Bool) → c ≡ script.Release inc → behind_hold c inc held ≡ false
released c inc held is = ap (λ (x : ScriptCommand). behind_hold x inc held) is
    ∙ let_go (inc == inc) held (eq-eqb inc inc refl)
