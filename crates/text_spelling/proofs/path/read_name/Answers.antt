use Rattle.std.proofs.Common.{◌++◌, Option, Some, List, ℕ, refl, ap, sym, ◌∙◌}
use Rattle.std.specs.Option.{option_map}
use Rattle.text_spelling.specs.Paths.{name_read}
use Rattle.text_spelling.proofs.Hex.{behind-nothing, onto-behind}
use Rattle.text_spelling.proofs.path.read_name.Goals as goal

pub loop-rest-init : goal.loop-rest-init
loop-rest-init c = simp c.clear.ensures.items (behind-nothing (name_read c.args.part.now))

pub loop-rest-preserved : goal.loop-rest-preserved
loop-rest-preserved c =
    rw c.in_ok-push-in-Some.ensures.items (onto-behind c.loop-rest.buffer.items c.in-Some.byte (Some c.in-Some.byte)
    (name_read c.in-Some.behind.now) refl
    ∙ ap (λ (r : Option (List ℕ)). option_map (λ bs. c.loop-rest.buffer.items ++ bs) r) (sym c.in-Some.ensures.found)
    ∙ c.loop-rest.invariant)
