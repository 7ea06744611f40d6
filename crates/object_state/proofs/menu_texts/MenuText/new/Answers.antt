use Rattle.std.proofs.Common.{◌≡◌, true, arith}
use Rattle.std.proofs.lemmas.Grind.{common_steps}
use Rattle.object_state.specs.MenuTexts.{is_menu_text}
use Rattle.object_state.proofs.Inline.{padded-inline}
use Rattle.object_state.proofs.menu_texts.MenuText.new.Goals as goal

pub invariant_of-result : goal.invariant_of-result
invariant_of-result c =
    let shape : is_menu_text c.args.text.now ≡ true = grind (arith, common_steps) in
    rw c.copy_from_slice.ensures.after (padded-inline c.args.text.now shape)
