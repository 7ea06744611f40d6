use Rattle.std.proofs.Common.{◌∙◌, ◌≡◌, ℕ, List, ap, get_or, rules, subst}
use Rattle.std.proofs.lemmas.List.{take_all}
use Rattle.read_outlines.specs.View.{shown}
use Rattle.folder_commands.specs.Chosen.{AllStand, standing}
use Rattle.tree_storage.specs.Change.{inner, look}
use Rattle.folder_commands.proofs.Found.{at_place, is_missing, is_there, stand_next}
use Rattle.folder_commands.proofs.finding.find_all.Goals as goal

pub returns-in-Err-clause-missing : goal.returns-in-Err-clause-missing
returns-in-Err-clause-missing c = λ content.
    let t = shown content c.args.outline.now in
    let path : List (List ℕ) = c.index-paths-number.result in
    let here : get_or c.args.paths.now c.loop-number.number path ≡ path = search (rules, c.index-paths-number.is) in (
      path,
      at_place c.args.paths.now c.loop-number.number path c.loop-number-test.true here,
      is_missing c.find_at.result (look path (inner t)) c.in-Err.fault c.in-Err.is
          (c.find_at.ensures content ∙ ap (λ p. standing (look p (inner t))) c.names.ensures),
    )

pub loop-number-preserved : goal.loop-number-preserved
loop-number-preserved c = λ content.
    let o = c.args.outline.now in
    let path : List (List ℕ) = c.index-paths-number.result in
    let here : get_or c.args.paths.now c.loop-number.number path ≡ path = search (rules, c.index-paths-number.is) in
    stand_next (shown content o) c.args.paths.now c.loop-number.number path c.loop-number-test.true here
    (is_there c.find_at.result (look path (inner (shown content o))) c.in-Ok.field-0 c.in-Ok.is
    (c.find_at.ensures content ∙ ap (λ p. standing (look p (inner (shown content o)))) c.names.ensures))
    (c.loop-number.invariant content)

pub returns-clause-found : goal.returns-clause-found
returns-clause-found c = λ content.
    subst (λ ps. AllStand ps (shown content c.args.outline.now))
    (take_all c.loop-number.number c.args.paths.now c.loop-number-test.false) (c.loop-number.invariant content)
