use Rattle.std.proofs.Common.{◌∙◌, rules}
use Rattle.store_images.proofs.Undoing.{all_laid, none_laid, one_laid}
use Rattle.store_images.proofs.in_place.lay_over.Goals as goal

pub loop-number-init : goal.loop-number-init
loop-number-init c = none_laid c.args.file.now c.args.was.now.items c.args.numbers.now.items c.requires.none_kept
    c.requires.none_changed

pub loop-number-preserved : goal.loop-number-preserved
loop-number-preserved c =
    one_laid c.loop-number.number c.args.file.now c.loop-number.was.items c.lay.new.was.items
    c.loop-number.numbers.items c.lay.new.numbers.items c.loop-number.file c.lay.new.file
    c.loop-number.invariant c.lay.ensures.steps c.in_ok-lay.ensures.changed

pub returns-in_err-lay-clause-undone : goal.returns-in_err-lay-clause-undone
returns-in_err-lay-clause-undone c = c.lay.ensures.steps.back ∙ c.loop-number.invariant.back

pub returns-clause-undone : goal.returns-clause-undone
returns-clause-undone c = c.loop-number.invariant.back

pub returns-clause-changed : goal.returns-clause-changed
returns-clause-changed c =
    all_laid c.loop-number.number c.args.file.now c.loop-number.was.items c.loop-number.numbers.items
    c.loop-number.file (search rules) c.loop-number.invariant
