use Rattle.std.proofs.Common.{◌≡◌, ◌∙◌, ◌++◌, List, ℕ, ap, rules}
use Rattle.store_images.specs.Changed.{numbers_between, whole_block}
use Rattle.store_images.proofs.Overlaid.{block_given, cut_off, length_whole, longer}
use Rattle.store_images.proofs.update.push_given.Goals as goal

pub returns-clause-whole : goal.returns-clause-whole
returns-clause-whole c =
    longer c.args.number c.args.file.now.items (whole_block c.args.given.now) c.push_whole.new.file.items
    c.requires.whole (length_whole c.args.given.now) (search rules)

pub returns-clause-so_far : goal.returns-clause-so_far
returns-clause-so_far c =
    let added : c.push_whole.new.file.items ≡ c.args.file.now.items ++ whole_block c.args.given.now = search rules in
    let cut : c.part_from.result.now ≡ whole_block c.args.given.now = c.part_from.ensures
    ∙ cut_off c.args.file.now.items (whole_block c.args.given.now) c.deref.result.now c.len-at.result
    (search rules) (c.deref.ensures.value ∙ added) in
    block_given c.args.number c.args.old.now c.args.file.now.items c.block-was.result.now
    (whole_block c.args.given.now) c.push_whole.new.file.items c.args.numbers.now.items
    c.push_changed.new.numbers.items
    c.requires.whole (length_whole c.args.given.now) c.block-was.ensures added c.requires.so_far
    (c.in_ok-push_changed.ensures
    ∙ ap (λ (l : List ℕ). c.args.numbers.now.items ++ numbers_between c.args.number c.block-was.result.now l)
    cut)
