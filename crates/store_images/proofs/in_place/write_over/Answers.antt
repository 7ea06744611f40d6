use Rattle.std.proofs.Common.{◌≡◌, ◌∙◌, List, ℕ, ap, arith, length, rules}
use Rattle.store_images.proofs.Undoing.{full, one_added, written_over}
use Rattle.store_images.proofs.in_place.write_over.Goals as goal

pub keep-requires : goal.keep-requires
keep-requires c =
    let now : length c.block-now.result.now ≡ 512 = ap (λ (l : List ℕ). length l) c.block-now.ensures
    ∙ full c.args.number c.args.file.now c.requires.there in
    let given = c.requires.whole in
    omega (arith, now, given)

pub returns-clause-steps : goal.returns-clause-steps
returns-clause-steps c =
    written_over c.args.number c.args.was.now.items c.keep.new.was.items c.args.file.now c.block-now.result.now
    c.args.bytes.now c.put.new.file
    c.requires.there c.requires.whole c.block-now.ensures c.in_ok-keep.ensures.ok c.put.ensures

pub returns-clause-changed : goal.returns-clause-changed
returns-clause-changed c =
    one_added c.args.number c.args.file.now c.block-now.result.now c.args.bytes.now c.put.new.file
    c.args.numbers.now.items c.push.new.self.items
    c.requires.there c.requires.whole c.block-now.ensures (search rules) c.put.ensures (search rules)
