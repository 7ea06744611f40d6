use Rattle.std.proofs.Common.{rules}
use Rattle.store_images.proofs.Overlaid.{block_kept, full_block, longer}
use Rattle.store_images.proofs.update.push_kept.Goals as goal

pub returns-clause-whole : goal.returns-clause-whole
returns-clause-whole c =
    longer c.args.number c.args.file.now.items c.args.was.now c.extend_from_slice.new.self.items c.requires.whole
    (full_block c.args.number c.args.old.now c.args.was.now c.requires.there c.requires.full) (search rules)

pub returns-clause-so_far : goal.returns-clause-so_far
returns-clause-so_far c =
    block_kept c.args.number c.args.old.now c.args.file.now.items c.args.was.now c.extend_from_slice.new.self.items
    c.args.numbers.now
    c.requires.whole (full_block c.args.number c.args.old.now c.args.was.now c.requires.there c.requires.full)
    c.requires.there (search rules) c.requires.so_far
