use Rattle.std.proofs.Common.{◌*◌, ◌∙◌, arith}
use Rattle.read_directories.proofs.Numbers.{u32_inside}
use Rattle.read_directories.proofs.bytes.entry_u32.Goals as goal

pub returns-then-place-directory : goal.returns-then-place-directory
returns-then-place-directory c = c.read_u32.ensures ∙ u32_inside c.args.directory.now (128 * c.args.id) c.args.at
    c.requires.within (omega arith)
