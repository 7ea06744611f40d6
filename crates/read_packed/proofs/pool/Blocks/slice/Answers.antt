use Rattle.std.proofs.Common.{◌∙◌, ap, arith, drop, take}
use Rattle.read_packed.proofs.HeldBlocks.{behind}
use Rattle.read_packed.proofs.pool.Blocks.slice.Goals as goal

pub returns-clause-bytes : goal.returns-clause-bytes
returns-clause-bytes c =
    behind c.self.inside.before.items c.self.inside.directory c.self.inside.after.items c.in_ok-run.run'.now
    c.args.at c.args.size
    c.in_ok-checked_sub.field-0 c.in_ok-entries.entries c.in_ok-behind.behind
    (omega (arith, c.in_ok-entries.ensures, c.count.ensures))
    (omega (arith, c.in_ok-checked_sub.ensures, c.len.ensures, c.self.inside.before.ok.0))
    (omega (arith, c.in_ok-checked_sub.ensures, c.len.ensures, c.self.inside.before.ok.0))
    (omega (arith, c.in_ok-behind.ensures))
    (omega (arith, c.in_ok-behind.ensures))
    (c.in_ok-run.ensures.bytes ∙ ap (λ xs. take c.args.size (drop c.in_ok-behind.behind xs)) c.deref-2.ensures.value)
    ∙ ap (λ xs. take c.args.size (drop c.args.at xs)) c.self.view_is
