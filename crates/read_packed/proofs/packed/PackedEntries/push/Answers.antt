use Rattle.std.proofs.Common.{◌++◌, ◌∙◌, ap}
use Rattle.std.proofs.lemmas.Result.{on_ok_weaker}
use Rattle.cfb_bytes.specs.Bytes.{block}
use Rattle.read_packed.proofs.Held.{block_whole}
use Rattle.read_packed.proofs.packed.PackedEntries.push.Goals as goal

pub returns-then-is_short-clause-added : goal.returns-then-is_short-clause-added
returns-then-is_short-clause-added c =
    on_ok_weaker c.add.result (λ added. added ∙ ap (λ xs. c.args.self.now ++ xs) c.slot_of.ensures) c.add.ensures.added

pub returns-clause-added : goal.returns-clause-added
returns-clause-added c =
    on_ok_weaker c.add-2.result
    (λ added.
    added
    ∙ ap (λ xs. c.args.self.now ++ xs)
    (ap (λ xs. block 128 xs 0) c.in_ok-bytes.ensures.items ∙ block_whole 128 c.args.entry.now c.told-entry))
    c.add-2.ensures.added
