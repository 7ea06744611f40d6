use Rattle.std.proofs.Common.{◌∙◌, ◌*◌, ℕ, List, ap}
use Rattle.cfb_header.specs.Bytes.{joined, sector, u32_at}
use Rattle.read_streams.proofs.Joined.{whole_numbers}
use Rattle.read_streams.proofs.blocks.mini_fat_bytes.Goals as goal

pub returns-clause-next : goal.returns-clause-next
returns-clause-next c = λ a h t d o.
    ap (λ (xs : List ℕ). (λ (n : ℕ). u32_at xs (4 * n)))
    (c.in_ok-bytes.ensures ∙ ap (joined (sector c.args.file.now)) c.deref.ensures.value)
    ∙ c.in_ok-sectors.ensures.next a h t d o

pub returns-clause-whole : goal.returns-clause-whole
returns-clause-whole c = whole_numbers c.args.file.now c.deref.result.now c.in_ok-bytes.bytes.items
    c.in_ok-bytes.ensures
