use Rattle.std.proofs.Common.{◌≡◌, ◌*◌, ◌+◌, ◌∙◌, ap, arith, length}
use Rattle.cfb_header.specs.Bytes.{joined, sector}
use Rattle.read_chains.specs.View.{image_bytes}
use Rattle.cfb_chains.proofs.Blocks.{length_block, length_joined}
use Rattle.read_chains.proofs.table.table_in.Goals as goal

pub numbers-requires-clause-whole : goal.numbers-requires-clause-whole
numbers-requires-clause-whole c =
    let file = image_bytes c.args.file.now in
    let ns = c.args.sectors.now in
    let long : length (joined (sector file) ns) ≡ 512 * length ns =
    length_joined (sector file) 512 ns (λ n. length_block 512 file (512 + 512 * n)) in
    (128 * length ns, omega (arith, ap length (c.deref.ensures.value ∙ c.in_ok-bytes.ensures), long))
