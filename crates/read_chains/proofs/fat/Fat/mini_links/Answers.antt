use Rattle.std.proofs.Common.{◌∙◌, ◌*◌, ◌+◌, ap, length}
use Rattle.cfb_chains.specs.Fat.{store_of}
use Rattle.cfb_chains.proofs.Blocks.{length_block, length_joined, whole_numbers}
use Rattle.read_chains.proofs.fat.Fat.mini_links.Goals as goal

pub numbers-requires-clause-whole : goal.numbers-requires-clause-whole
numbers-requires-clause-whole c =
    let f = c.args.self.now in
    whole_numbers f.width (length c.args.sectors.now) (length c.deref.result.now) c.requires.either
    (ap length (c.deref.ensures.value ∙ c.in_ok-entries.ensures)
    ∙ length_joined (store_of f).piece f.width c.args.sectors.now
    (λ n. length_block f.width f.bytes (f.start + f.width * n)))
