use Rattle.std.proofs.Common.{◌+◌, ◌*◌, ◌/◌, ◌%◌, ◌≡◌, ◌∙◌, ap, arith, get_or}
use Rattle.read_packed.proofs.Held.{byte_there}
use Rattle.read_packed.proofs.packed.PackedEntries.byte.Goals as goal

pub returns : goal.returns
returns c =
    let at : 128 * (c.args.at / 128) + c.args.at % 128 ≡ c.args.at = omega arith in
    ap (λ xs. get_or xs (c.args.at % 128) 0) c.entry.ensures
    ∙ byte_there c.args.self.now (128 * (c.args.at / 128)) (c.args.at % 128) (omega arith) (omega (arith, c.requires))
    ∙ ap (λ n. get_or c.args.self.now n 0) at
