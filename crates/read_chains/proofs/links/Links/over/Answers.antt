use Rattle.std.proofs.Common.{◌*◌, arith}
use Rattle.std.proofs.lemmas.List.FromFn.{get_or-map-range_with_len, length-map-range_with_len}
use Rattle.cfb_header.specs.Bytes.{u32_at}
use Rattle.read_chains.proofs.links.Links.over.Goals as goal

pub returns-clause-count : goal.returns-clause-count
returns-clause-count c = length-map-range_with_len (λ k. u32_at c.args.bytes.now (4 * k)) 0 c.args.count

pub returns-clause-each : goal.returns-clause-each
returns-clause-each c = λ k l. get_or-map-range_with_len (λ k. u32_at c.args.bytes.now (4 * k)) 0 c.args.count k k 0
    l (omega arith)
