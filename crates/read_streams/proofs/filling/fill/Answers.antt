use Rattle.std.proofs.Common.{◌≡◌, ◌-◌, ℕ, List, length, take, drop, replicate, rules, arith}
use Rattle.read_source.proofs.Filling.{some_map}
use Rattle.read_streams.proofs.Buffers.{filled_end}
use Rattle.read_streams.proofs.filling.fill.Goals as goal

pub returns-in-Ok-clause-filled : goal.returns-in-Ok-clause-filled
returns-in-Ok-clause-filled g c =
    let old : List ℕ = c.args.buffer.now in
    let there : ℕ = c.min-there.result in
    let zs : c.fill.new.self ≡ replicate (length old - there) 0 = search (rules, c.fill.ensures.after) in
    some_map (g.S.Source.bytes c.args.source.now) (λ a. c.read_at.new.buf ≡ take _ (drop c.args.at a)) _
    (λ a h len. filled_end a old c.fill.new.self c.read_at.new.buf c.args.at there
    (omega (arith, c.min-there.ensures, c.saturating_sub.ensures, len)) h zs) c.in-Ok.ensures.filled
