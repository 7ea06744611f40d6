use Rattle.std.proofs.Common.{◌≡◌, ◌++◌, ◌+◌, ◌*◌, ℕ}
use Rattle.cfb_header.specs.Bytes.{u32_at}
use Rattle.read_streams.specs.Chains.{walked}
use Rattle.read_streams.proofs.chains.follow_minis.Given as goal

abbrev pub invariant-loop : goal.invariant-loop
invariant-loop l = (k : ℕ) → l.counter + k ≡ l.count
    → l.minis.items ++ walked (λ n. u32_at l.mini_fat (4 * n)) l.at k ≡ walked (λ n. u32_at l.mini_fat (4 * n))
    l.first l.count
