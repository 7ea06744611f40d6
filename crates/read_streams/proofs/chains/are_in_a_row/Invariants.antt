use Rattle.std.proofs.Common.{◌≡◌, ◌*◌}
use Rattle.std.specs.List.{range_with_len}
use Rattle.cfb_header.specs.Bytes.{u32_at}
use Rattle.read_streams.specs.Chains.{walked}
use Rattle.read_streams.proofs.chains.are_in_a_row.Given as goal

abbrev pub invariant-loop-left : goal.invariant-loop-left
invariant-loop-left l = walked (λ n. u32_at l.mini_fat (4 * n)) l.at l.left ≡ range_with_len l.at l.left
    → walked (λ n. u32_at l.mini_fat (4 * n)) l.first l.count ≡ range_with_len l.first l.count

abbrev pub decreases-loop-left : goal.decreases-loop-left
decreases-loop-left l = l.left
