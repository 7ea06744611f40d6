use Rattle.std.proofs.Common.{◌*◌, ◌+◌, ◌-◌, ◌<◌, ◌≤◌, length}
use Rattle.cfb_header.specs.Bytes.{u32_at}
use Rattle.read_chains.proofs.Ways.{IsRow}
use Rattle.read_chains.proofs.walks.mark_row.Given as goal

abbrev pub invariant-loop-last : goal.invariant-loop-last
invariant-loop-last l =
    IsRow (λ n. u32_at l.bytes (4 * n)) l.first l.initial.used l.used l.last × (l.last < l.end)
    × (l.end ≤ length l.used) × (l.end ≤ l.first + l.most)

abbrev pub decreases-loop-last : goal.decreases-loop-last
decreases-loop-last l = l.end - l.last
