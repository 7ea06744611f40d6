use Rattle.std.proofs.Common.{◌≡◌, ◌<◌, ◌*◌, ◌+◌, ◌∙◌, Bool, List, arith, false, get_or, length, length-set, set, sym}
use Rattle.std.proofs.Common.{true, ℕ}
use Rattle.std.proofs.lemmas.Grind.{common_steps}
use Rattle.std.proofs.lemmas.List.{get_or_default}
use Rattle.cfb_header.specs.Bytes.{u32_at}
use Rattle.read_chains.proofs.Ways.{row_end, row_step}
use Rattle.read_chains.proofs.walks.mark_row.Goals as goal

pub loop-last-preserved : goal.loop-last-preserved
loop-last-preserved c =
    let now : List Bool = c.loop-last.used in
    let last : ℕ = c.loop-last.last in
    let i = c.loop-last.invariant in
    let inside : last + 1 < length now = omega (arith, c.loop-last-test.true, i.2) in
    let free : get_or now (last + 1) true ≡ false = grind (arith, common_steps, get_or_default {X = Bool}) in
    let long : length (set now last true) ≡ length now = length-set now last true in (
      row_step (λ n. u32_at c.args.bytes.now (4 * n)) c.args.first c.args.used.now now last i.0
          (sym c.if-read_u32-last.true ∙ c.read_u32.ensures) (inside, free),
      c.loop-last-test.true,
      omega (arith, long, i.2),
      i.3,
    )

pub returns-clause-walk : goal.returns-clause-walk
returns-clause-walk c =
    row_end (λ n. u32_at c.args.bytes.now (4 * n)) c.args.first c.args.used.now c.loop-last.used c.loop-last.last
    c.read_u32-stop.result c.loop-last.invariant.0
    c.read_u32-stop.ensures
