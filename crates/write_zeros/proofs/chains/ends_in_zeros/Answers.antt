use Rattle.std.proofs.Common.{◌+◌, ◌*◌, List, ℕ, arith, refl}
use Rattle.cfb_bytes.specs.Bytes.{block}
use Rattle.cfb_chains.proofs.Blocks.{length_block}
use Rattle.write_zeros.proofs.Ends.{ending_first, ending_last, ending_more, none_behind}
use Rattle.write_zeros.proofs.chains.ends_in_zeros.Goals as goal

pub returns-then-size-eq0 : goal.returns-then-size-eq0
returns-then-size-eq0 c = λ t ns h. none_behind c.args.table.now _ c.args.first c.args.size ns (omega arith) h

pub loop-at-init : goal.loop-at-init
loop-at-init c = (
  omega arith,
  λ ns h. ending_first c.args.table.now _ c.args.first c.args.size ns
      (λ e. omega (arith, e)) h,
)

pub loop-at-preserved : goal.loop-at-preserved
loop-at-preserved c = (
  omega arith,
  λ ns h.
      let piece : ℕ → List ℕ = λ n. block c.args.width c.args.bytes.now (c.args.start + c.args.width * n) in
      ending_more c.args.table.now piece c.args.width c.args.size ns c.loop-at.at _ c.loop-at.left
      c.saturating_sub-left.result
      (λ n. length_block c.args.width c.args.bytes.now (c.args.start + c.args.width * n)) (omega arith)
      (omega arith) refl c.saturating_sub-left.ensures
      (c.is_zero_behind.ensures c.if-not-is_zero_behind.false) (c.loop-at.invariant.1 ns h),
)

pub returns : goal.returns
returns c = λ t ns h. ending_last c.args.table.now _ c.args.size ns c.loop-at.at c.loop-at.left (omega arith)
    (c.loop-at.invariant.1 ns h)
