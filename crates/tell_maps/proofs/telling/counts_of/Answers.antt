use Rattle.std.proofs.Common.{◌≡◌, ◌<◌, ◌≤◌, ◌+◌, ◌∙◌, ℕ, List, ap, get_or, length, length-set, replicate, refl, arith}
use Rattle.std.proofs.lemmas.List.{get_or-replicate, length-replicate}
use Rattle.tell_maps.specs.Maps.{count_of}
use Rattle.tell_maps.proofs.Sums.{tallied}
use Rattle.tell_maps.proofs.telling.counts_of.Goals as goal

pub loop-cell-init : goal.loop-cell-init
loop-cell-init c =
    let is : c.no_counts-counts.result ≡ replicate 256 0 = c.no_counts-counts.ensures in
    record {
      len = ap (λ (xs : List ℕ). length xs) is ∙ length-replicate {A = ℕ} 256 0;
      few = λ k lt. let none : get_or c.no_counts-counts.result k 0 ≡ 0 = ap (λ (xs : List ℕ). get_or xs k 0) is
          ∙ get_or-replicate {A = ℕ} 256 k 0 0 lt in omega (arith, none);
      counted = λ k lt. let none : get_or c.no_counts-counts.result k 0 ≡ 0 = ap (λ (xs : List ℕ). get_or xs k 0) is
          ∙ get_or-replicate {A = ℕ} 256 k 0 0 lt in omega (arith, none);
    }

pub loop-cell-preserved : goal.loop-cell-preserved
loop-cell-preserved c =
    let long : length c.loop-cell.counts ≡ 256 = c.loop-cell.invariant.len in
    record {
      len = length-set c.loop-cell.counts _ _ ∙ long;
      few = λ k lt. (tallied c.loop-cell.counts c.args.cells.now c.loop-cell.cell-index _ k (omega arith)
          (omega arith) refl (c.loop-cell.invariant.few k lt) (c.loop-cell.invariant.counted k lt)).0;
      counted = λ k lt. (tallied c.loop-cell.counts c.args.cells.now c.loop-cell.cell-index _ k (omega arith)
          (omega arith) refl (c.loop-cell.invariant.few k lt) (c.loop-cell.invariant.counted k lt)).1;
    }
