use Rattle.std.proofs.Common.{◌∙◌, ◌++◌, ℕ, List, ap, sym}
use Rattle.store_model.specs.Changes.{bytes_in, changes_from}
use Rattle.store_images.specs.Changed.{numbers_between}
use Rattle.store_images.proofs.Numbers.{next, numbers}
use Rattle.store_images.proofs.changed.changed.Goals as goal

pub loop-number-preserved : goal.loop-number-preserved
loop-number-preserved c =
    let n : ℕ = c.loop-number.number in
    let old : List ℕ = c.args.old.now in
    let new : List ℕ = c.args.new.now in
    let so_far : List ℕ = numbers (changes_from 0 n old new) in
    c.in_ok-push_changed.ensures
    ∙ ap (λ (l : List ℕ). l ++ numbers_between n c.block-was.result.now c.block-now.result.now) c.loop-number.invariant
    ∙ ap (λ (l : List ℕ). so_far ++ numbers_between n l c.block-now.result.now) c.block-was.ensures
    ∙ ap (λ (l : List ℕ). so_far ++ numbers_between n (bytes_in n old) l) c.block-now.ensures
    ∙ sym (next n old new)
