use Rattle.std.proofs.Common.{◌+◌, ◌∙◌, ℕ, slice_index_or, slice_set}
use Rattle.write_directory.proofs.Numbers.{four_set}
use Rattle.write_directory.proofs.write.write_u32.Goals as goal

pub returns : goal.returns
returns c =
    let at : ℕ = c.args.at in
    (λ i. slice_set
    (slice_set (slice_set (slice_set c.args.bytes.now at (slice_index_or (c.to_le_bytes-number.ensures i) 0 0))
    (at + 1) (slice_index_or (c.to_le_bytes-number.ensures i) 1 0)) (at + 2)
    (slice_index_or (c.to_le_bytes-number.ensures i) 2 0)) (at + 3)
    (slice_index_or (c.to_le_bytes-number.ensures i) 3 0))
    ∙ four_set c.args.bytes.now at _ _ _ _ c.requires
