use Rattle.write_zeros.proofs.Rest.{rest_zero}
use Rattle.write_zeros.proofs.zeroed.is_rest_zero.Goals as goal

pub returns : goal.returns
returns c = λ is.
    rest_zero c.args.file.now c.args.parts.now c.args.marks.now c.deref.result.now c.deref-2.result.now
    c.deref-3.result.now c.deref-4.result.now c.deref-5.result.now
    c.deref.ensures.value c.deref-2.ensures.value c.deref-3.ensures.value c.deref-4.ensures.value
    c.deref-5.ensures.value
    (c.are_unmarked_zero.ensures c.if-not-are_unmarked_zero.false)
    (c.are_unmarked_zero-2.ensures c.if-not-are_unmarked_zero-2.false)
    (c.are_unmarked_free.ensures c.if-not-are_unmarked_free.false) (c.all_end_in_zeros.ensures is)
