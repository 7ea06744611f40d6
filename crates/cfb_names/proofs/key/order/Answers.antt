use Rattle.std.proofs.Common.{◌∙◌, sym, arith, nat_cmp}
use Rattle.cfb_names.proofs.KeyNumbers.{decided, decided_last, passed}
use Rattle.cfb_names.proofs.key.order.Goals as goal

pub returns-then-is_ne : goal.returns-then-is_ne
returns-then-is_ne c =
    decided c.args.one.now c.args.other.now c.number.ensures.bytes c.number-2.ensures.bytes 0 c.cmp-first.result
    (omega arith) (c.cmp-first.ensures
    ∙ (λ t. nat_cmp (c.number.ensures.number t) (c.number-2.ensures.number t)))
    (sym c.is_ne.ensures ∙ c.if-is_ne.true)

pub returns-then-is_ne-2 : goal.returns-then-is_ne-2
returns-then-is_ne-2 c =
    decided c.args.one.now c.args.other.now c.number.ensures.bytes c.number-2.ensures.bytes 8 c.cmp-second.result
    (omega arith) (c.cmp-second.ensures
    ∙ (λ t. nat_cmp (c.number-3.ensures.number t) (c.number-4.ensures.number t)))
    (sym c.is_ne-2.ensures ∙ c.if-is_ne-2.true)
    ∙ passed c.args.one.now c.args.other.now c.number.ensures.bytes c.number-2.ensures.bytes 0 c.cmp-first.result
    (omega arith) (c.cmp-first.ensures
    ∙ (λ t. nat_cmp (c.number.ensures.number t) (c.number-2.ensures.number t)))
    (sym c.is_ne.ensures ∙ c.if-is_ne.false)

pub returns-then-is_ne-3 : goal.returns-then-is_ne-3
returns-then-is_ne-3 c =
    decided c.args.one.now c.args.other.now c.number.ensures.bytes c.number-2.ensures.bytes 16 c.cmp-third.result
    (omega arith) (c.cmp-third.ensures
    ∙ (λ t. nat_cmp (c.number-5.ensures.number t) (c.number-6.ensures.number t)))
    (sym c.is_ne-3.ensures ∙ c.if-is_ne-3.true)
    ∙ passed c.args.one.now c.args.other.now c.number.ensures.bytes c.number-2.ensures.bytes 8 c.cmp-second.result
    (omega arith) (c.cmp-second.ensures
    ∙ (λ t. nat_cmp (c.number-3.ensures.number t) (c.number-4.ensures.number t)))
    (sym c.is_ne-2.ensures ∙ c.if-is_ne-2.false)
    ∙ passed c.args.one.now c.args.other.now c.number.ensures.bytes c.number-2.ensures.bytes 0 c.cmp-first.result
    (omega arith) (c.cmp-first.ensures
    ∙ (λ t. nat_cmp (c.number.ensures.number t) (c.number-2.ensures.number t)))
    (sym c.is_ne.ensures ∙ c.if-is_ne.false)

pub returns : goal.returns
returns c =
    decided_last c.args.one.now c.args.other.now c.number.ensures.bytes c.number-2.ensures.bytes c.cmp.result
    (c.cmp.ensures ∙ (λ t. nat_cmp (c.number-7.ensures.number t) (c.number-8.ensures.number t)))
    ∙ passed c.args.one.now c.args.other.now c.number.ensures.bytes c.number-2.ensures.bytes 16 c.cmp-third.result
    (omega arith) (c.cmp-third.ensures
    ∙ (λ t. nat_cmp (c.number-5.ensures.number t) (c.number-6.ensures.number t)))
    (sym c.is_ne-3.ensures ∙ c.if-is_ne-3.false)
    ∙ passed c.args.one.now c.args.other.now c.number.ensures.bytes c.number-2.ensures.bytes 8 c.cmp-second.result
    (omega arith) (c.cmp-second.ensures
    ∙ (λ t. nat_cmp (c.number-3.ensures.number t) (c.number-4.ensures.number t)))
    (sym c.is_ne-2.ensures ∙ c.if-is_ne-2.false)
    ∙ passed c.args.one.now c.args.other.now c.number.ensures.bytes c.number-2.ensures.bytes 0 c.cmp-first.result
    (omega arith) (c.cmp-first.ensures
    ∙ (λ t. nat_cmp (c.number.ensures.number t) (c.number-2.ensures.number t)))
    (sym c.is_ne.ensures ∙ c.if-is_ne.false)
