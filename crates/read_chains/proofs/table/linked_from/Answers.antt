use Rattle.std.proofs.Common.{◌<◌, ◌-◌, ◌∙◌, ℕ, List, arith, length}
use Rattle.cfb_chains.proofs.Followed.{followed_chain, no_chain}
use Rattle.read_chains.proofs.table.linked_from.Goals as goal

pub returns-in_default : goal.returns-in_default
returns-in_default c = λ ns few h below. c.in_ok-sectors.ensures.listed
    ∙ followed_chain c.args.table.now c.args.start ns few h below

pub returns-then-entry : goal.returns-then-entry
returns-then-entry c =
    let xs : List ℕ = c.deref.result.now in
    let some : 0 < length xs = c.in-Some.ensures.item.3.0 in
    λ ns few h below.
    no_chain c.args.table.now c.args.start (length xs - 1) c.in-Some.last.now ns xs c.new.result.items
    (c.deref.ensures.value ∙ c.in_ok-sectors.ensures.listed)
    (omega (arith, some)) (c.in-Some.ensures.item.3.1 0) (λ e. c.if-entry.true (c.entry.ensures ∙ e)) few h below

pub returns : goal.returns
returns c = λ ns few h below. c.in_ok-sectors.ensures.listed ∙ followed_chain c.args.table.now c.args.start ns few h
    below
