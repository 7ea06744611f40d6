use Rattle.std.proofs.Common.{◌≡◌, ◌≢◌, ◌⊎◌, ◌<◌, ◌≤◌, ◌*◌, ℕ, List, arith, length, subst, sym}
use Rattle.cfb_chains.specs.Chain.{END_OF_CHAIN}
use Rattle.tell_faults.proofs.Stops.{ends_free, is_not_whole}
use Rattle.tell_faults.proofs.Walks.{whole_chain}
use Rattle.tell_faults.proofs.walking.chain_at.Goals as goal

pub returns-then-is_whole-clause-whole : goal.returns-then-is_whole-clause-whole
returns-then-is_whole-clause-whole c = λ s t w.
    let ns : List ℕ = c.in_ok-walked.walked.sectors.items in
    let e : (c.in_ok-walked.walked.link.to ≡ END_OF_CHAIN)
    × (c.args.chain.size ≤ c.args.chain.width * c.len.result) = c.is_whole.ensures.whole c.if-is_whole.true in
    let counted : c.len.result ≡ length ns = omega arith in
    let room : c.args.chain.size ≤ c.args.chain.width * length ns =
    subst (λ (x : ℕ). c.args.chain.size ≤ c.args.chain.width * x) counted e.1 in
    whole_chain c.args.table.now s t c.args.chain.first c.args.chain.size ns c.in_ok-walked.walked.link c.requires
    c.in_ok-walked.ensures.walked e.0
    (subst (λ (x : ℕ). c.args.chain.size ≤ x * length ns) (sym w) room)

pub returns-clause-other : goal.returns-clause-other
returns-clause-other c =
    let table : List ℕ = c.args.table.now in
    let ns : List ℕ = c.in_ok-walked.walked.sectors.items in
    let counted : c.len.result ≡ length ns = omega arith in
    let st = c.in_ok-walked.ensures.stopped in
    is_not_whole table ns c.args.chain c.in_ok-walked.walked.link c.requires c.in_ok-walked.ensures.walked st.once
    (ends_free table ns c.in_ok-walked.walked.link.to st)
    (subst (λ (x : ℕ). (c.in_ok-walked.walked.link.to ≢ END_OF_CHAIN)
    ⊎ (c.args.chain.width * x < c.args.chain.size)) counted (c.is_whole.ensures.cut c.if-is_whole.false))
