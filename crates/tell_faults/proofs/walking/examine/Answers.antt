use Rattle.std.proofs.Common.{◌≡◌, ◌≢◌, ◌⊎◌, ◌<◌, ◌≤◌, ◌*◌, ℕ, List, arith, length, subst, sym}
use Rattle.std.specs.List.{Contains}
use Rattle.cfb_chains.specs.Chain.{END_OF_CHAIN}
use Rattle.tell_faults.proofs.Stops.{ends_at, is_not_whole, is_unfaulted, new_for}
use Rattle.tell_faults.proofs.Walks.{led, whole_chain}
use Rattle.tell_faults.proofs.walking.examine.Goals as goal

pub returns-then-is_at_fault : goal.returns-then-is_at_fault
returns-then-is_at_fault c = λ s t w.
    c.is_at_fault.ensures.told c.if-is_at_fault.true s t.count w c.args.chain.first
    (led c.args.table.now s t c.args.chain.first c.in_ok-walked.walked.sectors.items c.in_ok-walked.walked.link
    c.in_ok-walked.ensures.walked)

pub returns-then-is_whole : goal.returns-then-is_whole
returns-then-is_whole c =
    let table : List ℕ = c.args.table.now in
    let ns : List ℕ = c.in_ok-walked.walked.sectors.items in
    let st = c.in_ok-walked.ensures.stopped in
    let spared = c.is_at_fault.ensures.spared c.if-is_at_fault.false in
    let ends : (length table ≤ c.in_ok-walked.walked.link.to) ⊎ Contains ns c.in_ok-walked.walked.link.to =
    ends_at table c.args.taken.now c.stops_for.result.now ns c.in_ok-walked.walked.link.to
    (c.args.chain.width * length ns) c.args.chain.size c.args.fault st c.stops_for.ensures.crossed
    c.stops_for.ensures.other spared in (
      λ s t w.
          let e : (c.in_ok-walked.walked.link.to ≡ END_OF_CHAIN)
          × (c.args.chain.size ≤ c.args.chain.width * c.len.result) =
          c.is_whole.ensures.whole c.if-is_whole.true in
          let counted : c.len.result ≡ length ns = omega arith in
          let room : c.args.chain.size ≤ c.args.chain.width * length ns =
          subst (λ (x : ℕ). c.args.chain.size ≤ c.args.chain.width * x) counted e.1 in
          whole_chain c.args.table.now s t c.args.chain.first c.args.chain.size ns c.in_ok-walked.walked.link
          c.requires c.in_ok-walked.ensures.walked e.0
          (subst (λ (x : ℕ). c.args.chain.size ≤ x * length ns) (sym w) room),
      is_unfaulted table ns c.args.chain c.in_ok-walked.walked.link c.requires c.in_ok-walked.ensures.walked st.once
          ends c.args.taken.now c.args.fault
          (new_for table c.args.taken.now c.stops_for.result.now ns c.in_ok-walked.walked.link.to c.args.fault st
          c.stops_for.ensures.crossed) spared,
    )

pub returns : goal.returns
returns c =
    let table : List ℕ = c.args.table.now in
    let ns : List ℕ = c.in_ok-walked.walked.sectors.items in
    let counted : c.len.result ≡ length ns = omega arith in
    let st = c.in_ok-walked.ensures.stopped in
    let spared = c.is_at_fault.ensures.spared c.if-is_at_fault.false in
    let ends : (length table ≤ c.in_ok-walked.walked.link.to) ⊎ Contains ns c.in_ok-walked.walked.link.to =
    ends_at table c.args.taken.now c.stops_for.result.now ns c.in_ok-walked.walked.link.to
    (c.args.chain.width * length ns) c.args.chain.size c.args.fault st c.stops_for.ensures.crossed
    c.stops_for.ensures.other spared in (
      is_unfaulted table ns c.args.chain c.in_ok-walked.walked.link c.requires c.in_ok-walked.ensures.walked st.once
          ends c.args.taken.now c.args.fault
          (new_for table c.args.taken.now c.stops_for.result.now ns c.in_ok-walked.walked.link.to c.args.fault st
          c.stops_for.ensures.crossed) spared,
      is_not_whole table ns c.args.chain c.in_ok-walked.walked.link c.requires c.in_ok-walked.ensures.walked st.once
          ends (subst (λ (x : ℕ). (c.in_ok-walked.walked.link.to ≢ END_OF_CHAIN)
          ⊎ (c.args.chain.width * x < c.args.chain.size)) counted (c.is_whole.ensures.cut c.if-is_whole.false)),
    )
