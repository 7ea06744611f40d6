use Rattle.std.proofs.Common.{◌≡◌, ◌<◌, IfOk, IfSome, arith, length, subst, sym}
use Rattle.cfb_faults.specs.Faults.{Base}
use Rattle.cfb_header.specs.declared.fault.ChainFault.{ChainFault}
use Rattle.tell_chains.specs.Streams.{IsBaseOf, IsStreamPlace}
use Rattle.tell_chains.proofs.Owned.{empty_place, no_places}
use Rattle.tell_chains.proofs.chains.find_in_streams.Goals as goal

pub returns-then-len-lt-ENTRY-clause-nowhere : goal.returns-then-len-lt-ENTRY-clause-nowhere
returns-then-len-lt-ENTRY-clause-nowhere c = λ other.
    empty_place c.args.parts.now c.args.fault (omega (arith, c.if-len-lt-ENTRY.true)) c.requires.whole

pub returns-then-is_crossing-clause-nowhere : goal.returns-then-is_crossing-clause-nowhere
returns-then-is_crossing-clause-nowhere c = λ other.
    absurd (other (c.is_crossing.ensures.crossing c.if-is_crossing.true))

pub returns-then-is_crossing-clause-there : goal.returns-then-is_crossing-clause-there
returns-then-is_crossing-clause-there c =
    subst (λ (f : ChainFault). IfOk c.find_crossed.result (λ v. IfSome v (λ p. (b : Base)
    → IsBaseOf c.args.parts.now b → IsStreamPlace b f p)))
    (sym (c.is_crossing.ensures.crossing c.if-is_crossing.true)) c.find_crossed.ensures

pub returns-clause-nowhere : goal.returns-clause-nowhere
returns-clause-nowhere c = λ other.
    no_places c.args.parts.now c.deref-2.result.now c.in_ok-met.met.ids.items c.in_ok-streams.streams.items
    c.deref-4.result.now c.args.fault c.find_at_fault.result other c.deref-2.ensures.value c.deref-4.ensures.value
    c.in_ok-streams.ensures c.find_at_fault.ensures.none
