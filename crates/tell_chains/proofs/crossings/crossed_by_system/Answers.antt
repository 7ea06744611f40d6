use Rattle.std.proofs.Common.{◌∙◌, List, ap, subst, sym}
use Rattle.std.specs.List.{Contains}
use Rattle.cfb_entries.specs.Entries.{entry_at, size_of}
use Rattle.cfb_faults.specs.Faults.{Base, store_in}
use Rattle.cfb_header.specs.declared.fault.ChainFault.TheVariants as chain
use Rattle.tell_faults.specs.Places.{IsLinkAtFault}
use Rattle.tell_faults.specs.declared.place.Link.{Link}
use Rattle.tell_faults.proofs.Held.{some_gives}
use Rattle.tell_chains.specs.Streams.{IsBaseOf, IsStreamAt}
use Rattle.tell_chains.specs.declared.place.Owner.TheVariants as owner
use Rattle.tell_chains.specs.declared.streams.Stream.{Stream}
use Rattle.tell_chains.proofs.Owned.{crossed_place, own_told}
use Rattle.tell_chains.proofs.crossings.crossed_by_system.Goals as goal

pub returns-in_ok-place-in-Some : goal.returns-in_ok-place-in-Some
returns-in_ok-place-in-Some c =
    let p = c.args.parts.now in
    let s : Stream = c.args.stream.now in
    let own : List _ = c.deref.result.now in
    let q = c.in_ok-place-in-Some.ensures in
    crossed_place p c.args.met.now.ids.items s own c.in-Some.link owner.System c.in_ok-place-in-Some.place
    c.requires.stream (λ e. absurd (cc e)) (
      subst (λ (d : List _). IsStreamAt d c.in_ok-place-in-Some.place.way.items) c.deref-in-Some.ensures.value q.0,
      q.1,
      q.2,
      q.3,
      q.4,
    )
    (some_gives (λ (l : Link). (b : Base) → IsBaseOf p b
    → IsLinkAtFault (store_in b s.size) (Contains own) s.first s.size chain.CrossLinked l) c.in_ok-found.found
    c.in-Some.link c.in-Some.is c.in_ok-found.ensures.there)
    (λ x base there. own_told p x s.id s.size c.in-Some.link.to (
      sym c.lies_in_minis.ensures ∙ c.if-lies_in_minis.false,
      subst (λ (xs : List _). Contains xs c.in-Some.link.to) c.deref.ensures.value there,
    ) base
    (c.requires.stream.size ∙ ap (λ (d : List _). size_of (entry_at d s.id)) base.directory))
