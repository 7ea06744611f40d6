use Rattle.std.proofs.Common.{◌≡◌, ◌<◌, ◌∙◌, [], List, ℕ, arith, ap, get_or, inl, inr, length, subst, sym}
use Rattle.std.proofs.lemmas.List.{get_or_default}
use Rattle.cfb_faults.specs.Faults.{Base, store_in}
use Rattle.std.specs.List.{Contains}
use Rattle.tell_faults.specs.Places.{IsLinkAtFault}
use Rattle.tell_faults.specs.declared.place.Link.{Link}
use Rattle.tell_faults.proofs.Held.{none_gives, some_gives}
use Rattle.tell_chains.specs.Streams.{IsBaseOf, IsSparedBy, IsStream, IsStreamAt}
use Rattle.tell_chains.specs.declared.streams.Stream.{Stream}
use Rattle.tell_chains.proofs.Listed.{at_bound}
use Rattle.tell_chains.proofs.Owned.{uncrossed_place}
use Rattle.tell_chains.proofs.chains.find_at_fault.Goals as goal

pub loop-stream-init : goal.loop-stream-init
loop-stream-init c = λ k d lt. absurd (omega (arith, lt))

pub loop-stream-preserved : goal.loop-stream-preserved
loop-stream-preserved c = λ k d lt.
    let p = c.args.parts.now in
    let i : ℕ = c.loop-stream.stream-index in
    let s : Stream = get_or c.args.streams.now i (record { id = 0; first = 0; size = 0 }) in
    let spared : IsSparedBy p [] c.args.fault s =
    none_gives (IsSparedBy p [] c.args.fault s) c.in_ok-found.found c.in_default.is c.in_ok-found.ensures.none in
    elim (at_bound k i lt) [
      | inl less ↦ c.loop-stream.invariant k d less
      | inr same ↦
          let e : s ≡ get_or c.args.streams.now k d =
          get_or_default c.args.streams.now i (record { id = 0; first = 0; size = 0 }) d c.loop-stream-test.true
          ∙ ap (λ (x : ℕ). get_or c.args.streams.now x d) (sym same) in
          subst (IsSparedBy p [] c.args.fault) e spared
    ]

pub place_at-requires-clause-stream : goal.place_at-requires-clause-stream
place_at-requires-clause-stream c =
    subst (λ (d : List ℕ). IsStream d c.args.met.now.ids.items (get_or c.args.streams.now c.loop-stream.stream-index
    (record { id = 0; first = 0; size = 0 }))) (sym c.deref.ensures.value)
    (c.requires.streams c.loop-stream.stream-index (record { id = 0; first = 0; size = 0 }) c.loop-stream-test.true)

pub returns-in-Some-clause-there : goal.returns-in-Some-clause-there
returns-in-Some-clause-there c =
    let p = c.args.parts.now in
    let s : Stream = get_or c.args.streams.now c.loop-stream.stream-index (record { id = 0; first = 0; size = 0 }) in
    let q = c.in_ok-place.ensures in
    uncrossed_place p c.args.met.now.ids.items s c.args.fault c.in-Some.link c.in_ok-place.place c.requires.other
    (c.requires.streams c.loop-stream.stream-index (record { id = 0; first = 0; size = 0 }) c.loop-stream-test.true)
    (subst (λ (d : List ℕ). IsStreamAt d c.in_ok-place.place.way.items) c.deref.ensures.value q.0, q.1, q.2, q.3, q.4)
    (some_gives (λ (l : Link). (b : Base) → IsBaseOf p b
    → IsLinkAtFault (store_in b s.size) (Contains []) s.first s.size c.args.fault l) c.in_ok-found.found
    c.in-Some.link c.in-Some.is c.in_ok-found.ensures.there)

pub returns-clause-none : goal.returns-clause-none
returns-clause-none c = λ k d lt. c.loop-stream.invariant k d (omega (arith, lt, c.loop-stream-test.false))
