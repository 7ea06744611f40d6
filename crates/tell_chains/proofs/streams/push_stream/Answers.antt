use Rattle.std.proofs.Common.{◌≡◌, ◌<◌, ◌∙◌, ℕ, false, get_or, rules, true}
use Rattle.std.proofs.lemmas.List.{get_or_default}
use Rattle.cfb_entries.specs.Entries.{entry_at, first_of, kind, size_of}
use Rattle.tell_faults.proofs.Held.{none_gives, some_gives}
use Rattle.tell_chains.specs.declared.streams.Stream.{Stream}
use Rattle.tell_chains.proofs.Listed.{below_more, below_next, stream_is}
use Rattle.tell_chains.proofs.streams.push_stream.Goals as goal

pub returns-then-id-eq0 : goal.returns-then-id-eq0
returns-then-id-eq0 c = below_next c.args.directory.now c.args.met.now.ids.items c.args.met.now.seen.items c.args.id
    c.args.streams.now.items c.requires.streams (λ below met two some. below c.if-id-eq0.true)

pub returns-then-not-index : goal.returns-then-not-index
returns-then-not-index c =
    let here : get_or c.args.met.now.seen.items c.args.id c.index.result.now ≡ c.index.result.now = search rules in
    let off : c.index.result.now ≡ false = search rules in
    let unmet : get_or c.args.met.now.seen.items c.args.id true ≡ false =
    get_or_default c.args.met.now.seen.items c.args.id true c.index.result.now c.requires.inside ∙ here ∙ off in
    below_next c.args.directory.now c.args.met.now.ids.items c.args.met.now.seen.items c.args.id
    c.args.streams.now.items c.requires.streams (λ below met two some. absurd (cc (unmet, met)))

pub returns-in_ok-push-in-Some : goal.returns-in_ok-push-in-Some
returns-in_ok-push-in-Some c =
    let dir = c.args.directory.now in
    let id : ℕ = c.args.id in
    let s : Stream = c.in-Some.stream in
    let met : get_or c.args.met.now.seen.items id true ≡ true = search rules in
    let q = some_gives (λ (x : Stream). (x.id ≡ id) × (kind (entry_at dir id) ≡ 2)
    × (x.first ≡ first_of (entry_at dir id)) × (x.size ≡ size_of (entry_at dir id)) × (0 < x.size))
    c.stream_of.result s c.in-Some.is c.stream_of.ensures.some in
    rw c.in_ok-push-in-Some.ensures.items
    (below_more dir c.args.met.now.ids.items c.args.met.now.seen.items id c.args.streams.now.items s
    c.requires.streams
    (stream_is dir c.args.met.now.ids.items id s (c.requires.met.marked id c.if-id-eq0.false c.requires.inside met)
    c.if-id-eq0.false q) q.0)

pub returns-in-None : goal.returns-in-None
returns-in-None c =
    let dir = c.args.directory.now in
    below_next dir c.args.met.now.ids.items c.args.met.now.seen.items c.args.id c.args.streams.now.items
    c.requires.streams
    (λ below met. none_gives (kind (entry_at dir c.args.id) ≡ 2 → 0 < size_of (entry_at dir c.args.id) → ⊥)
    c.stream_of.result c.in-None.is c.stream_of.ensures.none)
