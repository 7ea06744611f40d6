use Rattle.std.proofs.Common.{◌≡◌, ◌-◌, ◌<◌, length, sym, ap, ◌∙◌, slice_set, slice_index_or, List, ℕ, rules, arith}
use Rattle.std.specs.Vec.{vec_len}
use Rattle.tree_streams.specs.declared.streams.NamedStream.{NamedStream}
use Rattle.message_drafts.specs.Drafts.{longer}
use Rattle.message_drafts.proofs.Streams.{set_last, on_ok_then}
use Rattle.message_drafts.proofs.draft.lengthen_last.Goals as goal

pub returns-in-Some-clause-added : goal.returns-in-Some-clause-added
returns-in-Some-clause-added c =
    let ss : List NamedStream = c.args.streams.now.items in
    let t : NamedStream = c.in-Some.stream.now in
    let n : vec_len c.args.streams.now ≡ length ss = search rules in
    let some : 0 < length ss = search rules in
    let e : t ≡ slice_index_or ss (length ss - 1) t = c.in-Some.ensures.value
    ∙ ap (λ (k : ℕ). slice_index_or ss (k - 1) t) n in
    on_ok_then c.add.result (λ p. ap (λ (k : ℕ). slice_set ss (k - 1) c.add.new.self) n
    ∙ ap (slice_set ss (length ss - 1)) p ∙ set_last ss t c.args.bytes.now some e) c.add.ensures.added
