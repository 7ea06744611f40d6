use Rattle.std.proofs.Common.{◌≡◌, ◌-◌, ◌<◌, length, ap, ◌∙◌, slice_set, slice_index_or, List, ℕ, rules}
use Rattle.std.specs.Vec.{vec_len}
use Rattle.tree_streams.specs.declared.streams.NamedStream.{NamedStream}
use Rattle.message_drafts.proofs.Streams.{set_cut}
use Rattle.message_drafts.proofs.back.cut_last.Goals as goal

pub returns-in-Some : goal.returns-in-Some
returns-in-Some c =
    let ss : List NamedStream = c.args.streams.now.items in
    let t : NamedStream = c.in-Some.stream.now in
    let n : vec_len c.args.streams.now ≡ length ss = search rules in
    let some : 0 < length ss = search rules in
    let e : t ≡ slice_index_or ss (length ss - 1) t = c.in-Some.ensures.value
    ∙ ap (λ (k : ℕ). slice_index_or ss (k - 1) t) n in
    ap (λ (k : ℕ). slice_set ss (k - 1) c.cut.new.self) n ∙ ap (slice_set ss (length ss - 1)) c.cut.ensures
    ∙ set_cut ss t c.args.n some e
