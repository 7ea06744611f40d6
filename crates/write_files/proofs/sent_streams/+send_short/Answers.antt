use Rattle.std.proofs.Common.{◌≡◌, ◌++◌, ◌∙◌, [], ℕ, List, Option, ap, refl, rules, sym}
use Rattle.std.proofs.lemmas.List.{append-nil}
use Rattle.tree_storage.specs.NodeView.{children, seen}
use Rattle.cfb_layout.specs.Directory.{short_streams_of}
use Rattle.cfb_layout.specs.Image.{padded, whole_pieces}
use Rattle.write_parts.specs.Streams.{short_within}
use Rattle.write_files.proofs.StreamsWalk.{shorts-more}
use Rattle.write_parts.proofs.Sent.{sends_both, sends_none, sends_wait}
use Rattle.write_files.proofs.sent_streams.+send_short.Goals as goal

pub send_short-loop-node-init : goal.send_short-loop-node-init
send_short-loop-node-init g t c =
    let all : c.into_iter-node-iterator.result ≡ c.args.storage.now.children.entries = search rules in
    ([], sends_none _ _, ap (λ es. whole_pieces 64 (short_streams_of (children es))) all)

pub send_short-loop-node-preserved : goal.send_short-loop-node-preserved
send_short-loop-node-preserved g t c =
    let i = c.loop-node.invariant in
    let more : List ℕ = whole_pieces 64 (short_within (seen c.in-Some.node.now.1)) in (
      i.0 ++ more,
      sends_both _ _ _ _ _ _ i.0 more i.1 c.in_ok-send_short_child.ensures,
      shorts-more 64 c.loop-node.node-iterator c.next.new.self c.in-Some.field-0-0.now c.in-Some.node.now i.0
          (i.0 ++ more) _ c.in-Some.ensures.steps refl i.2,
    )

pub send_short-loop-node-preserved-in-Some-short_stream : goal.send_short-loop-node-preserved-in-Some-short_stream
send_short-loop-node-preserved-in-Some-short_stream g t c =
    let i = c.loop-node.invariant in
    let more : List ℕ = padded 64 c.in-Some-short_stream.bytes.now in
    let w : Option (List ℕ) = g.W.Write.contents c.loop-node.writer in
    let b : List ℕ = c.loop-node.waiting.items in
    let d : List ℕ = c.push_minis.new.waiting.items in
    let one : whole_pieces 64 (short_within (seen c.in-Some.node.now.1)) ≡ more =
    ap (whole_pieces 64) c.in-Some-short_stream.ensures ∙ append-nil more in (
      i.0 ++ more,
      sends_both (g.W.Write.contents c.args.writer.now) w w c.args.waiting.now.items b d i.0 more i.1
          (sends_wait w b d more c.in_ok-push_minis.ensures),
      shorts-more 64 c.loop-node.node-iterator c.next.new.self c.in-Some.field-0-0.now c.in-Some.node.now i.0
          (i.0 ++ more) _ c.in-Some.ensures.steps (ap (λ zs. i.0 ++ zs) (sym one)) i.2,
    )
