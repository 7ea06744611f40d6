use Rattle.std.proofs.Common.{◌≡◌, ◌++◌, [], ℕ, List, ap, refl, rules}
use Rattle.tree_storage.specs.NodeView.{children, seen}
use Rattle.cfb_layout.specs.Directory.{long_streams_of}
use Rattle.cfb_layout.specs.Image.{whole_pieces}
use Rattle.write_parts.specs.Streams.{long_within}
use Rattle.write_files.proofs.StreamsWalk.{longs-more}
use Rattle.write_parts.proofs.Sent.{sends_both, sends_none}
use Rattle.write_files.proofs.sent_streams.+send_long.Goals as goal

pub send_long-loop-node-init : goal.send_long-loop-node-init
send_long-loop-node-init g t c =
    let all : c.into_iter-node-iterator.result ≡ c.args.storage.now.children.entries = search rules in
    ([], sends_none _ _, ap (λ es. whole_pieces 512 (long_streams_of (children es))) all)

pub send_long-loop-node-preserved : goal.send_long-loop-node-preserved
send_long-loop-node-preserved g t c =
    let i = c.loop-node.invariant in
    let more : List ℕ = whole_pieces 512 (long_within (seen c.in-Some.node.now.1)) in (
      i.0 ++ more,
      sends_both _ _ _ _ _ _ i.0 more i.1 c.in_ok-send_long_child.ensures,
      longs-more 512 c.loop-node.node-iterator c.next.new.self c.in-Some.field-0-0.now c.in-Some.node.now i.0
          (i.0 ++ more) _ c.in-Some.ensures.steps refl i.2,
    )
