use Rattle.std.proofs.Common.{◌≡◌, ◌++◌, List, ℕ}
use Rattle.tree_storage.specs.NodeView.{children}
use Rattle.cfb_layout.specs.Directory.{long_streams_of}
use Rattle.cfb_layout.specs.Image.{whole_pieces}
use Rattle.write_parts.specs.Sends.{Sends}
use Rattle.write_files.proofs.sent_streams.+send_long.Given as goal

abbrev pub invariant-send_long-loop-node : goal.invariant-send_long-loop-node
invariant-send_long-loop-node g l = (sent : List ℕ)
    × Sends (g.W.Write.contents l.initial.writer) (g.W.Write.contents l.writer) l.initial.waiting.items
    l.waiting.items sent
    × (sent ++ whole_pieces 512 (long_streams_of (children l.node-iterator))
    ≡ whole_pieces 512 (long_streams_of (children l.storage.children.entries)))
