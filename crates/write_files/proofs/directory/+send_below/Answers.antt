use Rattle.std.proofs.Common.{◌≡◌, ◌+◌, ◌++◌, ℕ, List, Option, arith, refl}
use Rattle.cfb_entries.specs.Written.{entry_bytes}
use Rattle.cfb_file.specs.Need.{entries}
use Rattle.write_parts.specs.declared.leads.Lead.{Lead}
use Rattle.write_parts.specs.Leads.{led_below}
use Rattle.write_parts.specs.Sends.{Sends}
use Rattle.write_parts.proofs.Sent.{sends_both, sends_wait}
use Rattle.write_files.proofs.DirectoryWalk.{Begins, both-long, none-sent, one-long, one-sent, storage-first}
use Rattle.write_files.proofs.DirectoryWalk.{stream-first}
use Rattle.cfb_entries.specs.Tree.{Children, Tree}
use Rattle.write_files.proofs.directory.+send_below.Goals as goal

pub loop-next-init : goal.loop-next-init
loop-next-init g t c =
    none-sent (g.W.Write.contents c.args.writer.now) c.args.waiting.now.items c.args.leads.now c.args.at
    (g.B.Branch.tree c.args.storage) (g.B.Branch.before c.walk-walk.result) c.walk-walk.ensures

pub loop-next-preserved : goal.loop-next-preserved
loop-next-preserved g t c =
    let leads : List Lead = c.args.leads.now in
    let at : ℕ = c.loop-next.next in
    let next : ℕ = c.in_ok-next-in-Storage.next in
    let old : Children = g.B.Branch.before c.loop-next.walk in
    let new : Children = g.B.Branch.before c.next.new.walk in
    let name : List ℕ = c.spell-name.result.now in
    let below : Tree = g.B.Branch.tree c.in-Storage.inner in
    let v : Option (List ℕ) = g.W.Write.contents c.loop-next.writer in
    let u : Option (List ℕ) = g.W.Write.contents c.send_below.new.writer in
    let b : List ℕ = c.loop-next.waiting.items in
    let d : List ℕ = c.send_below.new.waiting.items in
    let one : List ℕ = entry_bytes name c.storage_entry.result in
    let more : List ℕ = led_below leads (at + 1) below in
    let first : Begins leads at old (one ++ more) (1 + entries below) new =
    storage-first g.B.Branch.tree leads at old new _ name _ c.lead_at-lead.result c.in-Some.ensures.some
    c.spell-name.ensures.same c.lead_at-lead.ensures
    c.in-Storage.inner c.storage_entry.result c.in-Storage.is c.storage_entry.ensures in
    let after : next ≡ at + (1 + entries below) = omega (arith, c.in_ok-next-in-Storage.ensures.next) in
    let went : Sends v u b d (one ++ more) =
    sends_both v (g.W.Write.contents c.send_entry-in-Storage.new.writer) u b
    c.send_entry-in-Storage.new.waiting.items d one more c.in_ok-send_entry-in-Storage.ensures.sent
    c.in_ok-next-in-Storage.ensures.sent in
    one-sent (g.W.Write.contents c.args.writer.now) v u c.args.waiting.now.items b d leads c.args.at
    (g.B.Branch.tree c.args.storage) at next old new (one ++ more) (1 + entries below)
    c.loop-next.invariant first after went
    (both-long name c.storage_entry.result more (entries below) c.spell-name.ensures.short
    c.in_ok-send_entry-in-Storage.ensures.class_id c.in_ok-next-in-Storage.ensures.long)

pub loop-next-preserved-then-len-lt-PIECE : goal.loop-next-preserved-then-len-lt-PIECE
loop-next-preserved-then-len-lt-PIECE g t c =
    let leads : List Lead = c.args.leads.now in
    let at : ℕ = c.loop-next.next in
    let old : Children = g.B.Branch.before c.loop-next.walk in
    let new : Children = g.B.Branch.before c.next.new.walk in
    let name : List ℕ = c.spell-name.result.now in
    let v : Option (List ℕ) = g.W.Write.contents c.loop-next.writer in
    let b : List ℕ = c.loop-next.waiting.items in
    let d : List ℕ = c.push_entry.new.waiting.items in
    let one : List ℕ = entry_bytes name c.stream_entry-fields.result in
    let first : Begins leads at old one 1 new =
    stream-first g.B.Branch.tree leads at old new _ name _ c.lead_at-lead.result c.in-Some.ensures.some
    c.spell-name.ensures.same c.lead_at-lead.ensures
    c.in-Stream.size c.stream_entry-fields.result c.in-Stream.is c.stream_entry-fields.ensures in
    one-sent (g.W.Write.contents c.args.writer.now) v v c.args.waiting.now.items b d leads c.args.at
    (g.B.Branch.tree c.args.storage) at (at + 1) old new one 1
    c.loop-next.invariant first refl (sends_wait v b d one c.in_ok-push_entry-in-Stream.ensures)
    (one-long name c.stream_entry-fields.result c.lead_at-lead.result c.in-Stream.size c.spell-name.ensures.short
    c.stream_entry-fields.ensures)

pub loop-next-preserved-in-Stream : goal.loop-next-preserved-in-Stream
loop-next-preserved-in-Stream g t c =
    let leads : List Lead = c.args.leads.now in
    let at : ℕ = c.loop-next.next in
    let old : Children = g.B.Branch.before c.loop-next.walk in
    let new : Children = g.B.Branch.before c.next.new.walk in
    let name : List ℕ = c.spell-name.result.now in
    let v : Option (List ℕ) = g.W.Write.contents c.loop-next.writer in
    let u : Option (List ℕ) = g.W.Write.contents c.send_entry.new.writer in
    let b : List ℕ = c.loop-next.waiting.items in
    let d : List ℕ = c.send_entry.new.waiting.items in
    let one : List ℕ = entry_bytes name c.stream_entry-fields.result in
    let first : Begins leads at old one 1 new =
    stream-first g.B.Branch.tree leads at old new _ name _ c.lead_at-lead.result c.in-Some.ensures.some
    c.spell-name.ensures.same c.lead_at-lead.ensures
    c.in-Stream.size c.stream_entry-fields.result c.in-Stream.is c.stream_entry-fields.ensures in
    one-sent (g.W.Write.contents c.args.writer.now) v u c.args.waiting.now.items b d leads c.args.at
    (g.B.Branch.tree c.args.storage) at (at + 1) old new one 1
    c.loop-next.invariant first refl c.in_ok-send_entry-in-Stream.ensures.sent
    (one-long name c.stream_entry-fields.result c.lead_at-lead.result c.in-Stream.size c.spell-name.ensures.short
    c.stream_entry-fields.ensures)
