use Rattle.std.proofs.Common.{List, ℕ, replicate, subst, sym}
use Rattle.std.specs.List.{concat}
use Rattle.cfb_entries.specs.Written.{free_entry_bytes}
use Rattle.cfb_layout.proofs.Tables.{concat_more}
use Rattle.write_parts.specs.Sends.{Sends}
use Rattle.write_parts.proofs.Sent.{sends_both, sends_none}
use Rattle.write_files.proofs.sent_entries.send_unused.Goals as goal

pub loop-init : goal.loop-init
loop-init g c = sends_none _ _

pub loop-preserved : goal.loop-preserved
loop-preserved g c =
    subst (λ (zs : List ℕ). Sends (g.W.Write.contents c.args.writer.now)
    (g.W.Write.contents c.send_free_entry.new.writer) c.args.waiting.now.items
    c.send_free_entry.new.waiting.items zs)
    (sym (concat_more free_entry_bytes c.loop.counter))
    (sends_both _ _ _ _ _ _ (concat (replicate c.loop.counter free_entry_bytes)) free_entry_bytes c.loop.invariant
    c.in_ok-send_free_entry.ensures)
