use Rattle.std.proofs.Common.{replicate}
use Rattle.std.specs.List.{concat}
use Rattle.cfb_entries.specs.Written.{free_entry_bytes}
use Rattle.write_parts.specs.Sends.{Sends}
use Rattle.write_files.proofs.sent_entries.send_unused.Given as goal

abbrev pub invariant-loop : goal.invariant-loop
invariant-loop g l =
    Sends (g.W.Write.contents l.initial.writer) (g.W.Write.contents l.writer) l.initial.waiting.items
    l.waiting.items (concat (replicate l.counter free_entry_bytes))
