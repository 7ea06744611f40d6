use Rattle.write_cleaned.proofs.Sources.{known_map}
use Rattle.folder_commands.proofs.Read.{short_read}
use Rattle.folder_commands.proofs.seeking.read_short.Goals as goal

pub returns-clause-read : goal.returns-clause-read
returns-clause-read g c =
    known_map (g.S.Source.bytes c.args.source.now) _ _ (λ a known h len window.
    let s = h len window in (
      short_read a c.args.tables.now c.args.place c.new-bytes.result.items c.new-waiting.result.items
          c.send_short.new.writer.items c.send_short.new.waiting.items
          c.deref.result.now c.finish.new.writer.items c.truncate.new.self.items c.new-bytes.ensures.items
          c.new-waiting.ensures.items c.requires.short s.0
          c.deref.ensures.value c.in-Ok.ensures c.truncate.ensures.items,
      s.1,
    )) c.in_ok-send_short.ensures.sent
