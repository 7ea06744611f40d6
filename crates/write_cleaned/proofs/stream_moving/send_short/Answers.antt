use Rattle.std.proofs.Common.{◌≡◌, List, ℕ, length}
use Rattle.std.proofs.lemmas.Result.{on_ok_weaker}
use Rattle.cfb_layout.specs.Image.{padded}
use Rattle.write_parts.proofs.Sent.{sends_into}
use Rattle.read_source.proofs.Filling.{some_map}
use Rattle.write_cleaned.specs.Windows.{IsAdded, IsWindow}
use Rattle.read_streams.specs.Tables.{read_by}
use Rattle.write_cleaned.proofs.stream_moving.send_short.Goals as goal

pub returns-then-are_in_a_row-clause-sent : goal.returns-then-are_in_a_row-clause-sent
returns-then-are_in_a_row-clause-sent g c =
    let tables = c.args.tables.now in
    let room : List ℕ = c.room.new.waiting.items in
    let new : List ℕ = c.push_row.new.waiting.items in
    on_ok_weaker c.push_row.result
    (λ added. some_map (g.S.Source.bytes c.args.source.now)
    (λ a. length a ≡ tables.len → IsWindow a tables c.args.window.now
    → IsAdded a tables c.push_row.new.window (padded 64 (read_by a tables c.args.place)) room new) _
    (λ a h len is.
    let it : IsAdded a tables c.push_row.new.window (padded 64 (read_by a tables c.args.place)) room new = h len is in (
      sends_into (g.W.Write.contents c.args.writer.now) (g.W.Write.contents c.room.new.writer)
          c.args.waiting.now.items room new (padded 64 (read_by a tables c.args.place)) c.in_ok-room.ensures
          it.added,
      it.is_window,
    )) added)
    c.push_row.ensures.added

pub returns-clause-sent : goal.returns-clause-sent
returns-clause-sent g c =
    let tables = c.args.tables.now in
    let room : List ℕ = c.room.new.waiting.items in
    let new : List ℕ = c.push_minis.new.waiting.items in
    on_ok_weaker c.push_minis.result
    (λ added. some_map (g.S.Source.bytes c.args.source.now)
    (λ a. length a ≡ tables.len → IsWindow a tables c.args.window.now
    → IsAdded a tables c.push_minis.new.window (padded 64 (read_by a tables c.args.place)) room new) _
    (λ a h len is.
    let it : IsAdded a tables c.push_minis.new.window (padded 64 (read_by a tables c.args.place)) room new =
    h len is in (
      sends_into (g.W.Write.contents c.args.writer.now) (g.W.Write.contents c.room.new.writer)
          c.args.waiting.now.items room new (padded 64 (read_by a tables c.args.place)) c.in_ok-room.ensures
          it.added,
      it.is_window,
    )) added)
    c.push_minis.ensures.added
