use Rattle.std.proofs.Common.{◌≡◌, length}
use Rattle.std.proofs.lemmas.Result.{on_ok_weaker}
use Rattle.read_source.proofs.Filling.{some_map}
use Rattle.write_cleaned.specs.Windows.{IsWindow}
use Rattle.write_cleaned.proofs.Held.{part_added}
use Rattle.write_cleaned.proofs.stream_moving.push_part.Goals as goal

pub returns-clause-added : goal.returns-clause-added
returns-clause-added g c =
    let tables = c.args.tables.now in
    on_ok_weaker c.push_held.result
    (λ put. some_map (g.S.Source.bytes c.args.source.now) (λ a. length a ≡ tables.len
    → IsWindow a tables c.args.window.now → IsWindow a tables c.hold.new.window) _
    (λ a h len is.
    part_added a tables c.hold.new.window c.args.start c.args.len c.args.zeros c.args.waiting.now.items
    c.push_held.new.waiting.items (h len is)
    c.in_ok-hold.ensures.there.0 c.in_ok-hold.ensures.there.1 put) c.in_ok-hold.ensures.window)
    c.push_held.ensures
