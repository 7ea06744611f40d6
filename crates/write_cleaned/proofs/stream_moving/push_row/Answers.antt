use Rattle.std.proofs.Common.{◌≡◌, ◌*◌, ℕ, length, refl}
use Rattle.std.proofs.lemmas.Result.{on_ok_weaker}
use Rattle.read_source.proofs.Filling.{some_map}
use Rattle.write_cleaned.specs.Windows.{IsPartAdded, IsWindow}
use Rattle.write_cleaned.proofs.Minis.{row_added}
use Rattle.write_cleaned.proofs.stream_moving.push_row.Goals as goal

pub returns-clause-added : goal.returns-clause-added
returns-clause-added g c =
    let tables = c.args.tables.now in
    let old = c.args.waiting.now.items in
    let new = c.push_part.new.waiting.items in
    let start : ℕ = 64 * c.args.place.first in
    on_ok_weaker c.push_part.result
    (λ added. some_map (g.S.Source.bytes c.args.source.now)
    (λ a. length a ≡ tables.len → IsWindow a tables c.args.window.now
    → IsPartAdded a tables c.push_part.new.window start c.args.place.size c.mini_zeros.result old new) _
    (λ a h len is.
    row_added a tables c.args.place c.push_part.new.window old new start c.mini_zeros.result refl
    c.mini_zeros.ensures.zeros c.requires.short c.requires.in_a_row (h len is)) added)
    c.push_part.ensures.added
