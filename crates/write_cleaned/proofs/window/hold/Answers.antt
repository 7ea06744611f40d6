use Rattle.std.proofs.Common.{◌≡◌, ◌-◌, ◌/◌, ◌∙◌, ℕ, List, ap, arith, drop, length, take}
use Rattle.std.proofs.lemmas.List.{length-drop, take_all}
use Rattle.std.proofs.lemmas.Result.{on_ok_weaker}
use Rattle.cfb_header.specs.Bytes.{joined, sector}
use Rattle.read_source.proofs.Filling.{some_map}
use Rattle.write_cleaned.proofs.Held.{filled_window}
use Rattle.write_cleaned.proofs.window.hold.Goals as goal

pub returns-clause-window : goal.returns-clause-window
returns-clause-window g c =
    let ns : List ℕ = c.args.tables.now.mini_stream.items in
    let all : List ℕ = c.deref.result.now in
    let sectors : List ℕ = c.in-Some.sectors.now in
    let first : ℕ = c.args.start / 512 in
    let found = c.in-Some.ensures.lookup.0 in
    let are : sectors ≡ drop first ns =
    found.2 ∙ take_all (length all - first) (drop first all) (omega (arith, length-drop first all))
    ∙ ap (drop first) c.deref.ensures.value in
    on_ok_weaker c.refill.result
    (λ filled. some_map (g.S.Source.bytes c.args.source.now) (λ a. length a ≡ c.args.tables.now.len
    → c.refill.new.bytes.items ≡ take c.min-many.result (joined (sector a) sectors)) _
    (λ a h len is.
    filled_window a ns sectors c.refill.new.bytes.items first c.min-many.result
    (omega (arith, found.0, ap length c.deref.ensures.value)) are
    (omega (arith, c.min-many.ensures, c.saturating_mul.ensures)) (h len)) filled)
    c.refill.ensures.filled
