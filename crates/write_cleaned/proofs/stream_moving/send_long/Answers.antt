use Rattle.std.proofs.Common.{◌≡◌, ◌∙◌, ℕ, List, ap, arith, length, replicate, subst, take}
use Rattle.std.proofs.lemmas.Result.{on_ok_weaker}
use Rattle.cfb_chains.specs.Fat.{followed}
use Rattle.cfb_header.specs.Bytes.{joined, sector}
use Rattle.write_parts.specs.Sends.{Sends}
use Rattle.write_parts.proofs.Sent.{sends_both}
use Rattle.read_source.proofs.Filling.{some_map}
use Rattle.write_cleaned.proofs.Ends.{long_padded}
use Rattle.write_cleaned.proofs.stream_moving.send_long.Goals as goal

pub returns-clause-sent : goal.returns-clause-sent
returns-clause-sent g c =
    let tables = c.args.tables.now in
    let place = c.args.place in
    let ns : List ℕ = c.deref-2.result.now in
    let before = g.W.Write.contents c.args.writer.now in
    let mid = g.W.Write.contents c.send_sectors.new.writer in
    let after = g.W.Write.contents c.pad.new.writer in
    let old : List ℕ = c.args.waiting.now.items in
    let now : List ℕ = c.send_sectors.new.waiting.items in
    let new : List ℕ = c.pad.new.waiting.items in
    on_ok_weaker c.pad.result
    (λ more. some_map (g.S.Source.bytes c.args.source.now) (λ a. length a ≡ tables.len
    → Sends before mid old now (take place.size (joined (sector a) ns))) _
    (λ a h len.
    subst (Sends before after old new)
    (long_padded a tables place ns c.sector_zeros.result c.requires.long
    (c.deref-2.ensures.value ∙ c.in-Ok.ensures
    ∙ (λ i. followed ((c.lent-links.ensures ∙ c.deref.ensures.value) i) (c.count_sectors.ensures i)
    place.first))
    (omega (
      arith,
      c.if-saturating_mul-size.false,
      c.saturating_mul.ensures,
      c.len.ensures,
      ap length c.deref-2.ensures.value,
    )) c.sector_zeros.ensures.zeros)
    (sends_both before mid after old now new (take place.size (joined (sector a) ns))
    (replicate c.sector_zeros.result 0) (h len) more)) c.in_ok-send_sectors.ensures.sent)
    c.pad.ensures
