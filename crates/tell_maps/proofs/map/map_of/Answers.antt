use Rattle.std.proofs.Common.{◌≡◌, ◌∙◌, ◌<◌, ◌^◌, ℕ, List, length, sym, subst}
use Rattle.read_outlines.specs.View.{outline_view}
use Rattle.tell_maps.specs.Maps.{cells, sizes}
use Rattle.tell_maps.proofs.Sums.{told}
use Rattle.tell_maps.proofs.map.map_of.Goals as goal

pub returns : goal.returns
returns c = record {
  mapped = λ a h t d is_told.
      let seen : List ℕ = c.deref.result.now in
      let same : seen ≡ c.in_ok-cells.cells.items = c.deref.ensures.value in
      told (cells a d.layout d.used.sectors) seen c.in_ok-text.text.items (sizes (outline_view c.args.outline.now))
      c.total.result
      c.in_ok-text.ensures (same ∙ c.in_ok-cells.ensures.painted a h t d is_told) c.total.ensures
      (subst (λ (xs : List ℕ). length xs < 2 ^ 55) (sym same) c.in_ok-cells.ensures.few);
}
