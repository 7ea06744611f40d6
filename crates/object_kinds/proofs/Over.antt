-- Shapes one behind the other: painted, each over those before it, and spelled.
use Rattle.std.proofs.Common.{◌≡◌, ◌+◌, ◌<◌, ℕ, List, [], ◌∷◌, ◌++◌, length, map, take, get_or, refl, ap, sym, ◌∙◌}
use Rattle.std.specs.List.{flat_map}
use Rattle.std.proofs.lemmas.List.{flat_map_more, map-append, take_more}
use Rattle.object_core.specs.Content.{Shape, shape_line}
use Rattle.object_core.specs.Pictures.{glyph_over, painted}
use Rattle.object_kinds.specs.Drawn.{shape_told, shapes_told}
use Rattle.object_kinds.specs.declared.shapes.Figure.{Figure}

-- a last shape is painted over the others
pub glyph_over-push : (ss : List Shape) (s : Shape) (column row below : ℕ)
    → glyph_over (ss ++ s ∷ []) column row below ≡ painted s column row (glyph_over ss column row below)
glyph_over-push [] s column row below = refl
glyph_over-push (t ∷ ss) s column row below = glyph_over-push ss s column row (painted t column row below)

-- one shape more
pub glyph_over-more : (figures : List Figure) (i : ℕ) (f : Figure) (column row below : ℕ) → i < length figures
    → glyph_over (shapes_told (take (i + 1) figures)) column row below
    ≡ painted (shape_told (get_or figures i f)) column row (glyph_over (shapes_told (take i figures)) column row below)
glyph_over-more figures i f column row below within =
    ap (λ taken. glyph_over (map shape_told taken) column row below) (take_more figures i f within)
    ∙ ap (λ ss. glyph_over ss column row below) (map-append shape_told (take i figures) (get_or figures i f ∷ []))
    ∙ glyph_over-push (map shape_told (take i figures)) (shape_told (get_or figures i f)) column row below

-- the line of one shape more
pub spelled-more : (figures : List Figure) (i : ℕ) (f : Figure) (before after : List ℕ) → i < length figures
    → after ≡ before ++ shape_line (shape_told (get_or figures i f))
    → before ≡ flat_map shape_line (shapes_told (take i figures))
    → after ≡ flat_map shape_line (shapes_told (take (i + 1) figures))
spelled-more figures i f before after within written so =
    let figure = get_or figures i f in
    written ∙ ap (λ bytes. bytes ++ shape_line (shape_told figure)) so
    ∙ flat_map_more shape_line [] (shapes_told (take i figures)) (shape_told figure)
    ∙ ap (flat_map shape_line)
    (sym (ap (map shape_told) (take_more figures i f within) ∙ map-append shape_told (take i figures)
    (figure ∷ [])))
