-- The lines of a picture.
use Rattle.std.proofs.Common.{◌≡◌, ◌+◌, ◌*◌, ◌<◌, ℕ, List, [], ◌∷◌, ◌++◌, length, map, replicate, get_or, ap, sym, ◌∙◌}
use Rattle.std.proofs.Common.{arith, append-nil}
use Rattle.std.specs.List.{flat_map, range_with_len}
use Rattle.std.proofs.lemmas.Grind.{flat_map-append}
use Rattle.std.proofs.lemmas.List.{get_or-replicate}
use Rattle.std.proofs.lemmas.List.FromFn.{fill_by_all, map-range_with_len_more}
use Rattle.object_core.specs.Content.{Shape}
use Rattle.object_core.specs.Pictures.{drawn_line, ended_line, glyph, glyph_over}
use Rattle.object_kinds.specs.Canvases.{Painted, cell_at}

-- a line of a canvas on which shapes were painted
pub line_drawn : (ss : List Shape) (blank cells line : List ℕ) (row : ℕ) → row < 12 → blank ≡ replicate 480 32
    → Painted (glyph_over ss) blank cells
    → length line ≡ 40 → ((column : ℕ) → column < 40 → get_or line column 0 ≡ cell_at cells column row)
    → line ≡ drawn_line ss row
line_drawn ss blank cells line row low is painted wide each =
    fill_by_all (λ column. glyph ss column row) line 40 0 wide
    (λ column narrow.
    each column narrow ∙ painted column row narrow low
    ∙ ap (glyph_over ss column row) (ap (λ xs. cell_at xs column row) is
    ∙ get_or-replicate 480 (40 * row + column) 32 0 (omega arith)))

-- one line more
pub lines_more : (ss : List Shape) (row : ℕ) (picture line : List ℕ)
    → picture ≡ flat_map ended_line (map (drawn_line ss) (range_with_len 0 row)) → line ≡ drawn_line ss row
    → picture ++ ended_line line ≡ flat_map ended_line (map (drawn_line ss) (range_with_len 0 (row + 1)))
lines_more ss row picture line was is =
    ap (λ front. front ++ ended_line line) was
    ∙ ap (λ l. flat_map ended_line (map (drawn_line ss) (range_with_len 0 row)) ++ l)
    (ap ended_line is ∙ sym (append-nil (ended_line (drawn_line ss row))))
    ∙ sym (flat_map-append ended_line (map (drawn_line ss) (range_with_len 0 row)) (drawn_line ss row ∷ []))
    ∙ ap (flat_map ended_line) (sym (map-range_with_len_more (drawn_line ss) 0 row row (omega arith)))
