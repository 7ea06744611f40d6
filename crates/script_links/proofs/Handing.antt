-- Of which servers a container is given messages.
use Rattle.std.proofs.Common.{◌≡◌, ◌<◌, ℕ, zero, suc, Bool, List, [], ◌∷◌, length, sym, ap, ◌∙◌, arith, slice_index_or}
use Rattle.script_links.specs.Links.{HoldFor}
use Rattle.script_links.specs.declared.links.Link.{Link}

-- whether the link at a place is held is told by its server
hold_at : (f : ℕ → Bool) (ls : List Link) (place : ℕ) (d : Link) → place < length ls → HoldFor f ls
    → f (slice_index_or ls place d).inc ≡ (slice_index_or ls place d).held
hold_at f [] place d within hold = absurd (omega (arith, within))
hold_at f (x ∷ xs) zero d within hold = sym hold.0
hold_at f (x ∷ xs) (suc place) d within hold = hold_at f xs place d (omega (arith, within)) hold.1

pub told_at : (f : ℕ → Bool) (ls : List Link) (place : ℕ) (l : Link) → place < length ls
    → l ≡ slice_index_or ls place l → HoldFor f ls → f l.inc ≡ l.held
told_at f ls place l within is hold = ap (λ (x : Link). f x.inc) is ∙ hold_at f ls place l within hold
    ∙ ap (λ (x : Link). x.held) (sym is)
