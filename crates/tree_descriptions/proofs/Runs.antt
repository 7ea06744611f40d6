-- Streams that are put behind all others.
use Rattle.std.proofs.Common.{◌≡◌, ◌≤◌, ◌<◌, ◌+◌, ℕ, List, [], ◌∷◌, Ok, get_or, length, arith, refl, sym, ap, ◌∙◌}
use Rattle.tree_storage.specs.Kept.{Kept, added}
use Rattle.tree_rising.specs.Rising.{rising}
use Rattle.tree_descriptions.specs.Building.{room}
use Rattle.tree_descriptions.specs.Description.{stream_made}
use Rattle.tree_descriptions.specs.Run.{IsRun}
use Rattle.tree_descriptions.specs.declared.run.Run.{Run}
use Rattle.tree_descriptions.proofs.Built.{made-grows}

pub one : (path : List (List ℕ)) (name : List ℕ) → name ≡ get_or path 0 name → 1 ≤ length path → length path < 2
    → path ≡ name ∷ []
one [] name is least below = absurd (omega (arith, least))
one (x ∷ []) name is least below = ap (λ n. n ∷ []) (sym is)
one (x ∷ y ∷ path) name is least below = absurd (omega (arith, below))

pub put-behind : (r r' : Run) (k : Kept) (name new : List ℕ) → IsRun r k → added (name ∷ []) new (rising r.tree)
    ≡ Ok (rising r'.tree)
    → r'.spent ≤ r.spent + length new → r'.spent ≤ room → (next : Kept) × (stream_made new k (name ∷ []) ≡ Ok next)
    × IsRun r' next
put-behind r r' k name new run h spent within =
    let told : added (name ∷ []) new k ≡ Ok (rising r'.tree) = ap (added (name ∷ []) new) (sym run.same) ∙ h in
    let more = made-grows k (rising r'.tree) (name ∷ []) new (omega arith) told in
    (rising r'.tree, more.0, record { same = refl; spent = omega (arith, run.spent, spent, more.1); within = within })
