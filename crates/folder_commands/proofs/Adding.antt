-- Entries that are made one after another.
use Rattle.std.proofs.Common.{◌≡◌, ◌<◌, ◌+◌, ◌++◌, ◌∷◌, [], ◌∙◌, ℕ, List, Option, Some, None, ap, subst, sym}
use Rattle.std.proofs.Common.{append_assoc, get_or, length, take}
use Rattle.std.proofs.lemmas.List.{append-nil, take_more}
use Rattle.folder_commands.specs.Plan.{Entry}
use Rattle.folder_commands.specs.Made.{Adds}

pub adds_none : (made : Option (List Entry)) → Adds made made []
adds_none None = tt
adds_none (Some es) = sym (append-nil es)

pub adds_more : (old mid new : Option (List Entry)) (a b : List Entry) → Adds old mid a → Adds mid new b
    → Adds old new (a ++ b)
adds_more None mid new a b p q = tt
adds_more (Some es) None new a b p q = absurd p
adds_more (Some es) (Some fs) None a b p q = absurd q
adds_more (Some es) (Some fs) (Some gs) a b p q = q ∙ ap (λ x. x ++ b) p ∙ append_assoc es a b

-- one entry more
pub adds_next : (old mid new : Option (List Entry)) (es : List Entry) (k : ℕ) (e : Entry) → k < length es
    → get_or es k e ≡ e
    → Adds old mid (take k es) → Adds mid new (e ∷ []) → Adds old new (take (k + 1) es)
adds_next old mid new es k e less here p q =
    subst (Adds old new) (sym (take_more es k e less ∙ ap (λ x. take k es ++ x ∷ []) here))
    (adds_more old mid new (take k es) (e ∷ []) p q)

-- nothing was added where all stayed as it was
pub adds_kept : (old mid new : Option (List Entry)) (es : List Entry) → new ≡ mid → Adds old mid es → Adds old new es
adds_kept old mid new es same p = subst (λ x. Adds old x es) (sym same) p
