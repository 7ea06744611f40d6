-- A steady record's objects have numbers that were drawn, so the next ones are past them.
use Rattle.std.proofs.Common.{◌≡◌, ◌+◌, ◌≤◌, ◌++◌, ℕ, List, [], ◌∷◌, ap, subst, sym, ◌∙◌}
use Rattle.std.specs.List.{AllByRecursion, range_with_len}
use Rattle.container_model.specs.Record.{Record}
use Rattle.container_model.specs.declared.record.Object.{Object}
use Rattle.container_queues.specs.Steady.{Steady, SteadyObject}
use Rattle.container_checks.proofs.Numbers.{AreRising, numbers, rising_next}

drawn : (r : Record) (os : List Object) → AllByRecursion (SteadyObject r) os
    → AllByRecursion (λ k. k ≤ r.last_object) (numbers os)
drawn r [] h = tt
drawn r (o ∷ os) h = (h.0.drawn, drawn r os h.1)

all_drawn : (s r : Record) → s ≡ r → Steady r → AllByRecursion (λ k. k ≤ s.last_object) (numbers s.objects)
all_drawn s r e h = subst (λ (t : Record). AllByRecursion (λ k. k ≤ t.last_object) (numbers t.objects)) (sym e)
    (drawn r r.objects h.objects)

-- the number of an object that is made
pub number_past : (s r : Record) → s ≡ r → Steady r → AreRising (numbers s.objects) → (number n : ℕ) → number ≡ n
    → n ≡ r.last_object + 1 → AreRising (numbers s.objects ++ number ∷ [])
number_past s r e h up number n is next =
    let same : n ≡ s.last_object + 1 = next ∙ ap (λ (t : Record). t.last_object + 1) (sym e) in
    subst (λ k. AreRising (numbers s.objects ++ k ∷ [])) (sym (is ∙ same))
    (rising_next s.last_object (numbers s.objects) 1 up (all_drawn s r e h))

-- the numbers of those that are opened
pub numbers_past : (s r : Record) → s ≡ r → Steady r → AreRising (numbers s.objects) → (ns : List ℕ) (count : ℕ)
    → ns ≡ range_with_len (s.last_object + 1) count → AreRising (numbers s.objects ++ ns)
numbers_past s r e h up ns count is = subst (λ ms. AreRising (numbers s.objects ++ ms)) (sym is)
    (rising_next s.last_object (numbers s.objects) count up (all_drawn s r e h))
