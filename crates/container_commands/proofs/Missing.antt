-- An object, or its frame, that isn't there.
use Rattle.std.proofs.Common.{◌≡◌, ℕ, Bool, List, Result, Option, Some, None, get_or, sym, ◌∙◌, ap, subst}
use Rattle.message_values.specs.Found.{IsPlace, find, nth}
use Rattle.container_model.specs.declared.fault.ContainerFault.{ContainerFault}
use Rattle.container_model.specs.declared.record.Frame.{Frame}
use Rattle.container_model.specs.declared.record.Object.{Object}
use Rattle.container_model.specs.Record.{Record, Took, is_object}
use Rattle.container_commands.proofs.VerbsPlaced.{object_here}

-- what a step says of an object that isn't there
pub no_object : (s r : Record) (step : Option Object → Result Took ContainerFault) (n : ℕ) (os : List Object)
    → s ≡ r → os ≡ s.objects → find (is_object n) os ≡ None
    → step (find (is_object n) r.objects) ≡ step None
no_object s r step n os e same none =
    let objects : os ≡ r.objects = same ∙ ap (λ (t : Record). t.objects) e in
    ap step (ap (λ (xs : List Object). find (is_object n) xs) (sym objects) ∙ none)

-- and of an object whose frame isn't there
pub no_frame : (s r : Record) (step : Option Object → Result Took ContainerFault)
    (within : Object → Option Frame → Result Took ContainerFault) (is_meant : Object → Bool) (i : ℕ)
    (os : List Object) (fs : List Frame) (x : Object)
    → s ≡ r → os ≡ s.objects → fs ≡ s.frames → ((o : Object) → step (Some o) ≡ within o (nth r.frames o.frame))
    → IsPlace is_meant os i → x ≡ get_or s.objects i x → nth fs x.frame ≡ None
    → step (find is_meant r.objects) ≡ within x None
no_frame s r step within is_meant i os fs x e eo ef is p at none =
    let objects : os ≡ r.objects = eo ∙ ap (λ (t : Record). t.objects) e in
    let frames : fs ≡ r.frames = ef ∙ ap (λ (t : Record). t.frames) e in
    let q : IsPlace is_meant r.objects i = subst (λ (xs : List Object). IsPlace is_meant xs i) objects p in
    let here : find is_meant r.objects ≡ Some x = q.found ∙ object_here s r i x e q.fits at in
    ap step here ∙ (is x ∙ ap (within x) (ap (λ (ys : List Frame). nth ys x.frame) (sym frames) ∙ none))
