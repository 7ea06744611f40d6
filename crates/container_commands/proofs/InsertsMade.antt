-- A new object, in its container.
use Rattle.std.proofs.Common.{◌≡◌, ℕ, List, Option, Some, None, Result, get_or, sym, ◌∙◌, ap, subst}
use Rattle.message_values.specs.Found.{nth}
use Rattle.container_model.specs.declared.fault.ContainerFault.{ContainerFault}
use Rattle.container_model.specs.declared.record.Frame.{Frame}
use Rattle.container_model.specs.Numbered.{IsNth}
use Rattle.container_model.specs.Record.{Record, Took}
use Rattle.container_commands.proofs.VerbsPlaced.{frame_here}

-- what a step says of a frame that isn't there, and of one that is
pub no_such : (s r : Record) (step : Option Frame → Result Took ContainerFault) (f : ℕ) (fs : List Frame) → s ≡ r
    → fs ≡ s.frames → nth fs f ≡ None → step (nth r.frames f) ≡ step None
no_such s r step f fs e same none =
    ap step (ap (λ (ys : List Frame). nth ys f) (sym (same ∙ ap (λ (t : Record). t.frames) e)) ∙ none)

pub such : (s r : Record) (step : Option Frame → Result Took ContainerFault) (f i : ℕ) (fs : List Frame) (y : Frame)
    → s ≡ r → fs ≡ s.frames → IsNth f fs i → y ≡ get_or s.frames i y → step (nth r.frames f) ≡ step (Some y)
such s r step f i fs y e same p at =
    let q : IsNth f r.frames i = subst (λ (ys : List Frame). IsNth f ys i) (same ∙ ap (λ (t : Record). t.frames) e) p in
    ap step (q.found ∙ frame_here s r i y e q.fits at)
