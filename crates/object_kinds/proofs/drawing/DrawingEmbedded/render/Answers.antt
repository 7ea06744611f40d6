use Rattle.std.proofs.Common.{ap, ◌∙◌}
use Rattle.object_core.specs.Content.{drawing}
use Rattle.object_core.specs.Pictures.{picture_bytes}
use Rattle.object_kinds.specs.Drawn.{shapes_told}
use Rattle.object_kinds.proofs.drawing.DrawingEmbedded.render.Goals as goal

pub returns-clause-drawn : goal.returns-clause-drawn
returns-clause-drawn c =
    c.in_ok-picture.ensures ∙ ap (λ figures. picture_bytes (drawing (shapes_told figures))) c.deref.ensures.value
    ∙ ap (λ shapes. picture_bytes (drawing shapes)) c.self.view_is
