use Rattle.std.proofs.Common.{◌∙◌, ap, sym}
use Rattle.store_images.specs.Undone.{undone}
use Rattle.store_images.proofs.Undoing.{undone_last}
use Rattle.store_images.proofs.in_place.put_back.Goals as goal

pub loop-last-preserved : goal.loop-last-preserved
loop-last-preserved c =
    ap (undone c.pop.new.self.items) c.put.ensures
    ∙ sym (undone_last c.pop.new.self.items c.in-Some.last c.loop-last.file)
    ∙ ap (λ ws. undone ws c.loop-last.file) (sym c.in-Some.ensures.items)
    ∙ c.loop-last.invariant
