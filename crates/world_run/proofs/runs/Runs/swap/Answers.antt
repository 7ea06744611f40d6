use Rattle.std.proofs.Common.{ap, refl}
use Rattle.world_model.specs.World.{World}
use Rattle.world_run.specs.Names.{document_of}
use Rattle.world_run.specs.Told.{seen_past, told}
use Rattle.world_run.proofs.Swapping.{swaps}
use Rattle.world_run.proofs.runs.Runs.swap.Goals as goal

pub returns : goal.returns
returns g c = swaps (seen_past (λ s. (goal.Embedded-dyn g (s.boxed.vtable, s.boxed.value)).content s.boxed.value))
    c.args.self.now.past.items c.args.i c.index_mut.result.now c.exchange.new.past
    (told (λ s. (goal.Embedded-dyn g (s.boxed.vtable, s.boxed.value)).content s.boxed.value) c.args.self.now) _
    refl c.requires c.index_mut.ensures.value c.exchange.ensures.state c.exchange.ensures.past refl
    (ap (λ (w : World). document_of w.rec c.args.self.now.has_document c.args.self.now.document)
    c.exchange.ensures.state) refl
