use Rattle.std.proofs.Common.{rules}
use Rattle.server_model.proofs.StoredSizes.{lines-fit, drawn-picture}
use Rattle.server_core.proofs.server.Seat.picture.Goals as goal

pub presented-requires-clause-lines : goal.presented-requires-clause-lines
presented-requires-clause-lines g c =
    (lines-fit ((goal.Embedded-dyn g (c.args.self.now.boxed.vtable, c.args.self.now.boxed.value)).content
    c.args.self.now.boxed.value) c.as_slice.result.now c.requires
    (search rules)).0

pub presented-requires-clause-fits : goal.presented-requires-clause-fits
presented-requires-clause-fits g c =
    (lines-fit ((goal.Embedded-dyn g (c.args.self.now.boxed.vtable, c.args.self.now.boxed.value)).content
    c.args.self.now.boxed.value) c.as_slice.result.now c.requires
    (cc (c.as_slice.ensures.value, c.in_ok-lines.ensures.drawn))).1

pub returns-clause-drawn : goal.returns-clause-drawn
returns-clause-drawn g c = drawn-picture _ c.as_slice.result.now _ (search rules) (search rules)
