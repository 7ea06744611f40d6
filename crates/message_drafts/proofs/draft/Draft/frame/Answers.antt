use Rattle.std.proofs.Common.{refl, sym, ap, ◌∙◌, Some, List, ℕ}
use Rattle.message_values.specs.declared.operation.Operation.TheVariants as op
use Rattle.message_drafts.specs.declared.draft.Opening.{Opening}
use Rattle.message_drafts.specs.Drafts.{call_of, frame_of}
use Rattle.message_drafts.proofs.Finished.{finished_other, finished_picture}
use Rattle.message_drafts.proofs.draft.Draft.frame.Goals as goal

pub returns-in_default-clause-made : goal.returns-in_default-clause-made
returns-in_default-clause-made c = finished_other c.args.self.now.plan.phase c.args.self.now refl
    c.in_default.not-Picture c.requires.planned c.requires.whole

pub returns-in-Edit-clause-made : goal.returns-in-Edit-clause-made
returns-in-Edit-clause-made c =
    ap Some (c.call.ensures ∙ ap (λ (b : List ℕ). call_of c.in-Edit.session c.in-Edit.inc c.in-Edit.act c.in-Edit.n
    (op.Edit b)) c.in_ok-picture.ensures.given
    ∙ ap (λ (o : Opening). frame_of o c.args.self.now.streams.items c.args.self.now.picture) (sym c.in-Edit.is))
    ∙ finished_picture c.args.self.now c.requires.planned c.requires.whole c.in-Picture.is

pub returns-clause-made : goal.returns-clause-made
returns-clause-made c =
    ap Some (c.content_frame.ensures
    ∙ (λ i. frame_of c.args.self.now.opening ((c.in-Some.ensures.0 ∙ c.in_ok-items.ensures.given) i)
    (c.in_ok-picture.ensures.given i)))
    ∙ finished_picture c.args.self.now c.requires.planned c.requires.whole c.in-Picture.is
