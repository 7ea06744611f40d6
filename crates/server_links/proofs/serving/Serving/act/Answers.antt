use Rattle.std.proofs.Common.{◌∷◌, [], ap, refl, ◌∙◌}
use Rattle.server_links.specs.Turns.{edited_by}
use Rattle.server_links.proofs.Served.{acted, both, one_at, passed_over, put_in, put_one, refused_with}
use Rattle.server_links.proofs.serving.Serving.act.Goals as goal

pub returns-in-Ok-clause-met : goal.returns-in-Ok-clause-met
returns-in-Ok-clause-met g c = λ t h. both c.reply.result c.reply.ensures.out c.reply.ensures.edited (λ o e.
    acted _ c.args.self.now c.reply.new.self t c.args.message _ _ _ c.in-Ok.reaction.reply c.in-Ok.reaction.counted
    c.edited_by-edit.result h
    (one_at _ c.args.self.now t c.index_mut.result.now h c.index_mut.ensures.value) c.in-Ok.ensures.acted
    (c.edited_by-edit.ensures ∙ ap (λ s. edited_by s c.args.message)
    (one_at _ c.args.self.now t c.index.result.now h c.index.ensures))
    (put_in _ c.reply.new.self c.args.self.now _ c.reply.ensures.servers c.requires) o e)

pub returns-clause-met : goal.returns-clause-met
returns-clause-met g c = λ t h.
    passed_over _ c.args.self.now _ t c.args.message _ _ c.in-Err.refusal.fault h
    (one_at _ c.args.self.now t c.index_mut.result.now h c.index_mut.ensures.value)
    (refused_with _ c.in-Err.refusal.fault c.in_default.not-NoMemory c.in-Err.ensures.refused)
    (put_one _ c.args.self.now.servers.items _ c.requires ∙ ap (λ s. s ∷ []) c.in-Err.ensures.kept) refl refl
