use Rattle.std.proofs.Common.{◌∷◌, [], ap, refl, ◌∙◌}
use Rattle.message_bytes.proofs.Leaving.{on_ok}
use Rattle.server_links.proofs.Served.{one_at, put_one, refused_with, wrote, wrote_nothing}
use Rattle.server_links.proofs.serving.Serving.scribble.Goals as goal

pub returns-in-Ok-clause-written : goal.returns-in-Ok-clause-written
returns-in-Ok-clause-written g c = λ t h. on_ok c.push_frame.result (λ _ o.
    wrote _ c.args.self.now _ t c.args.act _ _ c.in-Ok.message h
    (one_at _ c.args.self.now t c.index_mut.result.now h c.index_mut.ensures.value)
    c.in-Ok.ensures.told (put_one _ c.args.self.now.servers.items _ c.requires) o refl) c.push_frame.ensures

pub returns-in_default-clause-written : goal.returns-in_default-clause-written
returns-in_default-clause-written g c = λ t h.
    wrote_nothing _ c.args.self.now _ t c.args.act _ c.in-Err.fault h
    (one_at _ c.args.self.now t c.index_mut.result.now h c.index_mut.ensures.value)
    (refused_with _ c.in-Err.fault c.in_default.not-NoMemory c.in-Err.ensures.refused)
    (put_one _ c.args.self.now.servers.items _ c.requires ∙ ap (λ s. s ∷ []) c.in-Err.ensures.kept) refl refl
