use Rattle.std.proofs.Common.{◌++◌, [], ◌∷◌, ap, ◌∙◌}
use Rattle.std.specs.Prelude.{codes}
use Rattle.std.specs.Fmt.{decimal}
use Rattle.world_model.specs.Report.{content_text, object_line, state_text, type_text}
use Rattle.world_run.proofs.Lines.{continued, object_pieces}
use Rattle.world_run.proofs.report_lines.push_object.Goals as goal

pub returns : goal.returns
unfolding object_line
returns c =
    let o = c.args.object.now in
    let parted = c.push.new.self.items in
    continued (c.args.text.now.items ++ codes "object " ++ decimal o.number ++ codes " frame " ++ decimal o.frame
    ++ 32 ∷ type_text o.class ++ 32 ∷ [])
    c.push_object_type.new.text.items c.push_state.new.text.items parted c.push_content.new.text.items
    c.push-2.new.self.items
    (state_text o.link) (32 ∷ []) (content_text o.work.streams) (10 ∷ [])
    c.in_ok-push_object_type.ensures c.in_ok-push_state.ensures c.in_ok-push.ensures.items
    (c.in_ok-push_content.ensures ∙ ap (λ ss. parted ++ content_text ss) c.as_slice.ensures.streams)
    c.in_ok-push-2.ensures.items
    ∙ object_pieces c.args.text.now.items (decimal o.number) (decimal o.frame) (type_text o.class)
    (state_text o.link) (content_text o.work.streams)
