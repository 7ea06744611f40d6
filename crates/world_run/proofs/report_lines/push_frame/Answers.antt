use Rattle.std.proofs.Common.{◌++◌, [], ◌∷◌, ap, ◌∙◌}
use Rattle.std.specs.Prelude.{codes}
use Rattle.std.specs.Fmt.{decimal}
use Rattle.world_model.specs.Report.{file_word, frame_line, grant_text}
use Rattle.text_words.specs.Spelled.{name_text}
use Rattle.world_run.proofs.Lines.{continued, frame_pieces}
use Rattle.world_run.proofs.report_lines.push_frame.Goals as goal

pub returns : goal.returns
unfolding frame_line
returns c =
    let f = c.args.frame.now in
    let number = decimal c.args.number in
    let named = c.push_frame_name.new.text.items in
    let granted = c.push_grant.new.text.items in
    let saved = c.push_numbered.new.text.items in
    continued (c.args.text.now.items ++ codes "frame " ++ number ++ 32 ∷ name_text f.name ++ 32 ∷ []) named granted
    saved c.push_word.new.text.items c.push.new.self.items
    (grant_text f.ui.state) (codes " k " ++ decimal f.k) (32 ∷ file_word f) (10 ∷ [])
    (c.in_ok-push_frame_name.ensures ∙ ap (λ n. c.args.text.now.items ++ codes "frame " ++ number ++ 32
    ∷ name_text n ++ 32 ∷ []) c.as_slice.ensures)
    (c.in_ok-push_grant.ensures ∙ ap (λ s. named ++ grant_text s) c.state.ensures.state)
    c.in_ok-push_numbered.ensures
    (c.in_ok-push_word.ensures ∙ ap (λ w. saved ++ 32 ∷ w) (c.as_bytes.ensures.value ∙ c.file_word.ensures))
    c.in_ok-push.ensures.items
    ∙ frame_pieces c.args.text.now.items number (name_text f.name) (grant_text f.ui.state) (decimal f.k) (file_word f)
