use Rattle.std.proofs.Common.{◌++◌, ◌∙◌, ap}
use Rattle.std.specs.Prelude.{[], ◌∷◌, codes}
use Rattle.tell_forms.specs.Long.{note_text, right_text}
use Rattle.tell_forms.specs.Streams.{stream_meaning}
use Rattle.tell_forms.proofs.Told.{six}
use Rattle.tell_forms.proofs.long_form.push_stream.Goals as goal

pub returns : goal.returns
returns c =
    six c.args.text.now.items c.extend_from_slice.new.self.items c.push_right.new.text.items
    c.extend_from_slice-2.new.self.items c.extend_from_slice-3.new.self.items c.push_note.new.text.items
    c.push.new.self.items
    (codes "stream ") (right_text c.args.size) (codes "  ") c.args.path.now
    (note_text (stream_meaning c.args.name.now)) (10 ∷ [])
    (c.in_ok-extend_from_slice.ensures.items ∙ ap (λ w. c.args.text.now.items ++ w) c.as_slice.ensures)
    c.in_ok-push_right.ensures
    (c.in_ok-extend_from_slice-2.ensures.items ∙ ap (λ w. c.push_right.new.text.items ++ w) c.as_slice-2.ensures)
    c.in_ok-extend_from_slice-3.ensures.items (c.in_ok-push_note.ensures
    ∙ ap (λ n. c.extend_from_slice-3.new.self.items ++ note_text n) c.stream_meaning.ensures)
    c.in_ok-push.ensures.items
