use Rattle.std.proofs.Common.{◌++◌, ◌∙◌, ap}
use Rattle.std.specs.Prelude.{[], ◌∷◌, codes}
use Rattle.text_words.specs.Spelled.{class_text}
use Rattle.tell_forms.specs.Classes.{class_name}
use Rattle.tell_forms.specs.Long.{note_text}
use Rattle.tell_forms.proofs.Rows.{five}
use Rattle.tell_forms.proofs.long_form.push_storage.Goals as goal

pub returns : goal.returns
returns c =
    five c.args.text.now.items c.extend_from_slice.new.self.items c.extend_from_slice-2.new.self.items
    c.extend_from_slice-3.new.self.items c.push_class_note.new.text.items c.push.new.self.items
    c.args.kind.now (codes "            ") c.args.path.now (note_text (class_name (class_text c.args.class.now)))
    (10 ∷ [])
    c.in_ok-extend_from_slice.ensures.items (c.in_ok-extend_from_slice-2.ensures.items
    ∙ ap (λ w. c.extend_from_slice.new.self.items ++ w) c.as_slice.ensures)
    c.in_ok-extend_from_slice-3.ensures.items c.in_ok-push_class_note.ensures c.in_ok-push.ensures.items
