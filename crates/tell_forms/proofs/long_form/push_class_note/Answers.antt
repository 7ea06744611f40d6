use Rattle.std.proofs.Common.{◌≡◌, ◌++◌, ◌∙◌, ℕ, List, ap}
use Rattle.text_words.specs.Spelled.{class_text}
use Rattle.uuid.specs.Parts.{swap_fields}
use Rattle.uuid.specs.Text.{hyphenated_text, lower}
use Rattle.tell_forms.specs.Classes.{class_name}
use Rattle.tell_forms.specs.Long.{note_text}
use Rattle.tell_forms.proofs.Told.{ok_map}
use Rattle.tell_forms.proofs.long_form.push_class_note.Goals as goal

pub returns : goal.returns
returns c =
    let after : List ℕ = c.push_note.new.text.items in
    let before : List ℕ = c.args.text.now.items in
    ok_map c.push_note.result (after ≡ before ++ note_text c.class_name.result.now)
    (after ≡ before ++ note_text (class_name (class_text c.args.class.now)))
    (λ h. h ∙ ap (λ t. before ++ note_text t)
    (c.class_name.ensures ∙ ap class_name (c.as_bytes-2.ensures.value ∙ c.encode_lower-spelled.ensures.text
    ∙ ap (hyphenated_text lower) (c.hyphenated.ensures ∙ c.from_bytes_le-id.ensures
    ∙ ap swap_fields c.as_bytes.ensures))))
    c.push_note.ensures
