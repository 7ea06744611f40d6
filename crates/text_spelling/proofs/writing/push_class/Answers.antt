use Rattle.std.proofs.Common.{◌++◌, ap, ◌∙◌}
use Rattle.uuid.specs.Parts.{swap_fields}
use Rattle.uuid.specs.Text.{hyphenated_text, lower}
use Rattle.text_spelling.proofs.writing.push_class.Goals as goal

pub returns : goal.returns
returns c = c.in_ok-extend_from_slice.ensures.items ∙ ap (λ t. c.args.text.now.items ++ t) (
    c.as_bytes-2.ensures.value ∙ c.encode_lower-spelled.ensures.text
    ∙ ap (hyphenated_text lower) (c.hyphenated.ensures ∙ c.from_bytes_le-id.ensures
    ∙ ap swap_fields c.as_bytes.ensures))
