use Rattle.std.proofs.Common.{◌≡◌, Some, ap, sym, ◌∙◌}
use Rattle.uuid.specs.Parts.{swap_fields}
use Rattle.uuid.specs.Text.{hyphenated_text, lower, parsed}
use Rattle.tell_forms.proofs.laws.class_text_is_read_back.Goals as goal

pub returns : goal.returns
returns c =
    let id : c.hyphenated.result ≡ swap_fields c.args.class.now = c.hyphenated.ensures ∙ c.from_bytes_le-id.ensures
    ∙ ap swap_fields c.as_bytes.ensures in
    ap parsed (ap (hyphenated_text lower) (sym id) ∙ sym c.encode_lower.ensures.text)
    ∙ sym c.encode_lower.ensures.parsed ∙ ap Some id
