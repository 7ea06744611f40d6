use Rattle.std.proofs.Common.{◌≡◌, ◌++◌, ◌∙◌, List, ap}
use Rattle.std.specs.Prelude.{codes}
use Rattle.json.specs.Token.{Token}
use Rattle.uuid.specs.Parts.{swap_fields}
use Rattle.uuid.specs.Text.{hyphenated_text, lower}
use Rattle.tell_forms.specs.Json.{text_member}
use Rattle.tell_forms.proofs.Told.{ok_map}
use Rattle.tell_forms.proofs.json_form.write_class.Goals as goal

pub returns-clause-tokens : goal.returns-clause-tokens
returns-clause-tokens c =
    let after : List Token = c.write_text.new.writer.tokens in
    let before : List Token = c.args.writer.now.tokens in
    ok_map c.write_text.result (after ≡ before ++ text_member (codes "class") c.encode_lower-spelled.result.now)
    (after ≡ before ++ text_member (codes "class") (hyphenated_text lower (swap_fields c.args.class.now)))
    (λ h. h ∙ ap (λ t. before ++ text_member (codes "class") t) (c.encode_lower-spelled.ensures.text
    ∙ ap (hyphenated_text lower) (c.hyphenated.ensures ∙ c.from_bytes_le-id.ensures
    ∙ ap swap_fields c.as_bytes.ensures)))
    c.write_text.ensures.tokens
