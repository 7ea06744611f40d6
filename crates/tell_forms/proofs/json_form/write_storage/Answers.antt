use Rattle.std.specs.Prelude.{[], ◌∷◌, codes}
use Rattle.json.specs.Token.{begin_object, end_object}
use Rattle.text_words.specs.Spelled.{class_text}
use Rattle.tell_forms.specs.Json.{number_member, text_member}
use Rattle.tell_forms.proofs.Told.{done, six}
use Rattle.tell_forms.proofs.json_form.write_storage.Goals as goal

pub returns-clause-tokens : goal.returns-clause-tokens
returns-clause-tokens c =
    six c.args.writer.now.tokens c.begin_object.new.self.tokens c.write_text.new.writer.tokens
    c.write_text-2.new.writer.tokens c.write_class.new.writer.tokens c.write_number.new.writer.tokens
    c.end_object.new.self.tokens (begin_object ∷ []) (text_member (codes "type") c.args.kind.now)
    (text_member (codes "path") c.args.path.now)
    (text_member (codes "class") (class_text c.args.class.now)) (number_member (codes "state") c.args.state)
    (end_object ∷ [])
    (done c.begin_object.result _ _ c.in_ok-begin_object.was c.begin_object.ensures.ok)
    c.in_ok-write_text.ensures.tokens c.in_ok-write_text-2.ensures.tokens c.in_ok-write_class.ensures.tokens
    c.in_ok-write_number.ensures.tokens
    (done c.end_object.result _ _ c.in_ok-end_object.was c.end_object.ensures.ok)
