use Rattle.tell_forms.specs.Placed.{placed_view}
use Rattle.tell_forms.proofs.Told.{array_told, class_out, done, state_out}
use Rattle.tell_forms.proofs.json_form.write_array.Goals as goal

pub returns-clause-tokens : goal.returns-clause-tokens
returns-clause-tokens c =
    array_told (placed_view c.args.outline.now) c.args.writer.now.tokens c.begin_array.new.self.tokens
    c.write_storage.new.writer.tokens c.write_below.new.writer.tokens c.end_array.new.self.tokens
    c.args.outline.now.class c.args.outline.now.state (class_out c.args.outline.now) (state_out c.args.outline.now)
    (done c.begin_array.result _ _ c.in_ok-begin_array.was c.begin_array.ensures.ok)
    c.in_ok-write_storage.ensures.tokens c.in_ok-write_below.ensures.tokens
    (done c.end_array.result _ _ c.in_ok-end_array.was c.end_array.ensures.ok)
