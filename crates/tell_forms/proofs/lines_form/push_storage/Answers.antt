use Rattle.std.proofs.Common.{◌++◌, ◌∙◌, ap}
use Rattle.tell_forms.proofs.Pushed.{storage_pushed}
use Rattle.tell_forms.proofs.lines_form.push_storage.Goals as goal

pub returns : goal.returns
returns c =
    storage_pushed c.args.text.now.items c.extend_from_slice.new.self.items c.extend_from_slice-2.new.self.items
    c.push.new.self.items c.push_class.new.text.items c.push-2.new.self.items
    c.args.path.now c.args.class.now (c.in_ok-extend_from_slice.ensures.items
    ∙ ap (λ w. c.args.text.now.items ++ w) c.as_slice.ensures) c.in_ok-extend_from_slice-2.ensures.items
    c.in_ok-push.ensures.items c.in_ok-push_class.ensures c.in_ok-push-2.ensures.items
