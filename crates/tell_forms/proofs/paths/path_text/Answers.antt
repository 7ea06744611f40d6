use Rattle.std.proofs.Common.{◌∙◌}
use Rattle.tell_forms.proofs.Ascii.{contrary, path_utf8}
use Rattle.tell_forms.proofs.paths.path_text.Goals as goal

pub unreachable-requires : goal.unreachable-requires
unreachable-requires c =
    contrary (c.in-Err.ensures.succeeds (path_utf8 c.args.within.now c.in_ok-path.path.items c.args.name.now
    c.as_bytes-2.result.now c.push_name.new.text.items
    c.utf8.within (c.in_ok-path.ensures.items ∙ c.as_bytes.ensures.value) c.as_bytes-2.ensures.valid
    c.as_bytes-2.ensures.spelled c.in_ok-push_name.ensures))
