use Rattle.std.specs.Prelude.{None, codes}
use Rattle.tell_checks.specs.Json.{link_members, null_member}
use Rattle.tell_checks.proofs.Told.{ok_map, six}
use Rattle.tell_checks.proofs.json_form.write_unknown.Goals as goal

pub returns-clause-tokens : goal.returns-clause-tokens
returns-clause-tokens c =
    ok_map c.write_null-5.result _ _
    (λ last. six c.args.writer.now.tokens c.write_null.new.writer.tokens c.write_link.new.writer.tokens
    c.write_null-2.new.writer.tokens c.write_null-3.new.writer.tokens
    c.write_null-4.new.writer.tokens c.write_null-5.new.writer.tokens (null_member (codes "part"))
    (link_members None) (null_member (codes "entry")) (null_member (codes "path")) (null_member (codes "byte"))
    (null_member (codes "other")) c.in_ok-write_null.ensures.tokens c.in_ok-write_link.ensures.tokens
    c.in_ok-write_null-2.ensures.tokens c.in_ok-write_null-3.ensures.tokens
    c.in_ok-write_null-4.ensures.tokens last) c.write_null-5.ensures.tokens
