use Rattle.std.proofs.Common.{◌≡◌, ◌∙◌, [], None, Some, sym}
use Rattle.message_bytes.proofs.Heads.{without}
use Rattle.message_bytes.proofs.unfinished.body_of.Goals as goal

pub unreachable-requires-in-Bad : goal.unreachable-requires-in-Bad
unreachable-requires-in-Bad c =
    let e : None ≡ Some c.in-Bad.field-0 = sym c.requires.partial ∙ without c.args.bytes.now ∙ c.in-Bad.ensures.1 [] in
    cc
