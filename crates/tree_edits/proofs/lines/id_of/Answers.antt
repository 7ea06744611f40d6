use Rattle.tree_edits.proofs.Parsed.{none_parsed}
use Rattle.tree_edits.proofs.lines.id_of.Goals as goal

pub returns-in-Err : goal.returns-in-Err
returns-in-Err c = none_parsed _ _ _ c.try_parse_ascii.result _ _ c.in-Err.is c.try_parse_ascii.ensures.ok
