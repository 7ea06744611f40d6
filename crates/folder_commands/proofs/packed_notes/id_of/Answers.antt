use Rattle.folder_commands.proofs.Parsed.{none_parsed}
use Rattle.folder_commands.proofs.packed_notes.id_of.Goals as goal

pub returns-in-Err : goal.returns-in-Err
returns-in-Err c = none_parsed _ _ _ c.try_parse_ascii.result _ _ c.in-Err.is c.try_parse_ascii.ensures.ok
