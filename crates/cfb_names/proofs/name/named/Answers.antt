use Rattle.std.proofs.Common.{rules}
use Rattle.cfb_names.proofs.name.named.Goals as goal

pub returns-then-is_past_ascii : goal.returns-then-is_past_ascii
returns-then-is_past_ascii c = search rules

pub returns-then-has_forbidden : goal.returns-then-has_forbidden
returns-then-has_forbidden c = search rules

pub spelled-requires : goal.spelled-requires
spelled-requires c = search rules
