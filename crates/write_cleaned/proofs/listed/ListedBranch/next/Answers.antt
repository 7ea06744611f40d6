use Rattle.std.proofs.Common.{[]}
use Rattle.write_parts.specs.Blank.{blank_part}
use Rattle.read_outlines.specs.View.{part_view}
use Rattle.write_cleaned.proofs.Blank.{blanks-first}
use Rattle.write_cleaned.proofs.listed.ListedBranch.next.Goals as goal

pub returns-in-len1-up-clause-some : goal.returns-in-len1-up-clause-some
returns-in-len1-up-clause-some c = record {
  key = [];
  seen = blank_part (part_view c.first-item.result.1);
  first = blanks-first c.args.walk.now.now c.first-item.result c.in-len1-up.len_at_least c.first-item.is;
  is = c.what_of.ensures;
}
