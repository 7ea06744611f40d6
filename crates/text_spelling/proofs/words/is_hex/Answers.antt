use Rattle.std.proofs.Common.{sym, ◌∙◌}
use Rattle.text_spelling.proofs.Hex.{hex_ends, hex_more, hex_stops}
use Rattle.text_spelling.proofs.words.is_hex.Goals as goal

pub loop-rest-preserved : goal.loop-rest-preserved
loop-rest-preserved c = hex_more c.loop-rest.rest.now c.in-Some.field-0 _ c.in-len2-up.len_at_least
    (sym c.in-Some.ensures) c.loop-rest.invariant

pub returns-in-None : goal.returns-in-None
returns-in-None c = hex_stops c.loop-rest.rest.now _ c.in-len2-up.len_at_least c.in-None.ensures c.loop-rest.invariant

pub returns : goal.returns
returns c = c.is_empty.ensures ∙ hex_ends c.loop-rest.rest.now _ c.in_default.len_below c.loop-rest.invariant
