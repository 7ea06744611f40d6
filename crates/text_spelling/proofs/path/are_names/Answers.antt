use Rattle.text_spelling.proofs.Named.{more-names, no-name}
use Rattle.text_spelling.proofs.path.are_names.Goals as goal

pub loop-part-preserved : goal.loop-part-preserved
loop-part-preserved c = more-names c.in-Some.part.now c.loop-part.parts c.next_piece.new.self _ c.in-Some.ensures
    c.if-not-is_name.ensures c.loop-part.invariant

pub returns-then-not-is_name : goal.returns-then-not-is_name
returns-then-not-is_name c = no-name c.in-Some.part.now c.loop-part.parts c.next_piece.new.self _ c.in-Some.ensures
    c.if-not-is_name.ensures c.loop-part.invariant
