use Rattle.std.proofs.Common.{flat_map, sym, ap, ◌∙◌, map-id, [], rules}
use Rattle.std.proofs.Output.{has_written_append, has_written_of_eq}
use Rattle.std.proofs.lemmas.Iterator.{YieldsList-from_chars}
use Rattle.std.proofs.lemmas.Iterator.Consumers.{YieldsList-end}
use Rattle.std.proofs.lemmas.List.{flat_map_more}
use Rattle.text_words.specs.Told.{told_character}
use Rattle.text_words.proofs.told.write_told.Goals as goal

pub loop-character-preserved : goal.loop-character-preserved
loop-character-preserved g c = λ plain.
    has_written_of_eq _ _ _ _ _ (flat_map_more told_character [] c.loop-character.yielded c.in-Some.character)
    (has_written_append _ _ _ _ _ _ (c.loop-character.invariant plain) (search rules))

pub returns : goal.returns
returns g c = λ plain _.
    let end = YieldsList-end (YieldsList-from_chars c.args.text.now c.utf8.text cc) c.loop-character.yielded _
    c.loop-character.yielded_by _ _ c.in-None.is c.next.ensures.steps in
    has_written_of_eq _ _ _ _ _ (ap (flat_map told_character) (sym (map-id c.loop-character.yielded) ∙ end.0))
    (c.loop-character.invariant plain)
