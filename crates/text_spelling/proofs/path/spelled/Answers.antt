use Rattle.std.proofs.Common.{◌≡◌, ◌++◌, ◌∷◌, [], Some, Ok, Err, ap, sym, ◌∙◌, rules}
use Rattle.cfb_names.specs.Names.{name_read as taken_name}
use Rattle.std.specs.Option.{option_map}
use Rattle.text_spelling.specs.Paths.{name_read, named, names_read}
use Rattle.text_spelling.proofs.Named.{behind, named-fault, named-more}
use Rattle.text_spelling.proofs.path.spelled.Goals as goal

pub returns-in-Err : goal.returns-in-Err
returns-in-Err c =
    let is : name_read c.in-Some.part.now ≡ Some c.in-Some.part.now = c.is_plain.ensures c.if-is_plain.true in
    let not : taken_name c.in-Some.part.now ≡ Err c.in-Err.fault = search rules in
    c.refused.ensures
    ∙ named-fault c.loop-part.names.items c.in-Some.part.now c.in-Err.fault (name_read c.in-Some.part.now)
    (names_read c.next_piece.new.self) is not
    ∙ ap (λ parts. option_map (λ names. behind c.loop-part.names.items (named names)) (names_read parts))
    (sym c.in-Some.ensures)
    ∙ c.loop-part.invariant

pub returns-in-Err-2 : goal.returns-in-Err-2
returns-in-Err-2 c =
    let is : name_read c.in-Some.part.now ≡ Some c.deref.result.now = search rules in
    let not : taken_name c.deref.result.now ≡ Err c.in-Err-2.fault = search rules in
    c.refused-in-Err-2.ensures
    ∙ named-fault c.loop-part.names.items c.deref.result.now c.in-Err-2.fault (name_read c.in-Some.part.now)
    (names_read c.next_piece.new.self) is not
    ∙ ap (λ parts. option_map (λ names. behind c.loop-part.names.items (named names)) (names_read parts))
    (sym c.in-Some.ensures)
    ∙ c.loop-part.invariant

pub loop-part-preserved-then-is_plain : goal.loop-part-preserved-then-is_plain
loop-part-preserved-then-is_plain c =
    let is : name_read c.in-Some.part.now ≡ Some c.in-Some.part.now = c.is_plain.ensures c.if-is_plain.true in
    let taken : taken_name c.in-Some.part.now ≡ Ok c.in-Some.part.now = search rules in
    let pushed : c.add_name.new.names.items ≡ c.loop-part.names.items ++ c.in-Some.part.now ∷ [] = search rules in
    ap (λ ns. option_map (λ more. behind ns (named more)) (names_read c.next_piece.new.self)) pushed
    ∙ named-more c.loop-part.names.items c.in-Some.part.now (name_read c.in-Some.part.now)
    (names_read c.next_piece.new.self) is taken
    ∙ ap (λ parts. option_map (λ names. behind c.loop-part.names.items (named names)) (names_read parts))
    (sym c.in-Some.ensures)
    ∙ c.loop-part.invariant
