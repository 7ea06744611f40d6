use Rattle.std.proofs.Common.{◌≡◌, ◌+◌, ◌-◌, ◌∷◌, [], ℕ, List, Some, Ok, length, take, drop, sym, ap, subst, ◌∙◌, arith}
use Rattle.std.proofs.lemmas.List.{length-take-le, take_rest}
use Rattle.cfb_names.specs.Names.{IsName}
use Rattle.cfb_names.specs.View.{IsHeld, name_held}
use Rattle.cfb_names.proofs.Keys.{held-units, is_held-units}
use Rattle.text_words.specs.Words.{words}
use Rattle.text_spelling.specs.Paths.{path_read}
use Rattle.text_spelling.proofs.Starts.{first-word, plain-name, plain-path}
use Rattle.text_spelling.proofs.path.plain_start.Goals as goal

pub from_units-name-requires : goal.from_units-name-requires
from_units-name-requires c =
    let name : List ℕ = take c.plain_len-len.result c.args.text.now in
    let long : length name ≡ c.plain_len-len.result = length-take-le c.plain_len-len.result c.args.text.now
    c.plain_len-len.ensures.within in
    let is : IsName name = plain-name name c.plain_len-len.ensures.plain (omega (arith, long, c.if-len-eq0.false))
    (omega (arith, long, c.if-len-gt-LONGEST.false)) in
    subst IsHeld (sym c.units_of.ensures) (is_held-units name is)

pub returns-clause-cut : goal.returns-clause-cut
returns-clause-cut c =
    let name : List ℕ = take c.plain_len-len.result c.args.text.now in
    let same : c.from_units-name.result ≡ name = c.from_units-name.ensures ∙ ap name_held c.units_of.ensures
    ∙ held-units name in
    first-word c.args.text.now c.plain_len-len.result (omega (arith, c.if-len-text.false)) c.if-text-len-ne32.false
    c.plain_len-len.ensures.plain
    ∙ ap (λ xs. name ∷ words xs) (sym (take_rest c.args.text.now (c.plain_len-len.result + 1)))
    ∙ ap (λ x. x ∷ words (take (length c.args.text.now - (c.plain_len-len.result + 1))
    (drop (c.plain_len-len.result + 1) c.args.text.now))) (sym same)

pub returns-clause-read : goal.returns-clause-read
returns-clause-read c =
    let name : List ℕ = take c.plain_len-len.result c.args.text.now in
    let long : length name ≡ c.plain_len-len.result = length-take-le c.plain_len-len.result c.args.text.now
    c.plain_len-len.ensures.within in
    let is : IsName name = plain-name name c.plain_len-len.ensures.plain (omega (arith, long, c.if-len-eq0.false))
    (omega (arith, long, c.if-len-gt-LONGEST.false)) in
    let same : c.from_units-name.result ≡ name = c.from_units-name.ensures ∙ ap name_held c.units_of.ensures
    ∙ held-units name in
    subst (λ x. path_read x ≡ Some (Ok (x ∷ []))) (sym same) (plain-path name c.plain_len-len.ensures.plain is)
