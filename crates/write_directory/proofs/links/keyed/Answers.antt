use Rattle.std.proofs.Common.{◌≡◌, ◌+◌, ℕ, List, [], ◌∷◌, ◌++◌, length, take, get_or, ◌∙◌, ap, sym, arith}
use Rattle.std.proofs.lemmas.List.{get_or_default, take_more, length-take-le}
use Rattle.write_directory.specs.Building.{keyed_names}
use Rattle.cfb_names.specs.Names.{key}
use Rattle.write_directory.proofs.Built.{keyed_from-push}
use Rattle.write_directory.proofs.links.keyed.Goals as goal

pub loop-k-preserved : goal.loop-k-preserved
loop-k-preserved c =
    let names : List (List ℕ) = c.args.names.now in
    let k : ℕ = c.loop-k.k in
    let name : List ℕ = get_or names k [] in
    let at : 0 + length (take k names) ≡ k = omega (arith, length-take-le k names (omega arith)) in
    let one : c.key.result ≡ key name = c.key.ensures
    ∙ ap key (c.index-names-k.is ∙ get_or_default names k c.index-names-k.result [] (omega arith)) in
    c.in_ok-push.ensures.items
    ∙ (λ t. c.loop-k.invariant t ++ (one t, sym at t) ∷ [])
    ∙ sym (keyed_from-push 0 (take k names) name)
    ∙ ap keyed_names (sym (take_more names k [] (omega arith)))
