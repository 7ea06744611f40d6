use Rattle.std.proofs.Common.{◌≡◌, ◌++◌, ◌∙◌, ap, drop, length, replicate, ℕ, List}
use Rattle.std.proofs.lemmas.List.{drop-replicate}
use Rattle.read_packed.specs.Named.{NamedValue, characters_of}
use Rattle.read_packed.proofs.named.Named.parts.Goals as goal

pub returns : goal.returns
returns c =
    let name : List ℕ = c.as_bytes-name.result.now in
    let characters : c.copy_from_slice.new.self ++ drop (length name) (replicate 32 0)
    ≡ characters_of c.self.inside.name =
    (λ t. c.copy_from_slice.ensures.after t ++ drop-replicate (length name) 32 0 t)
    ∙ ap characters_of c.as_bytes-name.ensures.spelled in
    (λ t. (characters t, c.self.inside.head, c.self.inside.place))
    ∙ ap (λ (n : NamedValue). (characters_of n.name, n.head, n.place)) c.self.view_is
