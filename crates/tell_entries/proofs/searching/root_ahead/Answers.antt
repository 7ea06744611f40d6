use Rattle.std.proofs.Common.{◌≡◌, ◌++◌, ◌∷◌, ◌∙◌, [], List, ap, arith, inl, refl, subst, sym, ℕ}
use Rattle.std.proofs.lemmas.List.Elements.{All-cons, All-nil}
use Rattle.std.specs.List.{All}
use Rattle.cfb_entries.specs.Entries.{Reaches, child, entry_at, here}
use Rattle.cfb_faults.specs.Faults.{IsStorage}
use Rattle.tell_entries.specs.Searches.{IsAhead}
use Rattle.tell_entries.specs.declared.searching.Ahead.{Ahead}
use Rattle.tell_entries.proofs.searching.root_ahead.Goals as goal

pub returns-clause-links : goal.returns-clause-links
returns-clause-links c =
    let dir : List ℕ = c.args.directory.now in
    let link : Ahead = record { to = c.number_of.result; parent = 0 } in
    let one : c.push.new.self.items ≡ link ∷ [] = c.in_ok-push.ensures.items
    ∙ ap (λ (xs : List Ahead). xs ++ link ∷ []) c.new-ahead.ensures.items in
    let storage : IsStorage dir 0 = inl (refl, sym c.kind_of.ensures ∙ c.if-kind_of-ne-ROOT.false) in
    let reached : Reaches dir (child (entry_at dir 0)) c.number_of.result =
    subst (Reaches dir (child (entry_at dir 0))) (sym c.number_of.ensures) (here (child (entry_at dir 0))) in
    let a : IsAhead dir (0 ∷ []) link = record { met = omega arith; storage = storage; reached = reached } in
    subst (All (IsAhead dir (0 ∷ []))) (sym one)
    (All-cons (IsAhead dir (0 ∷ [])) link [] a (All-nil (IsAhead dir (0 ∷ []))))
