use Rattle.std.proofs.Common.{◌≡◌, ◌++◌, ◌∷◌, ◌∙◌, [], ℕ, List, Vec, Global, ap, subst, sym}
use Rattle.std.proofs.lemmas.List.Elements.{All-push}
use Rattle.tell_entries.specs.Ways.{IsWay}
use Rattle.tell_entries.proofs.Steps.{way_more}
use Rattle.tell_entries.proofs.ways.push_way.Goals as goal

pub returns-then-is_new : goal.returns-then-is_new
returns-then-is_new c =
    let dir : List ℕ = c.args.directory.now in
    let way : List ℕ = c.args.way.now in
    let q = c.is_new.ensures c.if-is_new.true in
    let pushed : c.push.new.self.items ≡ way ++ c.args.child ∷ [] = c.in_ok-push.ensures.items
    ∙ ap (λ (xs : List ℕ). xs ++ c.args.child ∷ []) c.in_ok-next.ensures.items in
    let next : IsWay dir c.push.new.self.items = subst (IsWay dir) (sym pushed)
    (way_more dir way c.args.child c.requires.way c.requires.child q.0 q.1) in
    rw c.in_ok-push-2.ensures.items (All-push (λ (w : Vec ℕ Global). IsWay dir w.items) c.args.ways.now.items
    c.push.new.self c.requires.ways next)
