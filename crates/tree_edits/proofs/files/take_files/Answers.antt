use Rattle.std.proofs.Common.{◌≡◌, ◌++◌, ◌∷◌, [], ◌∙◌, ℕ, List, ap, append_assoc, rules, subst, sym}
use Rattle.std.specs.Vec.Iter.{into_iter_items}
use Rattle.tree_edits.specs.declared.change.Change.{Change}
use Rattle.tree_edits.specs.Given.{AreGiven}
use Rattle.tree_edits.proofs.Given.{given_more, named_at}
use Rattle.tree_edits.proofs.files.take_files.Goals as goal

pub returns-in-Err-clause-refused : goal.returns-in-Err-clause-refused
returns-in-Err-clause-refused g c =
    let taken : into_iter_items c.loop-numbered.numbered-iterator ≡ c.in-Some.numbered
    ∷ into_iter_items c.next.new.self = search (rules, c.in-Some.ensures.steps) in
    named_at c.args.lines.items c.loop-numbered.yielded (into_iter_items c.next.new.self) c.in-Some.numbered.0
    c.in-Some.numbered.1 _
    (ap (λ rest. c.loop-numbered.yielded ++ rest) (sym taken) ∙ c.loop-numbered.invariant.1) c.in-Err.ensures.named

pub loop-numbered-preserved : goal.loop-numbered-preserved
loop-numbered-preserved g c =
    let taken : into_iter_items c.loop-numbered.numbered-iterator ≡ c.in-Some.numbered
    ∷ into_iter_items c.next.new.self = search (rules, c.in-Some.ensures.steps) in (
      subst (λ (cs : List (ℕ × Change)). AreGiven (g.S.Shelf.gives c.args.shelf.now)
          (c.loop-numbered.yielded ++ c.in-Some.numbered ∷ []) cs) (sym c.in-Ok-push.ensures.items)
          (given_more (g.S.Shelf.gives c.args.shelf.now) c.loop-numbered.yielded c.loop-numbered.changes.items
          c.in-Some.numbered.0 c.in-Some.numbered.1 c.in-Ok.change c.loop-numbered.invariant.0
          c.in-Ok.ensures.given),
      append_assoc c.loop-numbered.yielded (c.in-Some.numbered ∷ []) (into_iter_items c.next.new.self)
          ∙ ap (λ rest. c.loop-numbered.yielded ++ rest) (sym taken) ∙ c.loop-numbered.invariant.1,
    )
