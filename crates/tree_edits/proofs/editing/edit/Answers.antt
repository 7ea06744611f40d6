use Rattle.std.proofs.Common.{◌≡◌, ◌++◌, ◌∷◌, [], ◌∙◌, ap, append_assoc, rules, sym}
use Rattle.std.specs.Vec.Iter.{into_iter_items}
use Rattle.tree_storage.specs.Kept.{kept}
use Rattle.tree_edits.specs.Edited.{changed}
use Rattle.tree_edits.proofs.Edited.{did, edited_more, refused_at}
use Rattle.tree_edits.proofs.editing.edit.Goals as goal

pub returns-in-Err-clause-refused : goal.returns-in-Err-clause-refused
returns-in-Err-clause-refused c =
    let taken : into_iter_items c.loop-numbered.numbered-iterator ≡ c.in-Some.numbered
    ∷ into_iter_items c.next.new.self = search (rules, c.in-Some.ensures.steps) in
    refused_at c.args.changes.items c.loop-numbered.yielded (into_iter_items c.next.new.self) c.in-Some.numbered.0
    c.in-Some.numbered.1 (kept c.args.tree) (kept c.loop-numbered.tree) (kept c.carry_out.new.tree)
    c.in-Err.fault c.carry_out.result
    (ap (λ rest. c.loop-numbered.yielded ++ rest) (sym taken) ∙ c.loop-numbered.invariant.1)
    c.loop-numbered.invariant.0 c.in-Err.is c.carry_out.ensures

pub loop-numbered-preserved : goal.loop-numbered-preserved
loop-numbered-preserved c =
    let taken : into_iter_items c.loop-numbered.numbered-iterator ≡ c.in-Some.numbered
    ∷ into_iter_items c.next.new.self = search (rules, c.in-Some.ensures.steps) in (
      edited_more c.loop-numbered.yielded c.in-Some.numbered.0 c.in-Some.numbered.1 (kept c.args.tree)
          (kept c.loop-numbered.tree) (kept c.carry_out.new.tree) c.loop-numbered.invariant.0
          (did c.carry_out.result c.in-Ok.field-0 (changed c.in-Some.numbered.1 (kept c.loop-numbered.tree))
          (kept c.carry_out.new.tree) c.in-Ok.is c.carry_out.ensures),
      append_assoc c.loop-numbered.yielded (c.in-Some.numbered ∷ []) (into_iter_items c.next.new.self)
          ∙ ap (λ rest. c.loop-numbered.yielded ++ rest) (sym taken) ∙ c.loop-numbered.invariant.1,
    )
