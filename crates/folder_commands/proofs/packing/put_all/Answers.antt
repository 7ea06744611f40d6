use Rattle.std.proofs.Common.{◌≡◌, ◌++◌, ◌∷◌, [], ◌∙◌, ap, append_assoc, rules, sym}
use Rattle.std.specs.Vec.Iter.{into_iter_items}
use Rattle.tree_storage.specs.Kept.{kept}
use Rattle.folder_commands.specs.Packing.{put_content}
use Rattle.folder_commands.proofs.Packed.{done, packed_more, refused_at}
use Rattle.folder_commands.proofs.packing.put_all.Goals as goal

pub returns-in-Err-clause-refused : goal.returns-in-Err-clause-refused
returns-in-Err-clause-refused c =
    let taken : into_iter_items c.loop-item.item-iterator ≡ c.in-Some.item ∷ into_iter_items c.next.new.self =
    search (rules, c.in-Some.ensures.steps) in
    refused_at c.args.found.items c.loop-item.yielded (into_iter_items c.next.new.self) c.in-Some.item
    c.deref.result.now (kept c.args.tree.now) (kept c.loop-item.tree) (kept c.put.new.tree) c.in-Err.fault
    c.put.result
    (ap (λ rest. c.loop-item.yielded ++ rest) (sym taken) ∙ c.loop-item.invariant.1) c.loop-item.invariant.0
    c.deref.ensures.value c.in-Err.is c.put.ensures

pub loop-item-preserved : goal.loop-item-preserved
loop-item-preserved c =
    let taken : into_iter_items c.loop-item.item-iterator ≡ c.in-Some.item ∷ into_iter_items c.next.new.self =
    search (rules, c.in-Some.ensures.steps) in (
      packed_more c.loop-item.yielded c.in-Some.item (kept c.args.tree.now) (kept c.loop-item.tree)
          (kept c.put.new.tree) c.loop-item.invariant.0
          (ap (λ p. put_content p c.in-Some.item.content (kept c.loop-item.tree)) (sym c.deref.ensures.value)
          ∙ done c.put.result c.in-Ok.field-0 (put_content c.deref.result.now c.in-Some.item.content
          (kept c.loop-item.tree)) (kept c.loop-item.tree) (kept c.put.new.tree) c.in-Ok.is c.put.ensures),
      append_assoc c.loop-item.yielded (c.in-Some.item ∷ []) (into_iter_items c.next.new.self)
          ∙ ap (λ rest. c.loop-item.yielded ++ rest) (sym taken) ∙ c.loop-item.invariant.1,
    )
