use Rattle.std.proofs.Common.{◌+◌, ap, sym, ◌∙◌, Err}
use Rattle.std.proofs.lemmas.List.{drop_all}
use Rattle.tree_storage.specs.View.{children}
use Rattle.ole_model.specs.DocOf.{objects_behind}
use Rattle.ole_streams.proofs.Opening.{err_same, not_true, object-begun, objects_behind-left, ok_by, refused, step-on}
use Rattle.ole_streams.proofs.document_of.objects_of.Goals as goal

pub returns-in-Err-clause-value : goal.returns-in-Err-clause-value
returns-in-Err-clause-value c = λ h. refused c.loop-index.doc (c.loop-index.index + 1) c.loop-index.index
    c.args.areas.now (children c.loop-index.entries.entries) c.in-Err.fault _
    (c.in-Err.ensures.value (λ e. h (ap Err (err_same e)))) c.loop-index-test.true ∙ c.loop-index.invariant.value

pub returns-then-not-is_empty-clause-value : goal.returns-then-not-is_empty-clause-value
returns-then-not-is_empty-clause-value c = λ h.
    sym (ap (λ xs. objects_behind c.loop-index.doc (c.loop-index.index + 1) xs
    (children c.loop-index.entries.entries))
    (drop_all c.loop-index.index c.args.areas.now c.loop-index-test.false)
    ∙ objects_behind-left c.loop-index.doc (c.loop-index.index + 1) c.loop-index.entries.entries
    (λ e. not_true (c.if-not-is_empty.ensures.1 e)))
    ∙ c.loop-index.invariant.value

pub loop-index-preserved : goal.loop-index-preserved
loop-index-preserved c = record {
  value = step-on c.loop-index.doc c.push_object.new.doc (c.loop-index.index + 1) c.loop-index.index
      c.args.areas.now (children c.loop-index.entries.entries) _ _
      (c.in-Ok.ensures.value (λ e. absurd (cc))) c.push_object.ensures.rest c.loop-index-test.true
      ∙ c.loop-index.invariant.value;
  begun = λ h. c.loop-index.invariant.begun
      (object-begun c.loop-index.doc (c.loop-index.index + 1) _ (children c.loop-index.entries.entries)
      (ok_by (c.in-Ok.ensures.value (λ e. absurd (cc)))));
}
