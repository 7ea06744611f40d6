use Rattle.std.proofs.Common.{ap, sym, subst, ◌∙◌, ◌+◌, length, length-append, arith}
use Rattle.tree_storage.specs.Change.{inner, Seen}
use Rattle.tree_storage.specs.View.{children, seen}
use Rattle.tree_storage.specs.declared.nodes.Node.TheVariants.{Storage}
use Rattle.cfb_entries.specs.Whole.{IsWhole}
use Rattle.tree_storage.proofs.Entries.{seen-storage}
use Rattle.ole_model.specs.DocTree.{placed, object_name, with_objects}
use Rattle.ole_streams.proofs.Writing.{AreHeld-front, AreHeld-last, with_objects-last}
use Rattle.ole_streams.proofs.document_tree.with_objects.Goals as goal

pub object_storage-requires : goal.object_storage-requires
object_storage-requires c = AreHeld-last c.pop.new.self.items c.in-Some.object
    (rw c.in-Some.ensures.items at c.loop-object.invariant.within)

pub loop-object-preserved : goal.loop-object-preserved
loop-object-preserved c =
    let cs = children c.loop-object.entries.entries in
    let seen_so = seen-storage c.in_ok-storage.storage ∙ ap inner c.in_ok-storage.ensures.value in
    let W : Seen → Type 0 = λ s. IsWhole 32 s in
    record {
      value = ap (with_objects 1 c.pop.new.self.items)
          (c.in_ok-place.ensures.value
          ∙ ap (λ n. placed n (seen (Storage c.in_ok-storage.storage)) cs)
          (c.object-name.ensures ∙ ap (λ n. object_name (n + 1)) (c.len.ensures ∙ c.pop.new.self.ok.0))
          ∙ ap (λ s. placed (object_name (length c.pop.new.self.items + 1)) s cs) seen_so)
          ∙ sym (with_objects-last 1 c.pop.new.self.items c.in-Some.object cs)
          ∙ ap (λ os. with_objects 1 os cs) (sym c.in-Some.ensures.items)
          ∙ c.loop-object.invariant.value;
      whole = c.in_ok-place.ensures.whole 32
          (subst W (sym (seen-storage c.in_ok-storage.storage)) (c.in_ok-storage.ensures.whole 31))
          c.loop-object.invariant.whole;
      few = omega (arith, simp length-append at (ap length c.in-Some.ensures.items));
      within = AreHeld-front c.pop.new.self.items _ (rw c.in-Some.ensures.items at c.loop-object.invariant.within);
    }
