use Rattle.std.proofs.Common.{◌≡◌, ◌+◌, ◌-◌, ◌++◌, List, [], ℕ, Some, None, suc, ap, drop, get_or, length, refl, sym}
use Rattle.std.proofs.Common.{◌∙◌, subst, rules, arith}
use Rattle.std.specs.Result.{IsErrAnd}
use Rattle.cfb_chains.proofs.Results.{refused_with}
use Rattle.cfb_entries.specs.Entries.{entry_at, kind, kind_number}
use Rattle.cfb_entries.specs.Tree.{Tree}
use Rattle.read_files.specs.Marks.{IsNext}
use Rattle.read_files.specs.Reads.{IsNodeRead, IsStorageRead, MayRefuseStorage, MayWant, directory_fault, directory_in}
use Rattle.read_outlines.specs.Keeping.{IsPartKeptOf, Wanted, wanted}
use Rattle.read_outlines.specs.View.{contents}
use Rattle.read_outlines.specs.declared.outline.Part.{Part}
use Rattle.read_outlines.specs.declared.outline.Place.{Place}
use Rattle.read_files.specs.declared.read.Reader.{Reader}
use Rattle.read_files.proofs.ReadingChildren.{IsFirstRead}
use Rattle.cfb_faults.proofs.EntryKinds.{storage_kind}
use Rattle.read_outlines.proofs.EntriesKept.{nested_kept, stream_kept}
use Rattle.read_files.proofs.ReadingMemory.{by_place, when_sorted}
use Rattle.read_files.proofs.ReadingRefused.{entry_below, never_ok, same_memory, stream_below}
use Rattle.read_files.proofs.ReadingSteps.{AreOpen, AreOutlined, entry_not_refused, inner_read, next_at, next_below}
use Rattle.read_files.proofs.ReadingSteps.{next_root, next_there, opened, outlined_all, outlined_none, outlined_pushed}
use Rattle.read_files.proofs.ReadingSteps.{positive, stream_read}
use Rattle.read_files.proofs.read.Reader.+storages.Goals as goal

-- a stream that is lent
pub push_child-returns-in-Some-clause-there : goal.push_child-returns-in-Some-clause-there
push_child-returns-in-Some-clause-there t c = c.push_stream.ensures.there c.args.depth

pub push_child-returns-in-Some-clause-refused : goal.push_child-returns-in-Some-clause-refused
push_child-returns-in-Some-clause-refused t c = λ b pending at. c.push_stream.ensures.refused b c.args.depth pending at

pub push_child-returns-in_err-entry-clause-there : goal.push_child-returns-in_err-entry-clause-there
push_child-returns-in_err-entry-clause-there t c = λ k name s new h.
    absurd (entry_not_refused c.args.depth c.args.id k name s c.args.self.now new c.in_err-entry.field-0.0
    c.requires.below_root h c.in_err-entry.ensures.refused)

pub push_child-returns-in_err-entry-clause-refused : goal.push_child-returns-in_err-entry-clause-refused
push_child-returns-in_err-entry-clause-refused t c = λ b pending at.
    refused_with c.from_residual.result (directory_fault c.in_err-entry.field-0.0) (MayRefuseStorage b)
    c.from_residual.ensures.1
    (entry_below b c.args.depth c.args.id pending c.args.self.now at c.in_err-entry.field-0.0 c.requires.below_root
    c.in_err-entry.ensures.refused)

pub push_child-returns-in_err-part-clause-refused : goal.push_child-returns-in_err-part-clause-refused
push_child-returns-in_err-part-clause-refused t c = λ b pending at.
    let again : IsErrAnd c.from_residual-in_err-part.result (λ x. x ≡ c.in_err-part.field-0.0) = search rules in
    refused_with c.from_residual-in_err-part.result c.in_err-part.field-0.0 (MayRefuseStorage b) again
    (c.in_err-part.ensures.refused b pending at)

pub part_outline-returns-in_err-mark_stream-in-Stream-clause-refused :
    goal.part_outline-returns-in_err-mark_stream-in-Stream-clause-refused
part_outline-returns-in_err-mark_stream-in-Stream-clause-refused t c = λ b pending at.
    let again : IsErrAnd c.from_residual.result (λ x. x ≡ c.in_err-mark_stream-in-Stream.field-0.0) = search rules in
    refused_with c.from_residual.result c.in_err-mark_stream-in-Stream.field-0.0 (MayRefuseStorage b) again
    (stream_below b c.args.depth c.args.id pending c.args.self.now at c.args.entry.now.first c.args.entry.now.size
    c.in_err-mark_stream-in-Stream.field-0.0
    c.requires.below_root (sym c.requires.entry.kind_held ∙ ap kind_number c.in-Stream.is) c.requires.entry.first
    c.requires.entry.size c.in_err-mark_stream-in-Stream.ensures.refused)

pub part_outline-returns-in_err-inner-in_default : goal.part_outline-returns-in_err-inner-in_default
part_outline-returns-in_err-inner-in_default t c =
    let again : IsErrAnd c.from_residual-in_err-inner-in_default.result
    (λ x. x ≡ c.in_err-inner-in_default.field-0.0) = search rules in
    let kind_is : kind (entry_at (directory_in c.args.self.now) c.args.id) ≡ 1 =
    storage_kind c.args.id (kind (entry_at (directory_in c.args.self.now) c.args.id)) c.args.entry.now.kind
    c.requires.below_root c.requires.entry.allowed
    c.requires.entry.kind_held c.in_default.not-Stream in
    record {
      outlined = never_ok _ (λ x. x ≡ c.in_err-inner-in_default.field-0.0)
          c.from_residual-in_err-inner-in_default.result again;
      there = λ s new h.
          let r : (u : Tree) × IsStorageRead (c.args.depth - 1) c.args.id u c.args.self.now new =
          inner_read c.args.depth c.args.id s c.args.self.now new h kind_is in
          same_memory c.from_residual-in_err-inner-in_default.result c.in_err-inner-in_default.field-0.0 again
          (c.in_err-inner-in_default.ensures.there r.0 new r.1);
      memory = refused_with c.from_residual-in_err-inner-in_default.result c.in_err-inner-in_default.field-0.0
          (MayWant c.args.self.now.entries c.args.id) again
          c.in_err-inner-in_default.ensures.memory;
      refused = λ b pending at.
          let room : c.args.depth ≡ suc (c.args.depth - 1) =
          omega (arith, positive c.args.depth c.if-depth-eq0.false) in
          refused_with c.from_residual-in_err-inner-in_default.result c.in_err-inner-in_default.field-0.0
          (MayRefuseStorage b) again
          (c.in_err-inner-in_default.ensures.refused b pending
          (subst (λ (n : ℕ). IsNext b n c.args.id pending c.args.self.now) room at));
    }

pub storage_outline-returns-in_err-ids-clause-refused : goal.storage_outline-returns-in_err-ids-clause-refused
storage_outline-returns-in_err-ids-clause-refused t c = λ b pending at.
    let again : IsErrAnd c.from_residual.result (λ x. x ≡ c.in_err-ids.field-0.0) = search rules in
    refused_with c.from_residual.result c.in_err-ids.field-0.0 (MayRefuseStorage b) again
    (c.in_err-ids.ensures.refused b (suc c.args.depth) pending c.requires.storage at)

pub storage_outline-push_child-requires : goal.storage_outline-push_child-requires
storage_outline-push_child-requires t c =
    let o : AreOpen c.args.id c.deref-child-items.result.now c.args.self.now c.sorted_children.new.self =
    opened c.deref-child-items.ensures.value c.in_ok-ids.ensures.sorted.0 c.in_ok-ids.ensures.sorted.1 in
    let p = c.loop-child.invariant.progress in (
      omega (arith, c.decreases),
      (
        next_below o p c.requires.root_marked c.loop-child-test.true,
        next_root o p c.requires.root_marked,
      ),
    )

pub storage_outline-returns-in_err-push_child-clause-there : goal.storage_outline-returns-in_err-push_child-clause-there
storage_outline-returns-in_err-push_child-clause-there t c = λ u new h.
    let items : List ℕ = c.deref-child-items.result.now in
    let o : AreOpen c.args.id items c.args.self.now c.sorted_children.new.self =
    opened c.deref-child-items.ensures.value c.in_ok-ids.ensures.sorted.0 c.in_ok-ids.ensures.sorted.1 in
    let i : ℕ = c.loop-child.child-index in
    let first : IsFirstRead c.args.depth (get_or items i 0) (drop (i + 1) items) c.loop-child.self new =
    next_there o c.loop-child.invariant.progress u new h c.loop-child-test.true in
    let again : IsErrAnd c.from_residual-in_err-push_child.result (λ x. x ≡ c.in_err-push_child.field-0.0) =
    search rules in
    same_memory c.from_residual-in_err-push_child.result c.in_err-push_child.field-0.0 again
    (c.in_err-push_child.ensures.there first.k first.name first.node first.next first.first)

pub storage_outline-returns-in_err-push_child-clause-refused :
    goal.storage_outline-returns-in_err-push_child-clause-refused
storage_outline-returns-in_err-push_child-clause-refused t c = λ b pending at.
    let items : List ℕ = c.deref-child-items.result.now in
    let o : AreOpen c.args.id items c.args.self.now c.sorted_children.new.self =
    opened c.deref-child-items.ensures.value c.in_ok-ids.ensures.sorted.0 c.in_ok-ids.ensures.sorted.1 in
    let i : ℕ = c.loop-child.child-index in
    let next : IsNext b c.args.depth (get_or items i 0) (drop (i + 1) items ++ pending) c.loop-child.self =
    next_at o c.loop-child.invariant.progress b pending c.requires.storage at c.loop-child-test.true in
    let again : IsErrAnd c.from_residual-in_err-push_child.result (λ x. x ≡ c.in_err-push_child.field-0.0) =
    search rules in
    refused_with c.from_residual-in_err-push_child.result c.in_err-push_child.field-0.0 (MayRefuseStorage b) again
    (c.in_err-push_child.ensures.refused b (drop (i + 1) items ++ pending) next)

pub storage_outline-loop-child-init : goal.storage_outline-loop-child-init
storage_outline-loop-child-init t c =
    let mid : Reader = c.sorted_children.new.self in
    let empty : c.in_ok-parts.parts.items ≡ [] = search rules in
    subst (λ (ps : List (List ℕ × Part)). AreOutlined c.args.depth c.deref-child-items.result.now mid
    (wanted c.args.keep) 0 mid ps) (sym empty)
    (outlined_none c.args.depth c.deref-child-items.result.now mid (wanted c.args.keep))

pub storage_outline-loop-child-preserved : goal.storage_outline-loop-child-preserved
storage_outline-loop-child-preserved t c = outlined_pushed c.loop-child-test.true c.loop-child.invariant
    c.in_ok-push_child.ensures.outlined

pub storage_outline-returns-clause-outlined : goal.storage_outline-returns-clause-outlined
storage_outline-returns-clause-outlined t c =
    let o : AreOpen c.args.id c.deref-child-items.result.now c.args.self.now c.sorted_children.new.self =
    opened c.deref-child-items.ensures.value c.in_ok-ids.ensures.sorted.0 c.in_ok-ids.ensures.sorted.1 in
    outlined_all o c.in_ok-ids.ids c.loop-child.parts c.from_bytes.result c.args.entry.now.state
    c.loop-child-test.false (ap length c.deref-child-items.ensures.value)
    c.loop-child.invariant (c.from_bytes.ensures ∙ c.requires.entry.class) c.requires.entry.state

pub push_child-returns-in-Nothing-clause-outlined : goal.push_child-returns-in-Nothing-clause-outlined
push_child-returns-in-Nothing-clause-outlined t c =
    let h = c.in_ok-part.ensures.outlined in
    record {
      child = None;
      outlined = record {
        name = c.in_ok-entry.entry.name;
        whole = h.whole;
        is_read = search rules;
        sized = h.sized;
        told = h.told;
        is_kept = sym c.below-below.ensures ∙ ap wanted c.in-Nothing.is;
      };
      pushed = refl;
    }

pub push_child-returns-in_ok-push-in_default-below : goal.push_child-returns-in_ok-push-in_default-below
push_child-returns-in_ok-push-in_default-below t c =
    let h = c.in_ok-part.ensures.outlined in
    record {
      outlined = record {
        child = Some (c.in_ok-entry.entry.name, c.in_ok-part.part);
        outlined = record {
          name = c.in_ok-entry.entry.name;
          whole = h.whole;
          is_read = search rules;
          sized = h.sized;
          told = h.told;
          is_kept = (
            refl,
            subst (λ (x : Wanted). IsPartKeptOf x h.whole c.in_ok-part.part) c.below-below.ensures
                h.is_kept,
          );
        };
        pushed = c.in_ok-push-in_default-below.ensures.items;
      };
      there = λ k name s new r. tt;
      refused = λ b pending at. tt;
    }

pub part_outline-returns-in_ok-mark_stream-in-Stream-clause-outlined :
    goal.part_outline-returns-in_ok-mark_stream-in-Stream-clause-outlined
part_outline-returns-in_ok-mark_stream-in-Stream-clause-outlined t c =
    let old : Reader = c.args.self.now in
    let content : Place → List ℕ = contents old.fat old.mini in
    let place : Place = record { first = c.args.entry.now.first; size = c.args.entry.now.size } in
    let is_stream : kind (entry_at (directory_in old) c.args.id) ≡ 2 = sym c.requires.entry.kind_held
    ∙ ap kind_number c.in-Stream.is in
    let marked = c.in_ok-mark_stream-in-Stream.ensures in
    stream_kept (directory_in old) content (wanted c.args.keep) c.args.id
    (λ s. IsNodeRead c.args.depth c.args.id s old c.mark_stream.new.self) place is_stream
    c.requires.entry.first c.requires.entry.size marked.long
    (stream_read c.args.id place.first place.size (content place) old c.mark_stream.new.self is_stream
    c.requires.entry.first c.requires.entry.size marked.found)

pub part_outline-returns-in_ok-inner-in_default : goal.part_outline-returns-in_ok-inner-in_default
part_outline-returns-in_ok-inner-in_default t c =
    let old : Reader = c.args.self.now in
    let new : Reader = c.storage_outline.new.self in
    let kind_is : kind (entry_at (directory_in old) c.args.id) ≡ 1 =
    storage_kind c.args.id (kind (entry_at (directory_in old) c.args.id)) c.args.entry.now.kind
    c.requires.below_root c.requires.entry.allowed
    c.requires.entry.kind_held c.in_default.not-Stream in
    record {
      outlined = nested_kept (directory_in old) (contents old.fat old.mini) (wanted c.args.keep) c.args.id
          (λ s. IsNodeRead c.args.depth c.args.id s old new)
          (λ u. IsStorageRead (c.args.depth - 1) c.args.id u old new) c.in_ok-inner-in_default.inner kind_is
          (λ u h. (kind_is, positive c.args.depth c.if-depth-eq0.false, h)) c.in_ok-inner-in_default.ensures.outlined;
      there = λ s new h. tt;
      memory = tt;
      refused = λ b pending at. tt;
    }

-- want of memory is told only where the children are there
pub part_outline-returns-in_err-mark_stream-in-Stream-clause-memory :
    goal.part_outline-returns-in_err-mark_stream-in-Stream-clause-memory
part_outline-returns-in_err-mark_stream-in-Stream-clause-memory t c =
    let again : IsErrAnd c.from_residual.result (λ x. x ≡ c.in_err-mark_stream-in-Stream.field-0.0) = search rules in
    refused_with c.from_residual.result c.in_err-mark_stream-in-Stream.field-0.0
    (MayWant c.args.self.now.entries c.args.id) again
    (by_place c.args.self.now.entries c.args.id c.args.self.now c.args.entry.now.first c.args.entry.now.size
    c.in_err-mark_stream-in-Stream.field-0.0
    c.in_err-mark_stream-in-Stream.ensures.refused)

pub storage_outline-returns-in_err-ids-clause-memory : goal.storage_outline-returns-in_err-ids-clause-memory
storage_outline-returns-in_err-ids-clause-memory t c =
    let again : IsErrAnd c.from_residual.result (λ x. x ≡ c.in_err-ids.field-0.0) = search rules in
    refused_with c.from_residual.result c.in_err-ids.field-0.0 (MayWant c.args.self.now.entries c.args.id) again
    c.in_err-ids.ensures.memory

pub storage_outline-returns-in_err-parts-clause-memory : goal.storage_outline-returns-in_err-parts-clause-memory
storage_outline-returns-in_err-parts-clause-memory t c =
    when_sorted c.args.self.now.entries c.args.id c.from_residual-in_err-parts.result c.in_ok-ids.ids.items
    c.requires.entry.inside c.in_ok-ids.ensures.sorted.0

pub storage_outline-returns-in_err-push_child-clause-memory :
    goal.storage_outline-returns-in_err-push_child-clause-memory
storage_outline-returns-in_err-push_child-clause-memory t c =
    when_sorted c.args.self.now.entries c.args.id c.from_residual-in_err-push_child.result c.in_ok-ids.ids.items
    c.requires.entry.inside c.in_ok-ids.ensures.sorted.0
