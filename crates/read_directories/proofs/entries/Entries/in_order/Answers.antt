use Rattle.std.proofs.Common.{◌≡◌, ◌<◌, ◌*◌, ◌++◌, [], inr, refl, List, ℕ, length, ◌∙◌, ap, subst, arith, append-nil}
use Rattle.std.proofs.Common.{sym}
use Rattle.cfb_entries.specs.Entries.{AreFree, AreLinked, EntriesValue, HasChildren, child, entry_at, marked}
use Rattle.read_directories.specs.Reached.{AreReached}
use Rattle.cfb_entries.specs.Walk.{unmarked}
use Rattle.std.specs.List.{All}
use Rattle.read_directories.proofs.InOrder.{all_inside, as_many, half_back, last_inside, taken_back}
use Rattle.cfb_entries.proofs.Marks.{AreFree-front}
use Rattle.read_directories.proofs.entries.Entries.in_order.Goals as goal

-- where nobody waits any more, those found are free, and what is marked
module _ (e s : EntriesValue) (found ws : List ℕ) (none : ws ≡ []) where
  all_found : found ++ ws ≡ found
  all_found = ap (λ xs. found ++ xs) none ∙ append-nil found

  found_free : AreFree e (found ++ ws) → AreFree e found
  found_free = subst (AreFree e) all_found

  found_marked : s ≡ marked e (found ++ ws) → s ≡ marked e found
  found_marked is = is ∙ ap (marked e) all_found

has_children : (e s v : EntriesValue) (top id : ℕ) (ids : List ℕ) → AreReached e s top ids
    → 128 * id < length e.directory → top ≡ child (entry_at e.directory id)
    → e ≡ v → HasChildren v id
has_children e s v top id ids r lt at is = subst (λ (x : EntriesValue). HasChildren x id) is (record {
  inside = lt;
  ids = r.reached;
  linked = subst (λ (t : ℕ). AreLinked e.directory t r.reached) at r.linked;
  free = r.free;
})

pub unmark-requires : goal.unmark-requires
unmark-requires c =
    last_inside c.self.inside.table c.walk_in_order.new.self c.walk_in_order.new.found.items
    c.walk_in_order.new.waiting.items
    c.walk_in_order.ensures.free c.walk_in_order.ensures.marks

-- once those that wait are no more marked
pub unmark-requires-in-Err : goal.unmark-requires-in-Err
unmark-requires-in-Err c =
    let e : EntriesValue = c.self.inside.table in
    let found : List ℕ = c.walk_in_order.new.found.items in
    let ws : List ℕ = c.walk_in_order.new.waiting.items in
    all_inside e c.unmark.new.self found (AreFree-front e found ws c.walk_in_order.ensures.free)
    (half_back e c.walk_in_order.new.self c.unmark.new.self found ws c.walk_in_order.ensures.free
    c.walk_in_order.ensures.marks c.unmark.ensures.unmarked)

pub returns-in-Err-clause-kept : goal.returns-in-Err-clause-kept
returns-in-Err-clause-kept c =
    let e : EntriesValue = c.self.inside.table in
    let found : List ℕ = c.walk_in_order.new.found.items in
    let ws : List ℕ = c.walk_in_order.new.waiting.items in
    taken_back e c.unmark.new.self c.unmark-in-Err.new.self found
    (AreFree-front e found ws c.walk_in_order.ensures.free)
    (half_back e c.walk_in_order.new.self c.unmark.new.self found ws c.walk_in_order.ensures.free
    c.walk_in_order.ensures.marks c.unmark.ensures.unmarked)
    c.unmark-in-Err.ensures.unmarked ∙ c.self.view_is

pub invariant_of-self : goal.invariant_of-self
invariant_of-self c =
    let e : EntriesValue = c.self.inside.table in
    let found : List ℕ = c.walk_in_order.new.found.items in
    let ws : List ℕ = c.walk_in_order.new.waiting.items in
    let back : c.unmark-in-Err.new.self ≡ e =
    taken_back e c.unmark.new.self c.unmark-in-Err.new.self found
    (AreFree-front e found ws c.walk_in_order.ensures.free)
    (half_back e c.walk_in_order.new.self c.unmark.new.self found ws c.walk_in_order.ensures.free
    c.walk_in_order.ensures.marks c.unmark.ensures.unmarked)
    c.unmark-in-Err.ensures.unmarked in
    let same : length c.unmark-in-Err.new.self.used ≡ length e.used = ap (λ (v : EntriesValue). length v.used) back in (
      omega (
        arith,
        c.self.invariant.0,
        same,
        c.clear.ensures.capacity,
        c.walk_in_order.ensures.waiting_kept,
        c.unmark.ensures.kept,
      ),
      omega (
        arith,
        c.self.invariant.1,
        same,
        c.clear-2.ensures.capacity,
        c.walk_in_order.ensures.found_kept,
        c.unmark-in-Err.ensures.kept,
      ),
    )

pub invariant_of-self-in-Ok-taken : goal.invariant_of-self-in-Ok-taken
invariant_of-self-in-Ok-taken c =
    let same : length c.walk_in_order.new.self.used ≡ length c.self.inside.table.used =
    as_many c.self.inside.table c.walk_in_order.new.self
    (c.walk_in_order.new.found.items ++ c.walk_in_order.new.waiting.items) c.walk_in_order.ensures.marks in (
      omega (arith, c.self.invariant.0, same, c.clear.ensures.capacity, c.walk_in_order.ensures.waiting_kept),
      omega (
        arith,
        c.self.invariant.1,
        same,
        c.clear-2.ensures.capacity,
        c.walk_in_order.ensures.found_kept,
        c.taken.ensures.room,
      ),
    )

pub unmark-requires-in-Err-taken : goal.unmark-requires-in-Err-taken
unmark-requires-in-Err-taken c =
    let e : EntriesValue = c.self.inside.table in
    let s : EntriesValue = c.walk_in_order.new.self in
    let found : List ℕ = c.walk_in_order.new.found.items in
    let ws : List ℕ = c.walk_in_order.new.waiting.items in
    subst (All (λ n. n < length s.used)) (sym (ap (λ v. v.items) c.in-Err-taken.ensures.kept))
    (all_inside e s found (found_free e s found ws c.in-Ok.ensures.done c.walk_in_order.ensures.free)
    (found_marked e s found ws c.in-Ok.ensures.done c.walk_in_order.ensures.marks))

pub returns-in-Err-taken-clause-refused : goal.returns-in-Err-taken-clause-refused
returns-in-Err-taken-clause-refused c =
    let h : HasChildren c.args.self.now c.args.id =
    has_children c.self.inside.table c.walk_in_order.new.self c.args.self.now c.in_ok-top.top c.args.id
    c.walk_in_order.new.found.items
    c.in-Ok.ensures.reached c.in_ok-top.ensures.read.0 c.in_ok-top.ensures.read.1 c.self.view_is in
    inr (inr (h, refl))

pub returns-in-Err-taken-clause-kept : goal.returns-in-Err-taken-clause-kept
returns-in-Err-taken-clause-kept c =
    let e : EntriesValue = c.self.inside.table in
    let s : EntriesValue = c.walk_in_order.new.self in
    let found : List ℕ = c.walk_in_order.new.found.items in
    let ws : List ℕ = c.walk_in_order.new.waiting.items in
    taken_back e s c.unmark-in-Err-taken.new.self found
    (found_free e s found ws c.in-Ok.ensures.done c.walk_in_order.ensures.free)
    (found_marked e s found ws c.in-Ok.ensures.done c.walk_in_order.ensures.marks)
    (c.unmark-in-Err-taken.ensures.unmarked ∙ ap (λ v. unmarked s v.items) c.in-Err-taken.ensures.kept) ∙ c.self.view_is

pub invariant_of-self-in-Err-taken : goal.invariant_of-self-in-Err-taken
invariant_of-self-in-Err-taken c =
    let e : EntriesValue = c.self.inside.table in
    let s : EntriesValue = c.walk_in_order.new.self in
    let found : List ℕ = c.walk_in_order.new.found.items in
    let ws : List ℕ = c.walk_in_order.new.waiting.items in
    let back : c.unmark-in-Err-taken.new.self ≡ e =
    taken_back e s c.unmark-in-Err-taken.new.self found
    (found_free e s found ws c.in-Ok.ensures.done c.walk_in_order.ensures.free)
    (found_marked e s found ws c.in-Ok.ensures.done c.walk_in_order.ensures.marks)
    (c.unmark-in-Err-taken.ensures.unmarked ∙ ap (λ v. unmarked s v.items) c.in-Err-taken.ensures.kept) in
    let same : length c.unmark-in-Err-taken.new.self.used ≡ length e.used =
    ap (λ (v : EntriesValue). length v.used) back in (
      omega (arith, c.self.invariant.0, same, c.clear.ensures.capacity, c.walk_in_order.ensures.waiting_kept),
      omega (
        arith,
        c.self.invariant.1,
        same,
        c.clear-2.ensures.capacity,
        c.walk_in_order.ensures.found_kept,
        c.taken.ensures.room,
        c.unmark-in-Err-taken.ensures.kept,
      ),
    )
