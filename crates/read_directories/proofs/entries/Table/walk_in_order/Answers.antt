use Rattle.std.proofs.Common.{◌≡◌, ◌∷◌, ◌++◌, [], ℕ, List, length, sym, ◌∙◌, ap, subst, arith, append-nil}
use Rattle.std.proofs.Common.{length-append}
use Rattle.std.proofs.lemmas.List.{nil_from_length}
use Rattle.cfb_entries.specs.Entries.{AreFree, EntriesValue, IsFree, entry_at, left, right}
use Rattle.read_directories.proofs.InOrder.{Walked, walked_down, walked_end, walked_free, walked_inside, walked_refused}
use Rattle.read_directories.proofs.InOrder.{walked_start, walked_up}
use Rattle.cfb_entries.proofs.Marks.{unused, unused-le, unused-set}
use Rattle.read_directories.proofs.entries.Table.walk_in_order.Goals as goal

pub loop-at-init : goal.loop-at-init
loop-at-init c =
    let e : EntriesValue = c.args.self.now in
    let few = unused-le e.used in
    record {
      walked = subst (λ (xs : List ℕ). Walked e e c.args.top c.args.top xs c.args.waiting.now.items)
          (sym c.requires.none_found)
          (subst (Walked e e c.args.top c.args.top []) (sym c.requires.nobody_waits) (walked_start e c.args.top));
      room = omega (arith, c.requires.room, few, ap length c.requires.none_found, ap length c.requires.nobody_waits);
      room_to_wait = omega (arith, c.requires.room_to_wait, few, ap length c.requires.nobody_waits);
      found_kept = omega arith;
      waiting_kept = omega arith;
    }

pub returns-in-Err-clause-free : goal.returns-in-Err-clause-free
returns-in-Err-clause-free c = walked_free c.args.self.now c.loop-at.self c.args.top c.loop-at.at
    c.loop-at.found.items c.loop-at.waiting.items c.loop-at.invariant.walked

pub returns-in-Err-clause-refused : goal.returns-in-Err-clause-refused
returns-in-Err-clause-refused c =
    walked_refused c.args.self.now c.loop-at.self c.args.top c.loop-at.at c.loop-at.found.items
    c.loop-at.waiting.items c.in-Err.fault c.if-at.true
    c.in-Err.ensures.refused c.loop-at.invariant.walked

pub push_within-requires : goal.push_within-requires
push_within-requires c = omega (
  arith,
  c.loop-at.invariant.room_to_wait,
  unused-set c.loop-at.self.used c.loop-at.at
      c.in-Ok.ensures.free.1,
)

pub loop-at-smaller-then-at : goal.loop-at-smaller-then-at
loop-at-smaller-then-at c =
    omega (
      arith,
      unused-set c.loop-at.self.used c.loop-at.at c.in-Ok.ensures.free.1,
      ap (λ v. unused v.used) c.mark.ensures,
      ap length c.push_within.ensures.items,
      length-append c.loop-at.waiting.items (c.loop-at.at ∷ []),
    )

pub loop-at-preserved-then-at : goal.loop-at-preserved-then-at
loop-at-preserved-then-at c =
    let i = c.loop-at.invariant in
    let e : EntriesValue = c.args.self.now in
    let at : ℕ = c.loop-at.at in
    let found : List ℕ = c.loop-at.found.items in
    let waits : c.push_within.new.list.items ≡ c.loop-at.waiting.items ++ at ∷ [] = c.push_within.ensures.items in
    let free : IsFree c.loop-at.self at = c.in-Ok.ensures.free in
    let same : c.mark.new.self.directory ≡ e.directory = ap (λ v. v.directory) c.mark.ensures
    ∙ ap (λ v. v.directory) i.walked.met_marks in
    let next : c.links-at.result.0 ≡ left (entry_at e.directory at) = c.links-at.ensures.left
    ∙ ap (λ d. left (entry_at d at)) same in
    let down : Walked e c.mark.new.self c.args.top (left (entry_at e.directory at)) found
    (c.loop-at.waiting.items ++ at ∷ []) =
    walked_down e c.loop-at.self c.args.top found c.loop-at.waiting.items c.mark.new.self at c.if-at.true free
    c.mark.ensures i.walked in
    let fewer = unused-set c.loop-at.self.used at free.1 in
    let marks_less = ap (λ v. unused v.used) c.mark.ensures in
    let long = length-append c.loop-at.waiting.items (at ∷ []) in
    record {
      walked = subst (λ (xs : List ℕ). Walked e c.mark.new.self c.args.top c.links-at.result.0 found xs) (sym waits)
          (subst (λ (n : ℕ). Walked e c.mark.new.self c.args.top n found (c.loop-at.waiting.items ++ at ∷ []))
          (sym next) down);
      room = omega (arith, i.room, fewer, marks_less, ap length waits, long);
      room_to_wait = omega (
        arith,
        i.room_to_wait,
        fewer,
        marks_less,
        ap length waits,
        long,
        c.push_within.ensures.room,
      );
      found_kept = i.found_kept;
      waiting_kept = omega (arith, i.waiting_kept, c.push_within.ensures.room);
    }

-- nobody waits where nobody could be taken
pub returns-in_default-clause-reached : goal.returns-in_default-clause-reached
returns-in_default-clause-reached c =
    let none : c.loop-at.waiting.items ≡ [] = nil_from_length c.loop-at.waiting.items
    (omega (arith, c.in_default.ensures.cases.0)) in
    walked_end c.args.self.now c.loop-at.self c.args.top c.loop-at.at c.loop-at.found.items c.if-at.false
    (subst (Walked c.args.self.now c.loop-at.self c.args.top c.loop-at.at c.loop-at.found.items) none
    c.loop-at.invariant.walked)

pub returns-in_default-clause-free : goal.returns-in_default-clause-free
returns-in_default-clause-free c =
    subst (λ (xs : List ℕ). AreFree c.args.self.now (c.loop-at.found.items ++ xs))
    (c.in_default.ensures.items ∙ append-nil c.pop.new.self.items)
    (walked_free c.args.self.now c.loop-at.self c.args.top c.loop-at.at c.loop-at.found.items
    c.loop-at.waiting.items c.loop-at.invariant.walked)

pub links-at-requires-in-loop-at : goal.links-at-requires-in-loop-at
links-at-requires-in-loop-at c =
    walked_inside c.args.self.now c.loop-at.self c.args.top c.loop-at.at c.loop-at.found.items c.pop.new.self.items
    c.in-Some.id
    (subst (Walked c.args.self.now c.loop-at.self c.args.top c.loop-at.at c.loop-at.found.items)
    c.in-Some.ensures.items c.loop-at.invariant.walked)

pub loop-at-preserved : goal.loop-at-preserved
loop-at-preserved c =
    let i = c.loop-at.invariant in
    let e : EntriesValue = c.args.self.now in
    let s : EntriesValue = c.loop-at.self in
    let id : ℕ = c.in-Some.id in
    let ws : List ℕ = c.pop.new.self.items in
    let popped : c.loop-at.waiting.items ≡ ws ++ id ∷ [] = c.in-Some.ensures.items in
    let pushed : c.push_within-in-loop-at.new.list.items ≡ c.loop-at.found.items ++ id ∷ [] =
    c.push_within-in-loop-at.ensures.items in
    let next : c.links-at-in-loop-at.result.1 ≡ right (entry_at e.directory id) =
    c.links-at-in-loop-at.ensures.right ∙ ap (λ v. right (entry_at v.directory id)) i.walked.met_marks in
    let up : Walked e s c.args.top (right (entry_at e.directory id)) (c.loop-at.found.items ++ id ∷ []) ws =
    walked_up e s c.args.top c.loop-at.found.items ws c.loop-at.at id c.if-at.false
    (subst (Walked e s c.args.top c.loop-at.at c.loop-at.found.items) popped i.walked) in
    let shorter = length-append ws (id ∷ []) in
    let longer = length-append c.loop-at.found.items (id ∷ []) in
    record {
      walked = subst (λ (xs : List ℕ). Walked e s c.args.top c.links-at-in-loop-at.result.1 xs ws) (sym pushed)
          (subst (λ (n : ℕ). Walked e s c.args.top n (c.loop-at.found.items ++ id ∷ []) ws) (sym next) up);
      room = omega (
        arith,
        i.room,
        ap length popped,
        ap length pushed,
        shorter,
        longer,
        c.push_within-in-loop-at.ensures.room,
      );
      room_to_wait = omega (arith, i.room_to_wait, ap length popped, shorter, c.in-Some.ensures.capacity);
      found_kept = omega (arith, i.found_kept, c.push_within-in-loop-at.ensures.room);
      waiting_kept = omega (arith, i.waiting_kept, c.in-Some.ensures.capacity);
    }
