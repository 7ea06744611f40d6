use Rattle.std.proofs.Common.{◌≡◌, ◌<◌, ◌≤◌, ◌*◌, ℕ, List, [], ◌∷◌, ◌++◌, length, sym, ◌∙◌, ap, subst, arith}
use Rattle.std.proofs.Common.{length-append}
use Rattle.std.proofs.lemmas.List.{nil_from_length}
use Rattle.std.proofs.lemmas.List.Elements.{All-push}
use Rattle.std.specs.List.{All}
use Rattle.cfb_entries.specs.Entries.{AreFree, EntriesValue, IsFree, Reaches, here, left, right, entry_at, marked}
use Rattle.cfb_entries.proofs.Inside.{Begins, Begins-nobody, Begins-start, Begins-step}
use Rattle.cfb_entries.proofs.Linked.{Completes, Completes-start, Completes-nobody, Completes-step, Completes-end}
use Rattle.cfb_entries.proofs.Linked.{reaches_left, reaches_right}
use Rattle.cfb_entries.proofs.Marks.{All-front, All-last, AreFree-none, AreFree-push, marked-push, unused, unused-le}
use Rattle.cfb_entries.proofs.Marks.{unused-set}
use Rattle.read_directories.proofs.Walk.{taken_refused}
use Rattle.read_directories.proofs.entries.Table.walk.Goals as goal

pub loop-id-init : goal.loop-id-init
loop-id-init c =
    let e : EntriesValue = c.args.self.now in
    let none : c.args.found.now.items ≡ [] = c.requires.none_found in
    let start : c.push_within.new.list.items ≡ c.args.top ∷ [] = c.push_within.ensures.items
    ∙ ap (λ xs. xs ++ c.args.top ∷ []) c.requires.nobody_waits in
    let few : unused e.used ≤ length e.used = unused-le e.used in
    let R : ℕ → Type 0 = Reaches e.directory c.args.top in
    record {
      marks = ap (marked e) (sym none);
      free = subst (AreFree e) (sym none) (AreFree-none e);
      reached = subst (All R) (sym start) (All-push R [] c.args.top (λ k d lt. absurd (omega arith)) (here c.args.top));
      linked = subst (λ (xs : List ℕ). Completes e.directory c.args.top xs c.push_within.new.list.items) (sym none)
          (subst (Completes e.directory c.args.top []) (sym start) (Completes-start e.directory c.args.top));
      met = subst (λ (xs : List ℕ). Begins e.directory c.args.top xs c.push_within.new.list.items) (sym none)
          (subst (Begins e.directory c.args.top []) (sym start) (Begins-start e.directory c.args.top));
      room = omega (arith, ap length none, c.requires.room, few);
      room_to_wait = omega (arith, ap length start, c.requires.room_to_wait, c.push_within.ensures.room, few);
      found_kept = omega arith;
      waiting_kept = omega (arith, c.push_within.ensures.room);
    }

pub loop-id-preserved-then-id : goal.loop-id-preserved-then-id
loop-id-preserved-then-id c =
    let i = c.loop-id.invariant in
    let d : List ℕ = c.args.self.now.directory in
    let popped : c.loop-id.waiting.items ≡ c.pop.new.self.items ++ c.in-Some.id ∷ [] = c.in-Some.ensures.items in
    record {
      marks = i.marks;
      free = i.free;
      reached = All-front (Reaches d c.args.top) c.pop.new.self.items c.in-Some.id
          (subst (All (Reaches d c.args.top)) popped i.reached);
      linked = Completes-nobody d c.args.top c.loop-id.found.items c.pop.new.self.items c.in-Some.id c.if-id.true
          (subst (Completes d c.args.top c.loop-id.found.items) popped i.linked);
      met = Begins-nobody d c.args.top c.loop-id.found.items c.pop.new.self.items c.in-Some.id c.if-id.true
          (subst (Begins d c.args.top c.loop-id.found.items) popped i.met);
      room = i.room;
      room_to_wait = omega (
        arith,
        i.room_to_wait,
        ap length popped,
        length-append c.pop.new.self.items
            (c.in-Some.id ∷ []),
        c.in-Some.ensures.capacity,
      );
      found_kept = i.found_kept;
      waiting_kept = omega (arith, i.waiting_kept, c.in-Some.ensures.capacity);
    }

pub returns-in-Err-clause-refused : goal.returns-in-Err-clause-refused
returns-in-Err-clause-refused c =
    let i = c.loop-id.invariant in
    let d : List ℕ = c.args.self.now.directory in
    let popped : c.loop-id.waiting.items ≡ c.pop.new.self.items ++ c.in-Some.id ∷ [] = c.in-Some.ensures.items in
    taken_refused c.args.self.now c.loop-id.self c.args.top c.loop-id.found.items c.pop.new.self.items c.in-Some.id
    c.in-Err.stopped i.marks
    (subst (Begins d c.args.top c.loop-id.found.items) popped i.met)
    (All-last (Reaches d c.args.top) c.pop.new.self.items c.in-Some.id
    (subst (All (Reaches d c.args.top)) popped i.reached))
    c.if-id.false c.in-Err.ensures.refused

pub returns-clause-linked : goal.returns-clause-linked
returns-clause-linked c =
    let d : List ℕ = c.args.self.now.directory in
    let none : c.loop-id.waiting.items ≡ [] = nil_from_length c.loop-id.waiting.items
    (omega (arith, c.in_default.ensures.cases.0)) in
    Completes-end d c.args.top c.loop-id.found.items
    (subst (Completes d c.args.top c.loop-id.found.items) none c.loop-id.invariant.linked)

pub loop-id-smaller : goal.loop-id-smaller
loop-id-smaller c =
    let free : IsFree c.loop-id.self c.in-Some.id = c.in-Ok.ensures.free in
    omega (
      arith,
      unused-set c.loop-id.self.used c.in-Some.id free.1,
      ap (λ v. unused v.used) c.mark.ensures,
      ap length c.push_within-in-Some-3.ensures.items,
      ap length c.push_within-in-Some-2.ensures.items,
      ap length c.in-Some.ensures.items,
      length-append {A = ℕ},
    )

-- what is found is free, and what is marked
found_free : (e s : EntriesValue) (found more : List ℕ) (id : ℕ) → s ≡ marked e found → AreFree e found
    → IsFree s id → more ≡ found ++ id ∷ [] → AreFree e more
found_free e s found more id is h f m =
    let free : IsFree (marked e found) id = subst (λ (v : EntriesValue). IsFree v id) is f in
    subst (AreFree e) (sym m) (AreFree-push e found id h free)

found_marks : (e s t : EntriesValue) (found more : List ℕ) (id : ℕ) → s ≡ marked e found → t ≡ marked s (id ∷ [])
    → more ≡ found ++ id ∷ [] → t ≡ marked e more
found_marks e s t found more id is u m = u ∙ marked-push e s found id is ∙ ap (marked e) (sym m)

pub loop-id-preserved : goal.loop-id-preserved
loop-id-preserved c =
    let i = c.loop-id.invariant in
    let e : EntriesValue = c.args.self.now in
    let d : List ℕ = e.directory in
    let id : ℕ = c.in-Some.id in
    let ws : List ℕ = c.pop.new.self.items in
    let popped : c.loop-id.waiting.items ≡ ws ++ id ∷ [] = c.in-Some.ensures.items in
    let pushed : c.push_within-in-Some.new.list.items ≡ c.loop-id.found.items ++ id ∷ [] =
    c.push_within-in-Some.ensures.items in
    let free : IsFree c.loop-id.self id = c.in-Ok.ensures.free in
    let before : c.loop-id.self.directory ≡ d = ap (λ v. v.directory) i.marks in
    let same : c.mark.new.self.directory ≡ d = ap (λ v. v.directory) c.mark.ensures ∙ before in
    let inside : 128 * id < length d = subst (λ (x : List ℕ). 128 * id < length x) before free.0 in
    let fewer = unused-set c.loop-id.self.used id free.1 in
    let marks_less = ap (λ v. unused v.used) c.mark.ensures in
    let l : ℕ = left (entry_at d id) in
    let r : ℕ = right (entry_at d id) in
    let left_is : c.links-left.result.0 ≡ l = c.links-left.ensures.left ∙ ap (λ x. left (entry_at x id)) same in
    let right_is : c.links-left.result.1 ≡ r = c.links-left.ensures.right ∙ ap (λ x. right (entry_at x id)) same in
    let waits : c.push_within-in-Some-3.new.list.items ≡ (ws ++ r ∷ []) ++ l ∷ [] =
    c.push_within-in-Some-3.ensures.items ∙ ap (λ xs. xs ++ c.links-left.result.0 ∷ [])
    c.push_within-in-Some-2.ensures.items
    ∙ (λ t. (ws ++ right_is t ∷ []) ++ left_is t ∷ []) in
    let R : ℕ → Type 0 = Reaches d c.args.top in
    let reached : All R (ws ++ id ∷ []) = subst (All R) popped i.reached in
    let met : Reaches d c.args.top id = All-last R ws id reached in
    let step : Completes d c.args.top (c.loop-id.found.items ++ id ∷ []) ((ws ++ r ∷ []) ++ l ∷ []) =
    Completes-step d c.args.top c.loop-id.found.items ws id c.if-id.false inside
    (subst (Completes d c.args.top c.loop-id.found.items) popped i.linked) in
    let first : Begins d c.args.top (c.loop-id.found.items ++ id ∷ []) ((ws ++ r ∷ []) ++ l ∷ []) =
    Begins-step d c.args.top c.loop-id.found.items ws id c.if-id.false inside
    (subst (Begins d c.args.top c.loop-id.found.items) popped i.met) in
    record {
      marks = found_marks e c.loop-id.self c.mark.new.self c.loop-id.found.items
          c.push_within-in-Some.new.list.items id i.marks c.mark.ensures pushed;
      free = found_free e c.loop-id.self c.loop-id.found.items c.push_within-in-Some.new.list.items id i.marks
          i.free free pushed;
      reached = subst (All R) (sym waits)
          (All-push R (ws ++ r ∷ []) l (All-push R ws r (All-front R ws id reached)
          (reaches_right d c.args.top id c.if-id.false inside met))
          (reaches_left d c.args.top id c.if-id.false inside met));
      linked = subst (λ (xs : List ℕ). Completes d c.args.top xs c.push_within-in-Some-3.new.list.items) (sym pushed)
          (subst (Completes d c.args.top (c.loop-id.found.items ++ id ∷ [])) (sym waits) step);
      met = subst (λ (xs : List ℕ). Begins d c.args.top xs c.push_within-in-Some-3.new.list.items) (sym pushed)
          (subst (Begins d c.args.top (c.loop-id.found.items ++ id ∷ [])) (sym waits) first);
      room = omega (
        arith,
        i.room,
        fewer,
        marks_less,
        ap length pushed,
        length-append c.loop-id.found.items
            (id ∷ []),
        c.push_within-in-Some.ensures.room,
      );
      room_to_wait = omega (
        arith,
        i.room_to_wait,
        fewer,
        marks_less,
        ap length popped,
        ap length waits,
        length-append ws (id ∷ []),
        length-append ws (r ∷ []),
        length-append (ws ++ r ∷ []) (l ∷ []),
        c.in-Some.ensures.capacity,
        c.push_within-in-Some-2.ensures.room,
        c.push_within-in-Some-3.ensures.room,
      );
      found_kept = omega (arith, i.found_kept, c.push_within-in-Some.ensures.room);
      waiting_kept =
          omega (
            arith,
            i.waiting_kept,
            c.in-Some.ensures.capacity,
            c.push_within-in-Some-2.ensures.room,
            c.push_within-in-Some-3.ensures.room,
          );
    }

-- what is pushed has room
pub push_within-requires : goal.push_within-requires
push_within-requires c = omega (arith, ap length c.requires.nobody_waits, c.requires.room_to_wait)

pub push_within-requires-in-Some : goal.push_within-requires-in-Some
push_within-requires-in-Some c =
    omega (arith, c.loop-id.invariant.room, unused-set c.loop-id.self.used c.in-Some.id c.in-Ok.ensures.free.1)

pub push_within-requires-in-Some-3 : goal.push_within-requires-in-Some-3
push_within-requires-in-Some-3 c =
    omega (
      arith,
      c.loop-id.invariant.room_to_wait,
      ap length c.in-Some.ensures.items,
      length-append c.pop.new.self.items (c.in-Some.id ∷ []),
      ap length c.push_within-in-Some-2.ensures.items,
      length-append c.pop.new.self.items (c.links-left.result.1 ∷ []),
      c.push_within-in-Some-2.ensures.room,
      c.in-Some.ensures.capacity,
      unused-set c.loop-id.self.used c.in-Some.id c.in-Ok.ensures.free.1,
    )
