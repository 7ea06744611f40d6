use Rattle.std.proofs.Common.{◌≡◌, ◌≤◌, ◌+◌, ◌-◌, ◌*◌, ◌∙◌, ℕ, List, ap, drop, length, length-append, length-drop}
use Rattle.std.proofs.Common.{length-take, subst, sym, take, arith, rules}
use Rattle.store_model.specs.Changes.{changes_from, spelled}
use Rattle.store_model.specs.Image.{Image, put}
use Rattle.store_core.proofs.Staged.{counted_more, in_window, staged_long, staged_more}
use Rattle.store_core.proofs.Under.{stages_again, stages_more}
use Rattle.store_core.proofs.stage.write_changes.Goals as goal

pub write_window-requires-clause-closed : goal.write_window-requires-clause-closed
write_window-requires-clause-closed g c model =
    let disk = c.loop-first.disk in
    stages_again g.D.Disk.reads g.D.Disk.may_leave g.D.Disk.moment g.D.Disk.left_since c.args.disk.now disk
    (g.met.D.Disk.reads_are_left disk) (c.loop-first.invariant.stays model)

pub returns-in_err-more-clause-stays : goal.returns-in_err-more-clause-stays
returns-in_err-more-clause-stays g c model =
    let disk = c.loop-first.disk in
    stages_more g.D.Disk.reads g.D.Disk.may_leave g.D.Disk.moment g.D.Disk.left_since c.args.disk.now disk
    c.write_window.new.disk (g.met.D.Disk.reads_are_left disk) (c.loop-first.invariant.stays model)
    (c.write_window.ensures.stays model)

pub write_window-requires-clause-held : goal.write_window-requires-clause-held
write_window-requires-clause-held g c model =
    let reads = g.D.Disk.reads in
    let least = c.min-long.ensures in
    let wide = c.loop-first.invariant.held in
    let end : c.in_ok-end.end ≡ length (reads c.loop-first.disk).document = c.in_ok-end.ensures.length model
    ∙ sym (ap length (c.loop-first.invariant.document model)) in
    let rest = c.saturating_sub.ensures in
    in_window (reads c.loop-first.disk).document (512 * c.loop-first.first)
    (length (take c.min-long.result c.loop-first.held)) c.min-long.result
    (omega (arith, least, end, rest)) (omega (arith, least, wide, length-take c.min-long.result c.loop-first.held))

pub loop-first-preserved : goal.loop-first-preserved
loop-first-preserved g c =
    let reads = g.D.Disk.reads in
    let last : ℕ = c.min-last.result in
    let first : ℕ = c.loop-first.first in
    let new : List ℕ = c.args.document.now in
    let so_far = c.loop-first.invariant in
    let clauses = c.in_ok-more.ensures in
    let least = c.min-last.ensures in
    let below = c.loop-first-test.true in
    let few = so_far.few in
    let grows = clauses.few in
    let le : first ≤ last = omega (arith, least, below) in
    let document : (model : g.D.Disk.follows_model) → (reads c.loop-first.disk).document
    ≡ (reads c.args.disk.now).document = so_far.document in
    let more : (model : g.D.Disk.follows_model) → c.in_ok-more.more
    ≡ length (changes_from first (last - first) (reads c.args.disk.now).document new) = λ model.
    clauses.blocks model ∙ ap (λ (d : List ℕ). length (changes_from first (last - first) d new)) (document model) in
    let journal : (model : g.D.Disk.follows_model) → (reads c.write_window.new.disk).journal
    ≡ put (reads c.loop-first.disk).journal (13 + 516 * c.loop-first.count)
    (spelled (changes_from first (last - first) (reads c.args.disk.now).document new)) = λ model.
    ap (λ (i : Image). i.journal) (clauses.written model)
    ∙ ap (λ (d : List ℕ). put (reads c.loop-first.disk).journal (13 + 516 * c.loop-first.count)
    (spelled (changes_from first (last - first) d new))) (document model) in
    record {
      held = let kept = clauses.held in let wide = so_far.held in let long = c.min-long.ensures in
          omega (
            arith,
            kept,
            wide,
            long,
            length-take c.min-long.result c.loop-first.held,
            length-append
                c.write_window.new.held (drop c.min-long.result c.loop-first.held),
            length-drop c.min-long.result
                c.loop-first.held,
          );
      out = clauses.out ∙ so_far.out;
      within = omega (arith, least);
      few = omega (arith, few, grows, le);
      stays = λ model.
          stages_more g.D.Disk.reads g.D.Disk.may_leave g.D.Disk.moment g.D.Disk.left_since c.args.disk.now
          c.loop-first.disk c.write_window.new.disk (g.met.D.Disk.reads_are_left c.loop-first.disk)
          (so_far.stays model) (c.write_window.ensures.stays model);
      document = λ model. ap (λ (i : Image). i.document) (clauses.written model) ∙ document model;
      reached = λ model. subst (λ (l : List ℕ). 13 + 516 * (c.loop-first.count + c.in_ok-more.more) ≤ length l)
          (sym (journal model))
          (staged_long first last c.loop-first.count c.in_ok-more.more (reads c.args.disk.now).document new
          (reads c.loop-first.disk).journal le (so_far.reached model) (more model));
      blocks = λ model. counted_more first last c.loop-first.count c.in_ok-more.more
          (reads c.args.disk.now).document new le (so_far.blocks model) (more model);
      written = λ model. ap (λ (l : List ℕ). take (13 + 516 * (c.loop-first.count + c.in_ok-more.more)) l)
          (journal model)
          ∙ staged_more first last c.loop-first.count c.in_ok-more.more (reads c.args.disk.now).document new
          (reads c.loop-first.disk).journal le (so_far.reached model) (more model)
          (take 13 (reads c.args.disk.now).journal) (so_far.written model);
      count = search rules;
    }

pub write_window-requires-clause-within : goal.write_window-requires-clause-within
write_window-requires-clause-within g c model some =
    let reads = g.D.Disk.reads in
    let least = c.min-long.ensures in
    let end : c.in_ok-end.end ≡ length (reads c.loop-first.disk).document = c.in_ok-end.ensures.length model
    ∙ sym (ap length (c.loop-first.invariant.document model)) in
    let rest = c.saturating_sub.ensures in
    omega (arith, least, end, rest, some, length-take c.min-long.result c.loop-first.held)
