use Rattle.std.proofs.Common.{◌≡◌, ◌++◌, ◌∷◌, ◌∙◌, [], ℕ, List, ap, subst, sym}
use Rattle.std.specs.List.{All, Contains}
use Rattle.cfb_entries.specs.Entries.{EntriesValue, MayRefuseChildren, marked}
use Rattle.cfb_faults.specs.Faults.{IsChild}
use Rattle.tell_entries.specs.Ways.{IsMet, end_of}
use Rattle.tell_entries.proofs.Cycles.{children_at_fault, met_more}
use Rattle.tell_entries.proofs.Steps.{children_of, linked_at}
use Rattle.tell_entries.proofs.looking.look_below.Goals as goal

pub returns-in_ok-push-in-Ok-clause-looked : goal.returns-in_ok-push-in-Ok-clause-looked
returns-in_ok-push-in-Ok-clause-looked c =
    children_of c.args.directory.now (end_of c.args.way.now) c.in-Ok.children.items c.requires.storage
    (linked_at c.args.entries.now.directory c.args.directory.now c.args.way.now c.in-Ok.children.items
    c.end_of-id.result c.requires.met.same c.end_of-id.ensures c.in-Ok.ensures.linked)

pub returns-in_ok-push-in-Ok-clause-met : goal.returns-in_ok-push-in-Ok-clause-met
returns-in_ok-push-in-Ok-clause-met c =
    let dir : List ℕ = c.args.directory.now in
    let way : List ℕ = c.args.way.now in
    let e : EntriesValue = c.args.entries.now in
    let ids : List ℕ = c.in-Ok.children.items in
    let old : List ℕ = c.args.opened.now.items in
    let children : All (IsChild dir (end_of way)) ids =
    children_of dir (end_of way) ids c.requires.storage
    (linked_at e.directory dir way ids c.end_of-id.result c.requires.met.same c.end_of-id.ensures
    c.in-Ok.ensures.linked) in
    let pushed : c.push.new.self.items ≡ old ++ end_of way ∷ [] = c.in_ok-push-in-Ok.ensures.items
    ∙ ap (λ (x : ℕ). old ++ x ∷ []) c.end_of-id.ensures in
    subst (λ (x : EntriesValue). IsMet dir x c.push.new.self.items) (sym c.in-Ok.ensures.marks)
    (subst (IsMet dir (marked e ids)) (sym pushed) (met_more dir way e old ids c.requires.met c.requires.way children))

pub at_fault-requires-clause-there : goal.at_fault-requires-clause-there
at_fault-requires-clause-there c = λ t.
    let q = c.is_told_of-is_there.ensures t in
    let e : EntriesValue = c.args.entries.now in
    let old : List ℕ = c.args.opened.now.items in
    let way : List ℕ = c.args.way.now in
    children_at_fault c.args.directory.now way e old c.requires.met
    (λ there. q.2 (subst (Contains c.deref.result.now) (sym c.end_of-id.ensures)
    (subst (λ (xs : List ℕ). Contains xs (end_of way)) (sym c.deref.ensures.value) there)))
    c.in-Err.found c.args.fault q.0 q.1 c.requires.storage
    (subst (λ (x : ℕ). MayRefuseChildren e x c.in-Err.found) c.end_of-id.ensures c.in-Err.ensures.refused)

pub returns-in_ok-looked-in-Err-clause-met : goal.returns-in_ok-looked-in-Err-clause-met
returns-in_ok-looked-in-Err-clause-met c =
    subst (λ (x : EntriesValue). IsMet c.args.directory.now x c.args.opened.now.items) (sym c.in-Err.ensures.kept)
    c.requires.met
