use Rattle.std.proofs.Common.{◌≡◌, ◌≢◌, ◌<◌, ◌≤◌, ◌+◌, ◌*◌, ◌++◌, ◌∷◌, ◌∙◌, [], List, ℕ, ap, arith, get_or, inl, length}
use Rattle.std.proofs.Common.{length-append, set, subst, sym, true}
use Rattle.std.proofs.Math.Seq.{get_or-append_seam}
use Rattle.cfb_entries.specs.Entries.{MayRefuseEntry, left, right, entry_at}
use Rattle.tell_entries.specs.Searches.{AreMet, IsOpening, IsSearch}
use Rattle.tell_entries.specs.declared.searching.Ahead.{Ahead}
use Rattle.tell_entries.proofs.Searches.{entry_more, met_more, one_left}
use Rattle.tell_entries.proofs.searching.enter.Goals as goal

pub returns-then-has_fault-clause-met : goal.returns-then-has_fault-clause-met
returns-then-has_fault-clause-met c =
    let dir : List ℕ = c.args.directory.now in
    let ids : List ℕ = c.args.search.now.ids.items in
    let parents : List ℕ = c.args.search.now.parents.items in
    let n : ℕ = c.args.link.to in
    let place : c.len-place.result ≡ length ids = omega arith in
    let is_n : get_or c.push.new.self.items c.len-place.result 0 ≡ n =
    (λ i. get_or (c.in_ok-push.ensures.items i) (place i) 0) ∙ get_or-append_seam ids n [] 0 in
    let met : AreMet dir (ids ++ n ∷ []) (parents ++ c.args.link.parent ∷ []) =
    met_more dir c.args.fault ids parents c.args.search.now.seen.items c.args.search.now.ahead.items c.args.link
    c.args.search.now.unseen c.requires.is c.requires.inside c.requires.new c.requires.below
    c.requires.somebody in (
      subst (λ (x : List ℕ). AreMet dir x c.push-2.new.self.items) (sym c.in_ok-push.ensures.items)
          (subst (λ (x : List ℕ). AreMet dir (ids ++ n ∷ []) x) (sym c.in_ok-push-2.ensures.items) met),
      (
        omega (arith, place, ap length c.in_ok-push.ensures.items, length-append ids (n ∷ [])),
        inl (subst (λ (x : ℕ). MayRefuseEntry dir x c.args.fault) (sym is_n)
            (c.has_fault.ensures.told c.if-has_fault.true)),
      ),
    )

pub returns-clause-is : goal.returns-clause-is
returns-clause-is c =
    let dir : List ℕ = c.args.directory.now in
    let ids : List ℕ = c.args.search.now.ids.items in
    let parents : List ℕ = c.args.search.now.parents.items in
    let n : ℕ = c.args.link.to in
    let place : c.len-place.result ≡ length ids = omega arith in
    let kept = c.in_ok-push_child.ensures.kept in
    let opening : IsOpening dir n (length ids) kept.0 = subst (λ (x : ℕ). IsOpening dir n x kept.0) place kept.2 in
    let more = entry_more dir c.args.fault ids parents c.args.search.now.seen.items c.args.search.now.ahead.items
    c.args.link c.args.search.now.unseen c.requires.is c.requires.inside c.requires.new c.requires.below
    c.requires.somebody kept.0 c.push_child.new.ahead.items
    (kept.1 ∙ ap (λ (xs : List Ahead). xs ++ kept.0) c.in_ok-push_around.ensures) opening
    (c.has_fault.ensures.free c.if-has_fault.false)
    c.saturating_sub-search.result c.saturating_sub-search.ensures in
    subst (λ (x : List ℕ). IsSearch dir c.args.fault x c.push-2.new.self.items
    (set c.args.search.now.seen.items n true) c.push_child.new.ahead.items c.saturating_sub-search.result)
    (sym c.in_ok-push.ensures.items)
    (subst (λ (x : List ℕ). IsSearch dir c.args.fault (ids ++ n ∷ []) x (set c.args.search.now.seen.items n true)
    c.push_child.new.ahead.items c.saturating_sub-search.result) (sym c.in_ok-push-2.ensures.items) more)

pub returns-clause-fewer : goal.returns-clause-fewer
returns-clause-fewer c =
    let kept = c.in_ok-push_child.ensures.kept in
    let some = one_left c.args.directory.now c.args.fault c.args.search.now.ids.items
    c.args.search.now.parents.items c.args.search.now.seen.items c.args.search.now.ahead.items c.args.link
    c.args.search.now.unseen
    c.requires.is c.requires.inside c.requires.new in
    omega (
      arith,
      some,
      c.saturating_sub-search.ensures,
      ap length kept.1,
      length-append c.push_around.new.ahead.items kept.0,
      kept.2.few,
      ap length c.in_ok-push_around.ensures,
      length-append c.args.search.now.ahead.items
          (record { to = right (entry_at c.args.directory.now c.args.link.to); parent = c.args.link.parent }
          ∷ record { to = left (entry_at c.args.directory.now c.args.link.to); parent = c.args.link.parent }
          ∷ []),
    )
