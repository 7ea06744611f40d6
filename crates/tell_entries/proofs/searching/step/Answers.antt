use Rattle.std.proofs.Common.{◌≡◌, ◌<◌, ◌++◌, ◌∷◌, ◌∙◌, [], List, ℕ, Bool, ap, arith, false, get_or, inl, inr, length}
use Rattle.std.proofs.Common.{length-append, refl, subst, sym, true}
use Rattle.tell_entries.specs.Searches.{IsSearch}
use Rattle.tell_entries.specs.declared.searching.Ahead.{Ahead}
use Rattle.tell_entries.proofs.Searches.{linked_by, one_left, outside_met, outside_passed, passed, the_last}
use Rattle.tell_entries.proofs.searching.step.Goals as goal

pub returns-then-link-clause-is : goal.returns-then-link-clause-is
returns-then-link-clause-is c =
    let s = subst (λ (a : List Ahead). IsSearch c.args.directory.now c.args.fault c.args.search.now.ids.items
    c.args.search.now.parents.items c.args.search.now.seen.items a c.args.search.now.unseen)
    c.in-Some.ensures.items c.requires.is in
    passed c.args.directory.now c.args.fault c.args.search.now.ids.items c.args.search.now.parents.items
    c.args.search.now.seen.items c.pop.new.self.items c.in-Some.link c.args.search.now.unseen s
    (inl c.if-link.true)

pub returns-then-not-is_inside-clause-met : goal.returns-then-not-is_inside-clause-met
returns-then-not-is_inside-clause-met c =
    let s = subst (λ (a : List Ahead). IsSearch c.args.directory.now c.args.fault c.args.search.now.ids.items
    c.args.search.now.parents.items c.args.search.now.seen.items a c.args.search.now.unseen)
    c.in-Some.ensures.items c.requires.is in
    outside_met c.args.directory.now c.args.fault c.args.search.now.ids.items c.args.search.now.parents.items
    c.in-Some.link c.outside_of.result s.met
    (the_last c.args.directory.now c.args.search.now.ids.items c.pop.new.self.items c.in-Some.link s.links)
    c.if-link.false (c.is_inside.ensures.past c.if-not-is_inside.true) c.outside_of.ensures.told

pub returns-then-not-is_inside-clause-is : goal.returns-then-not-is_inside-clause-is
returns-then-not-is_inside-clause-is c =
    let s = subst (λ (a : List Ahead). IsSearch c.args.directory.now c.args.fault c.args.search.now.ids.items
    c.args.search.now.parents.items c.args.search.now.seen.items a c.args.search.now.unseen)
    c.in-Some.ensures.items c.requires.is in
    outside_passed c.args.directory.now c.args.fault c.args.search.now.ids.items c.args.search.now.parents.items
    c.args.search.now.seen.items c.pop.new.self.items c.in-Some.link c.args.search.now.unseen
    c.outside_of.result s (c.is_inside.ensures.past c.if-not-is_inside.true) c.outside_of.ensures.other

pub returns-then-is_seen-clause-is : goal.returns-then-is_seen-clause-is
returns-then-is_seen-clause-is c =
    let s = subst (λ (a : List Ahead). IsSearch c.args.directory.now c.args.fault c.args.search.now.ids.items
    c.args.search.now.parents.items c.args.search.now.seen.items a c.args.search.now.unseen)
    c.in-Some.ensures.items c.requires.is in
    let seen : get_or c.args.search.now.seen.items c.in-Some.link.to true ≡ true =
    ap (λ (x : List Bool). get_or x c.in-Some.link.to true) (sym c.deref.ensures.value) ∙ sym c.is_seen.ensures
    ∙ c.if-is_seen.true in
    passed c.args.directory.now c.args.fault c.args.search.now.ids.items c.args.search.now.parents.items
    c.args.search.now.seen.items c.pop.new.self.items c.in-Some.link c.args.search.now.unseen s
    (inr
    (inr (inl (linked_by c.args.directory.now c.args.fault c.args.search.now.ids.items
    c.args.search.now.parents.items c.args.search.now.seen.items (c.pop.new.self.items ++ c.in-Some.link ∷ [])
    c.args.search.now.unseen c.in-Some.link.to s (c.is_inside.ensures.there c.if-not-is_inside.false) seen))))

pub returns-then-link-eq0-clause-fewer : goal.returns-then-link-eq0-clause-fewer
returns-then-link-eq0-clause-fewer c =
    let s = subst (λ (a : List Ahead). IsSearch c.args.directory.now c.args.fault c.args.search.now.ids.items
    c.args.search.now.parents.items c.args.search.now.seen.items a c.args.search.now.unseen)
    c.in-Some.ensures.items c.requires.is in
    let new : get_or c.args.search.now.seen.items c.in-Some.link.to true ≡ false =
    ap (λ (x : List Bool). get_or x c.in-Some.link.to true) (sym c.deref.ensures.value) ∙ sym c.is_seen.ensures
    ∙ c.if-is_seen.false in
    let some = one_left c.args.directory.now c.args.fault c.args.search.now.ids.items
    c.args.search.now.parents.items c.args.search.now.seen.items c.pop.new.self.items c.in-Some.link
    c.args.search.now.unseen s
    (c.is_inside.ensures.there c.if-not-is_inside.false) new in
    omega (
      arith,
      some,
      c.in_ok-enter_root.ensures.fewer,
      c.in_ok-enter_root.ensures.added,
      ap length c.in-Some.ensures.items,
      length-append c.pop.new.self.items (c.in-Some.link ∷ []),
    )
