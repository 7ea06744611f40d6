use Rattle.std.proofs.Common.{◌≡◌, ◌+◌, ◌*◌, ◌<◌, ◌++◌, ◌∷◌, ◌∙◌, [], Bool, List, ap, arith, length, length-append}
use Rattle.std.proofs.Common.{subst, sym, true, false, get_or, set, ℕ}
use Rattle.cfb_entries.specs.Entries.{entry_at, left, right}
use Rattle.tell_entries.specs.Searches.{IsSearch}
use Rattle.tell_entries.specs.declared.searching.Ahead.{Ahead}
use Rattle.tell_entries.proofs.Searches.{root_more}
use Rattle.tell_entries.proofs.searching.enter_root.Goals as goal

pub returns-clause-is : goal.returns-clause-is
returns-clause-is c = λ fault s.
    let dir : List ℕ = c.args.directory.now in
    let seen : List Bool = c.args.search.now.seen.items in
    let root : c.args.link.to ≡ 0 = c.requires.root in
    let inside : 128 * c.args.link.to < length dir = omega (arith, root, c.requires.some) in
    let new : get_or seen c.args.link.to true ≡ false = ap (λ (n : ℕ). get_or seen n true) root ∙ c.requires.new in
    let added = c.in_ok-push_around.ensures
    ∙ (λ i. c.args.search.now.ahead.items ++ record {
      to = right (entry_at dir (sym root i));
      parent = c.args.link.parent;
    } ∷ record {
      to = left (entry_at dir (sym root i));
      parent = c.args.link.parent;
    } ∷ []) in
    let more = root_more dir fault c.args.search.now.ids.items c.args.search.now.parents.items seen
    c.args.search.now.ahead.items c.args.link c.args.search.now.unseen s inside new root
    c.push_around.new.ahead.items added
    c.saturating_sub-search.result c.saturating_sub-search.ensures in
    subst (λ (n : ℕ). IsSearch dir fault c.args.search.now.ids.items c.args.search.now.parents.items
    (set seen n true) c.push_around.new.ahead.items c.saturating_sub-search.result) root more

pub returns-clause-added : goal.returns-clause-added
returns-clause-added c =
    omega (
      arith,
      ap length c.in_ok-push_around.ensures,
      length-append c.args.search.now.ahead.items
          (record { to = right (entry_at c.args.directory.now 0); parent = c.args.link.parent }
          ∷ record { to = left (entry_at c.args.directory.now 0); parent = c.args.link.parent } ∷ []),
    )
