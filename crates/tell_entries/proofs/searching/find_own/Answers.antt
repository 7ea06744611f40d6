use Rattle.std.proofs.Common.{◌∙◌, [], List, ℕ, ap, get_or}
use Rattle.tell_entries.specs.Searches.{AreMet, IsMetAtFault, IsSearch}
use Rattle.tell_faults.proofs.Held.{none_gives, some_gives}
use Rattle.tell_entries.proofs.Searches.{found_by, no_way}
use Rattle.tell_entries.proofs.searching.find_own.Goals as goal

pub follow-requires : goal.follow-requires
follow-requires c = record {
  is = c.in_ok-search.ensures c.args.fault (c.has_fault.ensures.free c.if-has_fault.false);
}

pub returns-in-Some-clause-there : goal.returns-in-Some-clause-there
returns-in-Some-clause-there c =
    let met : AreMet c.args.directory.now c.follow.new.search.ids.items c.follow.new.search.parents.items
    × IsMetAtFault c.args.directory.now c.args.fault c.follow.new.search.ids.items c.in-Some.place =
    some_gives (λ (k : ℕ). AreMet c.args.directory.now c.follow.new.search.ids.items
    c.follow.new.search.parents.items
    × IsMetAtFault c.args.directory.now c.args.fault c.follow.new.search.ids.items k) c.in_ok-found.found
    c.in-Some.place c.in-Some.is c.in_ok-found.ensures.met in (
      c.in_ok-way-in-Some.ensures.way,
      found_by c.args.directory.now c.args.fault c.follow.new.search.ids.items c.in_ok-way-in-Some.way.items
          c.in-Some.place met.1
          (c.in_ok-way-in-Some.ensures.end
          ∙ ap (λ (xs : List ℕ). get_or xs c.in-Some.place 0) c.deref.ensures.value),
    )

pub returns-clause-nowhere : goal.returns-clause-nowhere
returns-clause-nowhere c =
    no_way c.args.directory.now c.args.fault c.follow.new.search.ids.items c.follow.new.search.parents.items
    c.follow.new.search.seen.items c.follow.new.search.unseen
    (none_gives (IsSearch c.args.directory.now c.args.fault c.follow.new.search.ids.items
    c.follow.new.search.parents.items c.follow.new.search.seen.items [] c.follow.new.search.unseen)
    c.in_ok-found.found c.in-None.is c.in_ok-found.ensures.all)
