use Rattle.std.proofs.Common.{[], ℕ, List, subst, sym}
use Rattle.cfb_entries.specs.Entries.{EntriesValue}
use Rattle.tell_entries.specs.Ways.{IsMet, IsWay}
use Rattle.tell_entries.proofs.Cycles.{met_first}
use Rattle.tell_entries.proofs.Steps.{load_at_fault, nowhere_told, way_none}
use Rattle.tell_entries.proofs.looking.find_in_links.Goals as goal

pub loop-at-init : goal.loop-at-init
loop-at-init c =
    let dir : List ℕ = c.args.directory.now in
    let first : IsMet dir c.in-Ok.entries [] = met_first dir c.in-Ok.entries c.requires.0 c.requires.1
    c.in-Ok.ensures.loaded in (
      λ k d lt. subst (IsWay dir) (sym (c.in_ok-search.ensures.ways k d lt)) (way_none dir),
      subst (λ (e : EntriesValue). IsMet dir e c.in_ok-search.search.opened.items) (sym c.in_ok-search.ensures.entries)
          (subst (IsMet dir c.in-Ok.entries) (sym c.in_ok-search.ensures.opened) first),
    )

pub returns-in-Err : goal.returns-in-Err
returns-in-Err c =
    nowhere_told c.args.directory.now c.args.fault c.nowhere_if.result c.is_told.result c.nowhere_if.ensures.told
    (λ t. let q = c.is_told.ensures t in load_at_fault c.args.directory.now c.in-Err.found c.args.fault q.0 q.1
    c.in-Err.ensures.refused)
