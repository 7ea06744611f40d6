use Rattle.std.proofs.Common.{◌≡◌, ◌∙◌, ◌<◌, ℕ, List, ap, get_or, length, rules, subst, sym}
use Rattle.std.proofs.lemmas.List.{get_or-map, length-map}
use Rattle.folder_commands.specs.Plan.{Entry}
use Rattle.folder_commands.specs.Planned.{entries_of, entry_at}
use Rattle.folder_commands.specs.declared.planning.Planned.{Planned}
use Rattle.read_streams.specs.Tables.{read_by}
use Rattle.folder_commands.proofs.Adding.{adds_next}
use Rattle.folder_commands.proofs.making.make_all.Goals as goal

pub loop-count-preserved : goal.loop-count-preserved
loop-count-preserved g c = record {
  made = λ a known len window.
      let f = read_by a c.args.tables.now in
      let ps : List Planned = c.args.planned.now in
      let k : ℕ = c.loop-count.count in
      let p : Planned = c.index-planned-count.result in
      let e : Entry = entry_at f p.path p.what in
      let here : get_or ps k p ≡ p = search (rules, c.index-planned-count.is) in
      let before = c.loop-count.invariant.made a known len window in
      let next = c.in-Ok.ensures.made a (c.loop-count.invariant.kept ∙ known) len before.1 in
      let less : k < length (entries_of f ps) =
      subst (λ n. k < n) (sym (length-map ps (λ q. entry_at f q.path q.what))) c.loop-count-test.true in (
        adds_next _ _ _ (entries_of f ps) k e less
            (get_or-map (λ q. entry_at f q.path q.what) ps k p e c.loop-count-test.true
            ∙ ap (λ (q : Planned). entry_at f q.path q.what) here) before.0 next.0,
        next.1,
      );
  kept = c.make_entry.ensures.kept ∙ c.loop-count.invariant.kept;
}
