use Rattle.std.proofs.Common.{◌≡◌, ◌<◌, ℕ, [], ◌∷◌, ◌++◌, false, length, set, sym, ◌∙◌, ap, subst, arith}
use Rattle.std.proofs.Math.ListN.{length-set}
use Rattle.std.specs.List.{All}
use Rattle.cfb_entries.specs.Walk.{clear_all}
use Rattle.cfb_entries.proofs.Marks.{All-front, clear_all-push}
use Rattle.read_directories.proofs.entries.Table.unmark.Goals as goal

pub loop-id-preserved : goal.loop-id-preserved
loop-id-preserved c =
    let i = c.loop-id.invariant in
    let used = c.loop-id.self-inside.used.items in
    let rest = c.pop.new.self.items in
    let id = c.in-Some.id in
    let popped : c.loop-id.found.items ≡ rest ++ id ∷ [] = c.in-Some.ensures.items in
    let P : ℕ → Type 0 = λ n. n < length (set used id false) in
    let same : length used ≡ length (set used id false) = sym (length-set used id false) in
    record {
      directory = i.directory;
      count = sym same ∙ i.count;
      inside = All-front P rest id (subst (All P) popped (λ k d lt. let l = i.inside k d lt in omega (arith, l)));
      kept = omega (arith, i.kept, c.in-Some.ensures.capacity);
      cleared = sym (clear_all-push used rest id) ∙ ap (clear_all used) (sym popped) ∙ i.cleared;
    }
