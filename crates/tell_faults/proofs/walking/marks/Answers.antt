use Rattle.std.proofs.Common.{◌∙◌, Bool, List, arith, sym, get_or, set, take, true, false, replicate, ap, ◌≡◌, ◌++◌}
use Rattle.std.proofs.Common.{◌∷◌, []}
use Rattle.std.proofs.lemmas.List.{take_more}
use Rattle.cfb_bytes.specs.Marks.{set_all}
use Rattle.cfb_chains.proofs.Marks.{set_all-append}
use Rattle.tell_faults.proofs.walking.marks.Goals as goal

pub loop-n-preserved : goal.loop-n-preserved
loop-n-preserved c =
    c.mark.ensures ∙ ap (λ (x : List Bool). set x (get_or c.args.taken.now c.loop-n.n-index 0) true) c.loop-n.invariant
    ∙ sym (set_all-append (replicate c.args.count false) (take c.loop-n.n-index c.args.taken.now)
    (get_or c.args.taken.now c.loop-n.n-index 0 ∷ []))
    ∙ ap (set_all (replicate c.args.count false))
    (sym (take_more c.args.taken.now c.loop-n.n-index 0 c.loop-n-test.true))
