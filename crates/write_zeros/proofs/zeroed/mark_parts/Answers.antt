use Rattle.std.proofs.Common.{List, ℕ, subst, sym}
use Rattle.write_zeros.specs.Taken.{AllIn}
use Rattle.write_zeros.proofs.zeroed.mark_parts.Goals as goal

pub returns : goal.returns
returns c = λ taken own w.
    let P : List ℕ → Type 0 = λ ns. AllIn ns taken in
    c.mark_all-5.ensures taken (subst P (sym c.deref-5.ensures.value) own.mini_stream)
    (c.mark_all-4.ensures taken (subst P (sym c.deref-4.ensures.value) own.mini_fat)
    (c.mark_all-3.ensures taken (subst P (sym c.deref-3.ensures.value) own.directory)
    (c.mark_all-2.ensures taken (subst P (sym c.deref-2.ensures.value) own.difat)
    (c.mark_all.ensures taken (subst P (sym c.deref.ensures.value) own.fat) w))))
