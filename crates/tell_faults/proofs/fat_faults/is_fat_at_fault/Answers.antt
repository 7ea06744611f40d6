use Rattle.std.proofs.Common.{◌≡◌, ◌<◌, ◌≤◌, ◌∙◌, List, ℕ, arith, false, inl, inr, length, ltb, subst, sym, true}
use Rattle.std.proofs.lemmas.Bool.{cases_lt, lt-ltb, ltb-true}
use Rattle.cfb_faults.specs.Faults.{IsFatAtFault}
use Rattle.tell_faults.proofs.Fats.{absent_free, absent_told, back_free, back_told, crossed_free, crossed_told}
use Rattle.tell_faults.proofs.Fats.{short_free, short_told}
use Rattle.tell_faults.proofs.fat_faults.is_fat_at_fault.Goals as goal

past : (n m : ℕ) {k l : ℕ} → ltb n m ≡ false → m ≡ k → n ≡ l → k ≤ l
past n m t e f = elim (cases_lt n m) [ inl lt ↦ absurd (cc (t, lt-ltb n m lt)) | inr le ↦ omega (arith, le, e, f) ]

pub returns-in-OutOfFile-clause-told : goal.returns-in-OutOfFile-clause-told
returns-in-OutOfFile-clause-told c = λ t file l e.
    subst (IsFatAtFault file) (sym c.in-OutOfFile.is)
    (absent_told file c.args.lists.now.fat.items c.args.lists.now.difat.items c.args.lists.now.entries.items l
    c.len-count.result (omega arith) c.args.all.now c.requires (c.is_any_absent.ensures.absent t))

pub returns-in-OutOfFile-clause-free : goal.returns-in-OutOfFile-clause-free
returns-in-OutOfFile-clause-free c = λ t file l e h.
    absent_free file c.args.lists.now.fat.items c.args.lists.now.difat.items c.args.lists.now.entries.items l
    c.len-count.result (omega arith) c.args.all.now c.requires (c.is_any_absent.ensures.present t)
    (subst (IsFatAtFault file) c.in-OutOfFile.is h)

pub returns-in-Cycle-clause-told : goal.returns-in-Cycle-clause-told
returns-in-Cycle-clause-told c = λ t file l e.
    subst (IsFatAtFault file) (sym c.in-Cycle.is)
    (back_told file c.args.lists.now.fat.items c.args.lists.now.difat.items c.args.lists.now.entries.items l
    c.len-count.result (omega arith) c.deref.result.now c.deref.ensures.value (c.comes_back.ensures.back t))

pub returns-in-Cycle-clause-free : goal.returns-in-Cycle-clause-free
returns-in-Cycle-clause-free c = λ t file l e h.
    back_free file c.args.lists.now.fat.items c.args.lists.now.difat.items c.args.lists.now.entries.items l
    c.len-count.result (omega arith) c.deref.result.now c.deref.ensures.value (c.comes_back.ensures.never t)
    (subst (IsFatAtFault file) c.in-Cycle.is h)

pub returns-in-CrossLinked-clause-told : goal.returns-in-CrossLinked-clause-told
returns-in-CrossLinked-clause-told c = λ t file l e.
    subst (IsFatAtFault file) (sym c.in-CrossLinked.is)
    (crossed_told file c.args.lists.now.fat.items c.args.lists.now.difat.items c.args.lists.now.entries.items l
    c.len-count.result (omega arith) c.deref-in-CrossLinked.result.now c.args.all.now
    c.deref-in-CrossLinked.ensures.value c.requires (c.are_crossed.ensures.crossed t))

pub returns-in-CrossLinked-clause-free : goal.returns-in-CrossLinked-clause-free
returns-in-CrossLinked-clause-free c = λ t file l e h.
    crossed_free file c.args.lists.now.fat.items c.args.lists.now.difat.items c.args.lists.now.entries.items l
    c.len-count.result (omega arith) c.deref-in-CrossLinked.result.now c.args.all.now
    c.deref-in-CrossLinked.ensures.value c.requires (c.are_crossed.ensures.apart t)
    (subst (IsFatAtFault file) c.in-CrossLinked.is h)

pub returns-in-ShortChain-clause-told : goal.returns-in-ShortChain-clause-told
returns-in-ShortChain-clause-told c = λ t file l e.
    subst (IsFatAtFault file) (sym c.in-ShortChain.is)
    (short_told file c.args.lists.now.fat.items c.args.lists.now.difat.items c.args.lists.now.entries.items l
    c.len-count.result (omega arith) (let lt = ltb-true c.len.result c.args.wanted t in omega (arith, lt, e)))

pub returns-in-ShortChain-clause-free : goal.returns-in-ShortChain-clause-free
returns-in-ShortChain-clause-free c = λ t file l e h.
    short_free file c.args.lists.now.fat.items c.args.lists.now.difat.items c.args.lists.now.entries.items l
    c.len-count.result (omega arith) (past c.len.result c.args.wanted t e (omega arith))
    (subst (IsFatAtFault file) c.in-ShortChain.is h)
