use Rattle.std.proofs.Common.{refl}
use Rattle.tell_files.proofs.Checked.{checked_next}
use Rattle.tell_files.proofs.many.check_all.Goals as goal

pub loop-name-preserved : goal.loop-name-preserved
loop-name-preserved g c =
    checked_next (λ n. n.now) c.args.names.now c.loop-name.name-index (_) (g.C.Checker.checked c.args.checker.now)
    (g.C.Checker.checked c.loop-name.checker)
    (g.C.Checker.checked c.check-are_sound.new.self) c.loop-name.are_sound c.check-are_sound.result (_)
    c.loop-name-test.true refl c.loop-name.invariant c.check-are_sound.ensures
