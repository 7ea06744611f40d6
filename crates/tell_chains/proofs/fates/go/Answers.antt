use Rattle.std.proofs.Common.{◌≡◌, ◌<◌, ◌∷◌, ◌++◌, [], List, ℕ, arith, get_or, length, set, subst, sym}
use Rattle.tell_chains.specs.Fates.{AreFates, IsFree, Runs}
use Rattle.tell_chains.specs.declared.fates.Fate.TheVariants as fate
use Rattle.tell_chains.proofs.Leading.{fates_set, runs_none, runs_push}
use Rattle.tell_chains.proofs.fates.go.Goals as goal

pub loop-init : goal.loop-init
loop-init c = (
  subst (λ (w : List ℕ). Runs c.args.table.now c.args.stops.now c.args.first w c.args.first) (sym c.requires.empty)
      (runs_none c.args.table.now c.args.stops.now c.args.first),
  c.requires.fates,
)

pub loop-preserved : goal.loop-preserved
loop-preserved c =
    let free : IsFree c.args.table.now c.args.stops.now c.loop.at = (
      omega (arith, (c.is_new.ensures.new c.if-not-is_new.false).0, c.requires.sized),
      (c.is_new.ensures.new c.if-not-is_new.false).1,
    ) in (
      rw c.in_ok-push.ensures.items
          (runs_push c.args.table.now c.args.stops.now c.args.first c.loop.at c.loop.way.items c.loop.invariant.0 free),
      rw c.note.ensures
          (fates_set c.args.table.now c.args.stops.now c.loop.fates.items c.loop.at fate.Met c.loop.invariant.1 tt),
    )
