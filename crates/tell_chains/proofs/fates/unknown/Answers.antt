use Rattle.std.proofs.Common.{◌≡◌, refl}
use Rattle.std.proofs.lemmas.List.Elements.{All-push}
use Rattle.tell_chains.specs.declared.fates.Fate.{Fate}
use Rattle.tell_chains.specs.declared.fates.Fate.TheVariants as fate
use Rattle.tell_chains.proofs.Leading.{all_unknown}
use Rattle.tell_chains.proofs.fates.unknown.Goals as goal

pub loop-preserved : goal.loop-preserved
loop-preserved c = rw c.in_ok-push.ensures.items (All-push (λ (f : Fate). f ≡ fate.Unknown) c.loop.fates.items
    fate.Unknown c.loop.invariant refl)

pub returns : goal.returns
returns c = λ table stops. all_unknown table stops c.loop.fates.items c.loop.invariant
