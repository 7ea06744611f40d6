use Rattle.std.proofs.Common.{◌≡◌, List, [], ◌∷◌, ◌++◌, ◌∙◌, ap, rules}
use Rattle.store_memory.specs.declared.areas.Call.{Call}
use Rattle.store_memory.specs.declared.areas.Call.TheVariants.{Write}
use Rattle.store_memory.proofs.areas.log_write.Goals as goal

pub returns-clause-logged : goal.returns-clause-logged
returns-clause-logged c =
    let same : c.in_ok-kept.kept.items ≡ c.args.bytes.now = search rules in (
      c.in_ok-kept.kept,
      same,
      c.push.ensures
          ∙ ap (λ (calls : List Call). calls ++ Write c.args.area c.args.at c.in_ok-kept.kept ∷ [])
          c.reserve.ensures.items,
    )
