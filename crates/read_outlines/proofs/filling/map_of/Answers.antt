use Rattle.std.proofs.Common.{◌≡◌, rules}
use Rattle.std.proofs.lemmas.Iterator.Adapters.{YieldsList-from_vec, fact_from_collect}
use Rattle.std.proofs.lemmas.Result.{IfOk-weaker}
use Rattle.std.specs.BTreeMap.{IsFromIterResult}
use Rattle.std.specs.List.Sorted.{IsStrictlySortedBy}
use Rattle.std.specs.Map.{keys_of}
use Rattle.cfb_names.specs.Names.{key_cmp}
use Rattle.read_outlines.proofs.Sorted.{made_sorted}
use Rattle.read_outlines.proofs.filling.map_of.Goals as goal

pub returns : goal.returns
returns c =
    let xs = c.args.pairs.items in
    IfOk-weaker c.collect.result (IsFromIterResult key_cmp xs) (λ map. IsStrictlySortedBy key_cmp (keys_of xs)
    → map.entries ≡ xs) (made_sorted xs)
    (fact_from_collect (IsFromIterResult key_cmp) c.collect.result c.collect.ensures.ran
    (YieldsList-from_vec {s = c.into_iter.result} xs (search rules) (search rules)))
