use Rattle.std.proofs.Common.{◌≡◌, ◌∙◌, ap, rules}
use Rattle.std.proofs.lemmas.Iterator.{YieldsList-from_map, YieldsList-from_zip}
use Rattle.std.proofs.lemmas.Iterator.Adapters.{YieldsList-from_vec, fact_from_collect}
use Rattle.std.proofs.lemmas.Result.{IfOk-weaker}
use Rattle.std.specs.BTreeMap.{IsFromIterResult}
use Rattle.std.specs.List.{zip}
use Rattle.std.specs.List.Sorted.{IsStrictlySortedBy}
use Rattle.std.specs.Map.{keys_of}
use Rattle.cfb_names.specs.Names.{key_cmp}
use Rattle.tree_rising.specs.Row.{entries_of, entry_of}
use Rattle.tree_rising.proofs.Ascending.{made_row}
use Rattle.tree_rising.proofs.row.Row.into_map.Goals as goal

pub returns : goal.returns
returns c =
    let names = c.self.inside.names.items in
    let contents = c.in_ok-contents.contents.items in
    let row = zip names contents in
    IfOk-weaker c.collect.result (IsFromIterResult key_cmp (entries_of row))
    (λ map. IsStrictlySortedBy key_cmp (keys_of (entries_of c.args.self))
    → map.entries ≡ entries_of c.args.self)
    (made_row row c.args.self (ap (zip names) c.in_ok-contents.ensures ∙ c.self.view_is))
    (fact_from_collect (IsFromIterResult key_cmp) c.collect.result c.collect.ensures.ran
    (YieldsList-from_map _ entry_of
    (YieldsList-from_zip (YieldsList-from_vec names (search rules) (search rules))
    (YieldsList-from_vec contents (search rules) (search rules)))
    (search rules) (λ x r q k. search rules)))
