use Rattle.std.proofs.Common.{◌≡◌, ◌-◌, ◌∙◌, Some, ap, length, map, subst, sym, ℕ, List}
use Rattle.std.specs.List.Sorted.{IsStrictlySortedBy}
use Rattle.std.specs.Map.{keys_of}
use Rattle.std.specs.Ordering.{is_lt}
use Rattle.std.specs.Prelude.{slice_get}
use Rattle.cfb_names.specs.Names.{key, key_cmp}
use Rattle.tree_rising.specs.Below.{AreBelow}
use Rattle.tree_rising.specs.Row.{entries_of}
use Rattle.tree_rising.proofs.Ascending.{above-last, last-below, lesser}
use Rattle.tree_rising.proofs.Rows.{keys-zip}
use Rattle.tree_rising.proofs.row.Row.is_behind.Goals as goal

pub returns-in-Some-clause-behind : goal.returns-in-Some-clause-behind
returns-in-Some-clause-behind c =
    let names = c.self.inside.names.items in
    let k = key c.args.name.now in
    let last = c.in-Some.last.now in
    let keys : keys_of (entries_of c.args.self.now) ≡ map key names =
    ap (λ row. keys_of (entries_of row)) (sym c.self.view_is) ∙ keys-zip names c.self.inside.contents
    c.self.invariant in
    let ends : slice_get names (length names - 1) ≡ Some last =
    subst (λ (xs : List (List ℕ)). slice_get xs (length xs - 1) ≡ Some last) c.deref.ensures.value
    (sym c.in-Some.ensures.value) in
    let is : c.cmp.result ≡ key_cmp (key last) k = c.cmp.ensures
    ∙ ap (λ (q : List ℕ). key_cmp q c.key_of-key.result) c.key_of.ensures.key
    ∙ ap (key_cmp (key last)) c.key_of-key.ensures.key in (
      (λ h. subst (AreBelow k) (sym keys)
          (above-last names last k (subst (IsStrictlySortedBy key_cmp) keys c.requires) ends
          (sym is ∙ lesser c.cmp.result (sym c.is_lt.ensures ∙ h)))),
      (λ h. c.is_lt.ensures ∙ ap is_lt (is ∙ last-below names last k ends (subst (AreBelow k) keys h))),
    )
