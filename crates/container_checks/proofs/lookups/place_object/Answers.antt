use Rattle.std.proofs.Common.{◌≡◌, ap, subst, sym, List, None, IfSome, MatchOption, rules}
use Rattle.std.proofs.lemmas.List.Sorted.{answers_always}
use Rattle.std.specs.Result.{result_ok}
use Rattle.message_values.specs.Found.{find, IsPlace}
use Rattle.container_model.specs.declared.record.Object.{Object}
use Rattle.container_model.specs.Numbered.{IsObjectAt}
use Rattle.container_model.specs.Record.{is_object}
use Rattle.container_checks.proofs.Numbers.{found_by, numbers, own_by, still}
use Rattle.container_checks.proofs.lookups.place_object.Goals as goal

pub returns-clause-found : goal.returns-clause-found
returns-clause-found c =
    let same : c.deref.result.now ≡ c.args.objects.now.list.items = c.deref.ensures.value in
    let by_number = c.binary_search_by_key.ensures.position (λ (o : Object). o.number)
    (answers_always _ _ _ (λ f a r g called. search rules)) in
    let given : c.ok.result ≡ result_ok c.binary_search_by_key.result = c.ok.ensures.value in
    rw given (subst (λ (os : List Object). MatchOption (result_ok c.binary_search_by_key.result)
    (find (is_object c.args.number) os ≡ None) (IsPlace (is_object c.args.number) os)) same
    (found_by c.args.number c.deref.result.now (still c.args.objects.now.rising (ap numbers (sym same)))
    c.binary_search_by_key.result c.binary_search_by_key.ensures.bound by_number))

pub returns-clause-own : goal.returns-clause-own
returns-clause-own c =
    let same : c.deref.result.now ≡ c.args.objects.now.list.items = c.deref.ensures.value in
    let by_number = c.binary_search_by_key.ensures.position (λ (o : Object). o.number)
    (answers_always _ _ _ (λ f a r g called. search rules)) in
    let given : c.ok.result ≡ result_ok c.binary_search_by_key.result = c.ok.ensures.value in
    rw given (subst (λ (os : List Object). IfSome (result_ok c.binary_search_by_key.result) (IsObjectAt os)) same
    (own_by c.args.number c.deref.result.now (still c.args.objects.now.rising (ap numbers (sym same)))
    c.binary_search_by_key.result c.binary_search_by_key.ensures.bound by_number))
