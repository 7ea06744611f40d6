-- An object that is asked for an edit or to close, in its container.
use Rattle.std.proofs.Common.{◌≡◌, ◌<◌, ℕ, List, [], length, Result, Some, Ok, get_or, set, refl, sym, ◌∙◌, ap, subst}
use Rattle.std.proofs.Common.{IfSome, slice_get}
use Rattle.std.proofs.lemmas.Option.{slice_get_read}
use Rattle.message_values.specs.Found.{IsPlace, put}
use Rattle.container_model.specs.declared.answer.Action.{Action}
use Rattle.container_model.specs.declared.answer.Answer.{Answer}
use Rattle.container_model.specs.declared.fault.ContainerFault.{ContainerFault}
use Rattle.container_model.specs.declared.record.Object.{Object}
use Rattle.container_model.specs.Numbered.{IsObjectAt}
use Rattle.container_model.specs.Record.{Record, Refuses, Took, acts, is_object, with_object}

-- what holds of the object that stands there
here : (P : Object → Type 0) (s r : Record) (i : ℕ) (x : Object) → s ≡ r → i < length r.objects
    → x ≡ get_or s.objects i x → P x → IfSome (slice_get r.objects i) P
here P s r i x e lt at p = let h : slice_get r.objects i ≡ Some x =
    slice_get_read r.objects (length r.objects) i x refl lt (at ∙ ap (λ t. get_or t.objects i x) e) in rw h p

pub object_refused : (F : Record → Object → Result Took ContainerFault) (s r : Record) (i : ℕ) (x : Object)
    (fault : ContainerFault) → s ≡ r → i < length r.objects → x ≡ get_or s.objects i x
    → ((q : Record) → q.numbers ≡ s.numbers → Refuses (F q x) fault)
    → IfSome (slice_get r.objects i) (λ o. Refuses (F r o) fault)
object_refused F s r i x fault e lt at h = here (λ o. Refuses (F r o) fault) s r i x e lt at
    (h r (ap (λ t. t.numbers) (sym e)))

changed : (s r r2 : Record) (i : ℕ) (x y : Object) → s ≡ r → IsPlace (is_object x.number) r.objects i
    → y.number ≡ x.number → r2 ≡ record s { objects = set s.objects i y } → with_object r y ≡ r2
changed s r r2 i x y e p number is =
    let h : put (is_object y.number) y r.objects ≡ set s.objects i y =
    ap (λ n. put (is_object n) y r.objects) number ∙ (p.puts y ∙ ap (λ t. set t.objects i y) (sym e)) in
    let a : with_object r y ≡ record r { objects = set s.objects i y } =
    ap {A = List Object} (λ os. record r { objects = os }) h in
    let b : (record r { objects = set s.objects i y }) ≡ (record s { objects = set s.objects i y }) =
    ap {A = Record} (λ t. record t { objects = set s.objects i y }) (sym e) in
    a ∙ (b ∙ sym is)

place_of : (s r : Record) (i : ℕ) (x : Object) → s ≡ r → IsObjectAt r.objects i → x ≡ get_or s.objects i x
    → IsPlace (is_object x.number) r.objects i
place_of s r i x e p at =
    let h : slice_get r.objects i ≡ Some x = slice_get_read r.objects (length r.objects) i x refl p.fits
    (at ∙ ap (λ t. get_or t.objects i x) e) in
    subst (λ t. IfSome t (λ o. IsPlace (is_object o.number) r.objects i)) h p.own

pub object_taken : (F : Record → Object → Result Took ContainerFault) (s r r2 : Record) (i : ℕ) (x y : Object)
    (actions : List Action) (a : Answer) → s ≡ r → IsObjectAt r.objects i → x ≡ get_or s.objects i x
    → ((q : Record) → q.numbers ≡ s.numbers
    → F q x ≡ Ok (record { rec = with_object q y; answer = acts actions; counted = [] }))
    → y.number ≡ x.number → r2 ≡ record s { objects = set s.objects i y } → a ≡ acts actions
    → IfSome (slice_get r.objects i) (λ o. F r o ≡ Ok (record { rec = r2; answer = a; counted = [] }))
object_taken F s r r2 i x y actions a e p at h number is told =
    here (λ o. F r o ≡ Ok (record { rec = r2; answer = a; counted = [] })) s r i x e p.fits at
    (h r (ap (λ t. t.numbers) (sym e))
    ∙ (ap (λ t. Ok (record { rec = t; answer = acts actions; counted = [] }))
    (changed s r r2 i x y e (place_of s r i x e p at) number is)
    ∙ ap (λ t. Ok (record { rec = r2; answer = t; counted = [] })) (sym told)))
