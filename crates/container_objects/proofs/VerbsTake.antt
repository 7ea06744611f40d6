-- An object that takes its frame, and the one that has it.
use Rattle.std.proofs.Common.{◌≡◌, ◌≢◌, ◌<◌, ◌==◌, ◌++◌, ℕ, zero, suc, Bool, true, false, List, [], ◌∷◌, length, Option}
use Rattle.std.proofs.Common.{Some, None, IfSome, refl, ap, sym, ◌∙◌, subst, slice_get, if◌then◌else◌, arith}
use Rattle.std.proofs.lemmas.List.{map-append}
use Rattle.std.proofs.lemmas.Option.{same_Some}
use Rattle.std.specs.Prelude.{slice_set}
use Rattle.message_values.specs.Found.{IsPlace, find, put}
use Rattle.message_values.specs.declared.message.Message.{Message}
use Rattle.message_values.specs.declared.operation.Operation.TheVariants.{UiDeactivate}
use Rattle.container_model.specs.declared.record.Object.{Object}
use Rattle.container_model.specs.Numbered.{IsObjectAt}
use Rattle.container_model.specs.Record.{asked_link, asked_sent, is_object, sends}
use Rattle.container_objects.specs.Stepping.{told_in, told_objects, told_one, told_sent}
use Rattle.container_model.specs.declared.answer.Action.TheVariants.{Send}
use Rattle.container_checks.proofs.LookupPlaces.{found_number}

-- what stands at a place
pub item_at : {A : Type 0} (xs : List A) (i : ℕ) → i < length xs → (x : A) × (slice_get xs i ≡ Some x)
item_at [] i lt = absurd (omega arith)
item_at (x ∷ xs) zero lt = (x, refl)
item_at (x ∷ xs) (suc i) lt = item_at xs i (omega arith)

own_at : (os : List Object) (i : ℕ) (o : Object) → IsObjectAt os i → slice_get os i ≡ Some o
    → IsPlace (is_object o.number) os i
own_at os i o p e = subst (λ t. IfSome t (λ x. IsPlace (is_object x.number) os i)) e p.own

-- nobody is told
pub told_none : (os : List Object) (holder : Option ℕ) → holder ≡ None → told_objects holder os ≡ os
told_none os holder e = ap (λ h. told_objects h os) e

pub told_nobody : (os : List Object) (holder : Option ℕ) (n : ℕ) → holder ≡ Some n → find (is_object n) os ≡ None
    → told_objects holder os ≡ os
told_nobody os holder n e f = ap (λ h. told_objects h os) e ∙ ap (told_in os) f

pub alone : (os : List Object) (i : ℕ) (o a : Object) (holder : Option ℕ) → IsObjectAt os i
    → slice_get os i ≡ Some o → told_objects holder os ≡ os → slice_set os i a
    ≡ put (is_object o.number) a (told_objects holder os)
alone os i o a holder p e told = sym ((own_at os i o p e).puts a) ∙ ap (put (is_object o.number) a) (sym told)

-- the object isn't the one that has the frame
apart_of : (os : List Object) (i j n : ℕ) (o : Object) → slice_get os i ≡ Some o → n ≢ o.number
    → IsPlace (is_object n) os j → i ≡ j → ⊥
apart_of os i j n o e ne p same = ne (sym (found_number n os o (p.found ∙ (ap (slice_get os) (sym same) ∙ e))))

pub not_holder : (os : List Object) (i : ℕ) (o : Object) (holder : Option ℕ) (n : ℕ) → slice_get os i ≡ Some o
    → IfSome (slice_get os i) (λ x. IfSome holder (λ m. m ≢ x.number)) → holder ≡ Some n → n ≢ o.number
not_holder os i o holder n e a h = subst (λ t. IfSome t (λ m. m ≢ o.number)) h
    (subst (λ t. IfSome t (λ x. IfSome holder (λ m. m ≢ x.number))) e a)

pub apart_at : (os : List Object) (i j : ℕ) (holder : Option ℕ) (n : ℕ) → i < length os
    → IfSome (slice_get os i) (λ x. IfSome holder (λ m. m ≢ x.number)) → holder ≡ Some n
    → IsPlace (is_object n) os j → i ≡ j → ⊥
apart_at os i j holder n lt a h p =
    let x : (o : Object) × (slice_get os i ≡ Some o) = item_at os i lt in
    apart_of os i j n x.0 x.1 (not_holder os i x.0 holder n x.1 a h) p

-- an item that doesn't pass is changed
put_later : {A : Type 0} (test : A → Bool) (zs : List A) (j : ℕ) (a z y : A) (b : Bool)
    → put test a (slice_set zs j y) ≡ slice_set (put test a zs) j y
    → (if b then a ∷ slice_set zs j y else z ∷ put test a (slice_set zs j y))
    ≡ slice_set (if b then a ∷ zs else z ∷ put test a zs) (suc j) y
put_later test zs j a z y true ih = refl
put_later test zs j a z y false ih = ap (λ ys. z ∷ ys) ih

put_past : {A : Type 0} (test : A → Bool) (xs : List A) (j : ℕ) (a x y : A) → slice_get xs j ≡ Some x
    → test x ≡ false → test y ≡ false → put test a (slice_set xs j y) ≡ slice_set (put test a xs) j y
put_past test [] j a x y e t u = refl
put_past test (z ∷ zs) zero a x y e t u = let tz : test z ≡ false = ap test (same_Some z x e) ∙ t in rw (u, tz) refl
put_past test (z ∷ zs) (suc j) a x y e t u = put_later test zs j a z y (test z) (put_past test zs j a x y e t u)

-- the object that has the frame is told, and the object is asked
told_at : (os : List Object) (j : ℕ) (holder : Option ℕ) (n : ℕ) (h : Object) → holder ≡ Some n
    → IsPlace (is_object n) os j → IsObjectAt os j → slice_get os j ≡ Some h
    → told_objects holder os ≡ slice_set os j (record h { link = asked_link UiDeactivate h.link })
told_at os j holder n h e p own at =
    ap (λ t. told_objects t os) e
    ∙ (ap (told_in os) (p.found ∙ at) ∙ (own_at os j h own at).puts
    (record h { link = asked_link UiDeactivate h.link }))

differs : (n m k : ℕ) → n ≢ k → m ≡ n → (m == k) ≡ false
differs n m k ne e = grind arith

pub both : (os : List Object) (i j : ℕ) (holder : Option ℕ) (n : ℕ) (o h a : Object) → IsObjectAt os i
    → slice_get os i ≡ Some o → IfSome (slice_get os i) (λ x. IfSome holder (λ m. m ≢ x.number))
    → holder ≡ Some n → IsPlace (is_object n) os j → IsObjectAt os j → slice_get os j ≡ Some h
    → slice_set (slice_set os i a) j (record h { link = asked_link UiDeactivate h.link })
    ≡ put (is_object o.number) a (told_objects holder os)
both os i j holder n o h a p e apart t q own at =
    let told : (h.number == o.number) ≡ false = differs n h.number o.number (not_holder os i o holder n e apart t)
    (found_number n os h (q.found ∙ at)) in
    sym (ap (put (is_object o.number) a) (told_at os j holder n h t q own at)
    ∙ (put_past (is_object o.number) os j a h (record h { link = asked_link UiDeactivate h.link }) at told told
    ∙ ap (λ xs. slice_set xs j (record h { link = asked_link UiDeactivate h.link })) ((own_at os i o p e).puts a)))

pub both_sent : (os : List Object) (j : ℕ) (holder : Option ℕ) (n : ℕ) (h : Object) (own : List Message)
    → holder ≡ Some n → IsPlace (is_object n) os j → slice_get os j ≡ Some h
    → sends (asked_sent UiDeactivate h.link) ++ sends own ≡ sends (told_sent holder os ++ own)
both_sent os j holder n h own t q at =
    sym (ap (λ ms. sends (ms ++ own)) (ap (λ x. told_sent x os) t ∙ ap told_one (q.found ∙ at))
    ∙ map-append Send (asked_sent UiDeactivate h.link) own)
