-- What choices and options tell.
use Rattle.std.proofs.Common.{◌≡◌, Bool, true, false, Option, Some, None, Result, Ok, refl, sym, ap, subst}
use Rattle.std.proofs.Common.{if◌then◌else◌}
use Rattle.std.specs.Prelude.{◌||◌, ◌&&◌, IsSomeAnd, IfSome}
use Rattle.container_model.specs.declared.fault.ContainerFault.{ContainerFault}
use Rattle.container_model.specs.Record.{Took, unless}

pub if_told : {A : Type 0} (P : A → Type 0) (b : Bool) (x y : A) → (b ≡ true → P x) → (b ≡ false → P y)
    → P (if b then x else y)
if_told P true x y p q = p refl
if_told P false x y p q = q refl

pub unless_ok : {A : Type 0} (b : Bool) (fault : ContainerFault) (next : Result A ContainerFault) (t : A)
    → unless b fault next ≡ Ok t → (b ≡ false) × (next ≡ Ok t)
unless_ok true fault next t e = cc
unless_ok false fault next t e = (refl, e)

pub and_both : (a b : Bool) → (a && b) ≡ true → (a ≡ true) × (b ≡ true)
and_both true b e = (refl, e)
and_both false b e = absurd (cc)

pub or_false : (a b : Bool) → (a || b) ≡ false → (a ≡ false) × (b ≡ false)
or_false true b e = absurd (cc)
or_false false b e = (refl, e)

pub some_and : {A : Type 0} (P : A → Type 0) (o : Option A) → IsSomeAnd o P → (x : A) × (o ≡ Some x) × P x
some_and P None h = absurd h
some_and P (Some x) h = (x, refl, h)

pub and_some : {A : Type 0} (P : A → Type 0) (o : Option A) (x : A) → o ≡ Some x → P x → IsSomeAnd o P
and_some P o x e p = subst (λ z. IsSomeAnd z P) (sym e) p

pub at_some : {A : Type 0} (P : A → Type 0) (o : Option A) (x : A) → o ≡ Some x → IsSomeAnd o P → P x
at_some P o x e h = subst (λ z. IsSomeAnd z P) e h

pub if_weaker : {A : Type 0} (P Q : A → Type 0) (o : Option A) → ((x : A) → P x → Q x) → IfSome o P → IfSome o Q
if_weaker P Q None k h = tt
if_weaker P Q (Some x) k h = k x h

pub if_each : {A : Type 0} (P Q : A → Type 0) (o : Option A) → ((x : A) → o ≡ Some x → P x → Q x) → IfSome o P
    → IfSome o Q
if_each P Q None k h = tt
if_each P Q (Some x) k h = k x refl h

pub if_at : {A : Type 0} (P : A → Type 0) (o : Option A) (x : A) → o ≡ Some x → IfSome o P → P x
if_at P o x e h = subst (λ z. IfSome z P) e h

pub ok_rec : (u t : Took) → ◌≡◌ {A = Result Took ContainerFault} (Ok u) (Ok t) → u.rec ≡ t.rec
ok_rec u t e = (let same : u ≡ t = cc in ap (λ (z : Took). z.rec) same)
