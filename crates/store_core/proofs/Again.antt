-- A disk that is opened again after a commit that failed.
use Rattle.std.proofs.Common.{◌≡◌, inl, inr, ⊎_elim, ℕ, List, Bool, true, Some, Result, Ok, Err, IfOk, IfErr, ◌∙◌, ap}
use Rattle.std.proofs.Common.{sym}
use Rattle.store_model.specs.Image.{Image}
use Rattle.store_model.specs.Journal.{restored}
use Rattle.store_model.specs.Store.{CommitRefuses, IsBeforeOrAfter, StandsAsOneOf, StandsFor, UnlessDevice}
use Rattle.store_model.specs.declared.fault.StoreFault.{StoreFault}
use Rattle.store_model.specs.declared.fault.StoreFault.TheVariants.{Device, NeedsReopen, TooBig, Damaged, NoMemory}
use Rattle.store_core.specs.Resolved.{Ends, IsEither, IsTold}
use Rattle.store_core.specs.declared.outcome.Outcome.{Outcome}
use Rattle.store_core.specs.declared.outcome.Outcome.TheVariants.{Kept, Lost}

-- what stands for one of two documents, of which one is known
pub for_either : (old new document : List ℕ) → IsEither old new document → (c : Image) → StandsFor document c
    → IsBeforeOrAfter old new c
for_either old new document is c stands = ⊎_elim (λ was. inl (stands ∙ ap (λ (d : List ℕ). Some d) was))
    (λ now. inr (stands ∙ ap (λ (d : List ℕ). Some d) now)) is

-- what is not the new document is the old one
pub ends : (outcome : Outcome) (old bytes document : List ℕ) → IsEither old bytes document
    → IsTold outcome bytes document → Ends outcome old bytes document
ends Kept old bytes document is tells = tells
ends (Lost fault) old bytes document is tells = (tells, ⊎_elim (λ was. was) (λ now. absurd (tells now)) is)

-- what follows for an answer of any kind
pub both_ok : {T E : Type 0} (r : Result T E) (P Q R : T → Type 0) → ((x : T) → P x → Q x → R x) → IfOk r P
    → IfOk r Q → IfOk r R
both_ok (Ok x) P Q R then first second = then x first second
both_ok (Err e) P Q R then first second = tt

pub ok_then : {T E : Type 0} (r : Result T E) (P Q : T → Type 0) → ((x : T) → P x → Q x) → IfOk r P → IfOk r Q
ok_then (Ok x) P Q then has = then x has
ok_then (Err e) P Q then has = tt

pub err_then : {T E : Type 0} (r : Result T E) (P Q : E → Type 0) → ((e : E) → P e → Q e) → IfErr r P → IfErr r Q
err_then (Ok x) P Q then has = tt
err_then (Err e) P Q then has = then e has

-- a commit of a store that has to be opened again changes nothing
pub unchanged : (fault : StoreFault) (size : ℕ) (was now : Bool) (before after : ℕ) (P : Type 0) → was ≡ true
    → CommitRefuses size was now before after fault → UnlessDevice P fault → P
unchanged Device size was now before after P is refuses unless = let ready = refuses.0 in let none : ⊥ = cc in
    absurd none
unchanged NeedsReopen size was now before after P is refuses unless = unless
unchanged TooBig size was now before after P is refuses unless = unless
unchanged Damaged size was now before after P is refuses unless = unless
unchanged NoMemory size was now before after P is refuses unless = unless

-- what stands for the document of a disk that was opened again stands for what it stood for before
pub as_before : (outcomes : Image → Type 0) (old : Image) (document : List ℕ) → outcomes old
    → restored old ≡ Some document → (c : Image) → StandsFor document c → StandsAsOneOf outcomes c
as_before outcomes old document left opened c stands = (old, left, stands ∙ sym opened)
