-- Objects that are told of their grants, one after the other.
use Rattle.std.proofs.Common.{◌≡◌, ◌++◌, ℕ, List, [], ◌∷◌, map, OnErr, OnOk, Option, Some, None, Result, Ok, Err, refl}
use Rattle.std.proofs.Common.{sym, ap, ◌∙◌}
use Rattle.std.proofs.lemmas.List.{map-append}
use Rattle.std.specs.List.{AllByRecursion}
use Rattle.std.specs.Prelude.{option_to_list}
use Rattle.message_values.specs.Found.{find, put}
use Rattle.message_values.specs.declared.message.Message.{Message}
use Rattle.message_values.specs.declared.operation.Operation.{Operation}
use Rattle.message_values.specs.declared.operation.Operation.TheVariants.{UiActivate}
use Rattle.object_state.specs.declared.grant_states.Claim.{Claim}
use Rattle.container_links.specs.Asking.{installed, prepared_link}
use Rattle.container_links.proofs.AskingAll.{called_sent, installed_one}
use Rattle.container_model.specs.declared.answer.Action.TheVariants.{Send}
use Rattle.container_model.specs.declared.record.Object.{Object}
use Rattle.container_model.specs.Grants.{grant_each, requested}
use Rattle.container_model.specs.Record.{Record, asked_link, is_object, sends}
use Rattle.container_grants.specs.Granted.{actions_of, asked_by, asked_in, installed_by, installed_each, installed_in}
use Rattle.container_grants.specs.Granted.{ready, ready_in, sent_by, sent_in}
use Rattle.container_checks.proofs.LookupPlaces.{found_number}
use Rattle.container_steady.proofs.SteadyFinds.{find-put_other}

-- what a request makes of the record is what it makes of the objects
pub requested_is : (r : Record) (op : Operation) (found : Option Object)
    → requested r op found ≡ record {
      rec = record r { objects = asked_in op r.objects found };
      sent = sent_in op found;
    }
requested_is r op None = refl
requested_is r op (Some o) = refl

-- the same of several
abbrev pub granted_objects : List Object → List Claim → List Object
granted_objects os [] = os
granted_objects os (claim ∷ claims) = granted_objects (asked_by claim.object (UiActivate claim.g) os) claims

abbrev pub granted_sent : List Object → List Claim → List Message
granted_sent os [] = []
granted_sent os (claim ∷ claims) = sent_by claim.object (UiActivate claim.g) os
    ++ granted_sent (asked_by claim.object (UiActivate claim.g) os) claims

pub grant_each_is : (claims : List Claim) (r : Record) → grant_each r claims
    ≡ record { rec = record r { objects = granted_objects r.objects claims }; sent = granted_sent r.objects claims }
grant_each_is [] r = refl
grant_each_is (claim ∷ claims) r =
    let e : requested r (UiActivate claim.g) (find (is_object claim.object) r.objects) ≡ _ =
    requested_is r (UiActivate claim.g) (find (is_object claim.object) r.objects) in
    rw (e, grant_each_is claims (record r { objects = asked_by claim.object (UiActivate claim.g) r.objects })) refl

-- other objects than those of these claims are found as before
abbrev pub Agrees : List Object → List Object → List Claim → Type 0
Agrees before os claims = AllByRecursion (λ (claim : Claim). find (is_object claim.object) os
    ≡ find (is_object claim.object) before) claims

abbrev pub IsOther : Claim → Claim → Type 0
IsOther claim other = other.object ≡ claim.object → ⊥

-- claims of objects that differ
abbrev pub Differ : List Claim → Type 0
Differ [] = Unit {0}
Differ (claim ∷ claims) = AllByRecursion (IsOther claim) claims × Differ claims

-- an object is asked that another one's number doesn't find
asked_apart : (n m : ℕ) (op : Operation) (os : List Object) (found : Option Object) → find (is_object n) os ≡ found
    → (m ≡ n → ⊥) → find (is_object m) (asked_in op os found) ≡ find (is_object m) os
asked_apart n m op os None e ne = refl
asked_apart n m op os (Some o) e ne = find-put_other o.number m (record o { link = asked_link op o.link }) os refl
    (λ h. ne (sym h ∙ found_number n os o e))

agrees_on : (before os : List Object) (claim : Claim) (claims : List Claim) → Agrees before os claims
    → AllByRecursion (IsOther claim) claims → Agrees before (asked_by claim.object (UiActivate claim.g) os) claims
agrees_on before os claim [] a d = tt
agrees_on before os claim (c ∷ cs) a d = (
  asked_apart claim.object c.object (UiActivate claim.g) os (find (is_object claim.object) os) refl d.0 ∙ a.0,
  agrees_on before os claim cs a.1 d.1,
)

-- what was prepared for an object before makes of it what the definition says
ready_object : (claim : Claim) (found : Option Object) → (ready_in claim found).object ≡ claim.object
ready_object claim None = refl
ready_object claim (Some o) = refl

ready_found : (claim : Claim) (os : List Object) (found : Option Object)
    → installed_in (ready_in claim found).takes os found ≡ asked_in (UiActivate claim.g) os found
ready_found claim os None = refl
ready_found claim os (Some o) =
    ap (λ x. put (is_object o.number) x os)
    (installed_one (UiActivate claim.g) (prepared_link (UiActivate claim.g) o.link) o
    (installed (prepared_link (UiActivate claim.g) o.link) o) refl refl)

ready_one : (before os : List Object) (claim : Claim) → find (is_object claim.object) os
    ≡ find (is_object claim.object) before → installed_by (ready before claim).object (ready before claim).takes os
    ≡ asked_by claim.object (UiActivate claim.g) os
ready_one before os claim e =
    ap (λ n. installed_by n (ready before claim).takes os) (ready_object claim (find (is_object claim.object) before))
    ∙ (ap (λ found. installed_in (ready_in claim found).takes os (find (is_object claim.object) os)) (sym e)
    ∙ ready_found claim os (find (is_object claim.object) os))

pub installed_each_is : (before : List Object) (claims : List Claim) (os : List Object) → Agrees before os claims
    → Differ claims → installed_each (map (ready before) claims) os ≡ granted_objects os claims
installed_each_is before [] os a d = refl
installed_each_is before (claim ∷ claims) os a d =
    ap (λ xs. installed_each (map (ready before) claims) xs) (ready_one before os claim a.0)
    ∙ installed_each_is before claims (asked_by claim.object (UiActivate claim.g) os)
    (agrees_on before os claim claims a.1 d.0) d.1

-- what is sent then
action_found : (claim : Claim) (found : Option Object) → option_to_list (ready_in claim found).action
    ≡ sends (sent_in (UiActivate claim.g) found)
action_found claim None = refl
action_found claim (Some o) = called_sent (UiActivate claim.g) o.link

action_one : (before os : List Object) (claim : Claim) → find (is_object claim.object) os
    ≡ find (is_object claim.object) before → option_to_list (ready before claim).action
    ≡ sends (sent_by claim.object (UiActivate claim.g) os)
action_one before os claim e = ap (λ found. option_to_list (ready_in claim found).action) (sym e)
    ∙ action_found claim (find (is_object claim.object) os)

pub actions_are : (before : List Object) (claims : List Claim) (os : List Object) → Agrees before os claims
    → Differ claims → actions_of (map (ready before) claims) ≡ sends (granted_sent os claims)
actions_are before [] os a d = refl
actions_are before (claim ∷ claims) os a d =
    let rest = actions_are before claims (asked_by claim.object (UiActivate claim.g) os)
    (agrees_on before os claim claims a.1 d.0) d.1 in
    ap (λ xs. xs ++ actions_of (map (ready before) claims)) (action_one before os claim a.0)
    ∙ (ap (λ xs. sends (sent_by claim.object (UiActivate claim.g) os) ++ xs) rest
    ∙ sym (map-append Send (sent_by claim.object (UiActivate claim.g) os)
    (granted_sent (asked_by claim.object (UiActivate claim.g) os) claims)))

-- an object keeps its number, asked or not
pub same_number : {A E : Type 0} (r : Result A E) (o x y : Object) → y.number ≡ x.number → OnOk r (o ≡ y)
    → OnErr r (o ≡ x) → o.number ≡ x.number
same_number (Ok a) o x y same made kept = ap (λ (z : Object). z.number) made ∙ same
same_number (Err e) o x y same made kept = ap (λ (z : Object). z.number) kept
