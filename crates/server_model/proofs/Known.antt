-- Calls of an activation that a server knows.
use Rattle.std.proofs.Common.{◌≡◌, ℕ, List, map, get_or, refl, ap, sym, ◌∙◌, Option, Some, None, Result, Ok, Err, IsOk}
use Rattle.std.proofs.Common.{Bool, false, [], ◌∷◌, is_some, arith}
use Rattle.std.proofs.Math.ListN.{set}
use Rattle.std.proofs.lemmas.Option.{slice_get-get_or}
use Rattle.message_values.specs.Found.{find, IsPlace}
use Rattle.message_values.specs.declared.operation.Operation.{Operation}
use Rattle.message_values.specs.declared.answer.Answer.{Answer}
use Rattle.message_values.specs.declared.message.Said.TheVariants.{Reply}
use Rattle.object_core.specs.Kinds.{Kind}
use Rattle.server_model.specs.declared.fault.ServerFault.{ServerFault}
use Rattle.server_model.specs.declared.fault.ServerFault.TheVariants.{WrongIncarnation, Ignored, NumbersSpent}
use Rattle.server_model.specs.declared.fault.ServerFault.TheVariants.{NeedObject, WrongClass, NoMemory}
use Rattle.server_model.specs.declared.counted.Counted.{Counted}
use Rattle.server_model.specs.Server.{Activation, Server, Acted, Served, Refuses, after_known, begun_class, called}
use Rattle.server_model.specs.Server.{is_act, known_call, unless_wanted, wanted_unknown}
use Rattle.server_model.specs.Opened.{Acts, TakesCall}
use Rattle.server_model.proofs.Places.{seen_at, seen_put}

after_ok : (v : Server) (act : ℕ) (told : Result Acted ServerFault) → IsOk told → IsOk (after_known v act told)
after_ok v act (Ok b) h = h
after_ok v act (Err fault) h = h

after_refused : (v : Server) (act : ℕ) (told : Result Acted ServerFault) (fault : ServerFault) → Refuses told fault
    → Refuses (after_known v act told) fault
after_refused v act told WrongIncarnation h = ap (after_known v act) h
after_refused v act told Ignored h = ap (after_known v act) h
after_refused v act told NumbersSpent h = ap (after_known v act) h
after_refused v act told NeedObject h = ap (after_known v act) h
after_refused v act told WrongClass h = ap (after_known v act) h
after_refused v act told NoMemory h = after_ok v act told h

abbrev pub server : ℕ → ℕ → ℕ → List Activation → Server
server session inc numbers acts = record { session = session; inc = inc; numbers = numbers; acts = acts }

abbrev taken : ℕ → ℕ → ℕ → Answer → Option Counted → List Activation → Result Served ServerFault
taken session inc numbers answer counted acts =
    Ok (record { server = server session inc numbers acts; answer = answer; counted = counted; used = false })

-- the activation at i takes the call
pub known_acts : {A : Type 0} (session inc numbers : ℕ) (f : A → Activation) (xs : List A) (i act n : ℕ)
    (op : Operation) (x y : A) (answer : Answer) (counted : Option Counted)
    → IsPlace (is_act act) (map f xs) i → x ≡ get_or xs i x → Acts (known_call (f x) n op) (f y) answer counted
    → (box : Option Kind)
    → called (server session inc numbers (map f xs)) act n op box (find (is_act act) (map f xs))
    ≡ Ok (record {
      server = server session inc numbers (map f (set xs i y));
      answer = answer;
      counted = counted;
      used = false;
    })
known_acts session inc numbers f xs i act n op x y answer counted p e h box =
    ap (called (server session inc numbers (map f xs)) act n op box) (seen_at (is_act act) f xs i x p e)
    ∙ (ap (after_known (server session inc numbers (map f xs)) act) h
    ∙ ap (taken session inc numbers answer counted) (seen_put (is_act act) f xs i y p))

-- or refuses it
pub known_refuses : {A : Type 0} (session inc numbers : ℕ) (f : A → Activation) (xs : List A) (i act n : ℕ)
    (op : Operation) (x : A) (fault : ServerFault)
    → IsPlace (is_act act) (map f xs) i → x ≡ get_or xs i x → Refuses (known_call (f x) n op) fault
    → (box : Option Kind)
    → Refuses (called (server session inc numbers (map f xs)) act n op box (find (is_act act) (map f xs))) fault
known_refuses session inc numbers f xs i act n op x fault p e h box =
    rw (seen_at (is_act act) f xs i x p e) (after_refused (server session inc numbers (map f xs)) act
    (known_call (f x) n op) fault h)

-- what a place has is found
found : {A : Type 0} (test : A → Bool) (xs : List A) (i : ℕ) → IsPlace test xs i → (x : A) × (find test xs ≡ Some x)
found test [] i p = absurd (omega (arith, p.fits))
found test (x ∷ xs) i p = (get_or (x ∷ xs) i x, p.found ∙ slice_get-get_or (x ∷ xs) i x p.fits)

known_unwanted : (session inc numbers : ℕ) (acts : List Activation) (act i : ℕ) (class : Option (List ℕ))
    → IsPlace (is_act act) acts i → wanted_unknown (server session inc numbers acts) class (find (is_act act) acts)
    ≡ None
known_unwanted session inc numbers acts act i class p = ap (wanted_unknown (server session inc numbers acts) class)
    (found (is_act act) acts i p).1

abbrev served : Server → Answer → Option Counted → Bool → Result Served ServerFault
served after answer counted used = Ok (record { server = after; answer = answer; counted = counted; used = used })

pub known_takes : (session inc numbers : ℕ) (acts : List Activation) (act i n : ℕ) (op : Operation)
    (box : Option Kind) (after : Server) (answer : Answer) (counted : Option Counted)
    → IsPlace (is_act act) acts i → called (server session inc numbers acts) act n op box (find (is_act act) acts)
    ≡ served after answer counted false
    → TakesCall (server session inc numbers acts) act n op box (find (is_act act) acts) after
    (record { session = session; said = Reply inc act n answer }) counted
known_takes session inc numbers acts act i n op box after answer counted p h = (
  answer,
  h ∙ ap (λ (class : Option (List ℕ)). served after answer counted (is_some class))
      (sym (known_unwanted session inc numbers acts act i (begun_class n op) p)),
  refl,
)

pub known_keeps : {A : Type 0} (session inc numbers : ℕ) (acts : List Activation) (act i : ℕ)
    (class : Option (List ℕ)) (box : Option A) → IsPlace (is_act act) acts i
    → box ≡ unless_wanted (wanted_unknown (server session inc numbers acts) class (find (is_act act) acts)) box
known_keeps session inc numbers acts act i class box p = rw (known_unwanted session inc numbers acts act i class p) refl
