-- Writes of a server's own accord.
use Rattle.std.proofs.Common.{◌≡◌, ◌+◌, ℕ, Bool, true, false, cond, if◌then◌else◌, List, [], ◌∷◌, map, get_or, refl, ap}
use Rattle.std.proofs.Common.{subst, ◌∙◌, Option, Some, None, Result, Ok, Err, IsOk, nat_le}
use Rattle.std.proofs.Math.ListN.{set}
use Rattle.std.proofs.lemmas.Bool.{eqb-true}
use Rattle.object_state.specs.Persists.{may_write}
use Rattle.object_core.specs.Content.{Content}
use Rattle.message_values.specs.Found.{find, put, IsPlace}
use Rattle.message_values.specs.declared.message.Said.{Said}
use Rattle.message_values.specs.declared.message.Said.TheVariants as message
use Rattle.server_model.specs.declared.fault.ServerFault.{ServerFault}
use Rattle.server_model.specs.declared.fault.ServerFault.TheVariants.{WrongIncarnation, Ignored, NumbersSpent}
use Rattle.server_model.specs.declared.fault.ServerFault.TheVariants.{NeedObject, WrongClass, NoMemory}
use Rattle.server_model.specs.Server.{Activation, Server, Told, Refuses, Tells, from_server, is_act, scribbled}
use Rattle.server_model.specs.Server.{scribbled_open, stored_of}
use Rattle.server_model.specs.Opened.{Written, Writes, write_open}
use Rattle.server_model.proofs.Places.{seen_at, seen_put}
use Rattle.server_model.proofs.Known.{server}

-- what is found passes
pub found_passes : {A : Type 0} (test : A → Bool) (xs : List A) (x : A) → find test xs ≡ Some x → test x ≡ true
found_passes test [] x e = cc
found_passes test (y ∷ ys) x e =
    elim (test y) as (λ b. test y ≡ b → (if b then Some y else find test ys) ≡ Some x → test x ≡ true) [
      | true ↦ λ s h. (let same : y ≡ x = cc in subst (λ z. test z ≡ true) same s)
      | false ↦ λ s h. found_passes test ys x h
    ] refl e

abbrev after_write : Server → ℕ → Result Written ServerFault → Result Told ServerFault
after_write v act (Err fault) = Err fault
after_write v act (Ok b) =
    Ok (record {
      server = record v { acts = put (is_act act) b.activation v.acts };
      message = from_server v b.said;
    })

after_both : (v : Server) (act : ℕ) (may spent : Bool) (b : Written)
    → cond may (cond spent (Err NumbersSpent) (after_write v act (Ok b))) (Err Ignored)
    ≡ after_write v act (cond may (cond spent (Err NumbersSpent) (Ok b)) (Err Ignored))
after_both v act true true b = refl
after_both v act true false b = refl
after_both v act false spent b = refl

writes_after : (v : Server) (a : Activation) (content : Option Content)
    → scribbled_open v a content ≡ after_write v a.act (write_open v.inc v.numbers a content)
writes_after v a None = refl
writes_after v a (Some c) =
    after_both v a.act (may_write a.states.persist.state) (nat_le v.numbers a.w)
    (record { activation = record a { w = a.w + 1 }; said = message.Write v.inc a.act a.s (a.w + 1) (stored_of c) })

write_ok : (v : Server) (act : ℕ) (told : Result Written ServerFault) → IsOk told → IsOk (after_write v act told)
write_ok v act (Ok b) h = h
write_ok v act (Err fault) h = h

write_refused : (v : Server) (act : ℕ) (told : Result Written ServerFault) (fault : ServerFault)
    → Refuses told fault → Refuses (after_write v act told) fault
write_refused v act told WrongIncarnation h = ap (after_write v act) h
write_refused v act told Ignored h = ap (after_write v act) h
write_refused v act told NumbersSpent h = ap (after_write v act) h
write_refused v act told NeedObject h = ap (after_write v act) h
write_refused v act told WrongClass h = ap (after_write v act) h
write_refused v act told NoMemory h = write_ok v act told h

abbrev told_with : ℕ → ℕ → ℕ → Said → List Activation → Result Told ServerFault
told_with session inc numbers said acts =
    Ok (record { server = server session inc numbers acts; message = record { session = session; said = said } })

-- the activation at i writes
at_place : {A : Type 0} (session inc numbers : ℕ) (f : A → Activation) (xs : List A) (i act : ℕ) (x : A)
    → IsPlace (is_act act) (map f xs) i → x ≡ get_or xs i x
    → scribbled (server session inc numbers (map f xs)) (find (is_act act) (map f xs))
    ≡ after_write (server session inc numbers (map f xs)) act (write_open inc numbers (f x) (f x).content)
at_place session inc numbers f xs i act x p e =
    let v = server session inc numbers (map f xs) in
    let here : find (is_act act) (map f xs) ≡ Some (f x) = seen_at (is_act act) f xs i x p e in
    let number : (f x).act ≡ act = eqb-true _ _ (found_passes (is_act act) (map f xs) (f x) here) in
    ap (scribbled v) here ∙ (writes_after v (f x) (f x).content
    ∙ ap (λ (n : ℕ). after_write v n (write_open inc numbers (f x) (f x).content)) number)

pub write_told : {A : Type 0} (session inc numbers : ℕ) (f : A → Activation) (xs : List A) (i act : ℕ) (x y : A)
    (said : Said)
    → IsPlace (is_act act) (map f xs) i → x ≡ get_or xs i x
    → Writes (write_open inc numbers (f x) (f x).content) (f y) said
    → Tells (scribbled (server session inc numbers (map f xs)) (find (is_act act) (map f xs)))
    (server session inc numbers (map f (set xs i y))) (record { session = session; said = said })
write_told session inc numbers f xs i act x y said p e h =
    at_place session inc numbers f xs i act x p e
    ∙ (ap (after_write (server session inc numbers (map f xs)) act) h
    ∙ ap (told_with session inc numbers said) (seen_put (is_act act) f xs i y p))

pub write_refuses : {A : Type 0} (session inc numbers : ℕ) (f : A → Activation) (xs : List A) (i act : ℕ) (x : A)
    (fault : ServerFault)
    → IsPlace (is_act act) (map f xs) i → x ≡ get_or xs i x → Refuses (write_open inc numbers (f x) (f x).content) fault
    → Refuses (scribbled (server session inc numbers (map f xs)) (find (is_act act) (map f xs))) fault
write_refuses session inc numbers f xs i act x fault p e h =
    rw (at_place session inc numbers f xs i act x p e)
    (write_refused (server session inc numbers (map f xs)) act (write_open inc numbers (f x) (f x).content)
    fault h)
