-- Calls of a server's own session, for its own incarnation.
use Rattle.std.proofs.Common.{◌≡◌, ℕ, Bool, true, false, ◌&&◌, cond, nat_eq, List, refl, ap, sym, subst, ◌∙◌, eqb-true}
use Rattle.std.proofs.Common.{Option, Some, None, is_some, Result, Ok, Err}
use Rattle.std.specs.Prelude.{IfOk, IfErr, OnOk}
use Rattle.std.proofs.lemmas.Result.{IfOk-weaker}
use Rattle.message_values.specs.Found.{find}
use Rattle.message_values.specs.declared.operation.Operation.{Operation}
use Rattle.message_values.specs.declared.answer.Answer.{Answer}
use Rattle.message_values.specs.declared.message.Message.{Message}
use Rattle.message_values.specs.declared.message.Said.{Said}
use Rattle.message_values.specs.declared.message.Said.TheVariants.{Call, Reply}
use Rattle.object_core.specs.Kinds.{Kind}
use Rattle.server_model.specs.declared.counted.Counted.{Counted}
use Rattle.server_model.specs.declared.fault.ServerFault.{ServerFault}
use Rattle.server_model.specs.declared.fault.ServerFault.TheVariants.{WrongIncarnation}
use Rattle.server_model.specs.Server.{Activation, Server, Served, Refuses, Takes, begun_class, called, from_server}
use Rattle.server_model.specs.Server.{is_act, is_for, on_call, on_said, unless_wanted, wanted, wanted_by}
use Rattle.server_model.specs.Server.{wanted_unknown}
use Rattle.server_model.specs.Opened.{TakesCall}

both_true : (b c : Bool) → (b && c) ≡ true → (b ≡ true) × (c ≡ true)
both_true true true e = (refl, refl)
both_true true false e = cc
both_true false c e = cc

-- whose it is, of one that is this server's
pub its_session : (v : Server) (session inc : ℕ) → is_for v session inc ≡ true → session ≡ v.session
its_session v session inc t = eqb-true session v.session (both_true (nat_eq session v.session) (nat_eq inc v.inc) t).0

its_inc : (v : Server) (session inc : ℕ) → is_for v session inc ≡ true → inc ≡ v.inc
its_inc v session inc t = eqb-true inc v.inc (both_true (nat_eq session v.session) (nat_eq inc v.inc) t).1

-- a call for this server
call_here : (v : Server) (session inc act n : ℕ) (op : Operation) (box : Option Kind) → is_for v session inc ≡ true
    → on_said v session (Call inc act n op) box ≡ called v act n op box (find (is_act act) v.acts)
call_here v session inc act n op box t =
    ap (λ b. cond b (called v act n op box (find (is_act act) v.acts)) (Err WrongIncarnation)) t

wanted_here : (v : Server) (session inc act n : ℕ) (op : Operation) → is_for v session inc ≡ true
    → wanted_by v session (Call inc act n op) ≡ wanted_unknown v (begun_class n op) (find (is_act act) v.acts)
wanted_here v session inc act n op t =
    ap (λ b. cond b (wanted_unknown v (begun_class n op) (find (is_act act) v.acts)) None) t

-- one of an activation that is known wants no object
pub unwanted_known : (v : Server) (m : Message) (inc act n : ℕ) (op : Operation) (a : Activation)
    → m.said ≡ Call inc act n op → is_for v m.session inc ≡ true → find (is_act act) v.acts ≡ Some a
    → None ≡ wanted v m
unwanted_known v m inc act n op a is t known =
    sym (ap (wanted_by v m.session) is
    ∙ (wanted_here v m.session inc act n op t ∙ ap (wanted_unknown v (begun_class n op)) known))

-- one for another wants none either
pub unwanted_other : (v : Server) (m : Message) (inc act n : ℕ) (op : Operation) → m.said ≡ Call inc act n op
    → is_for v m.session inc ≡ false → None ≡ wanted v m
unwanted_other v m inc act n op is t =
    sym (ap (wanted_by v m.session) is
    ∙ ap (λ b. cond b (wanted_unknown v (begun_class n op) (find (is_act act) v.acts)) None) t)

-- the reply to a call of this server is in the call's session
replied_here : (v : Server) (session inc act n : ℕ) (told : Answer) → is_for v session inc ≡ true
    → from_server v (Reply v.inc act n told) ≡ record { session = session; said = Reply inc act n told }
replied_here v session inc act n told t =
    ap (λ (s : ℕ). record { session = s; said = Reply v.inc act n told }) (sym (its_session v session inc t))
    ∙ ap (λ (i : ℕ). record { session = session; said = Reply i act n told }) (sym (its_inc v session inc t))

-- a call for this server was taken
takes_here : (v : Server) (session inc act n : ℕ) (op : Operation) (box : Option Kind) (a : Option Activation)
    (after : Server) (reply : Message) (counted : Option Counted)
    → is_for v session inc ≡ true → find (is_act act) v.acts ≡ a → TakesCall v act n op box a after reply counted
    → Takes v (record { session = session; said = Call inc act n op }) box after reply counted
takes_here v session inc act n op box a after reply counted t known h =
    let told : TakesCall v act n op box (find (is_act act) v.acts) after reply counted =
    subst (λ (x : Option Activation). TakesCall v act n op box x after reply counted) (sym known) h in
    let served : Option (List ℕ) → Result Served ServerFault =
    λ class. Ok (record { server = after; answer = told.0; counted = counted; used = is_some class }) in (
      told.0,
      call_here v session inc act n op box t
          ∙ (told.1 ∙ ap served (sym (wanted_here v session inc act n op t))),
      told.2
          ∙ replied_here v session inc act n told.0 t,
    )

-- the same, where the call may be refused: with what it is answered, what comes back, and why it is refused
module _ {X E : Type 0} (told : Result X E) (v : Server) (m : Message) (inc act n : ℕ) (op : Operation)
    (box : Option Kind) (a : Option Activation) where
  pub takes_if : (reply : X → Message) (counted : X → Option Counted) (after : Server) → m.said ≡ Call inc act n op
      → is_for v m.session inc ≡ true → find (is_act act) v.acts ≡ a
      → IfOk told (λ x. TakesCall v act n op box a after (reply x) (counted x))
      → IfOk told (λ x. Takes v m box after (reply x) (counted x))
  takes_if reply counted after is t known h =
      subst (λ (c : Said). IfOk told (λ x. Takes v (record { session = m.session; said = c }) box after (reply x)
      (counted x))) (sym is)
      (IfOk-weaker told _ _ (λ x h. takes_here v m.session inc act n op box a after (reply x) (counted x) t known h) h)

  pub refused_if : (fault : E → ServerFault) → m.said ≡ Call inc act n op → is_for v m.session inc ≡ true
      → find (is_act act) v.acts ≡ a
      → IfErr told (λ x. Refuses (called v act n op box a) (fault x))
      → IfErr told (λ x. Refuses (on_call v m box) (fault x))
  refused_if fault is t known h =
      let same : called v act n op box a ≡ on_call v m box =
      ap (called v act n op box) (sym known)
      ∙ (sym (call_here v m.session inc act n op box t) ∙ ap (λ (c : Said). on_said v m.session c box)
      (sym is)) in
      subst (λ (r : Result Served ServerFault). IfErr told (λ x. Refuses r (fault x))) same h

-- a call for another is refused
pub other_refused : (v : Server) (m : Message) (inc act n : ℕ) (op : Operation) (box : Option Kind)
    → m.said ≡ Call inc act n op → is_for v m.session inc ≡ false → on_call v m box ≡ Err WrongIncarnation
other_refused v m inc act n op box is t =
    ap (λ (c : Said). on_said v m.session c box) is
    ∙ ap (λ b. cond b (called v act n op box (find (is_act act) v.acts)) (Err WrongIncarnation)) t

pub back_if : {X E B : Type 0} (told : Result X E) (v : Server) (m : Message) (inc act n : ℕ) (op : Operation)
    (a : Option Activation) (back : X → Option B) (boxed : Option B) → m.said ≡ Call inc act n op
    → is_for v m.session inc ≡ true → find (is_act act) v.acts ≡ a
    → IfOk told (λ x. back x ≡ unless_wanted (wanted_unknown v (begun_class n op) a) boxed)
    → IfOk told (λ x. back x ≡ unless_wanted (wanted v m) boxed)
back_if told v m inc act n op a back boxed is t known h =
    let same : wanted_unknown v (begun_class n op) a ≡ wanted v m =
    ap (wanted_unknown v (begun_class n op)) (sym known)
    ∙ (sym (wanted_here v m.session inc act n op t) ∙ ap (wanted_by v m.session) (sym is)) in
    subst (λ (w : Option (List ℕ)). IfOk told (λ x. back x ≡ unless_wanted w boxed)) same h

-- what is taken is of the server's session
pub own_if : {X E : Type 0} (told : Result X E) (v : Server) (session inc : ℕ) → is_for v session inc ≡ true
    → OnOk told (session ≡ v.session)
own_if (Ok x) v session inc t = its_session v session inc t
own_if (Err e) v session inc t = tt
