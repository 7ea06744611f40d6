-- What a call at a server makes of a world.
use Rattle.std.proofs.Common.{◌≡◌, ℕ, ◌<◌, false, List, [], ◌∷◌, ◌++◌, Option, Some, Result, Ok, Err, length, get_or}
use Rattle.std.proofs.Common.{refl, ap, sym, ◌∙◌, subst, rules}
use Rattle.std.specs.Prelude.{nat_le, IsOk, IfSome, slice_get}
use Rattle.std.proofs.lemmas.Option.{slice_get-get_or}
use Rattle.object_core.specs.Kinds.{Kind}
use Rattle.message_values.specs.Found.{set_nth}
use Rattle.message_values.specs.declared.message.Message.{Message}
use Rattle.message_values.specs.declared.message.Said.TheVariants.{Call}
use Rattle.message_values.specs.declared.operation.Operation.{Operation}
use Rattle.server_model.specs.Server.{Server, Takes, Refuses, on_call}
use Rattle.server_model.specs.declared.fault.ServerFault.TheVariants.{WrongIncarnation, Ignored, NumbersSpent}
use Rattle.server_model.specs.declared.fault.ServerFault.TheVariants.{NeedObject, WrongClass, NoMemory}
use Rattle.server_model.specs.declared.counted.Counted.{Counted}
use Rattle.server_model.specs.declared.fault.ServerFault.{ServerFault}
use Rattle.world_model.specs.declared.logs.View.{View}
use Rattle.world_model.specs.declared.logs.EventAnswer.TheVariants as told
use Rattle.world_model.specs.World.{World, Instance, MOST_EVENTS, limited, served, view_in, in_session}
use Rattle.world_state.specs.Plans.{serving}
use Rattle.world_host.specs.Rooms.{replied}
use Rattle.world_state.proofs.Lifts.{emptied}

pub if_some : {A : Type 0} (o : Option A) (x : A) (P : A → Type 0) → o ≡ Some x → IfSome o P → P x
if_some o x P e h = (let s : IfSome (Some x) P = subst (λ v. IfSome v P) e h in s)

pub stands : {A : Type 0} (xs : List A) (i : ℕ) (x : A) → i < length xs → x ≡ get_or xs i x → slice_get xs i ≡ Some x
stands xs i x lt e = slice_get-get_or xs i x lt ∙ ap Some (sym e)

pub not_full : (w : World) (v : World) → nat_le MOST_EVENTS (length w.answers) ≡ false → limited w (Ok v) ≡ Ok v
not_full w v e = rw e refl

served_some : (w : World) (s inc act n : ℕ) (op : Operation) (stock : List Kind) (kind : Option Kind)
    (o : Option Instance) (z : Instance) → o ≡ Some z
    → nat_le MOST_EVENTS (length w.answers) ≡ false
    → limited w (serving w s inc act n op stock kind o)
    ≡ Ok (served w s inc act n z stock (on_call z.core (in_session s (Call inc act n op)) kind))
served_some w s inc act n op stock kind o z e free = ap (λ x. limited w (serving w s inc act n op stock kind x)) e
    ∙ not_full w (served w s inc act n z stock (on_call z.core (in_session s (Call inc act n op)) kind)) free

pub serve_allowed : (w : World) (s inc act n : ℕ) (op : Operation) (stock : List Kind) (kind : Option Kind)
    (o : Option Instance) (z : Instance) → o ≡ Some z
    → nat_le MOST_EVENTS (length w.answers) ≡ false
    → IsOk (limited w (serving w s inc act n op stock kind o))
serve_allowed w s inc act n op stock kind o z e free = rw (served_some w s inc act n op stock kind o z e free)
    (search rules)

pub serve_taken : (w b : World) (s inc act n : ℕ) (op : Operation) (stock : List Kind) (kind : Option Kind)
    (o : Option Instance) (z : Instance) (is : List Instance) (back : List Kind) (box : Option Kind)
    (after : Server) (view : Option View) (reply : Message) (counted : Option Counted)
    → o ≡ Some z
    → nat_le MOST_EVENTS (length w.answers) ≡ false
    → kind ≡ box
    → Takes z.core (in_session s (Call inc act n op)) box after reply counted
    → view ≡ view_in z.core act
    → b ≡ replied (emptied w) inc view reply counted
    → is ≡ set_nth w.instances inc (record z { core = after })
    → back ≡ stock
    → limited w (serving w s inc act n op stock kind o) ≡ Ok (record b { instances = is; stock = back })
serve_taken w b s inc act n op stock kind o z is back box after view reply counted e free ek t ev eb ei es =
    served_some w s inc act n op stock kind o z e free
    ∙ (ap (λ r. Ok (served w s inc act n z stock r)) (ap (on_call z.core (in_session s (Call inc act n op))) ek ∙ t.1)
    ∙ rw (eb, ei, ev, t.2, es) refl)

pub serve_dropped : (w b : World) (s inc act n : ℕ) (op : Operation) (stock : List Kind) (kind : Option Kind)
    (o : Option Instance) (z : Instance) (is : List Instance) (back : List Kind) (box : Option Kind)
    (fault : ServerFault)
    → o ≡ Some z
    → nat_le MOST_EVENTS (length w.answers) ≡ false
    → kind ≡ box
    → on_call z.core (in_session s (Call inc act n op)) box ≡ Err fault
    → b ≡ record (emptied w) { answers = w.answers ++ told.Dropped fault ∷ [] }
    → is ≡ w.instances
    → back ≡ w.stock
    → limited w (serving w s inc act n op stock kind o) ≡ Ok (record b { instances = is; stock = back })
serve_dropped w b s inc act n op stock kind o z is back box fault e free ek t eb ei es =
    served_some w s inc act n op stock kind o z e free
    ∙ (ap (λ r. Ok (served w s inc act n z stock r)) (ap (on_call z.core (in_session s (Call inc act n op))) ek ∙ t)
    ∙ rw (eb, ei, es) refl)

pub same_world : (b c : World) (is js : List Instance) (ss ts : List Kind) → b ≡ c → is ≡ js → ss ≡ ts
    → record b { instances = is; stock = ss } ≡ record c { instances = js; stock = ts }
same_world b c is js ss ts eb ei es = rw (eb, ei, es) refl

pub refuses_told : {A : Type 0} (told : Result A ServerFault) (fault : ServerFault) → Refuses told fault
    → (fault ≡ NoMemory → ⊥) → told ≡ Err fault
refuses_told told WrongIncarnation h n = h
refuses_told told Ignored h n = h
refuses_told told NumbersSpent h n = h
refuses_told told NeedObject h n = h
refuses_told told WrongClass h n = h
refuses_told told NoMemory h n = absurd (n refl)
