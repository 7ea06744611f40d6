-- What stays of an activation, whatever calls come.
use Rattle.std.proofs.Common.{◌≡◌, ◌≢◌, ◌≤◌, ◌+◌, ℕ, Bool, true, false, cond, List, [], ◌∷◌, ◌++◌, length, refl, ap}
use Rattle.std.proofs.Common.{sym, subst, ◌∙◌, Option, Some, None, Result, Ok, Err, nat_le, nat_eq, ◌&&◌, arith, eq-eqb}
use Rattle.std.proofs.Common.{eqb-true}
use Rattle.std.proofs.lemmas.Bool.{ne_eqb, eqb-false}
use Rattle.object_state.specs.Both as both
use Rattle.object_state.specs.declared.both_states.States.{States}
use Rattle.object_state.specs.declared.faults.StateFault.{StateFault}
use Rattle.object_state.specs.declared.operations.CloseOption.{CloseOption}
use Rattle.object_state.specs.declared.operations.CloseOption.TheVariants.{SaveIfDirty, NoSave}
use Rattle.tree_streams.specs.declared.stored.Stored.{Stored}
use Rattle.object_core.specs.Content.{Content}
use Rattle.object_core.specs.Kinds.{Kind}
use Rattle.object_core.specs.Objects as object
use Rattle.object_core.specs.declared.fault.EmbedFault.{EmbedFault}
use Rattle.message_values.specs.Found.{find, put}
use Rattle.message_values.specs.Operations.{op_of}
use Rattle.message_values.specs.declared.refusal.Refusal.{Refusal}
use Rattle.message_values.specs.declared.operation.Operation.{Operation}
use Rattle.message_values.specs.declared.operation.Operation.TheVariants.{InitNew, Load, InPlace, UiActivate}
use Rattle.message_values.specs.declared.operation.Operation.TheVariants.{UiDeactivate, InPlaceDeactivate, OpenWindow}
use Rattle.message_values.specs.declared.operation.Operation.TheVariants.{Edit, Save, HandsOff, SaveCompleted}
use Rattle.message_values.specs.declared.operation.Operation.TheVariants.{SaveDropped, Close}
use Rattle.message_values.specs.declared.message.Message.{Message}
use Rattle.message_values.specs.declared.message.Said.{Said}
use Rattle.message_values.specs.declared.message.Said.TheVariants.{Call, Reply, Write, Ask}
use Rattle.server_model.specs.declared.fault.ServerFault.{ServerFault}
use Rattle.server_model.specs.declared.fault.ServerFault.TheVariants.{WrongIncarnation, Ignored, NumbersSpent}
use Rattle.server_model.specs.declared.fault.ServerFault.TheVariants.{NeedObject, WrongClass}
use Rattle.server_model.specs.Server.{Activation, Server, Acted, Served, acted, after_begun, after_known, answers}
use Rattle.server_model.specs.Server.{begins, begun_class, begun_content, called, closes, counts, does, edits, is_act}
use Rattle.server_model.specs.Server.{is_class, is_for, known_call, next_call, offered, on_call, on_said, refuses}
use Rattle.server_model.specs.Server.{unknown_call}
use Rattle.server_model.specs.Laws.{ActsOnce, ClosedForGood, OthersStay, OtherSessionsStay, TakenInSession, activation}
use Rattle.server_model.specs.Laws.{after, after_all}
use Rattle.server_model.proofs.Finding.{find-last, find-past, find-put, put-found, put-other}
use Rattle.server_model.proofs.Writing.{found_passes}

-- An operation of an open activation is its next call.

abbrev IsNext : Activation → Acted → Type 0
IsNext a b = (b.activation.act ≡ a.act) × (b.activation.last ≡ a.last + 1)

refuses_next : (a : Activation) (op : Operation) (why : Refusal) → IsNext a (refuses a op why)
refuses_next a (InitNew class) why = (refl, refl)
refuses_next a (Load class content) why = (refl, refl)
refuses_next a InPlace why = (refl, refl)
refuses_next a (UiActivate grant) why = (refl, refl)
refuses_next a UiDeactivate why = (refl, refl)
refuses_next a InPlaceDeactivate why = (refl, refl)
refuses_next a OpenWindow why = (refl, refl)
refuses_next a (Edit bytes) why = (refl, refl)
refuses_next a (Save k) why = (refl, refl)
refuses_next a HandsOff why = (refl, refl)
refuses_next a (SaveCompleted k storage) why = (refl, refl)
refuses_next a (SaveDropped k) why = (refl, refl)
refuses_next a (Close option) why = (refl, refl)

edits_next : (a : Activation) (v : States) (r : Result Content EmbedFault) → IsNext a (edits a v r)
edits_next a v (Ok c) = (refl, refl)
edits_next a v (Err fault) = (refl, refl)

counts_next : (a : Activation) (k : ℕ) (b : Acted) (saved : Option Stored) → IsNext a b → IsNext a (counts a k b saved)
counts_next a k b None h = h
counts_next a k b (Some c) h = h

closes_next : (a : Activation) (v : States) (c : Content) (option : CloseOption) → IsNext a (closes a v c option)
closes_next a v c SaveIfDirty = (refl, refl)
closes_next a v c NoSave = (refl, refl)

does_next : (a : Activation) (c : Content) (v : States) (op : Operation) → IsNext a (does a c v op)
does_next a c v (InitNew class) = (refl, refl)
does_next a c v (Load class content) = (refl, refl)
does_next a c v InPlace = (refl, refl)
does_next a c v (UiActivate grant) = (refl, refl)
does_next a c v UiDeactivate = (refl, refl)
does_next a c v InPlaceDeactivate = (refl, refl)
does_next a c v OpenWindow = (refl, refl)
does_next a c v (Edit bytes) = edits_next a v (object.edit c bytes)
does_next a c v (Save k) = (refl, refl)
does_next a c v HandsOff = (refl, refl)
does_next a c v (SaveCompleted k storage) = counts_next a k (answers (record a { states = v; s = a.s + 1 }) _)
    a.saved (refl, refl)
does_next a c v (SaveDropped k) = (refl, refl)
does_next a c v (Close option) = closes_next a v c option

acted_next : (a : Activation) (c : Content) (op : Operation) (r : Result States StateFault) → IsNext a (acted a c op r)
acted_next a c op (Err fault) = refuses_next a op _
acted_next a c op (Ok v) = does_next a c v op

-- what a call of a known activation leaves it
record Kept (a : Activation) (n : ℕ) (b : Activation) : Type 0 where
  act : b.act ≡ a.act
  last : a.last ≤ b.last
  number : n ≤ b.last
  closed : a.content ≡ None → b ≡ a

kept_next : (a : Activation) (n : ℕ) (c : Content) (b : Acted) → n ≡ a.last + 1 → a.content ≡ Some c → IsNext a b
    → Kept a n b.activation
kept_next a n c b number opened next = record {
  act = next.0;
  last = omega (arith, next.1);
  number = omega (arith, number, next.1);
  closed = λ none. cc;
}

next_kept : (a : Activation) (n : ℕ) (op : Operation) (content : Option Content) (b : Acted) → n ≡ a.last + 1
    → a.content ≡ content → next_call a op content ≡ Ok b → Kept a n b.activation
next_kept a n op None b number content e = cc
next_kept a n op (Some c) b number content e =
    let same : acted a c op (both.step a.states (op_of op)) ≡ b = cc in
    kept_next a n c b number content (subst (IsNext a) same (acted_next a c op (both.step a.states (op_of op))))

known_kept : (a : Activation) (n : ℕ) (op : Operation) (b : Acted) → known_call a n op ≡ Ok b → Kept a n b.activation
known_kept a n op b e =
    elim (nat_eq n a.last) as (λ t. nat_eq n a.last ≡ t
    → cond t (Ok (record { activation = a; answer = a.reply; counted = None }))
    (cond (nat_eq n (a.last + 1)) (next_call a op a.content) (Err Ignored)) ≡ Ok b → Kept a n b.activation) [
      | true ↦ λ t h. (let same : a ≡ b.activation = cc in let number = eqb-true n a.last t in
          subst (Kept a n) same (record {
            act = refl;
            last = omega arith;
            number = omega (arith, number);
            closed = λ none. refl;
          }))
      | false ↦ λ t h.
          (elim (nat_eq n (a.last + 1)) as (λ u. nat_eq n (a.last + 1) ≡ u
          → cond u (next_call a op a.content) (Err Ignored) ≡ Ok b → Kept a n b.activation) [
            | true ↦ λ u g. next_kept a n op a.content b (eqb-true n (a.last + 1) u) refl g
            | false ↦ λ u g. cc
          ]) refl h
    ] refl e

-- A first call begins an activation of its number, and is its last.

begins_act : (act : ℕ) (class : List ℕ) (op : Operation) (r : Result Content EmbedFault)
    → (begins act class op r).activation.act ≡ act
begins_act act class op (Ok c) = refl
begins_act act class op (Err fault) = refl

begins_last : (act : ℕ) (class : List ℕ) (op : Operation) (r : Result Content EmbedFault)
    → (begins act class op r).activation.last ≡ 1
begins_last act class op (Ok c) = refl
begins_last act class op (Err fault) = refl

first_number : (n : ℕ) (class given : List ℕ) → cond (nat_eq n 1) (Some class) None ≡ Some given → n ≡ 1
first_number n class given e =
    elim (nat_eq n 1) as (λ b. nat_eq n 1 ≡ b → cond b (Some class) None ≡ Some given → n ≡ 1) [
      | true ↦ λ s h. eqb-true n 1 s
      | false ↦ λ s h. cc
    ] refl e

begun_number : (n : ℕ) (op : Operation) (given : List ℕ) → begun_class n op ≡ Some given → n ≡ 1
begun_number n (InitNew class) given e = first_number n class given e
begun_number n (Load class content) given e = first_number n class given e
begun_number n InPlace given e = cc
begun_number n (UiActivate grant) given e = cc
begun_number n UiDeactivate given e = cc
begun_number n InPlaceDeactivate given e = cc
begun_number n OpenWindow given e = cc
begun_number n (Edit bytes) given e = cc
begun_number n (Save k) given e = cc
begun_number n HandsOff given e = cc
begun_number n (SaveCompleted k storage) given e = cc
begun_number n (SaveDropped k) given e = cc
begun_number n (Close option) given e = cc

-- An unknown call leaves the server, or begins an activation.
first_cases : (P : Result Served ServerFault → Type 0) (v : Server) (act n : ℕ) (op : Operation) (box : Option Kind)
    → ((fault : ServerFault) → P (Err fault))
    → ((class : List ℕ) (kind : Kind) → begun_class n op ≡ Some class
    → P (after_begun v (begins act class op (begun_content kind op))))
    → P (unknown_call v act op box (begun_class n op))
first_cases P v act n op box fails begun =
    elim (begun_class n op) as (λ r. begun_class n op ≡ r → P (unknown_call v act op box r)) [
      | None ↦ λ s. fails Ignored
      | Some class ↦ λ s.
          (elim (nat_le v.numbers (length v.acts)) as (λ b.
          P (cond b (Err NumbersSpent) (offered v act class op box))) [
            | true ↦ fails NumbersSpent
            | false ↦
                (elim box as (λ x. P (offered v act class op x)) [
                  | None ↦ fails NeedObject
                  | Some kind ↦
                      (elim (is_class kind class) as (λ b.
                      P (cond b (after_begun v (begins act class op (begun_content kind op)))
                      (Err WrongClass))) [
                        | true ↦ begun class kind s
                        | false ↦ fails WrongClass
                      ])
                ])
          ])
    ] refl

-- A known call leaves the server, or puts the activation that it leaves.
known_cases : (P : Result Served ServerFault → Type 0) (v : Server) (act n : ℕ) (op : Operation) (a : Activation)
    → ((fault : ServerFault) → P (Err fault))
    → ((b : Acted) → Kept a n b.activation → P (after_known v act (Ok b))) → P (after_known v act (known_call a n op))
known_cases P v act n op a fails takes =
    elim (known_call a n op) as (λ r. known_call a n op ≡ r → P (after_known v act r)) [
      | Ok b ↦ λ s. takes b (known_kept a n op b s)
      | Err fault ↦ λ s. fails fault
    ] refl

-- a call of another number leaves an activation
apart : (act other : ℕ) → act ≢ other → (a : Activation) → is_act act a ≡ true → is_act other a ≡ false
apart act other differ a t = ne_eqb a.act other (λ e. differ (sym (eqb-true a.act act t) ∙ e))

abbrev Leaves : ℕ → Server → Result Served ServerFault → Type 0
Leaves other v r = activation other (after v r) ≡ activation other v

call_leaves : (v : Server) (act other n : ℕ) (op : Operation) (box : Option Kind) (a : Option Activation)
    → act ≢ other → find (is_act act) v.acts ≡ a → Leaves other v (called v act n op box a)
call_leaves v act other n op box None differ e =
    first_cases (Leaves other v) v act n op box (λ fault. refl)
    (λ class kind s.
    let b = begins act class op (begun_content kind op) in
    find-past (is_act other) v.acts b.activation
    (apart act other differ b.activation (eq-eqb _ _ (begins_act act class op (begun_content kind op)))))
call_leaves v act other n op box (Some a) differ e =
    known_cases (Leaves other v) v act n op a (λ fault. refl)
    (λ b k. put-other (is_act other) (is_act act) v.acts b.activation (apart act other differ)
    (eq-eqb _ _ (k.act ∙ eqb-true a.act act (found_passes (is_act act) v.acts a e))))

inc_leaves : (b : Bool) (other : ℕ) (v : Server) (r : Result Served ServerFault) → Leaves other v r
    → Leaves other v (cond b r (Err WrongIncarnation))
inc_leaves true other v r h = h
inc_leaves false other v r h = refl

-- Whose session it is comes first.

other_session : (b : Bool) (v : Server) (given : Bool) (r : Result Served ServerFault) → b ≡ false
    → after v (cond (b && given) r (Err WrongIncarnation)) ≡ v
other_session true v given r e = cc
other_session false v given r e = refl

said_elsewhere : (v : Server) (session : ℕ) (said : Said) (box : Option Kind) → session ≢ v.session
    → after v (on_said v session said box) ≡ v
said_elsewhere v session (Call inc act n op) box differ = other_session (nat_eq session v.session) v
    (nat_eq inc v.inc) _ (ne_eqb session v.session differ)
said_elsewhere v session (Reply inc act n answer) box differ = refl
said_elsewhere v session (Write inc act s w content) box differ = refl
said_elsewhere v session (Ask inc act g) box differ = refl

pub other-sessions_stay : OtherSessionsStay
other-sessions_stay v m box differ = said_elsewhere v m.session m.said box differ

own_session : (b given : Bool) (r : Result Served ServerFault) (told : Served)
    → cond (b && given) r (Err WrongIncarnation) ≡ Ok told → b ≡ true
own_session true given r told e = refl
own_session false given r told e = cc

said_here : (v : Server) (session : ℕ) (said : Said) (box : Option Kind) (told : Served)
    → on_said v session said box ≡ Ok told → session ≡ v.session
said_here v session (Call inc act n op) box told e =
    eqb-true session v.session (own_session (nat_eq session v.session) (nat_eq inc v.inc) _ told e)
said_here v session (Reply inc act n answer) box told e = cc
said_here v session (Write inc act s w content) box told e = cc
said_here v session (Ask inc act g) box told e = cc

pub taken-in_session : TakenInSession
taken-in_session v m box told e = said_here v m.session m.said box told e

pub others-stay : OthersStay
others-stay v session inc act other n op box differ = inc_leaves (is_for v session inc) other v _
    (call_leaves v act other n op box (find (is_act act) v.acts) differ refl)

-- What any message leaves of an activation: it comes no less far, and stays as it is where it is closed.
record Stays (act : ℕ) (a : Activation) (v : Server) : Type 0 where
  now : Activation
  is : activation act v ≡ Some now
  last : a.last ≤ now.last
  closed : a.content ≡ None → now ≡ a

stays_same : (act : ℕ) (a : Activation) (v : Server) → activation act v ≡ Some a → Stays act a v
stays_same act a v e = record { now = a; is = e; last = omega arith; closed = λ none. refl }

-- by its own call
own_stays : (v : Server) (act n : ℕ) (op : Operation) (box : Option Kind) (a : Activation)
    → activation act v ≡ Some a → Stays act a (after v (called v act n op box (Some a)))
own_stays v act n op box a e =
    known_cases (λ r. Stays act a (after v r)) v act n op a (λ fault. stays_same act a v e)
    (λ b k. record {
      now = b.activation;
      is = find-put (is_act act) v.acts a b.activation e
          (eq-eqb _ _ (k.act ∙ eqb-true a.act act (found_passes (is_act act) v.acts a e)));
      last = k.last;
      closed = k.closed;
    })

call_stays : (v : Server) (act by n : ℕ) (op : Operation) (box : Option Kind) (a : Activation)
    → activation act v ≡ Some a → Stays act a (after v (called v by n op box (find (is_act by) v.acts)))
call_stays v act by n op box a e =
    elim (nat_eq by act) as (λ b. nat_eq by act ≡ b
    → Stays act a (after v (called v by n op box (find (is_act by) v.acts)))) [
      | true ↦ λ s.
          subst (λ m. Stays act a (after v (called v m n op box (find (is_act m) v.acts)))) (sym (eqb-true by act s))
          (subst (λ r. Stays act a (after v (called v act n op box r))) (sym e) (own_stays v act n op box a e))
      | false ↦ λ s. stays_same act a _ (call_leaves v by act n op box (find (is_act by) v.acts)
          (λ same. eqb-false by act s same) refl ∙ e)
    ] refl

inc_stays : (b : Bool) (act : ℕ) (a : Activation) (v : Server) (r : Result Served ServerFault)
    → activation act v ≡ Some a → Stays act a (after v r) → Stays act a (after v (cond b r (Err WrongIncarnation)))
inc_stays true act a v r e h = h
inc_stays false act a v r e h = stays_same act a v e

said_stays : (v : Server) (session : ℕ) (said : Said) (box : Option Kind) (act : ℕ) (a : Activation)
    → activation act v ≡ Some a → Stays act a (after v (on_said v session said box))
said_stays v session (Call inc by n op) box act a e = inc_stays (is_for v session inc) act a v _ e
    (call_stays v act by n op box a e)
said_stays v session (Reply inc by n answer) box act a e = stays_same act a v e
said_stays v session (Write inc by s w content) box act a e = stays_same act a v e
said_stays v session (Ask inc by g) box act a e = stays_same act a v e

stays_more : (act : ℕ) (a : Activation) (v w : Server) (first : Stays act a v) → Stays act first.now w → Stays act a w
stays_more act a v w first then =
    record {
      now = then.now;
      is = then.is;
      last = omega (arith, first.last, then.last);
      closed = λ none. (let same = first.closed none in then.closed (ap (λ (x : Activation). x.content) same ∙ none)
          ∙ same);
    }

all_stays : (v : Server) (ms : List (Message × Option Kind)) (act : ℕ) (a : Activation) → activation act v ≡ Some a
    → Stays act a (after_all v ms)
all_stays v [] act a e = stays_same act a v e
all_stays v (m ∷ ms) act a e =
    let first = said_stays v m.0.session m.0.said m.1 act a e in
    stays_more act a (after v (on_call v m.0 m.1)) (after_all v (m ∷ ms)) first
    (all_stays (after v (on_call v m.0 m.1)) ms act first.now first.is)

pub closed-for_good : ClosedForGood
closed-for_good v act a ms e none = (let stays = all_stays v ms act a e in stays.is ∙ ap Some (stays.closed none))

-- A call that was taken is the last of its activation.
record Reaches (act n : ℕ) (v : Server) : Type 0 where
  now : Activation
  is : activation act v ≡ Some now
  last : n ≤ now.last

abbrev Taken : ℕ → ℕ → Result Served ServerFault → Type 0
Taken act n r = (told : Served) → r ≡ Ok told → Reaches act n told.server

call_taken : (v : Server) (act n : ℕ) (op : Operation) (box : Option Kind) (a : Option Activation)
    → find (is_act act) v.acts ≡ a → Taken act n (called v act n op box a)
call_taken v act n op box None e =
    first_cases (Taken act n) v act n op box (λ fault told h. cc)
    (λ class kind s told h.
    let b = begins act class op (begun_content kind op) in
    let server : record v { acts = v.acts ++ b.activation ∷ [] } ≡ told.server = cc in
    let first : n ≡ 1 = begun_number n op class s in
    let last : b.activation.last ≡ 1 = begins_last act class op (begun_content kind op) in
    subst (Reaches act n) server (record {
      now = b.activation;
      is = find-last (is_act act) v.acts b.activation e (eq-eqb _ _ (begins_act act class op (begun_content kind op)));
      last = omega (arith, first, last);
    }))
call_taken v act n op box (Some a) e =
    known_cases (Taken act n) v act n op a (λ fault told h. cc)
    (λ b k told h.
    let server : record v { acts = put (is_act act) b.activation v.acts } ≡ told.server = cc in
    subst (Reaches act n) server (record {
      now = b.activation;
      is = find-put (is_act act) v.acts a b.activation e
          (eq-eqb _ _ (k.act ∙ eqb-true a.act act (found_passes (is_act act) v.acts a e)));
      last = k.number;
    }))

inc_taken : (b : Bool) (act n : ℕ) (r : Result Served ServerFault) → Taken act n r
    → Taken act n (cond b r (Err WrongIncarnation))
inc_taken true act n r h = h
inc_taken false act n r h = λ told e. cc

-- The call of a number that its activation has come to leaves the server, and counts nothing.
abbrev pub Again : Server → Result Served ServerFault → Type 0
Again v r = (told : Served) → r ≡ Ok told → (told.server ≡ v) × (told.counted ≡ None)

known_again : (v : Server) (act n : ℕ) (op : Operation) (a : Activation) → activation act v ≡ Some a → n ≤ a.last
    → Again v (after_known v act (known_call a n op))
known_again v act n op a e le =
    elim (nat_eq n a.last) as (λ b. Again v
    (after_known v act (cond b (Ok (record { activation = a; answer = a.reply; counted = None }))
    (cond (nat_eq n (a.last + 1)) (next_call a op a.content) (Err Ignored))))) [
      | true ↦ λ told h.
          (let server : record v { acts = put (is_act act) a v.acts } ≡ told.server = cc in
          let quiet : told.counted ≡ None = cc in (
            sym server ∙ ap (λ (acts : List Activation). record v { acts = acts })
                (put-found (is_act act) v.acts a e),
            quiet,
          ))
      | false ↦
          rw (ne_eqb n (a.last + 1) (λ same. absurd (omega (arith, le, same)))) (λ told h. cc)
    ]

inc_again : (b : Bool) (v : Server) (r : Result Served ServerFault) → Again v r
    → Again v (cond b r (Err WrongIncarnation))
inc_again true v r h = h
inc_again false v r h = λ told e. cc

pub call_again : (v : Server) (session inc act n : ℕ) (op : Operation) (box : Option Kind) (a : Activation)
    → activation act v ≡ Some a → n ≤ a.last → Again v (on_said v session (Call inc act n op) box)
call_again v session inc act n op box a e le =
    inc_again (is_for v session inc) v _ (subst (λ r. Again v (called v act n op box r)) (sym e)
    (known_again v act n op a e le))

pub acts-once : ActsOnce
acts-once v session inc act n op other box more told ms e again h =
    let reaches = inc_taken (is_for v session inc) act n _
    (call_taken v act n op box (find (is_act act) v.acts) refl) told e in
    let stays = all_stays told.server ms act reaches.now reaches.is in
    (call_again (after_all told.server ms) session inc act n other more stays.now stays.is
    (omega (arith, reaches.last, stays.last)) again h).0
