-- A passive object that is activated or goes, in its container.
use Rattle.std.proofs.Common.{◌≡◌, ◌<◌, ◌≤◌, ◌+◌, arith, ◌||◌, [], ◌∷◌, ℕ, Bool, true, false, not, List, length, nat_le}
use Rattle.std.proofs.Common.{nat_lt, Some, Ok, Err, IfSome, get_or, set, slice_get, sym, ◌∙◌, ap, subst}
use Rattle.std.specs.Prelude.{is_some, remove}
use Rattle.std.proofs.lemmas.Bool.Decides.{nat_tests}
use Rattle.std.proofs.lemmas.List.{get_or_default}
use Rattle.message_values.specs.Found.{IsPlace, put}
use Rattle.message_values.specs.declared.message.Said.TheVariants.{Call}
use Rattle.container_model.specs.declared.answer.Action.{Action}
use Rattle.container_model.specs.declared.answer.Answer.{Answer}
use Rattle.container_model.specs.declared.fault.ContainerFault.TheVariants.{NoSuch, WrongState, UnknownClass}
use Rattle.container_model.specs.declared.fault.ContainerFault.TheVariants.{NumbersSpent}
use Rattle.container_model.specs.declared.record.Link.{Link}
use Rattle.container_model.specs.declared.record.Object.{Object}
use Rattle.container_model.specs.Commands.{begun_link, delete_made, first_operation, is_known_class, run, run_made}
use Rattle.container_model.specs.Commands.{run_object}
use Rattle.container_model.specs.Located.{located, ready}
use Rattle.container_model.specs.Numbered.{IsObjectAt}
use Rattle.container_model.specs.Record.{MARGIN, Record, acts, counts_none, is_alive, is_object, quiet_answer, sends}
use Rattle.container_model.specs.Record.{unless, without_first}
use Rattle.container_commands.proofs.VerbsPlaced.{object_here, own_here}

-- what holds of the object that stands there
pub at_object : (P : Object → Type 0) (s r : Record) (i : ℕ) (x : Object) → s ≡ r → i < length r.objects
    → x ≡ get_or s.objects i x → P x → IfSome (slice_get r.objects i) P
at_object P s r i x e lt at p = subst (λ t. IfSome t P) (sym (object_here s r i x e lt at)) p

-- what is read twice there
same_read : (s r : Record) (i : ℕ) (x y : Object) → s ≡ r → i < length r.objects → x ≡ get_or s.objects i x
    → y ≡ get_or s.objects i y → y ≡ x
same_read s r i x y e lt at again =
    let fits : i < length s.objects = subst (λ (t : Record). i < length t.objects) (sym e) lt in
    again ∙ (get_or_default s.objects i y x fits ∙ sym at)

-- why an object isn't activated
abbrev spent : Record → Bool
spent r = nat_lt r.numbers MARGIN || nat_le r.numbers r.last_act

few_left : (n last : ℕ) → n < MARGIN → (nat_lt n MARGIN || nat_le n last) ≡ true
few_left n last few = grind (arith, nat_tests, few)

none_left : (n last : ℕ) → n ≤ last → (nat_lt n MARGIN || nat_le n last) ≡ true
none_left n last le = grind (arith, nat_tests, le)

some_left : (n last : ℕ) → MARGIN ≤ n → last < n → (nat_lt n MARGIN || nat_le n last) ≡ false
some_left n last many left = grind (arith, nat_tests, many, left)

pub few_spent : (r s : Record) → s ≡ r → s.numbers < MARGIN → spent r ≡ true
few_spent r s e few = subst (λ (t : Record). spent t ≡ true) e (few_left s.numbers s.last_act few)

pub last_spent : (r s : Record) → s ≡ r → s.numbers ≤ s.last_act → spent r ≡ true
last_spent r s e last = subst (λ (t : Record). spent t ≡ true) e (none_left s.numbers s.last_act last)

pub not_spent : (r s : Record) → s ≡ r → MARGIN ≤ s.numbers → s.last_act < s.numbers → spent r ≡ false
not_spent r s e many left = subst (λ (t : Record). spent t ≡ false) e (some_left s.numbers s.last_act many left)

-- the server isn't there
pub run_dead : (r : Record) (n inc : ℕ) → is_alive r inc ≡ false → run r n inc ≡ Err NoSuch
run_dead r n inc e = ap (λ b. unless (not b) NoSuch (located r n (ready (λ o frame. run_object r o inc)))) e

pub run_alive : (r : Record) (n inc : ℕ) → is_alive r inc ≡ true
    → run r n inc ≡ located r n (ready (λ o frame. run_object r o inc))
run_alive r n inc e = ap (λ b. unless (not b) NoSuch (located r n (ready (λ o frame. run_object r o inc)))) e

pub run_linked : (r : Record) (x : Object) (inc : ℕ) → is_some x.link ≡ true → run_object r x inc ≡ Err WrongState
run_linked r x inc linked =
    ap (λ b. unless b WrongState (unless (not (is_known_class x.class)) UnknownClass
    (unless (spent r) NumbersSpent (Ok (run_made r x inc))))) linked

run_passive : (r : Record) (x : Object) (inc : ℕ) → is_some x.link ≡ false
    → run_object r x inc ≡ unless (not (is_known_class x.class)) UnknownClass
    (unless (spent r) NumbersSpent (Ok (run_made r x inc)))
run_passive r x inc passive =
    ap (λ b. unless b WrongState (unless (not (is_known_class x.class)) UnknownClass
    (unless (spent r) NumbersSpent (Ok (run_made r x inc))))) passive

pub run_unknown : (r : Record) (x : Object) (inc : ℕ) → is_some x.link ≡ false → is_known_class x.class ≡ false
    → run_object r x inc ≡ Err UnknownClass
run_unknown r x inc passive unknown =
    run_passive r x inc passive
    ∙ ap (λ b. unless (not b) UnknownClass (unless (spent r) NumbersSpent (Ok (run_made r x inc)))) unknown

run_known : (r : Record) (x : Object) (inc : ℕ) → is_some x.link ≡ false → is_known_class x.class ≡ true
    → run_object r x inc ≡ unless (spent r) NumbersSpent (Ok (run_made r x inc))
run_known r x inc passive known =
    run_passive r x inc passive
    ∙ ap (λ b. unless (not b) UnknownClass (unless (spent r) NumbersSpent (Ok (run_made r x inc)))) known

pub run_spent : (r : Record) (x : Object) (inc : ℕ) → is_some x.link ≡ false → is_known_class x.class ≡ true
    → spent r ≡ true → run_object r x inc ≡ Err NumbersSpent
run_spent r x inc passive known none = run_known r x inc passive known
    ∙ ap (λ b. unless b NumbersSpent (Ok (run_made r x inc))) none

pub run_fine : (r : Record) (x : Object) (inc : ℕ) → is_some x.link ≡ false → is_known_class x.class ≡ true
    → spent r ≡ false → run_object r x inc ≡ Ok (run_made r x inc)
run_fine r x inc passive known left = run_known r x inc passive known
    ∙ ap (λ b. unless b NumbersSpent (Ok (run_made r x inc))) left

-- the record after it
pub run_is : (s r u : Record) (i inc : ℕ) (x x2 y : Object) (l : Link) (actions : List Action) (a : Answer) → s ≡ r
    → IsObjectAt r.objects i → x ≡ get_or s.objects i x → x2 ≡ get_or s.objects i x2
    → l ≡ begun_link s.session inc (s.last_act + 1) (first_operation x x.work.streams)
    → actions
    ≡ sends
    (record { session = s.session; said = Call inc (s.last_act + 1) 1 (first_operation x x.work.streams) } ∷ [])
    → y ≡ record x2 { link = Some l } → u ≡ record s { objects = set s.objects i y; last_act = s.last_act + 1 }
    → a ≡ acts actions
    → run_made r x inc ≡ counts_none u a
run_is s r u i inc x x2 y l actions a e p at again link sent new is told =
    let here : slice_get r.objects i ≡ Some x = object_here s r i x e p.fits at in
    let own : IsPlace (is_object x.number) r.objects i = own_here r i x here p in
    let q : IsPlace (is_object x.number) s.objects i =
    subst (λ (t : Record). IsPlace (is_object x.number) t.objects i) (sym e) own in
    let o : Object =
    record x { link = Some (begun_link s.session inc (s.last_act + 1) (first_operation x x.work.streams)) } in
    let same : y ≡ o = new
    ∙ (ap (λ (z : Object). record z { link = Some l }) (same_read s r i x x2 e p.fits at again)
    ∙ ap (λ (k : Link). record x { link = Some k }) link) in
    let objects : put (is_object x.number) o s.objects ≡ set s.objects i y = q.puts o
    ∙ ap (set s.objects i) (sym same) in
    let rec : ◌≡◌ {A = Record} (record s {
      objects = put (is_object x.number) o s.objects;
      last_act = s.last_act + 1;
    }) u =
    ap (λ (os : List Object). record s { objects = os; last_act = s.last_act + 1 }) objects ∙ sym is in
    let answer : acts
    (sends
    (record { session = s.session; said = Call inc (s.last_act + 1) 1 (first_operation x x.work.streams) }
    ∷ [])) ≡ a = ap acts (sym sent) ∙ sym told in
    ap (λ (t : Record). run_made t x inc) (sym e)
    ∙ (ap
    (λ t. counts_none t
    (acts
    (sends
    (record { session = s.session; said = Call inc (s.last_act + 1) 1 (first_operation x x.work.streams) }
    ∷ [])))) rec ∙ ap (counts_none u) answer)

-- an object that is deleted
pub delete_linked : (r : Record) (x : Object) → is_some x.link ≡ true
    → unless (is_some x.link) WrongState (Ok (delete_made r x)) ≡ Err WrongState
delete_linked r x linked = ap (λ b. unless b WrongState (Ok (delete_made r x))) linked

pub deleted_is : (s r u : Record) (i : ℕ) (x : Object) (os : List Object) (a : Answer) → s ≡ r
    → IsObjectAt r.objects i → x ≡ get_or s.objects i x → is_some x.link ≡ false
    → os ≡ remove s.objects i → u ≡ record s { objects = os } → a ≡ quiet_answer
    → unless (is_some x.link) WrongState (Ok (delete_made r x)) ≡ Ok (counts_none u a)
deleted_is s r u i x os a e p at passive left is told =
    let here : slice_get r.objects i ≡ Some x = object_here s r i x e p.fits at in
    let gone : without_first (is_object x.number) r.objects ≡ remove r.objects i =
    subst (λ t. IfSome t (λ o. without_first (is_object o.number) r.objects ≡ remove r.objects i)) here
    p.without in
    let rec : ◌≡◌ {A = Record} (record r { objects = without_first (is_object x.number) r.objects }) u =
    ap (λ (os : List Object). record r { objects = os }) gone
    ∙ (ap (λ (t : Record). record t { objects = remove t.objects i }) (sym e)
    ∙ (ap (λ (xs : List Object). record s { objects = xs }) (sym left) ∙ sym is)) in
    ap (λ b. unless b WrongState (Ok (delete_made r x))) passive
    ∙ ap Ok (ap (λ t. counts_none t quiet_answer) rec ∙ ap (counts_none u) (sym told))
