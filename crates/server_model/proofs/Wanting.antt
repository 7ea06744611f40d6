-- When a message uses an object.
use Rattle.std.proofs.Common.{◌≡◌, ℕ, Bool, true, false, cond, List, [], ◌∷◌, ◌++◌, length, refl, sym, ◌∙◌, Option}
use Rattle.std.proofs.Common.{Some, None, Result, Ok, Err, nat_le}
use Rattle.std.proofs.lemmas.Slice.Eq.{bytes_eq-Decides}
use Rattle.object_core.specs.Kinds.{Kind, class_of}
use Rattle.message_values.specs.Found.{find}
use Rattle.message_values.specs.declared.operation.Operation.{Operation}
use Rattle.message_values.specs.declared.message.Said.{Said}
use Rattle.message_values.specs.declared.message.Said.TheVariants.{Call, Reply, Write, Ask}
use Rattle.server_model.specs.declared.fault.ServerFault.{ServerFault}
use Rattle.server_model.specs.declared.fault.ServerFault.TheVariants.{WrongIncarnation, Ignored, NumbersSpent}
use Rattle.server_model.specs.declared.fault.ServerFault.TheVariants.{WrongClass}
use Rattle.server_model.specs.Server.{Activation, Server, Acted, Served, after_known, after_begun, begins, begun_class}
use Rattle.server_model.specs.Server.{begun_content, called, is_act, is_class, is_for, known_call, offered, on_said}
use Rattle.server_model.specs.Server.{unknown_call, wanted_by, wanted_unknown}
use Rattle.server_model.specs.Laws.{UnwantedUnused, WantedUsed}

abbrev Unused : Result Served ServerFault → Type 0
Unused r = (told : Served) → r ≡ Ok told → told.used ≡ false

abbrev Same : Result Served ServerFault → Result Served ServerFault → Type 0
Same r without = (r ≡ without) × Unused r

none_used : (fault : ServerFault) → Same (Err fault) (Err fault)
none_used fault = (refl, λ told e. cc)

known_unused : (v : Server) (act : ℕ) (r : Result Acted ServerFault) → Unused (after_known v act r)
known_unused v act (Err fault) told e = cc
known_unused v act (Ok b) told e = cc

room_unused : (b : Bool) (class : List ℕ) (r without : Result Served ServerFault) → cond b None (Some class) ≡ None
    → Same (cond b (Err NumbersSpent) r) (cond b (Err NumbersSpent) without)
room_unused true class r without e = none_used NumbersSpent
room_unused false class r without e = cc

first_unused : (v : Server) (act : ℕ) (op : Operation) (box : Option Kind) (class : Option (List ℕ))
    → wanted_unknown v class None ≡ None → Same (unknown_call v act op box class) (unknown_call v act op None class)
first_unused v act op box None e = none_used Ignored
first_unused v act op box (Some class) e = room_unused (nat_le v.numbers (length v.acts)) class
    (offered v act class op box) (offered v act class op None) e

call_unused : (v : Server) (act n : ℕ) (op : Operation) (box : Option Kind) (a : Option Activation)
    → wanted_unknown v (begun_class n op) a ≡ None → Same (called v act n op box a) (called v act n op None a)
call_unused v act n op box None e = first_unused v act op box (begun_class n op) e
call_unused v act n op box (Some a) e = (refl, known_unused v act (known_call a n op))

inc_unused : (b : Bool) (class : Option (List ℕ)) (r without : Result Served ServerFault)
    → (class ≡ None → Same r without) → cond b class None ≡ None
    → Same (cond b r (Err WrongIncarnation)) (cond b without (Err WrongIncarnation))
inc_unused true class r without f e = f e
inc_unused false class r without f e = none_used WrongIncarnation

said_unused : (v : Server) (session : ℕ) (said : Said) (box : Option Kind) → wanted_by v session said ≡ None
    → Same (on_said v session said box) (on_said v session said None)
said_unused v session (Call inc act n op) box e =
    inc_unused (is_for v session inc) (wanted_unknown v (begun_class n op) (find (is_act act) v.acts)) _ _
    (call_unused v act n op box (find (is_act act) v.acts)) e
said_unused v session (Reply inc act n answer) box e = none_used Ignored
said_unused v session (Write inc act s w content) box e = none_used Ignored
said_unused v session (Ask inc act g) box e = none_used Ignored

pub unwanted-unused : UnwantedUnused
unwanted-unused v m box e = said_unused v m.session m.said box e

abbrev Used : Result Served ServerFault → Type 0
Used r = (told : Served) × (r ≡ Ok told) × (told.used ≡ true)

class_used : (b : Bool) (v : Server) (acted : Acted) → b ≡ true → Used (cond b (after_begun v acted) (Err WrongClass))
class_used true v acted e = (
  record {
    server = record v { acts = v.acts ++ acted.activation ∷ [] };
    answer = acted.answer;
    counted = None;
    used = true;
  },
  refl,
  refl,
)
class_used false v acted e = cc

offer_used : (v : Server) (act : ℕ) (op : Operation) (class : List ℕ) (kind : Kind) → class ≡ class_of kind
    → Used (offered v act class op (Some kind))
offer_used v act op class kind e = class_used (is_class kind class) v (begins act class op (begun_content kind op))
    ((bytes_eq-Decides (class_of kind) class).1 (sym e))

room_used : (b : Bool) (class given : List ℕ) (r : Result Served ServerFault)
    → cond b None (Some class) ≡ Some given → (class ≡ given → Used r) → Used (cond b (Err NumbersSpent) r)
room_used true class given r e f = cc
room_used false class given r e f = f cc

none_wanted : (b : Bool) (given : List ℕ) → cond {A = Option (List ℕ)} b None None ≡ Some given → ⊥
none_wanted true given e = cc
none_wanted false given e = cc

first_used : (v : Server) (act : ℕ) (op : Operation) (class : Option (List ℕ)) (given : List ℕ) (kind : Kind)
    → wanted_unknown v class None ≡ Some given → given ≡ class_of kind
    → Used (unknown_call v act op (Some kind) class)
first_used v act op None given kind e k = absurd (none_wanted (nat_le v.numbers (length v.acts)) given e)
first_used v act op (Some class) given kind e k = room_used (nat_le v.numbers (length v.acts)) class given
    (offered v act class op (Some kind)) e (λ same. offer_used v act op class kind (same ∙ k))

call_used : (v : Server) (act n : ℕ) (op : Operation) (given : List ℕ) (kind : Kind) (a : Option Activation)
    → wanted_unknown v (begun_class n op) a ≡ Some given → given ≡ class_of kind
    → Used (called v act n op (Some kind) a)
call_used v act n op given kind None e k = first_used v act op (begun_class n op) given kind e k
call_used v act n op given kind (Some a) e k = cc

inc_used : (b : Bool) (class : Option (List ℕ)) (given : List ℕ) (r : Result Served ServerFault)
    → (class ≡ Some given → Used r) → cond b class None ≡ Some given → Used (cond b r (Err WrongIncarnation))
inc_used true class given r f e = f e
inc_used false class given r f e = cc

said_used : (v : Server) (session : ℕ) (said : Said) (given : List ℕ) (kind : Kind)
    → wanted_by v session said ≡ Some given → given ≡ class_of kind → Used (on_said v session said (Some kind))
said_used v session (Call inc act n op) given kind e k =
    inc_used (is_for v session inc) (wanted_unknown v (begun_class n op) (find (is_act act) v.acts)) given _
    (λ h. call_used v act n op given kind (find (is_act act) v.acts) h k) e
said_used v session (Reply inc act n answer) given kind e k = cc
said_used v session (Write inc act s w content) given kind e k = cc
said_used v session (Ask inc act g) given kind e k = cc

pub wanted-used : WantedUsed
wanted-used v m given kind e k = said_used v m.session m.said given kind e k
