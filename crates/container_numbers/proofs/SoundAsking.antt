-- Activations that are asked after a check have room for it, and what they owe is little.
use Rattle.std.proofs.Common.{◌≡◌, ◌≤◌, ◌+◌, ℕ, true, List, [], ◌∷◌, length, Option, Some, None, refl, arith}
use Rattle.message_values.specs.Found.{find, nth, set_nth}
use Rattle.message_values.specs.declared.operation.Operation.{Operation}
use Rattle.object_state.specs.declared.grant_states.Claim.{Claim}
use Rattle.object_state.specs.Grants.{Ask}
use Rattle.container_model.specs.declared.record.Link.{Link}
use Rattle.container_model.specs.declared.record.Object.{Object}
use Rattle.container_model.specs.declared.record.Frame.{Frame}
use Rattle.container_model.specs.declared.record.Phase.{Phase}
use Rattle.container_model.specs.declared.record.Phase.TheVariants.{Idle, Saving, HandingOff, Committing, InDoubt}
use Rattle.container_model.specs.Grants.{moved}
use Rattle.container_model.specs.Record.{Record, ask_each, asked_link, has_numbers, is_object, link_has_numbers}
use Rattle.container_model.specs.Record.{with_object}
use Rattle.container_model.specs.Room.{IfLinked, IsRoomy, debt, debt_in}
use Rattle.container_queues.proofs.SteadyLookups.{each_found}
use Rattle.container_numbers.proofs.SoundGrants.{asks_less, grant_few}
use Rattle.container_numbers.proofs.SoundMoves.{move_owed}
use Rattle.container_numbers.proofs.SoundRooms.{Owing, Within, debts, each_asked_roomy, put_within}

-- ---- nobody owes more than four calls
debt_few : (p : Phase) (asked : Option (List ℕ)) → debt p asked ≤ 2
debt_few Idle asked = omega arith
debt_few Saving None = omega arith
debt_few Saving (Some name) = omega arith
debt_few HandingOff asked = omega arith
debt_few Committing asked = omega arith
debt_few InDoubt asked = omega arith

debt_in_few : (n : ℕ) (found : Option Frame) → debt_in n found ≤ 4
debt_in_few n None = omega arith
debt_in_few n (Some frame) = (let p = debt_few frame.phase frame.asked in let g = grant_few n frame.ui.state in
    omega arith)

pub debts_few : (frames : List Frame) (n f : ℕ) → debts frames n f ≤ 4
debts_few frames n f = debt_in_few n (nth frames f)

-- ---- whoever is asked after a check
checked : (numbers : ℕ) (l : Link) → has_numbers numbers l ≡ true → l.last + length l.waiting + 8 ≤ numbers
checked numbers l h = grind arith

pub asked_checked : (numbers before more : ℕ) (l : Link) (ops : List Operation) → has_numbers numbers l ≡ true
    → more + length ops ≤ 8 → IsRoomy numbers before l → IsRoomy numbers more (ask_each l ops).link
asked_checked numbers before more l ops has few h = each_asked_roomy numbers more l ops
    (record { calls = (let c = checked numbers l has in omega arith); grants = h.grants })

pub link_checked : (numbers before more : ℕ) (op : Operation) (link : Option Link)
    → link_has_numbers numbers link ≡ true → more ≤ 4 → IfLinked (IsRoomy numbers before) link
    → IfLinked (IsRoomy numbers more) (asked_link op link)
link_checked numbers before more op None has few h = tt
link_checked numbers before more op (Some l) has few h = asked_checked numbers before more l (op ∷ []) has
    (omega arith) h

-- an object that is asked once after a check
pub one_asked : {Greatest : ℕ → Type 0} (r : Record) (D : ℕ → ℕ → ℕ) (o : Object) (op : Operation)
    → Within Greatest D r → find (is_object o.number) r.objects ≡ Some o → link_has_numbers r.numbers o.link ≡ true
    → D o.number o.frame ≤ 4
    → Within Greatest D (with_object r (record o { link = asked_link op o.link }))
one_asked r D o op h found has few =
    put_within r D D (record o { link = asked_link op o.link }) o h found (λ m f ne. omega arith)
    (link_checked r.numbers (D o.number o.frame) (D o.number o.frame) op o.link has few
    (each_found (Owing r.numbers D) (is_object o.number) r.objects o h.room found)) refl

-- ---- where an object asks for its frame, the others owe no more
pub asks_debts : (frames : List Frame) (f : ℕ) (frame : Frame) (claim : Claim) → nth frames f ≡ Some frame
    → (n g : ℕ) → (claim.object ≡ n → ⊥) → debts (set_nth frames f (moved frame (Ask claim))) n g ≤ debts frames n g
asks_debts frames f frame claim at n g ne =
    let less = asks_less frame.ui.state claim n ne in
    let more = move_owed frames f frame (moved frame (Ask claim)) n g 0 at refl (omega arith) (λ out. refl) in
    omega arith
