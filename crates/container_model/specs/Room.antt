-- Numbers stay within what a message carries: each activation has a number left for what it may be asked without a
-- check.
use Rattle.std.specs.Prelude.{◌+◌, ◌==◌, ◌≤◌, ℕ, List, length, Option, Some, None, All, cond, is_some, if◌then◌else◌}
use Rattle.message_values.specs.Found.{nth}
use Rattle.object_state.specs.declared.grant_states.Claim.{Claim}
use Rattle.object_state.specs.declared.grant_states.GrantState.{GrantState}
use Rattle.object_state.specs.declared.grant_states.GrantState.TheVariants.{Free, Granting, Held, Revoking}
use Rattle.container_model.specs.declared.record.Link.{Link}
use Rattle.container_model.specs.declared.record.Object.{Object}
use Rattle.container_model.specs.declared.record.Frame.{Frame}
use Rattle.container_model.specs.declared.record.Phase.{Phase}
use Rattle.container_model.specs.declared.record.Phase.TheVariants.{Idle, Saving, HandingOff, Committing, InDoubt}
use Rattle.container_model.specs.Record.{Record}

-- while a save is under way, one call may come without a check: it tells how the save ended; before it, under another
-- name, one that asks for the storage
abbrev pub debt : Phase → Option (List ℕ) → ℕ
debt Idle asked = 0
debt Saving None = 1
debt Saving (Some name) = 2
debt HandingOff asked = 1
debt Committing asked = 1
debt InDoubt asked = 1

-- whoever has a frame or is to get it may be told to give it up; whoever waits for it is told of its grant before
abbrev pub claim_debt : ℕ → ℕ → Option Claim → ℕ
claim_debt number calls None = 0
claim_debt number calls (Some claim) = if claim.object == number then calls else 0

abbrev pub grant_debt : ℕ → GrantState → ℕ
grant_debt number Free = 0
grant_debt number (Granting claim) = claim_debt number 1 (Some claim)
grant_debt number (Held holder tools) = claim_debt number 1 (Some holder)
grant_debt number (Revoking holder next) = claim_debt number 2 next

abbrev pub debt_in : ℕ → Option Frame → ℕ
debt_in number None = 0
debt_in number (Some frame) = debt frame.phase frame.asked + grant_debt number frame.ui.state

abbrev pub count_pending : Link → ℕ
count_pending l = cond (is_some l.pending) 1 0

-- a storage grant is numbered by at most one for each answered call
pub record IsRoomy (numbers more : ℕ) (l : Link) : Type 0 where
  pub calls : l.last + length l.waiting + more ≤ numbers
  pub grants : l.s + count_pending l ≤ l.last

abbrev pub IfLinked : (Link → Type 0) → Option Link → Type 0
IfLinked P None = Unit {0}
IfLinked P (Some l) = P l

abbrev pub HasRoom : ℕ → List Frame → Object → Type 0
HasRoom numbers frames o = IfLinked (IsRoomy numbers (debt_in o.number (nth frames o.frame))) o.link

-- A record whose greatest number is one of these, and whose numbers are at most that one, with room for each
-- activation.
pub record HasNumbers (Greatest : ℕ → Type 0) (r : Record) : Type 0 where
  pub limit : Greatest r.numbers
  pub room : All (HasRoom r.numbers r.frames) r.objects
  pub saves : All (λ (f : Frame). f.k ≤ r.numbers) r.frames
  pub frames : length r.frames ≤ r.numbers
  pub servers : length r.servers ≤ r.numbers
  pub objects : r.last_object ≤ r.numbers
  pub acts : r.last_act ≤ r.numbers
  pub grants : r.last_g ≤ r.numbers

-- the numbers of a container that runs
abbrev pub IsSound : Record → Type 0
IsSound r = HasNumbers (λ numbers. numbers ≤ 1000000) r
