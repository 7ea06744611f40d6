-- The grant of a frame's menus and border space: the table of its states (IOleInPlaceFrame).
use Rattle.std.specs.Prelude.{◌≢◌, ℕ, Bool, ◌==◌, ◌&&◌, not, Option, Some, None, Result, Ok, Err, if◌then◌else◌, ⊤}
use Rattle.object_state.specs.declared.grant_states.Claim.{Claim}
use Rattle.object_state.specs.declared.grant_states.Tools.{Tools}
use Rattle.object_state.specs.declared.grant_states.GrantState.{GrantState}
use Rattle.object_state.specs.declared.grant_states.GrantState.TheVariants.{Free, Granting, Held, Revoking}
use Rattle.object_state.specs.declared.grant_faults.GrantFault.{GrantFault}
use Rattle.object_state.specs.declared.grant_faults.GrantFault.TheVariants.{NotHolder, Busy}

-- what happens to a frame's grant: an object asks for it or offers it back, the object that gets it
-- answers, the holder gives it up, an activation is lost
pub data Event : Type 0 where
  Ask : Claim → Event
  Granted : ℕ → Tools → Event
  Revoked : ℕ → Event
  Lost : ℕ → Event

-- the holder asks by its own activation and grant: it is to give the frame up
abbrev pub is_own : Claim → Claim → Bool
is_own holder claim = claim.act == holder.act && claim.g == holder.g

-- another object asks, by an activation of its own
abbrev pub is_another : Claim → Claim → Bool
is_another holder claim = not (claim.object == holder.object) && not (claim.act == holder.act)

abbrev pub asked_at_held : Claim → Claim → Result GrantState GrantFault
asked_at_held holder claim =
    if is_own holder claim then Ok (Revoking holder None)
    else if is_another holder claim then Ok (Revoking holder (Some claim))
    else Err Busy

-- once the holder is gone
abbrev pub passed_on : Option Claim → GrantState
passed_on None = Free
passed_on (Some waiting) = Granting waiting

-- whoever waits, but for this activation
abbrev pub but_for : ℕ → Option Claim → Option Claim
but_for act None = None
but_for act (Some waiting) = if act == waiting.act then None else Some waiting

-- the table: each state, the event, and the state that it leads to
abbrev pub table : GrantState → Event → Result GrantState GrantFault
table Free (Ask claim) = Ok (Granting claim)
table (Held holder tools) (Ask claim) = asked_at_held holder claim
table (Granting claim) (Granted g tools) = if g == claim.g then Ok (Held claim tools) else Err NotHolder
table (Revoking holder waiting) (Revoked g) = if g == holder.g then Ok (passed_on waiting) else Err NotHolder
table (Revoking holder waiting) (Lost act) = if act == holder.act then Ok (passed_on waiting)
    else Ok (Revoking holder (but_for act waiting))
table (Granting claim) (Lost act) = if act == claim.act then Ok Free else Ok (Granting claim)
table (Held holder tools) (Lost act) = if act == holder.act then Ok Free else Ok (Held holder tools)
table Free (Lost act) = Ok Free
table _ (Ask claim) = Err Busy
table _ (Granted g tools) = Err NotHolder
table _ (Revoked g) = Err NotHolder

-- who has the frame, or is to get it
abbrev pub who : GrantState → Option Claim
who Free = None
who (Granting claim) = Some claim
who (Held holder tools) = Some holder
who (Revoking holder waiting) = Some holder

-- who gets it once the holder has given it up
abbrev pub waiting : GrantState → Option Claim
waiting (Revoking holder next) = next
waiting _ = None

-- whoever waits is another object than the holder, with another activation
abbrev pub IsApart : GrantState → Type 0
IsApart (Revoking holder (Some next)) = (next.object ≢ holder.object) × (next.act ≢ holder.act)
IsApart _ = ⊤
