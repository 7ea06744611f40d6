-- Servers that may be sent their next turn.
use Rattle.std.specs.Prelude.{◌≡◌, ◌≤◌, ◌+◌, ◌==◌, ℕ, Bool, false, List, drop, if◌then◌else◌}
use Rattle.script_model.specs.Bounds.{IsWithin, MOST_READS, Pace, linking, most_anew, pace, resting, sending}
use Rattle.script_model.specs.Events.{Event}
use Rattle.script_links.specs.Links.{links_of}
use Rattle.script_links.specs.declared.links.Link.{Link}

-- The next turn of a server is at most its turn of this number in its command, counted from 1, and its link may be made
-- anew once in it.
pub record IsReady (number : ℕ) (p : Pace) : Type 0 where
  pub first : 1 ≤ (sending p).turns
  pub turns : (sending p).turns ≤ number
  pub anew : (sending p).anew + 1 ≤ most_anew (sending p).turns
  pub reads : (sending p).reads ≡ 0

-- Each server that has one of these links is ready.
abbrev pub AreReady : {D : Type 0} → ℕ → List (Event D) → List Link → Type 0
AreReady number es ls = (s : ℕ) → 1 ≤ links_of s ls → IsReady number (pace s es)

-- Of a turn of all links those before a place had theirs, and those from there on didn't yet.
pub record IsUnderway {D : Type 0} (number : ℕ) (es : List (Event D)) (ls : List Link) (place : ℕ) : Type 0 where
  pub all : AreReady (number + 1) es ls
  pub later : AreReady number es (drop place ls)

-- A link may be read so often still in its turn.
abbrev pub HasLeft : Pace → ℕ → Type 0
HasLeft p left = left + p.reads ≤ MOST_READS

-- A turn that was sent goes on.
pub record GoesOn (before now : Pace) (left : ℕ) : Type 0 where
  pub turns : now.turns ≡ before.turns
  pub anew : now.anew ≡ before.anew
  pub sent : now.is_anew ≡ false
  pub reads : HasLeft now left
  pub links : before.links ≤ now.links

-- A server had its next turn.
pub record HadTurn (before now : Pace) : Type 0 where
  pub turns : now.turns ≡ (sending before).turns
  pub sent : now.is_anew ≡ false
  pub links : before.links ≤ now.links

-- A link may be made anew.
abbrev pub MayLink : Pace → Type 0
MayLink p = (ok : Bool) → IsWithin (linking ok p)

-- how far a server is, but for one server
abbrev pub pace_beside : {D : Type 0} → ℕ → ℕ → List (Event D) → Pace
pace_beside inc s es = if inc == s then resting else pace s es

-- The next turn of each server that has one of these links is at least its turn of this number in its command.
abbrev pub AreDue : {D : Type 0} → ℕ → List (Event D) → List Link → Type 0
AreDue number es ls = (s : ℕ) → 1 ≤ links_of s ls → number ≤ (sending (pace s es)).turns

-- Of a turn of all links those before a place had theirs, which was at least of this number.
pub record HaveHad {D : Type 0} (number : ℕ) (es : List (Event D)) (ls : List Link) (place : ℕ) : Type 0 where
  pub all : AreDue number es ls
  pub before : (s : ℕ) → 1 ≤ links_of s ls → links_of s (drop place ls) ≡ 0 → number + 1 ≤ (sending (pace s es)).turns
