-- How much a host is asked for a command: the turns that each server is sent, how often its link is made anew, and how
-- often it is read.
use Rattle.std.specs.Prelude.{◌+◌, ◌≤◌, ◌==◌, ℕ, Bool, false, List, [], ◌∷◌, if◌then◌else◌}
use Rattle.script_model.specs.declared.step.Step.{Step}
use Rattle.script_model.specs.declared.step.Step.TheVariants as step
use Rattle.script_model.specs.Events.{Event, Started, Connected, Sent, Heard, Ended, Opened, Found, Shut, Stepped}

-- the most turns of a server in a command
abbrev pub MOST_TURNS : ℕ
MOST_TURNS = 1000

-- the most reads of a link in a turn
abbrev pub MOST_READS : ℕ
MOST_READS = 1000000

-- How far a server is in a command: how many of its turns began; how often its link was made anew, whether or not that
-- was done, and how often it was read, both since the last of these turns began. Where the link was made anew and
-- nothing was sent or came since, what is sent next is the same turn again. And how often its link was made anew in all
-- of the command.
pub record Pace : Type 0 where
  pub turns : ℕ
  pub anew : ℕ
  pub reads : ℕ
  pub is_anew : Bool
  pub links : ℕ

-- nothing was sent
abbrev pub resting : Pace
resting = record { turns = 0; anew = 0; reads = 0; is_anew = false; links = 0 }

abbrev pub sending : Pace → Pace
sending p =
    if p.is_anew
    then record { turns = p.turns; anew = p.anew; reads = p.reads; is_anew = false; links = p.links }
    else record { turns = p.turns + 1; anew = 0; reads = 0; is_anew = false; links = p.links }

abbrev pub linking : Bool → Pace → Pace
linking ok p = record { turns = p.turns; anew = p.anew + 1; reads = p.reads; is_anew = ok; links = p.links + 1 }

abbrev pub reading : Pace → Pace
reading p = record { turns = p.turns; anew = p.anew; reads = p.reads + 1; is_anew = false; links = p.links }

abbrev pub behind_step : Step → Pace → Pace
behind_step (step.Begins n) p = resting
behind_step (step.Command c) p = p
behind_step (step.Message inc m) p = p
behind_step (step.Reap inc) p = p
behind_step (step.Committed f) p = p
behind_step (step.Failed f) p = p
behind_step (step.Resolved f is_kept) p = p
behind_step (step.Open name w h session objects) p = p
behind_step step.NoMemory p = p

-- how far a server is in the command that began last
abbrev pub pace : {D : Type 0} → ℕ → List (Event D) → Pace
pace s [] = resting
pace s (Sent inc bytes ok ∷ es) = if inc == s then sending (pace s es) else pace s es
pace s (Connected inc ok ∷ es) = if inc == s then linking ok (pace s es) else pace s es
pace s (Heard inc bytes ok ∷ es) = if inc == s then reading (pace s es) else pace s es
pace s (Stepped step ∷ es) = behind_step step (pace s es)
pace s (Started session inc ok ∷ es) = pace s es
pace s (Ended inc ∷ es) = pace s es
pace s (Opened name disk ∷ es) = pace s es
pace s (Found name disk ∷ es) = pace s es
pace s (Shut name disk ∷ es) = pace s es

-- How often a link is made anew in a turn: once, and in the first turn of a command once more, where the command cuts
-- the link.
abbrev pub most_anew : ℕ → ℕ
most_anew turn = if turn == 1 then 2 else 1

pub record IsWithin (p : Pace) : Type 0 where
  pub turns : p.turns ≤ MOST_TURNS
  pub anew : p.anew ≤ most_anew p.turns
  pub reads : p.reads ≤ MOST_READS

-- For each command, a server is sent at most so many turns, one of them again only where its link was made anew
-- meanwhile; in a turn its link is made anew no more often, and read no more often.
abbrev pub AreBounded : {D : Type 0} → List (Event D) → Type 0
AreBounded [] = Unit {0}
AreBounded (Sent inc bytes ok ∷ es) = IsWithin (sending (pace inc es)) × AreBounded es
AreBounded (Connected inc ok ∷ es) = IsWithin (linking ok (pace inc es)) × AreBounded es
AreBounded (Heard inc bytes ok ∷ es) = IsWithin (reading (pace inc es)) × AreBounded es
AreBounded (Started session inc ok ∷ es) = AreBounded es
AreBounded (Ended inc ∷ es) = AreBounded es
AreBounded (Opened name disk ∷ es) = AreBounded es
AreBounded (Found name disk ∷ es) = AreBounded es
AreBounded (Shut name disk ∷ es) = AreBounded es
AreBounded (Stepped step ∷ es) = AreBounded es
