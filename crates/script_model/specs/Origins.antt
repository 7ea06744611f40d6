-- Where messages come from: what came on the links of a server, and what the container was given of it, its end last.
use Rattle.std.specs.Prelude.{◌≡◌, ◌==◌, ◌&&◌, ◌++◌, ℕ, false, List, [], ◌∷◌, if◌then◌else◌}
use Rattle.std.specs.List.{AllByRecursion}
use Rattle.message_values.specs.declared.message.Message.{Message}
use Rattle.message_model.specs.declared.frame.Frame.{Frame}
use Rattle.message_model.specs.declared.frame.Frame.TheVariants as frame
use Rattle.message_model.specs.Frames.{IsFrame}
use Rattle.message_model.specs.Spelling.{joined}
use Rattle.script_model.specs.declared.step.Step.{Step}
use Rattle.script_model.specs.declared.step.Step.TheVariants as step
use Rattle.script_model.specs.Events.{Event, Started, Connected, Sent, Heard, Ended, Opened, Found, Shut, Stepped}
use Rattle.script_model.specs.Containers.{record_of}
use Rattle.script_model.specs.Orders.{IsReadied, asked}
use Rattle.script_model.specs.Saved.{OfEachStep, is_any_unsaved}

-- ---- histories

-- What passed between a server and the container since it was started: the bytes that came on each link to it, the last
-- link first, and the messages that the container was given of it, in their order. A server that doesn't run has no
-- link.
pub record Passed : Type 0 where
  pub came : List (List ℕ)
  pub given : List Message

-- no link
abbrev pub unlinked : Passed
unlinked = record { came = []; given = [] }

-- a link to a server that was started, on which nothing came
abbrev pub fresh : Passed
fresh = record { came = [] ∷ []; given = [] }

-- another link behind these: nothing came on it
abbrev pub another : List (List ℕ) → List (List ℕ)
another [] = []
another (came ∷ earlier) = [] ∷ came ∷ earlier

-- bytes behind what came on the last link
abbrev pub behind : List ℕ → List (List ℕ) → List (List ℕ)
behind bytes [] = []
behind bytes (came ∷ earlier) = (came ++ bytes) ∷ earlier

abbrev pub relinked : Passed → Passed
relinked p = record { came = another p.came; given = p.given }

abbrev pub hearing : List ℕ → Passed → Passed
hearing bytes p = record { came = behind bytes p.came; given = p.given }

-- the container was given these messages besides
abbrev pub giving : List Message → Passed → Passed
giving ms p = record { came = p.came; given = p.given ++ ms }

abbrev pub after_step : ℕ → Step → Passed → Passed
after_step s (step.Begins n) p = p
after_step s (step.Command c) p = p
after_step s (step.Message inc m) p = if inc == s then giving (m ∷ []) p else p
after_step s (step.Reap inc) p = p
after_step s (step.Committed f) p = p
after_step s (step.Failed f) p = p
after_step s (step.Resolved f is_kept) p = p
after_step s (step.Open name w h session objects) p = p
after_step s step.NoMemory p = p

-- what passed between a server and the container; a link that couldn't be made anew is one on which nothing came
abbrev pub passed : {D : Type 0} → ℕ → List (Event D) → Passed
passed s [] = unlinked
passed s (Started session inc ok ∷ es) = if ok && (inc == s) then fresh else passed s es
passed s (Connected inc ok ∷ es) = if inc == s then relinked (passed s es) else passed s es
passed s (Heard inc bytes ok ∷ es) = if ok && (inc == s) then hearing bytes (passed s es) else passed s es
passed s (Ended inc ∷ es) = if inc == s then unlinked else passed s es
passed s (Stepped step ∷ es) = after_step s step (passed s es)
passed s (Sent inc bytes ok ∷ es) = passed s es
passed s (Opened name disk ∷ es) = passed s es
passed s (Found name disk ∷ es) = passed s es
passed s (Shut name disk ∷ es) = passed s es

-- ---- messages

-- the messages among frames: a Turn is none
abbrev pub messages_of : List Frame → List Message
messages_of [] = []
messages_of (frame.Message m ∷ fs) = m ∷ messages_of fs
messages_of (frame.Turn ∷ fs) = messages_of fs

-- Bytes begin with the byte forms of frames, one after another, whose messages are these.
pub record Begins (bytes : List ℕ) (ms : List Message) : Type 0 where
  pub frames : List Frame
  pub rest : List ℕ
  pub spelled : bytes ≡ joined frames ++ rest
  pub each : AllByRecursion IsFrame frames
  pub messages : messages_of frames ≡ ms

-- Messages came on these links, of which the last is first: those at the beginning of what came on each, one link after
-- another. What came behind them on a link may be lost with the link.
abbrev pub AreFirst : List (List ℕ) → List Message → Type 0
AreFirst [] ms = ms ≡ []
AreFirst (bytes ∷ earlier) ms = (before : List Message) × (last : List Message) × (ms ≡ before ++ last)
    × AreFirst earlier before × Begins bytes last

-- These messages are the next ones: they came on the links of their server, directly behind those that the container
-- was given.
abbrev pub AreNext : Passed → List Message → Type 0
AreNext p ms = (more : List Message) × AreFirst p.came (p.given ++ (ms ++ more))

-- The last call ended this server.
abbrev pub IsJustEnded : {D : Type 0} → ℕ → List (Event D) → Type 0
IsJustEnded {D = D} inc es = (before : List (Event D)) × (es ≡ Ended inc ∷ before)

-- A command begins where no frame's file is to be committed, or in doubt: the saves of the commands before it are done.
abbrev pub BeginsSaved : {D : Type 0} → List (Event D) → Type 0
BeginsSaved es = is_any_unsaved (record_of es).frames ≡ false

-- a step that gives the container a message, behind these calls: it is the next one that came on the links of its
-- server; one that tells it the end of a server, directly behind this end; a start, where it has a session or was to
-- get one; and the beginning of a command
abbrev pub GivesNext : {D : Type 0} → Step → List (Event D) → Type 0
GivesNext (step.Begins n) es = BeginsSaved es
GivesNext (step.Command c) es = IsReadied c (record_of es) (asked es)
GivesNext (step.Message inc m) es = AreNext (passed inc es) (m ∷ [])
GivesNext (step.Reap inc) es = IsJustEnded inc es
GivesNext (step.Committed f) es = Unit {0}
GivesNext (step.Failed f) es = Unit {0}
GivesNext (step.Resolved f is_kept) es = Unit {0}
GivesNext (step.Open name w h session objects) es = Unit {0}
GivesNext step.NoMemory es = Unit {0}

-- Each message that the container was given came on a link of its server, since this was started and before it was
-- ended: it is the next one behind those that the container was given of this server. So none is made up, none comes
-- twice, and none comes before its bytes. Each end of a server that it was told stands directly behind the end of this
-- server. Each start that it was given without a session stands behind a Session, which was to raise one. And where a
-- command begins, no frame's file is to be committed, or in doubt.
abbrev pub AreHeard : {D : Type 0} → List (Event D) → Type 0
AreHeard es = OfEachStep GivesNext es
