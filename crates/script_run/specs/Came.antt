-- That the messages of a script are those that the bytes of a link spell.
use Rattle.std.specs.Prelude.{◌≡◌, ◌++◌, ℕ, List, [], ◌∷◌, Option}
use Rattle.message_values.specs.declared.message.Message.{Message}
use Rattle.message_model.specs.declared.fault.WireFault.{WireFault}
use Rattle.message_model.specs.declared.frame.Frame.{Frame}
use Rattle.message_model.specs.Frames.{Reads}
use Rattle.script_model.specs.Events.{Event}
use Rattle.script_model.specs.Origins.{AreHeard, messages_of, passed}

-- Of a server that has had one link, the messages that the container was given are the first of those among the frames
-- that the bytes which came on it are read as.
abbrev pub MessagesAreThoseThatCame : Type 0 → Type 0
MessagesAreThoseThatCame D = (es : List (Event D)) (s : ℕ) (bytes : List ℕ) (frames : List Frame)
    (fault : Option WireFault)
    → AreHeard es → (passed s es).came ≡ bytes ∷ [] → Reads bytes frames fault → (more : List Message)
    × (messages_of frames ≡ (passed s es).given ++ more)
