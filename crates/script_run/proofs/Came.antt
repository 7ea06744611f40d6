-- The messages of a script are those that the bytes of a link spell.
use Rattle.std.proofs.Common.{◌≡◌, ◌==◌, ◌++◌, ◌&&◌, ℕ, Bool, true, false, List, [], ◌∷◌, if◌then◌else◌, Option, refl}
use Rattle.std.proofs.Common.{sym, ap, ◌∙◌, subst, append_assoc}
use Rattle.std.proofs.lemmas.Bool.{eqb-true}
use Rattle.message_values.specs.declared.message.Message.{Message}
use Rattle.message_model.specs.declared.fault.WireFault.{WireFault}
use Rattle.message_model.specs.declared.frame.Frame.{Frame}
use Rattle.message_model.specs.Frames.{FramesAreLongest, Reads}
use Rattle.message_model.specs.Spelling.{joined}
use Rattle.script_model.specs.declared.step.Step.TheVariants as step
use Rattle.script_model.specs.Events.{Event, Started, Connected, Sent, Heard, Ended, Opened, Found, Shut, Stepped}
use Rattle.script_model.specs.Origins.{AreFirst, AreHeard, AreNext, Begins, Passed, fresh, giving, hearing, messages_of}
use Rattle.script_model.specs.Origins.{passed, relinked, unlinked}
use Rattle.script_run.specs.Came.{MessagesAreThoseThatCame}
use Rattle.script_links.proofs.Served.{append_none, messages_both}

-- ---- what keeps the messages that came

nothing_begins : (bytes : List ℕ) → Begins bytes []
nothing_begins bytes = record { frames = []; rest = bytes; spelled = refl; each = tt; messages = refl }

begins_still : (bytes piece : List ℕ) (ms : List Message) → Begins bytes ms → Begins (bytes ++ piece) ms
begins_still bytes piece ms b = record {
  frames = b.frames;
  rest = b.rest ++ piece;
  spelled = ap (λ bs. bs ++ piece) b.spelled ∙ append_assoc (joined b.frames) b.rest piece;
  each = b.each;
  messages = b.messages;
}

first_relinked : (came : List (List ℕ)) (given ms : List Message) → AreFirst came ms
    → AreFirst (relinked (record { came = came; given = given })).came ms
first_relinked [] given ms first = first
first_relinked (bytes ∷ earlier) given ms first = (ms, [], sym (append_none ms), first, nothing_begins [])

first_hearing : (came : List (List ℕ)) (given : List Message) (piece : List ℕ) (ms : List Message)
    → AreFirst came ms → AreFirst (hearing piece (record { came = came; given = given })).came ms
first_hearing [] given piece ms first = first
first_hearing (bytes ∷ earlier) given piece ms first =
    (first.0, first.1, first.2, first.3, begins_still bytes piece first.1 first.4)

-- ---- whole histories

either : (b : Bool) (p q : Passed) → AreNext p [] → AreNext q [] → AreNext (if b then p else q) []
either true p q first second = first
either false p q first second = second

relinked_next : (p : Passed) → AreNext p [] → AreNext (relinked p) []
relinked_next p next = (next.0, first_relinked p.came p.given (p.given ++ next.0) next.1)

hearing_next : (p : Passed) (piece : List ℕ) → AreNext p [] → AreNext (hearing piece p) []
hearing_next p piece next = (next.0, first_hearing p.came p.given piece (p.given ++ next.0) next.1)

unlinked_next : AreNext unlinked []
unlinked_next = ([], refl)

fresh_next : AreNext fresh []
fresh_next = ([], ([], [], refl, refl, nothing_begins []))

given_next : (p : Passed) (m : Message) → AreNext p (m ∷ []) → AreNext (giving (m ∷ []) p) []
given_next p m next =
    (next.0, subst (λ (ms : List Message). AreFirst p.came ms) (sym (append_assoc p.given (m ∷ []) next.0)) next.1)

this_given : (b : Bool) (p : Passed) (m : Message) → (b ≡ true → AreNext p (m ∷ [])) → AreNext p []
    → AreNext (if b then giving (m ∷ []) p else p) []
this_given true p m next still = given_next p m (next refl)
this_given false p m next still = still

-- Whatever happened, what the container was given of a server are the first of the messages that came on its links.
all_next : {D : Type 0} (es : List (Event D)) (s : ℕ) → AreHeard es → AreNext (passed s es) []
all_next [] s heard = unlinked_next
all_next (Started session inc ok ∷ es) s heard = either (ok && (inc == s)) fresh (passed s es) fresh_next
    (all_next es s heard)
all_next (Connected inc ok ∷ es) s heard = either (inc == s) (relinked (passed s es)) (passed s es)
    (relinked_next (passed s es) (all_next es s heard)) (all_next es s heard)
all_next (Heard inc bytes ok ∷ es) s heard = either (ok && (inc == s)) (hearing bytes (passed s es)) (passed s es)
    (hearing_next (passed s es) bytes (all_next es s heard)) (all_next es s heard)
all_next (Ended inc ∷ es) s heard = either (inc == s) unlinked (passed s es) unlinked_next (all_next es s heard)
all_next (Sent inc bytes ok ∷ es) s heard = all_next es s heard
all_next (Opened name disk ∷ es) s heard = all_next es s heard
all_next (Found name disk ∷ es) s heard = all_next es s heard
all_next (Shut name disk ∷ es) s heard = all_next es s heard
all_next (Stepped (step.Message inc m) ∷ es) s heard =
    this_given (inc == s) (passed s es) m (λ is. subst (λ (n : ℕ). AreNext (passed n es) (m ∷ []))
    (eqb-true inc s is) heard.0) (all_next es s heard.1)
all_next (Stepped (step.Begins n) ∷ es) s heard = all_next es s heard.1
all_next (Stepped (step.Command c) ∷ es) s heard = all_next es s heard.1
all_next (Stepped (step.Reap inc) ∷ es) s heard = all_next es s heard.1
all_next (Stepped (step.Committed f) ∷ es) s heard = all_next es s heard.1
all_next (Stepped (step.Failed f) ∷ es) s heard = all_next es s heard.1
all_next (Stepped (step.Resolved f is_kept) ∷ es) s heard = all_next es s heard.1
all_next (Stepped (step.Open name w h session objects) ∷ es) s heard = all_next es s heard.1
all_next (Stepped step.NoMemory ∷ es) s heard = all_next es s heard.1

-- frames at the beginning of bytes are the first of those that the bytes are read as
first_read : (longest : FramesAreLongest) (bytes : List ℕ) (frames : List Frame) (fault : Option WireFault)
    (given more before last : List Message) → given ++ more ≡ before ++ last → before ≡ [] → Begins bytes last
    → Reads bytes frames fault
    → (others : List Message) × (messages_of frames ≡ given ++ others)
first_read longest bytes frames fault given more before last is none b reads =
    let long : (others : List Frame) × (frames ≡ b.frames ++ others) =
    longest bytes frames b.frames fault b.rest reads b.each b.spelled in
    let all : last ≡ given ++ more = sym (is ∙ ap (λ (ms : List Message). ms ++ last) none) in (
      more ++ messages_of long.0,
      ap messages_of long.1 ∙ messages_both b.frames long.0 ∙ ap (λ (ms : List Message). ms ++ messages_of long.0)
          (b.messages ∙ all) ∙ append_assoc given more (messages_of long.0),
    )

pub messages_came : {D : Type 0} (longest : FramesAreLongest) → MessagesAreThoseThatCame D
messages_came longest es s bytes frames fault heard came reads =
    let next = all_next es s heard in
    let first = subst (λ (bs : List (List ℕ)). AreFirst bs ((passed s es).given ++ next.0)) came next.1 in
    first_read longest bytes frames fault (passed s es).given next.0 first.0 first.1 first.2 first.3 first.4 reads
