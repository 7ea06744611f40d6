-- All of a container is in its one session, whatever it is given; and it has one before anything is in it.
use Rattle.std.proofs.Common.{◌≡◌, ◌≢◌, ℕ, zero, suc, true, false, [], Some, Result, Ok, refl, sym, ◌∙◌, subst}
use Rattle.message_values.specs.Found.{nth}
use Rattle.container_model.specs.declared.command.Command.{Command}
use Rattle.container_model.specs.declared.record.Frame.{Frame}
use Rattle.container_model.specs.declared.fault.ContainerFault.{ContainerFault}
use Rattle.container_model.specs.Inputs.{Input}
use Rattle.container_model.specs.Messages.{on_message, on_reap}
use Rattle.container_model.specs.Record.{Record, Took}
use Rattle.container_model.specs.Saves.{commit_failed, resolve}
use Rattle.container_steady.specs.Made.{run_by}
use Rattle.container_steady.specs.Taken.{IsTakenAs, as_close, as_delete, as_edit, as_insert, as_kill, as_new, as_run}
use Rattle.container_steady.specs.Taken.{as_save, as_save_as, as_session, as_start, as_verb}
use Rattle.container_steady.proofs.Taken.{command_made, command_taken}
use Rattle.container_numbers.specs.Sessions.{CommandsWantSessions, InSession, InSessionFromTheStart, MayRaise}
use Rattle.container_numbers.specs.Sessions.{SessionsStay, StaysInSession, WantsSession, session_by}
use Rattle.container_numbers.proofs.SessionFrames.{all_raise, raises_at}
use Rattle.container_numbers.proofs.SessionLinks.{AllIn}
use Rattle.container_numbers.proofs.SessionCommits.{Counts, done_counts, kept_counts}
use Rattle.container_numbers.proofs.SessionSteps.{HoldsIn, KeepsIn, StaysIn, drops_in, fails, made_in, messages}
use Rattle.container_numbers.proofs.SessionSteps.{none_alive, opens, reaps}

-- ---- a record in its session
holds : (r : Record) → InSession r → HoldsIn r.session r
holds r h = (refl, h.links, h.servers, all_raise r.session r.frames h.raising)

in_session : (s : ℕ) (r : Record) → HoldsIn s r → InSession r
in_session s r h =
    let same : s ≡ r.session = sym h.0 in
    record {
      links = subst (λ (n : ℕ). AllIn n r.objects) same h.1;
      servers = λ e. h.2 (same ∙ e);
      raising = λ f x at. subst (λ (n : ℕ). MayRaise n f x x.raised) same (raises_at s r.frames f x h.3 at);
    }

-- ---- whatever is given
stays : (r : Record) (x : Input) (t : Took) → session_by r x ≡ r.session → StaysIn r.session t → StaysInSession r x t
stays r x t by k = record {
  same = k.0.0 ∙ sym by;
  stays = λ ne. k.0.0;
  holds = in_session r.session t.rec k.0;
  sends = k.1;
}

kept : (r : Record) (x : Input) (told : Result Took ContainerFault) (t : Took) → session_by r x ≡ r.session
    → KeepsIn r.session told → told ≡ Ok t → StaysInSession r x t
kept r x told t by k e = stays r x t by (subst (KeepsIn r.session) e k)

counts : (r : Record) (f : ℕ) (x : Input) (t : Took) → session_by r x ≡ session_by r (Input.Committed f)
    → Counts r f t → StaysInSession r x t
counts r f x t by k = record { same = k.same ∙ sym by; stays = k.stays; holds = k.holds; sends = k.sends }

pub sessions_stay : SessionsStay
sessions_stay r (Input.Ordered c) t h e = stays r (Input.Ordered c) t refl
    (made_in r.session r (run_by c) t (holds r h) (command_made r c t e))
sessions_stay r (Input.Told link m) t h e = kept r (Input.Told link m) (on_message r link m) t refl
    (messages r.session r link m (holds r h)) e
sessions_stay r (Input.Reaped inc) t h e = kept r (Input.Reaped inc) (on_reap r inc) t refl
    (reaps r.session r inc (holds r h)) e
sessions_stay r (Input.Committed f) t h e = counts r f (Input.Committed f) t refl (done_counts r f t h e)
sessions_stay r (Input.Failed f) t h e = kept r (Input.Failed f) (commit_failed r f) t refl
    (fails r.session r f (holds r h)) e
sessions_stay r (Input.Resolved f true) t h e = counts r f (Input.Resolved f true) t refl (kept_counts r f t h e)
sessions_stay r (Input.Resolved f false) t h e = kept r (Input.Resolved f false) (resolve r f false) t refl
    (drops_in r.session r f (holds r h)) e
sessions_stay r (Input.Opened name w k given) t h e = stays r (Input.Opened name w k given) t refl
    (opens r.session r name w k given t (holds r h) e)

-- nothing is there at the start
none_framed : (f : ℕ) (x : Frame) → nth [] f ≡ Some x → MayRaise 0 f x x.raised
none_framed zero x e = cc
none_framed (suc i) x e = cc

pub in_session_from_the_start : InSessionFromTheStart
in_session_from_the_start numbers = record { links = tt; servers = λ e. refl; raising = none_framed }

-- ---- commands that want a session
wants : (r : Record) (c : Command) (t : Took) → InSession r → IsTakenAs r t c → WantsSession c → r.session ≢ 0
wants r _ t h (as_new name w k new made) = λ w. absurd w
wants r _ t h (as_insert f kind area at made) = λ w. absurd w
wants r _ t h (as_start started made) = λ w. started.session
wants r _ t h (as_run n inc at run made) = λ w e. none_alive r inc (h.servers e) run.alive
wants r _ t h (as_edit n bytes go small has made) = λ w. absurd w
wants r _ t h (as_session at raised made) = λ w. absurd w
wants r _ t h (as_save f at there made) = λ w. there
wants r _ t h (as_save_as f name at there apart own made) = λ w. there
wants r _ t h (as_delete n at passive made) = λ w. absurd w
wants r _ t h (as_kill inc alive made) = λ w. absurd w
wants r _ t h (as_close n option go ts has row made) = λ w. absurd w
wants r _ t h (as_verb n number go verb) = λ w. absurd w

pub commands_want_sessions : CommandsWantSessions
commands_want_sessions r c t h e =
    ((sessions_stay r (Input.Ordered c) t h e).same, wants r c t h (command_taken r c t e))
