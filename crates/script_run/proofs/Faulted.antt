-- The error that ended a script, in its history without the last ends of servers.
use Rattle.std.proofs.Common.{◌≡◌, ◌≤◌, ◌-◌, ◌==◌, ◌⊎◌, ⊎_elim, inl, inr, ℕ, Bool, true, false, List, [], ◌∷◌}
use Rattle.std.proofs.Common.{if◌then◌else◌, Option, Result, Ok, Err, IfErr, refl, sym, ap, ◌∙◌, subst, arith}
use Rattle.std.specs.Prelude.{IfSome}
use Rattle.std.specs.Result.{IsErrAnd}
use Rattle.store_model.specs.declared.disk.Disk.{Ghosts as Disks}
use Rattle.store_model.specs.declared.fault.StoreFault.{StoreFault}
use Rattle.script_container.specs.declared.fault.ScriptFault.{ScriptFault}
use Rattle.script_container.specs.declared.fault.ScriptFault.TheVariants as fault
use Rattle.script_links.specs.Shown.{Shows}
use Rattle.script_model.specs.declared.command.ScriptCommand.{ScriptCommand}
use Rattle.script_model.specs.Bounds.{MOST_TURNS, Pace, pace}
use Rattle.script_model.specs.Containers.{Given, given_by}
use Rattle.script_model.specs.Errors.{IsUnanswered, IsUnknown, IsUnopened, IsUnsettled, IsUnstarted, before_ends}
use Rattle.script_model.specs.Errors.{is_asked}
use Rattle.script_model.specs.Events.{Event, Started, Connected, Sent, Heard, Ended, Opened, Found, Shut, Stepped}
use Rattle.script_model.specs.Events.{running}
use Rattle.script_model.specs.Orders.{orders}
use Rattle.script_model.specs.Saved.{is_any_unsaved}
use Rattle.script_texts.specs.Commands.{commands_read}
use Rattle.script_run.specs.Holding.{IsStillHeld}
use Rattle.script_run.proofs.Holding.{held_before}
use Rattle.script_run.specs.Faulted.{IsFaultOf, IsHeldToTheEnd, RefusesScript, ShowsOf}

-- ---- without the last ends

as_many : (n : ℕ) → n ≤ n
as_many n = omega arith

less : (b : Bool) (n : ℕ) → (if b then n - 1 else n) ≤ n
less true n = omega arith
less false n = omega arith

module _ {D : Type 0} where
  ran : (s : ℕ) (es : List (Event D)) → running s es ≤ running s (before_ends es)
  ran s [] = as_many 0
  ran s (Ended inc ∷ es) = let now = less (inc == s) (running s es) in let before = ran s es in
      omega (arith, now, before)
  ran s (Started session inc ok ∷ es) = as_many (running s (Started session inc ok ∷ es))
  ran s (Connected inc ok ∷ es) = as_many (running s es)
  ran s (Sent inc bytes ok ∷ es) = as_many (running s es)
  ran s (Heard inc bytes ok ∷ es) = as_many (running s es)
  ran s (Opened name disk ∷ es) = as_many (running s es)
  ran s (Found name disk ∷ es) = as_many (running s es)
  ran s (Shut name disk ∷ es) = as_many (running s es)
  ran s (Stepped step ∷ es) = as_many (running s es)

  paced : (s : ℕ) (es : List (Event D)) → pace s (before_ends es) ≡ pace s es
  paced s [] = refl
  paced s (Ended inc ∷ es) = paced s es
  paced s (Started session inc ok ∷ es) = refl
  paced s (Connected inc ok ∷ es) = refl
  paced s (Sent inc bytes ok ∷ es) = refl
  paced s (Heard inc bytes ok ∷ es) = refl
  paced s (Opened name disk ∷ es) = refl
  paced s (Found name disk ∷ es) = refl
  paced s (Shut name disk ∷ es) = refl
  paced s (Stepped step ∷ es) = refl

  recorded : (es : List (Event D)) → given_by (before_ends es) ≡ given_by es
  recorded [] = refl
  recorded (Ended inc ∷ es) = recorded es
  recorded (Started session inc ok ∷ es) = refl
  recorded (Connected inc ok ∷ es) = refl
  recorded (Sent inc bytes ok ∷ es) = refl
  recorded (Heard inc bytes ok ∷ es) = refl
  recorded (Opened name disk ∷ es) = refl
  recorded (Found name disk ∷ es) = refl
  recorded (Shut name disk ∷ es) = refl
  recorded (Stepped step ∷ es) = refl

  ordered : (es : List (Event D)) → orders (before_ends es) ≡ orders es
  ordered [] = refl
  ordered (Ended inc ∷ es) = ordered es
  ordered (Started session inc ok ∷ es) = refl
  ordered (Connected inc ok ∷ es) = refl
  ordered (Sent inc bytes ok ∷ es) = refl
  ordered (Heard inc bytes ok ∷ es) = refl
  ordered (Opened name disk ∷ es) = refl
  ordered (Found name disk ∷ es) = refl
  ordered (Shut name disk ∷ es) = refl
  ordered (Stepped step ∷ es) = refl

  -- ---- errors

  unanswered_still : (es : List (Event D)) → IsUnanswered es → IsUnanswered (before_ends es)
  unanswered_still es u = record {
    server = u.server;
    runs = let now = u.runs in let before = ran u.server es in omega (arith, now, before);
    turned = subst (λ (p : Pace). MOST_TURNS ≤ p.turns) (sym (paced u.server es)) u.turned;
    asked = ap (λ (g : Given). is_asked u.server g.now.objects) (recorded es) ∙ u.asked;
  }

  unsettled_still : (es : List (Event D)) → IsUnsettled es → IsUnsettled (before_ends es)
  unsettled_still es u = ⊎_elim (λ asked. inl (unanswered_still es asked))
      (λ unsaved. inr (ap (λ (g : Given). is_any_unsaved g.now.frames) (recorded es) ∙ unsaved)) u

  still_held : (es : List (Event D)) (commands : List ScriptCommand) → IsStillHeld es commands
      → IsStillHeld (before_ends es) commands
  still_held es commands h = record {
    left = record {
      ordered = ordered es ∙ h.left.ordered;
      server = h.left.server;
      runs = let now = h.left.runs in let before = ran h.left.server es in omega (arith, now, before);
      held = h.left.held;
    };
    held = held_before commands h.left.server es ∙ h.held;
  }

  unstarted_still : (inc : ℕ) (es : List (Event D)) → IsUnstarted inc es → IsUnstarted inc (before_ends es)
  unstarted_still inc es u = (u.0, u.1, ap before_ends u.2)

  -- a file's disk isn't given, or is given back, by a call that ends no server
  is_last : (disks : Disks D) (name : List ℕ) (why : StoreFault) (es : List (Event D))
      → IsUnopened disks name why es → es ≡ before_ends es
  is_last disks name why es u = ⊎_elim (λ asked. asked.1 ∙ sym (ap before_ends asked.1))
      (λ given. given.last ∙ sym (ap before_ends given.last)) u

  unknown_still : (disks : Disks D) (name : List ℕ) (why : StoreFault) (es : List (Event D))
      → IsUnknown disks es name why → IsUnknown disks (before_ends es) name why
  unknown_still disks name why es u = subst (λ (h : List (Event D)). IsUnknown disks h name why)
      (is_last disks name why es u.last) u

  -- ---- scripts

  -- the error of a command is one of the script
  shows_of : (disks : Disks D) (commands : List ScriptCommand) (es : List (Event D)) (e : ScriptFault)
      → Shows disks es e → ShowsOf disks commands es e
  shows_of disks commands es (fault.Input why) shows = shows
  shows_of disks commands es (fault.Line n why) shows = shows
  shows_of disks commands es (fault.Link inc) shows = shows
  shows_of disks commands es fault.Stalled shows = inl shows
  shows_of disks commands es (fault.File name why) shows = shows
  shows_of disks commands es fault.NoMemory shows = shows
  shows_of disks commands es fault.Unwritable shows = shows

  pub handed_on : (disks : Disks D) {A : Type 0} (r : Result A ScriptFault) (e : ScriptFault)
      (commands : List ScriptCommand) (es : List (Event D)) → IsErrAnd r (λ x. x ≡ e) → Shows disks es e
      → IfErr r (λ x. ShowsOf disks commands es x)
  handed_on disks (Ok x) e commands es is shown = tt
  handed_on disks (Err x) e commands es is shown = subst (λ (f : ScriptFault). ShowsOf disks commands es f) (sym is)
      (shows_of disks commands es e shown)

  still : (disks : Disks D) (input : Option (List ℕ)) (commands : List ScriptCommand) (es : List (Event D))
      (e : ScriptFault) → IfSome input (λ text. commands_read text ≡ Ok commands) → ShowsOf disks commands es e
      → IsFaultOf disks input es e
  still disks input commands es (fault.Input why) read shows = absurd shows
  still disks input commands es (fault.Line n why) read shows = absurd shows
  still disks input commands es (fault.Link inc) read shows = unstarted_still inc es shows
  still disks input commands es fault.Stalled read shows = ⊎_elim (λ u. inl (unsettled_still es u))
      (λ h. inr (record { commands = commands; read = read; left = still_held es commands h })) shows
  still disks input commands es (fault.File name why) read shows = unknown_still disks name.items why es shows
  still disks input commands es fault.NoMemory read shows = tt
  still disks input commands es fault.Unwritable read shows = tt

  -- ends of servers behind it leave an error as it is
  ends_on : (disks : Disks D) (input : Option (List ℕ)) (commands : List ScriptCommand) (es after : List (Event D))
      (e : ScriptFault) → before_ends after ≡ before_ends es → ShowsOf disks commands es e
      → IsFaultOf disks input es e → IsFaultOf disks input after e
  ends_on disks input commands es after (fault.Input why) same shows is = absurd shows
  ends_on disks input commands es after (fault.Line n why) same shows is = absurd shows
  ends_on disks input commands es after (fault.Link inc) same shows is =
      subst (λ (h : List (Event D)). IsUnstarted inc h) (sym same) is
  ends_on disks input commands es after fault.Stalled same shows is =
      subst (λ (h : List (Event D)). IsUnsettled h ⊎ IsHeldToTheEnd input h) (sym same) is
  ends_on disks input commands es after (fault.File name why) same shows is =
      subst (λ (h : List (Event D)). IsUnknown disks h name.items why) (sym same) is
  ends_on disks input commands es after fault.NoMemory same shows is = tt
  ends_on disks input commands es after fault.Unwritable same shows is = tt

  pub ended_so : (disks : Disks D) {A : Type 0} (r : Result A ScriptFault) (input : Option (List ℕ))
      (commands : List ScriptCommand) (es after : List (Event D))
      → IfSome input (λ text. commands_read text ≡ Ok commands) → before_ends after ≡ before_ends es
      → IfErr r (λ e. ShowsOf disks commands es e) → IfErr r (λ e. IsFaultOf disks input after e)
  ended_so disks (Ok x) input commands es after read same shows = tt
  ended_so disks (Err e) input commands es after read same shows =
      ends_on disks input commands es after e same shows (still disks input commands es e read shows)

  -- a script that isn't read
  pub unread_so : (disks : Disks D) (input : Option (List ℕ)) (es : List (Event D)) (e : ScriptFault) → es ≡ []
      → RefusesScript input e → IsFaultOf disks input es e
  unread_so disks input es (fault.Input why) none refused = (none, refused)
  unread_so disks input es (fault.Line n why) none refused = (none, refused)
  unread_so disks input es (fault.Link inc) none refused = absurd refused
  unread_so disks input es fault.Stalled none refused = absurd refused
  unread_so disks input es (fault.File name why) none refused = absurd refused
  unread_so disks input es fault.NoMemory none refused = absurd refused
  unread_so disks input es fault.Unwritable none refused = absurd refused
