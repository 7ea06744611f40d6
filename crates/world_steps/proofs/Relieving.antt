-- An object that holds its frame asks to be relieved of it: it is asked to give it up.
use Rattle.std.proofs.Common.{◌≡◌, ◌==◌, ℕ, Bool, true, false, Option, Some, None, Result, Ok, Err, sym, ap, subst}
use Rattle.std.proofs.Common.{length, if◌then◌else◌}
use Rattle.message_values.specs.Found.{find, nth}
use Rattle.message_values.specs.declared.message.Said.TheVariants.{Ask}
use Rattle.message_values.specs.declared.operation.Operation.TheVariants.{UiDeactivate}
use Rattle.object_state.specs.Grants as grant
use Rattle.container_model.specs.declared.record.Object.{Object}
use Rattle.container_model.specs.declared.record.Frame.{Frame}
use Rattle.container_model.specs.declared.fault.ContainerFault.{ContainerFault}
use Rattle.container_model.specs.declared.fault.ContainerFault.TheVariants.{Stale, WrongLink}
use Rattle.container_model.specs.Record.{Record, Took, acts, counts_none, sends, is_linked, is_alive, with_frame}
use Rattle.container_model.specs.Grants.{moved}
use Rattle.container_model.specs.Messages.{is_held_by, relieved, ask_framed, ask_found}
use Rattle.container_model.proofs.SaidOn.{said_on}
use Rattle.container_queues.specs.Steady.{Steady}
use Rattle.container_steady.proofs.SteadyRecords.{if_told}
use Rattle.world_model.specs.Safe.{links_of}
use Rattle.world_facts.specs.Shapes.{AsksAll, IsQuiet}
use Rattle.world_facts.specs.Words.{sayings_of}
use Rattle.world_steps.specs.Steps.{IsPlain}
use Rattle.world_steps.proofs.Objects.{messages_sends, no_start_sent, no_end_sent, steady_waits}
use Rattle.world_steps.proofs.Turns.{request_keeps, request_asks}
use Rattle.world_steps.proofs.Verbing.{ok_took}

ui_quiet : IsQuiet UiDeactivate
ui_quiet = λ k storage e. cc

module _ (r : Record) (s : Steady r) where
  abbrev Result_of : Took → Type 0
  Result_of t = AsksAll (λ o op. IsQuiet op) (links_of r.objects) (links_of t.rec.objects)
      (sayings_of t.answer.actions) × IsPlain r t

  relieved_asks : (o : Object) (act g : ℕ) (frame : Frame)
      → Result_of (counts_none (relieved r o act g frame).rec (acts (sends (relieved r o act g frame).sent)))
  relieved_asks o act g frame =
      let v = with_frame r o.frame (moved frame (grant.Ask (record { object = o.number; act = act; g = g }))) in
      let asked = request_asks v o.number UiDeactivate (steady_waits r s) ui_quiet in
      let rest = request_keeps v o.number UiDeactivate in
      let u = relieved r o act g frame in (
        subst (AsksAll (λ o op. IsQuiet op) (links_of r.objects) (links_of u.rec.objects))
            (sym (messages_sends u.sent)) asked,
        record {
          last_act = rest.last_act;
          servers = ap length rest.servers;
          starts = λ session numbers. no_start_sent session numbers u.sent;
          ends = no_end_sent u.sent;
        },
      )

  framed_asks : (o : Object) (act g : ℕ) (frame : Option Frame) (t : Took) → ask_framed r o act g frame ≡ Ok t
      → Result_of t
  framed_asks o act g None t e = cc
  framed_asks o act g (Some frame) t e = if_told (λ (x : Result Took ContainerFault). x ≡ Ok t → Result_of t)
      (is_held_by act g frame.ui.state)
      (Ok (counts_none (relieved r o act g frame).rec (acts (sends (relieved r o act g frame).sent)))) (Err Stale)
      (λ b q. subst Result_of (ok_took _ t q) (relieved_asks o act g frame)) (λ b q. cc) e

  found_asks : (act g : ℕ) (o : Option Object) (t : Took) → ask_found r act g o ≡ Ok t → Result_of t
  found_asks act g None t e = cc
  found_asks act g (Some o) t e = framed_asks o act g (nth r.frames o.frame) t e

-- Ask
pub ask_asks : (r : Record) (inc act g : ℕ) (t : Took) → Steady r → said_on r inc (Ask inc act g) ≡ Ok t
    → AsksAll (λ o op. IsQuiet op) (links_of r.objects) (links_of t.rec.objects) (sayings_of t.answer.actions)
    × IsPlain r t
ask_asks r inc act g t s e = at (inc == inc) (is_alive r inc) e
  where
    at : (a b : Bool) → ◌≡◌ {A = Result Took ContainerFault}
        (if a then (if b then ask_found r act g (find (is_linked inc act) r.objects) else Err Stale)
        else Err WrongLink) (Ok t)
        → AsksAll (λ o op. IsQuiet op) (links_of r.objects) (links_of t.rec.objects) (sayings_of t.answer.actions)
        × IsPlain r t
    at true true q = found_asks r s act g (find (is_linked inc act) r.objects) t q
    at true false q = cc
    at false b q = cc
