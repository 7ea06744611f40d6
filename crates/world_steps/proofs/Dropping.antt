-- A commit that fails, and a save that is dropped: activations are told of it, and nothing is counted.
use Rattle.std.proofs.Common.{◌≡◌, ℕ, Bool, false, [], Option, Some, None, Ok, refl, sym, inr, subst, if◌then◌else◌}
use Rattle.std.proofs.Common.{eq-eqb}
use Rattle.std.proofs.lemmas.Bool.{ne_eqb}
use Rattle.message_values.specs.Found.{find}
use Rattle.message_values.specs.declared.operation.Operation.{Operation}
use Rattle.message_values.specs.declared.operation.Operation.TheVariants.{SaveDropped}
use Rattle.container_model.specs.declared.record.Link.{Link}
use Rattle.container_model.specs.declared.record.Object.{Object}
use Rattle.container_model.specs.declared.record.Frame.{Frame}
use Rattle.container_model.specs.Record.{Record, Took, is_object, asked_link, asked_sent, asked_all}
use Rattle.container_model.specs.Saves.{cleared, commit_failed, dropped_object, resolve, save_dropped}
use Rattle.container_queues.specs.Steady.{Steady}
use Rattle.container_steady.proofs.Settling.{is_dropped, is_failed}
use Rattle.container_steady.proofs.SteadyContents.{dropped_if}
use Rattle.container_steady.proofs.SteadyShapes.{asked_of}
use Rattle.world_model.specs.Safe.{links_of}
use Rattle.world_facts.specs.Shapes.{AskedAt, none, AsksAll, IsQuiet}
use Rattle.world_facts.specs.Words.{all_said, sayings_of}
use Rattle.world_steps.specs.Steps.{IsPlain}
use Rattle.world_steps.proofs.Objects.{found_held, messages_sends, no_start_sent, no_end_sent}
use Rattle.world_steps.proofs.Asking.{unasked, is_asked, all_mapped, none_asked, ordered_rise, who_is_asked}

abbrev pub AsksQuietly : Record → Took → Type 0
AsksQuietly r t = AsksAll (λ o op. IsQuiet op) (links_of r.objects) (links_of t.rec.objects)
    (sayings_of t.answer.actions) × IsPlain r t

pub failed_asks : (r : Record) (f : ℕ) (t : Took) → commit_failed r f ≡ Ok t → AsksQuietly r t
failed_asks r f t e =
    let h = is_failed r f t e in
    subst (AsksQuietly r) h.made (
      none_asked (links_of r.objects) (links_of r.objects) (λ n. refl),
      record { last_act = refl; servers = refl; starts = λ session numbers. refl; ends = λ is. refl },
    )

module _ (r : Record) (f : ℕ) (frame : Frame) (s : Steady r) where
  abbrev op : Operation
  op = SaveDropped frame.k

  quiet : IsQuiet op
  quiet = λ k storage e. cc

  inside : (n : ℕ) (o : Object) (x : Option Link) → find (is_object n) r.objects ≡ Some o → o.link ≡ x
      → AskedAt IsQuiet x (asked_link op (cleared x)) (all_said (asked_sent op x))
  inside n o None e q = none refl refl refl
  inside n o (Some l) e q = is_asked IsQuiet l None op quiet (inr refl) (found_held r n l o s e q).steady.waits_behind

  each : (n : ℕ) (o : Object) → find (is_object n) r.objects ≡ Some o
      → AskedAt IsQuiet o.link (dropped_object f frame o).link (all_said (asked_of f op o))
  each n o e = dropped_if (λ (z : Object). AskedAt IsQuiet o.link z.link (all_said (asked_of f op o))) f frame o
      (λ of. subst (λ (b : Bool). AskedAt IsQuiet o.link (asked_link op (cleared o.link))
      (all_said (if b then asked_sent op o.link else []))) (sym (eq-eqb o.frame f of))
      (inside n o o.link e refl))
      (λ ne. subst (λ (b : Bool). AskedAt IsQuiet o.link o.link (all_said (if b then asked_sent op o.link else [])))
      (sym (ne_eqb o.frame f ne)) (unasked IsQuiet o.link))

  drop_asks : AsksQuietly r (save_dropped r f frame)
  drop_asks = (
    subst (λ ms. AsksAll (λ o p. IsQuiet p) (links_of r.objects) (links_of (save_dropped r f frame).rec.objects) ms)
        (sym (messages_sends (asked_all f op r.objects)))
        (all_mapped (λ o p. IsQuiet p) r.objects (dropped_object f frame) (λ o. all_said (asked_of f op o))
        (all_said (asked_all f op r.objects)) (λ o. dropped_if (λ (z : Object). z.number ≡ o.number) f frame o
        (λ e. refl) (λ e. refl)) each (λ m h. who_is_asked r.objects f op m (ordered_rise r.objects s.order)
        h)),
    record {
      last_act = refl;
      servers = refl;
      starts = λ session numbers. no_start_sent session numbers
          (asked_all f op r.objects);
      ends = no_end_sent (asked_all f op r.objects);
    },
  )

pub dropped_asks : (r : Record) (f : ℕ) (t : Took) → Steady r → resolve r f false ≡ Ok t → AsksQuietly r t
dropped_asks r f t s e = (let h = is_dropped r f t e in subst (AsksQuietly r) h.made (drop_asks r f h.frame s))
