-- A commit: a save is counted, and activations are told of it.
use Rattle.std.proofs.Common.{◌≡◌, ◌==◌, ℕ, Bool, true, false, List, [], ◌∷◌, map, Option, Some, None, refl, sym, ap}
use Rattle.std.proofs.Common.{◌∙◌, inl, inr, subst, if◌then◌else◌, eq-eqb}
use Rattle.std.proofs.lemmas.Bool.{ne_eqb}
use Rattle.message_values.specs.Found.{find, nth}
use Rattle.message_values.specs.declared.operation.Operation.{Operation}
use Rattle.tree_streams.specs.declared.stored.Stored.{Stored}
use Rattle.container_model.specs.declared.record.Link.{Link}
use Rattle.container_model.specs.declared.record.Object.{Object}
use Rattle.container_model.specs.declared.record.Frame.{Frame}
use Rattle.container_model.specs.declared.answer.Done.{Done}
use Rattle.container_model.specs.Record.{Record, is_object, asked_link, asked_sent, asked_all}
use Rattle.container_model.specs.Saves.{cleared, kept, completed, completion, commit_made, done_entry, parts_in}
use Rattle.container_model.specs.Saves.{part_of, is_some_name}
use Rattle.container_queues.specs.Steady.{IsUnsettled, Steady}
use Rattle.container_steady.proofs.SteadyContents.{completed_if, commits_answered_contents}
use Rattle.container_steady.proofs.SteadyShapes.{asked_of}
use Rattle.world_model.specs.Safe.{Among, link_at, links_of}
use Rattle.world_facts.specs.Shapes.{AskedAt, none, AsksAll, IsTold, CountsAll}
use Rattle.world_facts.specs.Words.{all_said, sayings_of}
use Rattle.world_facts.proofs.Lookups.{among_map, find_among}
use Rattle.world_steps.specs.Steps.{IsPlain}
use Rattle.world_steps.proofs.Objects.{found_held, found_number, messages_sends, no_start_sent, no_end_sent}
use Rattle.world_steps.proofs.Asking.{unasked, is_asked, all_mapped, ordered_rise, who_is_asked}

module _ (r : Record) (f : ℕ) (frame : Frame) (s : Steady r) (at : nth r.frames f ≡ Some frame)
    (unsettled : IsUnsettled frame.phase) where
  abbrev pub op : Operation
  op = completion frame

  abbrev pub fresh : List Done
  fresh = map (done_entry frame.k) (parts_in f r.objects)

  -- what is counted of an object of the frame
  part_there : (o : Object) (os : List Object) → Among os o → o.frame ≡ f → Among (parts_in f os) (part_of o)
  part_there o [] h of = absurd h
  part_there o (x ∷ os) (inl is) of =
      subst (λ b. Among (if b then part_of x ∷ parts_in f os else parts_in f os) (part_of o))
      (sym (eq-eqb x.frame f (ap (λ (z : Object). z.frame) (sym is) ∙ of))) (inl (ap part_of is))
  part_there o (x ∷ os) (inr h) of =
      elim (x.frame == f) as (λ b. Among (if b then part_of x ∷ parts_in f os else parts_in f os) (part_of o)) [
        | true ↦ inr (part_there o os h of)
        | false ↦ part_there o os h of
      ]

  entry : (o : Object) → Among r.objects o → o.frame ≡ f
      → Among fresh (record { object = o.number; k = frame.k; content = kept o })
  entry o h of = among_map (done_entry frame.k) (parts_in f r.objects) (part_of o) (part_there o r.objects h of)

  -- an object that is told has its content counted, which was answered in this save
  content_of : (n : ℕ) (o : Object) (l : Link) → find (is_object n) r.objects ≡ Some o → o.frame ≡ f
      → o.link ≡ Some l → (c : Stored) × (l.saved ≡ Some c)
      × Among fresh (record { object = n; k = frame.k; content = c })
  content_of n o l e of ol =
      let c = commits_answered_contents r n o l frame s e ol (ap (nth r.frames) of ∙ at) unsettled in (
        c.0,
        c.1,
        subst (λ m. Among fresh (record { object = m; k = frame.k; content = c.0 })) (found_number r.objects n o e)
            (subst (λ x. Among fresh (record { object = o.number; k = frame.k; content = x })) c.2
            (entry o (find_among (is_object n) r.objects o e) of)),
      )

  told : (n : ℕ) (o : Object) → find (is_object n) r.objects ≡ Some o → o.frame ≡ f
      → IsTold (links_of r.objects) frame.k fresh n op
  told n o e of = (is_some_name frame.asked, refl, (λ l g. content_of n o l e of (sym (ap link_at e) ∙ g)))

  inside : (n : ℕ) (o : Object) (x : Option Link) → find (is_object n) r.objects ≡ Some o → o.frame ≡ f → o.link ≡ x
      → AskedAt (IsTold (links_of r.objects) frame.k fresh n) x (asked_link op (cleared x))
      (all_said (asked_sent op x))
  inside n o None e of q = none refl refl refl
  inside n o (Some l) e of q = is_asked (IsTold (links_of r.objects) frame.k fresh n) l None op (told n o e of)
      (inr refl) (found_held r n l o s e q).steady.waits_behind

  each : (n : ℕ) (o : Object) → find (is_object n) r.objects ≡ Some o
      → AskedAt (IsTold (links_of r.objects) frame.k fresh n) o.link (completed f frame o).link
      (all_said (asked_of f op o))
  each n o e = completed_if (λ (z : Object). AskedAt (IsTold (links_of r.objects) frame.k fresh n) o.link z.link
      (all_said (asked_of f op o))) f frame o
      (λ of. subst (λ (b : Bool). AskedAt (IsTold (links_of r.objects) frame.k fresh n) o.link
      (asked_link op (cleared o.link)) (all_said (if b then asked_sent op o.link else [])))
      (sym (eq-eqb o.frame f of)) (inside n o o.link e of refl))
      (λ ne. subst (λ (b : Bool). AskedAt (IsTold (links_of r.objects) frame.k fresh n) o.link o.link
      (all_said (if b then asked_sent op o.link else []))) (sym (ne_eqb o.frame f ne))
      (unasked (IsTold (links_of r.objects) frame.k fresh n) o.link))

  -- no save of this number of these objects was counted before
  pub commit_counts : (counted : List Done)
      → ((d e : Done) → Among counted d → Among fresh e → d.object ≡ e.object → d.k ≡ frame.k → ⊥)
      → CountsAll (links_of r.objects) (links_of (commit_made r f frame).rec.objects) counted frame.k fresh
      (sayings_of (commit_made r f frame).answer.actions)
  commit_counts counted apart = record {
    tells = subst (λ ms. AsksAll (IsTold (links_of r.objects) frame.k fresh) (links_of r.objects)
        (links_of (map (completed f frame) r.objects)) ms) (sym (messages_sends (asked_all f op r.objects)))
        (all_mapped (IsTold (links_of r.objects) frame.k fresh) r.objects (completed f frame)
        (λ o. all_said (asked_of f op o)) (all_said (asked_all f op r.objects))
        (λ o. completed_if (λ (z : Object). z.number ≡ o.number) f frame o (λ e. refl) (λ e. refl)) each
        (λ m h. who_is_asked r.objects f op m (ordered_rise r.objects s.order) h));
    apart = apart;
  }

  pub commit_plain : IsPlain r (commit_made r f frame)
  commit_plain = record {
    last_act = refl;
    servers = refl;
    starts = λ session numbers. no_start_sent session numbers (asked_all f op r.objects);
    ends = no_end_sent (asked_all f op r.objects);
  }
