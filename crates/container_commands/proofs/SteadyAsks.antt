-- Objects of idle frames that have nothing to do: edits of them keep a record steady.
use Rattle.std.proofs.Common.{◌≡◌, inl, ℕ, false, List, Some, None, refl, sym, ap, ◌∙◌, subst}
use Rattle.message_values.specs.Found.{find, nth}
use Rattle.message_values.specs.declared.operation.Operation.TheVariants.{Edit}
use Rattle.container_model.specs.declared.record.Link.{Link}
use Rattle.container_model.specs.declared.record.Object.{Object}
use Rattle.container_model.specs.declared.record.Frame.{Frame}
use Rattle.container_model.specs.declared.record.Phase.{Phase}
use Rattle.container_model.specs.declared.record.Phase.TheVariants.{Idle}
use Rattle.container_model.specs.Record.{Record, is_object, is_asked, with_object, ask}
use Rattle.container_queues.specs.Roles.{Role, role_in}
use Rattle.container_queues.specs.Steady.{SteadyLink, SteadyObject, Steady}
use Rattle.container_steady.specs.Taken.{edited}
use Rattle.container_queues.proofs.SteadyLookups.{each_found}
use Rattle.container_queues.proofs.SteadyLinks.{asked_once, edit_asked}
use Rattle.container_steady.proofs.SteadyRecords.{and_some, at_some, if_at, Held, put_steady}
use Rattle.container_steady.proofs.SteadyTests.{none_of}

-- one of an idle frame that has nothing to do
module _ (r : Record) (o : Object) (frame : Frame) (l : Link) (s : Steady r)
    (found : find (is_object o.number) r.objects ≡ Some o) (at : nth r.frames o.frame ≡ Some frame)
    (idle : frame.phase ≡ Idle) (quiet : is_asked o.link ≡ false) (is : o.link ≡ Some l) where
  abbrev part : Role
  part = role_in frame.ui.state o.number

  pub was : SteadyObject r o
  was = each_found (SteadyObject r) (is_object o.number) r.objects o s.objects found

  pub held_idle : SteadyLink r.servers r.last_act Idle frame.asked frame.k part l
  held_idle = subst (λ (p : Phase). SteadyLink r.servers r.last_act p frame.asked frame.k part l) idle
      (if_at (SteadyLink r.servers r.last_act frame.phase frame.asked frame.k part) o.link l is
      (at_some (Held r o.number o.link) (nth r.frames o.frame) frame at was.linked))

  pub free : l.pending ≡ None
  free = none_of l.pending (sym (ap is_asked is) ∙ quiet)

  -- the object with its activation asked
  pub linked_keeps : (m : Link) → m.act ≡ l.act → SteadyLink r.servers r.last_act Idle frame.asked frame.k part m
      → Steady (with_object r (record o { link = Some m }))
  linked_keeps m act h =
      let x : Object = record o { link = Some m } in
      put_steady r (is_object o.number) o x s found
      (record {
        number = refl;
        frame = refl;
        link = λ n e. (let same : m ≡ n = cc in (l, is, sym (ap (λ (z : Link). z.act) same) ∙ act));
      })
      (inl (λ n e. (let both = sym is ∙ e in let same : l ≡ n = cc in (m, refl, act ∙ ap (λ (z : Link). z.act) same))))
      (record {
        drawn = was.drawn;
        within = was.within;
        user_type = was.user_type;
        linked = and_some (Held r x.number x.link) (nth r.frames o.frame) frame at
            (subst (λ (p : Phase). SteadyLink r.servers r.last_act p frame.asked frame.k part m) (sym idle) h);
      })

  pub edit_keeps : (bytes : List ℕ) → Steady (edited r o l bytes).rec
  edit_keeps bytes = linked_keeps (ask l (Edit bytes)).link (asked_once l (Edit bytes) held_idle.waits_behind).act
      (edit_asked r.servers r.last_act frame.asked frame.k part l held_idle free bytes)
