-- What is settled behind the last command.
use Rattle.std.proofs.Common.{◌≡◌, false, List, Result, Ok, Err, OnOk, sym, ap, ◌∙◌, subst}
use Rattle.container_model.specs.Record.{Record}
use Rattle.store_model.specs.declared.disk.Disk.{Ghosts as Disks}
use Rattle.script_model.specs.Errors.{before_ends, is_asked}
use Rattle.script_model.specs.Events.{Event}
use Rattle.script_model.specs.Saved.{is_any_unsaved}
use Rattle.script_model.specs.Settled.{IsSettled}
use Rattle.script_container.specs.Told.{IsTold}
use Rattle.script_links.specs.Links.{AreLinked, is_any_held}
use Rattle.script_links.specs.Shown.{AreQuiet}
use Rattle.script_links.specs.declared.links.Link.{Link}
use Rattle.script_commands.proofs.Held.{none_linked}

module _ {D : Type 0} {disks : Disks D} where
  -- where no link is held, what isn't answered is of servers that don't run
  pub settled_by : (es : List (Event D)) (r : Record) (ls : List Link) → IsTold disks es r → AreLinked es ls
      → AreQuiet r.objects ls → is_any_unsaved r.frames ≡ false → is_any_held ls ≡ false → IsSettled es
  settled_by es r ls t linked quiet saved free = record {
    answered = λ s asked. linked s ∙ none_linked s ls free
        (quiet s (ap (λ (q : Record). is_asked s q.objects) (sym t.recorded) ∙ asked));
    saved = ap (λ (q : Record). is_any_unsaved q.frames) t.recorded ∙ saved;
  }

  -- the servers that still run are ended then
  pub settled_still : {A E : Type 0} (result : Result A E) (es after : List (Event D)) (r : Record)
      → IsTold disks es r → before_ends after ≡ before_ends es → OnOk result (IsSettled es)
      → OnOk result (IsSettled (before_ends after))
  settled_still (Ok x) es after r t same settled = subst (λ (h : List (Event D)). IsSettled h)
      (sym (same ∙ t.reaped)) settled
  settled_still (Err e) es after r t same settled = tt
