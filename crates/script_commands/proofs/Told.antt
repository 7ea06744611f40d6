-- The container of a script whose server is started.
use Rattle.std.proofs.Common.{◌≡◌, ◌≢◌, ℕ, List, ◌∷◌, true, refl, sym, subst, ap, ◌∙◌}
use Rattle.container_model.specs.Record.{Record}
use Rattle.store_model.specs.declared.disk.Disk.{Ghosts as Disks}
use Rattle.script_model.specs.Containers.{record_of}
use Rattle.script_model.specs.Events.{Event, Started}
use Rattle.script_container.specs.Told.{IsTold}
use Rattle.script_links.specs.Links.{AreLinked, links_of}
use Rattle.script_links.specs.declared.links.Link.{Link}
use Rattle.script_links.proofs.Served.{started_single}

-- a server that has no link is started in the container's session
pub started_told : {D : Type 0} (disks : Disks D) (es after : List (Event D)) (r : Record) (ls : List Link)
    (session inc : ℕ) → session ≡ r.session → r.session ≢ 0 → links_of inc ls ≡ 0 → AreLinked es ls
    → after ≡ Started session inc true ∷ es → IsTold disks es r → IsTold disks after r
started_told disks es after r ls session inc at some none linked is t =
    subst (λ h. IsTold disks h r) (sym is) (record {
      recorded = t.recorded;
      sent = t.sent;
      bounded = t.bounded;
      heard = t.heard;
      single = started_single es ls session inc none linked t.single;
      saved = t.saved;
      opened = t.opened;
      started = (at ∙ ap (λ (q : Record). q.session) (sym t.recorded), (λ zero. some (sym at ∙ zero)), t.started);
      reaped = refl;
    })
