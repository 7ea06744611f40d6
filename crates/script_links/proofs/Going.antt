-- How a function leaves a script.
use Rattle.std.proofs.Common.{◌≡◌, ℕ, Bool, List, Option, Result, Ok, Err, OnOk, IfErr, sym, subst, ◌∙◌}
use Rattle.std.specs.Result.{IsErrAnd}
use Rattle.container_model.specs.Record.{Record}
use Rattle.store_model.specs.declared.disk.Disk.{Ghosts as Disks}
use Rattle.script_model.specs.Courses.{course}
use Rattle.script_model.specs.Events.{Event}
use Rattle.script_model.specs.Notices.{Notice, Tells, notices}
use Rattle.script_container.specs.Handed.{handed}
use Rattle.script_container.specs.Known.{IsKnown, IsStopped, Leaves}
use Rattle.script_model.specs.Origins.{passed}
use Rattle.script_model.specs.declared.answer.Told.{Told}
use Rattle.script_container.proofs.Noticed.{seen_still}
use Rattle.script_container.proofs.Servers.{quiet_of, still_of}
use Rattle.script_container.specs.Servers.{servers}
use Rattle.script_container.specs.Shown.{Shows}
use Rattle.script_container.specs.Told.{IsTold}
use Rattle.script_container.specs.declared.fault.ScriptFault.{ScriptFault}
use Rattle.script_container.specs.declared.fault.ScriptFault.TheVariants as fault
use Rattle.script_links.proofs.Served.{same_served}
use Rattle.script_links.specs.Going.{IsEnding, IsGoingOn, IsLawful, KeepsHeld, LeavesGoing}
use Rattle.script_links.specs.Links.{AreLinked, AreServed, HoldFor}
use Rattle.script_links.specs.declared.links.Link.{Link}
use Rattle.script_links.specs.declared.progress.Progress.{Progress}

module _ {D : Type 0} (disks : Disks D) where
  -- where nothing more was noticed
  pub known_still : {before : Option Notice} {after : List (Event D)} {r : Record} (noticed : Option Told)
      → IsTold disks after r → notices after ≡ before → Tells before noticed → IsKnown disks after r noticed
  known_still {before = before} {after = after} noticed told same seen =
      record { told = told; seen = seen_still before (notices after) noticed same seen }

  -- refused for want of memory alone
  pub lacking_leaves : {T : Type 0} (r : Result T ScriptFault) (es after : List (Event D)) (rec : Record)
      (noticed : Option Told) → IsTold disks after rec → notices after ≡ notices es → Tells (notices es) noticed
      → IfErr r (λ e. e ≡ fault.NoMemory) → Leaves disks r after rec noticed
  lacking_leaves (Ok x) es after rec noticed told same seen lacking = known_still noticed told same seen
  lacking_leaves (Err e) es after rec noticed told same seen lacking =
      record { told = told; shown = subst (λ (f : ScriptFault). Shows disks after f) (sym lacking) tt }

  -- an error that is handed on
  pub ends_on : {T : Type 0} (r : Result T ScriptFault) (e : ScriptFault) (es : List (Event D)) (p : Progress)
      → IsErrAnd r (λ x. x ≡ e) → IsEnding disks es p e → LeavesGoing disks r es p
  ends_on (Ok x) e es p is ending = absurd is
  ends_on (Err x) e es p is ending = subst (λ (f : ScriptFault). IsEnding disks es p f) (sym is) ending

  -- want of memory
  pub memory_ends : {T : Type 0} (r : Result T ScriptFault) (es : List (Event D)) (p : Progress)
      → IsErrAnd r (λ x. x ≡ fault.NoMemory) → IsTold disks es p.core → AreLinked es p.links.items
      → LeavesGoing disks r es p
  memory_ends r es p is told linked = ends_on r fault.NoMemory es p is (record {
    told = told;
    linked = linked;
    shown = tt;
  })

  -- a call of the container leaves the script so, where the servers that run are those of the links
  pub goes_by : {T : Type 0} (r : Result T ScriptFault) (es : List (Event D)) (p : Progress)
      → Leaves disks r es p.core p.noticed → AreLinked es p.links.items → OnOk r (AreServed es p.links.items)
      → LeavesGoing disks r es p
  goes_by (Ok x) es p known linked served =
      record { told = known.told; linked = linked; served = served; seen = known.seen }
  goes_by (Err e) es p stopped linked served =
      record { told = stopped.told; linked = linked; shown = stopped.shown }

  -- a call of the container that leaves the servers as they were
  pub known_on : (es after : List (Event D)) (p : Progress) (core : Record) (noticed : Option Told)
      → servers after ≡ servers es → AreLinked es p.links.items → AreServed es p.links.items
      → IsKnown disks after core noticed → IsGoingOn disks after (record p { core = core; noticed = noticed })
  unfolding servers
  known_on es after p core noticed serving linked served known = record {
    told = known.told;
    linked = λ s. still_of serving s ∙ linked s;
    served = same_served (λ s. passed s es) (λ s. passed s after) p.links.items (quiet_of serving) served;
    seen = known.seen;
  }

  pub goes_on : {T : Type 0} (r : Result T ScriptFault) (es after : List (Event D)) (p : Progress) (core : Record)
      (noticed : Option Told) → servers after ≡ servers es → AreLinked es p.links.items
      → AreServed es p.links.items → Leaves disks r after core noticed
      → LeavesGoing disks r after (record p { core = core; noticed = noticed })
  unfolding servers
  goes_on (Ok x) es after p core noticed serving linked served known = known_on es after p core noticed serving linked
      served known
  goes_on (Err e) es after p core noticed serving linked served stopped =
      record { told = stopped.told; linked = λ s. still_of serving s ∙ linked s; shown = stopped.shown }

  pub lawful_of : (es : List (Event D)) (r : Record) → IsTold disks es r → IsLawful disks es
  lawful_of es r t = record {
    sent = t.sent;
    bounded = t.bounded;
    heard = t.heard;
    saved = t.saved;
    opened = t.opened;
    started = t.started;
  }

-- one after another
pub keeps_then : {D : Type 0} {es mid after : List (Event D)} {ls ms now : List Link} → KeepsHeld es mid ls ms
    → KeepsHeld mid after ms now → KeepsHeld es after ls now
keeps_then first last = record {
  ordered = last.ordered ∙ first.ordered;
  holding = λ f hold. last.holding f (first.holding f hold);
  handing = λ f hold. last.handing f (first.holding f hold) ∙ first.handing f hold;
}
