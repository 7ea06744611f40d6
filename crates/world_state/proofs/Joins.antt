-- What a step of the container makes of a world without servers and stock, it makes of the same world with them.
use Rattle.std.proofs.Common.{◌≡◌, ℕ, Bool, true, false, List, [], ◌++◌, map, Option, Some, None, Result, Ok, Err}
use Rattle.std.proofs.Common.{length, if◌then◌else◌, refl, ap, sym, ◌∙◌}
use Rattle.std.specs.Prelude.{nat_le, IfSome, IsSome}
use Rattle.std.proofs.lemmas.List.{append-nil}
use Rattle.message_values.specs.Found.{nth, set_nth}
use Rattle.message_values.specs.declared.message.Message.{Message}
use Rattle.container_model.specs.Record.{Took}
use Rattle.container_model.specs.Commands.{on_command}
use Rattle.container_model.specs.Messages.{on_message, on_reap}
use Rattle.container_model.specs.Opens.{Given, opened}
use Rattle.container_model.specs.Saves.{image, commit_done, resolve}
use Rattle.container_model.specs.declared.answer.FrameDocument.{FrameDocument}
use Rattle.container_model.specs.declared.command.Command.{Command}
use Rattle.container_model.specs.declared.record.Frame.{Frame}
use Rattle.container_model.specs.declared.fault.ContainerFault.{ContainerFault}
use Rattle.world_model.specs.declared.logs.Taken.{Taken}
use Rattle.world_model.specs.declared.event.Stop.{Stop}
use Rattle.world_model.specs.declared.life.Life.{Life}
use Rattle.world_model.specs.declared.life.Life.TheVariants.{Ended, Reaped}
use Rattle.world_model.specs.declared.event.Stop.TheVariants.{EventLimit}
use Rattle.world_model.specs.World.{World, Instance, joined, took, commanded, started_by, ended, ended_by}
use Rattle.world_model.specs.World.{started_instance}
use Rattle.world_model.specs.World.{limited, reap, done, kept_commit, only_taken}
use Rattle.world_model.specs.World.{resolved, MOST_EVENTS, link_to, done_with}
use Rattle.world_host.specs.Logging.{heard, heard_as, forged, forged_as, brought}
use Rattle.world_host.specs.Servers.{ends_by, ends_in, ends_of}
use Rattle.world_host.specs.View.{started}
use Rattle.world_host.proofs.Joins.{ends_same, none_ended}
use Rattle.world_host.proofs.Opening.{opens_end_none}
use Rattle.world_state.specs.Plans.{forging}
use Rattle.world_state.proofs.Delivering.{forged_same}
use Rattle.world_state.proofs.Lifts.{emptied}
use Rattle.container_model.specs.declared.server_link.ServerLink.{ServerLink}

-- a world whose servers were told of, with those that ended and started
abbrev pub finished : World → World → List ℕ → List ℕ → World
finished w b ends starts =
    record b {
      instances = ends_by ends w.instances ++ map (started_instance b.rec.session b.rec.numbers) starts;
      stock = w.stock;
    }

abbrev lifted : World → List ℕ → World → World
lifted w ends x = record x { instances = ends_by ends w.instances ++ x.instances; stock = w.stock }

none_lifted : (w : World) (ends : List ℕ) → ends ≡ [] → ends_by ends w.instances ++ [] ≡ w.instances
none_lifted w ends e = ap (λ xs. ends_by xs w.instances ++ []) e ∙ append-nil w.instances

joins_lifted : (w : World) (t : Took) (ends : List ℕ) → ends ≡ ends_of t.answer.actions
    → ends_by ends w.instances ++ (ended_by t.answer.actions [] ++ started_by t.rec.session t.rec.numbers
    t.answer.actions) ≡ ended_by t.answer.actions w.instances ++ started_by t.rec.session t.rec.numbers
    t.answer.actions
joins_lifted w t ends e =
    ap (λ xs. ends_by xs w.instances
    ++ (ended_by t.answer.actions [] ++ started_by t.rec.session t.rec.numbers t.answer.actions)) e
    ∙ (ap (λ is. is ++ (ended_by t.answer.actions [] ++ started_by t.rec.session t.rec.numbers t.answer.actions))
    (sym (ends_same t.answer.actions w.instances))
    ∙ ap (λ is. ended_by t.answer.actions w.instances
    ++ (is ++ started_by t.rec.session t.rec.numbers t.answer.actions)) (none_ended t.answer.actions))

pub took_lifted : (w b : World) (told : Result Took ContainerFault) (ends starts : List ℕ)
    → took (emptied w) told ≡ started b starts → ends ≡ ends_in told → took w told ≡ finished w b ends starts
took_lifted w b (Err fault) ends starts h e =
    sym (ap (λ is. record (took w (Err fault)) { instances = is }) (none_lifted w ends e)) ∙ ap (lifted w ends) h
took_lifted w b (Ok t) ends starts h e =
    sym (ap (λ is. record (joined w t) { instances = is }) (joins_lifted w t ends e)) ∙ ap (lifted w ends) h

pub commanded_lifted : (w b : World) (c : Command) (told : Result Took ContainerFault) (ends starts : List ℕ)
    → commanded (emptied w) c told ≡ started b starts → ends ≡ ends_in told
    → commanded w c told ≡ finished w b ends starts
commanded_lifted w b c (Err fault) ends starts h e = took_lifted w b (Err fault) ends starts h e
commanded_lifted w b c (Ok t) ends starts h e =
    sym (ap (λ is. record (commanded w c (Ok t)) { instances = is }) (joins_lifted w t ends e))
    ∙ ap (lifted w ends) h

pub heard_lifted : (w b : World) (entry : List Taken) (told : Result Took ContainerFault) (ends starts : List ℕ)
    → heard_as (emptied w) entry told ≡ started b starts → ends ≡ ends_in told
    → heard_as w entry told ≡ finished w b ends starts
heard_lifted w b entry (Err fault) ends starts h e =
    sym (ap (λ is. record (heard_as w entry (Err fault)) { instances = is }) (none_lifted w ends e))
    ∙ ap (lifted w ends) h
heard_lifted w b entry (Ok t) ends starts h e =
    sym (ap (λ is. record (heard_as w entry (Ok t)) { instances = is }) (joins_lifted w t ends e))
    ∙ ap (lifted w ends) h

forged_lifted : (w b : World) (inc : ℕ) (entry : List Taken) (told : Result Took ContainerFault)
    (ends starts : List ℕ) → forged_as (emptied w) inc entry told ≡ started b starts → ends ≡ ends_in told
    → forged_as w inc entry told ≡ finished w b ends starts
forged_lifted w b inc entry (Err fault) ends starts h e =
    sym (ap (λ is. record (forged_as w inc entry (Err fault)) { instances = is }) (none_lifted w ends e))
    ∙ ap (lifted w ends) h
forged_lifted w b inc entry (Ok t) ends starts h e =
    sym (ap (λ is. record (forged_as w inc entry (Ok t)) { instances = is }) (joins_lifted w t ends e))
    ∙ ap (lifted w ends) h

-- the same of a commit that is done, and of a world that takes no more
free : (w v : World) → nat_le MOST_EVENTS (length w.answers) ≡ false → limited w (Ok v) ≡ Ok v
free w v e = rw e refl

ok_is : (x y : World) → ◌≡◌ {A = Result World Stop} (Ok x) (Ok y) → x ≡ y
ok_is x y e = cc

limit_lifted : (w b u : World) (t : Took) (full : Bool) (ends starts : List ℕ) → u.instances ≡ w.instances
    → u.stock ≡ w.stock → (if full then Err EventLimit else Ok (joined (emptied u) t)) ≡ Ok (started b starts)
    → ends ≡ ends_of t.answer.actions
    → (if full then Err EventLimit else Ok (joined u t)) ≡ Ok (finished w b ends starts)
limit_lifted w b u t true ends starts i s h e = cc
limit_lifted w b u t false ends starts i s h e =
    ap Ok (took_lifted u b (Ok t) ends starts (ok_is _ _ h) e ∙ rw (i, s) refl)

with_lifted : (w b : World) (f : ℕ) (bytes : List ℕ) (frame : Option Frame)
    (saved : Result FrameDocument ContainerFault) (told : Result Took ContainerFault) (ends starts : List ℕ)
    → limited (emptied w) (done_with (emptied w) f bytes frame saved told) ≡ Ok (started b starts)
    → ends ≡ ends_in told → limited w (done_with w f bytes frame saved told) ≡ Ok (finished w b ends starts)
with_lifted w b f bytes None saved told ends starts h e = cc
with_lifted w b f bytes (Some frame) (Err fault) told ends starts h e = cc
with_lifted w b f bytes (Some frame) (Ok saved) (Err fault) ends starts h e = cc
with_lifted w b f bytes (Some frame) (Ok saved) (Ok t) ends starts h e =
    limit_lifted w b (kept_commit w f frame saved t.counted bytes) t (nat_le MOST_EVENTS (length w.answers)) ends
    starts refl refl h e

only_lifted : (w b : World) (told : Result Took ContainerFault) (ends starts : List ℕ)
    → limited (emptied w) (only_taken (emptied w) told) ≡ Ok (started b starts) → ends ≡ ends_in told
    → limited w (only_taken w told) ≡ Ok (finished w b ends starts)
only_lifted w b (Err fault) ends starts h e = cc
only_lifted w b (Ok t) ends starts h e = limit_lifted w b w t (nat_le MOST_EVENTS (length w.answers)) ends starts
    refl refl h e

-- what an event made of a world that takes it
pub command_taken : (w b v : World) (c : Command) (ends starts : List ℕ) → nat_le MOST_EVENTS (length w.answers)
    ≡ false → commanded (emptied w) c (on_command w.rec c) ≡ started b starts → ends ≡ ends_in (on_command w.rec c)
    → v ≡ finished w b ends starts → limited w (Ok (commanded w c (on_command w.rec c))) ≡ Ok v
command_taken w b v c ends starts room h e is = free w _ room
    ∙ ap Ok (commanded_lifted w b c (on_command w.rec c) ends starts h e ∙ sym is)

pub open_taken : (w b v : World) (name : List ℕ) (x y : ℕ) (given : Given) (ends starts : List ℕ)
    → nat_le MOST_EVENTS (length w.answers) ≡ false → took (emptied w) (opened w.rec name x y given)
    ≡ started b starts → ends ≡ []
    → v ≡ finished w b ends starts → limited w (Ok (took w (opened w.rec name x y given))) ≡ Ok v
open_taken w b v name x y given ends starts room h e is = free w _ room
    ∙ ap Ok (took_lifted w b (opened w.rec name x y given) ends starts h
    (e ∙ sym (opens_end_none w.rec name x y given)) ∙ sym is)

pub told_taken : (w b v : World) (p : Option ℕ) (link : ServerLink) (m : Message) (ends starts : List ℕ)
    → nat_le MOST_EVENTS (length w.answers) ≡ false → heard (emptied w) p link m ≡ started b starts
    → ends ≡ ends_in (on_message w.rec link m)
    → v ≡ finished w b ends starts → limited w (Ok (heard w p link m)) ≡ Ok v
told_taken w b v p link m ends starts room h e is = free w _ room
    ∙ ap Ok (heard_lifted w b (brought p w.rec.objects m.said) (on_message w.rec link m) ends starts h e ∙ sym is)

pub forge_taken : (w b v : World) (inc : ℕ) (m : Message) (ends starts : List ℕ)
    → nat_le MOST_EVENTS (length w.answers) ≡ false → forged (emptied w) inc m ≡ started b starts
    → ends ≡ ends_in (on_message w.rec (link_to w inc) m)
    → v ≡ finished w b ends starts → forging w inc m ≡ Ok v
forge_taken w b v inc m ends starts room h e is =
    free w _ room ∙ ap Ok (forged_same w inc m ∙ forged_lifted w b inc (brought None w.rec.objects m.said)
    (on_message w.rec (link_to w inc) m) ends starts h e ∙ sym is)

reap_some : (w b m v : World) (inc : ℕ) (life : Life) (z : Instance) (ends starts : List ℕ)
    → nth w.instances inc ≡ Some z → z.life ≡ Ended → nat_le MOST_EVENTS (length w.answers) ≡ false
    → took (emptied w) (on_reap w.rec inc) ≡ started b starts → ends ≡ ends_in (on_reap w.rec inc)
    → m ≡ record b { instances = set_nth w.instances inc (record z { life = Reaped }); stock = w.stock }
    → v ≡ record m { instances = ends_by ends m.instances ++ map (started_instance m.rec.session m.rec.numbers) starts }
    → limited w (reap w inc (nth w.instances inc)) ≡ Ok v
reap_some w b m v inc life z ends starts e r room h en em ev =
    let u : World = record w { instances = set_nth w.instances inc (record z { life = Reaped }) } in
    ap (λ o. limited w (reap w inc o)) e
    ∙ (ap (λ l. limited w (ended w inc z l)) r
    ∙ (free w _ room ∙ ap Ok (took_lifted u b (on_reap w.rec inc) ends starts h en
    ∙ sym
    (ev
    ∙ ap (λ (x : World). record x {
      instances = ends_by ends x.instances
          ++ map (started_instance x.rec.session x.rec.numbers) starts;
    }) em))))

pub reap_taken : (w b m v : World) (inc : ℕ) (life : Life) (o : Option Instance) (ends starts : List ℕ)
    → nth w.instances inc ≡ o → IsSome o → IfSome o (λ x. x.life ≡ life) → life ≡ Ended
    → nat_le MOST_EVENTS (length w.answers) ≡ false → took (emptied w) (on_reap w.rec inc) ≡ started b starts
    → ends ≡ ends_in (on_reap w.rec inc)
    → IfSome o (λ x. m ≡ record b {
      instances = set_nth w.instances inc (record x { life = Reaped });
      stock = w.stock;
    }) → v ≡ record m {
      instances = ends_by ends m.instances
          ++ map (started_instance m.rec.session m.rec.numbers) starts;
    }
    → limited w (reap w inc (nth w.instances inc)) ≡ Ok v
reap_taken w b m v inc life None ends starts e is i l room h en em ev = cc
reap_taken w b m v inc life (Some z) ends starts e is i l room h en em ev =
    reap_some w b m v inc life z ends starts e (i ∙ l) room h en em ev

pub done_taken_all : (w b v : World) (f : ℕ) (bytes : List ℕ) (ends starts : List ℕ)
    → limited (emptied w) (done (emptied w) f bytes) ≡ Ok (started b starts) → ends ≡ ends_in (commit_done w.rec f)
    → v ≡ finished w b ends starts → limited w (done w f bytes) ≡ Ok v
done_taken_all w b v f bytes ends starts h e is = with_lifted w b f bytes (nth w.rec.frames f) (image w.rec f)
    (commit_done w.rec f) ends starts h e ∙ ap Ok (sym is)

pub kept_taken_all : (w b v : World) (f : ℕ) (bytes : List ℕ) (ends starts : List ℕ)
    → limited (emptied w) (resolved (emptied w) f true bytes) ≡ Ok (started b starts)
    → ends ≡ ends_in (resolve w.rec f true)
    → v ≡ finished w b ends starts → limited w (resolved w f true bytes) ≡ Ok v
kept_taken_all w b v f bytes ends starts h e is = with_lifted w b f bytes (nth w.rec.frames f) (image w.rec f)
    (resolve w.rec f true) ends starts h e ∙ ap Ok (sym is)

pub only_taken_all : (w b v : World) (told : Result Took ContainerFault) (ends starts : List ℕ)
    → limited (emptied w) (only_taken (emptied w) told) ≡ Ok (started b starts) → ends ≡ ends_in told
    → v ≡ finished w b ends starts → limited w (only_taken w told) ≡ Ok v
only_taken_all w b v told ends starts h e is = only_lifted w b told ends starts h e ∙ ap Ok (sym is)
