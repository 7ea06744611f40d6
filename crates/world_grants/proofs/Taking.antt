-- What each step of the container makes of roles.
use Rattle.std.proofs.Common.{◌≡◌, ◌==◌, ℕ, ◌+◌, Bool, true, false, List, [], ◌∷◌, length, Option, Some, None, Result}
use Rattle.std.proofs.Common.{Ok, Err, refl, sym, ◌∙◌, subst, if◌then◌else◌}
use Rattle.message_values.specs.Found.{find, nth}
use Rattle.message_values.specs.declared.message.Said.{Said}
use Rattle.message_values.specs.declared.message.Said.TheVariants.{Call, Reply, Write, Ask}
use Rattle.tree_streams.specs.Limits.{is_within}
use Rattle.ole_model.specs.declared.object.DocObject.{DocObject}
use Rattle.tree_streams.specs.declared.stored.Stored.{Stored}
use Rattle.container_model.specs.declared.record.Link.{Link}
use Rattle.container_model.specs.declared.record.Object.{Object}
use Rattle.container_model.specs.declared.command.Command.{Command}
use Rattle.container_model.specs.declared.fault.ContainerFault.{ContainerFault}
use Rattle.container_model.specs.declared.fault.ContainerFault.TheVariants.{Stale, WrongLink, BadAnswer}
use Rattle.container_model.specs.Record.{Record, Took, is_linked, is_alive}
use Rattle.container_model.specs.declared.record.Frame.{Frame}
use Rattle.container_model.specs.Saves.{commit_doubted, commit_failed, commit_made, resolve, save_dropped}
use Rattle.container_model.specs.Commands.{on_command}
use Rattle.container_model.specs.Messages.{is_open_to, written_object, write_made, write_link, write_found, on_message}
use Rattle.container_model.specs.Messages.{on_ask}
use Rattle.container_model.specs.Opens.{Given, opened, opened_made, opened_objects}
use Rattle.container_queues.specs.Steady.{Steady}
use Rattle.container_steady.proofs.Opening.{is_opened}
use Rattle.container_steady.proofs.Settling.{is_dropped, is_failed}
use Rattle.world_model.specs.Safe.{links_of}
use Rattle.world_grants.specs.Grants.{RolesMove, NoClaim, NoTools, roles_of}
use Rattle.world_grants.proofs.Objects.{ArePassive, Keeps, put_kept, kept_stay, more_stay}
use Rattle.world_grants.proofs.Frames.{none_move, more_move}
use Rattle.world_grants.proofs.Moving.{plain_move}
use Rattle.world_grants.proofs.Commands.{Leaves, commit_leaves, doubt_leaves, drop_leaves}
use Rattle.world_grants.proofs.Verbs.{command_leaves, ask_leaves}
use Rattle.world_grants.proofs.Replies.{reply_is}
use Rattle.world_grants.proofs.Answering.{move_more, reply_moves}
use Rattle.container_model.specs.declared.server_link.ServerLink.{ServerLink}
use Rattle.container_model.proofs.SaidOn.{is_said_on, said_on}
use Rattle.message_values.specs.declared.message.Message.{Message}

abbrev pub MovesBy : Record → Record → List Said → Type 0
MovesBy r u taken = RolesMove (links_of r.objects) (links_of u.objects) (roles_of r) (roles_of u) taken

left_moves : (r u : Record) → Steady r → Leaves r u → MovesBy r u []
left_moves r u s h = plain_move r u s h.0 h.1

pub command_moves : (r : Record) (c : Command) (t : Took) → Steady r → on_command r c ≡ Ok t → MovesBy r t.rec []
command_moves r c t s e = left_moves r t.rec s (command_leaves r c t s e)

pub committed_moves : (r : Record) (f : ℕ) (frame : Frame) → Steady r → nth r.frames f ≡ Some frame
    → MovesBy r (commit_made r f frame).rec []
committed_moves r f frame s at = left_moves r (commit_made r f frame).rec s (commit_leaves r f frame at)

pub failed_moves : (r : Record) (f : ℕ) (t : Took) → Steady r → commit_failed r f ≡ Ok t → MovesBy r t.rec []
failed_moves r f t s e = (let h = is_failed r f t e in
    subst (λ (x : Took). MovesBy r x.rec []) h.made
    (left_moves r (commit_doubted r f h.frame).rec s (doubt_leaves r f h.frame h.there)))

pub dropped_moves : (r : Record) (f : ℕ) (t : Took) → Steady r → resolve r f false ≡ Ok t → MovesBy r t.rec []
dropped_moves r f t s e = (let h = is_dropped r f t e in
    subst (λ (x : Took). MovesBy r x.rec []) h.made
    (left_moves r (save_dropped r f h.frame).rec s (drop_leaves r f h.frame h.there)))

-- a file that is opened
opened_passive : (last f : ℕ) (ds : List DocObject) → ArePassive (opened_objects last f ds)
opened_passive last f [] = tt
opened_passive last f (d ∷ ds) = (refl, opened_passive (last + 1) f ds)

pub opened_moves : (r : Record) (name : List ℕ) (w h : ℕ) (given : Given) (t : Took) → Steady r
    → opened r name w h given ≡ Ok t → MovesBy r t.rec []
opened_moves r name w h given t s e =
    let o = is_opened r name w h given t e in
    subst (λ (x : Took). MovesBy r x.rec []) o.made
    (left_moves r (opened_made r name w h o.d).rec s (
      more_stay r.objects _ (opened_passive r.last_object (length r.frames + 1) o.d.objects),
      more_move NoClaim NoTools r.frames _,
    ))

-- a write
module _ (r : Record) (inc act s w : ℕ) (content : Stored) (t : Took) where
  written_leaves : (o : Object) (l : Link) → find (is_linked inc act) r.objects ≡ Some o
      → Leaves r (write_made r inc act o l w content).rec
  written_leaves o l f = (
    kept_stay r.objects _ (put_kept (is_linked inc act) (written_object o l w content) r.objects
        (λ x e. (let q : o ≡ x = (let z : Some o ≡ Some x = sym f ∙ e in cc) in
        subst (λ z. Keeps z (written_object o l w content)) q (record { number = refl; frame = refl })))),
    none_move NoClaim NoTools r.frames,
  )

  write_leaves_link : (o : Object) (l : Option Link) → find (is_linked inc act) r.objects ≡ Some o
      → write_link r inc act s w content o l ≡ Ok t → Leaves r t.rec
  write_leaves_link o None f e = cc
  write_leaves_link o (Some l) f e = at (is_open_to l s w) (is_within content) e
    where
      at : (b c : Bool) → ◌≡◌ {A = Result Took ContainerFault}
          (if b then (if c then Ok (write_made r inc act o l w content) else Err BadAnswer) else Err Stale) (Ok t)
          → Leaves r t.rec
      at true true g = (let is : write_made r inc act o l w content ≡ t = cc in
          subst (λ (v : Took). Leaves r v.rec) is (written_leaves o l f))
      at true false g = cc
      at false c g = cc

  write_leaves_found : (o : Option Object) → find (is_linked inc act) r.objects ≡ o
      → write_found r inc act s w content o ≡ Ok t → Leaves r t.rec
  write_leaves_found None f e = cc
  write_leaves_found (Some o) f e = write_leaves_link o o.link f e

  write_leaves : (link : ℕ) → said_on r link (Write inc act s w content) ≡ Ok t → Leaves r t.rec
  write_leaves link e = at (inc == link) (is_alive r inc) e
    where
      at : (a b : Bool) → ◌≡◌ {A = Result Took ContainerFault}
          (if a then (if b then write_found r inc act s w content (find (is_linked inc act) r.objects)
          else Err Stale) else Err WrongLink) (Ok t) → Leaves r t.rec
      at true true g = write_leaves_found (find (is_linked inc act) r.objects) refl g
      at true false g = cc
      at false b g = cc

ask_leaves_on : (r : Record) (link inc act g : ℕ) (t : Took) → said_on r link (Ask inc act g) ≡ Ok t → Leaves r t.rec
ask_leaves_on r link inc act g t e = at (inc == link) e
  where
    at : (b : Bool) → ◌≡◌ {A = Result Took ContainerFault} (if b then on_ask r inc act g else Err WrongLink) (Ok t)
        → Leaves r t.rec
    at true k = ask_leaves r inc act g t k
    at false k = cc

said_moves : (r : Record) (link : ℕ) (m : Said) (t : Took) → Steady r → said_on r link m ≡ Ok t
    → MovesBy r t.rec (m ∷ [])
said_moves r link (Call inc act n op) t s e = cc
said_moves r link (Reply inc act n answer) t s e = reply_moves r s inc act n answer t
    (reply_is r inc act n answer t link e)
said_moves r link (Write inc act k w content) t s e = move_more (links_of r.objects) (links_of t.rec.objects)
    (roles_of r) (roles_of t.rec) (Write inc act k w content ∷ [])
    (left_moves r t.rec s (write_leaves r inc act k w content t link e))
said_moves r link (Ask inc act g) t s e = move_more (links_of r.objects) (links_of t.rec.objects) (roles_of r)
    (roles_of t.rec) (Ask inc act g ∷ []) (left_moves r t.rec s (ask_leaves_on r link inc act g t e))

pub message_moves : (r : Record) (link : ServerLink) (m : Message) (t : Took) → Steady r
    → on_message r link m ≡ Ok t → MovesBy r t.rec (m.said ∷ [])
message_moves r link m t s e = said_moves r link.inc m.said t s (is_said_on r link m t e).said
