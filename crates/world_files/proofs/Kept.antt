-- Each event keeps the files and what was counted.
use Rattle.std.proofs.Common.{◌≡◌, ◌==◌, ℕ, zero, suc, ◌+◌, Bool, true, false, inl, List, [], ◌∷◌, ◌++◌, length, map}
use Rattle.std.proofs.Common.{Option, Some, None, Result, Ok, Err, refl, sym, ap, ◌∙◌, subst, nat_le, if◌then◌else◌}
use Rattle.std.proofs.lemmas.Bool.{eqb-true}
use Rattle.std.proofs.lemmas.List.{append-nil}
use Rattle.message_values.specs.Found.{find, nth, set_nth}
use Rattle.message_values.specs.declared.message.Message.{Message}
use Rattle.message_values.specs.declared.message.Said.TheVariants.{Call, Reply, Write, Ask}
use Rattle.message_values.specs.declared.operation.Operation.{Operation}
use Rattle.cfb_file.specs.Denotes.{Denotes}
use Rattle.ole_model.specs.DocOf.{DocOf}
use Rattle.cfb_file.specs.Refusals.{writable}
use Rattle.cfb_file.specs.declared.fault.WriteFault.{WriteFault}
use Rattle.object_core.specs.Kinds.{Kind}
use Rattle.server_model.specs.Server.{Served, Told, on_call, wanted}
use Rattle.server_model.specs.Server as server
use Rattle.server_model.specs.declared.fault.ServerFault.{ServerFault}
use Rattle.container_model.specs.Record.{Record, Took, is_object, without_first}
use Rattle.container_model.specs.Saves.{image, image_at, frame_document, has_image, held_parts, fitting, fitting_in}
use Rattle.container_model.specs.Saves.{is_document, document, parts_in, document_tree, commit_done, commit_failed}
use Rattle.container_model.specs.Saves.{commit_made, resolve, committed_frame, completed, completion, counted_object}
use Rattle.container_model.specs.Saves.{cleared, kept}
use Rattle.container_model.specs.Messages.{on_message, on_reap}
use Rattle.container_model.specs.Commands.{on_command, new_frame, save_made}
use Rattle.container_model.specs.Opens.{Given, opened, opened_frame, opened_objects}
use Rattle.container_model.specs.declared.command.Command.{Command}
use Rattle.container_model.specs.declared.record.Frame.{Frame}
use Rattle.container_model.specs.declared.record.Object.{Object}
use Rattle.container_model.specs.declared.answer.FrameDocument.{FrameDocument}
use Rattle.container_model.specs.declared.fault.ContainerFault.{ContainerFault}
use Rattle.container_model.specs.declared.fault.ContainerFault.TheVariants.{Full, WrongState}
use Rattle.world_model.specs.declared.logs.Sent.{Sent}
use Rattle.world_model.specs.declared.logs.Taken.{Taken}
use Rattle.world_model.specs.declared.life.Life.{Life}
use Rattle.world_model.specs.declared.life.Life.TheVariants.{Running, Ended, Reaped}
use Rattle.world_model.specs.declared.event.Event.{Event}
use Rattle.world_model.specs.declared.event.Event.TheVariants as event
use Rattle.world_model.specs.declared.event.Stop.{Stop}
use Rattle.world_model.specs.declared.event.Stop.TheVariants.{EventLimit}
use Rattle.world_model.specs.World.{World, Instance, document_in, empty_world, joined, took, commanded, served, stocked}
use Rattle.world_model.specs.World.{called_wanting, called_in, called, delivered, taken_at, with_taken, deliver}
use Rattle.world_model.specs.World.{forged_on, forged, forge, spoken_by, spoken, scribble, ask, crashed, crash, ended}
use Rattle.world_model.specs.World.{reap, kept_commit, only_taken, resolved, happened}
use Rattle.world_model.specs.World.{limited, MayChoose, HoldsDocument, is_of, MOST_EVENTS, Choice, in_session}
use Rattle.world_model.specs.World.{delivered_said}
use Rattle.world_model.specs.World.{link_of, link_to, done_with}
use Rattle.world_model.specs.Safe.{IsCounted}
use Rattle.container_queues.specs.Steady.{Steady}
use Rattle.container_steady.proofs.Settling.{IsCommitOf, done_commits, is_dropped, is_failed, kept_commits, not_idle}
use Rattle.world_files.specs.Files.{CountedBounded, Files, FilesCounted, HasCommits, MakesDocument, id_of}
use Rattle.world_facts.proofs.Lookups.{among_map, find_among, find_passes, map_map_same}
use Rattle.world_files.proofs.Numbering.{numbered}
use Rattle.world_files.proofs.Moving.{id_asked}
use Rattle.world_files.proofs.Quiet.{IsQuiet, doubt_quiet, drop_quiet, leaving_quiet, linked_quiet, message_quiet}
use Rattle.world_files.proofs.Quiet.{named, reap_quiet, renaming_quiet, same_quiet, save_quiet, taking_quiet}
use Rattle.container_steady.specs.Made.{IsMade, IsOtherName, makes_activation, makes_edit, makes_end, makes_fewer}
use Rattle.container_steady.specs.Made.{makes_frame, makes_nothing, makes_object, makes_save, makes_server, makes_steps}
use Rattle.container_steady.specs.Made.{makes_taking, run_by}
use Rattle.container_steady.proofs.Opening.{is_opened}
use Rattle.container_steady.proofs.Taken.{command_made}
use Rattle.world_files.proofs.Bounding.{bounded_asking, bounded_same, bounded_framed, bounded_more, bounded_object}
use Rattle.world_files.proofs.Bounding.{bounded_fewer, bounded_committed, among_without, object_past, opened_past}
use Rattle.world_files.proofs.Commits.{commits_moved, commits_framed, commits_committed}
use Rattle.world_files.proofs.InTurn.{turns_asking, turns_fewer, turns_more, turns_same}
use Rattle.world_files.proofs.Filing.{stored_asking, stored_same, stored_framed, stored_committed}
use Rattle.message_values.specs.declared.message.Said.{Said}
use Rattle.world_model.proofs.InRun.{in_run_ok}

-- the world in which nothing has happened
pub empty_files : (numbers : ℕ) (stock : List Kind) → Files (empty_world numbers stock)
empty_files numbers stock = record {
  counted_bounded = record { counted = λ d h. absurd h; below = λ x d frame h g e at. absurd h; counted_once = tt };
  filed = record {
    aligned = refl;
    names_apart = λ f g a b name fa gb x y. none_there f a fa;
    file_counted = λ f d frame c at. none_there f frame at;
  };
  commits = record {
    commits = [];
    entries = refl;
    last = λ f. none_counted f;
    bounded = record {
      drawn = λ c p h. absurd h;
      owned = λ x c p h. absurd h;
      placed = λ c h. absurd h;
      below = λ c frame h. absurd h;
      in_turn = tt;
    };
    each_counted = λ file h. absurd h;
  };
}
  where
    none_there : {B : Type 0} (f : ℕ) (a : Frame) → nth {A = Frame} [] f ≡ Some a → B
    none_there zero a e = cc
    none_there (suc i) a e = cc

    none_counted : (f : ℕ) → document_in (nth [] f) ≡ None
    none_counted zero = refl
    none_counted (suc i) = refl

-- a step that leaves the files and what was counted alone
pub files_quiet : (w : World) (t : Took) → Files w → IsQuiet w.rec t → Files (joined w t)
files_quiet w t k q = record {
  counted_bounded = subst (λ ids. CountedBounded t.rec.frames ids t.rec.last_object w.container_done) (sym q.ids)
      (subst (λ n. CountedBounded t.rec.frames (map id_of w.rec.objects) n w.container_done) (sym q.last)
      (bounded_same w.rec.frames t.rec.frames (map id_of w.rec.objects) w.rec.last_object w.container_done q.frames
      k.counted_bounded));
  filed = rw q.frame (subst (λ cs. FilesCounted t.rec.frames w.files cs w.container_done) (sym (append-nil w.counted))
      (stored_same w.rec.frames t.rec.frames w.files w.counted w.container_done q.frames k.filed));
  commits =
      rw q.frame (subst (λ cs. HasCommits t.rec.frames (map id_of t.rec.objects) t.rec.last_object w.files cs
      w.container_done) (sym (append-nil w.counted))
      (subst (λ ids. HasCommits t.rec.frames ids t.rec.last_object w.files w.counted w.container_done) (sym q.ids)
      (subst (λ n. HasCommits t.rec.frames (map id_of w.rec.objects) n w.files w.counted w.container_done) (sym q.last)
      (commits_moved w.rec.frames t.rec.frames (map id_of w.rec.objects) (map id_of w.rec.objects) w.rec.last_object
      w.rec.last_object w.files w.counted w.container_done
      (λ cs b. turns_same w.rec.frames t.rec.frames (map id_of w.rec.objects) w.rec.last_object cs q.frames b)
      k.commits))));
}

files_told : (w : World) (told : Result Took ContainerFault) → Files w
    → ((t : Took) → told ≡ Ok t → Files (joined w t)) → Files (took w told)
files_told w (Err fault) k q = record { counted_bounded = k.counted_bounded; filed = k.filed; commits = k.commits }
files_told w (Ok t) k q = q t refl

files_took : (w : World) (told : Result Took ContainerFault) → Files w
    → ((t : Took) → told ≡ Ok t → IsQuiet w.rec t) → Files (took w told)
files_took w told k q = files_told w told k (λ t e. files_quiet w t k (q t e))

files_commanded : (w : World) (c : Command) (told : Result Took ContainerFault) → Files w
    → ((t : Took) → told ≡ Ok t → Files (joined w t)) → Files (commanded w c told)
files_commanded w c (Err fault) k q = record {
  counted_bounded = k.counted_bounded;
  filed = k.filed;
  commits = k.commits;
}
files_commanded w c (Ok t) k q =
    (let h = q t refl in record { counted_bounded = h.counted_bounded; filed = h.filed; commits = h.commits })

-- a command
map_one : {A B : Type 0} (f : A → B) (xs : List A) (x : A) → map f (xs ++ x ∷ []) ≡ map f xs ++ f x ∷ []
map_one f [] x = refl
map_one f (y ∷ ys) x = ap (λ vs. f y ∷ vs) (map_one f ys x)

-- a save, under the frame's name or under another one
files_saving : (w : World) (f : ℕ) (frame : Frame) (raised : Option ℕ) (name : Option (List ℕ))
    → nth w.rec.frames f ≡ Some frame → IsOtherName w.rec f frame name → Files w
    → Files (joined w (save_made w.rec f frame raised name))
files_saving w f frame raised None at other k = files_quiet w (save_made w.rec f frame raised None) k
    (save_quiet w.rec f frame raised at)
files_saving w f frame raised (Some name) at other k =
    let r = w.rec in
    let asking : World = record w { rec = named r f frame name } in
    let asked : Files asking = record {
      counted_bounded = bounded_asking r.frames f frame name (map id_of r.objects) r.last_object w.container_done at
          k.counted_bounded;
      filed = stored_asking r.frames f frame name w.files w.counted w.container_done at other.0 k.filed;
      commits = commits_moved r.frames (set_nth r.frames f (record frame { asked = Some name }))
          (map id_of r.objects) (map id_of r.objects) r.last_object r.last_object w.files w.counted w.container_done
          (λ cs b. turns_asking r.frames f frame name (map id_of r.objects) r.last_object cs at b) k.commits;
    } in
    let h : Files (joined asking (save_made r f frame raised (Some name))) =
    files_quiet asking (save_made r f frame raised (Some name)) asked
    (renaming_quiet r f frame raised name at) in
    record { counted_bounded = h.counted_bounded; filed = h.filed; commits = h.commits }

-- whatever a command makes
files_made : (w : World) (ns : List ℕ) (t : Took) → Steady w.rec → Files w → IsMade w.rec t ns → Files (joined w t)
files_made w _ t s k (makes_nothing made) =
    files_quiet w t k (subst (IsQuiet w.rec) made (same_quiet w.rec _ refl refl refl refl))
files_made w _ t s k (makes_frame name x y new made) =
    let r = w.rec in
    subst (λ (v : Took). Files (joined w v)) made (record {
      counted_bounded = bounded_framed r.frames (new_frame name x y) (map id_of r.objects) r.last_object
          w.container_done (numbered r s) k.counted_bounded;
      filed = stored_framed r.frames (new_frame name x y) w.files w.counted w.container_done new.unnamed refl k.filed;
      commits = commits_framed r.frames (map id_of r.objects) r.last_object w.files w.counted w.container_done
          (new_frame name x y) k.commits;
    })
files_made w _ t s k (makes_object f kind area at made) =
    let r = w.rec in
    subst (λ (v : Took). Files (joined w v)) made (record {
      counted_bounded = subst (λ ids. CountedBounded r.frames ids (r.last_object + 1) w.container_done)
          (sym (map_one id_of r.objects _)) (bounded_object r.frames (map id_of r.objects) r.last_object f
          w.container_done k.counted_bounded);
      filed = subst (λ cs. FilesCounted r.frames w.files cs w.container_done) (sym (append-nil w.counted)) k.filed;
      commits = subst (λ ids. HasCommits r.frames ids (r.last_object + 1) w.files (w.counted ++ [])
          w.container_done) (sym (map_one id_of r.objects _))
          (subst (λ cs. HasCommits r.frames (map id_of r.objects ++ record { number = r.last_object + 1; frame = f }
          ∷ []) (r.last_object + 1) w.files cs w.container_done) (sym (append-nil w.counted))
          (commits_moved r.frames r.frames (map id_of r.objects)
          (map id_of r.objects ++ record { number = r.last_object + 1; frame = f } ∷ []) r.last_object
          (r.last_object + 1) w.files w.counted w.container_done
          (λ cs b. turns_more r.frames (map id_of r.objects) (record { number = r.last_object + 1; frame = f } ∷ [])
          r.last_object 1 cs (object_past r.last_object f) b) k.commits));
    })
files_made w _ t s k (makes_fewer n at passive made) =
    let r = w.rec in
    let x = at.object in
    subst (λ (v : Took). Files (joined w v)) made (record {
      counted_bounded = bounded_fewer r.frames (map id_of r.objects)
          (map id_of (without_first (is_object x.number) r.objects)) r.last_object w.container_done
          (among_without id_of (is_object x.number) r.objects) k.counted_bounded;
      filed = subst (λ cs. FilesCounted r.frames w.files cs w.container_done) (sym (append-nil w.counted)) k.filed;
      commits = subst (λ cs. HasCommits r.frames (map id_of (without_first (is_object x.number) r.objects))
          r.last_object w.files cs w.container_done) (sym (append-nil w.counted))
          (commits_moved r.frames r.frames (map id_of r.objects)
          (map id_of (without_first (is_object x.number) r.objects)) r.last_object r.last_object w.files
          w.counted w.container_done
          (λ cs b. turns_fewer r.frames (map id_of r.objects)
          (map id_of (without_first (is_object x.number) r.objects)) r.last_object cs
          (among_without id_of (is_object x.number) r.objects) b) k.commits);
    })
files_made w _ t s k (makes_server started made) =
    files_quiet w t k (subst (IsQuiet w.rec) made (same_quiet w.rec _ refl refl refl refl))
files_made w _ t s k (makes_end inc alive made) =
    files_quiet w t k (subst (IsQuiet w.rec) made (same_quiet w.rec _ refl refl refl refl))
files_made w _ t s k (makes_activation n inc at run made) =
    files_quiet w t k (subst (IsQuiet w.rec) made (linked_quiet w.rec _ n at.object _ at.found refl refl refl refl))
files_made w _ t s k (makes_edit n bytes go small has made) =
    files_quiet w t k
    (subst (IsQuiet w.rec) made (linked_quiet w.rec _ n go.at.object _ go.at.found refl refl refl refl))
files_made w _ t s k (makes_save f raised name at raising other made) =
    subst (λ (v : Took). Files (joined w v)) made (files_saving w f at.frame raised name at.there other k)
files_made w _ t s k (makes_steps n go ts has row made) =
    files_quiet w t k
    (subst (IsQuiet w.rec) made (leaving_quiet w.rec n go.at.frame go.at.object go.link ts go.at.found
    go.at.inside))
files_made w _ t s k (makes_taking n go ts taking made) =
    files_quiet w t k
    (subst (IsQuiet w.rec) made (taking_quiet w.rec n go.at.frame go.at.object go.link ts go.at.found go.at.inside))

files_command : (w : World) (c : Command) (t : Took) → Steady w.rec → Files w → on_command w.rec c ≡ Ok t
    → Files (joined w t)
files_command w c t s k e = files_made w (run_by c) t s k (command_made w.rec c t e)

-- a file that is opened
map_join : {A B : Type 0} (f : A → B) (xs ys : List A) → map f (xs ++ ys) ≡ map f xs ++ map f ys
map_join f [] ys = refl
map_join f (x ∷ xs) ys = ap (λ vs. f x ∷ vs) (map_join f xs ys)

files_opened : (w : World) (name : List ℕ) (x y : ℕ) (given : Given) (t : Took) → Steady w.rec → Files w
    → opened w.rec name x y given ≡ Ok t → Files (joined w t)
files_opened w name x y given t s k e =
    let r = w.rec in
    let o = is_opened r name x y given t e in
    let new = opened_frame name x y o.d.session in
    let framed = bounded_framed r.frames new (map id_of r.objects) r.last_object w.container_done (numbered r s)
    k.counted_bounded in
    let news = opened_objects r.last_object (length r.frames + 1) o.d.objects in
    subst (λ (v : Took). Files (joined w v)) o.made (record {
      counted_bounded = subst (λ ids. CountedBounded (r.frames ++ new ∷ []) ids (r.last_object + length o.d.objects)
          w.container_done) (sym (map_join id_of r.objects news))
          (bounded_more (r.frames ++ new ∷ []) (map id_of r.objects) (map id_of news) r.last_object
          (length o.d.objects) w.container_done (opened_past r.last_object (length r.frames + 1) o.d.objects)
          framed);
      filed = stored_framed r.frames new w.files w.counted w.container_done o.unnamed refl k.filed;
      commits = subst (λ ids. HasCommits (r.frames ++ new ∷ []) ids (r.last_object + length o.d.objects) w.files
          (w.counted ++ None ∷ []) w.container_done) (sym (map_join id_of r.objects news))
          (commits_moved (r.frames ++ new ∷ []) (r.frames ++ new ∷ []) (map id_of r.objects)
          (map id_of r.objects ++ map id_of news) r.last_object (r.last_object + length o.d.objects) w.files
          (w.counted ++ None ∷ []) w.container_done
          (λ cs b. turns_more (r.frames ++ new ∷ []) (map id_of r.objects) (map id_of news) r.last_object
          (length o.d.objects) cs (opened_past r.last_object (length r.frames + 1) o.d.objects) b)
          (commits_framed r.frames (map id_of r.objects) r.last_object w.files w.counted w.container_done new
          k.commits));
    })

-- deliveries
files_served : (w : World) (s inc act n : ℕ) (i : Instance) (stock : List Kind) (told : Result Served ServerFault)
    → Files w → Files (served w s inc act n i stock told)
files_served w s inc act n i stock (Err fault) k = record {
  counted_bounded = k.counted_bounded;
  filed = k.filed;
  commits = k.commits;
}
files_served w s inc act n i stock (Ok v) k = record {
  counted_bounded = k.counted_bounded;
  filed = k.filed;
  commits = k.commits;
}

files_stocked : (w : World) (s inc act n : ℕ) (op : Operation) (i : Instance) (class : List ℕ) (kind : Option Kind)
    (v : World) → Files w → stocked w s inc act n op i class kind ≡ Ok v → Files v
files_stocked w s inc act n op i class None v k e = cc
files_stocked w s inc act n op i class (Some kind) v k e =
    (let at : _ ≡ v = ok_is _ v e in
    subst Files at (files_served w s inc act n i _ (on_call i.core (in_session s (Call inc act n op)) (Some kind))
    k))
  where
    ok_is : (a b : World) → ◌≡◌ {A = Result World Stop} (Ok a) (Ok b) → a ≡ b
    ok_is a b e = cc

ok_is : (a b : World) → ◌≡◌ {A = Result World Stop} (Ok a) (Ok b) → a ≡ b
ok_is a b e = cc

files_wanting : (w : World) (s inc act n : ℕ) (op : Operation) (i : Instance) (class : Option (List ℕ)) (v : World)
    → Files w → called_wanting w s inc act n op i class ≡ Ok v → Files v
files_wanting w s inc act n op i None v k e = subst Files (ok_is _ v e)
    (files_served w s inc act n i w.stock (on_call i.core (in_session s (Call inc act n op)) None) k)
files_wanting w s inc act n op i (Some class) v k e = files_stocked w s inc act n op i class
    (find (is_of class) w.stock) v k e

files_called_in : (w : World) (s inc act n : ℕ) (op : Operation) (i : Instance) (life : Life) (v : World) → Files w
    → called_in w s inc act n op i life ≡ Ok v → Files v
files_called_in w s inc act n op i Running v k e = files_wanting w s inc act n op i
    (wanted i.core (in_session s (Call inc act n op))) v k e
files_called_in w s inc act n op i Ended v k e = subst Files (ok_is _ v e)
    (record { counted_bounded = k.counted_bounded; filed = k.filed; commits = k.commits })
files_called_in w s inc act n op i Reaped v k e = subst Files (ok_is _ v e)
    (record { counted_bounded = k.counted_bounded; filed = k.filed; commits = k.commits })

files_called : (w : World) (s inc act n : ℕ) (op : Operation) (i : Option Instance) (v : World) → Files w
    → called w s inc act n op i ≡ Ok v → Files v
files_called w s inc act n op None v k e = subst Files (ok_is _ v e)
    (record { counted_bounded = k.counted_bounded; filed = k.filed; commits = k.commits })
files_called w s inc act n op (Some i) v k e = files_called_in w s inc act n op i i.life v k e

files_said : (w : World) (m : Message) (said : Said) (v : World) → Files w → delivered_said w m said ≡ Ok v → Files v
files_said w m (Call inc act n op) v k e = files_called w m.session inc act n op (nth w.instances inc) v k e
files_said w m (Reply inc act n answer) v k e = subst Files (ok_is _ v e)
    (files_took w (on_message w.rec (link_of m) m) k (message_quiet w.rec (link_of m) m))
files_said w m (Write inc act s n content) v k e = subst Files (ok_is _ v e)
    (files_took w (on_message w.rec (link_of m) m) k (message_quiet w.rec (link_of m) m))
files_said w m (Ask inc act g) v k e = subst Files (ok_is _ v e)
    (files_took w (on_message w.rec (link_of m) m) k (message_quiet w.rec (link_of m) m))

files_delivered : (w : World) (m : Message) (v : World) → Files w → delivered w m ≡ Ok v → Files v
files_delivered w m v k e = files_said w m m.said v k e

-- what was taken is logged
files_logged : (w : World) (more : List Taken) (told : Result World Stop) (v : World)
    → ((u : World) → told ≡ Ok u → Files u) → with_taken w more told ≡ Ok v → Files v
files_logged w more (Err stop) v h e = cc
files_logged w more (Ok u) v h e =
    (let k = h u refl in subst Files (ok_is _ v e)
    (record { counted_bounded = k.counted_bounded; filed = k.filed; commits = k.commits }))

-- a forged message, which the container takes as one that was delivered
files_forged_on : (w : World) (inc : ℕ) (m : Message) → Files w → Files (forged_on w inc m)
files_forged_on w inc m k =
    (let h = files_took w (on_message w.rec (link_to w inc) m) k (message_quiet w.rec (link_to w inc) m) in
    record { counted_bounded = h.counted_bounded; filed = h.filed; commits = h.commits })

files_forged : (w : World) (inc : ℕ) (m : Message) (life : Life) (v : World) → Files w → forged w inc m life ≡ Ok v
    → Files v
files_forged w inc m Running v k e = subst Files (ok_is _ v e) (files_forged_on w inc m k)
files_forged w inc m Ended v k e = subst Files (ok_is _ v e) (files_forged_on w inc m k)
files_forged w inc m Reaped v k e = cc

files_forge : (w : World) (inc : ℕ) (m : Message) (i : Option Instance) (v : World) → Files w
    → forge w inc m i ≡ Ok v → Files v
files_forge w inc m None v k e = cc
files_forge w inc m (Some i) v k e = files_forged w inc m i.life v k e

files_deliver : (w : World) (p : ℕ) (sent : Option Sent) (v : World) → Files w → deliver w p sent ≡ Ok v → Files v
files_deliver w p None v k e = cc
files_deliver w p (Some sent) v k e = files_logged w (taken_at w.rec (Some p) (link_of sent.message) sent.message)
    (delivered w sent.message) v (λ u g. files_delivered w sent.message u k g) e

-- what an activation says of its own accord
files_spoken_by : (w : World) (inc act : ℕ) (i : Instance) (told : Result Told ServerFault) → Files w
    → Files (spoken_by w inc act i told)
files_spoken_by w inc act i (Err fault) k = record {
  counted_bounded = k.counted_bounded;
  filed = k.filed;
  commits = k.commits;
}
files_spoken_by w inc act i (Ok t) k = record {
  counted_bounded = k.counted_bounded;
  filed = k.filed;
  commits = k.commits;
}

files_spoken : (w : World) (inc act : ℕ) (i : Instance) (life : Life) (told : Result Told ServerFault) (v : World)
    → Files w → spoken w inc act i life told ≡ Ok v → Files v
files_spoken w inc act i Running told v k e = subst Files (ok_is _ v e) (files_spoken_by w inc act i told k)
files_spoken w inc act i Ended told v k e = cc
files_spoken w inc act i Reaped told v k e = cc

files_scribble : (w : World) (inc act : ℕ) (i : Option Instance) (v : World) → Files w → scribble w inc act i ≡ Ok v
    → Files v
files_scribble w inc act None v k e = cc
files_scribble w inc act (Some i) v k e = files_spoken w inc act i i.life (server.scribble i.core act) v k e

files_ask : (w : World) (inc act : ℕ) (i : Option Instance) (v : World) → Files w → ask w inc act i ≡ Ok v → Files v
files_ask w inc act None v k e = cc
files_ask w inc act (Some i) v k e = files_spoken w inc act i i.life (server.ask_deactivate i.core act) v k e

-- crashes and reaps
files_crashed : (w : World) (inc : ℕ) (i : Instance) (life : Life) (v : World) → Files w
    → crashed w inc i life ≡ Ok v → Files v
files_crashed w inc i Running v k e = subst Files (ok_is _ v e)
    (record { counted_bounded = k.counted_bounded; filed = k.filed; commits = k.commits })
files_crashed w inc i Ended v k e = cc
files_crashed w inc i Reaped v k e = cc

files_crash : (w : World) (inc : ℕ) (i : Option Instance) (v : World) → Files w → crash w inc i ≡ Ok v → Files v
files_crash w inc None v k e = cc
files_crash w inc (Some i) v k e = files_crashed w inc i i.life v k e

files_ended : (w : World) (inc : ℕ) (i : Instance) (life : Life) (v : World) → Files w → ended w inc i life ≡ Ok v
    → Files v
files_ended w inc i Running v k e = cc
files_ended w inc i Ended v k e = subst Files (ok_is _ v e)
    (files_took (record w { instances = set_nth w.instances inc (record i { life = Reaped }) }) (on_reap w.rec inc)
    (record { counted_bounded = k.counted_bounded; filed = k.filed; commits = k.commits }) (reap_quiet w.rec inc))
files_ended w inc i Reaped v k e = cc

files_reap : (w : World) (inc : ℕ) (i : Option Instance) (v : World) → Files w → reap w inc i ≡ Ok v → Files v
files_reap w inc None v k e = cc
files_reap w inc (Some i) v k e = files_ended w inc i i.life v k e

-- commits
id_counted : (f : ℕ) (o : Object) → id_of (counted_object f o) ≡ id_of o
id_counted f o = elim (o.frame == f) as (λ b. id_of (if b then record o { work = kept o; link = cleared o.link }
    else o) ≡ id_of o) [ true ↦ refl | false ↦ refl ]

id_completed : (f : ℕ) (frame : Frame) (o : Object) → id_of (completed f frame o) ≡ id_of o
id_completed f frame o = id_asked f (completion frame) (counted_object f o) ∙ id_counted f o

fitting_in_is : (d got : FrameDocument) (told : Result (Unit {0}) WriteFault) → fitting_in d told ≡ Ok got → d ≡ got
fitting_in_is d got (Ok u) e = cc
fitting_in_is d got (Err fault) e = cc

fitting_is : (d got : FrameDocument) → fitting d ≡ Ok got → d ≡ got
fitting_is d got e =
    elim (is_document (held_parts d.parts)) as (λ b. (if b then fitting_in d (writable (document_tree d))
    else Err Full) ≡ Ok got → d ≡ got) [
      | true ↦ (λ g. fitting_in_is d got _ g)
      | false ↦ (λ g. cc)
    ] e

pub image_is_at : (r : Record) (f : ℕ) (frame : Frame) (got : FrameDocument) → image_at r f (Some frame) ≡ Ok got
    → frame_document frame (parts_in f r.objects) ≡ got
image_is_at r f frame got e =
    elim (has_image frame.phase) as (λ b. (if b then fitting (frame_document frame (parts_in f r.objects))
    else Err WrongState) ≡ Ok got → frame_document frame (parts_in f r.objects) ≡ got) [
      | true ↦ (λ g. fitting_is (frame_document frame (parts_in f r.objects)) got g)
      | false ↦ (λ g. cc)
    ] e

files_committed : (w : World) (f : ℕ) (bytes : List ℕ) (frame : Frame) (saved : FrameDocument)
    (told : Result Took ContainerFault) (v : World) → Steady w.rec → Files w → nth w.rec.frames f ≡ Some frame
    → image w.rec f ≡ Ok saved → IsCommitOf w.rec f frame told → ∥ Denotes bytes (document_tree saved) ∥₁
    → DocOf (document_tree saved) (document saved) → done_with w f bytes (Some frame) (Ok saved) told ≡ Ok v → Files v
files_committed w f bytes frame saved (Err fault) v s k at im commits den held e = cc
files_committed w f bytes frame saved (Ok t) v s k at im commits den held e =
    let r = w.rec in
    let c = commits t refl in
    let mine : FrameDocument = frame_document frame (parts_in f r.objects) in
    let ps : mine ≡ saved = image_is_at r f frame saved (ap (image_at r f) (sym at) ∙ im) in
    let ids : map id_of (map (completed f frame) r.objects) ≡ map id_of r.objects =
    map_map_same id_of (completed f frame) r.objects (id_completed f frame) in
    let den2 : ∥ Denotes bytes (document_tree mine) ∥₁ = subst (λ x. ∥ Denotes bytes (document_tree x) ∥₁) (sym ps)
    den in
    let held2 : DocOf (document_tree mine) (document mine) = subst (λ x. DocOf (document_tree x) (document x))
    (sym ps) held in
    let after : World = joined (kept_commit w f frame mine (commit_made r f frame).counted bytes)
    (commit_made r f frame) in
    let keeps : Files after = record {
      counted_bounded = subst (λ x. CountedBounded (set_nth r.frames f (committed_frame frame)) x r.last_object
          after.container_done) (sym ids)
          (bounded_committed r.frames f frame r.objects r.last_object w.container_done at (not_idle frame.phase c.0)
          (numbered r s) k.counted_bounded);
      filed = subst (λ cs. FilesCounted (set_nth r.frames f (committed_frame frame)) after.files cs
          after.container_done) (sym (append-nil _))
          (stored_committed r.frames f frame w.files w.counted w.container_done mine bytes at den2 held2 k.filed);
      commits = subst (λ x. HasCommits (set_nth r.frames f (committed_frame frame)) x r.last_object after.files
          after.counted after.container_done) (sym ids)
          (subst (λ cs. HasCommits (set_nth r.frames f (committed_frame frame)) (map id_of r.objects) r.last_object
          after.files cs after.container_done) (sym (append-nil _))
          (commits_committed r.frames f frame r.objects r.last_object w.files w.counted w.container_done bytes
          k.filed.aligned at (not_idle frame.phase c.0) (numbered r s) den2 held2 k.commits));
    } in
    let one : Files (joined (kept_commit w f frame saved (commit_made r f frame).counted bytes)
    (commit_made r f frame)) =
    subst (λ x. Files (joined (kept_commit w f frame x (commit_made r f frame).counted bytes)
    (commit_made r f frame))) ps keeps in
    let two : Files (joined (kept_commit w f frame saved t.counted bytes) t) =
    subst (λ x. Files (joined (kept_commit w f frame saved x.counted bytes) x)) c.1 one in
    subst Files (ok_is _ v e) two

files_done : (w : World) (f : ℕ) (bytes : List ℕ) (frame : Option Frame) (told : Result FrameDocument ContainerFault)
    (counted : Result Took ContainerFault) (v : World) → Steady w.rec → Files w → nth w.rec.frames f ≡ frame
    → image w.rec f ≡ told → ((x : Frame) → nth w.rec.frames f ≡ Some x → IsCommitOf w.rec f x counted)
    → HoldsDocument w f bytes → done_with w f bytes frame told counted ≡ Ok v → Files v
files_done w f bytes None told counted v s k at im commits den e = cc
files_done w f bytes (Some frame) (Err fault) counted v s k at im commits den e = cc
files_done w f bytes (Some frame) (Ok saved) counted v s k at im commits den e =
    (let d = den saved im in files_committed w f bytes frame saved counted v s k at im (commits frame at) d.0 d.1 e)

-- a step that happens only where it is taken
files_only : (w : World) (told : Result Took ContainerFault) (v : World) → Files w
    → ((t : Took) → told ≡ Ok t → IsQuiet w.rec t) → only_taken w told ≡ Ok v → Files v
files_only w (Err fault) v k q e = cc
files_only w (Ok t) v k q e = subst Files (ok_is _ v e) (files_quiet w t k (q t refl))

failed_quiet : (r : Record) (f : ℕ) (t : Took) → commit_failed r f ≡ Ok t → IsQuiet r t
failed_quiet r f t e = (let h = is_failed r f t e in
    subst (IsQuiet r) h.made (doubt_quiet r f h.frame h.there (not_idle h.frame.phase (inl h.phase))))

lost_quiet : (r : Record) (f : ℕ) (t : Took) → resolve r f false ≡ Ok t → IsQuiet r t
lost_quiet r f t e = (let h = is_dropped r f t e in subst (IsQuiet r) h.made (drop_quiet r f h.frame h.there))

files_resolved : (w : World) (choice : Choice) (f : ℕ) (is_kept : Bool) (v : World) → Steady w.rec → Files w
    → MakesDocument w choice (event.Resolve f is_kept) → resolved w f is_kept choice.file ≡ Ok v → Files v
files_resolved w choice f true v s k im e = files_done w f choice.file (nth w.rec.frames f)
    (image w.rec f) (resolve w.rec f true) v s k refl refl (λ x at. kept_commits w.rec f x at) im e
files_resolved w choice f false v s k im e = files_only w (resolve w.rec f false) v k (lost_quiet w.rec f) e

-- what may be chosen for an event makes a file of a document, if any
pub images_make : (w : World) (choice : Choice) (e : Event) → MayChoose w choice e → MakesDocument w choice e
images_make w choice (event.Command c) im = tt
images_make w choice (event.Deliver p) im = tt
images_make w choice (event.Forge inc m) im = tt
images_make w choice (event.Crash s inc) im = tt
images_make w choice (event.Reap inc) im = tt
images_make w choice (event.Scribble s inc act) im = tt
images_make w choice (event.Ask s inc act) im = tt
images_make w choice (event.Done f) im = im
images_make w choice (event.Fail f) im = tt
images_make w choice (event.Resolve f true) im = im
images_make w choice (event.Resolve f false) im = tt
images_make w choice (event.Open name x y) im = tt

pub files_happened : (w : World) (choice : Choice) (e : Event) (v : World) → Steady w.rec → Files w
    → MakesDocument w choice e → happened w choice e ≡ Ok v → Files v
files_happened w choice (event.Command c) v s k im e =
    subst Files (ok_is _ v e) (files_commanded w c (on_command w.rec c) k (λ t g. files_command w c t s k g))
files_happened w choice (event.Deliver p) v s k im e = files_deliver w p (nth w.sent p) v k e
files_happened w choice (event.Forge inc m) v s k im e = files_forge w inc m (nth w.instances inc) v k e
files_happened w choice (event.Crash s inc) v st k im e = files_crash w inc (nth w.instances inc) v k
    (in_run_ok w s (crash w inc (nth w.instances inc)) v e)
files_happened w choice (event.Reap inc) v s k im e = files_reap w inc (nth w.instances inc) v k e
files_happened w choice (event.Scribble s inc act) v st k im e =
    files_scribble w inc act (nth w.instances inc) v k
    (in_run_ok w s (scribble w inc act (nth w.instances inc)) v e)
files_happened w choice (event.Ask s inc act) v st k im e = files_ask w inc act (nth w.instances inc) v k
    (in_run_ok w s (ask w inc act (nth w.instances inc)) v e)
files_happened w choice (event.Done f) v s k im e = files_done w f choice.file (nth w.rec.frames f) (image w.rec f)
    (commit_done w.rec f) v s k refl refl (λ x at. done_commits w.rec f x at) im e
files_happened w choice (event.Fail f) v s k im e = files_only w (commit_failed w.rec f) v k (failed_quiet w.rec f) e
files_happened w choice (event.Resolve f is_kept) v s k im e = files_resolved w choice f is_kept v s k im e
files_happened w choice (event.Open name x y) v s k im e =
    subst Files (ok_is _ v e) (files_told w (opened w.rec name x y choice.given) k
    (λ t g. files_opened w name x y choice.given t s k g))

pub limited_ok : (w : World) (told : Result World Stop) (v : World) → limited w told ≡ Ok v → told ≡ Ok v
limited_ok w (Err stop) v e = cc
limited_ok w (Ok u) v e =
    elim (nat_le MOST_EVENTS (length w.answers)) as (λ b. ◌≡◌ {A = Result World Stop}
    (if b then Err EventLimit else Ok u) (Ok v) → ◌≡◌ {A = Result World Stop} (Ok u) (Ok v)) [
      | true ↦
          (λ g. cc)
      | false ↦ (λ g. g)
    ] e

-- the commits of a world
pub commits_kept : (w : World) → (k : Files w) → IsCounted w k.commits.commits
commits_kept w k = record {
  entries = k.commits.entries;
  last = k.commits.last;
  placed = λ c g. (let p = k.commits.bounded.placed c g in (p.0, p.1, (k.commits.bounded.below c p.0 g p.1).last));
  in_turn = k.commits.bounded.in_turn;
  owned = λ c p o g h e. k.commits.bounded.owned (id_of o) c p
      (among_map id_of w.rec.objects o (find_among (is_object p.object) w.rec.objects o e)) g h
      (sym (eqb-true o.number p.object (find_passes (is_object p.object) w.rec.objects o e)));
}
