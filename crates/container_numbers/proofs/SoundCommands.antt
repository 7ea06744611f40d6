-- Commands leave a record sound.
use Rattle.std.proofs.Common.{◌≡◌, ◌≤◌, ◌<◌, ◌+◌, ◌==◌, ℕ, zero, suc, Bool, true, false, List, [], ◌∷◌, ◌++◌, length}
use Rattle.std.proofs.Common.{map, Option, Some, None, Ok, refl, sym, ◌∙◌, ap, subst, arith, if◌then◌else◌, slice_get}
use Rattle.std.proofs.lemmas.Bool.{eqb-false}
use Rattle.std.proofs.lemmas.List.{length-append}
use Rattle.std.specs.Prelude.{nat_lt}
use Rattle.std.specs.List.{AllByRecursion}
use Rattle.message_values.specs.Found.{find, put, set_nth}
use Rattle.message_values.specs.declared.operation.Operation.{Operation}
use Rattle.message_values.specs.declared.operation.Operation.TheVariants.{Edit, Save}
use Rattle.container_model.specs.declared.record.Link.{Link}
use Rattle.container_model.specs.declared.record.Object.{Object}
use Rattle.container_model.specs.declared.record.Frame.{Frame}
use Rattle.container_model.specs.declared.command.Command.{Command}
use Rattle.container_model.specs.Record.{Record, Took, MARGIN, asked_link, asked_object, has_numbers, is_object}
use Rattle.container_model.specs.Record.{link_has_numbers, with_object, without_first}
use Rattle.container_model.specs.Room.{HasNumbers, IfLinked, IsRoomy, debt_in}
use Rattle.container_model.specs.Commands
use Rattle.container_queues.specs.Steady.{Steady}
use Rattle.container_steady.proofs.SteadyCounts.{each_without}
use Rattle.container_queues.proofs.SteadyLookups.{each_append, each_set, each_weaker, nth-set_other, pairs_map}
use Rattle.container_steady.proofs.SteadyTells.{if_told}
use Rattle.container_steady.specs.Made.{IsMade, makes_activation, makes_edit, makes_end, makes_fewer, makes_frame}
use Rattle.container_steady.specs.Made.{makes_nothing, makes_object, makes_save, makes_server, makes_steps}
use Rattle.container_steady.specs.Made.{makes_taking, run_by}
use Rattle.container_steady.specs.Taken.{edited}
use Rattle.container_steady.proofs.Taken.{command_made}
use Rattle.container_model.specs.Commands.{on_command}
use Rattle.container_numbers.proofs.SoundAsking.{debts_few, link_checked, one_asked}
use Rattle.container_numbers.proofs.SoundHandOffs.{asked_number, hand_off_in_within}
use Rattle.container_numbers.proofs.SoundRooms.{Differs, IsSaved, Owing, Within, all_of, debts, each_of, length-set_nth}
use Rattle.container_numbers.proofs.SoundRooms.{owes_less, put_within, sound_of, within_of}
use Rattle.container_numbers.proofs.SoundSaves.{settled_sound}
use Rattle.container_numbers.proofs.SoundVerbs.{claiming_sound, row_sound}

-- ---- a new frame: nobody owes anything for it
get_more : (n : ℕ) (frames : List Frame) (frame : Frame) (i : ℕ) → debt_in n (Some frame) ≡ 0
    → debt_in n (slice_get (frames ++ frame ∷ []) i) ≡ debt_in n (slice_get frames i)
get_more n [] frame zero e = e
get_more n [] frame (suc i) e = refl
get_more n (x ∷ xs) frame zero e = refl
get_more n (x ∷ xs) frame (suc i) e = get_more n xs frame i e

debts_more : (frames : List Frame) (frame : Frame) → ((n : ℕ) → debt_in n (Some frame) ≡ 0) → (n f : ℕ)
    → debts (frames ++ frame ∷ []) n f ≡ debts frames n f
debts_more frames frame e n zero = refl
debts_more frames frame e n (suc i) = get_more n frames frame i (e n)

pub frame_sound : {Greatest : ℕ → Type 0} (r : Record) (frame : Frame) → HasNumbers Greatest r
    → length r.frames < r.numbers → frame.k ≤ r.numbers → ((n : ℕ) → debt_in n (Some frame) ≡ 0)
    → HasNumbers Greatest (record r { frames = r.frames ++ frame ∷ [] })
frame_sound r frame h lt k none =
    let frames = r.frames ++ frame ∷ [] in
    record {
      limit = h.limit;
      room = all_of (Owing r.numbers (debts frames)) r.objects
          (each_weaker (Owing r.numbers (debts r.frames)) (Owing r.numbers (debts frames)) r.objects
          (λ o w. owes_less r.numbers (debts r.frames) (debts frames) o
          (let e = debts_more r.frames frame none o.number o.frame in omega arith) w)
          (each_of (Owing r.numbers (debts r.frames)) r.objects h.room));
      saves = all_of (IsSaved r.numbers) frames
          (each_append (IsSaved r.numbers) r.frames frame (each_of (IsSaved r.numbers) r.frames h.saves) k);
      frames = (let e = length-append r.frames (frame ∷ []) in omega arith);
      servers = h.servers;
      objects = h.objects;
      acts = h.acts;
      grants = h.grants;
    }

-- ---- a new object has no activation
pub object_sound : {Greatest : ℕ → Type 0} (r : Record) (a : Object) → HasNumbers Greatest r → a.link ≡ None
    → r.last_object < r.numbers
    → HasNumbers Greatest (record r { objects = r.objects ++ a ∷ []; last_object = r.last_object + 1 })
object_sound r a h none lt = record {
  limit = h.limit;
  room = all_of (Owing r.numbers (debts r.frames)) (r.objects ++ a ∷ [])
      (each_append (Owing r.numbers (debts r.frames)) r.objects a
      (each_of (Owing r.numbers (debts r.frames)) r.objects h.room)
      (subst (IfLinked (IsRoomy r.numbers (debts r.frames a.number a.frame))) (sym none) tt));
  saves = h.saves;
  frames = h.frames;
  servers = h.servers;
  objects = omega arith;
  acts = h.acts;
  grants = h.grants;
}

-- ---- a new server
server_sound : {Greatest : ℕ → Type 0} (r : Record) → HasNumbers Greatest r → length r.servers < r.numbers
    → HasNumbers Greatest (record r { servers = r.servers ++ false ∷ [] })
server_sound r h lt = record {
  limit = h.limit;
  room = h.room;
  saves = h.saves;
  frames = h.frames;
  servers = (let e = length-append r.servers (false ∷ []) in omega arith);
  objects = h.objects;
  acts = h.acts;
  grants = h.grants;
}

-- ---- a new activation has the margin before it
margin_left : (numbers : ℕ) → nat_lt numbers MARGIN ≡ false → 8 ≤ numbers
margin_left numbers e = grind arith

begun_roomy : (numbers more session inc act : ℕ) (op : Operation) → nat_lt numbers MARGIN ≡ false → more ≤ 4
    → IsRoomy numbers more (Commands.begun_link session inc act op)
begun_roomy numbers more session inc act op e few = record {
  calls = (let m = margin_left numbers e in omega arith);
  grants = omega arith;
}

run_made_sound : {Greatest : ℕ → Type 0} (r : Record) (o : Object) (inc : ℕ) → Steady r → HasNumbers Greatest r
    → find (is_object o.number) r.objects ≡ Some o → nat_lt r.numbers MARGIN ≡ false → r.last_act < r.numbers
    → HasNumbers Greatest (Commands.run_made r o inc).rec
run_made_sound {Greatest} r o inc s h found margin lt =
    let x : Object =
    record o {
      link = Some (Commands.begun_link r.session inc (r.last_act + 1)
          (Commands.first_operation o o.work.streams));
    } in
    let u : Record = record r { objects = put (is_object o.number) x r.objects } in
    let w : Within Greatest (debts r.frames) u = put_within r (debts r.frames) (debts r.frames) x o
    (within_of r s h) found (λ m f ne. omega arith)
    (begun_roomy r.numbers (debts r.frames o.number o.frame) r.session inc (r.last_act + 1)
    (Commands.first_operation o o.work.streams) margin (debts_few r.frames o.number o.frame)) refl in
    let k : HasNumbers Greatest u = sound_of u w in
    record {
      limit = k.limit;
      room = k.room;
      saves = k.saves;
      frames = k.frames;
      servers = k.servers;
      objects = k.objects;
      acts = omega arith;
      grants = k.grants;
    }

-- ---- an edit is asked after a check
edited_sound : {Greatest : ℕ → Type 0} (r : Record) (o : Object) (l : Link) (bytes : List ℕ) → Steady r
    → HasNumbers Greatest r → find (is_object o.number) r.objects ≡ Some o → o.link ≡ Some l
    → has_numbers r.numbers l ≡ true → HasNumbers Greatest (edited r o l bytes).rec
edited_sound {Greatest} r o l bytes s h found is has =
    subst (λ (z : Option Link). HasNumbers Greatest (with_object r (record o { link = asked_link (Edit bytes) z }))) is
    (sound_of (Commands.edit_made r o bytes).rec
    (one_asked r (debts r.frames) o (Edit bytes) (within_of r s h) found
    (ap (link_has_numbers r.numbers) is ∙ has) (debts_few r.frames o.number o.frame)))

-- ---- a save asks each object of its frame after a check
have_one : (b has rest : Bool) → (if b then (if has then rest else false) else rest) ≡ true → b ≡ true → has ≡ true
have_one true true rest e t = refl
have_one true false rest e t = absurd (cc)
have_one false has rest e t = absurd (cc)

have_rest : (b has rest : Bool) → (if b then (if has then rest else false) else rest) ≡ true → rest ≡ true
have_rest true true rest e = e
have_rest true false rest e = absurd (cc)
have_rest false has rest e = e

module _ (numbers : ℕ) (frames : List Frame) (f : ℕ) (op : Operation) (next : Frame) where
  abbrev after : List Frame
  after = set_nth frames f next

  room_one : (o : Object) → ((o.frame == f) ≡ true → link_has_numbers numbers o.link ≡ true)
      → Owing numbers (debts frames) o → Owing numbers (debts after) (asked_object f op o)
  room_one o has h = if_told (Owing numbers (debts after)) (o.frame == f) (record o { link = asked_link op o.link }) o
      (λ t. link_checked numbers (debts frames o.number o.frame) (debts after o.number o.frame) op o.link (has t)
      (debts_few after o.number o.frame) h)
      (λ t. subst (λ (m : ℕ). IfLinked (IsRoomy numbers m) o.link)
      (ap (debt_in o.number) (sym (nth-set_other frames f o.frame next (λ q. eqb-false o.frame f t (sym q)))))
      h)

  pub room_all : (os : List Object) → Commands.all_have_numbers f numbers os ≡ true
      → AllByRecursion (Owing numbers (debts frames)) os → AllByRecursion (Owing numbers (debts after))
      (map (asked_object f op) os)
  room_all [] e h = tt
  room_all (o ∷ os) e h = (
    room_one o (have_one (o.frame == f) (link_has_numbers numbers o.link) (Commands.all_have_numbers f numbers os)
        e) h.0,
    room_all os (have_rest (o.frame == f) (link_has_numbers numbers o.link) (Commands.all_have_numbers f numbers os)
        e) h.1,
  )

saving_within : {Greatest : ℕ → Type 0} (r : Record) (f : ℕ) (frame : Frame) (raised : Option ℕ)
    (asked : Option (List ℕ)) → Within Greatest (debts r.frames) r → frame.k < r.numbers
    → Commands.all_have_numbers f r.numbers r.objects ≡ true
    → Within Greatest (debts (Commands.saving r f frame raised asked).frames)
    (Commands.saving r f frame raised asked)
saving_within r f frame raised asked h lt has =
    let op : Operation = Save (frame.k + 1) in
    let next : Frame = Commands.saving_frame raised asked frame in
    record {
      limit = h.limit;
      room = room_all r.numbers r.frames f op next r.objects has h.room;
      saves = each_set (IsSaved r.numbers) r.frames f next h.saves (omega arith);
      frames = (let e = length-set_nth r.frames f next in let few = h.frames in omega arith);
      servers = h.servers;
      objects = h.objects;
      acts = h.acts;
      grants = h.grants;
      apart = pairs_map Differs (asked_object f op) r.objects
          (λ x y k q. k (sym (asked_number f op x) ∙ (q ∙ asked_number f op y))) h.apart;
    }

-- and where all are passive it goes on at once
saved_sound : {Greatest : ℕ → Type 0} (r : Record) (f : ℕ) (frame : Frame) (raised : Option ℕ)
    (asked : Option (List ℕ)) → Within Greatest (debts r.frames) r → frame.k < r.numbers
    → Commands.all_have_numbers f r.numbers r.objects ≡ true
    → HasNumbers Greatest (Commands.save_made r f frame raised asked).rec
saved_sound r f frame raised asked h lt has = settled_sound (Commands.saving_on r f frame raised asked).rec
    (hand_off_in_within (Commands.saving r f frame raised asked) f (saving_within r f frame raised asked h lt has))

-- ---- an object goes
deleted_sound : {Greatest : ℕ → Type 0} (r : Record) (o : Object) → HasNumbers Greatest r
    → HasNumbers Greatest (record r { objects = without_first (is_object o.number) r.objects })
deleted_sound r o h = record {
  limit = h.limit;
  room = all_of (Owing r.numbers (debts r.frames)) (without_first (is_object o.number) r.objects)
      (each_without (Owing r.numbers (debts r.frames)) (is_object o.number) r.objects
      (each_of (Owing r.numbers (debts r.frames)) r.objects h.room));
  saves = h.saves;
  frames = h.frames;
  servers = h.servers;
  objects = h.objects;
  acts = h.acts;
  grants = h.grants;
}

-- ---- whatever a command makes of it leaves a record sound
made_sound : {Greatest : ℕ → Type 0} (r : Record) (ns : List ℕ) (t : Took) → Steady r → HasNumbers Greatest r
    → IsMade r t ns → HasNumbers Greatest t.rec
made_sound {Greatest} r _ t s h (makes_nothing made) = subst (λ (z : Took). HasNumbers Greatest z.rec) made h
made_sound {Greatest} r _ t s h (makes_frame name w k new made) =
    subst (λ (z : Took). HasNumbers Greatest z.rec) made
    (frame_sound r (Commands.new_frame name w k) h new.numbers (omega arith) (λ n. refl))
made_sound {Greatest} r _ t s h (makes_object f kind area at made) =
    subst (λ (z : Took). HasNumbers Greatest z.rec) made
    (object_sound r (Commands.new_object (r.last_object + 1) f (Commands.kind_of kind) area) h refl at.numbers)
made_sound {Greatest} r _ t s h (makes_fewer n at passive made) =
    subst (λ (z : Took). HasNumbers Greatest z.rec) made (deleted_sound r at.object h)
made_sound {Greatest} r _ t s h (makes_server started made) = subst (λ (z : Took). HasNumbers Greatest z.rec) made
    (server_sound r h started.numbers)
made_sound {Greatest} r _ t s h (makes_end inc alive made) = subst (λ (z : Took). HasNumbers Greatest z.rec) made h
made_sound {Greatest} r _ t s h (makes_activation n inc at run made) =
    subst (λ (z : Took). HasNumbers Greatest z.rec) made
    (run_made_sound r at.object inc s h at.own run.margin run.numbers)
made_sound {Greatest} r _ t s h (makes_edit n bytes go small has made) =
    subst (λ (z : Took). HasNumbers Greatest z.rec) made
    (edited_sound r go.at.object go.link bytes s h go.at.own go.linked has)
made_sound {Greatest} r _ t s h (makes_save f raised name at raising other made) =
    subst (λ (z : Took). HasNumbers Greatest z.rec) made
    (saved_sound r f at.frame raised name (within_of r s h) at.numbers at.calls)
made_sound {Greatest} r _ t s h (makes_steps n go ts has row made) =
    subst (λ (z : Took). HasNumbers Greatest z.rec) made
    (row_sound r go.at.object go.at.frame go.link (within_of r s h) go.at.own go.at.inside go.linked has ts row)
made_sound {Greatest} r _ t s h (makes_taking n go ts taking made) =
    subst (λ (z : Took). HasNumbers Greatest z.rec) made
    (claiming_sound r go.at.object go.at.frame go.link (within_of r s h) go.at.own go.at.inside go.linked
    taking.numbers ts taking)

pub commands_keep : {Greatest : ℕ → Type 0} (r : Record) (c : Command) (t : Took) → Steady r → HasNumbers Greatest r
    → on_command r c ≡ Ok t → HasNumbers Greatest t.rec
commands_keep r c t s h e = made_sound r (run_by c) t s h (command_made r c t e)
