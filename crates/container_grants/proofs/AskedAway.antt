-- Objects that are asked one after the other to give their storages away.
use Rattle.std.proofs.Common.{◌≡◌, ◌+◌, ◌≤◌, ◌<◌, ◌++◌, ◌==◌, ℕ, zero, suc, Bool, true, false, List, [], ◌∷◌, Option}
use Rattle.std.proofs.Common.{Some, None, length, map, take, drop, get_or, refl, ap, sym, ◌∙◌, append_assoc, arith}
use Rattle.std.proofs.Common.{subst, slice_get, inl, inr, ◌⊎◌}
use Rattle.std.proofs.lemmas.List.{length-set, append-nil, drop-drop, drop-set-lt, drop_all, drop_more, length-append}
use Rattle.std.proofs.lemmas.List.{length-map, map-append}
use Rattle.std.proofs.lemmas.Bool.{eqb-true}
use Rattle.std.proofs.Math.Numerals.{add-one}
use Rattle.std.proofs.lemmas.Option.{same_Some, slice_get-get_or}
use Rattle.std.proofs.Math.ListN.{set}
use Rattle.std.specs.Prelude.{IfSome, slice_set}
use Rattle.message_values.specs.Found.{nth, set_nth}
use Rattle.message_values.specs.declared.operation.Operation.{Operation}
use Rattle.message_values.specs.declared.operation.Operation.TheVariants.{HandsOff}
use Rattle.container_model.specs.declared.answer.Action.{Action}
use Rattle.container_model.specs.declared.answer.Action.TheVariants.{Send}
use Rattle.container_model.specs.declared.record.Frame.{Frame}
use Rattle.container_model.specs.declared.record.Link.{Link}
use Rattle.container_model.specs.declared.record.Object.{Object}
use Rattle.container_model.specs.declared.record.Phase.{Phase}
use Rattle.container_model.specs.declared.record.Phase.TheVariants.{Idle, Saving, HandingOff, Committing, InDoubt}
use Rattle.container_model.specs.Grants.{Requested, further}
use Rattle.message_values.specs.declared.message.Message.{Message}
use Rattle.container_model.specs.HandOffs.{hand_off_at, hand_off_each, hand_off_in, handed_off, handing_frame}
use Rattle.container_model.specs.HandOffs.{hands_off, hands_off_at, unasked}
use Rattle.container_model.specs.Numbered.{IsNth}
use Rattle.container_model.specs.Record.{Record, ask_at, empty, asked_all, asked_link, asked_object, asked_sent, sends}
use Rattle.container_model.specs.Saves.{awaits}
use Rattle.container_grants.specs.Places.{AllHavePlaces, HasPlace, HavePlaces, free, free_at, free_link, is_leaving}
use Rattle.container_grants.specs.Places.{is_leaving_at, sent_by}
use Rattle.container_grants.specs.declared.rooms.FrameRooms.{FrameRooms}
use Rattle.container_grants.specs.declared.rooms.Room.{Room}

-- a room for each object
pub places_length : (more f : ℕ) (os : List Object) (rooms : List Room) → HavePlaces more f os rooms
    → length rooms ≡ length os
places_length more f [] [] h = refl
places_length more f [] (room ∷ rooms) h = absurd h
places_length more f (o ∷ os) [] h = absurd h
places_length more f (o ∷ os) (room ∷ rooms) h = ap suc (places_length more f os rooms h.1)

pub places_end : (more f : ℕ) (os : List Object) (rooms : List Room) → os ≡ [] → rooms ≡ [] → HavePlaces more f os rooms
places_end more f os rooms o r = rw (o, r) tt

-- what is sent to the first object, and to the others
sent_first : (f : ℕ) (op : Operation) (o : Object) (os : List Object) (b : Bool) → o.frame == f ≡ b
    → asked_all f op (o ∷ os) ≡ sent_by f op o ++ asked_all f op os
sent_first f op o os true e = rw e refl
sent_first f op o os false e = rw e refl

pub sent_more : (f : ℕ) (op : Operation) (o : Object) (os : List Object)
    → sends (asked_all f op (o ∷ os)) ≡ sends (sent_by f op o) ++ sends (asked_all f op os)
sent_more f op o os = ap sends (sent_first f op o os (o.frame == f) refl)
    ∙ map-append Send (sent_by f op o) (asked_all f op os)

-- each call that is sent is to an activation that had none pending
free_asked_at : (op : Operation) (l : Link) (p : Option Operation) → l.pending ≡ p
    → length (ask_at l op p).sent + free_at (ask_at l op p).link.pending ≡ free_at p
free_asked_at op l None e = refl
free_asked_at op l (Some before) e = rw e refl

free_asked_link : (op : Operation) (link : Option Link) → length (asked_sent op link)
    + free_link (asked_link op link) ≡ free_link link
free_asked_link op None = refl
free_asked_link op (Some l) = free_asked_at op l l.pending refl

free_asked_one : (f : ℕ) (op : Operation) (o : Object) (b : Bool) → o.frame == f ≡ b
    → length (sent_by f op o) + free_link (asked_object f op o).link ≡ free_link o.link
free_asked_one f op o true e = rw e (free_asked_link op o.link)
free_asked_one f op o false e = rw e (omega arith)

pub free_asked : (f : ℕ) (op : Operation) (os : List Object)
    → length (asked_all f op os) + free (map (asked_object f op) os) ≡ free os
free_asked f op [] = refl
free_asked f op (o ∷ os) =
    let one = free_asked_one f op o (o.frame == f) refl in
    let others = free_asked f op os in
    let split : length (asked_all f op (o ∷ os)) ≡ length (sent_by f op o) + length (asked_all f op os) =
    ap length (sent_first f op o os (o.frame == f) refl) ∙ length-append (sent_by f op o) (asked_all f op os) in
    omega arith

free_one_at : (p : Option Operation) → free_at p ≤ 1
free_one_at None = omega arith
free_one_at (Some op) = omega arith

free_one : (link : Option Link) → free_link link ≤ 1
free_one None = omega arith
free_one (Some l) = free_one_at l.pending

pub free_few : (os : List Object) → free os ≤ length os
free_few [] = omega arith
free_few (o ∷ os) = let others = free_few os in let one = free_one o.link in omega arith

-- one more object has been asked
at_same : (g : Object → Object) (ys : List Object) (i : ℕ) (d : Object) → i < length ys
    → get_or (map g (take i ys) ++ drop i ys) i d ≡ get_or ys i d
at_same g [] i d lt = absurd (omega arith)
at_same g (y ∷ ys) zero d lt = refl
at_same g (y ∷ ys) (suc i) d lt = at_same g ys i d (omega arith)

read_same : (g : Object → Object) (ys zs : List Object) (i : ℕ) (d : Object) → zs ≡ map g (take i ys) ++ drop i ys
    → i < length ys → get_or zs i d ≡ get_or ys i d
read_same g ys zs i d e lt = ap (λ xs. get_or xs i d) e ∙ at_same g ys i d lt

-- what is left once the first is taken
pub left_more : (rs rooms : List Room) (i : ℕ) (q : Room) → drop i rooms ≡ drop i rs
    → drop (i + 1) (set rooms i q) ≡ drop (i + 1) rs
left_more rs rooms i q e = drop-set-lt (i + 1) rooms i q (omega arith)
    ∙ (sym (drop-drop 1 i rooms) ∙ (ap (drop 1) e ∙ drop-drop 1 i rs))

places_rest : (more f : ℕ) (os : List Object) (rooms : List Room) → HavePlaces more f os rooms
    → HavePlaces more f (drop 1 os) (drop 1 rooms)
places_rest more f [] [] h = tt
places_rest more f [] (room ∷ rooms) h = absurd h
places_rest more f (o ∷ os) [] h = absurd h
places_rest more f (o ∷ os) (room ∷ rooms) h = h.1

pub places_more : (more f : ℕ) (os : List Object) (rooms : List Room) (i : ℕ)
    → HavePlaces more f (drop i os) (drop i rooms) → HavePlaces more f (drop (i + 1) os) (drop (i + 1) rooms)
places_more more f os rooms i h = rw (sym (drop-drop 1 i os), sym (drop-drop 1 i rooms))
    (places_rest more f (drop i os) (drop i rooms) h)

pub sent_here : (g : Object → Object) (f : ℕ) (op : Operation) (ys zs : List Object) (i : ℕ) (d : Object)
    (before later all : List Action)
    → zs ≡ map g (take i ys) ++ drop i ys → i < length ys → before ++ sends (asked_all f op (drop i ys)) ≡ all
    → later ≡ before ++ sends (sent_by f op (get_or zs i d))
    → later ++ sends (asked_all f op (drop (i + 1) ys)) ≡ all
sent_here g f op ys zs i d before later all e lt h is =
    ap (λ xs. xs ++ sends (asked_all f op (drop (i + 1) ys)))
    (is ∙ ap (λ o. before ++ sends (sent_by f op o)) (read_same g ys zs i d e lt))
    ∙ (append_assoc before (sends (sent_by f op (get_or ys i d))) (sends (asked_all f op (drop (i + 1) ys)))
    ∙ (ap (λ xs. before ++ xs)
    (sym (ap (λ xs. sends (asked_all f op xs)) (drop_more ys i d lt)
    ∙ sent_more f op (get_or ys i d) (drop (i + 1) ys)))
    ∙ h))

pub few_here : (g : Object → Object) (ys zs : List Object) (i : ℕ) (d : Object) (before later had has : ℕ)
    → zs ≡ map g (take i ys) ++ drop i ys → i < length ys → before + free (drop i ys) ≤ had
    → later ≤ before + free_link (get_or zs i d).link → had ≤ has → later + free (drop (i + 1) ys) ≤ has
few_here g ys zs i d before later had has e lt h few more =
    let split : free (drop i ys) ≡ free_link (get_or ys i d).link + free (drop (i + 1) ys) =
    ap free (drop_more ys i d lt) in
    let same : free_link (get_or zs i d).link ≡ free_link (get_or ys i d).link =
    ap (λ (o : Object). free_link o.link) (read_same g ys zs i d e lt) in
    omega arith

-- room for what is left of none
pub rooms_end : (more f : ℕ) (os : List Object) (i : ℕ) (rooms : List Room) → length os ≤ i
    → ((rest : List Room) → HavePlaces more f (drop i os) rest → HavePlaces more f os (rooms ++ rest))
    → HavePlaces more f os rooms
rooms_end more f os i rooms le h = subst (λ rs. HavePlaces more f os rs) (append-nil rooms)
    (h [] (places_end more f (drop i os) [] (drop_all i os le) refl))

-- a frame that hands off is saving under another name
leaving_at : (phase : Phase) (asked : Option (List ℕ)) (waits : Bool) → hands_off_at phase asked waits ≡ true
    → is_leaving_at phase asked ≡ true
leaving_at Idle asked waits e = absurd (cc)
leaving_at Saving None waits e = absurd (cc)
leaving_at Saving (Some name) waits e = refl
leaving_at HandingOff asked waits e = absurd (cc)
leaving_at Committing asked waits e = absurd (cc)
leaving_at InDoubt asked waits e = absurd (cc)

-- the frame of a number
frame_read : (f at : ℕ) (fs : List Frame) (x : Frame) → IsNth f fs at → x ≡ get_or fs at x → nth fs f ≡ Some x
frame_read f at fs x p e = p.found ∙ (slice_get-get_or fs at x p.fits ∙ ap Some (sym e))

pub places_of : (f at : ℕ) (fs : List Frame) (os : List Object) (rooms : List Room) (x : Frame) → IsNth f fs at
    → x ≡ get_or fs at x
    → IfSome (nth fs f) (λ frame. is_leaving frame ≡ true → HavePlaces 0 f os rooms) → hands_off f os x ≡ true
    → HavePlaces 0 f os rooms
places_of f at fs os rooms x p e h hands =
    subst (λ t. IfSome t (λ frame. is_leaving frame ≡ true → HavePlaces 0 f os rooms)) (frame_read f at fs x p e) h
    (leaving_at x.phase x.asked (awaits f os) hands)

-- what handing off makes of the record, and what is sent
module _ (r : Record) (f at : ℕ) (fs : List Frame) (os : List Object) (x : Frame) (place : IsNth f fs at)
    (read : x ≡ get_or fs at x) (frames : r.frames ≡ fs) (objects : r.objects ≡ os) where
  found : nth r.frames f ≡ Some x
  found = ap (λ xs. nth xs f) frames ∙ frame_read f at fs x place read

  goes : hands_off f os x ≡ true → hand_off_in r f ≡ handed_off r f x
  goes h =
      let e : hands_off f r.objects x ≡ true = ap (λ xs. hands_off f xs x) objects ∙ h in
      ap (hand_off_at r f) found ∙ rw e refl

  pub stays : hands_off f os x ≡ false → hand_off_in r f ≡ unasked r
  stays h =
      let e : hands_off f r.objects x ≡ false = ap (λ xs. hands_off f xs x) objects ∙ h in
      ap (hand_off_at r f) found ∙ rw e refl

  pub stays_sent : (actions : List Action) → hands_off f os x ≡ false
      → actions ≡ actions ++ sends (hand_off_in r f).sent
  stays_sent actions h = sym (append-nil actions) ∙ ap (λ q. actions ++ sends q.sent) (sym (stays h))

  pub handed_is : (y later : Frame) (installed : List Object) → y ≡ get_or fs at y → hands_off f os x ≡ true
      → later ≡ handing_frame y → installed ≡ map (asked_object f HandsOff) os
      → (hand_off_in r f).rec ≡ record r { frames = slice_set fs at later; objects = installed }
  handed_is y later installed again h is asked =
      let same : x ≡ y = same_Some x y (sym (frame_read f at fs x place read) ∙ frame_read f at fs y place again) in
      ap (λ q. q.rec) (goes h)
      ∙ (ap (λ xs. record r { frames = xs; objects = map (asked_object f HandsOff) r.objects })
      (ap (λ xs. set_nth xs f (handing_frame x)) frames
      ∙ (place.puts (handing_frame x) ∙ ap (slice_set fs at) (ap handing_frame same ∙ sym is)))
      ∙ ap (λ xs. record r { frames = slice_set fs at later; objects = xs })
      (ap (map (asked_object f HandsOff)) objects ∙ sym asked))

  pub handed_sent : (before later : List Action) → hands_off f os x ≡ true
      → later ≡ before ++ sends (asked_all f HandsOff os) → later ≡ before ++ sends (hand_off_in r f).sent
  handed_sent before later h is =
      is ∙ ap (λ ms. before ++ sends ms) (sym (ap (λ q. q.sent) (goes h) ∙ ap (asked_all f HandsOff) objects))

-- no more is sent than activations had no call pending
pub few_handed : (f : ℕ) (before later : List Action) (os installed : List Object)
    → later ≡ before ++ sends (asked_all f HandsOff os) → installed ≡ map (asked_object f HandsOff) os
    → length later + free installed ≤ length before + free os
few_handed f before later os installed is asked =
    let sent : length later ≡ length before + length (asked_all f HandsOff os) = ap length is
    ∙ (length-append before (sends (asked_all f HandsOff os)) ∙ ap (λ n. length before + n)
    (length-map (asked_all f HandsOff os) Send)) in
    let left : free installed ≡ free (map (asked_object f HandsOff) os) = ap free asked in
    let all = free_asked f HandsOff os in
    omega arith

-- ---- all frames, by rising number
abbrev rec_of : List Frame → List Object → Record
rec_of fs os = record (empty 0) { frames = fs; objects = os }

-- room for others stays where the objects of a frame are asked
place_kept_at : (more f g : ℕ) (op : Operation) (o : Object) (room : Room) (b : Bool) → o.frame == g ≡ b
    → (g ≡ f → ⊥) → HasPlace more f o room → HasPlace more f (asked_object g op o) room
place_kept_at more f g op o room true e ne h =
    rw e (λ at. absurd (let same : o.frame ≡ g = eqb-true o.frame g e in ne (sym same ∙ at)))
place_kept_at more f g op o room false e ne h = rw e h

places_kept : (more f g : ℕ) (op : Operation) (os : List Object) (rooms : List Room) → (g ≡ f → ⊥)
    → HavePlaces more f os rooms → HavePlaces more f (map (asked_object g op) os) rooms
places_kept more f g op [] [] ne h = tt
places_kept more f g op [] (room ∷ rooms) ne h = absurd h
places_kept more f g op (o ∷ os) [] ne h = absurd h
places_kept more f g op (o ∷ os) (room ∷ rooms) ne h =
    (place_kept_at more f g op o room (o.frame == g) refl ne h.0, places_kept more f g op os rooms ne h.1)

all_kept : (more f g : ℕ) (op : Operation) (frames : List Frame) (os : List Object) (qs : List FrameRooms) → g < f
    → AllHavePlaces more f frames os qs → AllHavePlaces more f frames (map (asked_object g op) os) qs
all_kept more f g op [] os [] lt h = tt
all_kept more f g op [] os (q ∷ qs) lt h = absurd h
all_kept more f g op (frame ∷ frames) os [] lt h = absurd h
all_kept more f g op (frame ∷ frames) os (q ∷ qs) lt h = (
  (λ leaves. places_kept more f g op os q.rooms.items (λ e. absurd (omega arith)) (h.0 leaves)),
  all_kept more (f + 1) g op frames os qs (omega arith) h.1,
)

-- what one frame's turn leaves
record IsTurn (f : ℕ) (fs later : List Frame) (os asked : List Object) : Type 0 where
  pub left : drop f later ≡ drop f fs
  pub len : length later ≡ length fs
  pub objects : (asked ≡ os) ⊎ (asked ≡ map (asked_object f HandsOff) os)

set_left : (fs : List Frame) (f : ℕ) (x : Frame) → drop f (set_nth fs f x) ≡ drop f fs
set_left fs zero x = refl
set_left fs (suc i) x = drop-set-lt (suc i) fs i x (omega arith)

set_len : (fs : List Frame) (f : ℕ) (x : Frame) → length (set_nth fs f x) ≡ length fs
set_len fs zero x = refl
set_len fs (suc i) x = length-set fs i x

turn_if : (r : Record) (f : ℕ) (frame : Frame) (b : Bool) → hands_off f r.objects frame ≡ b
    → IsTurn f r.frames (hand_off_at r f (Some frame)).rec.frames r.objects (hand_off_at r f (Some frame)).rec.objects
turn_if r f frame true e =
    rw e (record {
      left = set_left r.frames f (handing_frame frame);
      len = set_len r.frames f (handing_frame frame);
      objects = inr refl;
    })
turn_if r f frame false e = rw e (record { left = refl; len = refl; objects = inl refl })

turn_at : (r : Record) (f : ℕ) (found : Option Frame) → IsTurn f r.frames (hand_off_at r f found).rec.frames
    r.objects (hand_off_at r f found).rec.objects
turn_at r f None = record { left = refl; len = refl; objects = inl refl }
turn_at r f (Some frame) = turn_if r f frame (hands_off f r.objects frame) refl

turn : (f : ℕ) (fs later : List Frame) (os asked : List Object)
    → ((r : Record) → r.frames ≡ fs → r.objects ≡ os → (hand_off_in r f).rec
    ≡ record r { frames = later; objects = asked }) → IsTurn f fs later os asked
turn f fs later os asked h =
    let e : (hand_off_in (rec_of fs os) f).rec ≡ rec_of later asked = h (rec_of fs os) refl refl in
    let t : IsTurn f fs (hand_off_in (rec_of fs os) f).rec.frames os (hand_off_in (rec_of fs os) f).rec.objects =
    turn_at (rec_of fs os) f (nth fs f) in
    subst (λ (q : Record). IsTurn f fs q.frames os q.objects) e t

-- what is left once a frame had its turn
pub frames_left : (first fs later : List Frame) (os asked : List Object) (i : ℕ) → drop i fs ≡ drop i first
    → ((r : Record) → r.frames ≡ fs → r.objects ≡ os → (hand_off_in r (i + 1)).rec
    ≡ record r { frames = later; objects = asked }) → drop (i + 1) later ≡ drop (i + 1) first
frames_left first fs later os asked i e h = (turn (i + 1) fs later os asked h).left
    ∙ (sym (drop-drop 1 i fs) ∙ (ap (drop 1) e ∙ drop-drop 1 i first))

all_rest : (more f : ℕ) (frames rest : List Frame) (os : List Object) (q : FrameRooms) (qs : List FrameRooms)
    (x : Frame) → frames ≡ x ∷ rest → AllHavePlaces more f frames os (q ∷ qs)
    → (is_leaving x ≡ true → HavePlaces more f os q.rooms.items) × AllHavePlaces more (f + 1) rest os qs
all_rest more f frames rest os q qs x e h = subst (λ fs. AllHavePlaces more f fs os (q ∷ qs)) e h

all_turned : (f : ℕ) (frames : List Frame) (os asked : List Object) (qs : List FrameRooms) → (asked ≡ os)
    ⊎ (asked ≡ map (asked_object f HandsOff) os) → AllHavePlaces 0 (f + 1) frames os qs
    → AllHavePlaces 0 (f + 1) frames asked qs
all_turned f frames os asked qs (inl e) h = subst (λ xs. AllHavePlaces 0 (f + 1) frames xs qs) (sym e) h
all_turned f frames os asked qs (inr e) h = subst (λ xs. AllHavePlaces 0 (f + 1) frames xs qs) (sym e)
    (all_kept 0 (f + 1) f HandsOff frames os qs (omega arith) h)

-- (of these frames the next one stands at i)
fits_next : (frames : List Frame) (os : List Object) (q : FrameRooms) (qs : List FrameRooms) (more f i : ℕ)
    → AllHavePlaces more f (drop i frames) os (q ∷ qs) → i < length frames
fits_next [] os q qs more f zero h = absurd h
fits_next [] os q qs more f (suc i) h = absurd h
fits_next (x ∷ frames) os q qs more f zero h = omega arith
fits_next (x ∷ frames) os q qs more f (suc i) h = let lt = fits_next frames os q qs more f i h in omega arith

pub fits_place : (frames : List Frame) (os : List Object) (ps qs : List FrameRooms) (q : FrameRooms) (f i : ℕ)
    → ps ≡ q ∷ qs → AllHavePlaces 0 f (drop i frames) os ps → i < length frames
fits_place frames os ps qs q f i e h = fits_next frames os q qs 0 f i
    (subst (λ xs. AllHavePlaces 0 f (drop i frames) os xs) e h)

next_frame : (fs : List Frame) (i : ℕ) → i < length fs → (x : Frame) × (drop i fs ≡ x ∷ drop (i + 1) fs)
next_frame [] i lt = absurd (omega arith)
next_frame (x ∷ fs) i lt = (get_or (x ∷ fs) i x, drop_more (x ∷ fs) i x lt)

pub places_turned : (first fs later : List Frame) (os asked : List Object) (i : ℕ) (ps qs : List FrameRooms)
    (q : FrameRooms) → ps ≡ q ∷ qs → i < length first
    → ((r : Record) → r.frames ≡ fs → r.objects ≡ os → (hand_off_in r (i + 1)).rec
    ≡ record r { frames = later; objects = asked })
    → AllHavePlaces 0 (i + 1) (drop i first) os ps → AllHavePlaces 0 (i + 1 + 1) (drop (i + 1) first) asked qs
places_turned first fs later os asked i ps qs q e lt h all =
    let x = next_frame first i lt in
    all_turned (i + 1) (drop (i + 1) first) os asked qs (turn (i + 1) fs later os asked h).objects
    (all_rest 0 (i + 1) (drop i first) (drop (i + 1) first) os q qs x.0 x.1
    (subst (λ xs. AllHavePlaces 0 (i + 1) (drop i first) os xs) e all)).1

first_of : (fs rest : List Frame) (i : ℕ) (x : Frame) → drop i fs ≡ x ∷ rest → slice_get fs i ≡ Some x
first_of [] rest zero x e = absurd (cc)
first_of [] rest (suc i) x e = absurd (cc)
first_of (y ∷ fs) rest zero x e = ap (λ xs. slice_get xs 0) e
first_of (y ∷ fs) rest (suc i) x e = first_of fs rest i x e

pub places_next : (first fs : List Frame) (os : List Object) (i : ℕ) (ps qs : List FrameRooms) (q : FrameRooms)
    → ps ≡ q ∷ qs → i < length first → drop i fs ≡ drop i first
    → AllHavePlaces 0 (i + 1) (drop i first) os ps
    → IfSome (nth fs (i + 1)) (λ frame. is_leaving frame ≡ true → HavePlaces 0 (i + 1) os q.rooms.items)
places_next first fs os i ps qs q e lt left all =
    let x = next_frame first i lt in
    let at : nth fs (i + 1) ≡ Some x.0 = ap (nth fs) (add-one i) ∙ first_of fs (drop (i + 1) first) i x.0
    (left ∙ x.1) in
    subst (λ t. IfSome t (λ frame. is_leaving frame ≡ true → HavePlaces 0 (i + 1) os q.rooms.items)) (sym at)
    (all_rest 0 (i + 1) (drop i first) (drop (i + 1) first) os q qs x.0 x.1
    (subst (λ xs. AllHavePlaces 0 (i + 1) (drop i first) os xs) e all)).0

module _ (first fs later : List Frame) (os asked : List Object) (i : ℕ) (lt : i < length first)
    (h : (r : Record) → r.frames ≡ fs → r.objects ≡ os → (hand_off_in r (i + 1)).rec
    ≡ record r { frames = later; objects = asked }) (r : Record) where
  abbrev now : Record
  now = record r { frames = fs; objects = os }

  abbrev turned : Record
  turned = record r { frames = later; objects = asked }

  split : ◌≡◌ {A = Requested} (hand_off_each (i + 1) (drop i first) now)
      (further (hand_off_in now (i + 1)) (hand_off_each (i + 1 + 1) (drop (i + 1) first) turned))
  split =
      let x = next_frame first i lt in
      ap (λ xs. hand_off_each (i + 1) xs now) x.1
      ∙ ap (λ q. further (hand_off_in now (i + 1)) (hand_off_each (i + 1 + 1) (drop (i + 1) first) q))
      (h now refl refl)

  pub handed_turn : (last : Record) → (hand_off_each (i + 1) (drop i first) now).rec ≡ last
      → (hand_off_each (i + 1 + 1) (drop (i + 1) first) turned).rec ≡ last
  handed_turn last e = sym (ap (λ q. q.rec) split) ∙ e

  pub sent_turn : (before more all : List Action) → before ++ sends (hand_off_each (i + 1) (drop i first) now).sent
      ≡ all → more ≡ before ++ sends (hand_off_in now (i + 1)).sent
      → more ++ sends (hand_off_each (i + 1 + 1) (drop (i + 1) first) turned).sent ≡ all
  sent_turn before more all e is =
      let rest : List Message = (hand_off_each (i + 1 + 1) (drop (i + 1) first) turned).sent in
      let own : List Message = (hand_off_in now (i + 1)).sent in
      ap (λ xs. xs ++ sends rest) is
      ∙ (append_assoc before (sends own) (sends rest)
      ∙ (ap (λ xs. before ++ xs) (sym (map-append Send own rest))
      ∙ (sym (ap (λ q. before ++ sends q.sent) split) ∙ e)))

-- room for what is left of no frames
pub frames_end : (more : ℕ) (frames : List Frame) (os : List Object) (i : ℕ) (all : List FrameRooms) → length frames ≤ i
    → ((rest : List FrameRooms) → AllHavePlaces more (i + 1) (drop i frames) os rest
    → AllHavePlaces more 1 frames os (all ++ rest)) → AllHavePlaces more 1 frames os all
frames_end more frames os i all le h =
    subst (λ qs. AllHavePlaces more 1 frames os qs) (append-nil all)
    (h [] (subst (λ fs. AllHavePlaces more (i + 1) fs os []) (sym (drop_all i frames le)) tt))

-- no frame is left
pub no_more : {A : Type 0} (xs : List A) (n : ℕ) → n ≡ length xs → n ≡ 0 → xs ≡ []
no_more [] n e z = refl
no_more (x ∷ xs) n e z = absurd (omega arith)

pub count_more : {A : Type 0} (xs ys : List A) (x : A) (n m : ℕ) → n ≡ length xs → xs ≡ x ∷ ys → m + 1 ≡ n
    → m ≡ length ys
count_more xs ys x n m e is less = let l : length xs ≡ length (x ∷ ys) = ap length is in omega arith

none_left : (more f : ℕ) (frames : List Frame) (os : List Object) (qs : List FrameRooms) → qs ≡ []
    → AllHavePlaces more f frames os qs → frames ≡ []
none_left more f [] os qs e h = refl
none_left more f (x ∷ frames) os qs e h = absurd (subst (λ rs. AllHavePlaces more f (x ∷ frames) os rs) e h)

pub handed_done : (first fs : List Frame) (os : List Object) (i : ℕ) (qs : List FrameRooms) (r last : Record)
    → qs ≡ [] → AllHavePlaces 0 (i + 1) (drop i first) os qs
    → (hand_off_each (i + 1) (drop i first) (record r { frames = fs; objects = os })).rec ≡ last
    → last ≡ record r { frames = fs; objects = os }
handed_done first fs os i qs r last e h is =
    sym is ∙ ap (λ xs. (hand_off_each (i + 1) xs (record r { frames = fs; objects = os })).rec)
    (none_left 0 (i + 1) (drop i first) os qs e h)

pub sent_done : (first fs : List Frame) (os : List Object) (i : ℕ) (qs : List FrameRooms) (r : Record)
    (actions all : List Action) → qs ≡ [] → AllHavePlaces 0 (i + 1) (drop i first) os qs
    → actions ++ sends (hand_off_each (i + 1) (drop i first) (record r { frames = fs; objects = os })).sent ≡ all
    → actions ≡ all
sent_done first fs os i qs r actions all e h is =
    sym (ap (λ xs. actions ++ sends (hand_off_each (i + 1) xs (record r { frames = fs; objects = os })).sent)
    (none_left 0 (i + 1) (drop i first) os qs e h) ∙ append-nil actions) ∙ is
