-- What a link has come to by one more step.
use Rattle.std.proofs.Common.{◌*◌, length-append, ◌≡◌, ℕ, List, [], ◌∷◌, ◌++◌, Option, Some, None, refl, sym, ap, subst}
use Rattle.std.proofs.Common.{◌∙◌, arith, ◌<◌, ◌≤◌, ◌+◌, append_assoc, append-nil, cond, Bool, true, false, nat_le}
use Rattle.std.proofs.Common.{length, Err}
use Rattle.std.specs.Io.KnownBytes.{Appends, Consumes}
use Rattle.std.proofs.KnownBytes.{Appends-nil, Appends-trans, Consumes-kept, Consumes-nil, Consumes-trans}
use Rattle.object_core.specs.Content.{Content}
use Rattle.object_core.specs.Kinds.{Kind}
use Rattle.message_values.specs.Found.{find}
use Rattle.message_values.specs.declared.operation.Operation.{Operation}
use Rattle.message_values.specs.declared.message.Message.{Message}
use Rattle.message_values.specs.declared.message.Said.{Said}
use Rattle.message_values.specs.declared.message.Said.TheVariants.{Call, Reply, Write, Ask}
use Rattle.message_model.specs.declared.frame.Frame.{Frame}
use Rattle.message_model.specs.declared.frame.Frame.TheVariants as frame
use Rattle.server_model.specs.Server.{Activation, Server, after_begun, begins, begun_class, begun_content, called}
use Rattle.server_model.specs.Server.{is_act, is_class, is_for, offered, on_said, unknown_call, wanted, wanted_by}
use Rattle.server_model.specs.Server.{wanted_unknown}
use Rattle.server_model.specs.declared.fault.ServerFault.{ServerFault}
use Rattle.server_model.specs.declared.fault.ServerFault.TheVariants as fault
use Rattle.server_core.specs.declared.server.Seat.{Seat}
use Rattle.server_links.specs.Links.{And, HasEnded, HasServed, HasServedAll, IsHandedIn, IsUnderway, IsWaiting, Leaving}
use Rattle.server_links.specs.Links.{MANY_FRAMES, MayOffer, Pauses, Serves, pause_of, turns_in}
use Rattle.server_links.specs.Links.Serves.{none, message, turn}
use Rattle.server_links.specs.Turns.{Turn, answered, given, met, turned}
use Rattle.message_model.specs.declared.fault.WireFault.{WireFault}
use Rattle.server_links.specs.View.{Advances, AppendsFront, Awaits, Counts, IsAt, IsMet, IsOut, IsRead, IsTurned}
use Rattle.server_links.specs.View.{LeavesReader, LeavesWriter, MOST_READS, MOST_TURNS}
use Rattle.server_links.specs.declared.serving.Serving.{Serving}
use Rattle.server_links.specs.declared.serving.Advance.{Advance}
use Rattle.server_links.specs.declared.serving.Advance.TheVariants.{Met, Turned, Read, Wants, Over}
use Rattle.server_links.specs.declared.serving.End.TheVariants.{Faulty, LastRead, Unread, Closed, Unwritten, LastTurn}
use Rattle.server_links.specs.declared.link.Pause.{Pause}
use Rattle.server_links.specs.declared.link.Pause.TheVariants as pause

-- one more frame
pub then_message : {made : List ℕ → Bool} {t u : Turn} {frames : List Frame} {bytes : List ℕ} (m : Message)
    (box : Option Kind) → IsHandedIn made (wanted u.server m) box
    → Serves made t frames bytes u → Serves made t (frames ++ frame.Message m ∷ []) bytes (met u m box)
then_message m box i none = message box i none
then_message m box i (message b j r) = message b j (then_message m box i r)
then_message m box i (turn r) = turn (then_message m box i r)

pub then_turn : {made : List ℕ → Bool} {t u : Turn} {frames : List Frame} {bytes : List ℕ}
    → Serves made t frames bytes u → Serves made t (frames ++ frame.Turn ∷ []) (bytes ++ given u) (turned u)
then_turn {made} {t} none = subst (λ bs. Serves made t (frame.Turn ∷ []) bs (turned t)) (append-nil (given t))
    (turn none)
then_turn (message b j r) = message b j (then_turn r)
then_turn {made} {t} {u} (turn {frames = fs} {bytes = bs} r) =
    subst (λ xs. Serves made t (frame.Turn ∷ (fs ++ frame.Turn ∷ [])) xs (turned u))
    (sym (append_assoc (given t) bs (given u))) (turn (then_turn r))

turns_message : (fs : List Frame) (m : Message) → turns_in (fs ++ frame.Message m ∷ []) ≡ turns_in fs
turns_message [] m = refl
turns_message (frame.Message n ∷ fs) m = turns_message fs m
turns_message (frame.Turn ∷ fs) m = ap (λ n. n + 1) (turns_message fs m)

turns_turn : (fs : List Frame) → turns_in (fs ++ frame.Turn ∷ []) ≡ turns_in fs + 1
turns_turn [] = refl
turns_turn (frame.Message n ∷ fs) = turns_turn fs
turns_turn (frame.Turn ∷ fs) = ap (λ n. n + 1) (turns_turn fs)

abbrev or_else : {A : Type 0} → A → Option A → A
or_else d (Some x) = x
or_else d None = d

some_inside : {A : Type 0} (x y : A) → Some x ≡ Some y → x ≡ y
some_inside x y e = ap (or_else x) e

-- a call that wants an object, and gets none, does nothing
abbrev IsNothing : {A : Type 0} → Option A → Type 0
IsNothing None = Unit {0}
IsNothing (Some x) = ⊥

none_known : {A : Type 0} {x : A} → None ≡ Some x → ⊥
none_known e = subst IsNothing e tt

over_limit : (t : Turn) (m : Message) (b : Bool) (d e : ServerFault) → answered t m (cond b (Err d) (Err e)) ≡ t
over_limit t m true d e = refl
over_limit t m false d e = refl

passed_unknown : (t : Turn) (m : Message) (v : Server) (act : ℕ) (op : Operation) (class : Option (List ℕ))
    → answered t m (unknown_call v act op None class) ≡ t
passed_unknown t m v act op None = refl
passed_unknown t m v act op (Some class) = over_limit t m (nat_le v.numbers (length v.acts)) fault.NumbersSpent
    fault.NeedObject

passed_called : (t : Turn) (m : Message) (v : Server) (act n : ℕ) (op : Operation) (a : Option Activation)
    (class : List ℕ)
    → wanted_unknown v (begun_class n op) a ≡ Some class → answered t m (called v act n op None a) ≡ t
passed_called t m v act n op None class e = passed_unknown t m v act op (begun_class n op)
passed_called t m v act n op (Some a) class e = absurd (none_known e)

passed_call : (t : Turn) (m : Message) (v : Server) (act n : ℕ) (op : Operation) (b : Bool) (class : List ℕ)
    → cond b (wanted_unknown v (begun_class n op) (find (is_act act) v.acts)) None ≡ Some class
    → answered t m (cond b (called v act n op None (find (is_act act) v.acts)) (Err fault.WrongIncarnation)) ≡ t
passed_call t m v act n op true class e = passed_called t m v act n op (find (is_act act) v.acts) class e
passed_call t m v act n op false class e = refl

passed_said : (t : Turn) (m : Message) (session : ℕ) (said : Said) (class : List ℕ)
    → wanted_by t.server session said ≡ Some class → answered t m (on_said t.server session said None) ≡ t
passed_said t m session (Call inc act n op) class e = passed_call t m t.server act n op
    (is_for t.server session inc) class e
passed_said t m session (Reply inc act n told) class e = refl
passed_said t m session (Write inc act s w content) class e = refl
passed_said t m session (Ask inc act g) class e = refl

pub passed : (t : Turn) (m : Message) (class : List ℕ) → wanted t.server m ≡ Some class → met t m None ≡ t
passed t m class e = passed_said t m m.session m.said class e

wanted_in : (made : List ℕ → Bool) (w : Option (List ℕ)) → w ≡ None → IsHandedIn made w None
wanted_in made w e = subst (λ x. IsHandedIn made x None) (sym e) refl

none_in : (made : List ℕ → Bool) (w : Option (List ℕ)) (class : List ℕ) → w ≡ Some class → made class ≡ false
    → IsHandedIn made w None
none_in made w class e n = subst (λ x. IsHandedIn made x None) (sym e) n

-- an object of another class than the one that is wanted makes nothing
module _ (t : Turn) (m : Message) (v : Server) (act : ℕ) (op : Operation) (kind : Kind) (class : List ℕ)
    (other : is_class kind class ≡ false) where
  other_offered : (k : List ℕ) → k ≡ class → answered t m (offered v act k op (Some kind)) ≡ t
  other_offered k e =
      subst (λ b. answered t m (cond b (after_begun v (begins act k op (begun_content kind op)))
      (Err fault.WrongClass)) ≡ t) (sym (ap (is_class kind) e ∙ other)) refl

  other_limit : (b : Bool) (k : List ℕ) → cond b None (Some k) ≡ Some class
      → answered t m (cond b (Err fault.NumbersSpent) (offered v act k op (Some kind))) ≡ t
  other_limit true k e = refl
  other_limit false k e = other_offered k (some_inside k class e)

  other_unknown : (begun : Option (List ℕ)) → wanted_unknown v begun None ≡ Some class
      → answered t m (unknown_call v act op (Some kind) begun) ≡ t
  other_unknown None e = refl
  other_unknown (Some k) e = other_limit (nat_le v.numbers (length v.acts)) k e

  other_called : (n : ℕ) (a : Option Activation) → wanted_unknown v (begun_class n op) a ≡ Some class
      → answered t m (called v act n op (Some kind) a) ≡ t
  other_called n None e = other_unknown (begun_class n op) e
  other_called n (Some a) e = absurd (none_known e)

  other_call : (n : ℕ) (b : Bool) → cond b (wanted_unknown v (begun_class n op) (find (is_act act) v.acts)) None
      ≡ Some class
      → answered t m (cond b (called v act n op (Some kind) (find (is_act act) v.acts))
      (Err fault.WrongIncarnation)) ≡ t
  other_call n true e = other_called n (find (is_act act) v.acts) e
  other_call n false e = refl

other_said : (t : Turn) (m : Message) (session : ℕ) (said : Said) (kind : Kind) (class : List ℕ)
    → is_class kind class ≡ false → wanted_by t.server session said ≡ Some class
    → answered t m (on_said t.server session said (Some kind)) ≡ t
other_said t m session (Call inc act n op) kind class o e = other_call t m t.server act op kind class o n
    (is_for t.server session inc) e
other_said t m session (Reply inc act n told) kind class o e = refl
other_said t m session (Write inc act s w content) kind class o e = refl
other_said t m session (Ask inc act g) kind class o e = refl

other_met : (t : Turn) (m : Message) (kind : Kind) (class : List ℕ) → is_class kind class ≡ false
    → wanted t.server m ≡ Some class → met t m (Some kind) ≡ t
other_met t m kind class o e = other_said t m m.session m.said kind class o e

-- An object for a message that wants one: it is handed in, or it is of another class, and is as none.
pub record Handed (made : List ℕ → Bool) (t : Turn) (m : Message) (kind : Kind) : Type 0 where
  pub box : Option Kind
  pub handed : IsHandedIn made (wanted t.server m) box
  pub same : met t m (Some kind) ≡ met t m box

some_in : (made : List ℕ → Bool) (w : Option (List ℕ)) (class : List ℕ) (kind : Kind) → w ≡ Some class
    → is_class kind class ≡ true → IsHandedIn made w (Some kind)
some_in made w class kind e o = subst (λ x. IsHandedIn made x (Some kind)) (sym e) o

comes_in : (made : List ℕ → Bool) (t : Turn) (m : Message) (kind : Kind) (class : List ℕ)
    → wanted t.server m ≡ Some class → MayOffer made kind class
    → (b : Bool) → is_class kind class ≡ b → Handed made t m kind
comes_in made t m kind class e may true o =
    record { box = Some kind; handed = some_in made (wanted t.server m) class kind e o; same = refl }
comes_in made t m kind class e may false o =
    record {
      box = None;
      handed = none_in made (wanted t.server m) class e (may o);
      same = other_met t m kind class o e ∙ sym (passed t m class e);
    }

-- A bound on the steps of a link: its frames, and the most reads of each of its turns.
abbrev pub far : List Frame → (turns reads : ℕ) → ℕ
far taken turns reads = length taken + turns * MOST_READS + reads

longer : (taken : List Frame) (f : Frame) → length (taken ++ f ∷ []) ≡ length taken + 1
longer taken f = length-append taken (f ∷ [])

far_message : (taken : List Frame) (f : Frame) (t r u q : ℕ) → u ≡ t → q ≡ r → far taken t r < far (taken ++ f ∷ []) u q
far_message taken f t r u q e d = omega (arith, longer taken f, e, d)

far_turn : (taken : List Frame) (f : Frame) (t r u q : ℕ) → u ≡ t + 1 → q ≡ 0 → r ≤ MOST_READS
    → far taken t r < far (taken ++ f ∷ []) u q
far_turn taken f t r u q e d l = omega (arith, longer taken f, e, d, l)

far_read : (taken : List Frame) (t r u q : ℕ) → u ≡ t → q ≡ r + 1 → far taken t r < far taken u q
far_read taken t r u q e d = omega (arith, e, d)

pub far_long : (taken : List Frame) (t r steps : ℕ) → t < MOST_TURNS → r ≤ MOST_READS → 18446744073709551615 ≤ steps
    → steps ≤ far taken t r → MANY_FRAMES ≤ length taken
far_long taken t r steps m l n e = omega (arith, m, l, n, e)

pub reader_as : {R S : Type 0} (f : R → S) (told : Advance) (a b : R) → LeavesReader told a b
    → LeavesReader told (f a) (f b)
reader_as f Met a b e = ap f e
reader_as f (Wants class) a b e = ap f e
reader_as f Turned a b e = ap f e
reader_as f (Over (Faulty fault)) a b e = ap f e
reader_as f (Over LastRead) a b e = ap f e
reader_as f (Over Unwritten) a b e = ap f e
reader_as f (Over LastTurn) a b e = ap f e
reader_as f Read a b e = tt
reader_as f (Over Unread) a b e = tt
reader_as f (Over Closed) a b e = tt

pub writer_as : {R S : Type 0} (f : R → S) (told : Advance) (a b : R) → LeavesWriter told a b
    → LeavesWriter told (f a) (f b)
writer_as f Met a b e = ap f e
writer_as f (Wants class) a b e = ap f e
writer_as f Read a b e = ap f e
writer_as f (Over (Faulty fault)) a b e = ap f e
writer_as f (Over LastRead) a b e = ap f e
writer_as f (Over Unread) a b e = ap f e
writer_as f (Over Closed) a b e = ap f e
writer_as f Turned a b e = tt
writer_as f (Over Unwritten) a b e = tt
writer_as f (Over LastTurn) a b e = tt

module _ {X : Type 0} {V : X → Type 0} (content : Seat X V → Content) (made : List ℕ → Bool) where
  -- a link that begins
  pub begun_underway : (w : Serving X V) (t : Turn) (unread held : Option (List ℕ)) → IsAt content w t [] []
      → w.turns ≡ 0 → w.reads ≡ 0
      → IsUnderway content w made t unread unread held held
  begun_underway w t unread held at turns reads = record {
    served = record {
      fed = [];
      taken = [];
      bytes = [];
      now = t;
      read = Consumes-nil unread;
      at = at;
      serves = none;
      written = Appends-nil held;
      turns = omega arith;
    };
    counted = sym turns;
    more = omega (arith, turns);
    reads = omega (arith, reads);
  }

  -- an object was handed in for the message that waits
  pub handed_underway : (v w : Serving X V) (box : Kind) (began : Turn)
      (unread_before unread held_before held : Option (List ℕ)) (class : List ℕ)
      → (h : IsWaiting content v made began unread_before unread held_before held class) → MayOffer made box class
      → w.turns ≡ v.turns → w.reads ≡ v.reads
      → IsAt content w (met h.served.now h.message (Some box)) h.served.fed
      (h.served.taken ++ frame.Message h.message ∷ [])
      → IsUnderway content w made began unread_before unread held_before held
  handed_underway v w box began ub u hb held class h may turns reads at =
      let s = h.served in
      let same = turns_message s.taken h.message in
      let i = comes_in made s.now h.message box class h.wants may (is_class box class) refl in record {
        served = record {
          fed = s.fed;
          taken = s.taken ++ frame.Message h.message ∷ [];
          bytes = s.bytes;
          now = met s.now h.message i.box;
          read = s.read;
          at = subst (λ x. IsAt content w x s.fed (s.taken ++ frame.Message h.message ∷ [])) i.same at;
          serves = then_message h.message i.box i.handed s.serves;
          written = s.written;
          turns = omega (arith, same, h.counted, h.more);
        };
        counted = same ∙ h.counted ∙ sym turns;
        more = omega (arith, turns, h.more);
        reads = omega (arith, reads, h.reads);
      }

  -- a link goes on, and came more than so many steps
  abbrev pub Goes_on : (steps : ℕ) → Serving X V → Turn → (unread_before unread held_before held : Option (List ℕ))
      → Type 0
  Goes_on steps v began ub u hb h = (s : IsUnderway content v made began ub u hb h)
      × (steps < far s.served.taken v.turns v.reads)

  -- how a link stands after a step
  abbrev pub Comes : (steps : ℕ) → Advance → Serving X V → Turn
      → (unread_before unread held_before held : Option (List ℕ)) → Type 0
  Comes steps Met v began ub u hb h = Goes_on steps v began ub u hb h
  Comes steps Turned v began ub u hb h = Goes_on steps v began ub u hb h
  Comes steps Read v began ub u hb h = Goes_on steps v began ub u hb h
  Comes steps (Wants class) v began ub u hb h = Pauses content (pause.Wants class) v made began ub u hb h
  Comes steps (Over end) v began ub u hb h = HasEnded end (IsAt content v) made began ub u hb h

  module _ (v w : Serving X V) (began : Turn) (ub u u' hb h h' : Option (List ℕ))
      (s : IsUnderway content v made began ub u hb h) where
    -- the same frames, with so much read and the same written, and this left
    abbrev still : (Left : Leaving) (fed : List ℕ) → Consumes ub u' fed → h' ≡ h
        → Left s.served.now fed s.served.taken → HasServed Left made began ub u' hb h'
    still Left fed read same at = record {
      fed = fed;
      taken = s.served.taken;
      bytes = s.served.bytes;
      now = s.served.now;
      read = read;
      at = at;
      serves = s.served.serves;
      written = subst (λ x. Appends hb x s.served.bytes) (sym same) s.served.written;
      turns = s.served.turns;
    }

    was_read : u' ≡ u → Consumes ub u' s.served.fed
    was_read same = subst (λ x. Consumes ub x s.served.fed) (sym same) s.served.read

    abbrev read_more : w.turns ≡ v.turns → w.reads ≤ MOST_READS → h' ≡ h
        → IsRead content w s.served.now s.served.fed s.served.taken u u'
        → IsUnderway content w made began ub u' hb h'
    read_more turns reads same r = record {
      served = still (IsAt content w) (s.served.fed ++ r.piece)
          (Consumes-trans ub u u' s.served.fed r.piece s.served.read r.consumed) same r.next;
      counted = s.counted ∙ sym turns;
      more = omega (arith, turns, s.more);
      reads = reads;
    }

    -- a message was met, and served so
    abbrev one_message : (m : Message) (t : Turn) → w.turns ≡ v.turns → w.reads ≡ v.reads → u' ≡ u → h' ≡ h
        → Serves made began (s.served.taken ++ frame.Message m ∷ []) s.served.bytes t
        → IsAt content w t s.served.fed (s.served.taken ++ frame.Message m ∷ [])
        → IsUnderway content w made began ub u' hb h'
    one_message m t turns reads unread same r at =
        let count = turns_message s.served.taken m in record {
          served = record {
            fed = s.served.fed;
            taken = s.served.taken ++ frame.Message m ∷ [];
            bytes = s.served.bytes;
            now = t;
            read = was_read unread;
            at = at;
            serves = r;
            written = subst (λ x. Appends hb x s.served.bytes) (sym same) s.served.written;
            turns = omega (arith, count, s.served.turns);
          };
          counted = count ∙ s.counted ∙ sym turns;
          more = omega (arith, turns, s.more);
          reads = omega (arith, reads, s.reads);
        }

    abbrev met_one : w.turns ≡ v.turns → w.reads ≡ v.reads → u' ≡ u → h' ≡ h
        → IsMet content w s.served.now s.served.fed s.served.taken → IsUnderway content w made began ub u' hb h'
    met_one turns reads unread same r =
        one_message r.message (met s.served.now r.message None) turns reads unread same
        (then_message r.message None (wanted_in made (wanted s.served.now.server r.message) r.unwanted)
        s.served.serves) r.after

    awaits_one : (class : List ℕ) → w.turns ≡ v.turns → w.reads ≡ v.reads → u' ≡ u → h' ≡ h
        → Awaits content w s.served.now s.served.fed s.served.taken class
        → Pauses content (pause.Wants class) w made began ub u' hb h'
    awaits_one class turns reads unread same r = (
      λ unmade.
          one_message r.message s.served.now turns reads unread same
          (subst (λ x. Serves made began (s.served.taken ++ frame.Message r.message ∷ []) s.served.bytes x)
          (passed s.served.now r.message class r.wants)
          (then_message r.message None (none_in made (wanted s.served.now.server r.message) class r.wants unmade)
          s.served.serves)) r.after,
      record {
        message = r.message;
        served = still (And (IsAt content w) (frame.Message r.message) (λ t. t)) s.served.fed (was_read unread) same
            r.after;
        wants = r.wants;
        waits = r.waits;
        counted = s.counted ∙ sym turns;
        more = omega (arith, turns, s.more);
        reads = omega (arith, reads, s.reads);
      },
    )

    -- a turn was given back
    abbrev gave : u' ≡ u → (r : IsTurned content w s.served.now s.served.fed s.served.taken h h')
        → HasServed (IsAt content w) made began ub u' hb h'
    gave unread r = record {
      fed = s.served.fed;
      taken = s.served.taken ++ frame.Turn ∷ [];
      bytes = s.served.bytes ++ given s.served.now;
      now = turned s.served.now;
      read = was_read unread;
      at = r.next;
      serves = then_turn s.served.serves;
      written = Appends-trans hb h h' s.served.bytes (given s.served.now) s.served.written r.gives;
      turns = omega (arith, turns_turn s.served.taken, s.counted, s.more);
    }

    abbrev turned_one : w.turns ≡ v.turns + 1 → w.turns < MOST_TURNS → w.reads ≡ 0 → u' ≡ u
        → IsTurned content w s.served.now s.served.fed s.served.taken h h'
        → IsUnderway content w made began ub u' hb h'
    turned_one turns more reads unread r = record {
      served = gave unread r;
      counted = turns_turn s.served.taken ∙ ap (λ n. n + 1) s.counted ∙ sym turns;
      more = more;
      reads = omega (arith, reads);
    }

    last_turn : MOST_TURNS ≤ v.turns + 1 → u' ≡ u → IsTurned content w s.served.now s.served.fed s.served.taken h h'
        → HasEnded LastTurn (IsAt content w) made began ub u' hb h'
    last_turn most unread r = (gave unread r, omega (arith, turns_turn s.served.taken, s.counted, s.more, most))

    unwritten : u' ≡ u → IsAt content w (turned s.served.now) s.served.fed (s.served.taken ++ frame.Turn ∷ [])
        → AppendsFront h h' (given s.served.now)
        → HasEnded Unwritten (IsAt content w) made began ub u' hb h'
    unwritten unread at front = record {
      before = h;
      served = record {
        fed = s.served.fed;
        taken = s.served.taken;
        bytes = s.served.bytes;
        now = s.served.now;
        read = was_read unread;
        at = at;
        serves = s.served.serves;
        written = s.served.written;
        turns = s.served.turns;
      };
      part = front;
      turns = omega (arith, s.counted, s.more);
    }

    -- no frame was whole
    abbrev all_served : (fault : Option WireFault) → Consumes ub u' s.served.fed → h' ≡ h
        → IsOut content w s.served.now s.served.fed s.served.taken fault
        → HasServedAll fault (IsAt content w) made began ub u' hb h'
    all_served fault read same r = (still (IsAt content w) s.served.fed read same r.at, r.reads)

    step : (told : Advance) → Counts told v.turns v.reads w.turns w.reads → LeavesReader told u u'
        → LeavesWriter told h h'
        → Advances content told w s.served.now s.served.fed s.served.taken u u' h h'
        → Comes (far s.served.taken v.turns v.reads) told w began ub u' hb h'
    step Met c unread same r = (
      met_one c.0 c.1 unread same r,
      far_message s.served.taken (frame.Message r.message) v.turns v.reads w.turns
          w.reads c.0 c.1,
    )
    step (Wants class) c unread same r = awaits_one class c.0 c.1 unread same r
    step Turned c unread same r = (
      turned_one c.0 c.1 c.2 unread r,
      far_turn s.served.taken frame.Turn v.turns v.reads w.turns w.reads c.0 c.2
          s.reads,
    )
    step Read c unread same r =
        (read_more c.0 c.2 same r, far_read s.served.taken v.turns v.reads w.turns w.reads c.0 c.1)
    step (Over (Faulty fault)) c unread same r = all_served (Some fault) (was_read unread) same r
    step (Over LastRead) c unread same r = all_served None (was_read unread) same r
    step (Over Unread) c unread same r = all_served None (Consumes-kept ub u u' s.served.fed s.served.read r.1) same r.0
    step (Over Closed) c unread same r = (
      all_served None (subst (Consumes ub u') (append-nil s.served.fed)
          (Consumes-trans ub u u' s.served.fed [] s.served.read r.1)) same r.0,
      r.2,
    )
    step (Over Unwritten) c unread same r = unwritten unread r.0 r.1
    step (Over LastTurn) c unread same r = last_turn c unread r

  pub stepped : {R W : Type 0} (remaining : R → Option (List ℕ)) (contents : W → Option (List ℕ))
      (v w : Serving X V) (r q : R) (x y : W) (told : Advance)
      → Counts told v.turns v.reads w.turns w.reads → LeavesReader told r q → LeavesWriter told x y
      → ((t : Turn) (fed : List ℕ) (taken : List Frame) → IsAt content v t fed taken
      → Advances content told w t fed taken (remaining r) (remaining q) (contents x) (contents y))
      → (began : Turn) (unread held : Option (List ℕ))
      (s : IsUnderway content v made began unread (remaining r) held (contents x))
      → Comes (far s.served.taken v.turns v.reads) told w began unread (remaining q) held (contents y)
  stepped remaining contents v w r q x y told c unread same a began ub hb s =
      step v w began ub (remaining r) (remaining q) hb (contents x) (contents y) s told c
      (reader_as remaining told r q unread) (writer_as contents told x y same)
      (a s.served.now s.served.fed s.served.taken s.served.at)

  pub goes_on : (steps : ℕ) (told : Advance) (w : Serving X V) (began : Turn) (ub u hb h : Option (List ℕ))
      → pause_of told ≡ None → Comes steps told w began ub u hb h
      → Goes_on steps w began ub u hb h
  goes_on steps Met w began ub u hb h e c = c
  goes_on steps Turned w began ub u hb h e c = c
  goes_on steps Read w began ub u hb h e c = c
  goes_on steps (Wants class) w began ub u hb h e c = absurd (none_known (sym e))
  goes_on steps (Over end) w began ub u hb h e c = absurd (none_known (sym e))

  pub comes_to : (steps : ℕ) (told : Advance) (p : Pause) (w : Serving X V) (began : Turn)
      (ub u hb h : Option (List ℕ)) → Some p ≡ pause_of told → Comes steps told w began ub u hb h
      → Pauses content p w made began ub u hb h
  comes_to steps Met p w began ub u hb h e c = absurd (none_known (sym e))
  comes_to steps Turned p w began ub u hb h e c = absurd (none_known (sym e))
  comes_to steps Read p w began ub u hb h e c = absurd (none_known (sym e))
  comes_to steps (Wants class) p w began ub u hb h e c = subst (λ x. Pauses content x w made began ub u hb h)
      (sym (some_inside p (pause.Wants class) e)) c
  comes_to steps (Over end) p w began ub u hb h e c = subst (λ x. Pauses content x w made began ub u hb h)
      (sym (some_inside p (pause.Over end) e)) c
