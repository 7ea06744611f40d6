-- What a server has come to by one message, one write of its own accord, or one piece.
use Rattle.std.proofs.Common.{◌≡◌, ℕ, List, [], ◌∷◌, ◌++◌, length, map, slice_set, slice_index_or, take, Option, Some}
use Rattle.std.proofs.Common.{None, Result, Ok, Err, OnOk, refl, sym, ap, subst, ◌∙◌, arith, inl, inr, suc, ◌<◌, ◌≤◌}
use Rattle.std.proofs.Common.{◌+◌, get_or, take-suc, take_all}
use Rattle.object_core.specs.Content.{Content}
use Rattle.object_core.specs.Kinds.{Kind}
use Rattle.message_values.specs.declared.message.Message.{Message}
use Rattle.message_model.specs.declared.frame.Frame.{Frame}
use Rattle.message_model.specs.declared.frame.Frame.TheVariants as frame
use Rattle.message_model.specs.declared.fault.WireFault.{WireFault}
use Rattle.message_model.specs.declared.fault.WireFault.TheVariants as wire
use Rattle.message_model.specs.Frames.{Reads}
use Rattle.message_bytes.proofs.Leaving.{on_ok}
use Rattle.message_bytes.specs.Fronts.{Feeds, HandsOut, Stands}
use Rattle.message_bytes.specs.declared.decoder.Decoder.{Decoder}
use Rattle.server_model.specs.Server.{Refuses, Server, Takes, Tells, on_call, reply_to, scribble}
use Rattle.server_model.specs.declared.counted.Counted.{Counted}
use Rattle.server_model.specs.declared.fault.ServerFault.{ServerFault}
use Rattle.server_model.specs.declared.fault.ServerFault.TheVariants as fault
use Rattle.server_core.specs.View.{seen}
use Rattle.server_core.specs.declared.server.Seat.{Seat}
use Rattle.server_links.specs.Turns.{Turn, answered, edited_by, met, noted_done, scribbled_all, sent, written}
use Rattle.server_links.specs.View.{IsAt, IsIn, LeavesReader, LeavesWriter, servers_of}
use Rattle.server_links.specs.declared.serving.Server as code
use Rattle.server_links.specs.declared.serving.Serving.{Serving}
use Rattle.server_links.specs.declared.serving.Advance.{Advance}
use Rattle.server_links.specs.declared.serving.Advance.TheVariants.{Met, Turned, Read, Wants, Over}
use Rattle.server_links.specs.declared.serving.End.TheVariants.{Faulty, LastRead, Unread, Closed, Unwritten, LastTurn}

pub both : {A E : Type 0} {P Q R : Type 0} (r : Result A E) → OnOk r P → OnOk r Q → (P → Q → R) → OnOk r R
both (Ok x) p q f = f p q
both (Err e) p q f = tt

abbrev or_else : {A : Type 0} → A → Option A → A
or_else d (Some x) = x
or_else d None = d

abbrev err_or : {A E : Type 0} → E → Result A E → E
err_or d (Ok x) = d
err_or d (Err e) = e

pub err_inside : {A E : Type 0} (r : Result A E) (x y : E) → r ≡ Err x → r ≡ Err y → x ≡ y
err_inside r x y e f = sym (ap (err_or x) e) ∙ ap (err_or x) f

-- what the decoder handed out
pub handed_out : (told : Option Frame) (f : Frame) (fed : List ℕ) (taken : List Frame) (d : Decoder) → told ≡ Some f
    → HandsOut (Ok told) fed taken d
    → Stands d fed (taken ++ f ∷ [])
handed_out told f fed taken d e h = (subst (λ x. HandsOut (Ok x) fed taken d) e h).0

pub handed_none : (told : Option Frame) (fed : List ℕ) (taken : List Frame) (d : Decoder) → told ≡ None
    → HandsOut (Ok told) fed taken d → Stands d fed taken × Reads fed taken None
handed_none told fed taken d e h = subst (λ x. HandsOut (Ok x) fed taken d) e h

-- what isn't touched is as it was
pub reader_same : {R : Type 0} (told : Advance) (r : R) → LeavesReader told r r
reader_same Met r = refl
reader_same (Wants class) r = refl
reader_same Turned r = refl
reader_same (Over (Faulty fault)) r = refl
reader_same (Over LastRead) r = refl
reader_same (Over Unwritten) r = refl
reader_same (Over LastTurn) r = refl
reader_same Read r = tt
reader_same (Over Unread) r = tt
reader_same (Over Closed) r = tt

pub writer_same : {W : Type 0} (told : Advance) (w : W) → LeavesWriter told w w
writer_same Met w = refl
writer_same (Wants class) w = refl
writer_same Read w = refl
writer_same (Over (Faulty fault)) w = refl
writer_same (Over LastRead) w = refl
writer_same (Over Unread) w = refl
writer_same (Over Closed) w = refl
writer_same Turned w = tt
writer_same (Over Unwritten) w = tt
writer_same (Over LastTurn) w = tt

some_inside : {A : Type 0} (x y : A) → Some x ≡ Some y → x ≡ y
some_inside x y e = ap (or_else x) e

-- a fault that isn't want of memory is the definition's own
pub refused_with : {A : Type 0} (told : Result A ServerFault) (why : ServerFault) → (why ≡ fault.NoMemory → ⊥)
    → Refuses told why → told ≡ Err why
refused_with told fault.WrongIncarnation n h = h
refused_with told fault.Ignored n h = h
refused_with told fault.NumbersSpent n h = h
refused_with told fault.NeedObject n h = h
refused_with told fault.WrongClass n h = h
refused_with told fault.NoMemory n h = absurd (n refl)

-- what a piece comes to that didn't want for memory
pub fed_well : (r : Result (Unit {0}) WireFault) (fed piece : List ℕ) (taken : List Frame) (new : Decoder)
    → (r ≡ Err wire.NoMemory → ⊥)
    → Feeds r fed piece taken new → Stands new (fed ++ piece) taken
fed_well (Ok u) fed piece taken new n h = h.0
fed_well (Err why) fed piece taken new n (inl w) = absurd (n (ap (λ x. Err x) w.0))
fed_well (Err why) fed piece taken new n (inr w) = w.0

-- one more activation wrote
scribbled_more : (t : Turn) (acts : List ℕ) (act : ℕ)
    → scribbled_all t (acts ++ act ∷ []) ≡ written (scribbled_all t acts) (scribble (scribbled_all t acts).server act)
scribbled_more t [] act = refl
scribbled_more t (a ∷ acts) act = scribbled_more (written t (scribble t.server a)) acts act

scribbled_next : (t : Turn) (at act : ℕ) → at < length t.edited → act ≡ get_or t.edited at act
    → scribbled_all t (take (at + 1) t.edited) ≡ written (scribbled_all t (take at t.edited))
    (scribble (scribbled_all t (take at t.edited)).server act)
scribbled_next t at act l e =
    let on : at + 1 ≡ suc at = omega arith in
    ap (λ n. scribbled_all t (take n t.edited)) on ∙ ap (scribbled_all t) (take-suc t.edited at act l)
    ∙ ap (λ a. scribbled_all t (take at t.edited ++ a ∷ [])) (sym e) ∙ scribbled_more t (take at t.edited) act

module _ {X : Type 0} {V : X → Type 0} (content : Seat X V → Content) where
  one_of : (ss : List (code.Server X V)) (s : Server) (x : code.Server X V) → map (λ x. seen content x.core) ss ≡ s ∷ []
      → x ≡ slice_index_or ss 0 x → seen content x.core ≡ s
  one_of [] s x e i = absurd (omega (arith, ap length e))
  one_of (y ∷ ys) s x e i = ap (λ z. seen content z.core) i ∙ ap (λ l. slice_index_or l 0 s) e

  -- the one server, at the first place
  pub one_at : (v : Serving X V) (t : Turn) (x : code.Server X V) → IsIn content v t
      → x ≡ slice_index_or v.servers.items 0 x
      → seen content x.core ≡ t.server
  one_at v t x h i = one_of v.servers.items t.server x h.server i

  pub put_one : (ss : List (code.Server X V)) (x : code.Server X V) → length ss ≡ 1
      → map (λ x. seen content x.core) (slice_set ss 0 x) ≡ seen content x.core ∷ []
  put_one [] x l = absurd (omega (arith, l))
  put_one (y ∷ []) x l = refl
  put_one (y ∷ z ∷ ss) x l = absurd (omega (arith, l))

  pub put_in : (w v : Serving X V) (x : code.Server X V) → w.servers.items ≡ slice_set v.servers.items 0 x
      → length v.servers.items ≡ 1
      → servers_of content w ≡ seen content x.core ∷ []
  put_in w v x e l = ap (λ ss. map (λ y. seen content y.core) ss) e ∙ put_one v.servers.items x l

  -- a message was taken
  pub acted : (v w : Serving X V) (t : Turn) (m : Message) (box : Option Kind) (before after : Server)
      (reply : Message) (counted : Option Counted) (edit : Option ℕ)
      → IsIn content v t → before ≡ t.server → Takes before m box after reply counted → edit ≡ edited_by t.server m
      → servers_of content w ≡ after ∷ [] → w.out.items ≡ v.out.items ++ sent (frame.Message reply)
      → w.edited.items ≡ noted_done edit reply v.edited.items
      → IsIn content w (met t m box)
  acted v w t m box before after reply counted edit i b h e s o n =
      let k : Takes t.server m box after reply counted = subst (λ x. Takes x m box after reply counted) b h in
      let r : reply ≡ reply_to m k.0 = k.2 in
      subst (λ x. IsIn content w (answered t m x)) (sym k.1) (record {
        server = s;
        out = o ∙ ap (λ x. x ++ sent (frame.Message reply)) i.out ∙ ap (λ x. t.out ++ sent (frame.Message x)) r;
        edited = n ∙ ap (λ x. noted_done x reply v.edited.items) e
            ∙ ap (λ x. noted_done (edited_by t.server m) x v.edited.items) r
            ∙ ap (λ x. noted_done (edited_by t.server m) (reply_to m k.0) x) i.edited;
      })

  -- an object was offered for the message that waits
  pub offered : {E : Type 0} (v w : Serving X V) (t : Turn) (fed : List ℕ) (taken : List Frame) (m n : Message)
      (box : Option Kind) (r : Result (Unit {0}) E)
      → IsAt content v t fed taken → Some n ≡ Some m → w.decoder ≡ v.decoder → OnOk r (IsIn content w (met t n box))
      → OnOk r (IsAt content w (met t m box) fed taken)
  offered v w t fed taken m n box r h e d i = on_ok r (λ _ k. record {
    turn = subst (λ x. IsIn content w (met t x box)) (some_inside n m e) k;
    read = subst (λ x. Stands x fed taken) (sym d) h.read;
  }) i

  -- a message was passed over
  pub passed_over : (v w : Serving X V) (t : Turn) (m : Message) (box : Option Kind) (before : Server)
      (why : ServerFault)
      → IsIn content v t → before ≡ t.server → on_call before m box ≡ Err why → servers_of content w ≡ before ∷ []
      → w.out.items ≡ v.out.items → w.edited.items ≡ v.edited.items → IsIn content w (met t m box)
  passed_over v w t m box before why i b is s o n =
      subst (λ x. IsIn content w (answered t m x)) (sym (ap (λ x. on_call x m box) (sym b) ∙ is))
      (record { server = s ∙ ap (λ x. x ∷ []) b; out = o ∙ i.out; edited = n ∙ i.edited })

  -- an activation wrote of its own accord, or didn't
  pub wrote : (v w : Serving X V) (t : Turn) (act : ℕ) (before after : Server) (m : Message)
      → IsIn content v t → before ≡ t.server → Tells (scribble before act) after m → servers_of content w ≡ after ∷ []
      → w.out.items ≡ v.out.items ++ sent (frame.Message m) → w.edited.items ≡ v.edited.items
      → IsIn content w (written t (scribble t.server act))
  wrote v w t act before after m i b is s o n =
      subst (λ x. IsIn content w (written t x)) (sym (ap (λ x. scribble x act) (sym b) ∙ is))
      (record { server = s; out = o ∙ ap (λ x. x ++ sent (frame.Message m)) i.out; edited = n ∙ i.edited })

  pub wrote_nothing : (v w : Serving X V) (t : Turn) (act : ℕ) (before : Server) (why : ServerFault)
      → IsIn content v t → before ≡ t.server → scribble before act ≡ Err why → servers_of content w ≡ before ∷ []
      → w.out.items ≡ v.out.items → w.edited.items ≡ v.edited.items → IsIn content w (written t (scribble t.server act))
  wrote_nothing v w t act before why i b is s o n =
      subst (λ x. IsIn content w (written t x)) (sym (ap (λ x. scribble x act) (sym b) ∙ is))
      (record { server = s ∙ ap (λ x. x ∷ []) b; out = o ∙ i.out; edited = n ∙ i.edited })

  -- so many of the edited ones wrote, and one more, and all
  pub one_more : (v w : Serving X V) (t : Turn) (at act : ℕ) (edited : List ℕ) → edited ≡ t.edited
      → at < length edited → act ≡ get_or edited at act
      → IsIn content w (written (scribbled_all t (take at t.edited))
      (scribble (scribbled_all t (take at t.edited)).server act))
      → IsIn content w (scribbled_all t (take (at + 1) t.edited))
  one_more v w t at act edited e l i h = subst (IsIn content w)
      (sym (scribbled_next t at act (subst (λ xs. at < length xs) e l) (i ∙ ap (λ xs. get_or xs at act) e))) h

  pub all_wrote : (w : Serving X V) (t : Turn) (at : ℕ) (edited : List ℕ) → edited ≡ t.edited → length edited ≤ at
      → IsIn content w (scribbled_all t (take at t.edited)) → IsIn content w (scribbled_all t t.edited)
  all_wrote w t at edited e l h = subst (λ xs. IsIn content w (scribbled_all t xs))
      (take_all at t.edited (subst (λ xs. length xs ≤ at) e l)) h
