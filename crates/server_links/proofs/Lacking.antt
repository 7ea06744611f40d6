-- Where memory was wanted on a link.
use Rattle.std.proofs.Common.{◌≡◌, ℕ, Bool, List, [], ◌∷◌, ◌++◌, Option, Some, None, Result, Ok, Err, refl, sym, ap}
use Rattle.std.proofs.Common.{subst, ◌∙◌, append_assoc, arith}
use Rattle.std.specs.Prelude.{OnErr}
use Rattle.std.specs.Io.KnownBytes.{Appends, Consumes}
use Rattle.std.proofs.KnownBytes.{Consumes-trans}
use Rattle.std.specs.List.{AllByRecursion}
use Rattle.object_core.specs.Content.{Content}
use Rattle.message_model.specs.declared.frame.Frame.{Frame}
use Rattle.message_model.specs.declared.frame.Frame.TheVariants as frame
use Rattle.message_model.specs.Frames.{IsFrame, Reads}
use Rattle.message_model.specs.Spelling.{joined}
use Rattle.message_bytes.specs.Fronts.{HandsOut, Stands}
use Rattle.message_bytes.specs.declared.decoder.Decoder.{Decoder}
use Rattle.message_bytes.proofs.Fronts.{joined-append}
use Rattle.server_core.specs.declared.server.Seat.{Seat}
use Rattle.server_links.proofs.Served.{handed_out}
use Rattle.server_links.specs.Links.{And, HasLacked, HasServed, IsUnderway, IsWaiting, Lacking, Leaving}
use Rattle.server_links.specs.Links.LacksAt.{for_frame, for_piece}
use Rattle.server_links.specs.Turns.{Turn}
use Rattle.server_links.specs.View.{AreFirst, IsAt, Lacks}
use Rattle.server_links.specs.View.Lacks.{for_frame as step_frame, for_piece as step_piece}
use Rattle.server_links.specs.declared.serving.Serving.{Serving}

-- what holds on an error
pub on_err : {A E P Q : Type 0} (r : Result A E) → (P → Q) → OnErr r P → OnErr r Q
on_err (Ok x) f h = tt
on_err (Err e) f h = f h

pub err_any : {A E P : Type 0} (r : Result A E) → P → OnErr r P
err_any (Ok x) p = tt
err_any (Err e) p = p

all_front : (fs gs : List Frame) → AllByRecursion IsFrame (fs ++ gs) → AllByRecursion IsFrame fs
all_front [] gs e = tt
all_front (f ∷ fs) gs e = (e.0, all_front fs gs e.1)

-- the frames that a decoder handed out
pub first : (d : Decoder) (fed : List ℕ) (taken : List Frame) → Stands d fed taken → AreFirst fed taken
first d fed taken s = record {
  rest = joined d.waiting.items ++ s.rest;
  whole = s.whole ∙ ap (λ a. a ++ s.rest) (joined-append taken d.waiting.items)
      ∙ append_assoc (joined taken) (joined d.waiting.items) s.rest;
  each = all_front taken d.waiting.items s.each;
}

-- memory was wanted for the frame that the decoder handed out, or for a piece where it handed out none
pub lacks_frame : {A E : Type 0} (r : Result A E) (told : Option Frame) (f : Frame) (fed : List ℕ)
    (taken : List Frame) (d : Decoder) (unread : Option (List ℕ)) → told ≡ Some f → HandsOut (Ok told) fed taken d
    → OnErr r (Lacks fed taken unread unread)
lacks_frame r told f fed taken d unread e h =
    err_any r (step_frame f (first d fed (taken ++ f ∷ []) (handed_out told f fed taken d e h)) refl)

pub lacks_piece : {A E : Type 0} (r : Result A E) (fed : List ℕ) (taken : List Frame)
    (before after : Option (List ℕ)) → Reads fed taken None
    → OnErr r ((piece : List ℕ) × Consumes before after piece)
    → OnErr r (Lacks fed taken before after)
lacks_piece r fed taken before after none h = on_err r (λ piece. step_piece piece.0 none piece.1) h

-- a link that is left otherwise
abbrev pub left_as : (Left Right : Leaving) (made : List ℕ → Bool) (began : Turn) (ub u hb h : Option (List ℕ))
    (s : HasServed Left made began ub u hb h)
    → Right s.now s.fed s.taken → HasServed Right made began ub u hb h
left_as Left Right made began ub u hb h s at = record {
  fed = s.fed;
  taken = s.taken;
  bytes = s.bytes;
  now = s.now;
  read = s.read;
  at = at;
  serves = s.serves;
  written = s.written;
  turns = s.turns;
}

module _ {X : Type 0} {V : X → Type 0} (content : Seat X V → Content) (made : List ℕ → Bool) (v : Serving X V)
    (began : Turn) (ub u hb h : Option (List ℕ)) where
  -- a link that went on, and then a step for which memory was wanted
  pub lacked : (u' h' : Option (List ℕ)) (s : IsUnderway content v made began ub u hb h) → h' ≡ h
      → Lacks s.served.fed s.served.taken u u' → HasLacked made began ub u' hb h'
  lacked u' h' s same (step_frame f is unread) = (
    record {
      fed = s.served.fed;
      taken = s.served.taken;
      bytes = s.served.bytes;
      now = s.served.now;
      read = subst (λ x. Consumes ub x s.served.fed) (sym unread) s.served.read;
      at = for_frame f is;
      serves = s.served.serves;
      written = subst (λ x. Appends hb x s.served.bytes) (sym same) s.served.written;
      turns = s.served.turns;
    },
    omega (arith, s.counted, s.more),
  )
  lacked u' h' s same (step_piece piece is read) = (
    record {
      fed = s.served.fed ++ piece;
      taken = s.served.taken;
      bytes = s.served.bytes;
      now = s.served.now;
      read = Consumes-trans ub u u' s.served.fed piece s.served.read read;
      at = for_piece s.served.fed piece refl is;
      serves = s.served.serves;
      written = subst (λ x. Appends hb x s.served.bytes) (sym same) s.served.written;
      turns = s.served.turns;
    },
    omega (arith, s.counted, s.more),
  )

  -- a call that waits for an object, for which memory was wanted
  pub wait_lacked : (class : List ℕ) → IsWaiting content v made began ub u hb h class → HasLacked made began ub u hb h
  wait_lacked class s = (
    left_as (And (IsAt content v) (frame.Message s.message) (λ t. t)) Lacking made began ub u hb h s.served
        (for_frame (frame.Message s.message)
        (first v.decoder s.served.fed (s.served.taken ++ frame.Message s.message ∷ []) s.served.at.read)),
    omega (arith, s.counted, s.more),
  )
