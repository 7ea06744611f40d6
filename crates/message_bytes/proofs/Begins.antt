-- Bytes that stand before others.
use Rattle.std.proofs.Common.{◌≡◌, ◌≤◌, ℕ, List, ◌++◌, length, take, sym, ap, subst, ◌∙◌, arith, Bool, true, false}
use Rattle.std.proofs.Common.{if◌then◌else◌}
use Rattle.std.proofs.lemmas.List.{length-take, take-append-le, take-take, take_all}
use Rattle.message_bytes.specs.Encoding.{Begins}

pub itself : (bytes : List ℕ) → Begins bytes bytes
itself bytes = record { same = take_all (length bytes) bytes (omega arith) }

pub before : (old new text : List ℕ) → new ≡ old ++ text → Begins old new
before old new text added = record {
  same = ap (take (length old)) added
      ∙ take-append-le (length old) old text (omega arith) ∙ take_all (length old) old (omega arith);
}

-- one step behind another
pub through : (old mid new : List ℕ) → Begins old mid → Begins mid new → Begins old new
through old mid new p q =
    let few : length old ≤ length mid = omega (arith, length-take (length old) mid, ap length p.same) in
    record { same = sym (take-take (length old) (length mid) new few) ∙ ap (take (length old)) q.same ∙ p.same }

-- a step that adds nothing where it fails
pub put : (done : Bool) (old new text : List ℕ) → new ≡ (if done then old ++ text else old) → Begins old new
put true old new text added = before old new text added
put false old new text added = subst (Begins old) (sym added) (itself old)
