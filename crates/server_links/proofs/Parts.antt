-- What was written by one more call.
use Rattle.std.proofs.Common.{◌≡◌, ◌≤◌, ◌+◌, ◌-◌, ℕ, List, Option, length, take, drop, ap, sym, subst, ◌∙◌, arith}
use Rattle.std.proofs.Common.{length-drop, take_all}
use Rattle.std.proofs.Math.Seq.{take-add}
use Rattle.std.specs.Io.KnownBytes.{Appends, Keeps}
use Rattle.std.proofs.KnownBytes.{Appends-kept, Appends-trans}

-- what is left to be written, as a call is given it
left : (bytes : List ℕ) (at : ℕ) → take (length bytes - at) (drop at bytes) ≡ drop at bytes
left bytes at = take_all (length bytes - at) (drop at bytes) (omega (arith, length-drop at bytes))

pub more_written : (a b d : Option (List ℕ)) (bytes : List ℕ) (at n next : ℕ) → at ≤ length bytes → next ≡ at + n
    → n ≤ length (take (length bytes - at) (drop at bytes))
    → Appends a b (take at bytes) → Appends b d (take n (take (length bytes - at) (drop at bytes)))
    → (next ≤ length bytes) × Appends a d (take next bytes)
more_written a b d bytes at n next l e m p q =
    let within : n ≤ length (drop at bytes) = subst (λ xs. n ≤ length xs) (left bytes at) m in (
      omega (arith, l, e, within, length-drop at bytes),
      subst (Appends a d) (sym (ap (λ k. take k bytes) e ∙ take-add at n bytes))
          (Appends-trans a b d (take at bytes) (take n (drop at bytes)) p
          (subst (λ xs. Appends b d (take n xs)) (left bytes at) q)),
    )

pub none_written : (a b d : Option (List ℕ)) (bytes : List ℕ) (at next : ℕ) → at ≤ length bytes → next ≡ at
    → Appends a b (take at bytes) → Keeps b d
    → (next ≤ length bytes) × Appends a d (take next bytes)
none_written a b d bytes at next l e p q =
    (omega (arith, l, e), subst (λ k. Appends a d (take k bytes)) (sym e) (Appends-kept a b d (take at bytes) p q))
