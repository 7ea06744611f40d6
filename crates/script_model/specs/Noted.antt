-- What is kept of a call.
use Rattle.std.specs.Prelude.{◌==◌, ℕ, Bool, List, slice_index}

-- what it was, of whom, whether it succeeded, and its bytes
abbrev pub Noted : Type 0
Noted = ℕ × ℕ × Bool × List ℕ

abbrev pub noted : List ℕ → List ℕ → Noted
noted numbers bytes = (slice_index numbers 0, slice_index numbers 1, slice_index numbers 2 == 1, bytes)
