-- What frames end as, where a `&mut` into them is returned.
use Rattle.std.specs.Prelude.{ℕ, List, length, slice_set}
use Rattle.std.specs.Borrow.{Lends, MutBor, Fml, Array}
use Rattle.std.specs.List.{refill}
use Rattle.container_model.specs.contracts.record.Frame as frame
use Rattle.container_model.specs.declared.record.Frame.{Frame}
use Rattle.container_checks.specs.contracts.frames.Frames.{the_row}

-- the frame at i is what is written last behind r
abbrev pub lends_one : MutBor (List Frame) → ℕ → MutBor Frame → Fml
lends_one s i r = Lends the_row frame.the_row s r (slice_set s.now i)

-- the frames are what is written last behind r, and as many as before
abbrev pub lends_all : MutBor (List Frame) → MutBor (List Frame) → Fml
lends_all s r = Lends the_row (Array frame.the_row 0) s r (refill (length s.now) s.now)
