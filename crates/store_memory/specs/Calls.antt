-- What a list of calls makes of a disk in memory, and what a crash may leave of it.
use Rattle.std.specs.Prelude.{◌≡◌, ◌≤◌, ℕ, List, [], ◌∷◌, length, take}
use Rattle.store_model.specs.Crash.{CutShort, InArea, Torn}
use Rattle.store_model.specs.Image.{Image, bytes_of, changed, put}
use Rattle.store_memory.specs.declared.areas.Areas.{Areas}
use Rattle.store_memory.specs.declared.areas.Call.{Call}
use Rattle.store_memory.specs.declared.areas.Call.TheVariants.{Write, Cut, Sync}

-- the bytes of both areas
abbrev pub image_of : Areas → Image
image_of areas = record { document = areas.document.items; journal = areas.journal.items }

-- what reads give after a call
abbrev pub called : Call → Image → Image
called (Write area at bytes) image = changed area (put (bytes_of area image) at bytes.items) image
called (Cut area size) image = changed area (take size (bytes_of area image)) image
called (Sync area) image = image

-- what a crash may leave after a call, by what reads gave before it and what a crash might have left then
abbrev pub LeftBy : Call → Image → (Image → Type 0) → Image → Type 0
LeftBy (Write area at bytes) reads before c = (d : Image) × before d × InArea area (Torn at (length bytes.items)) d c
LeftBy (Cut area size) reads before c = (d : Image) × before d × InArea area (CutShort size) d c
LeftBy (Sync area) reads before c = before c × (bytes_of area c ≡ bytes_of area reads)

-- what reads give after these calls, the first of them first
abbrev pub reads_after : Image → List Call → Image
reads_after reads [] = reads
reads_after reads (call ∷ calls) = reads_after (called call reads) calls

-- what a crash may leave after these calls
abbrev pub LeftFrom : (Image → Type 0) → Image → List Call → Image → Type 0
LeftFrom before reads [] c = before c
LeftFrom before reads (call ∷ calls) c = LeftFrom (LeftBy call reads before) (called call reads) calls c

-- what a crash may leave after these calls on a disk that was wholly synced at first
abbrev pub LeftAfter : Image → List Call → Image → Type 0
LeftAfter first calls c = LeftFrom (λ d. d ≡ first) first calls c

-- what a crash after at least t of these calls might have left
abbrev pub LeftSince : Image → List Call → ℕ → Image → Type 0
LeftSince first calls t c = (k : ℕ) × (t ≤ k) × (k ≤ length calls) × LeftAfter first (take k calls) c
