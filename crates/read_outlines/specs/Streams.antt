-- The stream at a path of a tree.
use Rattle.std.specs.Prelude.{ℕ, List, Result, Ok, Err}
use Rattle.cfb_entries.specs.Tree.{Tree}
use Rattle.tree_storage.specs.Change.{Seen, bytes, inner, look, on_ok}
use Rattle.tree_storage.specs.declared.fault.TreeFault.{TreeFault}
use Rattle.tree_storage.specs.declared.fault.TreeFault.TheVariants.{WrongKind}

-- the bytes of a stream; a storage is of the wrong kind
abbrev pub stream_bytes : Seen → Result (List ℕ) TreeFault
stream_bytes (bytes content) = Ok content
stream_bytes (inner t) = Err WrongKind

-- The bytes of the stream at a path of a tree. NotFound where nothing stands there, WrongKind where a storage does, or
-- where a stream stands on the way.
abbrev pub stream_at : List (List ℕ) → Tree → Result (List ℕ) TreeFault
stream_at path t = on_ok stream_bytes (look path (inner t))
