-- A document as a value.
use Rattle.std.specs.Prelude.{ℕ, List, []}
use Rattle.ole_model.specs.declared.object.DocObject.{DocObject}

-- The session that its container was last in when it was written, 0 where there was none, and its objects.
pub record Doc : Type 0 where
  pub session : ℕ
  pub objects : List DocObject

-- the document of a session that has no objects
abbrev pub no_objects : ℕ → Doc
no_objects session = record { session = session; objects = [] }
