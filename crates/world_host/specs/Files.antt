-- Where a file stands.
use Rattle.std.specs.Prelude.{◌≡◌, ℕ, Bool, false, List, ◌∷◌, [], ◌++◌, Option, Some, None, slice_get, slice_set}
use Rattle.message_values.specs.Found.{find}
use Rattle.container_model.specs.declared.record.Frame.{Frame}
use Rattle.container_model.specs.Record.{is_doubtful}
use Rattle.container_model.specs.Saves.{is_committing}
use Rattle.world_model.specs.declared.logs.File.{File}
use Rattle.world_model.specs.World.{is_file, put_file}

-- the file of a name stands at i, or nowhere
pub record IsFileAt (name : List ℕ) (files : List File) (i : ℕ) : Type 0 where
  pub found : find (is_file name) files ≡ slice_get files i
  pub puts : (bytes : List ℕ) → put_file name bytes files ≡ slice_set files i (record { name = name; bytes = bytes })

pub record IsNoFile (name : List ℕ) (files : List File) : Type 0 where
  pub found : find (is_file name) files ≡ None
  pub puts : (bytes : List ℕ) → put_file name bytes files ≡ files ++ record { name = name; bytes = bytes } ∷ []

-- a frame whose commit is asked for
abbrev pub is_committing_in : Option Frame → Bool
is_committing_in None = false
is_committing_in (Some frame) = is_committing frame.phase

-- a frame of which it is in doubt whether its file was committed
abbrev pub is_doubtful_in : Option Frame → Bool
is_doubtful_in None = false
is_doubtful_in (Some frame) = is_doubtful frame.phase
