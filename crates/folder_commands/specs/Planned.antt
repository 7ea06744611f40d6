-- What is to be made in a folder, and what that is once the streams are read.
use Rattle.std.specs.Prelude.{ℕ, List, map}
use Rattle.folder_commands.specs.Plan.{Entry}
use Rattle.folder_commands.specs.declared.plan.Content.{Content}
use Rattle.folder_commands.specs.declared.plan.Content.TheVariants.{Folder, File}
use Rattle.read_outlines.specs.declared.outline.Place.{Place}
use Rattle.folder_commands.specs.declared.planning.Planned.{Planned}
use Rattle.folder_commands.specs.declared.planning.What.{What}
use Rattle.folder_commands.specs.declared.planning.What.TheVariants.{Storage, Stream}

module _ (content : Place → List ℕ) where
  abbrev pub content_of : What → Content
  content_of (Storage class state) = Folder class state
  content_of (Stream place) = File (content place)

  abbrev pub entry_at : List ℕ → What → Entry
  entry_at path what = record { path = path; content = content_of what }

  abbrev pub entries_of : List Planned → List Entry
  entries_of planned = map (λ p. entry_at p.path p.what) planned
