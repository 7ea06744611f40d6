-- The tree of a description that so far has streams of the root alone, in name order.
use Rattle.std.specs.Prelude.{◌≡◌, ◌≤◌, ℕ, Bool, true, false, List, [], ◌∷◌, length, Result, Ok, Some}
use Rattle.tree_storage.specs.Kept.{Kept}
use Rattle.tree_rising.specs.Rising.{rising}
use Rattle.cfb_file.specs.Need.{over_streams}
use Rattle.text_spelling.specs.Words.{content_read}
use Rattle.tree_descriptions.specs.Building.{room}
use Rattle.tree_descriptions.specs.Commands.{line_read}
use Rattle.tree_descriptions.specs.Description.{carried_out, stream_made}
use Rattle.tree_descriptions.specs.declared.command.Command.{Command}
use Rattle.tree_descriptions.specs.declared.fault.LineFault.{LineFault}
use Rattle.tree_descriptions.specs.declared.run.Run.{Run}

-- what is built of a tree, whose streams have no more bytes than a file
pub record IsRun (r : Run) (k : Kept) : Type 0 where
  pub same : rising r.tree ≡ k
  pub spent : r.spent ≤ over_streams length k.now
  pub within : r.spent ≤ room

-- What a call does that is to change the tree, where it says whether it did.
abbrev pub Takes : Bool → (Kept → Result Kept LineFault) → Run → Run → Type 0
Takes true change old new = (k : Kept) → IsRun old k → (next : Kept) × (change k ≡ Ok next) × IsRun new next
Takes false change old new = (k : Kept) → IsRun old k → IsRun new k

-- what one does that is to carry out the command of a line
abbrev pub TakesLine : Bool → List ℕ → Run → Run → Type 0
TakesLine true line old new = (command : Command) × (line_read line ≡ Some command)
    × Takes true (carried_out command) old new
TakesLine false line old new = (k : Kept) → IsRun old k → IsRun new k

-- and what one does that is to make a stream in the root, of the bytes that a word spells
abbrev pub TakesWord : Bool → List ℕ → List ℕ → Run → Run → Type 0
TakesWord true name word old new = (bytes : List ℕ) × (content_read word ≡ Some bytes)
    × Takes true (λ k. stream_made bytes k (name ∷ [])) old new
TakesWord false name word old new = (k : Kept) → IsRun old k → IsRun new k
