-- The tree that a description describes.
use Rattle.std.specs.Prelude.{◌≡◌, ◌++◌, ◌⊎◌, ℕ, List, [], ◌∷◌, Result, Ok, Err, IsOk, cond, is_ok, replicate}
use Rattle.cfb_names.specs.declared.fault.DirFault.{DirFault}
use Rattle.cfb_entries.specs.Tree.{tree, none}
use Rattle.tree_storage.specs.Change.{inner, look}
use Rattle.tree_storage.specs.Kept.{Kept, put, made}
use Rattle.tree_storage.specs.declared.fault.TreeFault.{TreeFault}
use Rattle.tree_storage.specs.declared.fault.TreeFault.TheVariants.{Exists}
use Rattle.text_io.specs.Lines.{MayLackMemory}
use Rattle.text_io.specs.declared.lines.SyntaxFault.{SyntaxFault}
use Rattle.tree_descriptions.specs.Commands.{commands_read, numbered_read}
use Rattle.tree_descriptions.specs.Faults.{of_syntax_fault}
use Rattle.tree_descriptions.specs.declared.command.Command.{Command}
use Rattle.tree_descriptions.specs.declared.command.Command.TheVariants.{Storage, Stream, Fill}
use Rattle.tree_descriptions.specs.declared.fault.LineFault.{LineFault}
use Rattle.tree_descriptions.specs.declared.fault.LineFault.TheVariants.{Name, Tree, NoMemory}

-- a root of class zero without children
abbrev pub zero_class : List ℕ
zero_class = replicate 16 0

abbrev pub nothing : Kept
nothing = record { now = tree zero_class 0 none; saved = [] }

abbrev pub of_tree : Result Kept TreeFault → Result Kept LineFault
of_tree (Ok k) = Ok k
of_tree (Err fault) = Err (Tree fault)

-- a change at a path, where a directory takes its names
abbrev pub at_path : Result (List (List ℕ)) DirFault → (List (List ℕ) → Result Kept LineFault) → Result Kept LineFault
at_path (Ok names) change = change names
at_path (Err fault) change = Err (Name fault)

-- a new stream: nothing may stand at its path
abbrev pub stream_made : List ℕ → Kept → List (List ℕ) → Result Kept LineFault
stream_made bytes k path = cond (is_ok (look path (inner k.now))) (Err (Tree Exists)) (of_tree (put path bytes k))

-- what a command makes of a tree
abbrev pub carried_out : Command → Kept → Result Kept LineFault
carried_out (Storage path) k = at_path path (λ names. of_tree (made names zero_class 0 k))
carried_out (Stream path bytes) k = at_path path (stream_made bytes k)
carried_out (Fill path count byte) k = at_path path (stream_made (replicate count byte) k)

abbrev pub at_line : ℕ → Result Kept LineFault → Result Kept (ℕ × LineFault)
at_line n (Ok k) = Ok k
at_line n (Err fault) = Err (n, fault)

abbrev pub then_by : {A B E : Type 0} → Result A E → (A → Result B E) → Result B E
then_by (Ok a) f = f a
then_by (Err e) f = Err e

-- the commands one after another, up to the first that is refused
abbrev pub carried : List (ℕ × Command) → Kept → Result Kept (ℕ × LineFault)
carried [] k = Ok k
carried ((n, command) ∷ others) k = then_by (at_line n (carried_out command k)) (carried others)

abbrev pub of_syntax : {A : Type 0} → Result A (ℕ × SyntaxFault) → Result A (ℕ × LineFault)
of_syntax (Ok a) = Ok a
of_syntax (Err (n, fault)) = Err (n, of_syntax_fault fault)

-- The tree that a description describes, or the first line that is outside the grammar, or else the first that can't
-- be carried out.
abbrev pub described : List ℕ → Result Kept (ℕ × LineFault)
described text = then_by (of_syntax (commands_read text)) (λ commands. carried commands nothing)

-- a call answers the fault that it is told to answer, or that no memory is left where it could else have been done
abbrev pub Refuses : Result Kept LineFault → LineFault → Type 0
Refuses told NoMemory = IsOk told
Refuses told fault = told ≡ Err fault

-- Memory may have run out at the command of line n: it and all before it can be carried out.
pub record MayLackRoom (commands : List (ℕ × Command)) (n : ℕ) : Type 0 where
  pub before : List (ℕ × Command)
  pub command : Command
  pub behind : List (ℕ × Command)
  pub all : commands ≡ before ++ (n, command) ∷ behind
  pub carried_out : IsOk (carried (before ++ (n, command) ∷ []) nothing)

-- When a description may be refused. Memory may run out at a line while it is read, where it and all before it are
-- within the grammar; or while it is carried out, where all lines are within the grammar and those up to it can be
-- carried out.
abbrev pub RefusesDescription : List ℕ → ℕ × LineFault → Type 0
RefusesDescription text (n, NoMemory) = MayLackMemory numbered_read text n
    ⊎ ((commands : List (ℕ × Command)) × (commands_read text ≡ Ok commands) × MayLackRoom commands n)
RefusesDescription text fault = described text ≡ Err fault
