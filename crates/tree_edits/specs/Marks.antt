-- The class id or the state bits of a storage become others.
use Rattle.std.specs.Prelude.{ℕ, List, [], ◌∷◌, Result, Ok, Err}
use Rattle.cfb_names.specs.Names.{key}
use Rattle.cfb_entries.specs.Tree.{Tree, tree}
use Rattle.tree_storage.specs.Change.{Seen, bytes, inner, find, found, map_ok, on_ok, place}
use Rattle.tree_storage.specs.Kept.{Kept, tree_of}
use Rattle.tree_storage.specs.declared.fault.TreeFault.{TreeFault}
use Rattle.tree_storage.specs.declared.fault.TreeFault.TheVariants.{WrongKind}
use Rattle.tree_edits.specs.declared.change.Mark.{Mark}
use Rattle.tree_edits.specs.declared.change.Mark.TheVariants.{Class, State}

-- a tree outside transactions
abbrev pub outside : Tree → Kept
outside t = record { now = t; saved = [] }

abbrev pub with_mark : Mark → Tree → Tree
with_mark (Class class) (tree c state cs) = tree class state cs
with_mark (State state) (tree class s cs) = tree class state cs

-- what stands at a path below something, with a mark: a stream has none
abbrev pub marking : Mark → List (List ℕ) → Seen → Result Seen TreeFault
marking mark path (bytes b) = Err WrongKind
marking mark [] (inner t) = Ok (inner (with_mark mark t))
marking mark (name ∷ rest) (inner (tree class state cs)) =
    on_ok (λ c. map_ok (λ s. inner (tree class state (place (key name) (c.0, s) cs))) (marking mark rest c.1))
    (found (find (key name) cs))

-- a tree with it, outside transactions
abbrev pub marked : Mark → List (List ℕ) → Kept → Result Kept TreeFault
marked mark path k = map_ok (λ s. outside (tree_of s k.now)) (marking mark path (inner k.now))
