-- What stands at a path of a tree, and the changes of a tree.
use Rattle.std.specs.Prelude.{ℕ, ◌≡◌, List, [], ◌∷◌, Option, Some, None, Result, Ok, Err, IsOk, Bool, cond}
use Rattle.std.specs.Ordering.{match_ordering}
use Rattle.cfb_names.specs.Names.{key, key_cmp, key_eq}
pub use Rattle.tree_storage.specs.Child.{Seen, bytes, inner, child}
use Rattle.cfb_entries.specs.Tree.{Children, tree, none, stream, storage}
use Rattle.tree_storage.specs.declared.fault.TreeFault.{TreeFault}
use Rattle.tree_storage.specs.declared.fault.TreeFault.TheVariants.{NotFound, Exists, WrongKind, TooDeep, NoMemory}
use Rattle.tree_storage.specs.declared.storage.Edit.{Edit}
use Rattle.tree_storage.specs.declared.storage.Edit.TheVariants.{Put, Add, Make, Remove, Rename}

-- the child under a key
abbrev pub find : List ℕ → Children → Option (List ℕ × Seen)
find k none = None
find k (stream q n b cs) = cond (key_eq k q) (Some (n, bytes b)) (find k cs)
find k (storage q n t cs) = cond (key_eq k q) (Some (n, inner t)) (find k cs)

-- the children with this one under a key
abbrev pub place : List ℕ → List ℕ × Seen → Children → Children
place k c none = child k c none
place k c (stream q n b cs) = match_ordering (key_cmp k q) (child k c (stream q n b cs)) (child q c cs)
    (stream q n b (place k c cs))
place k c (storage q n t cs) = match_ordering (key_cmp k q) (child k c (storage q n t cs)) (child q c cs)
    (storage q n t (place k c cs))

-- the children without the one under a key
abbrev pub without : List ℕ → Children → Children
without k none = none
without k (stream q n b cs) = cond (key_eq k q) cs (stream q n b (without k cs))
without k (storage q n t cs) = cond (key_eq k q) cs (storage q n t (without k cs))

abbrev pub map_ok : {A B : Type 0} → (A → B) → Result A TreeFault → Result B TreeFault
map_ok f (Ok a) = Ok (f a)
map_ok f (Err e) = Err e

abbrev pub on_ok : {A B : Type 0} → (A → Result B TreeFault) → Result A TreeFault → Result B TreeFault
on_ok f (Ok a) = f a
on_ok f (Err e) = Err e

abbrev pub found : {A : Type 0} → Option A → Result A TreeFault
found None = Err NotFound
found (Some a) = Ok a

-- what stands at a path below something, each name being looked up by its key
abbrev pub look : List (List ℕ) → Seen → Result Seen TreeFault
look [] s = Ok s
look (name ∷ rest) (bytes b) = Err WrongKind
look (name ∷ rest) (inner (tree class state cs)) = on_ok (λ c. look rest c.1) (found (find (key name) cs))

-- The changes of a storage's children, given what stands under the key of a name: bytes are put into a stream that is
-- there, which keeps its spelling, or into a new one.
abbrev pub put_seen : List ℕ → Seen → Result Seen TreeFault
put_seen new (bytes b) = Ok (bytes new)
put_seen new (inner t) = Err WrongKind

abbrev pub putting : List ℕ → List ℕ → Children → Option (List ℕ × Seen) → Result Children TreeFault
putting name new cs None = Ok (place (key name) (name, bytes new) cs)
putting name new cs (Some c) = map_ok (λ s. place (key name) (c.0, s) cs) (put_seen new c.1)

-- a stream is made where nothing stands
abbrev pub adding : List ℕ → List ℕ → Children → Option (List ℕ × Seen) → Result Children TreeFault
adding name new cs None = Ok (place (key name) (name, bytes new) cs)
adding name new cs (Some c) = Err Exists

-- a storage without children is made where nothing stands and where it isn't nested too deep
abbrev pub making : List ℕ → List ℕ → ℕ → Bool → Children → Option (List ℕ × Seen) → Result Children TreeFault
making name class state fits cs None = cond fits (Ok (place (key name) (name, inner (tree class state none)) cs))
    (Err TooDeep)
making name class state fits cs (Some c) = Err Exists

-- a child goes, with all that it holds
abbrev pub removing : List ℕ → Children → Option (List ℕ × Seen) → Result Children TreeFault
removing name cs None = Err NotFound
removing name cs (Some c) = Ok (without (key name) cs)

-- under another key, which is to be free
abbrev pub moving : List ℕ → List ℕ → Children → Seen → Option (List ℕ × Seen) → Result Children TreeFault
moving name new cs s None = Ok (place (key new) (new, s) (without (key name) cs))
moving name new cs s (Some c) = Err Exists

-- a child's own name, spelled otherwise, is the new spelling
abbrev pub renaming : List ℕ → List ℕ → Children → Option (List ℕ × Seen) → Result Children TreeFault
renaming name new cs None = Err NotFound
renaming name new cs (Some c) = cond (key_eq (key new) (key name)) (Ok (place (key name) (new, c.1) cs))
    (moving name new cs c.1 (find (key new) cs))

-- a change under a name
abbrev pub edited : Edit → List ℕ → Children → Result Children TreeFault
edited (Put new) name cs = putting name new cs (find (key name) cs)
edited (Add new) name cs = adding name new cs (find (key name) cs)
edited (Make class state fits) name cs = making name class state fits cs (find (key name) cs)
edited Remove name cs = removing name cs (find (key name) cs)
edited (Rename new) name cs = renaming name new cs (find (key name) cs)

-- The change of what stands at a path below something. The empty path, and one that a stream stands on, are of the
-- wrong kind.
abbrev pub change : Edit → List (List ℕ) → Seen → Result Seen TreeFault
change e path (bytes b) = Err WrongKind
change e [] (inner t) = Err WrongKind
change e (name ∷ []) (inner (tree class state cs)) = map_ok (λ x. inner (tree class state x)) (edited e name cs)
change e (name ∷ next ∷ rest) (inner (tree class state cs)) =
    on_ok (λ c. map_ok (λ s. inner (tree class state (place (key name) (c.0, s) cs))) (change e (next ∷ rest) c.1))
    (found (find (key name) cs))

-- What a call did, given what it is to do: it did this, or refused for this fault and changed nothing. Only what could
-- be done is refused for want of memory.
abbrev pub Outcome : {A : Type 0} → Result (Unit {0}) TreeFault → Result A TreeFault → A → A → Type 0
Outcome (Ok u) told old new = told ≡ Ok new
Outcome (Err NoMemory) told old new = IsOk told × (new ≡ old)
Outcome (Err fault) told old new = (told ≡ Err fault) × (new ≡ old)

-- what a call did that is to change what stands at a path
abbrev pub Changes : Result (Unit {0}) TreeFault → Edit → List (List ℕ) → Seen → Seen → Type 0
Changes result e path old new = Outcome result (change e path old) old new
