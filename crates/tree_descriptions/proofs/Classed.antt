-- What a description describes has class ids and state bits as long as a file spells them.
use Rattle.std.proofs.Common.{◌≡◌, ◌<◌, ◌^◌, ℕ, Bool, true, false, cond, List, [], ◌∷◌, Option, Some, None, Result, Ok}
use Rattle.std.proofs.Common.{Err, IfOk, IfSome, length, replicate, refl, subst, arith}
use Rattle.std.specs.Prelude.{is_ok, nat_le}
use Rattle.std.specs.Ordering.{match_ordering}
use Rattle.std.specs.declared.cmp.Ordering.TheVariants.{Less, Equal, Greater}
use Rattle.cfb_names.specs.Names.{key, key_cmp, key_eq}
use Rattle.cfb_entries.specs.Tree.{Tree, Children, tree, none, stream, storage}
use Rattle.tree_storage.specs.Change.{Seen, bytes, inner, child, find, place, look, map_ok, on_ok, found, change}
use Rattle.tree_storage.specs.Change.{edited, put_seen, putting, making}
use Rattle.tree_storage.specs.Kept.{Kept, put, made, tree_of}
use Rattle.tree_storage.specs.declared.storage.Edit.{Edit}
use Rattle.tree_storage.specs.declared.storage.Edit.TheVariants.{Put, Make}
use Rattle.tree_storage.specs.declared.fault.TreeFault.{TreeFault}
use Rattle.tree_storage.specs.declared.fault.TreeFault.TheVariants.{Exists}
use Rattle.text_io.specs.declared.lines.SyntaxFault.{SyntaxFault}
use Rattle.tree_descriptions.specs.Commands.{commands_read}
use Rattle.tree_descriptions.specs.Description.{at_line, carried, carried_out, described, nothing, of_syntax, of_tree}
use Rattle.tree_descriptions.specs.Description.{stream_made, then_by, zero_class}
use Rattle.tree_descriptions.specs.declared.command.Command.{Command}
use Rattle.tree_descriptions.specs.declared.command.Command.TheVariants.{Storage, Stream, Fill}
use Rattle.tree_descriptions.specs.declared.fault.LineFault.{LineFault}
use Rattle.tree_descriptions.specs.declared.fault.LineFault.TheVariants as line

-- each storage has a class id of 16 bytes and state bits of four
abbrev mutual
  pub IsClassed : Tree → Type 0
  IsClassed (tree class state cs) = (length class ≡ 16) × (state < 2 ^ 32) × AreClassed cs

  pub AreClassed : Children → Type 0
  AreClassed none = Unit {0}
  AreClassed (stream k n b cs) = AreClassed cs
  AreClassed (storage k n t cs) = IsClassed t × AreClassed cs

abbrev IsSeen : Seen → Type 0
IsSeen (bytes b) = Unit {0}
IsSeen (inner t) = IsClassed t

abbrev pub IsKept : Kept → Type 0
IsKept k = IsClassed k.now

child-classed : (k n : List ℕ) (s : Seen) (cs : Children) → IsSeen s → AreClassed cs → AreClassed (child k (n, s) cs)
child-classed k n (bytes b) cs i j = j
child-classed k n (inner t) cs i j = (i, j)

place-classed : (k n : List ℕ) (s : Seen) (cs : Children) → IsSeen s → AreClassed cs → AreClassed (place k (n, s) cs)
place-classed k n s none i j = child-classed k n s none i tt
place-classed k n s (stream q m b cs) i j =
    elim (key_cmp k q) as (λ o. AreClassed (match_ordering o (child k (n, s) (stream q m b cs)) (child q (n, s) cs)
    (stream q m b (place k (n, s) cs)))) [
      | Less ↦ child-classed k n s (stream q m b cs) i j
      | Equal ↦ child-classed q n s cs i j
      | Greater ↦
          place-classed k n s cs i j
    ]
place-classed k n s (storage q m t cs) i j =
    elim (key_cmp k q) as (λ o. AreClassed (match_ordering o (child k (n, s) (storage q m t cs)) (child q (n, s) cs)
    (storage q m t (place k (n, s) cs)))) [
      | Less ↦ child-classed k n s (storage q m t cs) i j
      | Equal ↦ child-classed q n s cs i j.1
      | Greater ↦
          (j.0, place-classed k n s cs i j.1)
    ]

find-classed : (k : List ℕ) (cs : Children) → AreClassed cs → IfSome (find k cs) (λ c. IsSeen c.1)
find-classed k none j = tt
find-classed k (stream q n b cs) j =
    elim (key_eq k q) as (λ t. IfSome (cond t (Some (n, bytes b)) (find k cs)) (λ c. IsSeen c.1)) [
      | true ↦
          tt
      | false ↦ find-classed k cs j
    ]
find-classed k (storage q n t cs) j =
    elim (key_eq k q) as (λ u. IfSome (cond u (Some (n, inner t)) (find k cs)) (λ c. IsSeen c.1)) [
      | true ↦
          j.0
      | false ↦ find-classed k cs j.1
    ]

-- a change that leaves the children of a storage so leaves the whole so
module _ (e : Edit) (here : (name : List ℕ) (cs : Children) → AreClassed cs → IfOk (edited e name cs) AreClassed) where
  wrapped : (class : List ℕ) (state : ℕ) (r : Result Children TreeFault) → length class ≡ 16 → state < 2 ^ 32
      → IfOk r AreClassed
      → IfOk (map_ok (λ x. inner (tree class state x)) r) IsSeen
  wrapped class state (Ok cs) a b j = (a, b, j)
  wrapped class state (Err fault) a b j = tt

  placed : (class : List ℕ) (state : ℕ) (k n : List ℕ) (cs : Children) (r : Result Seen TreeFault)
      → length class ≡ 16 → state < 2 ^ 32 → AreClassed cs → IfOk r IsSeen
      → IfOk (map_ok (λ s. inner (tree class state (place k (n, s) cs))) r) IsSeen
  placed class state k n cs (Ok s) a b j i = (a, b, place-classed k n s cs i j)
  placed class state k n cs (Err fault) a b j i = tt

  below : (path : List (List ℕ)) (at : (s : Seen) → IsSeen s → IfOk (change e path s) IsSeen)
      (class : List ℕ) (state : ℕ) (k : List ℕ) (cs : Children) (f : Option (List ℕ × Seen)) → length class ≡ 16
      → state < 2 ^ 32 → AreClassed cs → IfSome f (λ c. IsSeen c.1)
      → IfOk (on_ok (λ c. map_ok (λ s. inner (tree class state (place k (c.0, s) cs))) (change e path c.1))
      (found f)) IsSeen
  below path at class state k cs None a b j i = tt
  below path at class state k cs (Some c) a b j i = placed class state k c.0 cs (change e path c.1) a b j (at c.1 i)

  change-classed : (path : List (List ℕ)) (s : Seen) → IsSeen s → IfOk (change e path s) IsSeen
  change-classed path (bytes b) i = tt
  change-classed [] (inner t) i = tt
  change-classed (name ∷ []) (inner (tree class state cs)) i = wrapped class state (edited e name cs) i.0 i.1
      (here name cs i.2)
  change-classed (name ∷ next ∷ rest) (inner (tree class state cs)) i =
      below (next ∷ rest) (change-classed (next ∷ rest)) class state (key name) cs (find (key name) cs) i.0 i.1 i.2
      (find-classed (key name) cs i.2)

seen-put : (new k n : List ℕ) (cs : Children) (s : Seen) → AreClassed cs
    → IfOk (map_ok (λ x. place k (n, x) cs) (put_seen new s)) AreClassed
seen-put new k n cs (bytes b) j = place-classed k n (bytes new) cs tt j
seen-put new k n cs (inner t) j = tt

putting-classed : (new name : List ℕ) (cs : Children) (f : Option (List ℕ × Seen)) → AreClassed cs
    → IfOk (putting name new cs f) AreClassed
putting-classed new name cs None j = place-classed (key name) name (bytes new) cs tt j
putting-classed new name cs (Some c) j = seen-put new (key name) c.0 cs c.1 j

making-classed : (class : List ℕ) (state : ℕ) (fits : Bool) (name : List ℕ) (cs : Children)
    (f : Option (List ℕ × Seen)) → length class ≡ 16 → state < 2 ^ 32 → AreClassed cs
    → IfOk (making name class state fits cs f) AreClassed
making-classed class state true name cs None a b j = place-classed (key name) name (inner (tree class state none))
    cs (a, b, tt) j
making-classed class state false name cs None a b j = tt
making-classed class state fits name cs (Some c) a b j = tt

-- ---- the commands
kept-after : (k : Kept) (r : Result Seen TreeFault) → IsKept k → IfOk r IsSeen
    → IfOk (of_tree (map_ok (λ s. record { now = tree_of s k.now; saved = k.saved }) r)) IsKept
kept-after k (Ok (bytes b)) i j = i
kept-after k (Ok (inner t)) i j = j
kept-after k (Err fault) i j = tt

stream-classed : (new : List ℕ) (k : Kept) (path : List (List ℕ)) → IsKept k → IfOk (stream_made new k path) IsKept
stream-classed new k path i =
    elim (is_ok (look path (inner k.now))) as (λ b. IfOk
    (cond b (Err (line.Tree Exists)) (of_tree (put path new k))) IsKept) [
      | true ↦ tt
      | false ↦ kept-after k (change (Put new) path (inner k.now)) i
          (change-classed (Put new) (λ name cs j. putting-classed new name cs (find (key name) cs) j) path
          (inner k.now) i)
    ]

storage-classed : (k : Kept) (path : List (List ℕ)) → IsKept k → IfOk (of_tree (made path zero_class 0 k)) IsKept
storage-classed k path i =
    let fits : Bool = nat_le (length path) 32 in
    kept-after k (change (Make zero_class 0 fits) path (inner k.now)) i
    (change-classed (Make zero_class 0 fits)
    (λ name cs j. making-classed zero_class 0 fits name cs (find (key name) cs) refl (omega arith) j) path
    (inner k.now) i)

out-classed : (c : Command) (k : Kept) → IsKept k → IfOk (carried_out c k) IsKept
out-classed (Storage (Ok names)) k i = storage-classed k names i
out-classed (Storage (Err fault)) k i = tt
out-classed (Stream (Ok names) content) k i = stream-classed content k names i
out-classed (Stream (Err fault) content) k i = tt
out-classed (Fill (Ok names) count byte) k i = stream-classed (replicate count byte) k names i
out-classed (Fill (Err fault) count byte) k i = tt

then-classed : (n : ℕ) (others : List (ℕ × Command)) (r : Result Kept LineFault)
    → ((k : Kept) → IsKept k → IfOk (carried others k) IsKept) → IfOk r IsKept
    → IfOk (then_by (at_line n r) (carried others)) IsKept
then-classed n others (Ok k) rest i = rest k i
then-classed n others (Err fault) rest i = tt

carried-classed : (cs : List (ℕ × Command)) (k : Kept) → IsKept k → IfOk (carried cs k) IsKept
carried-classed [] k i = i
carried-classed ((n, c) ∷ others) k i = then-classed n others (carried_out c k) (carried-classed others)
    (out-classed c k i)

lines-classed : (r : Result (List (ℕ × Command)) (ℕ × SyntaxFault))
    → IfOk (then_by (of_syntax r) (λ commands. carried commands nothing)) IsKept
lines-classed (Ok cs) = carried-classed cs nothing (refl, omega arith, tt)
lines-classed (Err (n, fault)) = tt

pub described-classed : (text : List ℕ) (k : Kept) → described text ≡ Ok k → IsKept k
described-classed text k is = subst (λ r. IfOk r IsKept) is (lines-classed (commands_read text))
