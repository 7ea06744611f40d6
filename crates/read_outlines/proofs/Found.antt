-- The part of a name, and the stream at a path, found among the parts of an outline.
use Rattle.std.proofs.Common.{◌≡◌, ◌∙◌, ◌∷◌, ℕ, true, false, cond, List, Some, None, Err, ap, refl, sym}
use Rattle.cfb_names.specs.Names.{key, key_eq}
use Rattle.tree_storage.specs.Change.{Seen, bytes, inner, child, find, found, look, on_ok}
use Rattle.cfb_entries.specs.Tree.{Children, Tree, tree}
use Rattle.tree_storage.specs.declared.fault.TreeFault.TheVariants.{NotFound}
use Rattle.read_outlines.specs.Streams.{stream_at, stream_bytes}

find-child : (k q n : List ℕ) (s : Seen) (cs : Children) → find k (child q (n, s) cs)
    ≡ cond (key_eq k q) (Some (n, s)) (find k cs)
find-child k q n (bytes b) cs = refl
find-child k q n (inner t) cs = refl

pub found-here : (k q n : List ℕ) (s : Seen) (cs : Children) → key_eq k q ≡ true
    → find k (child q (n, s) cs) ≡ Some (n, s)
found-here k q n s cs h = find-child k q n s cs ∙ ap (λ b. cond b (Some (n, s)) (find k cs)) h

pub found-behind : (k q n : List ℕ) (s : Seen) (cs : Children) → key_eq k q ≡ false
    → find k (child q (n, s) cs) ≡ find k cs
found-behind k q n s cs h = find-child k q n s cs ∙ ap (λ b. cond b (Some (n, s)) (find k cs)) h

pub stream-below : (path : List (List ℕ)) (name : List ℕ) (rest : List (List ℕ)) (t : Tree) (class : List ℕ)
    (state : ℕ) (cs : Children) (n : List ℕ) (s : Seen)
    → path ≡ name ∷ rest → t ≡ tree class state cs → find (key name) cs ≡ Some (n, s)
    → on_ok stream_bytes (look rest s) ≡ stream_at path t
stream-below path name rest t class state cs n s p q h =
    ap (λ o. on_ok stream_bytes (on_ok (λ c. look rest c.1) (found o))) (sym h)
    ∙ ap (λ u. on_ok stream_bytes (look (name ∷ rest) (inner u))) (sym q)
    ∙ ap (λ ns. on_ok stream_bytes (look ns (inner t))) (sym p)

pub stream-none : (path : List (List ℕ)) (name : List ℕ) (rest : List (List ℕ)) (t : Tree) (class : List ℕ)
    (state : ℕ) (cs : Children)
    → path ≡ name ∷ rest → t ≡ tree class state cs → find (key name) cs ≡ None → Err NotFound ≡ stream_at path t
stream-none path name rest t class state cs p q h =
    ap (λ o. on_ok stream_bytes (on_ok (λ c. look rest c.1) (found o))) (sym h)
    ∙ ap (λ u. on_ok stream_bytes (look (name ∷ rest) (inner u))) (sym q)
    ∙ ap (λ ns. on_ok stream_bytes (look ns (inner t))) (sym p)
