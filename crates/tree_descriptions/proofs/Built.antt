-- Steps of building a tree from a description.
use Rattle.std.proofs.Common.{◌≡◌, ◌≤◌, ◌<◌, ◌+◌, ℕ, Bool, true, false, cond, List, [], ◌∷◌, Option, Some, None, Result}
use Rattle.std.proofs.Common.{Ok, Err, length, refl, sym, ap, subst, ◌∙◌, ◌==◌, arith, rules}
use Rattle.std.specs.Prelude.{is_ok, nat_le, IsOk, IsTrue}
use Rattle.cfb_names.specs.Names.{key}
use Rattle.cfb_entries.specs.Tree.{Tree, Children, tree}
use Rattle.tree_storage.specs.Change.{Seen, bytes, inner, find, place, look, map_ok, on_ok, found, change, edited}
use Rattle.tree_storage.specs.Change.{Outcome}
use Rattle.tree_storage.specs.Kept.{Kept, kept, put, added, made, tree_of}
use Rattle.tree_storage.specs.declared.storage.Edit.{Edit}
use Rattle.tree_storage.specs.declared.storage.Edit.TheVariants.{Put, Add, Make}
use Rattle.tree_storage.specs.declared.fault.TreeFault.{TreeFault}
use Rattle.tree_storage.specs.declared.fault.TreeFault.TheVariants.{NotFound, Exists, WrongKind, NoTransaction, TooDeep}
use Rattle.tree_storage.specs.declared.fault.TreeFault.TheVariants.{NoMemory}
use Rattle.tree_storage.proofs.Lawful.{added_is_put}
use Rattle.cfb_file.specs.Need.{over_streams}
use Rattle.tree_descriptions.specs.Outline.{outline, outlined, total}
use Rattle.tree_descriptions.specs.Building.{IsBuilt, room}
use Rattle.tree_descriptions.specs.Description.{Refuses, of_tree, stream_made}
use Rattle.tree_descriptions.specs.Faults.{of_tree_fault}
use Rattle.tree_descriptions.specs.declared.building.Building.{Building}
use Rattle.tree_descriptions.specs.declared.fault.LineFault.{LineFault}
use Rattle.tree_descriptions.specs.declared.fault.LineFault.TheVariants as line
use Rattle.tree_descriptions.proofs.Outlines.{look-outlined, put-outlined, make-outlined}
use Rattle.tree_descriptions.proofs.Totals.{is_told, is_refused, ok-of, put-total, make-total}

pub is_ok-map : {A B : Type 0} (f : A → B) (r : Result A TreeFault) → is_ok (map_ok f r) ≡ is_ok r
is_ok-map f (Ok x) = refl
is_ok-map f (Err e) = refl

fault_told : {A : Type 0} {e f : TreeFault} → ◌≡◌ {A = Result A TreeFault} (Err e) (Err f) → e ≡ f
fault_told h = cc

-- a tree after a change
abbrev after : Kept → Seen → Kept
after k s = record { now = tree_of s k.now; saved = k.saved }

tree_of-outlined : (s : Seen) (t : Tree) → outline (tree_of s t) ≡ tree_of (outlined s) (outline t)
tree_of-outlined (bytes b) t = refl
tree_of-outlined (inner u) t = refl

-- changes that leave equal outlines, of trees with equal outlines
ok-alike : (a k : Kept) (ra rk : Result Seen TreeFault) (a' : Kept) → outline a.now ≡ outline k.now
    → map_ok outlined ra ≡ map_ok outlined rk
    → map_ok (after a) ra ≡ Ok a' → (x : Kept) × (map_ok (after k) rk ≡ Ok x) × (outline a'.now ≡ outline x.now)
ok-alike a k (Ok s) (Ok u) a' same alike told = (
  after k u,
  refl,
  ap (λ (q : Kept). outline q.now) (sym (is_told told)) ∙ tree_of-outlined s a.now
      ∙ ap (λ x. tree_of x (outline a.now)) (is_told alike) ∙ ap (tree_of (outlined u)) same
      ∙ sym (tree_of-outlined u k.now),
)
ok-alike a k (Ok s) (Err f) a' same alike told = absurd (is_refused (sym alike))
ok-alike a k (Err f) rk a' same alike told = absurd (is_refused told)

err-alike : (a k : Kept) (ra rk : Result Seen TreeFault) (fault : TreeFault)
    → map_ok outlined ra ≡ map_ok outlined rk → map_ok (after a) ra ≡ Err fault → map_ok (after k) rk ≡ Err fault
err-alike a k (Ok s) rk fault alike told = absurd (is_refused (sym told))
err-alike a k (Err f) (Ok u) fault alike told = absurd (is_refused alike)
err-alike a k (Err f) (Err g) fault alike told = ap Err (sym (fault_told alike) ∙ fault_told told)

looks-alike : (a k : Kept) (path : List (List ℕ)) → outline a.now ≡ outline k.now
    → is_ok (look path (inner k.now)) ≡ is_ok (look path (inner a.now))
looks-alike a k path same =
    sym (is_ok-map outlined (look path (inner k.now)))
    ∙ ap is_ok (sym (look-outlined path (inner k.now)) ∙ ap (λ t. look path (inner t)) (sym same)
    ∙ look-outlined path (inner a.now))
    ∙ is_ok-map outlined (look path (inner a.now))

puts-alike : (a k : Kept) (path : List (List ℕ)) (new : List ℕ) → outline a.now ≡ outline k.now
    → map_ok outlined (change (Put []) path (inner a.now)) ≡ map_ok outlined (change (Put new) path (inner k.now))
puts-alike a k path new same =
    sym (put-outlined [] path (inner a.now)) ∙ ap (λ t. change (Put []) path (inner t)) same
    ∙ put-outlined new path (inner k.now)

makes-alike : (a k : Kept) (path : List (List ℕ)) (class : List ℕ) (state : ℕ) (fits : Bool)
    → outline a.now ≡ outline k.now
    → map_ok outlined (change (Make class state fits) path (inner a.now))
    ≡ map_ok outlined (change (Make class state fits) path (inner k.now))
makes-alike a k path class state fits same =
    sym (make-outlined class state fits path (inner a.now))
    ∙ ap (λ t. change (Make class state fits) path (inner t)) same ∙ make-outlined class state fits path
    (inner k.now)

-- a change of a storage leaves a storage
inner-below : (e : Edit) (path : List (List ℕ)) (class : List ℕ) (state : ℕ) (k : List ℕ) (cs : Children)
    (f : Option (List ℕ × Seen)) (s : Seen)
    → on_ok (λ c. map_ok (λ x. inner (tree class state (place k (c.0, x) cs))) (change e path c.1)) (found f) ≡ Ok s
    → (u : Tree) × (s ≡ inner u)
inner-below e path class state k cs None s h = absurd (is_refused h)
inner-below e path class state k cs (Some c) s h =
    let told = ok-of (λ x. inner (tree class state (place k (c.0, x) cs))) (change e path c.1) s h in
    (tree class state (place k (c.0, told.0) cs), sym told.2)

inner-change : (e : Edit) (path : List (List ℕ)) (t : Tree) (s : Seen) → change e path (inner t) ≡ Ok s
    → (u : Tree) × (s ≡ inner u)
inner-change e [] t s h = absurd (is_refused h)
inner-change e (name ∷ []) (tree class state cs) s h =
    let told = ok-of (λ x. inner (tree class state x)) (edited e name cs) s h in (tree class state told.0, sym told.2)
inner-change e (name ∷ next ∷ rest) (tree class state cs) s h = inner-below e (next ∷ rest) class state (key name)
    cs (find (key name) cs) s h

grown : (e : Edit) (path : List (List ℕ)) (more : ℕ) (k x : Kept)
    → ((s : Seen) → change e path (inner k.now) ≡ Ok s → total (inner k.now) + more ≤ total s)
    → map_ok (after k) (change e path (inner k.now)) ≡ Ok x → over_streams length k.now + more
    ≤ over_streams length x.now
grown e path more k x grows h =
    let told = ok-of (after k) (change e path (inner k.now)) x h in
    let left = inner-change e path k.now told.0 told.1 in
    let more_is = grows told.0 told.1 in
    let now_is : over_streams length (tree_of told.0 k.now) ≡ over_streams length x.now =
    ap (λ (q : Kept). over_streams length q.now) told.2 in
    let tree_is : over_streams length (tree_of told.0 k.now) ≡ over_streams length left.0 =
    ap (λ s. over_streams length (tree_of s k.now)) left.1 in
    let seen_is : total told.0 ≡ over_streams length left.0 = ap total left.1 in
    omega (arith, more_is, now_is, tree_is, seen_is)

put-grows : (k x : Kept) (path : List (List ℕ)) (new : List ℕ) → is_ok (look path (inner k.now)) ≡ false
    → put path new k ≡ Ok x
    → over_streams length k.now + length new ≤ over_streams length x.now
put-grows k x path new free h = grown (Put new) path (length new) k x
    (λ s told. put-total new path (inner k.now) s free told) h

free-put : (k : Kept) (path : List (List ℕ)) (new : List ℕ) → is_ok (look path (inner k.now)) ≡ false
    → stream_made new k path ≡ of_tree (put path new k)
free-put k path new free = ap (λ t. cond t (Err (line.Tree Exists)) (of_tree (put path new k))) free

-- something stands at the path
pub exists : (b : Building) (k : Kept) (path : List (List ℕ)) (new : List ℕ) → IsBuilt b k
    → is_ok (look path (inner (kept b.tree).now)) ≡ true
    → stream_made new k path ≡ Err (line.Tree Exists)
exists b k path new built there = ap (λ t. cond t (Err (line.Tree Exists)) (of_tree (put path new k)))
    (looks-alike (kept b.tree) k path built.same ∙ there)

ok-same : (a k : Kept) (ra rk : Result Seen TreeFault) → map_ok outlined ra ≡ map_ok outlined rk
    → is_ok (map_ok (after a) ra) ≡ is_ok (map_ok (after k) rk)
ok-same a k ra rk alike =
    is_ok-map (after a) ra ∙ sym (is_ok-map outlined ra) ∙ ap is_ok alike ∙ is_ok-map outlined rk
    ∙ sym (is_ok-map (after k) rk)

of_tree-ok : (r : Result Kept TreeFault) → is_ok r ≡ is_ok (of_tree r)
of_tree-ok (Ok k) = refl
of_tree-ok (Err fault) = refl

-- where one could have been done, so could the other
also-ok : (told other : Result Kept TreeFault) → is_ok told ≡ is_ok other → IsOk told → IsOk (of_tree other)
also-ok told other same is = let P : Bool → Type 0 = IsTrue in subst P (same ∙ of_tree-ok other) is

refused-alike : (fault : TreeFault) (told other : Result Kept TreeFault) (old new : Kept) → is_ok told ≡ is_ok other
    → ((f : TreeFault) → told ≡ Err f → other ≡ Err f)
    → Outcome (Err fault) told old new → Refuses (of_tree other) (of_tree_fault fault)
refused-alike NotFound told other old new same alike h = ap of_tree (alike NotFound h.0)
refused-alike Exists told other old new same alike h = ap of_tree (alike Exists h.0)
refused-alike WrongKind told other old new same alike h = ap of_tree (alike WrongKind h.0)
refused-alike NoTransaction told other old new same alike h = ap of_tree (alike NoTransaction h.0)
refused-alike TooDeep told other old new same alike h = ap of_tree (alike TooDeep h.0)
refused-alike NoMemory told other old new same alike h = also-ok told other same h.0

-- the outline of a stream is put, or refused
pub outline-put : (b b' : Building) (k : Kept) (path : List (List ℕ)) (new : List ℕ) → IsBuilt b k
    → is_ok (look path (inner (kept b.tree).now)) ≡ false
    → put path [] (kept b.tree) ≡ Ok (kept b'.tree) → room < b'.spent → b'.spent ≤ b.spent + length new
    → (x : Kept) × (stream_made new k path ≡ Ok x) × IsBuilt b' x
outline-put b b' k path new built free h over few =
    let here : is_ok (look path (inner k.now)) ≡ false = looks-alike (kept b.tree) k path built.same ∙ free in
    let told = ok-alike (kept b.tree) k (change (Put []) path (inner (kept b.tree).now))
    (change (Put new) path (inner k.now)) (kept b'.tree) built.same
    (puts-alike (kept b.tree) k path new built.same) h in
    let more = put-grows k told.0 path new here told.1 in (
      told.0,
      free-put k path new here ∙ ap of_tree told.1,
      record {
        same = told.2;
        spent = omega (arith, built.spent, more);
        exact = λ within. absurd (omega arith);
      },
    )

pub outline-refused : (b : Building) (k after_it : Kept) (path : List (List ℕ)) (new : List ℕ) (fault : TreeFault)
    → IsBuilt b k → is_ok (look path (inner (kept b.tree).now)) ≡ false
    → Outcome (Err fault) (put path [] (kept b.tree)) (kept b.tree) after_it
    → Refuses (stream_made new k path) (of_tree_fault fault)
outline-refused b k after_it path new fault built free h =
    let here : is_ok (look path (inner k.now)) ≡ false = looks-alike (kept b.tree) k path built.same ∙ free in
    let P : Result Kept LineFault → Type 0 = λ r. Refuses r (of_tree_fault fault) in
    subst P (sym (free-put k path new here))
    (refused-alike fault (put path [] (kept b.tree)) (put path new k) (kept b.tree) after_it
    (ok-same (kept b.tree) k (change (Put []) path (inner (kept b.tree).now)) (change (Put new) path (inner k.now))
    (puts-alike (kept b.tree) k path new built.same))
    (λ f told. err-alike (kept b.tree) k (change (Put []) path (inner (kept b.tree).now))
    (change (Put new) path (inner k.now)) f (puts-alike (kept b.tree) k path new built.same) told) h)

-- a stream is made where nothing stands
made-map : (f : Seen → Kept) (b : Bool) (told other : Result Seen TreeFault) → told ≡ cond b (Err Exists) other
    → of_tree (map_ok f told) ≡ cond b (Err (line.Tree Exists)) (of_tree (map_ok f other))
made-map f true told other h = ap (λ r. of_tree (map_ok f r)) h
made-map f false told other h = ap (λ r. of_tree (map_ok f r)) h

made-is : (k : Kept) (path : List (List ℕ)) (new : List ℕ) → false ≡ (length path == 0)
    → of_tree (added path new k) ≡ stream_made new k path
made-is k [] new h = absurd (search (rules))
made-is k (name ∷ rest) new h =
    made-map (after k) (is_ok (look (name ∷ rest) (inner k.now))) (change (Add new) (name ∷ rest) (inner k.now))
    (change (Put new) (name ∷ rest) (inner k.now)) (added_is_put name rest new (inner k.now))

free-from : (k x : Kept) (path : List (List ℕ)) (new : List ℕ) → stream_made new k path ≡ Ok x
    → is_ok (look path (inner k.now)) ≡ false
free-from k x path new h =
    elim (is_ok (look path (inner k.now))) as (λ b. cond b (Err (line.Tree Exists)) (of_tree (put path new k))
    ≡ Ok x → b ≡ false) [ true ↦ λ g. absurd (search (rules)) | false ↦ λ g. refl ] h

of_tree-is : (r : Result Kept TreeFault) (x : Kept) → of_tree r ≡ Ok x → r ≡ Ok x
of_tree-is (Ok k) x h = cc
of_tree-is (Err fault) x h = absurd (search (rules))

some-name : (path : List (List ℕ)) → 1 ≤ length path → false ≡ (length path == 0)
some-name [] h = absurd (omega (arith, h))
some-name (name ∷ rest) h = grind (arith)

-- a stream that is made is told, and makes the tree grow by its bytes
pub made-grows : (k x : Kept) (path : List (List ℕ)) (new : List ℕ) → 1 ≤ length path → added path new k ≡ Ok x
    → (stream_made new k path ≡ Ok x) × (over_streams length k.now + length new ≤ over_streams length x.now)
made-grows k x path new named h =
    let told : stream_made new k path ≡ Ok x = sym (made-is k path new (some-name path named)) ∙ ap of_tree h in
    let free = free-from k x path new told in
    (told, put-grows k x path new free (of_tree-is (put path new k) x (sym (free-put k path new free) ∙ told)))

-- a stream is put with its bytes
pub whole-put : (b b' : Building) (k : Kept) (path : List (List ℕ)) (new : List ℕ) → IsBuilt b k
    → b.spent + length new ≤ room → false ≡ (length path == 0)
    → added path new (kept b.tree) ≡ Ok (kept b'.tree) → b'.spent ≡ b.spent + length new → (x : Kept)
    × (stream_made new k path ≡ Ok x) × IsBuilt b' x
whole-put b b' k path new built within below h spent =
    let is : kept b.tree ≡ k = built.exact (omega arith) in
    let told : stream_made new k path ≡ Ok (kept b'.tree) = sym (made-is k path new below)
    ∙ ap (λ q. of_tree (added path new q)) (sym is) ∙ ap of_tree h in
    let free = free-from k (kept b'.tree) path new told in
    let more = put-grows k (kept b'.tree) path new free
    (of_tree-is (put path new k) (kept b'.tree) (sym (free-put k path new free) ∙ told)) in
    (kept b'.tree, told, record { same = refl; spent = omega (arith, built.spent, more); exact = λ _. refl })

-- a storage is made, or refused
pub storage-made : (b b' : Building) (k : Kept) (path : List (List ℕ)) (class : List ℕ) (state : ℕ) → IsBuilt b k
    → made path class state (kept b.tree) ≡ Ok (kept b'.tree) → b'.spent ≡ b.spent → (x : Kept)
    × (of_tree (made path class state k) ≡ Ok x) × IsBuilt b' x
storage-made b b' k path class state built h spent =
    let make : Edit = Make class state (nat_le (length path) 32) in
    let told = ok-alike (kept b.tree) k (change make path (inner (kept b.tree).now))
    (change make path (inner k.now)) (kept b'.tree) built.same
    (makes-alike (kept b.tree) k path class state (nat_le (length path) 32) built.same) h in
    let more = grown make path 0 k told.0 (λ s t. let wider = make-total class state (nat_le (length path) 32) path
    (inner k.now) s t in omega (arith, wider)) told.1 in (
      told.0,
      ap of_tree told.1,
      record {
        same = told.2;
        spent = omega (arith, built.spent, more);
        exact = λ within. let is : kept b.tree ≡ k = built.exact (omega arith) in
            is_told (sym h ∙ ap (made path class state) is ∙ told.1);
      },
    )

pub storage-refused : (b : Building) (k after_it : Kept) (path : List (List ℕ)) (class : List ℕ) (state : ℕ)
    (fault : TreeFault) → IsBuilt b k
    → Outcome (Err fault) (made path class state (kept b.tree)) (kept b.tree) after_it
    → Refuses (of_tree (made path class state k)) (of_tree_fault fault)
storage-refused b k after_it path class state fault built h =
    let make : Edit = Make class state (nat_le (length path) 32) in
    refused-alike fault (made path class state (kept b.tree)) (made path class state k) (kept b.tree) after_it
    (ok-same (kept b.tree) k (change make path (inner (kept b.tree).now)) (change make path (inner k.now))
    (makes-alike (kept b.tree) k path class state (nat_le (length path) 32) built.same))
    (λ f told. err-alike (kept b.tree) k (change make path (inner (kept b.tree).now)) (change make path (inner k.now)) f
    (makes-alike (kept b.tree) k path class state (nat_le (length path) 32) built.same) told) h

-- a stream with bytes can be put where one without is
pub empty-ok : (b b' : Building) (k : Kept) (path : List (List ℕ)) (new : List ℕ) → IsBuilt b k
    → is_ok (look path (inner (kept b.tree).now)) ≡ false
    → put path [] (kept b.tree) ≡ Ok (kept b'.tree) → IsOk (stream_made new k path)
empty-ok b b' k path new built free h =
    let here : is_ok (look path (inner k.now)) ≡ false = looks-alike (kept b.tree) k path built.same ∙ free in
    let P : Result Kept LineFault → Type 0 = IsOk in
    let Q : Result Kept TreeFault → Type 0 = IsOk in
    let done : IsOk (put path [] (kept b.tree)) = subst Q (sym h) refl in
    subst P (sym (free-put k path new here)) (also-ok (put path [] (kept b.tree)) (put path new k)
    (ok-same (kept b.tree) k (change (Put []) path (inner (kept b.tree).now)) (change (Put new) path (inner k.now))
    (puts-alike (kept b.tree) k path new built.same)) done)

-- a stream with its bytes is refused
pub whole-refused : (b : Building) (k after_it : Kept) (path : List (List ℕ)) (new : List ℕ) (fault : TreeFault)
    → IsBuilt b k → b.spent + length new ≤ room
    → false ≡ (length path == 0)
    → Outcome (Err fault) (added path new (kept b.tree)) (kept b.tree) after_it
    → Refuses (stream_made new k path) (of_tree_fault fault)
whole-refused b k after_it path new fault built within below h =
    let is : kept b.tree ≡ k = built.exact (omega arith) in
    let same : added path new (kept b.tree) ≡ added path new k = ap (added path new) is in
    let P : Result Kept LineFault → Type 0 = λ r. Refuses r (of_tree_fault fault) in
    subst P (made-is k path new below) (refused-alike fault (added path new (kept b.tree)) (added path new k)
    (kept b.tree) after_it
    (ap is_ok same) (λ f told. sym same ∙ told) h)
