-- Children read one after another, in the order of their names.
use Rattle.std.proofs.Common.{◌≡◌, ◌<◌, ◌≤◌, ◌+◌, ℕ, suc, List, ◌∷◌, ◌++◌, length, get_or, drop, refl, sym, subst}
use Rattle.std.proofs.lemmas.List.{drop_more, drop_all}
use Rattle.std.specs.List.{Contains}
use Rattle.std.proofs.lemmas.List.Elements.{Contains-get_or}
use Rattle.tree_storage.specs.Change.{Seen, bytes, inner, child}
use Rattle.cfb_entries.specs.Tree.{Children, none, stream, storage}
use Rattle.read_files.specs.Reads.{AreRead, IsChildRead}
use Rattle.cfb_faults.specs.Faults.{Base}
use Rattle.read_files.specs.Marks.{IsMetBelow, IsUnderway}
use Rattle.read_files.specs.declared.read.Reader.{Reader}
use Rattle.read_outlines.proofs.Followed.{followed, followed-child, followed-none}
use Rattle.read_files.proofs.ReadingKept.{IsKept, kept_node, kept_none, kept_then}
use Rattle.read_files.proofs.ReadingMarks.{below_kept, underway_node}
use Rattle.read_files.proofs.ReadingOnce.{node_once}

-- ---- one entry after another
read_cons : (depth id : ℕ) (ids k name : List ℕ) (s : Seen) (ds : Children) (old next new : Reader)
    → IsChildRead depth id k name s old next
    → AreRead depth ids ds next new → AreRead depth (id ∷ ids) (child k (name, s) ds) old new
read_cons depth id ids k name (bytes b) ds old next new h r = (h.named, (next, h.is_read, r))
read_cons depth id ids k name (inner t) ds old next new h r = (h.named, (next, h.is_read, r))

-- the first of entries that are read, and the rest
pub record IsFirstRead (depth id : ℕ) (ids : List ℕ) (old new : Reader) : Type 0 where
  pub k : List ℕ
  pub name : List ℕ
  pub node : Seen
  pub next : Reader
  pub rest : Children
  pub first : IsChildRead depth id k name node old next
  pub others : AreRead depth ids rest next new

pub first_read : (depth id : ℕ) (ids : List ℕ) (ds : Children) (old new : Reader)
    → AreRead depth (id ∷ ids) ds old new → IsFirstRead depth id ids old new
first_read depth id ids none old new h = absurd h
first_read depth id ids (stream k n b ds) old new h = record {
  k = k;
  name = n;
  node = bytes b;
  next = h.1.0;
  rest = ds;
  first = record { named = h.0; is_read = h.1.1 };
  others = h.1.2;
}
first_read depth id ids (storage k n t ds) old new h = record {
  k = k;
  name = n;
  node = inner t;
  next = h.1.0;
  rest = ds;
  first = record { named = h.0; is_read = h.1.1 };
  others = h.1.2;
}

-- what is read so far: the children, and what is left
pub record Progress (depth : ℕ) (ids : List ℕ) (old : Reader) (i : ℕ) (r : Reader) (cs : Children) : Type 0 where
  pub kept : IsKept old r
  pub sound : (ds : Children) (new : Reader) → AreRead depth (drop i ids) ds r new
      → AreRead depth ids (followed cs ds) old new
  pub complete : (ds : Children) (new : Reader) → AreRead depth ids ds old new → (es : Children)
      × AreRead depth (drop i ids) es r new
  pub underway : (b : Base) (levels : ℕ) (pending : List ℕ)
      → ((n : ℕ) → Contains ids n → IsMetBelow b.directory old (suc levels) n) → IsUnderway b (ids ++ pending) old
      → IsUnderway b (drop i ids ++ pending) r

pub progress_none : (depth : ℕ) (ids : List ℕ) (old : Reader) → Progress depth ids old 0 old none
progress_none depth ids old = record {
  kept = kept_none old;
  sound = λ ds new h. h;
  complete = λ ds new h. (ds, h);
  underway = λ b levels pending f h. h;
}

-- the next entry, behind those so far
pub progress_more : (depth : ℕ) (ids : List ℕ) (old : Reader) (i : ℕ) (r next : Reader) (cs : Children)
    (k name : List ℕ) (s : Seen) → i < length ids → Progress depth ids old i r cs
    → IsChildRead depth (get_or ids i 0) k name s r next
    → Progress depth ids old (i + 1) next (followed cs (child k (name, s) none))
progress_more depth ids old i r next cs k name s lt h is_read =
    let id : ℕ = get_or ids i 0 in
    let rest : drop i ids ≡ id ∷ drop (i + 1) ids = drop_more ids i 0 lt in
    record {
      kept = kept_then old r next h.kept (kept_node depth id s r next is_read.is_read);
      sound = λ es new q.
          let here : AreRead depth (id ∷ drop (i + 1) ids) (child k (name, s) es) r new =
          read_cons depth id (drop (i + 1) ids) k name s es r next new is_read q in
          let all : AreRead depth ids (followed cs (child k (name, s) es)) old new =
          h.sound (child k (name, s) es) new (subst (λ (xs : List ℕ). AreRead depth xs (child k (name, s) es) r new)
          (sym rest) here) in
          subst (λ (x : Children). AreRead depth ids x old new) (sym (followed-child cs k (name, s) es)) all;
      complete = λ es new q.
          let left : (xs : Children) × AreRead depth (drop i ids) xs r new = h.complete es new q in
          let first : IsFirstRead depth id (drop (i + 1) ids) r new =
          first_read depth id (drop (i + 1) ids) left.0 r new
          (subst (λ (xs : List ℕ). AreRead depth xs left.0 r new) rest left.1) in
          let same : first.next ≡ next = node_once depth id first.node s r first.next next first.first.is_read
          is_read.is_read in
          (first.rest, subst (λ (x : Reader). AreRead depth (drop (i + 1) ids) first.rest x new) same first.others);
      underway = λ b levels pending f q.
          let here : IsUnderway b (id ∷ (drop (i + 1) ids ++ pending)) r =
          subst (λ (xs : List ℕ). IsUnderway b (xs ++ pending) r) rest (h.underway b levels pending f q) in
          underway_node b depth levels id s r next (drop (i + 1) ids ++ pending)
          (below_kept b.directory old r (suc levels) id h.kept (f id (Contains-get_or ids i 0 lt))) here
          is_read.is_read;
    }

-- the next entry can be read
pub progress_next : (depth : ℕ) (ids : List ℕ) (old : Reader) (i : ℕ) (r new : Reader) (cs ds : Children)
    → i < length ids → Progress depth ids old i r cs
    → AreRead depth ids ds old new → IsFirstRead depth (get_or ids i 0) (drop (i + 1) ids) r new
progress_next depth ids old i r new cs ds lt h q =
    let left : (xs : Children) × AreRead depth (drop i ids) xs r new = h.complete ds new q in
    first_read depth (get_or ids i 0) (drop (i + 1) ids) left.0 r new
    (subst (λ (xs : List ℕ). AreRead depth xs left.0 r new) (drop_more ids i 0 lt) left.1)

-- at the end all are read
pub progress_all : (depth : ℕ) (ids : List ℕ) (old : Reader) (i : ℕ) (r : Reader) (cs : Children) → length ids ≤ i
    → Progress depth ids old i r cs
    → AreRead depth ids cs old r
progress_all depth ids old i r cs le h =
    let nothing : AreRead depth (drop i ids) none r r = subst (λ (xs : List ℕ). AreRead depth xs none r r)
    (sym (drop_all i ids le)) refl in
    subst (λ (x : Children). AreRead depth ids x old r) (followed-none cs) (h.sound none r nothing)
