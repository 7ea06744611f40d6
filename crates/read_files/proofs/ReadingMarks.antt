-- What is read is what the marks stand for.
use Rattle.std.proofs.Common.{◌≡◌, ◌-◌, ◌⊎◌, inl, inr, ℕ, suc, Bool, true, false, if◌then◌else◌, List, [], ◌∷◌, ◌++◌}
use Rattle.std.proofs.Common.{get_or, refl, sym, ◌∙◌, ap, subst, nat_lt}
use Rattle.std.proofs.lemmas.List.Elements.{All-contains, Contains-append_cases}
use Rattle.std.specs.List.{Contains}
use Rattle.cfb_chains.specs.Chain.{IsChainOf}
use Rattle.cfb_chains.specs.Fat.{FatValue, marked, store_of}
use Rattle.cfb_chains.proofs.Marks.{distinct_append, distinct_tail, marked_only}
use Rattle.cfb_entries.specs.Entries.{AreFree, AreLinked, IsFree, child, entry_at, first_of, kind, size_of}
use Rattle.cfb_entries.proofs.Marks.{set_all-stays, set_all-there}
use Rattle.tree_storage.specs.Change.{Seen, bytes, inner}
use Rattle.cfb_entries.specs.Tree.{Tree, Children, tree, none, stream, storage}
use Rattle.cfb_file.proofs.Lists.{Contains-behind, Contains-front}
use Rattle.cfb_faults.specs.Faults.{Base, IsBelow, IsStorage, store_in}
use Rattle.cfb_faults.proofs.Below.{below_more, below_not_root, linked_child}
use Rattle.read_files.specs.Marks.{IsBegun, IsInRead, IsMet, IsMetBelow, IsMetChild, IsUnderway}
use Rattle.read_files.specs.Reads.{AreRead, AreSorted, IsNodeRead, IsStorageRead, IsStreamRead, IsTaken, directory_in}
use Rattle.read_files.specs.Reads.{met}
use Rattle.read_files.specs.declared.read.Reader.{Reader}
use Rattle.read_files.proofs.ReadingHeld.{IsNew, met_new, only_one}
use Rattle.read_files.proofs.ReadingKept.{IsKept, kept_storage, kept_stream}
use Rattle.cfb_faults.proofs.Lists.{distinct-head}
use Rattle.cfb_faults.proofs.Keys.{sorted_distinct}

-- ---- what was begun in one reader was begun in the other
child_moved : (dir : List ℕ) (r s : Reader) (pending waiting : List ℕ)
    → ((x : ℕ) → IsBegun r pending x → IsBegun s waiting x) → (n : ℕ) → IsMetChild dir r pending n
    → IsMetChild dir s waiting n
child_moved dir r s pending waiting f n h = record {
  levels = h.levels;
  parent = h.parent;
  below = h.below;
  begun = f h.parent h.begun;
  child_of = h.child_of;
}

read_moved : (b : Base) (r s : Reader) (pending waiting : List ℕ)
    → ((x : ℕ) → IsBegun r pending x → IsBegun s waiting x) → (short : Bool) (n : ℕ)
    → IsInRead b r pending short n → IsInRead b s waiting short n
read_moved b r s pending waiting f short n h = record {
  levels = h.levels;
  other = h.other;
  below = h.below;
  begun = f h.other h.begun;
  is_stream = h.is_stream;
  in_table = h.in_table;
  ns = h.ns;
  is_chain = h.is_chain;
  there = h.there;
}

pub same_directory : (b : Base) (pending : List ℕ) (r : Reader) → IsUnderway b pending r → b.directory ≡ directory_in r
same_directory b pending r h = ap (λ (x : Base). x.directory) h.base

pub below_kept : (dir : List ℕ) (old new : Reader) (levels id : ℕ) → IsKept old new → IsMetBelow dir old levels id
    → IsMetBelow dir new levels id
below_kept dir old new levels id k h = record { below = h.below; met = λ n c. k.marks n (h.met n c) }

-- ---- a storage whose children are found
module _ (b : Base) (levels id : ℕ) (pending : List ℕ) (old : Reader) (h : IsUnderway b (id ∷ pending) old)
    (stands : IsMetBelow b.directory old levels id)
    (is_storage : IsStorage b.directory id) where
  abbrev pub one_below : (reached : List ℕ) → AreLinked b.directory (child (entry_at b.directory id)) reached
      → AreFree old.entries reached → (n : ℕ) → Contains reached n
      → IsBelow b.directory (suc levels) n
  one_below reached linked free n c =
      below_more b.directory levels id n stands.below (linked_child b.directory id n reached is_storage linked c)
      (λ w. met_new old n (stands.met n w) (All-contains (IsFree old.entries) reached n free.free c).1)

  module _ (ids : List ℕ) (s : AreSorted old.entries id ids) where
    mid : Reader
    mid = met s.reached old

    abbrev linked : AreLinked b.directory (child (entry_at b.directory id)) s.reached
    linked = subst (λ (d : List ℕ). AreLinked d (child (entry_at d id)) s.reached)
        (sym (same_directory b (id ∷ pending) old h)) s.linked

    new_one : (n : ℕ) → Contains ids n → IsNew old n
    new_one n c = (All-contains (IsFree old.entries) s.reached n s.free.free ((s.same n).1 c)).1

    met_still : (n : ℕ) → IsMet old n → IsMet (met s.reached old) n
    met_still n m = set_all-stays old.entries.used s.reached n m

    begun_still : (n : ℕ) → IsBegun old (id ∷ pending) n → IsBegun (met s.reached old) (ids ++ pending) n
    begun_still n g = (
      met_still n g.0,
      λ c. elim (Contains-append_cases ids pending n c) [
        | inl i ↦ met_new old n g.0 (new_one n i)
        | inr p ↦
            g.1 (Contains-behind id pending n p)
      ],
    )

    own_met : IsMet old id
    own_met = h.waiting id (Contains-front id pending)

    own_begun : IsBegun (met s.reached old) (ids ++ pending) id
    own_begun = (
      met_still id own_met,
      λ c. elim (Contains-append_cases ids pending id c) [
        | inl i ↦ met_new old id own_met (new_one id i)
        | inr p ↦
            distinct-head id pending h.once p
      ],
    )

    pub underway_opened : IsUnderway b (ids ++ pending) (met s.reached old)
    underway_opened = record {
      base = h.base;
      once = distinct_append ids pending (sorted_distinct (directory_in old) ids s.ordered)
          (distinct_tail id pending h.once)
          (λ n c d. met_new old n (h.waiting n (Contains-behind id pending n d)) (new_one n c));
      waiting = λ n c.
          elim (Contains-append_cases ids pending n c) [
            | inl i ↦ set_all-there old.entries.used s.reached n ((s.same n).1 i)
            | inr p ↦ met_still n (h.waiting n (Contains-behind id pending n p))
          ];
      met = λ n lt m.
          elim (marked_only old.entries.used s.reached n m) [
            | inl o ↦ elim (h.met n lt o) [
              | inl z ↦ inl z
              | inr q ↦ inr (child_moved b.directory old (met s.reached old) (id ∷ pending) (ids ++ pending)
                  begun_still n q)
            ]
            | inr c ↦ inr (record {
              levels = levels;
              parent = id;
              below = stands.below;
              begun = own_begun;
              child_of = linked_child b.directory id n s.reached is_storage linked c;
            })
          ];
      taken = λ n t.
          elim (h.taken n t) [
            | inl o ↦ inl o
            | inr q ↦ inr (read_moved b old (met s.reached old) (id ∷ pending) (ids ++ pending) begun_still false n q)
          ];
      taken_minis = λ n t. read_moved b old (met s.reached old) (id ∷ pending) (ids ++ pending) begun_still true n
          (h.taken_minis n t);
    }

    pub children_stand : (n : ℕ) → Contains ids n → IsMetBelow b.directory (met s.reached old) (suc levels) n
    children_stand n c =
        let here : IsBelow b.directory (suc levels) n = one_below s.reached linked s.free n ((s.same n).1 c) in
        record {
          below = here;
          met = λ m w.
              elim (Contains-append_cases (0 ∷ stands.below.way) (n ∷ []) m w) [
                | inl a ↦ met_still m (stands.met m a)
                | inr e ↦ subst (IsMet (met s.reached old)) (only_one n m e)
                    (set_all-there old.entries.used s.reached n ((s.same n).1 c))
              ];
        }

-- ---- a stream that is read
taken_after : (short : Bool) (ns : List ℕ) (f : FatValue) (n : ℕ) → IsTaken (if short then f else marked f ns) n
    → IsTaken f n ⊎ ((short ≡ false) × Contains ns n)
taken_after true ns f n t = inl t
taken_after false ns f n t = elim (marked_only f.used ns n t.1) [ inl o ↦ inl (t.0, o) | inr c ↦ inr (refl, c) ]

minis_after : (short : Bool) (ns : List ℕ) (f : FatValue) (n : ℕ) → IsTaken (if short then marked f ns else f) n
    → IsTaken f n ⊎ ((short ≡ true) × Contains ns n)
minis_after true ns f n t = elim (marked_only f.used ns n t.1) [ inl o ↦ inl (t.0, o) | inr c ↦ inr (refl, c) ]
minis_after false ns f n t = inl t

chain_in : (short : Bool) (fat mini : FatValue) (start size : ℕ) (ns : List ℕ)
    → IsChainOf (store_of (if short then mini else fat)) start size ns
    → IsChainOf (if short then store_of mini else store_of fat) start size ns
chain_in true fat mini start size ns h = h
chain_in false fat mini start size ns h = h

module _ (b : Base) (levels id : ℕ) (pending content : List ℕ) (old new : Reader)
    (below : IsBelow b.directory (suc levels) id) (h : IsUnderway b (id ∷ pending) old)
    (s : IsStreamRead id content old new) where
  size : ℕ
  size = size_of (entry_at (directory_in old) id)

  kept : IsKept old new
  kept = kept_stream id content old new s

  begun_after : (n : ℕ) → IsBegun old (id ∷ pending) n → IsBegun new pending n
  begun_after n g = (kept.marks n g.0, λ c. g.1 (Contains-behind id pending n c))

  lies : IsChainOf (store_in b (size_of (entry_at b.directory id))) (first_of (entry_at b.directory id))
      (size_of (entry_at b.directory id)) s.ns
  lies =
      let entry : List ℕ = entry_at (directory_in old) id in
      let P : Base → Type 0 = λ x. IsChainOf (store_in x (size_of (entry_at x.directory id)))
      (first_of (entry_at x.directory id)) (size_of (entry_at x.directory id)) s.ns in
      subst P (sym h.base) (chain_in (nat_lt (size_of entry) 4096) old.fat old.mini (first_of entry) (size_of entry)
      s.ns s.found.chain)

  in_it : (short : Bool) (n : ℕ) → nat_lt (size_of (entry_at (directory_in old) id)) 4096 ≡ short → Contains s.ns n
      → IsInRead b new pending short n
  in_it short n e c =
      let dir : b.directory ≡ directory_in old = same_directory b (id ∷ pending) old h in
      record {
        levels = levels;
        other = id;
        below = below;
        begun = (kept.marks id (h.waiting id (Contains-front id pending)), distinct-head id pending h.once);
        is_stream = ap (λ (d : List ℕ). kind (entry_at d id)) dir ∙ s.kind_is;
        in_table = ap (λ (d : List ℕ). nat_lt (size_of (entry_at d id)) 4096) dir ∙ e;
        ns = s.ns;
        is_chain = lies;
        there = c;
      }

  pub underway_stream : IsUnderway b pending new
  underway_stream = record {
    base = h.base ∙ sym (kept.base b.own);
    once = distinct_tail id pending h.once;
    waiting = λ n c. kept.marks n (h.waiting n (Contains-behind id pending n c));
    met = λ n lt m.
        elim (h.met n lt (subst (λ (us : List Bool). get_or us n true ≡ true)
        (ap (λ (r : Reader). r.entries.used) s.after) m)) [
          | inl z ↦ inl z
          | inr q ↦ inr (child_moved b.directory old new (id ∷ pending) pending begun_after n q)
        ];
    taken = λ n t.
        elim (taken_after (nat_lt (size_of (entry_at (directory_in old) id)) 4096) s.ns old.fat n
        (subst (λ (r : Reader). IsTaken r.fat n) s.after t)) [
          | inl o ↦ elim (h.taken n o) [
            | inl i ↦ inl i
            | inr q ↦
                inr (read_moved b old new (id ∷ pending) pending begun_after false n q)
          ]
          | inr c ↦ inr (in_it false n c.0 c.1)
        ];
    taken_minis = λ n t.
        elim (minis_after (nat_lt (size_of (entry_at (directory_in old) id)) 4096) s.ns old.mini n
        (subst (λ (r : Reader). IsTaken r.mini n) s.after t)) [
          | inl o ↦ read_moved b old new (id ∷ pending) pending begun_after true n (h.taken_minis n o)
          | inr c ↦ in_it true n c.0 c.1
        ];
  }

-- ---- a storage that is read
module _ (b : Base) where
  is_storage : (levels id : ℕ) (pending : List ℕ) (r : Reader) → IsBelow b.directory (suc levels) id
      → IsUnderway b pending r → kind (entry_at (directory_in r) id) ≡ 1
      → IsStorage b.directory id
  is_storage levels id pending r below h k =
      inr (
        below_not_root b.directory levels id below,
        ap (λ (d : List ℕ). kind (entry_at d id))
            (same_directory b pending r h) ∙ k,
      )

  mutual
    underway_storage : (depth levels id : ℕ) (t : Tree) (old new : Reader) (pending : List ℕ)
        → IsMetBelow b.directory old levels id → IsStorage b.directory id
        → IsUnderway b (id ∷ pending) old → IsStorageRead depth id t old new → IsUnderway b pending new
    underway_storage depth levels id (tree class state cs) old new pending stands is_one h r =
        underway_each depth levels r.2.0 cs (met r.2.1.reached old) new pending
        (children_stand b levels id pending old h stands is_one r.2.0 r.2.1)
        (underway_opened b levels id pending old h stands is_one r.2.0 r.2.1) r.2.2

    underway_each : (depth levels : ℕ) (ids : List ℕ) (cs : Children) (old new : Reader) (pending : List ℕ)
        → ((n : ℕ) → Contains ids n → IsMetBelow b.directory old (suc levels) n) → IsUnderway b (ids ++ pending) old
        → AreRead depth ids cs old new → IsUnderway b pending new
    underway_each depth levels [] none old new pending stand h r = subst (IsUnderway b pending) (sym r) h
    underway_each depth levels [] (stream k n c cs) old new pending stand h r = absurd r
    underway_each depth levels [] (storage k n t cs) old new pending stand h r = absurd r
    underway_each depth levels (id ∷ ids) none old new pending stand h r = absurd r
    underway_each depth levels (id ∷ ids) (stream k n c cs) old new pending stand h r =
        let next : Reader = r.1.0 in
        underway_each depth levels ids cs next new pending
        (λ m i. below_kept b.directory old next (suc levels) m (kept_stream id c old next r.1.1)
        (stand m (Contains-behind id ids m i)))
        (underway_stream b levels id (ids ++ pending) c old next (stand id (Contains-front id ids)).below h r.1.1) r.1.2
    underway_each depth levels (id ∷ ids) (storage k n t cs) old new pending stand h r =
        let next : Reader = r.1.0 in
        underway_each depth levels ids cs next new pending
        (λ m i. below_kept b.directory old next (suc levels) m (kept_storage (depth - 1) id t old next r.1.1.2)
        (stand m (Contains-behind id ids m i)))
        (underway_storage (depth - 1) (suc levels) id t old next (ids ++ pending) (stand id (Contains-front id ids))
        (is_storage levels id (id ∷ (ids ++ pending)) old (stand id (Contains-front id ids)).below h r.1.1.0) h
        r.1.1.2) r.1.2

  -- one entry
  pub underway_node : (depth levels id : ℕ) (s : Seen) (old new : Reader) (pending : List ℕ)
      → IsMetBelow b.directory old (suc levels) id → IsUnderway b (id ∷ pending) old
      → IsNodeRead depth id s old new → IsUnderway b pending new
  underway_node depth levels id (bytes c) old new pending stands h r =
      underway_stream b levels id pending c old new stands.below h r
  underway_node depth levels id (inner t) old new pending stands h r =
      underway_storage (depth - 1) (suc levels) id t old new pending stands
      (is_storage levels id (id ∷ pending) old stands.below h r.0) h r.2
