-- What is read is held by its entry.
use Rattle.std.proofs.Common.{◌≡◌, ◌⊎◌, ◌-◌, inl, inr, ℕ, true, false, List, [], ◌∷◌, ◌++◌, get_or, map, refl, sym, ◌∙◌}
use Rattle.std.proofs.Common.{ap, subst, arith, append_assoc, nat_lt}
use Rattle.std.proofs.lemmas.Bool.{cases_Bool}
use Rattle.std.proofs.lemmas.List.{append-nil}
use Rattle.std.proofs.lemmas.List.Elements.{All-contains, Contains-append_cases}
use Rattle.std.specs.List.{Contains}
use Rattle.std.specs.List.Sorted.{IsStrictlySortedBy}
use Rattle.cfb_chains.specs.Chain.{AreDistinct}
use Rattle.cfb_chains.proofs.Marks.{distinct_append, distinct_tail}
use Rattle.cfb_names.specs.Names.{key, key_cmp}
use Rattle.cfb_entries.specs.Entries.{AreLinked, IsFree, child, class_of, entry_at, kind, name_of, size_of, state_of}
use Rattle.cfb_entries.proofs.Marks.{set_all-there, set_all-stays}
use Rattle.cfb_entries.specs.Tree.{Tree, Children, tree, none, stream, storage}
use Rattle.cfb_file.specs.Denotes.{AreChildren, Holds, HoldsEach, IsCalled, Layout, Used, both, directory_of, nothing}
use Rattle.cfb_file.specs.Denotes.{taken, within}
use Rattle.cfb_file.proofs.Lists.{Contains-cons_cases, Contains-behind, Contains-front}
use Rattle.read_files.specs.Marks.{IsMet}
use Rattle.read_files.specs.Reads.{AreRead, AreSorted, IsChildNamed, IsStorageRead, directory_in, met}
use Rattle.read_files.specs.declared.read.Reader.{Reader}
use Rattle.read_files.proofs.ReadingKept.{IsKept, kept_each, kept_storage, kept_stream}
use Rattle.cfb_faults.proofs.Lists.{contains-none, distinct-cons, distinct-head}
use Rattle.cfb_faults.proofs.Keys.{sorted_distinct}
use Rattle.cfb_faults.proofs.Tables.{ids_by}
use Rattle.read_files.proofs.ReadingStreams.{IsStreamHeld, Stands, stands_met, stream_held}

-- an entry isn't marked
abbrev pub IsNew : Reader → ℕ → Type 0
IsNew r n = get_or r.entries.used n true ≡ false

pub met_new : {P : Type 0} (r : Reader) (n : ℕ) → IsMet r n → IsNew r n → P
met_new r n h i = let e : true ≡ false = sym h ∙ i in cc e

-- what is new later was new before
pub new_before : (old new : Reader) (n : ℕ) → IsKept old new → IsNew new n → IsNew old n
new_before old new n k h =
    elim (cases_Bool (get_or old.entries.used n true)) [ inl t ↦ met_new new n (k.marks n t) h | inr f ↦ f ]

-- just one entry
pub only_one : (id : ℕ) (n : ℕ) → Contains (id ∷ []) n → id ≡ n
only_one id n c = elim (Contains-cons_cases id [] n c) [ inl e ↦ e | inr d ↦ absurd (contains-none n d) ]

pub stream_ids : (id size : ℕ) (ns : List ℕ) (n : ℕ) → Contains (taken id size ns).ids n → id ≡ n
stream_ids id size ns n c = only_one id n (subst (λ (xs : List ℕ). Contains xs n) (ids_by (nat_lt size 4096) id ns) c)

module _ (file : List ℕ) (l : Layout) where
  dir : List ℕ
  dir = directory_of file l

  pub record IsHeld (id : ℕ) (t : Tree) (old new : Reader) (xs ys : List ℕ) : Type 0 where
    pub used : Used
    pub held : Holds file l id t used
    pub stands : Stands file l new (xs ++ used.sectors) (ys ++ used.minis)
    pub fresh : (n : ℕ) → Contains used.ids n → IsNew old n
    pub marked : (n : ℕ) → Contains used.ids n → IsMet new n
    pub once : AreDistinct used.ids

  pub record AreHeld (ids : List ℕ) (cs : Children) (old new : Reader) (xs ys : List ℕ) : Type 0 where
    pub used : Used
    pub held : HoldsEach file l ids cs used
    pub stands : Stands file l new (xs ++ used.sectors) (ys ++ used.minis)
    pub fresh : (n : ℕ) → Contains used.ids n → Contains ids n ⊎ IsNew old n
    pub marked : (n : ℕ) → Contains used.ids n → IsMet new n
    pub once : AreDistinct used.ids

  called : (id : ℕ) (k n : List ℕ) (r : Reader) → directory_in r ≡ directory_of file l
      → IsChildNamed (directory_in r) id k n → IsCalled file l id k n
  called id k n r d c = subst (λ (x : List ℕ). IsChildNamed x id k n → IsCalled file l id k n) (sym d)
      (λ h. record { named = h.named; under_key = h.under_key }) c

  children_held : (r : Reader) (id : ℕ) (ids : List ℕ) → directory_in r ≡ directory_of file l
      → AreSorted r.entries id ids → AreChildren file l id ids
  children_held r id ids d h = record {
    reached = h.reached;
    linked = subst (λ (x : List ℕ). AreLinked x (child (entry_at x id)) h.reached) d h.linked;
    once = h.free.once;
    same = h.same;
    ordered = subst (λ (x : List ℕ). IsStrictlySortedBy key_cmp (map (λ n. key (name_of (entry_at x n))) ids)) d
        h.ordered;
  }

  -- the first entry's part and the others'
  module _ (id : ℕ) (ids : List ℕ) (old next new : Reader) (first rest : List ℕ) (distinct : AreDistinct (id ∷ ids))
      (marks : (n : ℕ) → Contains (id ∷ ids) n → IsMet old n)
      (k : IsKept old next) (k' : IsKept next new)
      (first_fresh : (n : ℕ) → Contains first n → (id ≡ n) ⊎ IsNew old n) (first_marked : (n : ℕ) → Contains first n
      → IsMet next n)
      (rest_fresh : (n : ℕ) → Contains rest n → Contains ids n ⊎ IsNew next n)
      (rest_marked : (n : ℕ) → Contains rest n → IsMet new n) where
    joined_fresh : (n : ℕ) → Contains (first ++ rest) n → Contains (id ∷ ids) n ⊎ IsNew old n
    joined_fresh n c =
        elim (Contains-append_cases first rest n c) [
          | inl a ↦ elim (first_fresh n a) [
            | inl e ↦
                inl (subst (Contains (id ∷ ids)) e (Contains-front id ids))
            | inr f ↦ inr f
          ]
          | inr b ↦ elim (rest_fresh n b) [
            | inl i ↦ inl (Contains-behind id ids n i)
            | inr f ↦
                inr (new_before old next n k f)
          ]
        ]

    joined_marked : (n : ℕ) → Contains (first ++ rest) n → IsMet new n
    joined_marked n c = elim (Contains-append_cases first rest n c) [
      | inl a ↦
          k'.marks n (first_marked n a)
      | inr b ↦ rest_marked n b
    ]

    joined_once : AreDistinct first → AreDistinct rest → AreDistinct (first ++ rest)
    joined_once a b = distinct_append first rest a b (λ n c d.
        elim (rest_fresh n d) [
          | inl i ↦ elim (first_fresh n c) [
            | inl e ↦ distinct-head id ids distinct (subst (Contains ids) (sym e) i)
            | inr f ↦ met_new old n (marks n (Contains-behind id ids n i)) f
          ]
          | inr f ↦ met_new next n (first_marked n c) f
        ])

  mutual
    pub storage_held : (depth id : ℕ) (t : Tree) (old new : Reader) (xs ys : List ℕ) → Stands file l old xs ys
        → IsStorageRead depth id t old new
        → IsHeld id t old new xs ys
    storage_held depth id (tree class state cs) old new xs ys s h =
        let mid : Reader = met h.2.1.reached old in
        let in_reached : (n : ℕ) → Contains h.2.0 n → Contains h.2.1.reached n = λ n c. (h.2.1.same n).1 c in
        let all : AreHeld h.2.0 cs mid new xs ys =
        each_held depth h.2.0 cs mid new xs ys (stands_met file l old h.2.1.reached xs ys s)
        (sorted_distinct (directory_in old) h.2.0 h.2.1.ordered)
        (λ n c. set_all-there old.entries.used h.2.1.reached n (in_reached n c)) h.2.2 in
        record {
          used = all.used;
          held = (
            h.0 ∙ ap (λ (x : List ℕ). class_of (entry_at x id)) s.directory,
            h.1 ∙ ap (λ (x : List ℕ). state_of (entry_at x id)) s.directory,
            (h.2.0, children_held old id h.2.0 s.directory h.2.1, all.held),
          );
          stands = all.stands;
          fresh = λ n c.
              elim (all.fresh n c) [
                | inl i ↦ (All-contains (IsFree old.entries) h.2.1.reached n h.2.1.free.free (in_reached n i)).1
                | inr f ↦ elim (cases_Bool (get_or old.entries.used n true)) [
                  | inl t ↦
                      met_new mid n (set_all-stays old.entries.used h.2.1.reached n t) f
                  | inr g ↦ g
                ]
              ];
          marked = all.marked;
          once = all.once;
        }

    each_held : (depth : ℕ) (ids : List ℕ) (cs : Children) (old new : Reader) (xs ys : List ℕ)
        → Stands file l old xs ys → AreDistinct ids
        → ((n : ℕ) → Contains ids n → IsMet old n) → AreRead depth ids cs old new → AreHeld ids cs old new xs ys
    each_held depth [] none old new xs ys s d m h = record {
      used = nothing;
      held = refl;
      stands = subst (λ (r : Reader). Stands file l r (xs ++ []) (ys ++ [])) (sym h)
          (subst (λ (zs : List ℕ). Stands file l old zs (ys ++ [])) (sym (append-nil xs))
          (subst (Stands file l old xs) (sym (append-nil ys)) s));
      fresh = λ n c. absurd (contains-none n c);
      marked = λ n c. absurd (contains-none n c);
      once = λ i j x lt k. absurd (omega arith);
    }
    each_held depth [] (stream k n b cs) old new xs ys s d m h = absurd h
    each_held depth [] (storage k n t cs) old new xs ys s d m h = absurd h
    each_held depth (id ∷ ids) none old new xs ys s d m h = absurd h
    each_held depth (id ∷ ids) (stream k n b cs) old new xs ys s d m h =
        let next : Reader = h.1.0 in
        let one : IsStreamHeld file l id b next xs ys = stream_held file l old next xs ys id b s h.1.1 in
        let size : ℕ = size_of (entry_at (directory_of file l) id) in
        let us : Used = taken id size one.ns in
        let kept : IsKept old next = kept_stream id b old next h.1.1 in
        let others : AreHeld ids cs next new (xs ++ us.sectors) (ys ++ us.minis) =
        each_held depth ids cs next new (xs ++ us.sectors) (ys ++ us.minis) one.stands (distinct_tail id ids d)
        (λ z c. kept.marks z (m z (Contains-behind id ids z c))) h.1.2 in
        let kept' : IsKept next new = kept_each depth ids cs next new h.1.2 in
        let f : (z : ℕ) → Contains us.ids z → (id ≡ z) ⊎ IsNew old z = λ z c. inl (stream_ids id size one.ns z c) in
        let g : (z : ℕ) → Contains us.ids z → IsMet next z = λ z c.
        kept.marks z (m z (subst (Contains (id ∷ ids)) (stream_ids id size one.ns z c) (Contains-front id ids))) in
        let single : AreDistinct us.ids = subst AreDistinct (sym (ids_by (nat_lt size 4096) id one.ns))
        (distinct-cons id [] (contains-none id) (λ i j x lt q. absurd (omega arith))) in
        record {
          used = both us others.used;
          held = (one.kind_is, called id k n old s.directory h.0, (one.ns, others.used, one.holds, refl, others.held));
          stands = subst (λ (zs : List ℕ). Stands file l new zs (ys ++ (us.minis ++ others.used.minis)))
              (append_assoc xs us.sectors others.used.sectors)
              (subst (Stands file l new ((xs ++ us.sectors) ++ others.used.sectors))
              (append_assoc ys us.minis others.used.minis) others.stands);
          fresh = joined_fresh id ids old next new us.ids others.used.ids d m kept kept' f g others.fresh others.marked;
          marked = joined_marked id ids old next new us.ids others.used.ids d m kept kept' f g others.fresh
              others.marked;
          once = joined_once id ids old next new us.ids others.used.ids d m kept kept' f g others.fresh
              others.marked single others.once;
        }
    each_held depth (id ∷ ids) (storage k n t cs) old new xs ys s d m h =
        let next : Reader = h.1.0 in
        let one : IsHeld id t old next xs ys = storage_held (depth - 1) id t old next xs ys s h.1.1.2 in
        let us : Used = within id one.used in
        let kept : IsKept old next = kept_storage (depth - 1) id t old next h.1.1.2 in
        let others : AreHeld ids cs next new (xs ++ us.sectors) (ys ++ us.minis) =
        each_held depth ids cs next new (xs ++ us.sectors) (ys ++ us.minis) one.stands (distinct_tail id ids d)
        (λ z c. kept.marks z (m z (Contains-behind id ids z c))) h.1.2 in
        let kept' : IsKept next new = kept_each depth ids cs next new h.1.2 in
        let own : IsMet old id = m id (Contains-front id ids) in
        let f : (z : ℕ) → Contains us.ids z → (id ≡ z) ⊎ IsNew old z = λ z c.
        elim (Contains-cons_cases id one.used.ids z c) [ inl e ↦ inl e | inr i ↦ inr (one.fresh z i) ] in
        let g : (z : ℕ) → Contains us.ids z → IsMet next z = λ z c.
        elim (Contains-cons_cases id one.used.ids z c) [
          | inl e ↦ subst (IsMet next) e (kept.marks id own)
          | inr i ↦
              one.marked z i
        ] in
        let single : AreDistinct us.ids = distinct-cons id one.used.ids (λ c. met_new old id own (one.fresh id c))
        one.once in
        record {
          used = both us others.used;
          held = (
            ap (λ (x : List ℕ). kind (entry_at x id)) (sym s.directory)
                ∙ h.1.1.0,
            called id k n old s.directory h.0,
            (one.used, others.used, one.held, refl, others.held),
          );
          stands = subst (λ (zs : List ℕ). Stands file l new zs (ys ++ (us.minis ++ others.used.minis)))
              (append_assoc xs us.sectors others.used.sectors)
              (subst (Stands file l new ((xs ++ us.sectors) ++ others.used.sectors))
              (append_assoc ys us.minis others.used.minis) others.stands);
          fresh = joined_fresh id ids old next new us.ids others.used.ids d m kept kept' f g others.fresh others.marked;
          marked = joined_marked id ids old next new us.ids others.used.ids d m kept kept' f g others.fresh
              others.marked;
          once = joined_once id ids old next new us.ids others.used.ids d m kept kept' f g others.fresh
              others.marked single others.once;
        }
