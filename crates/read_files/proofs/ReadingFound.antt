-- What is held by an entry can be read.
use Rattle.std.proofs.Common.{◌≡◌, ◌⊎◌, ◌<◌, ◌-◌, ◌*◌, inl, inr, ℕ, zero, suc, true, List, [], ◌∷◌, ◌++◌, length}
use Rattle.std.proofs.Common.{get_or, map, refl, sym, ◌∙◌, ap, subst, arith, append_assoc, nat_lt}
use Rattle.std.proofs.lemmas.Bool.{cases_Bool}
use Rattle.std.proofs.lemmas.List.{append-nil}
use Rattle.std.proofs.lemmas.List.Elements.{All-append, All-contains, All-cons, All-nil, Contains-append_left}
use Rattle.std.proofs.lemmas.List.Elements.{Contains-append_right}
use Rattle.std.specs.List.{All, Contains}
use Rattle.std.specs.List.Sorted.{IsStrictlySortedBy}
use Rattle.cfb_chains.specs.Chain.{AreDistinct}
use Rattle.cfb_chains.proofs.Marks.{distinct_apart, distinct_left, distinct_right, distinct_tail, marked_only}
use Rattle.cfb_names.specs.Names.{IsName, key, key_cmp}
use Rattle.cfb_entries.specs.Entries.{AreLinked, IsFree, around, child, class_of, entry_at, kind, left, name_of, nobody}
use Rattle.cfb_entries.specs.Entries.{right, size_of, state_of}
use Rattle.cfb_entries.specs.Tree.{Tree, Children, tree, none, stream, storage}
use Rattle.cfb_entries.specs.Whole.{AreTrees, IsTree}
use Rattle.cfb_file.specs.Denotes.{AreChildren, Holds, HoldsEach, IsCalled, Layout, Used, both, directory_of, taken}
use Rattle.cfb_file.specs.Denotes.{within}
use Rattle.cfb_file.proofs.Lists.{Contains-cons_cases, Contains-behind, Contains-front}
use Rattle.read_files.specs.Marks.{IsMet}
use Rattle.read_files.specs.Reads.{AreRead, AreSorted, IsChildNamed, IsStorageRead, IsStreamRead, directory_in, met}
use Rattle.read_files.specs.Reads.{stream_after}
use Rattle.read_files.specs.declared.read.Reader.{Reader}
use Rattle.read_files.proofs.ReadingHeld.{IsNew, met_new}
use Rattle.cfb_faults.proofs.Lists.{all-from, contains-none, distinct-head}
use Rattle.cfb_faults.proofs.Tables.{ids_by}
use Rattle.read_files.proofs.ReadingStreams.{Stands, stands_met, stream_there}

pub linked_in : (d : List ℕ) (top : ℕ) (ids : List ℕ) → AreLinked d top ids → All (λ n. 128 * n < length d) ids
linked_in d top ids nobody = All-nil (λ n. 128 * n < length d)
linked_in d top ids (around id before after ne lt l r) =
    All-cons (λ n. 128 * n < length d) id (before ++ after) lt
    (All-append (λ n. 128 * n < length d) before after (linked_in d (left (entry_at d id)) before l)
    (linked_in d (right (entry_at d id)) after r))

-- what isn't marked is new
new_unless : (r : Reader) (n : ℕ) → (IsMet r n → ⊥) → IsNew r n
new_unless r n h = elim (cases_Bool (get_or r.entries.used n true)) [ inl t ↦ absurd (h t) | inr f ↦ f ]

first_tree : (depth : ℕ) (k n : List ℕ) (t : Tree) (cs : Children) → AreTrees depth (storage k n t cs)
    → (0 < depth) × IsName n × IsTree (depth - 1) t × AreTrees depth cs
first_tree zero k n t cs h = absurd h
first_tree (suc depth) k n t cs h = (omega arith, h.0.valid, subst (λ (d : ℕ). IsTree d t) (omega arith) h.2, h.3)

first_stream : (depth : ℕ) (k n b : List ℕ) (cs : Children) → AreTrees depth (stream k n b cs)
    → IsName n × AreTrees depth cs
first_stream zero k n b cs h = (h.0.valid, h.2)
first_stream (suc depth) k n b cs h = (h.0.valid, h.2)

module _ (file : List ℕ) (l : Layout) where
  abbrev Inside : ℕ → Type 0
  Inside n = 128 * n < length (directory_of file l)

  pub record IsThere (depth id : ℕ) (t : Tree) (used : Used) (old : Reader) (xs ys : List ℕ) : Type 0 where
    pub new : Reader
    pub is_read : IsStorageRead depth id t old new
    pub stands : Stands file l new (xs ++ used.sectors) (ys ++ used.minis)
    pub only : (n : ℕ) → IsMet new n → IsMet old n ⊎ Contains used.ids n

  pub record AreThere (depth : ℕ) (ids : List ℕ) (cs : Children) (used : Used) (old : Reader) (xs ys : List ℕ) :
      Type 0 where
    pub new : Reader
    pub is_read : AreRead depth ids cs old new
    pub stands : Stands file l new (xs ++ used.sectors) (ys ++ used.minis)
    pub only : (n : ℕ) → IsMet new n → IsMet old n ⊎ Contains used.ids n

  -- the entries of children are among those that are used
  pub ids_used : (ids : List ℕ) (cs : Children) (used : Used) → HoldsEach file l ids cs used → (n : ℕ)
      → Contains ids n → Contains used.ids n
  ids_used [] cs used h n c = absurd (contains-none n c)
  ids_used (id ∷ ids) none used h n c = absurd h
  ids_used (id ∷ ids) (stream k m b cs) used h n c =
      let us : Used = taken id (size_of (entry_at (directory_of file l) id)) h.2.0 in
      let own : us.ids ≡ id ∷ [] = ids_by (nat_lt (size_of (entry_at (directory_of file l) id)) 4096) id h.2.0 in
      subst (λ (u : Used). Contains u.ids n) (sym h.2.3)
      (elim (Contains-cons_cases id ids n c) [
        | inl e ↦ Contains-append_left us.ids h.2.1.ids n
            (subst (λ (zs : List ℕ). Contains zs n) (sym own) (subst (Contains (id ∷ [])) e (Contains-front id [])))
        | inr i ↦ Contains-append_right us.ids h.2.1.ids n (ids_used ids cs h.2.1 h.2.4 n i)
      ])
  ids_used (id ∷ ids) (storage k m t cs) used h n c =
      subst (λ (u : Used). Contains u.ids n) (sym h.2.3)
      (elim (Contains-cons_cases id ids n c) [
        | inl e ↦ Contains-append_left (id ∷ h.2.0.ids) h.2.1.ids n
            (subst (Contains (id ∷ h.2.0.ids)) e (Contains-front id h.2.0.ids))
        | inr i ↦ Contains-append_right (id ∷ h.2.0.ids) h.2.1.ids n (ids_used ids cs h.2.1 h.2.4 n i)
      ])

  named : (id : ℕ) (k n : List ℕ) (r : Reader) → directory_in r ≡ directory_of file l → IsCalled file l id k n
      → IsName n → IsChildNamed (directory_in r) id k n
  named id k n r d c v = subst (λ (x : List ℕ). IsChildNamed x id k n) (sym d)
      (record { named = c.named; valid = v; under_key = c.under_key })

  children_sorted : (r : Reader) (id : ℕ) (ids : List ℕ) → directory_in r ≡ directory_of file l
      → (h : AreChildren file l id ids)
      → ((n : ℕ) → Contains ids n → Inside n → IsNew r n) → AreSorted r.entries id ids
  children_sorted r id ids d h free =
      let inside : All (λ n. Inside n) h.reached = linked_in (directory_of file l)
      (child (entry_at (directory_of file l) id)) h.reached h.linked in
      record {
        reached = h.reached;
        linked = subst (λ (x : List ℕ). AreLinked x (child (entry_at x id)) h.reached) (sym d) h.linked;
        free = record {
          free = all-from (IsFree r.entries) h.reached (λ n c.
              let lt : Inside n = All-contains (λ m. Inside m) h.reached n inside c in
              (subst (λ (x : List ℕ). 128 * n < length x) (sym d) lt, free n ((h.same n).0 c) lt));
          once = h.once;
        };
        same = h.same;
        ordered = subst (λ (x : List ℕ). IsStrictlySortedBy key_cmp (map (λ n. key (name_of (entry_at x n))) ids))
            (sym d) h.ordered;
      }

  -- what is new for the others behind a first part
  rest_new : (id : ℕ) (ids first rest : List ℕ) (old next : Reader) → AreDistinct (first ++ rest) → Contains first id
      → ((n : ℕ) → Contains (first ++ rest) n → Inside n → Contains (id ∷ ids) n ⊎ IsNew old n)
      → ((n : ℕ) → IsMet next n → IsMet old n ⊎ Contains first n)
      → (n : ℕ) → Contains rest n → Inside n → Contains ids n ⊎ IsNew next n
  rest_new id ids first rest old next d own free only n c lt =
      elim (free n (Contains-append_right first rest n c) lt) [
        | inl i ↦ elim (Contains-cons_cases id ids n i) [
          | inl e ↦ absurd (distinct_apart first rest d n (subst (Contains first) e own) c)
          | inr j ↦ inl j
        ]
        | inr f ↦ inr (new_unless next n (λ m.
            elim (only n m) [ inl o ↦ met_new old n o f | inr a ↦ distinct_apart first rest d n a c ]))
      ]

  -- marks of a first part and of the others
  only_joined : (first rest : List ℕ) (old next new : Reader)
      → ((n : ℕ) → IsMet next n → IsMet old n ⊎ Contains first n)
      → ((n : ℕ) → IsMet new n → IsMet next n ⊎ Contains rest n)
      → (n : ℕ) → IsMet new n → IsMet old n ⊎ Contains (first ++ rest) n
  only_joined first rest old next new f g n m =
      elim (g n m) [
        | inl a ↦ elim (f n a) [ inl o ↦ inl o | inr c ↦ inr (Contains-append_left first rest n c) ]
        | inr c ↦ inr (Contains-append_right first rest n c)
      ]

  mutual
    pub storage_there : (depth id : ℕ) (t : Tree) (used : Used) (old : Reader) (xs ys : List ℕ)
        → Stands file l old xs ys → Holds file l id t used → IsTree depth t
        → AreDistinct (xs ++ used.sectors) → AreDistinct (ys ++ used.minis) → AreDistinct used.ids
        → ((n : ℕ) → Contains used.ids n → Inside n → IsNew old n)
        → IsThere depth id t used old xs ys
    storage_there depth id (tree class state cs) used old xs ys s h whole d d' once free =
        let ids : List ℕ = h.2.0 in
        let in_used : (n : ℕ) → Contains ids n → Contains used.ids n = ids_used ids cs used h.2.2 in
        let sorted : AreSorted old.entries id ids = children_sorted old id ids s.directory h.2.1
        (λ n c lt. free n (in_used n c) lt) in
        let mid : Reader = met sorted.reached old in
        let only_reached : (n : ℕ) → IsMet mid n → IsMet old n ⊎ Contains ids n = λ n m.
        elim (marked_only old.entries.used sorted.reached n m) [ inl o ↦ inl o | inr c ↦ inr ((sorted.same n).0 c) ] in
        let split : (n : ℕ) → Contains used.ids n → Inside n → Contains ids n ⊎ IsNew mid n = λ n c lt.
        elim (cases_Bool (get_or mid.entries.used n true)) [
          | inl t ↦ elim (only_reached n t) [ inl o ↦ met_new old n o (free n c lt) | inr i ↦ inl i ]
          | inr f ↦ inr f
        ] in
        let all : AreThere depth ids cs used mid xs ys = each_there depth ids cs used mid xs ys
        (stands_met file l old sorted.reached xs ys s) h.2.2 whole d d' once split in
        let back : directory_of file l ≡ directory_in old = sym s.directory in
        record {
          new = all.new;
          is_read = (
            h.0 ∙ ap (λ (x : List ℕ). class_of (entry_at x id)) back,
            h.1 ∙ ap (λ (x : List ℕ). state_of (entry_at x id)) back,
            (ids, sorted, all.is_read),
          );
          stands = all.stands;
          only = λ n m.
              elim (all.only n m) [
                | inl a ↦ elim (only_reached n a) [ inl o ↦ inl o | inr c ↦ inr (in_used n c) ]
                | inr c ↦ inr c
              ];
        }

    each_there : (depth : ℕ) (ids : List ℕ) (cs : Children) (used : Used) (old : Reader) (xs ys : List ℕ)
        → Stands file l old xs ys → HoldsEach file l ids cs used → AreTrees depth cs
        → AreDistinct (xs ++ used.sectors) → AreDistinct (ys ++ used.minis) → AreDistinct used.ids
        → ((n : ℕ) → Contains used.ids n → Inside n → Contains ids n ⊎ IsNew old n)
        → AreThere depth ids cs used old xs ys
    each_there depth [] none used old xs ys s h whole d d' once free =
        subst (λ (u : Used). AreThere depth [] none u old xs ys) (sym h) (record {
          new = old;
          is_read = refl;
          stands = subst (λ (zs : List ℕ). Stands file l old zs (ys ++ [])) (sym (append-nil xs))
              (subst (Stands file l old xs) (sym (append-nil ys)) s);
          only = λ n m. inl m;
        })
    each_there depth [] (stream k n b cs) used old xs ys s h whole d d' once free = absurd h
    each_there depth [] (storage k n t cs) used old xs ys s h whole d d' once free = absurd h
    each_there depth (id ∷ ids) none used old xs ys s h whole d d' once free = absurd h
    each_there depth (id ∷ ids) (stream k n b cs) used old xs ys s h whole d d' once free =
        let size : ℕ = size_of (entry_at (directory_of file l) id) in
        let ns : List ℕ = h.2.0 in
        let rest : Used = h.2.1 in
        let us : Used = taken id size ns in
        let is : used ≡ both us rest = h.2.3 in
        let w : IsName n × AreTrees depth cs = first_stream depth k n b cs whole in
        let apart : AreDistinct ((xs ++ us.sectors) ++ rest.sectors) =
        subst AreDistinct (sym (append_assoc xs us.sectors rest.sectors))
        (subst (λ (u : Used). AreDistinct (xs ++ u.sectors)) is d) in
        let apart' : AreDistinct ((ys ++ us.minis) ++ rest.minis) =
        subst AreDistinct (sym (append_assoc ys us.minis rest.minis))
        (subst (λ (u : Used). AreDistinct (ys ++ u.minis)) is d') in
        let ids_once : AreDistinct (us.ids ++ rest.ids) = subst (λ (u : Used). AreDistinct u.ids) is once in
        let ids_free : (z : ℕ) → Contains (us.ids ++ rest.ids) z → Inside z → Contains (id ∷ ids) z ⊎ IsNew old z =
        subst (λ (u : Used). (z : ℕ) → Contains u.ids z → Inside z → Contains (id ∷ ids) z ⊎ IsNew old z) is free in
        let next : Reader = stream_after size ns old in
        let one : IsStreamRead id b old next × Stands file l next (xs ++ us.sectors) (ys ++ us.minis) =
        stream_there file l old xs ys id b ns s h.0 h.2.2 (distinct_left (xs ++ us.sectors) rest.sectors apart)
        (distinct_left (ys ++ us.minis) rest.minis apart') in
        let own : Contains us.ids id = subst (λ (zs : List ℕ). Contains zs id)
        (sym (ids_by (nat_lt size 4096) id ns)) (Contains-front id []) in
        let only : (z : ℕ) → IsMet next z → IsMet old z ⊎ Contains us.ids z = λ z m. inl m in
        let others : AreThere depth ids cs rest next (xs ++ us.sectors) (ys ++ us.minis) =
        each_there depth ids cs rest next (xs ++ us.sectors) (ys ++ us.minis) one.1 h.2.4 w.1 apart apart'
        (distinct_right us.ids rest.ids ids_once)
        (rest_new id ids us.ids rest.ids old next ids_once own ids_free only) in
        subst (λ (u : Used). AreThere depth (id ∷ ids) (stream k n b cs) u old xs ys) (sym is) (record {
          new = others.new;
          is_read = (named id k n old s.directory h.1 w.0, (next, one.0, others.is_read));
          stands = subst (λ (zs : List ℕ). Stands file l others.new zs (ys ++ (us.minis ++ rest.minis)))
              (append_assoc xs us.sectors rest.sectors)
              (subst (Stands file l others.new ((xs ++ us.sectors) ++ rest.sectors))
              (append_assoc ys us.minis rest.minis) others.stands);
          only = only_joined us.ids rest.ids old next others.new only others.only;
        })
    each_there depth (id ∷ ids) (storage k n t cs) used old xs ys s h whole d d' once free =
        let within_it : Used = h.2.0 in
        let rest : Used = h.2.1 in
        let us : Used = within id within_it in
        let is : used ≡ both us rest = h.2.3 in
        let w : (0 < depth) × IsName n × IsTree (depth - 1) t × AreTrees depth cs = first_tree depth k n t cs whole in
        let apart : AreDistinct ((xs ++ us.sectors) ++ rest.sectors) =
        subst AreDistinct (sym (append_assoc xs us.sectors rest.sectors))
        (subst (λ (u : Used). AreDistinct (xs ++ u.sectors)) is d) in
        let apart' : AreDistinct ((ys ++ us.minis) ++ rest.minis) =
        subst AreDistinct (sym (append_assoc ys us.minis rest.minis))
        (subst (λ (u : Used). AreDistinct (ys ++ u.minis)) is d') in
        let ids_once : AreDistinct (us.ids ++ rest.ids) = subst (λ (u : Used). AreDistinct u.ids) is once in
        let first_once : AreDistinct us.ids = distinct_left us.ids rest.ids ids_once in
        let ids_free : (z : ℕ) → Contains (us.ids ++ rest.ids) z → Inside z → Contains (id ∷ ids) z ⊎ IsNew old z =
        subst (λ (u : Used). (z : ℕ) → Contains u.ids z → Inside z → Contains (id ∷ ids) z ⊎ IsNew old z) is free in
        let free_within : (z : ℕ) → Contains within_it.ids z → Inside z → IsNew old z = λ z c lt.
        elim (ids_free z (Contains-append_left us.ids rest.ids z (Contains-behind id within_it.ids z c)) lt) [
          | inl i ↦ elim (Contains-cons_cases id ids z i) [
            | inl e ↦ absurd (distinct-head id within_it.ids first_once (subst (Contains within_it.ids) (sym e) c))
            | inr j ↦ absurd (distinct_apart us.ids rest.ids ids_once z (Contains-behind id within_it.ids z c)
                (ids_used ids cs rest h.2.4 z j))
          ]
          | inr f ↦ f
        ] in
        let one : IsThere (depth - 1) id t within_it old xs ys =
        storage_there (depth - 1) id t within_it old xs ys s h.2.2 w.2
        (distinct_left (xs ++ us.sectors) rest.sectors apart) (distinct_left (ys ++ us.minis) rest.minis apart')
        (distinct_tail id within_it.ids first_once) free_within in
        let only : (z : ℕ) → IsMet one.new z → IsMet old z ⊎ Contains us.ids z = λ z m.
        elim (one.only z m) [ inl o ↦ inl o | inr c ↦ inr (Contains-behind id within_it.ids z c) ] in
        let others : AreThere depth ids cs rest one.new (xs ++ us.sectors) (ys ++ us.minis) =
        each_there depth ids cs rest one.new (xs ++ us.sectors) (ys ++ us.minis) one.stands h.2.4 w.3 apart apart'
        (distinct_right us.ids rest.ids ids_once)
        (rest_new id ids us.ids rest.ids old one.new ids_once (Contains-front id within_it.ids) ids_free only) in
        subst (λ (u : Used). AreThere depth (id ∷ ids) (storage k n t cs) u old xs ys) (sym is) (record {
          new = others.new;
          is_read = (
            named id k n old s.directory h.1 w.1,
            (one.new, (ap (λ (x : List ℕ). kind (entry_at x id)) s.directory ∙ h.0, w.0, one.is_read), others.is_read),
          );
          stands = subst (λ (zs : List ℕ). Stands file l others.new zs (ys ++ (us.minis ++ rest.minis)))
              (append_assoc xs us.sectors rest.sectors)
              (subst (Stands file l others.new ((xs ++ us.sectors) ++ rest.sectors))
              (append_assoc ys us.minis rest.minis) others.stands);
          only = only_joined us.ids rest.ids old one.new others.new only others.only;
        })
