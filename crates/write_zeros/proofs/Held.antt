-- What links and chains lead to is among what a file's denotation takes.
use Rattle.std.proofs.Common.{◌≡◌, ◌≢◌, ◌<◌, ◌≤◌, ◌*◌, ◌⊎◌, inl, inr, ℕ, zero, suc, Bool, true, false, List, [], ◌∷◌}
use Rattle.std.proofs.Common.{◌++◌, length, nat_lt, if◌then◌else◌, refl, sym, ap, subst, ◌∙◌, arith}
use Rattle.std.proofs.lemmas.Bool.{cases_Bool, ltb-true, ltb-false}
use Rattle.std.proofs.lemmas.List.Elements.{Contains-append_cases, Contains-append_left, Contains-append_right}
use Rattle.std.specs.List.{Contains}
use Rattle.cfb_chains.specs.Chain.{IsChainOf, Store}
use Rattle.cfb_entries.specs.Entries.{AreLinked, NO_STREAM, around, child, entry_at, first_of, kind, left, nobody}
use Rattle.cfb_entries.specs.Entries.{right, size_of}
use Rattle.cfb_entries.specs.Tree.{Tree, Children, tree, none, stream, storage}
use Rattle.cfb_file.specs.Denotes.{AreChildren, Denotes, Holds, HoldsBytes, HoldsEach, Layout, Used, both, directory_of}
use Rattle.cfb_file.specs.Denotes.{entry, minis, sectors, within}
use Rattle.cfb_file.specs.Limits.{CUTOFF}
use Rattle.cfb_file.proofs.Lists.{Contains-behind, Contains-cons_cases, Contains-front}
use Rattle.write_zeros.specs.Taken.{AllIn}

-- ---- links to siblings
-- an entry that is there, whose links to siblings lead to entries of a list
pub record IsLinkedWithin (dir ids : List ℕ) (n : ℕ) : Type 0 where
  pub inside : 128 * n < length dir
  pub before : left (entry_at dir n) ≢ NO_STREAM → Contains ids (left (entry_at dir n))
  pub behind : right (entry_at dir n) ≢ NO_STREAM → Contains ids (right (entry_at dir n))

linked_more : (dir ns ms : List ℕ) (n : ℕ) → AllIn ns ms → IsLinkedWithin dir ns n → IsLinkedWithin dir ms n
linked_more dir ns ms n more h = record {
  inside = h.inside;
  before = λ some. more _ (h.before some);
  behind = λ some. more _ (h.behind some);
}

-- what links reach from an entry has that entry
top_reached : (dir : List ℕ) (top : ℕ) (ns : List ℕ) → AreLinked dir top ns → top ≢ NO_STREAM → Contains ns top
top_reached dir top ns nobody some = absurd (some refl)
top_reached dir top ns (around id before after ne lt l r) some = Contains-front id (before ++ after)

-- and of each entry in it the siblings
siblings_reached : (dir : List ℕ) (top : ℕ) (ns : List ℕ) → AreLinked dir top ns → (n : ℕ) → Contains ns n
    → IsLinkedWithin dir ns n
siblings_reached dir top ns nobody n c = absurd (omega (arith, c.1))
siblings_reached dir top ns (around id before after ne lt l r) n c =
    let all : List ℕ = id ∷ (before ++ after) in
    let from_before : AllIn before all = λ m b. Contains-behind id (before ++ after) m
    (Contains-append_left before after m b) in
    let from_after : AllIn after all = λ m b. Contains-behind id (before ++ after) m
    (Contains-append_right before after m b) in
    let here : IsLinkedWithin dir all id = record {
      inside = lt;
      before = λ some. from_before (left (entry_at dir id)) (top_reached dir (left (entry_at dir id)) before l some);
      behind = λ some. from_after (right (entry_at dir id)) (top_reached dir (right (entry_at dir id)) after r some);
    } in
    elim (Contains-cons_cases id (before ++ after) n c) [
      | inl same ↦ subst (λ m. IsLinkedWithin dir all m) same here
      | inr d ↦ elim (Contains-append_cases before after n d) [
        | inl b ↦ linked_more dir before all n from_before (siblings_reached dir (left (entry_at dir id)) before l n b)
        | inr b ↦ linked_more dir after all n from_after (siblings_reached dir (right (entry_at dir id)) after r n b)
      ]
    ]

-- ---- what entries hold
-- one use takes no more than another
pub record IsPartOf (u v : Used) : Type 0 where
  pub ids_in : AllIn u.ids v.ids
  pub sectors_in : AllIn u.sectors v.sectors
  pub minis_in : AllIn u.minis v.minis

-- the chain of an entry in a store, all of it in a list
pub record IsChainIn (s : Store) (entry : List ℕ) (taken : List ℕ) : Type 0 where
  pub chain : List ℕ
  pub is_chain : IsChainOf s (first_of entry) (size_of entry) chain
  pub all_in : AllIn chain taken

module _ (file : List ℕ) (l : Layout) where
  -- what an entry leads down to, or its chain, is among what is used
  pub record IsHeld (u : Used) (n : ℕ) : Type 0 where
    pub below : kind (entry file l n) ≢ 2 → child (entry file l n) ≢ NO_STREAM → Contains u.ids (child (entry file l n))
    pub short : kind (entry file l n) ≡ 2 → size_of (entry file l n) < CUTOFF
        → IsChainIn (minis file l) (entry file l n) u.minis
    pub long : kind (entry file l n) ≡ 2 → CUTOFF ≤ size_of (entry file l n)
        → IsChainIn (sectors file l) (entry file l n) u.sectors

  held_more : (u v : Used) (n : ℕ) → IsPartOf u v → IsHeld u n → IsHeld v n
  held_more u v n more h = record {
    below = λ k some. more.ids_in _ (h.below k some);
    short = λ k lt. let c = h.short k lt in
        record { chain = c.chain; is_chain = c.is_chain; all_in = λ m d. more.minis_in m (c.all_in m d) };
    long = λ k le. let c = h.long k le in
        record { chain = c.chain; is_chain = c.is_chain; all_in = λ m d. more.sectors_in m (c.all_in m d) };
  }

  -- entries among what is used: of each the siblings are, unless it is one of some whose siblings are known by others
  pub record AreHeld (ids : List ℕ) (u : Used) : Type 0 where
    pub ids_in : AllIn ids u.ids
    pub linked : (n : ℕ) → Contains u.ids n → Contains ids n ⊎ IsLinkedWithin (directory_of file l) u.ids n
    pub held : (n : ℕ) → Contains u.ids n → IsHeld u n

  -- an entry is one more, or among those that stand behind
  one_more : (id : ℕ) (ids : List ℕ) (rest u : Used) → AreHeld ids rest → IsPartOf rest u → Contains u.ids id
      → IsHeld u id
      → ((n : ℕ) → Contains u.ids n → (id ≡ n)
      ⊎ (Contains rest.ids n ⊎ (IsLinkedWithin (directory_of file l) u.ids n × IsHeld u n)))
      → AreHeld (id ∷ ids) u
  one_more id ids rest u h more here mine cases = record {
    ids_in = λ n c. elim (Contains-cons_cases id ids n c) [
      | inl same ↦ subst (λ m. Contains u.ids m) same here
      | inr d ↦ more.ids_in n (h.ids_in n d)
    ];
    linked = λ n c. elim (cases n c) [
      | inl same ↦ inl (0, omega arith, same)
      | inr d ↦ elim d [
        | inl r ↦ elim (h.linked n r) [
          | inl k ↦ inl (Contains-behind id ids n k)
          | inr s ↦ inr (linked_more (directory_of file l) rest.ids u.ids n more.ids_in s)
        ]
        | inr b ↦ inr b.0
      ]
    ];
    held = λ n c. elim (cases n c) [
      | inl same ↦ subst (λ m. IsHeld u m) same mine
      | inr d ↦ elim d [
        | inl r ↦ held_more rest u n more (h.held n r)
        | inr b ↦ b.1
      ]
    ];
  }

  -- a stream stands before others
  abbrev stream_used : Bool → ℕ → List ℕ → Used
  stream_used b id ns = if b then record { ids = id ∷ []; sectors = []; minis = ns }
      else record { ids = id ∷ []; sectors = ns; minis = [] }

  abbrev store_by : Bool → Store
  store_by b = if b then minis file l else sectors file l

  stream_before : (b : Bool) (id : ℕ) (ids ns : List ℕ) (rest : Used) → nat_lt (size_of (entry file l id)) CUTOFF
      ≡ b → kind (entry file l id) ≡ 2
      → IsChainOf (store_by b) (first_of (entry file l id)) (size_of (entry file l id)) ns → AreHeld ids rest
      → AreHeld (id ∷ ids) (both (stream_used b id ns) rest)
  stream_before true id ids ns rest is k chain h =
      let u : Used = both (stream_used true id ns) rest in
      let lt : size_of (entry file l id) < CUTOFF = ltb-true (size_of (entry file l id)) CUTOFF is in
      one_more id ids rest u h
      (record {
        ids_in = λ n c. Contains-behind id rest.ids n c;
        sectors_in = λ n c. c;
        minis_in = λ n c. Contains-append_right ns rest.minis n c;
      })
      (Contains-front id rest.ids)
      (record {
        below = λ other some. absurd (other k);
        short = λ e d. record { chain = ns; is_chain = chain; all_in = λ m c. Contains-append_left ns rest.minis m c };
        long = λ e le. absurd (omega (arith, lt, le));
      })
      (λ n c. elim (Contains-cons_cases id rest.ids n c) [ inl same ↦ inl same | inr d ↦ inr (inl d) ])
  stream_before false id ids ns rest is k chain h =
      let u : Used = both (stream_used false id ns) rest in
      let le : CUTOFF ≤ size_of (entry file l id) = ltb-false (size_of (entry file l id)) CUTOFF is in
      one_more id ids rest u h
      (record {
        ids_in = λ n c. Contains-behind id rest.ids n c;
        sectors_in = λ n c. Contains-append_right ns rest.sectors n c;
        minis_in = λ n c. c;
      })
      (Contains-front id rest.ids)
      (record {
        below = λ other some. absurd (other k);
        short = λ e lt. absurd (omega (arith, lt, le));
        long = λ e d. record { chain = ns; is_chain = chain; all_in = λ m c. Contains-append_left ns rest.sectors m c };
      })
      (λ n c. elim (Contains-cons_cases id rest.ids n c) [ inl same ↦ inl same | inr d ↦ inr (inl d) ])

  -- the entries below a storage, all of them
  pub record AreBelow (id : ℕ) (u : Used) : Type 0 where
    pub top : child (entry file l id) ≢ NO_STREAM → Contains u.ids (child (entry file l id))
    pub linked : (n : ℕ) → Contains u.ids n → IsLinkedWithin (directory_of file l) u.ids n
    pub held : (n : ℕ) → Contains u.ids n → IsHeld u n

  children_below : (id : ℕ) (ids : List ℕ) (u : Used) → AreChildren file l id ids → AreHeld ids u → AreBelow id u
  children_below id ids u kids h =
      let dir : List ℕ = directory_of file l in
      let reached_in : AllIn kids.reached u.ids = λ n c. h.ids_in n ((kids.same n).0 c) in
      record {
        top = λ some. reached_in _ (top_reached dir (child (entry file l id)) kids.reached kids.linked some);
        linked = λ n c. elim (h.linked n c) [
          | inl k ↦ linked_more dir kids.reached u.ids n reached_in
              (siblings_reached dir (child (entry file l id)) kids.reached kids.linked n ((kids.same n).1 k))
          | inr s ↦ s
        ];
        held = h.held;
      }

  -- a storage with what stands below it stands before others
  storage_before : (id : ℕ) (ids : List ℕ) (inner rest : Used) → kind (entry file l id) ≡ 1 → AreBelow id inner
      → AreHeld ids rest
      → AreHeld (id ∷ ids) (both (within id inner) rest)
  storage_before id ids inner rest k b h =
      let u : Used = both (within id inner) rest in
      let inner_part : IsPartOf inner u = record {
        ids_in = λ n c. Contains-behind id (inner.ids ++ rest.ids) n (Contains-append_left inner.ids rest.ids n c);
        sectors_in = λ n c. Contains-append_left inner.sectors rest.sectors n c;
        minis_in = λ n c. Contains-append_left inner.minis rest.minis n c;
      } in
      one_more id ids rest u h
      (record {
        ids_in = λ n c. Contains-behind id (inner.ids ++ rest.ids) n (Contains-append_right inner.ids rest.ids n c);
        sectors_in = λ n c. Contains-append_right inner.sectors rest.sectors n c;
        minis_in = λ n c. Contains-append_right inner.minis rest.minis n c;
      })
      (Contains-front id (inner.ids ++ rest.ids))
      (record {
        below = λ other some. inner_part.ids_in _ (b.top some);
        short = λ e lt. absurd (omega (arith, k, e));
        long = λ e le. absurd (omega (arith, k, e));
      })
      (λ n c. elim (Contains-cons_cases id (inner.ids ++ rest.ids) n c) [
        | inl same ↦ inl same
        | inr d ↦ elim (Contains-append_cases inner.ids rest.ids n d) [
          | inl i ↦
              inr (inr (
                linked_more (directory_of file l) inner.ids u.ids n inner_part.ids_in (b.linked n i),
                held_more inner u n inner_part (b.held n i),
              ))
          | inr r ↦ inr (inl r)
        ]
      ])

  mutual
    pub holds_below : (id : ℕ) (t : Tree) (u : Used) → Holds file l id t u → AreBelow id u
    holds_below id (tree class state cs) u h = children_below id h.2.0 u h.2.1 (each_held h.2.0 cs u h.2.2)

    each_held : (ids : List ℕ) (cs : Children) (u : Used) → HoldsEach file l ids cs u → AreHeld ids u
    each_held [] none u h = record {
      ids_in = λ n c. absurd (omega (arith, c.1));
      linked = λ n c. absurd (let d : Contains [] n = subst (λ (w : Used). Contains w.ids n) h c in omega (arith, d.1));
      held = λ n c. absurd (let d : Contains [] n = subst (λ (w : Used). Contains w.ids n) h c in omega (arith, d.1));
    }
    each_held [] (stream k name bytes cs) u h = absurd h
    each_held [] (storage k name t cs) u h = absurd h
    each_held (id ∷ ids) none u h = absurd h
    each_held (id ∷ ids) (stream k name bytes cs) u h =
        subst (λ (w : Used). AreHeld (id ∷ ids) w) (sym h.2.3)
        (stream_before (nat_lt (size_of (entry file l id)) CUTOFF) id ids h.2.0 h.2.1 refl h.0 h.2.2.chain
        (each_held ids cs h.2.1 h.2.4))
    each_held (id ∷ ids) (storage k name t cs) u h =
        subst (λ (w : Used). AreHeld (id ∷ ids) w) (sym h.2.3)
        (storage_before id ids h.2.0 h.2.1 h.0 (holds_below id t h.2.0 h.2.2) (each_held ids cs h.2.1 h.2.4))
