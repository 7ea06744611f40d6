-- The steps of reading a storage.
use Rattle.std.proofs.Common.{◌≡◌, ◌≢◌, ◌⊎◌, inl, inr, ◌<◌, ◌≤◌, ◌+◌, ◌-◌, ◌*◌, ℕ, zero, suc, true, List, [], ◌∷◌, ◌++◌}
use Rattle.std.proofs.Common.{Option, Some, None, length, get_or, drop, take, refl, sym, ap, subst, arith}
use Rattle.std.specs.Global.{Vec}
use Rattle.std.specs.List.{Contains}
use Rattle.std.proofs.lemmas.List.Elements.{Contains-get_or}
use Rattle.std.proofs.lemmas.Bool.{cases_lt}
use Rattle.std.proofs.lemmas.List.{drop_more}
use Rattle.cfb_chains.specs.Fat.{IsFound, store_of}
use Rattle.cfb_header.specs.Bytes.{joined}
use Rattle.cfb_names.specs.Names.{key}
use Rattle.cfb_entries.specs.Entries.{IsNamed, MayRefuseEntry, child, class_of, entry_at, first_of, kind, size_of}
use Rattle.cfb_entries.specs.Entries.{state_of}
use Rattle.cfb_names.specs.declared.fault.DirFault.{DirFault}
use Rattle.cfb_file.specs.Outline.{part_of}
use Rattle.cfb_file.proofs.Unique.{linked_unique}
use Rattle.tree_storage.specs.Change.{Seen, bytes, inner}
use Rattle.cfb_entries.specs.Tree.{Tree, Children, tree}
use Rattle.cfb_faults.specs.Faults.{Base, IsStorage}
use Rattle.read_outlines.specs.Keeping.{AreKeptOf, Wanted}
use Rattle.read_outlines.specs.View.{contents, part_view, shown_part, shown_parts, table_for}
use Rattle.read_outlines.specs.declared.outline.Part.{Part}
use Rattle.read_outlines.specs.declared.outline.Part.TheViews.{roll-Outline}
use Rattle.read_outlines.specs.declared.outline.Place.{Place}
use Rattle.read_outlines.proofs.Kept.{kept_child, kept_left, kept_none}
use Rattle.read_outlines.proofs.Outlines.{AreSized, shown-push, sized-push}
use Rattle.read_outlines.specs.Places.{AreTold, IsPartTold}
use Rattle.read_outlines.proofs.EntriesKept.{storage_kept}
use Rattle.read_outlines.proofs.Told.{told_all, told_next, told_none}
use Rattle.read_files.specs.Marks.{IsMetBelow, IsNext, IsUnderway}
use Rattle.read_files.specs.Reads.{AreRead, AreSorted, IsChildOutlined, IsChildPushed, IsChildRead, IsNodeRead}
use Rattle.read_files.specs.Reads.{IsOutlined, IsStorageRead, IsStreamRead, directory_in, met, stream_after, with_child}
use Rattle.read_files.specs.declared.read.Reader.{Reader}
use Rattle.read_files.proofs.ReadingChildren.{IsFirstRead, Progress, progress_all, progress_more, progress_next}
use Rattle.read_files.proofs.ReadingChildren.{progress_none}
use Rattle.cfb_faults.proofs.EntryKinds.{kind_inside}
use Rattle.read_files.proofs.ReadingKept.{IsKept, kept_met, kept_same, kept_then}
use Rattle.read_files.proofs.ReadingMarks.{below_kept, children_stand, same_directory, underway_opened}
use Rattle.cfb_faults.proofs.Keys.{IsReadable, readable_not_refused}
use Rattle.read_files.proofs.ReadingSorted.{sorted_below, sorted_same}
use Rattle.read_files.proofs.ReadingWhole.{each_readable}

-- the children of a storage that is read
pub record AreTheChildren (depth id : ℕ) (old new : Reader) : Type 0 where
  pub ids : List ℕ
  pub cs : Children
  pub sorted : AreSorted old.entries id ids
  pub is_read : AreRead depth ids cs (met sorted.reached old) new

pub children_of : (depth id : ℕ) (t : Tree) (old new : Reader) → IsStorageRead depth id t old new
    → AreTheChildren depth id old new
children_of depth id (tree class state cs) old new h = record { ids = h.2.0; cs = cs; sorted = h.2.1; is_read = h.2.2 }

pub children_readable : (depth id : ℕ) (old new : Reader) (h : AreTheChildren depth id old new) (n : ℕ)
    → Contains h.ids n → IsReadable (directory_in old) n
children_readable depth id old new h n c = each_readable (directory_in old) depth h.ids h.cs
    (met h.sorted.reached old) new refl h.is_read n c

-- children in order, marked
pub record AreOpen (id : ℕ) (ids : List ℕ) (old mid : Reader) : Type 0 where
  pub sorted : AreSorted old.entries id ids
  pub mid_is : mid ≡ met sorted.reached old

pub opened : {id : ℕ} {ids items : List ℕ} {old mid : Reader} → items ≡ ids → (s : AreSorted old.entries id ids)
    → mid ≡ met s.reached old → AreOpen id items old mid
opened {id} {ids} {items} {old} {mid} e s m = subst (λ (xs : List ℕ). AreOpen id xs old mid) (sym e)
    (record { sorted = s; mid_is = m })

-- the parts of an outline that are kept so far, and those of the whole one
pub record AreOutlined (depth : ℕ) (items : List ℕ) (mid : Reader) (w : Wanted) (i : ℕ) (r : Reader)
    (parts : List (List ℕ × Part)) : Type 0 where
  pub whole : List (List ℕ × Part)
  pub progress : Progress depth items mid i r (shown_parts (contents mid.fat mid.mini) whole)
  pub sized : AreSized (contents mid.fat mid.mini) whole
  pub told : AreTold (directory_in mid) (take i items) whole
  pub is_kept : AreKeptOf w whole parts

pub outlined_none : (depth : ℕ) (items : List ℕ) (mid : Reader) (w : Wanted) → AreOutlined depth items mid w 0 mid []
outlined_none depth items mid w = record {
  whole = [];
  progress = progress_none depth items mid;
  sized = tt;
  told = told_none (directory_in mid) [] refl;
  is_kept = kept_none w;
}

-- one child more, of which the parts so far and now are kept
pub outlined_more : {depth : ℕ} {items : List ℕ} {mid : Reader} {w : Wanted} {i : ℕ} {r next : Reader}
    {parts now : List (List ℕ × Part)} {c : Option (List ℕ × Part)}
    → i < length items → (h : AreOutlined depth items mid w i r parts)
    → (one : IsChildOutlined depth (get_or items i 0) w c r next)
    → AreKeptOf w (h.whole ++ (one.name, one.whole) ∷ []) now → AreOutlined depth items mid w (i + 1) next now
outlined_more {depth} {items} {mid} {w} {i} {r} {next} {parts} {now} {c} lt h one keeps =
    let n : ℕ = get_or items i 0 in
    let content : Place → List ℕ = contents mid.fat mid.mini in
    let same : contents r.fat r.mini ≡ content = h.progress.kept.content in
    let directory : directory_in r ≡ directory_in mid = h.progress.kept.directory in
    let s : Seen = shown_part content one.whole in
    let is_read : IsChildRead depth n (key one.name) one.name s r next =
    subst (λ (f : Place → List ℕ). IsChildRead depth n (key one.name) one.name (shown_part f one.whole) r next) same
    one.is_read in
    record {
      whole = h.whole ++ (one.name, one.whole) ∷ [];
      progress = subst (λ (x : Children). Progress depth items mid (i + 1) next x)
          (sym (shown-push content h.whole (one.name, one.whole)))
          (progress_more depth items mid i r next (shown_parts content h.whole) (key one.name) one.name s lt
          h.progress is_read);
      sized = sized-push content h.whole (one.name, one.whole) h.sized
          (subst (λ (f : Place → List ℕ). part_of (shown_part f one.whole) ≡ part_view one.whole) same one.sized);
      told = told_next (directory_in mid) items h.whole i one.name one.whole lt h.told
          (subst (λ (x : List ℕ). IsNamed (entry_at x n) one.name) directory one.is_read.named.named)
          (subst (λ (x : List ℕ). IsPartTold x n one.whole) directory one.told);
      is_kept = keeps;
    }

-- the same of a child that is put behind them, if it is kept
outlined_with : {depth : ℕ} {items : List ℕ} {mid : Reader} {w : Wanted} {i : ℕ} {r next : Reader}
    {parts now : List (List ℕ × Part)} (c : Option (List ℕ × Part))
    → i < length items → AreOutlined depth items mid w i r parts
    → IsChildOutlined depth (get_or items i 0) w c r next → now ≡ with_child parts c
    → AreOutlined depth items mid w (i + 1) next now
outlined_with {depth} {items} {mid} {w} {i} {r} {next} {parts} {now} None lt h one is =
    subst (AreOutlined depth items mid w (i + 1) next) (sym is)
    (outlined_more lt h one (kept_left w h.whole parts one.name one.whole h.is_kept one.is_kept))
outlined_with {depth} {items} {mid} {w} {i} {r} {next} {parts} {now} (Some child) lt h one is =
    subst (AreOutlined depth items mid w (i + 1) next) (sym is)
    (outlined_more lt h one (kept_child w h.whole parts one.name one.whole child h.is_kept one.is_kept))

pub outlined_pushed : {depth : ℕ} {items : List ℕ} {mid : Reader} {w : Wanted} {i : ℕ} {r next : Reader}
    {parts now : List (List ℕ × Part)}
    → i < length items → AreOutlined depth items mid w i r parts
    → IsChildPushed depth (get_or items i 0) w parts now r next → AreOutlined depth items mid w (i + 1) next now
outlined_pushed lt h p = outlined_with p.child lt h p.outlined p.pushed

module _ {id : ℕ} {items : List ℕ} {old mid : Reader} (o : AreOpen id items old mid) where
  kept_mid : IsKept old mid
  kept_mid = kept_then old (met o.sorted.reached old) mid (kept_met o.sorted.reached old)
      (kept_same (met o.sorted.reached old) mid o.mid_is)

  module _ {depth i : ℕ} {r : Reader} {cs : Children} (p : Progress depth items mid i r cs) where
    pub next_root : get_or old.entries.used 0 true ≡ true → get_or r.entries.used 0 true ≡ true
    next_root h = p.kept.marks 0 (kept_mid.marks 0 h)

    pub next_below : get_or old.entries.used 0 true ≡ true → i < length items → get_or items i 0 ≢ 0
    next_below h lt = sorted_below old.entries id items h o.sorted i 0 lt

    -- the next entry, and those behind it, are still to be read
    pub next_at : (b : Base) (pending : List ℕ) → IsStorage (directory_in old) id
        → IsNext b (suc depth) id pending old → i < length items
        → IsNext b depth (get_or items i 0) (drop (i + 1) items ++ pending) r
    next_at b pending storage at lt =
        let n : ℕ = get_or items i 0 in
        let storage' : IsStorage b.directory id = subst (λ (d : List ℕ). IsStorage d id)
        (sym (same_directory b (id ∷ pending) old at.underway)) storage in
        let stand : (m : ℕ) → Contains items m → IsMetBelow b.directory mid (suc at.levels) m = λ m c.
        subst (λ (x : Reader). IsMetBelow b.directory x (suc at.levels) m) (sym o.mid_is)
        (children_stand b at.levels id pending old at.underway at.stands storage' items o.sorted m c) in
        let there : IsUnderway b (items ++ pending) mid =
        subst (IsUnderway b (items ++ pending)) (sym o.mid_is)
        (underway_opened b at.levels id pending old at.underway at.stands storage' items o.sorted) in
        record {
          levels = suc at.levels;
          deep = omega (arith, at.deep);
          stands = below_kept b.directory mid r (suc at.levels) n p.kept (stand n (Contains-get_or items i 0 lt));
          underway = subst (λ (xs : List ℕ). IsUnderway b (xs ++ pending) r) (drop_more items i 0 lt)
              (p.underway b at.levels pending stand there);
        }

    -- what can be read from the first child on can be read from here on
    pub next_there : (t : Tree) (new : Reader) → IsStorageRead depth id t old new → i < length items
        → IsFirstRead depth (get_or items i 0) (drop (i + 1) items) r new
    next_there t new h lt =
        let c : AreTheChildren depth id old new = children_of depth id t old new h in
        let top : ℕ = child (entry_at (directory_in old) id) in
        let ids : c.ids ≡ items = sorted_same old.entries id c.ids items c.sorted o.sorted in
        let reached : c.sorted.reached ≡ o.sorted.reached =
        linked_unique (directory_in old) top top c.sorted.reached o.sorted.reached refl c.sorted.linked
        o.sorted.linked in
        let all : AreRead depth items c.cs mid new =
        subst (λ (r : Reader). AreRead depth items c.cs r new) (sym o.mid_is)
        (subst (λ (xs : List ℕ). AreRead depth items c.cs (met xs old) new) reached
        (subst (λ (xs : List ℕ). AreRead depth xs c.cs (met c.sorted.reached old) new) ids c.is_read)) in
        progress_next depth items mid i r new cs c.cs lt p all

  -- at the end the storage is read, and what is wanted of its outline is kept
  pub outlined_all : {A : Type 0} {depth : ℕ} {w : Wanted} {i : ℕ} {r : Reader} (ids : Vec A)
      (parts : Vec (List ℕ × Part)) (class : List ℕ) (state : ℕ) → length items ≤ i
      → length items ≡ length ids.items → AreOutlined depth items mid w i r parts.items
      → class ≡ class_of (entry_at (directory_in old) id)
      → state ≡ state_of (entry_at (directory_in old) id)
      → IsOutlined depth id w (roll-Outline (record { class = class; state = state; parts = parts })) old r
  outlined_all {A} {depth} {w} {i} {r} ids parts class state le long h is_class is_state =
      let before : Place → List ℕ = contents old.fat old.mini in
      let same : contents mid.fat mid.mini ≡ before = ap (λ (x : Reader). contents x.fat x.mini) o.mid_is in
      let directory : directory_in mid ≡ directory_in old = ap (λ (x : Reader). directory_in x) o.mid_is in
      let cs : Children = shown_parts (contents mid.fat mid.mini) h.whole in
      let all : AreRead depth items cs mid r = progress_all depth items mid i r cs le h.progress in
      let is_read : IsStorageRead depth id (tree class state cs) old r =
      (is_class, is_state, (items, o.sorted, subst (λ (x : Reader). AreRead depth items cs x r) o.mid_is all)) in
      storage_kept (directory_in old) before w id (λ t. IsStorageRead depth id t old r) items ids class state
      h.whole parts
      (record {
        reached = o.sorted.reached;
        linked = o.sorted.linked;
        same = o.sorted.same;
        ordered = o.sorted.ordered;
      })
      (subst (λ (x : List ℕ). AreTold x items h.whole) directory
      (told_all (directory_in mid) items h.whole i le h.told))
      (subst (λ (f : Place → List ℕ). AreSized f h.whole) same h.sized) h.is_kept long
      (subst (λ (f : Place → List ℕ). IsStorageRead depth id (tree class state (shown_parts f h.whole)) old r) same
      is_read)

-- the stream of an entry that says where it lies
pub stream_read : (id first size : ℕ) (b : List ℕ) (old new : Reader) → kind (entry_at (directory_in old) id) ≡ 2
    → first ≡ first_of (entry_at (directory_in old) id)
    → size ≡ size_of (entry_at (directory_in old) id)
    → (ns : List ℕ) × IsFound (table_for size old.fat old.mini) first size ns
    × (b ≡ take size (joined (store_of (table_for size old.fat old.mini)).piece ns))
    × (new ≡ stream_after size ns old)
    → IsStreamRead id b old new
stream_read id first size b old new is_stream begins long h =
    let P : ℕ → ℕ → Type 0 = λ f s. (ns : List ℕ) × IsFound (table_for s old.fat old.mini) f s ns
    × (b ≡ take s (joined (store_of (table_for s old.fat old.mini)).piece ns)) × (new ≡ stream_after s ns old) in
    let e : List ℕ = entry_at (directory_in old) id in
    let m : P (first_of e) (size_of e) = subst (λ s. P (first_of e) s) long (subst (λ f. P f size) begins h) in
    record { kind_is = is_stream; ns = m.0; found = m.1; content = m.2; after = m.3 }

-- an entry that is read isn't refused
child_entry : (depth id : ℕ) (k name : List ℕ) (s : Seen) (old new : Reader) → IsChildRead depth id k name s old new
    → IsReadable (directory_in old) id
child_entry depth id k name (bytes b) old new h = record {
  name = name;
  kind_is = inr h.is_read.kind_is;
  named = h.named.named;
  valid = h.named.valid;
}
child_entry depth id k name (inner t) old new h = record {
  name = name;
  kind_is = inl h.is_read.0;
  named = h.named.named;
  valid = h.named.valid;
}

inside_when : (dir : List ℕ) (id : ℕ) → (kind (entry_at dir id) ≡ 1) ⊎ (kind (entry_at dir id) ≡ 2)
    → 128 * id < length dir
inside_when dir id h =
    elim (cases_lt (128 * id) (length dir)) [
      | inl lt ↦ lt
      | inr le ↦ elim h [ inl e ↦ absurd (kind_inside dir id 0 e le) | inr e ↦ absurd (kind_inside dir id 1 e le) ]
    ]

pub entry_not_refused : (depth id : ℕ) (k name : List ℕ) (s : Seen) (old new : Reader) (fault : DirFault) → id ≢ 0
    → IsChildRead depth id k name s old new
    → MayRefuseEntry (directory_in old) id fault → ⊥
entry_not_refused depth id k name s old new fault ne h refused =
    let r : IsReadable (directory_in old) id = child_entry depth id k name s old new h in
    readable_not_refused (directory_in old) id fault (inside_when (directory_in old) id r.kind_is) ne r refused

-- a storage that is read
pub inner_read : (depth id : ℕ) (s : Seen) (old new : Reader) → IsNodeRead depth id s old new
    → kind (entry_at (directory_in old) id) ≡ 1
    → (t : Tree) × IsStorageRead (depth - 1) id t old new
inner_read depth id (bytes b) old new h e = absurd (omega (arith, h.kind_is, e))
inner_read depth id (inner t) old new h e = (t, h.2)

pub positive : (n : ℕ) → n ≢ 0 → 0 < n
positive zero h = absurd (h refl)
positive (suc n) h = omega arith
