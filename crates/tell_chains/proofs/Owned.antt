-- Streams whose chains are at fault, and whose the sectors are to which they lead.
use Rattle.std.proofs.Common.{◌≡◌, ◌≢◌, ◌<◌, ◌≤◌, ◌∙◌, inl, inr, Bool, true, false, Option, Some, None, IfNone, IfSome}
use Rattle.std.proofs.Common.{ℕ, zero, suc, List, [], Vec, Global, arith, get_or, if◌then◌else◌, length, refl, sym, ap}
use Rattle.std.proofs.Common.{◌*◌, ◌∷◌, Result, Ok, Err, IfOk, subst}
use Rattle.std.proofs.lemmas.Bool.{cases_Bool}
use Rattle.std.specs.List.{All, Contains}
use Rattle.cfb_header.specs.declared.fault.ChainFault.{ChainFault}
use Rattle.cfb_header.specs.declared.fault.ChainFault.TheVariants as chain
use Rattle.cfb_chains.specs.Chain.{IsChain, IsChainOf, Store}
use Rattle.cfb_entries.specs.Entries.{entry_at, first_of, kind, size_of}
use Rattle.cfb_file.specs.Denotes.{IsLaidOut, Layout, directory_of}
use Rattle.cfb_faults.specs.Faults.{Base, IsBelow, IsChild, IsTakenFor, base_in, store_in}
use Rattle.cfb_faults.specs.Faults as faults
use Rattle.cfb_faults.proofs.Below.{below_some}
use Rattle.tell_faults.specs.Places.{IsExamined, IsLinkAtFault, IsUnfaulted}
use Rattle.tell_faults.specs.Tables.{IsTabled}
use Rattle.tell_faults.specs.declared.place.Link.{Link}
use Rattle.tell_faults.specs.declared.walking.Chain.{Chain}
use Rattle.tell_faults.specs.declared.walking.Examined.{Examined}
use Rattle.tell_faults.specs.declared.walking.Examined.TheVariants as examined
use Rattle.tell_faults.proofs.Places.{link_at_fault}
use Rattle.tell_faults.proofs.Walks.{chain_of_some}
use Rattle.tell_entries.specs.Ways.{IsWay, end_of}
use Rattle.tell_entries.proofs.Steps.{way_below}
use Rattle.tell_chains.specs.Fates.{AreFatesOf, IsFate, IsFateOf, marks_of, table_of, taken_in}
use Rattle.tell_chains.specs.Streams.{AreFew, ArePartsOf, AreStreams, IsAmong, IsBaseOf, IsFaultOfStream, IsNoPlace}
use Rattle.tell_chains.specs.Streams.{IsNoStream, IsOwner, IsSparedBy, IsStream, IsStreamAt, IsStreamPlace}
use Rattle.tell_chains.specs.Streams.{StreamIsAtFault, lies_in_minis}
use Rattle.tell_chains.specs.declared.fates.Fate.{Fate}
use Rattle.tell_chains.specs.declared.fates.Fates.{Fates}
use Rattle.tell_chains.specs.declared.parts.Parts.{Parts}
use Rattle.tell_chains.specs.declared.place.Owner.{Owner}
use Rattle.tell_chains.specs.declared.place.Owner.TheVariants as owner
use Rattle.tell_chains.specs.declared.place.StreamPlace.{StreamPlace}
use Rattle.tell_chains.specs.declared.streams.Stream.{Stream}
use Rattle.tell_chains.proofs.Laid.{one_layout}

-- the entry of a stream lies below the root
pub stream_below : (dir way : List ℕ) → IsStreamAt dir way → (k : ℕ) × IsBelow dir (suc k) (end_of way)
stream_below dir way s = below_some dir (length way) (end_of way) s.below (way_below dir way s.is_way)

-- ---- the law
pub stream_is_at_fault : StreamIsAtFault
stream_is_at_fault file fault p h =
    let s : IsStreamPlace (base_in file h.0) fault p = h.2 in
    let q : (k : ℕ) × IsBelow (directory_of file h.0) (suc k) (end_of p.way.items) =
    stream_below (directory_of file h.0) p.way.items s.stream in
    faults.in_stream h.0 h.1 q.0 (end_of p.way.items) q.1
    (record { kind_is = s.stream.kind_is; some = s.some; at_fault = link_at_fault _ _ _ _ fault p.link s.at })

-- ---- whose a sector is
pub owner_takes : (b : Base) (id n : ℕ) (o : Owner) → IsOwner b id n o → o ≢ owner.Nobody → IsTakenFor b id n
owner_takes b id n owner.Nobody h some = absurd (some refl)
owner_takes b id n owner.System h some = inl h
owner_takes b id n (owner.Stream way) h some =
    let q : (k : ℕ) × IsBelow b.directory (suc k) (end_of way.items) = stream_below b.directory way.items h.0 in
    inr (record {
      levels = q.0;
      other = end_of way.items;
      below = q.1;
      another = h.1;
      is_stream = h.0.kind_is;
      same_table = h.2;
      ns = h.3.0;
      is_chain = h.3.1;
      there = h.3.2;
    })

-- a link at fault, where other sectors are taken
pub retaken : (s : Store) (P Q : ℕ → Type 0) (start size : ℕ) (fault : ChainFault) (link : Link)
    → (fault ≡ chain.CrossLinked → Q link.to)
    → IsLinkAtFault s P start size fault link → IsLinkAtFault s Q start size fault link
retaken s P Q start size chain.OutOfFile link t h = h
retaken s P Q start size chain.Cycle link t h = h
retaken s P Q start size chain.CrossLinked link t h = (h.0, h.1, h.2, t refl)
retaken s P Q start size chain.ShortChain link t h = h
retaken s P Q start size chain.Truncated link t h = absurd h
retaken s P Q start size chain.BadSignature link t h = absurd h
retaken s P Q start size (chain.Unsupported n) link t h = absurd h
retaken s P Q start size chain.TooBig link t h = absurd h
retaken s P Q start size chain.NoMemory link t h = absurd h

-- ---- where a stream lies
store_mini : (b : Base) (size : ℕ) → lies_in_minis size ≡ true → store_in b size ≡ b.minis
store_mini b size e = rw e refl

store_sectors : (b : Base) (size : ℕ) → lies_in_minis size ≡ false → store_in b size ≡ b.sectors
store_sectors b size e = rw e refl

pub table_minis : (p : Parts) (size : ℕ) → lies_in_minis size ≡ true → p.minis.items ≡ table_of p size
table_minis p size e = rw e refl

pub table_sectors : (p : Parts) (size : ℕ) → lies_in_minis size ≡ false → p.table.items ≡ table_of p size
table_sectors p size e = rw e refl

-- the table of what a stream lies in
pub tabled_of : (p : Parts) (b : Base) (size : ℕ) → IsBaseOf p b → IsTabled (table_of p size) (store_in b size)
tabled_of p b size h =
    elim (cases_Bool (lies_in_minis size)) [
      | inl is ↦
          subst (IsTabled (table_of p size)) (sym (store_mini b size is))
          (subst (λ (x : List ℕ). IsTabled x b.minis) (table_minis p size is) h.tabled_minis)
      | inr is ↦
          subst (IsTabled (table_of p size)) (sym (store_sectors b size is))
          (subst (λ (x : List ℕ). IsTabled x b.sectors) (table_sectors p size is) h.tabled)
    ]

pub few_in : (p : Parts) (size : ℕ) → AreFew p → length (table_of p size) ≤ 0xFFFFFFF9
few_in p size few =
    elim (cases_Bool (lies_in_minis size)) [
      | inl is ↦ subst (λ (x : List ℕ). length x ≤ 0xFFFFFFF9) (table_minis p size is) few.1
      | inr is ↦ subst (λ (x : List ℕ). length x ≤ 0xFFFFFFF9) (table_sectors p size is) few.0
    ]

-- ---- what becomes of the links of a stream
pub fate_minis : (p : Parts) (taken : List ℕ) (f : Fates) (s : Stream) (r : Fate) → lies_in_minis s.size ≡ true
    → AreFatesOf p taken f → IsFate p.minis.items f.mini_stops.items s.first r → IsFateOf p taken s r
fate_minis p taken f s r is a h =
    subst (λ (b : Bool). IsFate (if b then p.minis.items else p.table.items)
    (marks_of (if b then p.minis.items else p.table.items) (if b then [] else taken)) s.first r) (sym is)
    (subst (λ (x : List Bool). IsFate p.minis.items x s.first r) a.mini_stops h)

pub fate_sectors : (p : Parts) (taken : List ℕ) (f : Fates) (s : Stream) (r : Fate) → lies_in_minis s.size ≡ false
    → AreFatesOf p taken f → IsFate p.table.items f.stops.items s.first r → IsFateOf p taken s r
fate_sectors p taken f s r is a h =
    subst (λ (b : Bool). IsFate (if b then p.minis.items else p.table.items)
    (marks_of (if b then p.minis.items else p.table.items) (if b then [] else taken)) s.first r) (sym is)
    (subst (λ (x : List Bool). IsFate p.table.items x s.first r) a.stops h)

none_taken : (size : ℕ) → taken_in [] size ≡ []
none_taken size = elim (cases_Bool (lies_in_minis size)) [ inl is ↦ rw is refl | inr is ↦ rw is refl ]

pub narrow : (p : Parts) (b : Base) (size : ℕ) → lies_in_minis size ≡ true → IsBaseOf p b → (store_in b size).width ≡ 64
narrow p b size is h = ap (λ (s : Store). s.width) (store_mini b size is) ∙ h.narrow

pub wide : (p : Parts) (b : Base) (size : ℕ) → lies_in_minis size ≡ false → IsBaseOf p b → (store_in b size).width ≡ 512
wide p b size is h = ap (λ (s : Store). s.width) (store_sectors b size is) ∙ h.wide

-- ---- owners, by what was read
pub own_told : (p : Parts) (b : Base) (id size n : ℕ) → (lies_in_minis size ≡ false) × Contains p.own.items n
    → IsBaseOf p b → size ≡ size_of (entry_at b.directory id) → IsOwner b id n owner.System
own_told p b id size n h base s = (sym (ap lies_in_minis s) ∙ h.0, subst (λ (xs : List ℕ). Contains xs n) base.own h.1)

pub other_told : (p : Parts) (b : Base) (ids : List ℕ) (s t : Stream) (way : Vec ℕ Global) (ns : List ℕ) (n : ℕ)
    → IsStream p.directory.items ids s → IsStream p.directory.items ids t
    → IsStreamAt p.directory.items way.items × (end_of way.items ≡ t.id)
    → (t.id ≢ s.id) × (lies_in_minis t.size ≡ lies_in_minis s.size)
    → IsChain (store_in b t.size) t.first t.size ns → Contains ns n → IsBaseOf p b
    → IsOwner b s.id n (owner.Stream way)
other_told p b ids s t way ns n is it w h chain c base =
    let e : t.id ≡ end_of way.items = sym w.1 in
    let size_is : t.size ≡ size_of (entry_at b.directory (end_of way.items)) = it.size
    ∙ (λ i. size_of (entry_at (base.directory i) (e i))) in
    let first_is : t.first ≡ first_of (entry_at b.directory (end_of way.items)) = it.first
    ∙ (λ i. first_of (entry_at (base.directory i) (e i))) in
    let own_size : s.size ≡ size_of (entry_at b.directory s.id) = is.size
    ∙ ap (λ (d : List ℕ). size_of (entry_at d s.id)) base.directory in
    let one : IsChainOf (store_in b t.size) t.first t.size ns =
    chain_of_some (store_in b t.size) t.first t.size ns it.some chain in
    let two : IsChainOf (store_in b (size_of (entry_at b.directory (end_of way.items)))) t.first
    (size_of (entry_at b.directory (end_of way.items))) ns =
    subst (λ (x : ℕ). IsChainOf (store_in b x) t.first x ns) size_is one in
    let three : IsChainOf (store_in b (size_of (entry_at b.directory (end_of way.items))))
    (first_of (entry_at b.directory (end_of way.items))) (size_of (entry_at b.directory (end_of way.items))) ns =
    subst (λ (x : ℕ). IsChainOf (store_in b (size_of (entry_at b.directory (end_of way.items)))) x
    (size_of (entry_at b.directory (end_of way.items))) ns) first_is two in (
      subst (λ (d : List ℕ). IsStreamAt d way.items) base.directory w.0,
      λ same. h.0 (e ∙ same),
      sym (ap lies_in_minis size_is) ∙ h.1 ∙ ap lies_in_minis own_size,
      (ns, three, c),
    )

-- ---- the place of a stream
pub stream_place : (p : Parts) (ids : List ℕ) (s : Stream) (fault : ChainFault) (link : Link) (o : Owner)
    (at : StreamPlace) → IsStream p.directory.items ids s
    → IsStreamAt p.directory.items at.way.items × (end_of at.way.items ≡ s.id) × (at.is_mini ≡ lies_in_minis s.size)
    × (at.link ≡ link) × (at.owner ≡ o)
    → (b : Base) → IsBaseOf p b
    → IsLinkAtFault (store_in b s.size) (IsTakenFor b s.id) s.first s.size fault link → IsOwner b s.id link.to o
    → (fault ≡ chain.CrossLinked → o ≢ owner.Nobody) → IsStreamPlace b fault at
stream_place p ids s fault link o at is q b base linked own told =
    let e : s.id ≡ end_of at.way.items = sym q.1 in
    let size_is : s.size ≡ size_of (entry_at b.directory (end_of at.way.items)) = is.size
    ∙ (λ i. size_of (entry_at (base.directory i) (e i))) in
    let first_is : s.first ≡ first_of (entry_at b.directory (end_of at.way.items)) = is.first
    ∙ (λ i. first_of (entry_at (base.directory i) (e i))) in
    record {
      stream = subst (λ (d : List ℕ). IsStreamAt d at.way.items) base.directory q.0;
      some = subst (λ (x : ℕ). 0 < x) size_is is.some;
      minis = q.2 ∙ ap lies_in_minis size_is;
      at = subst (λ (x : Link). IsLinkAtFault (store_in b (size_of (entry_at b.directory (end_of at.way.items))))
          (IsTakenFor b (end_of at.way.items))
          (first_of (entry_at b.directory (end_of at.way.items)))
          (size_of (entry_at b.directory (end_of at.way.items))) fault x) (sym q.3)
          (subst (λ (x : ℕ). IsLinkAtFault (store_in b (size_of (entry_at b.directory (end_of at.way.items))))
          (IsTakenFor b x)
          (first_of (entry_at b.directory (end_of at.way.items)))
          (size_of (entry_at b.directory (end_of at.way.items))) fault link) e
          (subst (λ (x : ℕ). IsLinkAtFault (store_in b (size_of (entry_at b.directory (end_of at.way.items))))
          (IsTakenFor b s.id) x (size_of (entry_at b.directory (end_of at.way.items))) fault link) first_is
          (subst (λ (x : ℕ). IsLinkAtFault (store_in b x) (IsTakenFor b s.id) s.first x fault link) size_is linked)));
      told = λ c nobody. told c (sym q.4 ∙ nobody);
      owned = subst (λ (x : Owner). IsOwner b (end_of at.way.items) at.link.to x) (sym q.4)
          (subst (λ (x : Link). IsOwner b (end_of at.way.items) x.to o) (sym q.3)
          (subst (λ (x : ℕ). IsOwner b x link.to o) e own));
    }

-- the same where nobody has the sector, and where somebody has
pub uncrossed_place : (p : Parts) (ids : List ℕ) (s : Stream) (fault : ChainFault) (link : Link) (at : StreamPlace)
    → fault ≢ chain.CrossLinked → IsStream p.directory.items ids s
    → IsStreamAt p.directory.items at.way.items × (end_of at.way.items ≡ s.id) × (at.is_mini ≡ lies_in_minis s.size)
    × (at.link ≡ link) × (at.owner ≡ owner.Nobody)
    → ((b : Base) → IsBaseOf p b → IsLinkAtFault (store_in b s.size) (Contains []) s.first s.size fault link)
    → (b : Base) → IsBaseOf p b → IsStreamPlace b fault at
uncrossed_place p ids s fault link at other is q linked b base =
    stream_place p ids s fault link owner.Nobody at is q b base
    (retaken (store_in b s.size) (Contains []) (IsTakenFor b s.id) s.first s.size fault link
    (λ c. absurd (other c)) (linked b base)) tt (λ c. absurd (other c))

pub crossed_place : (p : Parts) (ids : List ℕ) (s : Stream) (taken : List ℕ) (link : Link) (o : Owner)
    (at : StreamPlace) → IsStream p.directory.items ids s → o ≢ owner.Nobody
    → IsStreamAt p.directory.items at.way.items × (end_of at.way.items ≡ s.id) × (at.is_mini ≡ lies_in_minis s.size)
    × (at.link ≡ link) × (at.owner ≡ o)
    → ((b : Base) → IsBaseOf p b
    → IsLinkAtFault (store_in b s.size) (Contains taken) s.first s.size chain.CrossLinked link)
    → ((b : Base) → IsBaseOf p b → Contains taken link.to → IsOwner b s.id link.to o)
    → (b : Base) → IsBaseOf p b → IsStreamPlace b chain.CrossLinked at
crossed_place p ids s taken link o at is some q linked owned b base =
    let h : IsLinkAtFault (store_in b s.size) (Contains taken) s.first s.size chain.CrossLinked link = linked b base in
    let own : IsOwner b s.id link.to o = owned b base h.3 in
    stream_place p ids s chain.CrossLinked link o at is q b base
    (h.0, h.1, h.2, owner_takes b s.id link.to o own some) own (λ c. some)

-- ---- the chain of a stream, by what was read
module _ (p : Parts) (table : List ℕ) (c : Chain) (s : Stream) (is : table ≡ table_of p s.size)
    (first : c.first ≡ s.first) (size : c.size ≡ s.size)
    (wide : (q : Parts) (b : Base) → IsBaseOf q b → (store_in b s.size).width ≡ c.width) where
  tabled_for : (b : Base) → IsBaseOf p b → IsTabled table (store_in b s.size)
  tabled_for b base = subst (λ (x : List ℕ). IsTabled x (store_in b s.size)) (sym is) (tabled_of p b s.size base)

  pub link_found : (taken : List ℕ) (fault : ChainFault) (found : Examined) (v : Option Link)
      → IfSome v (λ l. found ≡ examined.AtFault l) → IsExamined table taken c fault found
      → IfSome v (λ l. (b : Base) → IsBaseOf p b → IsLinkAtFault (store_in b s.size) (Contains taken) s.first
      s.size fault l)
  link_found taken fault found None e h = tt
  link_found taken fault found (Some l) e h = λ b base.
      let at : IsExamined table taken c fault (examined.AtFault l) = subst (IsExamined table taken c fault) e h in
      subst (λ (x : ℕ). IsLinkAtFault (store_in b s.size) (Contains taken) x s.size fault l) first
      (subst (λ (x : ℕ). IsLinkAtFault (store_in b s.size) (Contains taken) c.first x fault l) size
      (at (store_in b s.size) (tabled_for b base) (wide p b base)))

  pub unfaulted_by : (taken : List ℕ) (fault : ChainFault) → IsUnfaulted table taken c fault
      → IsSparedBy p taken fault s
  unfaulted_by taken fault u b base link h =
      u (store_in b s.size) (tabled_for b base) (wide p b base) link
      (subst (λ (x : ℕ). IsLinkAtFault (store_in b s.size) (Contains taken) c.first x fault link) (sym size)
      (subst (λ (x : ℕ). IsLinkAtFault (store_in b s.size) (Contains taken) x s.size fault link) (sym first) h))

  pub spared_found : (taken : List ℕ) (fault : ChainFault) (v : Option Link)
      → IfNone v (IsUnfaulted table taken c fault) → IfNone v (IsSparedBy p taken fault s)
  spared_found taken fault None u = unfaulted_by taken fault u
  spared_found taken fault (Some l) u = tt

  pub chain_found : (v : Option (Vec ℕ Global))
      → IfSome v (λ ns. (x : Store) → IsTabled table x → x.width ≡ c.width → IsChain x c.first c.size ns.items)
      → IfSome v (λ ns. (b : Base) → IsBaseOf p b → IsChain (store_in b s.size) s.first s.size ns.items)
  chain_found None e = tt
  chain_found (Some ns) e = λ b base.
      subst (λ (x : ℕ). IsChain (store_in b s.size) x s.size ns.items) first
      (subst (λ (x : ℕ). IsChain (store_in b s.size) c.first x ns.items) size
      (e (store_in b s.size) (tabled_for b base) (wide p b base)))

-- a stream whose links are spared the fault, by what becomes of them
pub spared_fate : (p : Parts) (c : Chain) (s : Stream) (fault : ChainFault) (f : Fate) → AreFew p
    → IsFateOf p [] s f → c.first ≡ s.first → c.size ≡ s.size
    → ((q : Parts) (b : Base) → IsBaseOf q b → (store_in b s.size).width ≡ c.width)
    → ((table : List ℕ) → length table ≤ 0xFFFFFFF9 → IsFate table (marks_of table []) c.first f
    → IsUnfaulted table [] c fault) → IsSparedBy p [] fault s
spared_fate p c s fault f few is first size wide spared =
    let table : List ℕ = table_of p s.size in
    let known : IsFate table (marks_of table []) s.first f =
    subst (λ (x : List ℕ). IsFate table (marks_of table x) s.first f) (none_taken s.size) is in
    unfaulted_by p table c s refl first size wide [] fault
    (spared table (few_in p s.size few) (subst (λ (x : ℕ). IsFate table (marks_of table []) x f) (sym first) known))

-- ---- no place
pub no_place : (p : Parts) (ids : List ℕ) (ss : List Stream) (fault : ChainFault) → fault ≢ chain.CrossLinked
    → AreStreams p.directory.items ids ss → All (IsSparedBy p [] fault) ss → IsNoPlace p fault
no_place p ids ss fault other listed spared b base at h =
    let w : List ℕ = at.way.items in
    let there : IsStreamAt p.directory.items w =
    subst (λ (d : List ℕ). IsStreamAt d w) (sym base.directory) h.stream in
    let a : IsAmong ss (end_of w) = listed.every w there
    (subst (λ (d : List ℕ). 0 < size_of (entry_at d (end_of w))) (sym base.directory) h.some) in
    let nobody : Stream = record { id = 0; first = 0; size = 0 } in
    let s : Stream = get_or ss a.0 nobody in
    let is : IsStream p.directory.items ids s = listed.each a.0 nobody a.1 in
    let e : s.id ≡ end_of w = a.2 nobody in
    let size_is : s.size ≡ size_of (entry_at b.directory (end_of w)) = is.size
    ∙ (λ i. size_of (entry_at (base.directory i) (e i))) in
    let first_is : s.first ≡ first_of (entry_at b.directory (end_of w)) = is.first
    ∙ (λ i. first_of (entry_at (base.directory i) (e i))) in
    let free : IsLinkAtFault (store_in b (size_of (entry_at b.directory (end_of w)))) (Contains [])
    (first_of (entry_at b.directory (end_of w))) (size_of (entry_at b.directory (end_of w))) fault at.link =
    retaken _ (IsTakenFor b (end_of w)) (Contains []) _ _ fault at.link (λ c. absurd (other c)) h.at in
    spared a.0 nobody a.1 b base at.link
    (subst (λ (x : ℕ). IsLinkAtFault (store_in b x) (Contains []) s.first x fault at.link) (sym size_is)
    (subst (λ (x : ℕ). IsLinkAtFault (store_in b (size_of (entry_at b.directory (end_of w)))) (Contains []) x
    (size_of (entry_at b.directory (end_of w))) fault at.link) (sym first_is) free))

pub no_places : {E : Type 0} (p : Parts) (dir ids : List ℕ) (ss seen : List Stream) (fault : ChainFault)
    (r : Result (Option StreamPlace) E) → fault ≢ chain.CrossLinked → dir ≡ p.directory.items → seen ≡ ss
    → AreStreams dir ids ss → IfOk r (λ v. IfNone v (All (IsSparedBy p [] fault) seen))
    → IfOk r (λ v. IfNone v (IsNoPlace p fault))
no_places p dir ids ss seen fault (Ok None) other d s listed spared =
    no_place p ids ss fault other (subst (λ (x : List ℕ). AreStreams x ids ss) d listed)
    (subst (All (IsSparedBy p [] fault)) s spared)
no_places p dir ids ss seen fault (Ok (Some at)) other d s listed spared = tt
no_places p dir ids ss seen fault (Err e) other d s listed spared = tt

-- a directory without entries has no streams
none_below : (dir way : List ℕ) → length dir ≡ 0 → IsWay dir way → end_of way ≢ 0 → ⊥
none_below dir [] none w below = below refl
none_below dir (n ∷ way) none w below = let c : IsChild dir 0 n = w.leads.0 in omega (arith, none, c.inside)

pub empty_place : (p : Parts) (fault : ChainFault) → length p.directory.items < 128
    → (m : ℕ) × (length p.directory.items ≡ 128 * m) → IsNoPlace p fault
empty_place p fault short whole b base at h =
    let there : IsStreamAt p.directory.items at.way.items =
    subst (λ (d : List ℕ). IsStreamAt d at.way.items) (sym base.directory) h.stream in
    none_below p.directory.items at.way.items (omega (arith, short, whole.1)) there.is_way there.below

pub file_found : (file : List ℕ) (fault : ChainFault) (parts : Parts) (v : Option StreamPlace) → ArePartsOf file parts
    → IfSome v (λ p. (b : Base) → IsBaseOf parts b → IsStreamPlace b fault p) → IfSome v (IsFaultOfStream file fault)
file_found file fault parts None h e = tt
file_found file fault parts (Some p) h e = (h.1.0, h.1.1, e (base_in file h.1.0) h.1.2)

-- a file has one layout, so what is read of it by one holds by each
pub file_spared : (file : List ℕ) (fault : ChainFault) (parts : Parts) (v : Option StreamPlace)
    → ArePartsOf file parts → IfNone v (IsNoPlace parts fault) → IfNone v (IsNoStream file fault)
file_spared file fault parts None h none = λ at f.
    let same : h.1.0 ≡ f.0 = one_layout file h.1.0 f.0 h.1.1 f.1 in
    none (base_in file f.0) (subst (λ (l : Layout). IsBaseOf parts (base_in file l)) same h.1.2) at f.2
file_spared file fault parts (Some p) h none = tt

pub no_file : (file : List ℕ) (fault : ChainFault) → ((l : Layout) → IsLaidOut file l → ⊥) → IsNoStream file fault
no_file file fault none at f = none f.0 f.1
