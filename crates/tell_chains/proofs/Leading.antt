-- What becomes of links from a number on.
use Rattle.std.proofs.Common.{◌≡◌, ◌≢◌, ◌⊎◌, inl, inr, ◌<◌, ◌≤◌, ◌+◌, ◌*◌, ◌++◌, ◌∙◌, ℕ, zero, suc, Bool, true, false}
use Rattle.std.proofs.Common.{List, [], ◌∷◌, Option, Some, None, arith, get_or, length, replicate, refl, set, ap, sym}
use Rattle.std.proofs.Common.{length-append, subst}
use Rattle.std.proofs.Math.ListN.{get_or-append}
use Rattle.std.proofs.Math.Nat.{mul-le-mul_left}
use Rattle.std.proofs.Math.Seq.{get_or-append_seam}
use Rattle.std.proofs.lemmas.List.{append-nil, length-replicate}
use Rattle.std.proofs.lemmas.List.Elements.{All-cons, All-contains, All-push, All-tail, Contains-append_right}
use Rattle.std.specs.List.{All, Contains}
use Rattle.cfb_chains.specs.Chain.{END_OF_CHAIN, Leads, Store}
use Rattle.cfb_chains.proofs.Chains.{leads_push}
use Rattle.cfb_chains.proofs.Marks.{length-set_all}
use Rattle.cfb_header.specs.declared.fault.ChainFault.{ChainFault}
use Rattle.cfb_header.specs.declared.fault.ChainFault.TheVariants as chain
use Rattle.cfb_faults.specs.Faults.{Walks}
use Rattle.tell_faults.specs.Places.{IsLed, IsLinkAtFault, IsUnfaulted, last_of}
use Rattle.tell_faults.specs.Tables.{IsTabled}
use Rattle.tell_faults.specs.declared.place.Link.{Link}
use Rattle.tell_faults.specs.declared.walking.Chain.{Chain}
use Rattle.tell_faults.proofs.Stops.{begins, prefix, stays, unmarked}
use Rattle.tell_faults.proofs.Walks.{leads_by}
use Rattle.tell_chains.specs.Fates.{AreFates, IsEnd, IsEndSpared, IsFate, IsFree, IsSettling, MOST, Runs, last_or}
use Rattle.tell_chains.specs.Fates.{marks_of}
use Rattle.tell_chains.specs.declared.fates.Ending.{Ending}
use Rattle.tell_chains.specs.declared.fates.Fate.{Fate}
use Rattle.tell_chains.specs.declared.fates.Fate.TheVariants as fate

-- ---- what is noted
set_cases : (xs : List Fate) (n k : ℕ) (f : Fate)
    → (get_or (set xs n f) k fate.Unknown ≡ get_or xs k fate.Unknown)
    ⊎ ((k ≡ n) × (get_or (set xs n f) k fate.Unknown ≡ f))
set_cases [] n k f = inl refl
set_cases (x ∷ xs) zero zero f = inr (refl, refl)
set_cases (x ∷ xs) zero (suc k) f = inl refl
set_cases (x ∷ xs) (suc n) zero f = inl refl
set_cases (x ∷ xs) (suc n) (suc k) f =
    elim (set_cases xs n k f) [
      | inl other ↦ inl other
      | inr now ↦ inr (ap suc now.0, now.1)
    ]

unknown_at : (fates : List Fate) (n : ℕ) → All (λ (f : Fate). f ≡ fate.Unknown) fates
    → get_or fates n fate.Unknown ≡ fate.Unknown
unknown_at [] n h = refl
unknown_at (f ∷ fates) zero h = h 0 f (omega arith)
unknown_at (f ∷ fates) (suc n) h = unknown_at fates n (All-tail (λ (g : Fate). g ≡ fate.Unknown) f fates h)

-- the last of some sectors, with one more before them
some_last : (n : ℕ) (ns : List ℕ) → (x : ℕ) × (last_of (n ∷ ns) ≡ Some x)
some_last n [] = (n, refl)
some_last n (m ∷ ns) = some_last m ns

last_cons : (n : ℕ) (ns : List ℕ) → last_of (n ∷ ns) ≡ last_or (last_of ns) n
last_cons n [] = refl
last_cons n (m ∷ ns) = let p = some_last m ns in p.1 ∙ sym (ap (λ (v : Option ℕ). last_or v n) p.1)

leads_last : (next : ℕ → ℕ) (start : ℕ) (ns : List ℕ) (n x : ℕ) → Leads next start (ns ++ n ∷ []) x
    → Leads next start ns n × (next n ≡ x)
leads_last next start [] n x h = (h.0, h.1)
leads_last next start (m ∷ ns) n x h = let r = leads_last next (next m) ns n x h.1 in ((h.0, r.0), r.1)

module _ (table : List ℕ) (stops : List Bool) where
  pub all_unknown : (fates : List Fate) → All (λ (f : Fate). f ≡ fate.Unknown) fates → AreFates table stops fates
  all_unknown fates h = λ n. subst (IsFate table stops n) (sym (unknown_at fates n h)) tt

  pub fates_set : (fates : List Fate) (n : ℕ) (f : Fate) → AreFates table stops fates → IsFate table stops n f
      → AreFates table stops (set fates n f)
  fates_set fates n f all is = λ k. elim (set_cases fates n k f) [
    | inl other ↦ subst (IsFate table stops k) (sym other) (all k)
    | inr now ↦
        subst (IsFate table stops k) (sym now.1) (subst (λ (x : ℕ). IsFate table stops x f) (sym now.0) is)
  ]

  -- ---- ways
  pub runs_none : (x : ℕ) → Runs table stops x [] x
  runs_none x = record { linked = refl; free = λ k d lt. absurd (omega (arith, lt)) }

  pub runs_push : (start at : ℕ) (ns : List ℕ) → Runs table stops start ns at → IsFree table stops at
      → Runs table stops start (ns ++ at ∷ []) (get_or table at 0)
  runs_push start at ns r free = record {
    linked = leads_push (λ n. get_or table n 0) start ns at r.linked;
    free = All-push (IsFree table stops) ns at r.free free;
  }

  runs_last : (start : ℕ) (ns : List ℕ) (n x : ℕ) → Runs table stops start (ns ++ n ∷ []) x
      → Runs table stops start ns n × IsFree table stops n × (get_or table n 0 ≡ x)
  runs_last start ns n x r =
      let l = leads_last (λ k. get_or table k 0) start ns n x r.linked in (
        record {
          linked = l.0;
          free = λ k d lt. subst (IsFree table stops) (get_or-append ns (n ∷ []) d k lt)
              (r.free k d (omega (arith, lt, length-append ns (n ∷ []))));
        },
        subst (IsFree table stops) (get_or-append_seam ns n [] 0)
            (r.free (length ns) 0 (omega (arith, length-append ns (n ∷ [])))),
        l.1,
      )

  -- ---- a circle
  pub circle : (start : ℕ) (ns : List ℕ) (to : ℕ) → Runs table stops start ns to → Contains ns to
      → IsFate table stops to fate.Circle
  circle start ns to r back = λ ms x g. All-contains (IsFree table stops) ns x r.free
      (stays (λ n. get_or table n 0) start ns to r.linked back to ms x back g.linked)

  pub circle_back : (n : ℕ) → IsFree table stops n → IsFate table stops (get_or table n 0) fate.Circle
      → (ns : List ℕ) (to : ℕ) → Runs table stops n ns to → IsFree table stops to
  circle_back n free h [] to g = subst (IsFree table stops) g.linked free
  circle_back n free h (m ∷ ns) to g =
      let same : n ≡ m = g.linked.0 in
      h ns to (record {
        linked = subst (λ (x : ℕ). Leads (λ k. get_or table k 0) (get_or table x 0) ns to) (sym same) g.linked.1;
        free = All-tail (IsFree table stops) m ns g.free;
      })

  -- ---- an end
  pub ends_here : (to : ℕ) → get_or stops to true ≡ true
      → IsEnd table stops to (record { to = to; steps = 0; last = None })
  ends_here to stop = record { ns = []; runs = runs_none to; stop = stop; steps = inl refl; last = refl }

  counted : (more steps long : ℕ) → ((steps < MOST) × (more ≡ steps + 1)) ⊎ ((MOST ≤ steps) × (more ≡ MOST))
      → (steps ≡ long) ⊎ ((steps ≡ MOST) × (MOST ≤ long)) → (more ≡ suc long) ⊎ ((more ≡ MOST) × (MOST ≤ suc long))
  counted more steps long (inl a) (inl b) = inl (omega (arith, a.1, b))
  counted more steps long (inl a) (inr b) = absurd (omega (arith, a.0, b.0))
  counted more steps long (inr a) (inl b) = inr (a.1, omega (arith, a.0, b))
  counted more steps long (inr a) (inr b) = inr (a.1, omega (arith, b.1))

  pub end_back : (n : ℕ) (e f : Ending) → IsFree table stops n → IsEnd table stops (get_or table n 0) e
      → f.to ≡ e.to
      → ((e.steps < MOST) × (f.steps ≡ e.steps + 1)) ⊎ ((MOST ≤ e.steps) × (f.steps ≡ MOST))
      → f.last ≡ last_or e.last n → IsEnd table stops n f
  end_back n e f free h to steps last = record {
    ns = n ∷ h.ns;
    runs = record {
      linked = (
        refl,
        subst (λ (x : ℕ). Leads (λ k. get_or table k 0) (get_or table n 0) h.ns x) (sym to)
            h.runs.linked,
      );
      free = All-cons (IsFree table stops) n h.ns free h.runs.free;
    };
    stop = ap (λ (x : ℕ). get_or stops x true) to ∙ h.stop;
    steps = counted f.steps e.steps (length h.ns) steps h.steps;
    last = last ∙ ap (λ (v : Option ℕ). last_or v n) h.last ∙ sym (last_cons n h.ns);
  }

  -- ---- a way is gone back
  pub settled_last : (old fates : List Fate) (start n : ℕ) (way rest : List ℕ) (behind before : Fate)
      → IsSettling table stops old start way behind → way ≡ rest ++ n ∷ [] → fates ≡ set old n before
      → (IsFree table stops n → IsFate table stops (get_or table n 0) behind → IsFate table stops n before)
      → IsSettling table stops fates start rest before
  settled_last old fates start n way rest behind before s e noted back =
      let r = runs_last start rest n s.at
      (subst (λ (w : List ℕ). Runs table stops start w s.at) e s.runs) in
      let is : IsFate table stops n before = back r.1
      (subst (λ (x : ℕ). IsFate table stops x behind) (sym r.2) s.known) in
      record {
        at = n;
        runs = r.0;
        known = is;
        noted = subst (AreFates table stops) (sym noted) (fates_set old n before s.noted is);
      }

-- ---- where no sector is marked
unmarked_free : (count n : ℕ) → n < count → get_or (replicate count false) n true ≡ false
unmarked_free zero n lt = absurd (omega (arith, lt))
unmarked_free (suc count) zero lt = refl
unmarked_free (suc count) (suc n) lt = unmarked_free count n (omega (arith, lt))

module _ (table : List ℕ) (few : length table ≤ 0xFFFFFFF9) (s : Store) (t : IsTabled table s) where
  walked_runs : (start : ℕ) (ns : List ℕ) (to : ℕ) → Walks s start ns to
      → Runs table (marks_of table []) start ns to
  walked_runs start ns to w = record {
    linked = leads_by s.next (λ n. get_or table n 0) (length table) start ns to (λ n lt. sym (t.next n lt))
        (subst (λ (c : ℕ). All (λ n. n < c) ns) t.count w.present) w.linked;
    free = λ k d lt.
        let below : get_or ns k d < length table = subst (λ (c : ℕ). get_or ns k d < c) t.count (w.present k d lt) in
        (below, unmarked_free (length table) (get_or ns k d) below);
  }

  runs_walked : (start : ℕ) (ns : List ℕ) (to : ℕ) → Runs table (marks_of table []) start ns to
      → Walks s start ns to
  runs_walked start ns to r = record {
    linked = leads_by (λ n. get_or table n 0) s.next (length table) start ns to t.next
        (λ k d lt. (r.free k d lt).0) r.linked;
    present = λ k d lt. subst (λ (c : ℕ). get_or ns k d < c) (sym t.count) ((r.free k d lt).0);
  }

  -- links lead out to one number, over the same sectors
  one_rest : (start : ℕ) (ns ms rest : List ℕ) (last to : ℕ) → Walks s start ns last → ns ≡ ms ++ rest
      → Leads s.next to rest last → s.count ≤ to → (last ≡ to) × (ns ≡ ms)
  one_rest start ns ms [] last to w e l past = (sym l, e ∙ append-nil ms)
  one_rest start ns ms (r ∷ rest) last to w e l past =
      let there : Contains ns r = subst (λ (x : List ℕ). Contains x r) (sym e)
      (Contains-append_right ms (r ∷ rest) r (0, omega arith, refl)) in
      absurd (omega (arith, All-contains (λ n. n < s.count) ns r w.present there, l.0, past))

  pub one_out : (start : ℕ) (ns : List ℕ) (last : ℕ) (ms : List ℕ) (to : ℕ) → Walks s start ns last
      → s.count ≤ last → Walks s start ms to → s.count ≤ to → (last ≡ to) × (ns ≡ ms)
  one_out start ns last ms to w out g past =
      let r = prefix s.next s.count start ns last ms to w.linked out g.linked g.present in
      one_rest start ns ms r.0 last to w r.1 r.2 past

  -- what leads out doesn't come back
  no_return : (start : ℕ) (ns : List ℕ) (last : ℕ) (ms : List ℕ) (to : ℕ) → Walks s start ns last
      → s.count ≤ last → Walks s start ms to → Contains ms to → ⊥
  no_return start ns last ms to w out g back =
      let there : Contains ms last = stays s.next start ms to g.linked back start ns last
      (begins s.next start ms to g.linked back) w.linked in
      absurd (omega (arith, All-contains (λ n. n < s.count) ms last g.present there, out))

  -- ---- a chain whose links lead out so has no fault
  module _ (c : Chain) (w : s.width ≡ c.width) (e : Ending) (h : IsEnd table (marks_of table []) c.first e) where
    walk_is : Walks s c.first h.ns e.to
    walk_is = runs_walked c.first h.ns e.to h.runs

    out : s.count ≤ e.to
    out = let past : length table ≤ e.to = unmarked (length table) e.to h.stop in omega (arith, past, t.count)

    -- a chain that ends has room
    roomy : (size long : ℕ) → (e.steps ≡ long) ⊎ ((e.steps ≡ MOST) × (MOST ≤ long)) → size ≤ c.width * e.steps
        → c.width * long < size → ⊥
    roomy size long (inl same) room short =
        absurd (omega (arith, subst (λ (x : ℕ). size ≤ c.width * x) same room, short))
    roomy size long (inr more) room short =
        let less : c.width * e.steps ≤ c.width * long = mul-le-mul_left c.width
        (let fewer : e.steps ≤ long = omega (arith, more.0, more.1) in fewer) in
        absurd (omega (arith, less, room, short))

    pub end_unfaulted : (fault : ChainFault) → fault ≢ chain.CrossLinked → IsEndSpared e c fault → (link : Link)
        → IsLinkAtFault s (Contains []) c.first c.size fault link → ⊥
    end_unfaulted chain.OutOfFile other spared link g =
        let one = one_out c.first h.ns e.to g.0 link.to walk_is out g.1.walks g.3 in
        g.2 (sym one.0 ∙ spared)
    end_unfaulted chain.Cycle other spared link g = no_return c.first h.ns e.to g.0 link.to walk_is out g.1.walks g.2
    end_unfaulted chain.CrossLinked other spared link g = other refl
    end_unfaulted chain.ShortChain other spared link g =
        let past : s.count ≤ link.to = omega (arith, g.2, few, t.count) in
        let one = one_out c.first h.ns e.to g.0 link.to walk_is out g.1.walks past in
        let short : c.width * length h.ns < c.size = subst (λ (x : List ℕ). c.width * length x < c.size) (sym one.1)
        (subst (λ (x : ℕ). x * length g.0 < c.size) w g.3) in
        elim spared [
          | inl cut ↦ cut (one.0 ∙ g.2)
          | inr long ↦ roomy c.size (length h.ns) h.steps long short
        ]
    end_unfaulted chain.Truncated other spared link g = g
    end_unfaulted chain.BadSignature other spared link g = g
    end_unfaulted (chain.Unsupported n) other spared link g = g
    end_unfaulted chain.TooBig other spared link g = g
    end_unfaulted chain.NoMemory other spared link g = g

  -- ---- a chain whose links never lead out is in a circle
  module _ (c : Chain) (never : (ns : List ℕ) (to : ℕ) → Runs table (marks_of table []) c.first ns to
      → IsFree table (marks_of table []) to) where
    inside : (ns : List ℕ) (to : ℕ) → Walks s c.first ns to → to < s.count
    inside ns to w = omega (arith, (never ns to (walked_runs c.first ns to w)).0, t.count)

    pub circle_unfaulted : (fault : ChainFault) → fault ≢ chain.CrossLinked → fault ≢ chain.Cycle → (link : Link)
        → IsLinkAtFault s (Contains []) c.first c.size fault link → ⊥
    circle_unfaulted chain.OutOfFile other round link g = absurd (omega (arith, inside g.0 link.to g.1.walks, g.3))
    circle_unfaulted chain.Cycle other round link g = round refl
    circle_unfaulted chain.CrossLinked other round link g = other refl
    circle_unfaulted chain.ShortChain other round link g =
        absurd (omega (arith, inside g.0 link.to g.1.walks, g.2, few, t.count))
    circle_unfaulted chain.Truncated other round link g = g
    circle_unfaulted chain.BadSignature other round link g = g
    circle_unfaulted (chain.Unsupported n) other round link g = g
    circle_unfaulted chain.TooBig other round link g = g
    circle_unfaulted chain.NoMemory other round link g = g

pub spared_end : (table : List ℕ) (c : Chain) (fault : ChainFault) (e : Ending) → length table ≤ 0xFFFFFFF9
    → IsEnd table (marks_of table []) c.first e → fault ≢ chain.CrossLinked → IsEndSpared e c fault
    → IsUnfaulted table [] c fault
spared_end table c fault e few h other spared =
    λ s t w link g. end_unfaulted table few s t c w e h fault other spared link g

pub spared_circle : (table : List ℕ) (c : Chain) (fault : ChainFault) → length table ≤ 0xFFFFFFF9
    → IsFate table (marks_of table []) c.first fate.Circle → fault ≢ chain.CrossLinked → fault ≢ chain.Cycle
    → IsUnfaulted table [] c fault
spared_circle table c fault few never other round =
    λ s t w link g. circle_unfaulted table few s t c never fault other round link g

-- ---- of streams
pub marks_long : (table taken : List ℕ) → length (marks_of table taken) ≡ length table
marks_long table taken = length-set_all (replicate (length table) false) taken ∙ length-replicate (length table) false

pub fate_at : (table : List ℕ) (stops seen : List Bool) (fates known : List Fate) (x : ℕ) (r : Fate) → seen ≡ stops
    → known ≡ fates → AreFates table stops fates
    → ((t : List ℕ) (start : ℕ) → AreFates t seen known → Runs t seen start [] x → IsFate t seen x r)
    → IsFate table stops x r
fate_at table stops seen fates known x r s k all h =
    subst (λ (v : List Bool). IsFate table v x r) s
    (h table x
    (subst (AreFates table seen) (sym k) (subst (λ (v : List Bool). AreFates table v fates) (sym s) all))
    (runs_none table seen x))
