-- What following a table from a sector on gives: the chain, where there is one.
use Rattle.std.proofs.Common.{◌≡◌, ◌<◌, ◌≤◌, ◌+◌, ◌-◌, ◌*◌, Bool, set, ℕ, zero, suc, true, false, cond, List, [], ◌∷◌}
use Rattle.std.proofs.Common.{◌++◌, append_assoc, length, take, get_or, length-set, refl, sym, ap, subst, ◌∙◌, arith}
use Rattle.std.proofs.Common.{nat_lt}
use Rattle.std.proofs.lemmas.Bool.{eqb-true}
use Rattle.std.proofs.lemmas.Bool.Decides.{Decides-eqb, nat_tests}
use Rattle.std.proofs.lemmas.List.Elements.{All-contains, All-head, All-tail, Contains-append_right}
use Rattle.std.proofs.lemmas.List.{append-nil, length-take}
use Rattle.std.proofs.lemmas.Map.Made.{IsDistinct-from_AllPairs}
use Rattle.std.proofs.lemmas.Map.Steps.{length-le_from_distinct_below}
use Rattle.std.proofs.lemmas.Map.Views.{Contains-from_any}
use Rattle.std.specs.List.{All}
use Rattle.cfb_header.specs.Bytes.{joined}
use Rattle.cfb_chains.specs.Chain.{AreDistinct, END_OF_CHAIN, IsChain, Leads}
use Rattle.cfb_chains.specs.Fat.{FatValue, IsFound, IsFreeChain, followed, held, set_all, store_of}
use Rattle.cfb_chains.proofs.Chains.{chain_one, chain_room, distinct_chain}
use Rattle.cfb_chains.proofs.Blocks.{length_block, length_joined}
use Rattle.cfb_chains.proofs.Marks.{set_all-append}

goes : (a b : ℕ) → a < b → nat_lt a b ≡ true
goes a b h = grind (arith, nat_tests)

stops : (a b : ℕ) → b ≤ a → nat_lt a b ≡ false
stops a b h = grind (arith, nat_tests)

nothing : (xs : List ℕ) → length xs ≡ 0 → xs ≡ []
nothing [] e = refl
nothing (x ∷ xs) e = absurd (omega (arith, e))

-- ---- the steps of the walk
pub followed_end : (table : List ℕ) (fuel at : ℕ) → length table ≤ at → followed table fuel at ≡ []
followed_end table zero at h = refl
followed_end table (suc fuel) at h = ap (λ b. cond b (at ∷ followed table fuel (get_or table at 0)) [])
    (stops at (length table) h)

pub followed_step : (table : List ℕ) (fuel at : ℕ) → at < length table → 0 < fuel
    → followed table fuel at ≡ at ∷ followed table (fuel - 1) (get_or table at 0)
followed_step table zero at h some = absurd (omega (arith, some))
followed_step table (suc fuel) at h some =
    let less : suc fuel - 1 ≡ fuel = omega arith in
    rw less (ap (λ b. cond b (at ∷ followed table fuel (get_or table at 0)) []) (goes at (length table) h))

pub followed_more : (table met : List ℕ) (fuel at next : ℕ) (all : List ℕ) → at < length table → 0 < fuel
    → next ≡ get_or table at 0 → met ++ followed table fuel at ≡ all
    → (met ++ at ∷ []) ++ followed table (fuel - 1) next ≡ all
followed_more table met fuel at next all h some e is =
    append_assoc met (at ∷ []) (followed table (fuel - 1) next)
    ∙ (λ i. met ++ at ∷ followed table (fuel - 1) (e i))
    ∙ ap (λ xs. met ++ xs) (sym (followed_step table fuel at h some)) ∙ is

-- following the table from a sector on gives the chain from it, where that has no more sectors than the table
pub followed_leads : (table : List ℕ) (fuel start : ℕ) (ns : List ℕ) → length table ≤ END_OF_CHAIN
    → Leads (λ n. get_or table n 0) start ns END_OF_CHAIN
    → All (λ n. n < length table) ns → length ns ≤ fuel → followed table fuel start ≡ ns
followed_leads table zero start [] few h below le = refl
followed_leads table zero start (n ∷ ns) few h below le = absurd (omega (arith, le))
followed_leads table (suc fuel) start [] few h below le =
    ap (λ b. cond b (start ∷ followed table fuel (get_or table start 0)) [])
    (stops start (length table) (omega (arith, h, few)))
followed_leads table (suc fuel) start (n ∷ ns) few h below le =
    let lt : start < length table = omega (arith, h.0, All-head (λ n. n < length table) n ns below) in
    let rest : followed table fuel (get_or table start 0) ≡ ns =
    followed_leads table fuel (get_or table start 0) ns few
    (subst (λ x. Leads (λ n. get_or table n 0) (get_or table x 0) ns END_OF_CHAIN) (sym h.0) h.1)
    (All-tail (λ n. n < length table) n ns below) (omega (arith, le)) in
    ap (λ b. cond b (start ∷ followed table fuel (get_or table start 0)) []) (goes start (length table) lt)
    ∙ (λ i. h.0 i ∷ rest i)

-- sectors of a table, none of which stands twice, are no more than it has
distinct_few : (count : ℕ) (ns : List ℕ) → All (λ n. n < count) ns → AreDistinct ns → length ns ≤ count
distinct_few count ns below once =
    length-le_from_distinct_below ns count (IsDistinct-from_AllPairs Decides-eqb ns once)
    (λ q t. All-contains (λ n. n < count) ns q below (Contains-from_any eqb-true q ns t))

-- following the table from a sector on gives the chain from it
pub followed_chain : (table : List ℕ) (start : ℕ) (ns : List ℕ) → length table ≤ END_OF_CHAIN
    → Leads (λ n. get_or table n 0) start ns END_OF_CHAIN
    → All (λ n. n < length table) ns → followed table (length table) start ≡ ns
followed_chain table start ns few h below =
    followed_leads table (length table) start ns few h below
    (distinct_few (length table) ns below (distinct_chain (λ n. get_or table n 0) (length table) start ns few h below))

-- behind the last sector of a chain stands its end
leads_last : (next : ℕ → ℕ) (start stop : ℕ) (ns : List ℕ) → Leads next start ns stop → 0 < length ns
    → next (get_or ns (length ns - 1) 0) ≡ stop
leads_last next start stop [] h some = absurd (omega (arith, some))
leads_last next start stop (n ∷ []) h some = h.1
leads_last next start stop (n ∷ m ∷ ns) h some =
    let place : suc (suc (length ns)) - 1 ≡ suc (suc (length ns) - 1) = omega arith in
    ap (λ k. next (get_or (n ∷ m ∷ ns) k 0)) place ∙ leads_last next (next n) stop (m ∷ ns) h.1 (omega arith)

-- no chain begins where what follows leads to no end
pub no_chain : (table : List ℕ) (start at last : ℕ) (ns found empty : List ℕ)
    → found ≡ followed table (length table) start → at + 1 ≡ length found → last ≡ get_or found at 0
    → (get_or table last 0 ≡ END_OF_CHAIN → ⊥) → length table ≤ END_OF_CHAIN
    → Leads (λ n. get_or table n 0) start ns END_OF_CHAIN
    → All (λ n. n < length table) ns → empty ≡ ns
no_chain table start at last ns found empty found_is at_is last_is other few h below =
    let same : found ≡ ns = found_is ∙ followed_chain table start ns few h below in
    let long : at + 1 ≡ length ns = at_is ∙ ap length same in
    let here : at ≡ length ns - 1 = omega (arith, long) in
    let is : last ≡ get_or ns (length ns - 1) 0 = last_is ∙ (λ i. get_or (same i) (here i) 0) in
    absurd (other (ap (λ n. get_or table n 0) is ∙ leads_last (λ n. get_or table n 0) start END_OF_CHAIN ns h
    (omega (arith, long))))

-- what is held by a chain that is found
pub held_found : (f : FatValue) (start len : ℕ) (ns : List ℕ) → length f.table ≤ 0xFFFFFFF9 → IsFound f start len ns
    → held f start len ≡ take len (joined (store_of f).piece ns)
held_found f start zero ns few h = refl
held_found f start (suc len) ns few h =
    let below : All (λ n. n < length f.table) ns = λ k d l. (h.free.free k d l).0 in
    ap (λ xs. take (suc len) (joined (store_of f).piece xs))
    (followed_leads f.table (length f.table) start ns (omega (arith, few)) h.chain.linked below
    (distinct_few (length f.table) ns below h.free.once))

pub held_long : (f : FatValue) (start len : ℕ) (ns : List ℕ) → length f.table ≤ 0xFFFFFFF9 → IsFound f start len ns
    → length (held f start len) ≡ len
held_long f start len ns few h =
    let bytes : List ℕ = joined (store_of f).piece ns in
    let all : length bytes ≡ f.width * length ns = length_joined (store_of f).piece f.width ns
    (λ n. length_block f.width f.bytes (f.start + f.width * n)) in
    let room : len ≤ f.width * length ns = chain_room (store_of f) start len ns h.chain in
    ap length (held_found f start len ns few h) ∙ length-take len bytes ∙ omega (arith, all, room)

-- ---- the sectors of a chain, marked one after another
pub record Marking (table : List ℕ) (start at left : ℕ) (before after : List Bool) : Type 0 where
  pub done : List ℕ
  pub rest : List ℕ
  pub linked : Leads (λ n. get_or table n 0) start (done ++ rest) END_OF_CHAIN
  pub ahead : Leads (λ n. get_or table n 0) at rest END_OF_CHAIN
  pub below : All (λ n. n < length table) (done ++ rest)
  pub marks : after ≡ set_all before done
  pub left_is : length rest ≡ left
  pub long : length after ≡ length before

pub marking_start : (f : FatValue) (start count : ℕ) (ns : List ℕ) (used : List Bool) → IsFreeChain f start ns
    → length ns ≡ count → Marking f.table start start count used used
marking_start f start count ns used h e = record {
  done = [];
  rest = ns;
  linked = h.chain.linked;
  ahead = h.chain.linked;
  below = λ k d l. (h.chain.present k d l).1;
  marks = refl;
  left_is = e;
  long = refl;
}

first_of : (table done rest : List ℕ) (start at left : ℕ) → Leads (λ n. get_or table n 0) at rest END_OF_CHAIN
    → All (λ n. n < length table) (done ++ rest)
    → length rest ≡ left → 0 < left → (more : List ℕ) × (rest ≡ at ∷ more) × (at < length table)
    × Leads (λ n. get_or table n 0) (get_or table at 0) more END_OF_CHAIN
first_of table done [] start at left h below e some = absurd (omega (arith, e, some))
first_of table done (n ∷ ns) start at left h below e some =
    let lt : n < length table = All-contains (λ n. n < length table) (done ++ n ∷ ns) n below
    (Contains-append_right done (n ∷ ns) n (0, omega arith, refl)) in (
      ns,
      (λ i. sym h.0 i ∷ ns),
      subst (λ x. x < length table) (sym h.0) lt,
      subst
          (λ x. Leads (λ n. get_or table n 0) (get_or table x 0) ns END_OF_CHAIN) (sym h.0) h.1,
    )

pub marking_below : (table : List ℕ) (start at left : ℕ) (before after : List Bool)
    → Marking table start at left before after → 0 < left → at < length table
marking_below table start at left before after m some =
    (first_of table m.done m.rest start at left m.ahead m.below m.left_is some).2

pub marking_step : (table : List ℕ) (start at left next : ℕ) (before after : List Bool)
    → Marking table start at left before after → 0 < left → next ≡ get_or table at 0
    → Marking table start next (left - 1) before (set after at true)
marking_step table start at left next before after m some e =
    let f = first_of table m.done m.rest start at left m.ahead m.below m.left_is some in
    let all : (m.done ++ at ∷ []) ++ f.0 ≡ m.done ++ m.rest = append_assoc m.done (at ∷ []) f.0
    ∙ ap (λ xs. m.done ++ xs) (sym f.1) in
    record {
      done = m.done ++ at ∷ [];
      rest = f.0;
      linked = subst (λ xs. Leads (λ n. get_or table n 0) start xs END_OF_CHAIN) (sym all) m.linked;
      ahead = subst (λ x. Leads (λ n. get_or table n 0) x f.0 END_OF_CHAIN) (sym e) f.3;
      below = subst (λ xs. All (λ n. n < length table) xs) (sym all) m.below;
      marks = ap (λ us. set us at true) m.marks ∙ sym (set_all-append before m.done (at ∷ []));
      left_is = omega (arith, m.left_is, ap length f.1);
      long = length-set after at true ∙ m.long;
    }

pub marking_end : (f : FatValue) (start at : ℕ) (ns : List ℕ) (before after : List Bool)
    → length f.table ≤ 0xFFFFFFF9 → IsFreeChain f start ns
    → Marking f.table start at 0 before after → after ≡ set_all before ns
marking_end f start at ns before after few h m =
    let whole : (xs : List ℕ) → length xs ≡ 0 → m.done ++ xs ≡ m.done =
    λ xs e. ap (λ ys. m.done ++ ys) (nothing xs e) ∙ append-nil m.done in
    let all : m.done ++ m.rest ≡ m.done = whole m.rest m.left_is in
    let below : All (λ n. n < length f.table) m.done = subst (λ xs. All (λ n. n < length f.table) xs) all m.below in
    let chain : IsChain (store_of f) start 0 m.done = record {
      linked = subst (λ xs. Leads (λ n. get_or f.table n 0) start xs END_OF_CHAIN) all m.linked;
      present = λ k d l. (omega (arith, below k d l, few), below k d l);
      enough = omega arith;
    } in
    m.marks ∙ ap (set_all before) (chain_one (store_of f) start m.done ns chain h.chain)
