-- Walking a table.
use Rattle.std.proofs.Common.{◌≡◌, ◌<◌, ◌≤◌, ◌*◌, ◌++◌, ℕ, zero, suc, List, [], ◌∷◌, Option, Some, None, arith, length}
use Rattle.std.proofs.Common.{get_or, refl, sym, subst}
use Rattle.std.proofs.lemmas.List.Elements.{All-head, All-push, All-tail}
use Rattle.std.specs.List.{All}
use Rattle.cfb_chains.specs.Chain.{END_OF_CHAIN, IsChain, IsChainOf, Leads, Store}
use Rattle.cfb_chains.proofs.Chains.{leads_push}
use Rattle.tell_faults.specs.Places.{IsLed, IsWalk, last_of}
use Rattle.tell_faults.specs.Tables.{IsTabled}
use Rattle.tell_faults.specs.declared.place.Link.{Link}

pub last_push : (ns : List ℕ) (at : ℕ) → last_of (ns ++ at ∷ []) ≡ Some at
last_push [] at = refl
last_push (n ∷ []) at = refl
last_push (n ∷ m ∷ ns) at = last_push (m ∷ ns) at

-- nothing is walked yet
pub walk_none : (table : List ℕ) (start : ℕ) → IsWalk table start [] (record { from = None; to = start })
walk_none table start = record { linked = refl; present = λ k d lt. absurd (omega (arith, lt)); from = refl }

-- one sector further
pub walk_push : (table : List ℕ) (start at next : ℕ) (from : Option ℕ) (ns : List ℕ)
    → IsWalk table start ns (record { from = from; to = at }) → at < length table
    → next ≡ get_or table at 0 → IsWalk table start (ns ++ at ∷ []) (record { from = Some at; to = next })
walk_push table start at next from ns w lt e = record {
  linked = subst (λ x. Leads (λ n. get_or table n 0) start (ns ++ at ∷ []) x) (sym e)
      (leads_push (λ n. get_or table n 0) start ns at w.linked);
  present = All-push (λ n. n < length table) ns at w.present lt;
  from = sym (last_push ns at);
}

-- ---- what was walked, of a store
pub leads_by : (f g : ℕ → ℕ) (count start : ℕ) (ns : List ℕ) (last : ℕ) → ((n : ℕ) → n < count → f n ≡ g n)
    → All (λ n. n < count) ns → Leads f start ns last → Leads g start ns last
leads_by f g count start [] last same below h = h
leads_by f g count start (n ∷ ns) last same below h = (
  h.0,
  leads_by f g count (g n) ns last same (All-tail (λ n. n < count) n ns below)
      (subst (λ x. Leads f x ns last) (same n (All-head (λ n. n < count) n ns below)) h.1),
)

module _ (table : List ℕ) (s : Store) (t : IsTabled table s) where
  pub led : (start : ℕ) (ns : List ℕ) (link : Link) → IsWalk table start ns link → IsLed s start ns link
  led start ns link w = record {
    walks = record {
      linked = leads_by (λ n. get_or table n 0) s.next (length table) start ns link.to t.next w.present w.linked;
      present = subst (λ (c : ℕ). All (λ n. n < c) ns) (sym t.count) w.present;
    };
    from = w.from;
  }

  pub whole_chain : (start size : ℕ) (ns : List ℕ) (link : Link) → length table ≤ 0xFFFFFFF9
      → IsWalk table start ns link → link.to ≡ END_OF_CHAIN → size ≤ s.width * length ns → IsChain s start size ns
  whole_chain start size ns link few w end room =
      let l : IsLed s start ns link = led start ns link w in
      record {
        linked = subst (λ (x : ℕ). Leads s.next start ns x) end l.walks.linked;
        present = λ k d lt. (omega (arith, w.present k d lt, few), l.walks.present k d lt);
        enough = room;
      }

-- a chain of something, as a chain of what may be nothing
pub chain_of_some : (s : Store) (start size : ℕ) (ns : List ℕ) → 0 < size → IsChain s start size ns
    → IsChainOf s start size ns
chain_of_some s start zero ns some h = absurd (omega (arith, some))
chain_of_some s start (suc n) ns some h = h

pub some_of_chain : (s : Store) (start size : ℕ) (ns : List ℕ) → 0 < size → IsChainOf s start size ns
    → IsChain s start size ns
some_of_chain s start zero ns some h = absurd (omega (arith, some))
some_of_chain s start (suc n) ns some h = h
