-- Entries that are made of where they lead are those of the tree.
use Rattle.std.proofs.Common.{◌≡◌, ◌<◌, ◌+◌, ◌-◌, ◌^◌, ℕ, min, List, [], ◌∷◌, ◌++◌, length, length-append, refl, sym}
use Rattle.std.proofs.Common.{ap, subst, arith, append_assoc}
use Rattle.std.specs.Prelude.{slice_index_or}
use Rattle.cfb_entries.specs.Written.{entry_bytes}
use Rattle.cfb_entries.specs.Tree.{Tree, Children, tree, none, stream, storage}
use Rattle.cfb_file.specs.Need.{entries, entries_of, mini_sectors, long_sectors, short_pieces, long_pieces}
use Rattle.cfb_layout.specs.Directory.{AreSpelled, IsSpelled, balanced, each_entry, entries_below, ids_from}
use Rattle.cfb_layout.specs.Directory.{storage_says, stream_says}
use Rattle.write_parts.specs.Leads.{each_lead, each_led, lead_in, leads_below, led_below, storage_led, stream_leads}
use Rattle.write_parts.specs.Leads.{stream_led}
use Rattle.write_parts.specs.declared.leads.Lead.{Lead}

-- these leads stand in others from a place on
abbrev AreAt : List Lead → ℕ → List Lead → Type 0
AreAt leads at [] = Unit {0}
AreAt leads at (x ∷ xs) = (lead_in leads at ≡ x) × AreAt leads (at + 1) xs

are-front : (leads : List Lead) (at : ℕ) (xs ys : List Lead) → AreAt leads at (xs ++ ys) → AreAt leads at xs
are-front leads at [] ys h = tt
are-front leads at (x ∷ xs) ys h = (h.0, are-front leads (at + 1) xs ys h.1)

are-behind : (leads : List Lead) (at n : ℕ) (xs ys : List Lead) → length xs ≡ n → AreAt leads at (xs ++ ys)
    → AreAt leads (at + n) ys
are-behind leads at n [] ys e h =
    let same : at ≡ at + n = omega (arith, e) in
    subst (λ (k : ℕ). AreAt leads k ys) same h
are-behind leads at n (x ∷ xs) ys e h =
    let less : length xs ≡ n - 1 = omega (arith, e) in
    let same : at + 1 + (n - 1) ≡ at + n = omega (arith, e) in
    subst (λ (k : ℕ). AreAt leads k ys) same (are-behind leads (at + 1) (n - 1) xs ys less h.1)

lead-at : (before xs : List Lead) (x d : Lead) → slice_index_or (before ++ x ∷ xs) (length before) d ≡ x
lead-at [] xs x d = refl
lead-at (b ∷ before) xs x d = lead-at before xs x d

are-all : (before xs : List Lead) → AreAt (before ++ xs) (length before) xs
are-all before [] = tt
are-all before (x ∷ xs) =
    let e : (before ++ x ∷ []) ++ xs ≡ before ++ x ∷ xs = append_assoc before (x ∷ []) xs in
    let l : length (before ++ x ∷ []) ≡ length before + 1 = length-append before (x ∷ []) in (
      lead-at before xs x _,
      subst (λ (ls : List Lead). AreAt ls (length before + 1) xs) e
          (subst (λ (k : ℕ). AreAt ((before ++ x ∷ []) ++ xs) k xs) l (are-all (before ++ x ∷ []) xs)),
    )

mutual
  length-below : (id mini sector : ℕ) (t : Tree) → length (leads_below id mini sector t) ≡ entries t
  length-below id mini sector (tree class state cs) = length-each (ids_from (id + 1) cs) 0 (id + 1) mini sector cs

  length-each : (ids : List ℕ) (place id mini sector : ℕ) (cs : Children)
      → length (each_lead ids place id mini sector cs) ≡ entries_of cs
  length-each ids place id mini sector none = refl
  length-each ids place id mini sector (stream k n b cs) =
      omega (arith, length-each ids (place + 1) (id + 1) (mini + short_pieces b) (sector + long_pieces b) cs)
  length-each ids place id mini sector (storage k n t cs) =
      let below : List Lead = leads_below id mini sector t in
      let more : List Lead = each_lead ids (place + 1) (id + 1 + entries t) (mini + mini_sectors t)
      (sector + long_sectors t) cs in
      let a : length below ≡ entries t = length-below id mini sector t in
      let b : length more ≡ entries_of cs = length-each ids (place + 1) (id + 1 + entries t) (mini + mini_sectors t)
      (sector + long_sectors t) cs in
      let c : length (below ++ more) ≡ length below + length more = length-append below more in
      omega (arith, a, b, c)

-- what a stream's entry says that leads where its own does
stream-same : (lead : Lead) (ids : List ℕ) (place mini sector size : ℕ) → size < 2 ^ 32
    → lead ≡ stream_leads ids place mini sector size
    → stream_led lead size ≡ stream_says balanced ids place mini sector size
stream-same lead ids place mini sector size few e =
    let same : min size 4294967295 ≡ size = omega (arith, few) in
    λ i. record {
      kind = (stream_led (e i) size).kind;
      left = (e i).left;
      right = (e i).right;
      child = (stream_led (e i) size).child;
      class = (stream_led (e i) size).class;
      state = 0;
      first = (e i).down;
      size = same i;
    }

mutual
  led-tree : (leads : List Lead) (at id mini sector : ℕ) (t : Tree) → IsSpelled t
      → AreAt leads at (leads_below id mini sector t)
      → led_below leads at t ≡ entries_below balanced id mini sector t
  led-tree leads at id mini sector (tree class state cs) s h = led-each leads at (ids_from (id + 1) cs) 0 (id + 1)
      mini sector cs s.2 h

  led-each : (leads : List Lead) (at : ℕ) (ids : List ℕ) (place id mini sector : ℕ) (cs : Children) → AreSpelled cs
      → AreAt leads at (each_lead ids place id mini sector cs)
      → each_led leads at cs ≡ each_entry balanced ids place id mini sector cs
  led-each leads at ids place id mini sector none s h = refl
  led-each leads at ids place id mini sector (stream k n b cs) s h =
      let one : stream_led (lead_in leads at) (length b) ≡ stream_says balanced ids place mini sector (length b) =
      stream-same (lead_in leads at) ids place mini sector (length b) s.0 h.0 in
      let more : each_led leads (at + 1) cs ≡ each_entry balanced ids (place + 1) (id + 1) (mini + short_pieces b)
      (sector + long_pieces b) cs =
      led-each leads (at + 1) ids (place + 1) (id + 1) (mini + short_pieces b) (sector + long_pieces b) cs s.1 h.1 in
      λ i. entry_bytes n (one i) ++ more i
  led-each leads at ids place id mini sector (storage k n t cs) s h =
      let xs : List Lead = leads_below id mini sector t in
      let ys : List Lead = each_lead ids (place + 1) (id + 1 + entries t) (mini + mini_sectors t)
      (sector + long_sectors t) cs in
      let one : storage_led (lead_in leads at) t ≡ storage_says balanced ids place id t =
      ap (λ (l : Lead). storage_led l t) h.0 in
      let below : led_below leads (at + 1) t ≡ entries_below balanced id mini sector t =
      led-tree leads (at + 1) id mini sector t s.0 (are-front leads (at + 1) xs ys h.1) in
      let more : each_led leads (at + 1 + entries t) cs ≡ each_entry balanced ids (place + 1) (id + 1 + entries t)
      (mini + mini_sectors t) (sector + long_sectors t) cs =
      led-each leads (at + 1 + entries t) ids (place + 1) (id + 1 + entries t) (mini + mini_sectors t)
      (sector + long_sectors t) cs s.1
      (are-behind leads (at + 1) (entries t) xs ys (length-below id mini sector t) h.1) in
      λ i. entry_bytes n (one i) ++ (below i ++ more i)

-- the entries below a root
pub led-all : (leads : List Lead) (id mini sector : ℕ) (t : Tree) → IsSpelled t
    → leads ≡ leads_below id mini sector t → led_below leads 0 t ≡ entries_below balanced id mini sector t
led-all leads id mini sector t s e =
    led-tree leads 0 id mini sector t s (subst (λ (ls : List Lead). AreAt ls 0 (leads_below id mini sector t))
    (sym e) (are-all [] (leads_below id mini sector t)))
