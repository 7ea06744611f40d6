use Rattle.std.proofs.Common.{◌≡◌, ◌*◌, ◌∙◌, ℕ, List, Vec, Global, ap, refl}
use Rattle.cfb_header.specs.Header.{HeaderValue, first_mini_fat, mini_fat_count}
use Rattle.cfb_chains.specs.Chain.{IsChainOf, Store}
use Rattle.tell_faults.specs.Tables.{IsTabled}
use Rattle.tell_faults.proofs.Held.{none_gives, some_gives}
use Rattle.tell_chains.proofs.Laid.{chain_in, no_mini_fat, not_chain_in}
use Rattle.tell_chains.proofs.parts.with_mini_fat.Goals as goal

pub with_mini_stream-requires-clause-counted : goal.with_mini_stream-requires-clause-counted
with_mini_stream-requires-clause-counted c = c.mini_fat_count-count.ensures
    ∙ ap (λ (x : HeaderValue). x.mini_fat_count) c.requires.same

pub with_mini_stream-requires-clause-mini_fat : goal.with_mini_stream-requires-clause-mini_fat
with_mini_stream-requires-clause-mini_fat c =
    chain_in c.args.file.now c.args.tables.now.fat c.args.tables.now.lists.items c.args.tables.now.entries.items
    c.requires.tables c.deref.result.now
    (record { first = c.first_mini_fat.result; width = 512; size = 512 * c.mini_fat_count-count.result })
    (first_mini_fat c.args.file.now) (512 * c.mini_fat_count-count.result)
    c.in-Some.mini_fat.items c.deref-in-Some.result.now
    (some_gives (λ (ns : Vec ℕ Global). (s : Store) → IsTabled c.deref.result.now s → s.width ≡ 512
    → IsChainOf s c.first_mini_fat.result (512 * c.mini_fat_count-count.result) ns.items)
    c.in_ok-found.found c.in-Some.mini_fat c.in-Some.is c.in_ok-found.ensures.whole) c.deref.ensures.value
    (c.first_mini_fat.ensures ∙ ap (λ (x : HeaderValue). x.first_mini_fat) c.requires.same) refl refl
    c.deref-in-Some.ensures.value

pub returns-in-None-clause-none : goal.returns-in-None-clause-none
returns-in-None-clause-none c =
    let file : List ℕ = c.args.file.now in
    no_mini_fat file
    (not_chain_in file c.args.tables.now.entries.items c.deref.result.now
    (record { first = c.first_mini_fat.result; width = 512; size = 512 * c.mini_fat_count-count.result })
    (first_mini_fat file) (512 * mini_fat_count file) c.requires.tables.tabled c.deref.ensures.value
    (none_gives ((s : Store) → IsTabled c.deref.result.now s → s.width ≡ 512 → (ns : List ℕ)
    → IsChainOf s c.first_mini_fat.result (512 * c.mini_fat_count-count.result) ns → ⊥)
    c.in_ok-found.found c.in-None.is c.in_ok-found.ensures.other)
    (c.first_mini_fat.ensures ∙ ap (λ (x : HeaderValue). x.first_mini_fat) c.requires.same)
    (ap (λ (x : ℕ). 512 * x)
    (c.mini_fat_count-count.ensures ∙ ap (λ (x : HeaderValue). x.mini_fat_count) c.requires.same)) refl)
