use Rattle.std.proofs.Common.{◌≡◌, ◌∙◌, ℕ, List, Vec, Global, ap, refl, subst}
use Rattle.cfb_header.specs.Header.{HeaderValue, first_directory}
use Rattle.cfb_chains.specs.Chain.{IsChain, Store}
use Rattle.tell_faults.specs.Tables.{IsTabled}
use Rattle.tell_faults.specs.Places.{IsNotWhole}
use Rattle.tell_faults.specs.declared.walking.Chain.{Chain}
use Rattle.tell_faults.proofs.Held.{none_gives, some_gives}
use Rattle.tell_faults.proofs.Places.{not_whole_at, whole_in}
use Rattle.tell_chains.proofs.Laid.{no_directory}
use Rattle.tell_chains.proofs.parts.parts_of.Goals as goal

pub with_mini_fat-requires-clause-directory : goal.with_mini_fat-requires-clause-directory
with_mini_fat-requires-clause-directory c =
    whole_in c.args.file.now c.args.tables.now.fat c.args.tables.now.lists.items c.args.tables.now.entries.items
    c.requires.tables c.deref.result.now
    (record { first = c.first_directory.result; width = 512; size = 0 }) (first_directory c.args.file.now) 0
    c.in-Some.directory.items c.deref-in-Some.result.now
    (some_gives (λ (ns : Vec ℕ Global). (s : Store) → IsTabled c.deref.result.now s → s.width ≡ 512
    → IsChain s c.first_directory.result 0 ns.items)
    c.in_ok-found.found c.in-Some.directory c.in-Some.is c.in_ok-found.ensures.whole) c.deref.ensures.value
    (c.first_directory.ensures ∙ ap (λ (x : HeaderValue). x.first_directory) c.requires.same) refl refl
    c.deref-in-Some.ensures.value

pub returns-in-None-clause-none : goal.returns-in-None-clause-none
returns-in-None-clause-none c =
    let file : List ℕ = c.args.file.now in
    let table : List ℕ = c.args.tables.now.entries.items in
    let chain : Chain = record { first = c.first_directory.result; width = 512; size = 0 } in
    let none : IsNotWhole table chain = subst (λ (xs : List ℕ). IsNotWhole xs chain) c.deref.ensures.value
    (none_gives (IsNotWhole c.deref.result.now chain) c.in_ok-found.found c.in-None.is
    c.in_ok-found.ensures.other) in
    no_directory file
    (not_whole_at file table c.requires.tables.tabled chain (first_directory file) 0 none
    (c.first_directory.ensures ∙ ap (λ (x : HeaderValue). x.first_directory) c.requires.same) refl refl)
