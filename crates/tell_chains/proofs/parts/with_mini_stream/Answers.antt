use Rattle.std.proofs.Common.{◌≡◌, ◌++◌, ◌∙◌, ℕ, List, Vec, Global, ap, refl, sym}
use Rattle.cfb_header.specs.Bytes.{joined, sector}
use Rattle.cfb_header.specs.Header.{first_directory}
use Rattle.cfb_chains.specs.Fat.{FatValue}
use Rattle.cfb_chains.specs.Chain.{IsChainOf, Store}
use Rattle.cfb_entries.specs.Entries.{entry_at, first_of, size_of}
use Rattle.tell_faults.specs.Tables.{IsTabled}
use Rattle.tell_faults.proofs.Held.{none_gives, some_gives}
use Rattle.tell_chains.proofs.Laid.{chain_in, no_mini_stream, not_chain_in, parts_are}
use Rattle.tell_faults.proofs.Places.{bytes_joined, sectors_below}
use Rattle.tell_chains.proofs.parts.with_mini_stream.Goals as goal

pub join-requires : goal.join-requires
join-requires c =
    sectors_below c.args.file.now c.args.tables.now.fat c.args.tables.now.lists.items
    c.args.tables.now.entries.items c.requires.tables (first_directory c.args.file.now) c.args.directory.now
    c.requires.directory

pub returns-in_ok-table-in-Some-clause-there : goal.returns-in_ok-table-in-Some-clause-there
returns-in_ok-table-in-Some-clause-there c =
    let file : List ℕ = c.args.file.now in
    let f : FatValue = c.args.tables.now.fat in
    let lists : List ℕ = c.args.tables.now.lists.items in
    let table : List ℕ = c.args.tables.now.entries.items in
    let ns : List ℕ = c.args.directory.now in
    let mini_fat : List ℕ = c.args.mini_fat.now in
    let seen : c.deref.result.now ≡ c.in_ok-bytes.bytes.items = c.deref.ensures.value in
    let dir_is : c.deref.result.now ≡ joined (sector file) ns =
    seen ∙ bytes_joined file f lists table c.requires.tables c.in_ok-bytes.bytes.items ns (first_directory file)
    c.requires.directory c.in_ok-bytes.ensures in
    let own : c.extend_from_slice.new.self.items ≡ lists ++ ns ++ mini_fat ++ c.in-Some.mini_stream.items =
    c.in_ok-extend_from_slice-in-Some.ensures.items
    ∙ (λ i. (c.in_ok-own-in-Some.ensures ∙ ap (λ (xs : List ℕ). xs ++ ns ++ mini_fat) c.deref-in-Some.ensures.value)
    i ++ c.deref-in-Some-2.ensures.value i) in
    parts_are file f lists table c.requires.tables ns mini_fat c.in-Some.mini_stream.items c.deref.result.now
    c.root_of-first.result.0 c.root_of-first.result.1 c.args.count
    (record {
      table = c.in_ok-table-in-Some.table;
      minis = c.in_ok-minis.minis;
      own = c.extend_from_slice.new.self;
      directory = c.in_ok-bytes.bytes;
    })
    c.requires.directory c.requires.counted c.requires.mini_fat dir_is c.root_of-first.ensures.0
    c.root_of-first.ensures.1
    (chain_in file f lists table c.requires.tables c.deref-2.result.now
    (record { first = c.root_of-first.result.0; width = 512; size = c.root_of-first.result.1 })
    c.root_of-first.result.0 c.root_of-first.result.1
    c.in-Some.mini_stream.items c.in-Some.mini_stream.items
    (some_gives (λ (xs : Vec ℕ Global). (s : Store) → IsTabled c.deref-2.result.now s → s.width ≡ 512
    → IsChainOf s c.root_of-first.result.0 c.root_of-first.result.1 xs.items)
    c.in_ok-found.found c.in-Some.mini_stream c.in-Some.is c.in_ok-found.ensures.whole) c.deref-2.ensures.value refl
    refl refl refl)
    (sym seen) (c.in_ok-table-in-Some.ensures.items ∙ c.deref-in-Some-3.ensures.value) own
    c.in_ok-minis.ensures.tabled c.in_ok-minis.ensures.few

pub returns-in-None-clause-none : goal.returns-in-None-clause-none
returns-in-None-clause-none c =
    let file : List ℕ = c.args.file.now in
    let ns : List ℕ = c.args.directory.now in
    let dir : List ℕ = c.deref.result.now in
    let dir_is : dir ≡ joined (sector file) ns =
    c.deref.ensures.value ∙ bytes_joined file c.args.tables.now.fat c.args.tables.now.lists.items
    c.args.tables.now.entries.items c.requires.tables c.in_ok-bytes.bytes.items ns (first_directory file)
    c.requires.directory c.in_ok-bytes.ensures in
    no_mini_stream file ns dir c.requires.directory dir_is
    (not_chain_in file c.args.tables.now.entries.items c.deref-2.result.now
    (record { first = c.root_of-first.result.0; width = 512; size = c.root_of-first.result.1 })
    (first_of (entry_at dir 0)) (size_of (entry_at dir 0)) c.requires.tables.tabled c.deref-2.ensures.value
    (none_gives ((s : Store) → IsTabled c.deref-2.result.now s → s.width ≡ 512 → (xs : List ℕ)
    → IsChainOf s c.root_of-first.result.0 c.root_of-first.result.1 xs → ⊥)
    c.in_ok-found.found c.in-None.is c.in_ok-found.ensures.other) c.root_of-first.ensures.0 c.root_of-first.ensures.1
    refl)
