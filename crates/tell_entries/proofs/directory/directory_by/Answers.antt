use Rattle.std.proofs.Common.{◌≡◌, ◌<◌, ◌∙◌, ℕ, List, Vec, Global, ap, length, refl, subst, sym}
use Rattle.std.specs.List.{All}
use Rattle.cfb_chains.specs.Chain.{IsChain, Store}
use Rattle.cfb_chains.specs.Fat.{sectors_of, store_of}
use Rattle.cfb_header.specs.Bytes.{joined, sector}
use Rattle.cfb_header.specs.Header.{HeaderValue, first_directory, listed}
use Rattle.cfb_faults.specs.Faults.{IsDirectory}
use Rattle.tell_faults.specs.Places.{IsNotWhole}
use Rattle.tell_faults.specs.Tables.{IsTabled}
use Rattle.tell_faults.specs.declared.walking.Chain.{Chain}
use Rattle.tell_faults.proofs.Places.{whole_in}
use Rattle.tell_faults.proofs.Held.{none_gives, some_gives}
use Rattle.tell_faults.proofs.Places.{bytes_joined, not_whole_at, sectors_below}
use Rattle.tell_entries.proofs.directory.directory_by.Goals as goal

pub join-requires : goal.join-requires
join-requires c =
    let file : List ℕ = c.args.file.now in
    let t = c.requires.tables in
    let table : List ℕ = c.args.tables.now.entries.items in
    let chain : Chain = record { first = c.first_directory.result; width = 512; size = 0 } in
    let first_is = c.first_directory.ensures ∙ ap (λ (x : HeaderValue). x.first_directory) c.requires.same in
    let is : IsChain (sectors_of file (listed file)) (first_directory file) 0 c.in-Some.sectors.items =
    whole_in file c.args.tables.now.fat c.args.tables.now.lists.items table t c.deref.result.now chain
    (first_directory file) 0 c.in-Some.sectors.items c.in-Some.sectors.items
    (some_gives (λ (ns : Vec ℕ Global). (s : Store) → IsTabled c.deref.result.now s → s.width ≡ 512
    → IsChain s c.first_directory.result 0 ns.items) c.in_ok-found.found c.in-Some.sectors c.in-Some.is
    c.in_ok-found.ensures.whole)
    c.deref.ensures.value first_is refl refl refl in
    subst (λ (xs : List ℕ). All (λ n. n < length c.args.tables.now.fat.table) xs) (sym c.deref-in-Some.ensures.value)
    (sectors_below file c.args.tables.now.fat c.args.tables.now.lists.items table t (first_directory file)
    c.in-Some.sectors.items is)

pub returns-in_ok-bytes-in-Some-clause-read : goal.returns-in_ok-bytes-in-Some-clause-read
returns-in_ok-bytes-in-Some-clause-read c =
    let file : List ℕ = c.args.file.now in
    let t = c.requires.tables in
    let table : List ℕ = c.args.tables.now.entries.items in
    let chain : Chain = record { first = c.first_directory.result; width = 512; size = 0 } in
    let first_is = c.first_directory.ensures ∙ ap (λ (x : HeaderValue). x.first_directory) c.requires.same in
    let is : IsChain (sectors_of file (listed file)) (first_directory file) 0 c.in-Some.sectors.items =
    whole_in file c.args.tables.now.fat c.args.tables.now.lists.items table t c.deref.result.now chain
    (first_directory file) 0 c.in-Some.sectors.items c.in-Some.sectors.items
    (some_gives (λ (ns : Vec ℕ Global). (s : Store) → IsTabled c.deref.result.now s → s.width ≡ 512
    → IsChain s c.first_directory.result 0 ns.items) c.in_ok-found.found c.in-Some.sectors c.in-Some.is
    c.in_ok-found.ensures.whole)
    c.deref.ensures.value first_is refl refl refl in
    let bytes : c.in_ok-bytes-in-Some.bytes.items ≡ joined (sector file) c.in-Some.sectors.items =
    bytes_joined file c.args.tables.now.fat c.args.tables.now.lists.items table t c.in_ok-bytes-in-Some.bytes.items
    c.in-Some.sectors.items (first_directory file) is
    (c.in_ok-bytes-in-Some.ensures ∙ ap (joined (store_of c.args.tables.now.fat).piece)
    c.deref-in-Some.ensures.value) in
    (record { is_fat = t.is_fat; sectors = c.in-Some.sectors.items; is_chain = is; bytes_are = bytes }, refl)

pub returns-in-None-clause-none : goal.returns-in-None-clause-none
returns-in-None-clause-none c = λ dir d.
    let file : List ℕ = c.args.file.now in
    let t = c.requires.tables in
    let table : List ℕ = c.args.tables.now.entries.items in
    let chain : Chain = record { first = c.first_directory.result; width = 512; size = 0 } in
    let first_is = c.first_directory.ensures ∙ ap (λ (x : HeaderValue). x.first_directory) c.requires.same in
    let none : IsNotWhole table chain = subst (λ (xs : List ℕ). IsNotWhole xs chain) c.deref.ensures.value
    (none_gives (IsNotWhole c.deref.result.now chain) c.in_ok-found.found c.in-None.is
    c.in_ok-found.ensures.other) in
    not_whole_at file table t.tabled chain (first_directory file) 0 none first_is refl refl d.sectors d.is_chain
