use Rattle.std.proofs.Common.{◌≡◌, ◌<◌, ◌++◌, ◌∙◌, ℕ, List, ap, arith, subst, sym}
use Rattle.cfb_header.specs.Bytes.{joined, sector}
use Rattle.cfb_header.specs.Header.{difat, first_directory, listed}
use Rattle.cfb_entries.specs.Entries.{entry_at, first_of, size_of}
use Rattle.tell_faults.specs.Places.{IsExamined}
use Rattle.tell_faults.specs.declared.walking.Chain.{Chain}
use Rattle.tell_faults.specs.declared.walking.Examined.TheVariants as examined
use Rattle.tell_faults.proofs.Places.{at_link, bytes_joined, directory_at, empty_mini_stream, examined_by}
use Rattle.tell_faults.proofs.Places.{no_mini_stream, sectors_below, unfaulted_at}
use Rattle.tell_faults.proofs.finding.find_in_mini_stream.Goals as goal

pub join-requires : goal.join-requires
join-requires c =
    sectors_below c.args.file.now c.args.tables.now.fat c.args.tables.now.lists.items
    c.args.tables.now.entries.items c.requires.tables (first_directory c.args.file.now) c.args.directory.now
    c.requires.directory

pub returns-then-chain-eq0-clause-mini_stream : goal.returns-then-chain-eq0-clause-mini_stream
returns-then-chain-eq0-clause-mini_stream c =
    let file : List ℕ = c.args.file.now in
    let ns : List ℕ = c.args.directory.now in
    let dir : List ℕ = c.deref.result.now in
    let d : dir ≡ joined (sector file) ns =
    c.deref.ensures.value
    ∙ bytes_joined file c.args.tables.now.fat c.args.tables.now.lists.items c.args.tables.now.entries.items
    c.requires.tables c.in_ok-bytes.bytes.items ns (first_directory file) c.requires.directory
    c.in_ok-bytes.ensures in
    empty_mini_stream file c.args.fault ns c.requires.directory dir d
    (sym c.mini_stream_of-chain.ensures.size ∙ c.if-chain-eq0.true)

pub returns-in-AtFault-clause-there : goal.returns-in-AtFault-clause-there
returns-in-AtFault-clause-there c =
    let file : List ℕ = c.args.file.now in
    let t = c.requires.tables in
    let table : List ℕ = c.args.tables.now.entries.items in
    let ns : List ℕ = c.args.directory.now in
    let mini : List ℕ = c.args.mini_fat.now in
    let taken : List ℕ = listed file ++ difat file ++ ns ++ mini in
    let dir : List ℕ = c.deref.result.now in
    let d : dir ≡ joined (sector file) ns =
    c.deref.ensures.value ∙ bytes_joined file c.args.tables.now.fat c.args.tables.now.lists.items table t
    c.in_ok-bytes.bytes.items ns (first_directory file) c.requires.directory c.in_ok-bytes.ensures in
    let chain : Chain = c.mini_stream_of-chain.result in
    let is = c.mini_stream_of-chain.ensures in
    let e : IsExamined table taken chain c.args.fault (examined.AtFault c.in-AtFault.link) =
    examined_by c.deref-3.result.now table c.deref-4.result.now taken chain c.args.fault c.in_ok-found.found
    (examined.AtFault c.in-AtFault.link) c.deref-3.ensures.value
    (c.deref-4.ensures.value ∙ c.in_ok-taken.ensures ∙ ap (λ (xs : List ℕ). xs ++ ns ++ mini)
    (c.deref-2.ensures.value ∙ t.lists_are)) c.in-AtFault.is c.in_ok-found.ensures in
    let some : 0 < chain.size = omega (arith, c.if-chain-eq0.false) in (
      dir,
      directory_at file c.args.tables.now.fat c.args.tables.now.lists.items table t dir ns c.requires.directory d,
      mini,
      c.requires.mini_fat,
      subst (λ (x : ℕ). 0 < x) is.size some,
      at_link file table t.tabled taken chain (first_of (entry_at dir 0)) (size_of (entry_at dir 0)) c.args.fault
          c.in-AtFault.link e is.first is.size is.wide,
    )

pub returns-in-Whole-clause-mini_stream : goal.returns-in-Whole-clause-mini_stream
returns-in-Whole-clause-mini_stream c =
    let file : List ℕ = c.args.file.now in
    let t = c.requires.tables in
    let table : List ℕ = c.args.tables.now.entries.items in
    let ns : List ℕ = c.args.directory.now in
    let mini : List ℕ = c.args.mini_fat.now in
    let taken : List ℕ = listed file ++ difat file ++ ns ++ mini in
    let dir : List ℕ = c.deref.result.now in
    let d : dir ≡ joined (sector file) ns =
    c.deref.ensures.value ∙ bytes_joined file c.args.tables.now.fat c.args.tables.now.lists.items table t
    c.in_ok-bytes.bytes.items ns (first_directory file) c.requires.directory c.in_ok-bytes.ensures in
    let chain : Chain = c.mini_stream_of-chain.result in
    let is = c.mini_stream_of-chain.ensures in
    let e : IsExamined table taken chain c.args.fault (examined.Whole c.in-Whole.field-0) =
    examined_by c.deref-3.result.now table c.deref-4.result.now taken chain c.args.fault c.in_ok-found.found
    (examined.Whole c.in-Whole.field-0) c.deref-3.ensures.value
    (c.deref-4.ensures.value ∙ c.in_ok-taken.ensures ∙ ap (λ (xs : List ℕ). xs ++ ns ++ mini)
    (c.deref-2.ensures.value ∙ t.lists_are)) c.in-Whole.is c.in_ok-found.ensures in
    no_mini_stream file c.args.fault ns c.requires.directory dir mini d c.requires.mini_fat
    (unfaulted_at file table t.tabled taken chain (first_of (entry_at dir 0)) (size_of (entry_at dir 0))
    c.args.fault e.1 is.first is.size is.wide)

pub returns-clause-mini_stream : goal.returns-clause-mini_stream
returns-clause-mini_stream c =
    let file : List ℕ = c.args.file.now in
    let t = c.requires.tables in
    let table : List ℕ = c.args.tables.now.entries.items in
    let ns : List ℕ = c.args.directory.now in
    let mini : List ℕ = c.args.mini_fat.now in
    let taken : List ℕ = listed file ++ difat file ++ ns ++ mini in
    let dir : List ℕ = c.deref.result.now in
    let d : dir ≡ joined (sector file) ns =
    c.deref.ensures.value ∙ bytes_joined file c.args.tables.now.fat c.args.tables.now.lists.items table t
    c.in_ok-bytes.bytes.items ns (first_directory file) c.requires.directory c.in_ok-bytes.ensures in
    let chain : Chain = c.mini_stream_of-chain.result in
    let is = c.mini_stream_of-chain.ensures in
    let e : IsExamined table taken chain c.args.fault examined.Other =
    examined_by c.deref-3.result.now table c.deref-4.result.now taken chain c.args.fault c.in_ok-found.found
    examined.Other c.deref-3.ensures.value
    (c.deref-4.ensures.value ∙ c.in_ok-taken.ensures ∙ ap (λ (xs : List ℕ). xs ++ ns ++ mini)
    (c.deref-2.ensures.value ∙ t.lists_are)) c.in-Other.is c.in_ok-found.ensures in
    no_mini_stream file c.args.fault ns c.requires.directory dir mini d c.requires.mini_fat
    (unfaulted_at file table t.tabled taken chain (first_of (entry_at dir 0)) (size_of (entry_at dir 0))
    c.args.fault e.0 is.first is.size is.wide)
