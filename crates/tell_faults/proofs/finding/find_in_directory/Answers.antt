use Rattle.std.proofs.Common.{◌≡◌, ◌++◌, ◌∙◌, ap, refl, subst, sym, List, ℕ}
use Rattle.cfb_header.specs.Header.{HeaderValue, difat, first_directory, listed}
use Rattle.cfb_chains.specs.Chain.{IsChain}
use Rattle.cfb_chains.specs.Fat.{sectors_of}
use Rattle.tell_faults.specs.declared.walking.Chain.{Chain}
use Rattle.tell_faults.specs.declared.walking.Examined.TheVariants as examined
use Rattle.tell_faults.specs.Places.{IsUnfaultedAt}
use Rattle.tell_faults.specs.declared.place.FaultPlace.TheVariants as place
use Rattle.tell_faults.proofs.Fats.{none_of}
use Rattle.tell_faults.proofs.Places.{at_link, examined_by, no_directory_mini_fat, no_directory_mini_stream}
use Rattle.tell_faults.proofs.Places.{not_whole_at, unfaulted_at, whole_at}
use Rattle.tell_faults.proofs.finding.find_in_directory.Goals as goal

pub returns-in-AtFault-clause-there : goal.returns-in-AtFault-clause-there
returns-in-AtFault-clause-there c =
    let t = c.requires.tables in
    let table : List ℕ = c.args.tables.now.entries.items in
    let taken : List ℕ = listed c.args.file.now ++ difat c.args.file.now in
    let chain : Chain = record { first = c.args.header.now.first_directory; width = 512; size = 0 } in
    at_link c.args.file.now table t.tabled taken chain (first_directory c.args.file.now) 0 c.args.fault
    c.in-AtFault.link
    (examined_by c.deref-2.result.now table c.deref.result.now taken chain c.args.fault c.in_ok-found.found
    (examined.AtFault c.in-AtFault.link) c.deref-2.ensures.value
    (c.deref.ensures.value ∙ t.lists_are) c.in-AtFault.is c.in_ok-found.ensures)
    (ap (λ (x : HeaderValue). x.first_directory) c.requires.same) refl refl

pub find_in_mini_fat-requires-clause-directory : goal.find_in_mini_fat-requires-clause-directory
find_in_mini_fat-requires-clause-directory c =
    let t = c.requires.tables in
    let table : List ℕ = c.args.tables.now.entries.items in
    let taken : List ℕ = listed c.args.file.now ++ difat c.args.file.now in
    let chain : Chain = record { first = c.args.header.now.first_directory; width = 512; size = 0 } in
    let e = examined_by c.deref-2.result.now table c.deref.result.now taken chain c.args.fault c.in_ok-found.found
    (examined.Whole c.in-Whole.sectors) c.deref-2.ensures.value
    (c.deref.ensures.value ∙ t.lists_are) c.in-Whole.is c.in_ok-found.ensures in
    subst (λ (xs : List ℕ). IsChain (sectors_of c.args.file.now (listed c.args.file.now))
    (first_directory c.args.file.now) 0 xs) (sym c.deref-in-Whole.ensures.value)
    (whole_at c.args.file.now table t.tabled chain (first_directory c.args.file.now) 0 c.in-Whole.sectors.items e.0
    (ap (λ (x : HeaderValue). x.first_directory) c.requires.same) refl refl)

pub returns-in-Whole-clause-directory : goal.returns-in-Whole-clause-directory
returns-in-Whole-clause-directory c =
    let t = c.requires.tables in
    let table : List ℕ = c.args.tables.now.entries.items in
    let taken : List ℕ = listed c.args.file.now ++ difat c.args.file.now in
    let chain : Chain = record { first = c.args.header.now.first_directory; width = 512; size = 0 } in
    let e = examined_by c.deref-2.result.now table c.deref.result.now taken chain c.args.fault c.in_ok-found.found
    (examined.Whole c.in-Whole.sectors) c.deref-2.ensures.value
    (c.deref.ensures.value ∙ t.lists_are) c.in-Whole.is c.in_ok-found.ensures in
    none_of c.find_in_mini_fat.result (IsUnfaultedAt c.args.file.now c.args.fault place.Directory)
    (unfaulted_at c.args.file.now table t.tabled taken chain (first_directory c.args.file.now) 0 c.args.fault e.1
    (ap (λ (x : HeaderValue). x.first_directory) c.requires.same) refl refl)

pub returns-in-Other-clause-directory : goal.returns-in-Other-clause-directory
returns-in-Other-clause-directory c =
    let t = c.requires.tables in
    let table : List ℕ = c.args.tables.now.entries.items in
    let taken : List ℕ = listed c.args.file.now ++ difat c.args.file.now in
    let chain : Chain = record { first = c.args.header.now.first_directory; width = 512; size = 0 } in
    let e = examined_by c.deref-2.result.now table c.deref.result.now taken chain c.args.fault c.in_ok-found.found
    examined.Other c.deref-2.ensures.value
    (c.deref.ensures.value ∙ t.lists_are) c.in-Other.is c.in_ok-found.ensures in
    unfaulted_at c.args.file.now table t.tabled taken chain (first_directory c.args.file.now) 0 c.args.fault e.0
    (ap (λ (x : HeaderValue). x.first_directory) c.requires.same) refl refl

pub returns-in-Other-clause-mini_fat : goal.returns-in-Other-clause-mini_fat
returns-in-Other-clause-mini_fat c =
    let t = c.requires.tables in
    let table : List ℕ = c.args.tables.now.entries.items in
    let taken : List ℕ = listed c.args.file.now ++ difat c.args.file.now in
    let chain : Chain = record { first = c.args.header.now.first_directory; width = 512; size = 0 } in
    let e = examined_by c.deref-2.result.now table c.deref.result.now taken chain c.args.fault c.in_ok-found.found
    examined.Other c.deref-2.ensures.value
    (c.deref.ensures.value ∙ t.lists_are) c.in-Other.is c.in_ok-found.ensures in
    no_directory_mini_fat c.args.file.now c.args.fault
    (not_whole_at c.args.file.now table t.tabled chain (first_directory c.args.file.now) 0 e.1
    (ap (λ (x : HeaderValue). x.first_directory) c.requires.same) refl refl)

pub returns-in-Other-clause-mini_stream : goal.returns-in-Other-clause-mini_stream
returns-in-Other-clause-mini_stream c =
    let t = c.requires.tables in
    let table : List ℕ = c.args.tables.now.entries.items in
    let taken : List ℕ = listed c.args.file.now ++ difat c.args.file.now in
    let chain : Chain = record { first = c.args.header.now.first_directory; width = 512; size = 0 } in
    let e = examined_by c.deref-2.result.now table c.deref.result.now taken chain c.args.fault c.in_ok-found.found
    examined.Other c.deref-2.ensures.value
    (c.deref.ensures.value ∙ t.lists_are) c.in-Other.is c.in_ok-found.ensures in
    no_directory_mini_stream c.args.file.now c.args.fault
    (not_whole_at c.args.file.now table t.tabled chain (first_directory c.args.file.now) 0 e.1
    (ap (λ (x : HeaderValue). x.first_directory) c.requires.same) refl refl)
