use Rattle.std.proofs.Common.{◌≡◌, ◌≢◌, ◌*◌, ◌<◌, ◌++◌, ◌∙◌, ℕ, List, [], ap, arith, refl, subst, sym}
use Rattle.cfb_header.specs.Bytes.{joined, sector}
use Rattle.cfb_header.specs.Header.{HeaderValue, difat, first_directory, first_mini_fat, listed, mini_fat_count}
use Rattle.cfb_chains.specs.Chain.{IsChain, IsChainOf}
use Rattle.cfb_chains.specs.Fat.{sectors_of}
use Rattle.tell_faults.specs.Places.{IsExamined, IsUnfaultedAt}
use Rattle.tell_faults.specs.declared.place.FaultPlace.TheVariants as place
use Rattle.tell_faults.specs.declared.walking.Chain.{Chain}
use Rattle.tell_faults.specs.declared.walking.Examined.{Examined}
use Rattle.tell_faults.specs.declared.walking.Examined.TheVariants as examined
use Rattle.tell_faults.proofs.Fats.{none_of}
use Rattle.tell_faults.proofs.Places.{at_link, directory_at, examined_by, no_mini_fat, no_mini_fat_stream, not_whole_at}
use Rattle.tell_faults.proofs.Places.{uncounted_mini_fat, unfaulted_at, whole_at}
use Rattle.tell_faults.proofs.Walks.{chain_of_some, some_of_chain}
use Rattle.tell_faults.proofs.finding.find_in_mini_fat.Goals as goal

counted : (m n : ℕ) → m ≡ n → m ≢ 0 → 0 < n
counted m n e some = omega (arith, e, some)

pub returns-in-AtFault-clause-there : goal.returns-in-AtFault-clause-there
returns-in-AtFault-clause-there c =
    let file : List ℕ = c.args.file.now in
    let t = c.requires.tables in
    let table : List ℕ = c.args.tables.now.entries.items in
    let ns : List ℕ = c.args.directory.now in
    let taken : List ℕ = listed file ++ difat file ++ ns in
    let size : ℕ = 512 * c.mini_fat_count-count.result in
    let chain : Chain = record { first = c.first_mini_fat.result; width = 512; size = size } in
    let first_is = c.first_mini_fat.ensures ∙ ap (λ (x : HeaderValue). x.first_mini_fat) c.requires.same in
    let size_is = ap (λ (x : ℕ). 512 * x) c.mini_fat_count-count.ensures
    ∙ ap (λ (x : HeaderValue). 512 * x.mini_fat_count) c.requires.same in
    let e : IsExamined table taken chain c.args.fault (examined.AtFault c.in-AtFault.link) =
    examined_by c.deref-2.result.now table c.deref-3.result.now taken chain c.args.fault c.in_ok-found.found
    (examined.AtFault c.in-AtFault.link) c.deref-2.ensures.value
    (c.deref-3.ensures.value ∙ c.in_ok-taken.ensures ∙ ap (λ (xs : List ℕ). xs ++ ns)
    (c.deref.ensures.value ∙ t.lists_are)) c.in-AtFault.is c.in_ok-found.ensures in (
      joined (sector file) ns,
      directory_at file c.args.tables.now.fat c.args.tables.now.lists.items table t (joined (sector file) ns) ns
          c.requires.directory refl,
      counted c.mini_fat_count-count.result (mini_fat_count file)
          (c.mini_fat_count-count.ensures ∙ ap (λ (x : HeaderValue). x.mini_fat_count) c.requires.same)
          c.if-count-eq0.false,
      at_link file table t.tabled taken chain (first_mini_fat file) (512 * mini_fat_count file) c.args.fault
          c.in-AtFault.link e first_is size_is refl,
    )

pub returns-then-count-eq0-clause-mini_fat : goal.returns-then-count-eq0-clause-mini_fat
returns-then-count-eq0-clause-mini_fat c =
    let file : List ℕ = c.args.file.now in
    let none : mini_fat_count file ≡ 0 = sym (ap (λ (x : HeaderValue). x.mini_fat_count) c.requires.same)
    ∙ sym c.mini_fat_count-count.ensures ∙ c.if-count-eq0.true in
    none_of c.find_in_mini_stream.result (IsUnfaultedAt file c.args.fault place.MiniFat)
    (uncounted_mini_fat file c.args.fault c.args.directory.now c.requires.directory none)

pub find_in_mini_stream-requires-clause-mini_fat : goal.find_in_mini_stream-requires-clause-mini_fat
find_in_mini_stream-requires-clause-mini_fat c =
    let file : List ℕ = c.args.file.now in
    let none : mini_fat_count file ≡ 0 = sym (ap (λ (x : HeaderValue). x.mini_fat_count) c.requires.same)
    ∙ sym c.mini_fat_count-count.ensures ∙ c.if-count-eq0.true in
    subst (λ (x : ℕ). IsChainOf (sectors_of file (listed file)) (first_mini_fat file) (512 * x) []) (sym none) refl

pub find_in_mini_stream-requires-in-Whole-clause-mini_fat : goal.find_in_mini_stream-requires-in-Whole-clause-mini_fat
find_in_mini_stream-requires-in-Whole-clause-mini_fat c =
    let file : List ℕ = c.args.file.now in
    let t = c.requires.tables in
    let table : List ℕ = c.args.tables.now.entries.items in
    let ns : List ℕ = c.args.directory.now in
    let taken : List ℕ = listed file ++ difat file ++ ns in
    let size : ℕ = 512 * c.mini_fat_count-count.result in
    let chain : Chain = record { first = c.first_mini_fat.result; width = 512; size = size } in
    let first_is = c.first_mini_fat.ensures ∙ ap (λ (x : HeaderValue). x.first_mini_fat) c.requires.same in
    let size_is = ap (λ (x : ℕ). 512 * x) c.mini_fat_count-count.ensures
    ∙ ap (λ (x : HeaderValue). 512 * x.mini_fat_count) c.requires.same in
    let e : IsExamined table taken chain c.args.fault (examined.Whole c.in-Whole.mini_fat) =
    examined_by c.deref-2.result.now table c.deref-3.result.now taken chain c.args.fault c.in_ok-found.found
    (examined.Whole c.in-Whole.mini_fat) c.deref-2.ensures.value
    (c.deref-3.ensures.value ∙ c.in_ok-taken.ensures ∙ ap (λ (xs : List ℕ). xs ++ ns)
    (c.deref.ensures.value ∙ t.lists_are)) c.in-Whole.is c.in_ok-found.ensures in
    let ms : List ℕ = c.in-Whole.mini_fat.items in
    let is : IsChain (sectors_of file (listed file)) (first_mini_fat file) size ms =
    whole_at file table t.tabled chain (first_mini_fat file) size ms e.0 first_is refl refl in
    let some : 0 < size = omega (arith, c.if-count-eq0.false) in
    subst (λ (xs : List ℕ). IsChainOf (sectors_of file (listed file)) (first_mini_fat file)
    (512 * mini_fat_count file) xs) (sym c.deref-in-Whole.ensures.value)
    (subst (λ (x : ℕ). IsChainOf (sectors_of file (listed file)) (first_mini_fat file) x ms) size_is
    (chain_of_some (sectors_of file (listed file)) (first_mini_fat file) size ms some is))

pub returns-in-Whole-clause-mini_fat : goal.returns-in-Whole-clause-mini_fat
returns-in-Whole-clause-mini_fat c =
    let file : List ℕ = c.args.file.now in
    let t = c.requires.tables in
    let table : List ℕ = c.args.tables.now.entries.items in
    let ns : List ℕ = c.args.directory.now in
    let taken : List ℕ = listed file ++ difat file ++ ns in
    let size : ℕ = 512 * c.mini_fat_count-count.result in
    let chain : Chain = record { first = c.first_mini_fat.result; width = 512; size = size } in
    let first_is = c.first_mini_fat.ensures ∙ ap (λ (x : HeaderValue). x.first_mini_fat) c.requires.same in
    let size_is = ap (λ (x : ℕ). 512 * x) c.mini_fat_count-count.ensures
    ∙ ap (λ (x : HeaderValue). 512 * x.mini_fat_count) c.requires.same in
    let e : IsExamined table taken chain c.args.fault (examined.Whole c.in-Whole.mini_fat) =
    examined_by c.deref-2.result.now table c.deref-3.result.now taken chain c.args.fault c.in_ok-found.found
    (examined.Whole c.in-Whole.mini_fat) c.deref-2.ensures.value
    (c.deref-3.ensures.value ∙ c.in_ok-taken.ensures ∙ ap (λ (xs : List ℕ). xs ++ ns)
    (c.deref.ensures.value ∙ t.lists_are)) c.in-Whole.is c.in_ok-found.ensures in
    none_of c.find_in_mini_stream-in-Whole.result (IsUnfaultedAt file c.args.fault place.MiniFat)
    (no_mini_fat file c.args.fault ns c.requires.directory
    (unfaulted_at file table t.tabled taken chain (first_mini_fat file) (512 * mini_fat_count file) c.args.fault
    e.1 first_is size_is refl))

pub returns-clause-mini_fat : goal.returns-clause-mini_fat
returns-clause-mini_fat c =
    let file : List ℕ = c.args.file.now in
    let t = c.requires.tables in
    let table : List ℕ = c.args.tables.now.entries.items in
    let ns : List ℕ = c.args.directory.now in
    let taken : List ℕ = listed file ++ difat file ++ ns in
    let size : ℕ = 512 * c.mini_fat_count-count.result in
    let chain : Chain = record { first = c.first_mini_fat.result; width = 512; size = size } in
    let first_is = c.first_mini_fat.ensures ∙ ap (λ (x : HeaderValue). x.first_mini_fat) c.requires.same in
    let size_is = ap (λ (x : ℕ). 512 * x) c.mini_fat_count-count.ensures
    ∙ ap (λ (x : HeaderValue). 512 * x.mini_fat_count) c.requires.same in
    let e : IsExamined table taken chain c.args.fault examined.Other =
    examined_by c.deref-2.result.now table c.deref-3.result.now taken chain c.args.fault c.in_ok-found.found
    examined.Other c.deref-2.ensures.value
    (c.deref-3.ensures.value ∙ c.in_ok-taken.ensures ∙ ap (λ (xs : List ℕ). xs ++ ns)
    (c.deref.ensures.value ∙ t.lists_are)) c.in-Other.is c.in_ok-found.ensures in
    no_mini_fat file c.args.fault ns c.requires.directory
    (unfaulted_at file table t.tabled taken chain (first_mini_fat file) (512 * mini_fat_count file) c.args.fault
    e.0 first_is size_is refl)

pub returns-clause-mini_stream : goal.returns-clause-mini_stream
returns-clause-mini_stream c =
    let file : List ℕ = c.args.file.now in
    let t = c.requires.tables in
    let table : List ℕ = c.args.tables.now.entries.items in
    let ns : List ℕ = c.args.directory.now in
    let taken : List ℕ = listed file ++ difat file ++ ns in
    let size : ℕ = 512 * c.mini_fat_count-count.result in
    let chain : Chain = record { first = c.first_mini_fat.result; width = 512; size = size } in
    let first_is = c.first_mini_fat.ensures ∙ ap (λ (x : HeaderValue). x.first_mini_fat) c.requires.same in
    let size_is = ap (λ (x : ℕ). 512 * x) c.mini_fat_count-count.ensures
    ∙ ap (λ (x : HeaderValue). 512 * x.mini_fat_count) c.requires.same in
    let e : IsExamined table taken chain c.args.fault examined.Other =
    examined_by c.deref-2.result.now table c.deref-3.result.now taken chain c.args.fault c.in_ok-found.found
    examined.Other c.deref-2.ensures.value
    (c.deref-3.ensures.value ∙ c.in_ok-taken.ensures ∙ ap (λ (xs : List ℕ). xs ++ ns)
    (c.deref.ensures.value ∙ t.lists_are)) c.in-Other.is c.in_ok-found.ensures in
    no_mini_fat_stream file c.args.fault ns c.requires.directory
    (λ ms h.
    not_whole_at file table t.tabled chain (first_mini_fat file) (512 * mini_fat_count file) e.1 first_is size_is
    refl ms
    (some_of_chain (sectors_of file (listed file)) (first_mini_fat file) (512 * mini_fat_count file) ms
    (omega (
      arith,
      counted c.mini_fat_count-count.result (mini_fat_count file)
          (c.mini_fat_count-count.ensures ∙ ap (λ (x : HeaderValue). x.mini_fat_count) c.requires.same)
          c.if-count-eq0.false,
    )) h))
