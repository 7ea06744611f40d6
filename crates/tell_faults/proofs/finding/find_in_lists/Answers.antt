use Rattle.std.proofs.Common.{◌≡◌, ◌++◌, ◌∙◌, ap, refl, sym, List, ℕ}
use Rattle.cfb_header.specs.Header.{HeaderValue, difat, first_directory, listed}
use Rattle.tell_faults.specs.Places.{IsDirectoryExamined}
use Rattle.tell_faults.specs.declared.walking.Chain.{Chain}
use Rattle.tell_faults.specs.declared.walking.Examined.{Examined}
use Rattle.tell_faults.specs.declared.walking.Examined.TheVariants as examined
use Rattle.tell_faults.proofs.Places.{at_link, examined_by, unfaulted_at}
use Rattle.tell_faults.proofs.finding.find_in_lists.Goals as goal

pub returns-in-AtFault-clause-there : goal.returns-in-AtFault-clause-there
returns-in-AtFault-clause-there c =
    let l = c.in_ok-lists.ensures in
    let taken : List ℕ = listed c.args.file.now ++ difat c.args.file.now in
    let chain : Chain = record { first = c.args.header.now.first_directory; width = 512; size = 0 } in
    at_link c.args.file.now c.in_ok-lists.lists.entries.items l.tabled taken chain (first_directory c.args.file.now)
    0 c.args.fault c.in-AtFault.link
    (examined_by c.deref-5.result.now c.in_ok-lists.lists.entries.items c.deref-4.result.now taken chain
    c.args.fault c.in_ok-found.found (examined.AtFault c.in-AtFault.link) c.deref-5.ensures.value
    (c.deref-4.ensures.value ∙ c.in_ok-all.ensures
    ∙ (λ i. (c.deref.ensures.value ∙ l.fat_is) i ++ (c.deref-2.ensures.value ∙ l.difat_is) i)) c.in-AtFault.is
    c.in_ok-found.ensures)
    (ap (λ (x : HeaderValue). x.first_directory) c.requires.same) refl refl

pub returns-in-Whole-clause-directory : goal.returns-in-Whole-clause-directory
returns-in-Whole-clause-directory c =
    let l = c.in_ok-lists.ensures in
    let taken : List ℕ = listed c.args.file.now ++ difat c.args.file.now in
    let chain : Chain = record { first = c.args.header.now.first_directory; width = 512; size = 0 } in
    let e = examined_by c.deref-5.result.now c.in_ok-lists.lists.entries.items c.deref-4.result.now taken chain
    c.args.fault c.in_ok-found.found _ c.deref-5.ensures.value
    (c.deref-4.ensures.value ∙ c.in_ok-all.ensures
    ∙ (λ i. (c.deref.ensures.value ∙ l.fat_is) i ++ (c.deref-2.ensures.value ∙ l.difat_is) i)) c.in-Whole.is
    c.in_ok-found.ensures in
    unfaulted_at c.args.file.now c.in_ok-lists.lists.entries.items l.tabled taken chain
    (first_directory c.args.file.now) 0 c.args.fault e.1
    (ap (λ (x : HeaderValue). x.first_directory) c.requires.same) refl refl

pub returns-clause-directory : goal.returns-clause-directory
returns-clause-directory c =
    let l = c.in_ok-lists.ensures in
    let taken : List ℕ = listed c.args.file.now ++ difat c.args.file.now in
    let chain : Chain = record { first = c.args.header.now.first_directory; width = 512; size = 0 } in
    let e = examined_by c.deref-5.result.now c.in_ok-lists.lists.entries.items c.deref-4.result.now taken chain
    c.args.fault c.in_ok-found.found examined.Other c.deref-5.ensures.value
    (c.deref-4.ensures.value ∙ c.in_ok-all.ensures
    ∙ (λ i. (c.deref.ensures.value ∙ l.fat_is) i ++ (c.deref-2.ensures.value ∙ l.difat_is) i)) c.in-Other.is
    c.in_ok-found.ensures in
    unfaulted_at c.args.file.now c.in_ok-lists.lists.entries.items l.tabled taken chain
    (first_directory c.args.file.now) 0 c.args.fault e.0
    (ap (λ (x : HeaderValue). x.first_directory) c.requires.same) refl refl
