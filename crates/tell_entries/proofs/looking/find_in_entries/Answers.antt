use Rattle.std.proofs.Common.{◌≡◌, ◌<◌, ◌*◌, ◌∙◌, List, Vec, Global, ℕ, arith, length}
use Rattle.tell_entries.specs.Searches.{IsWayAtFault}
use Rattle.tell_entries.specs.Ways.{IsEntryAtFault, IsWay}
use Rattle.tell_entries.proofs.Found.{no_entry, none_in_none, way_told}
use Rattle.tell_faults.proofs.Held.{none_gives, some_gives}
use Rattle.tell_entries.proofs.Steps.{nowhere_told}
use Rattle.tell_entries.proofs.looking.find_in_entries.Goals as goal

pub returns-then-directory-lt-ENTRY-clause-there : goal.returns-then-directory-lt-ENTRY-clause-there
returns-then-directory-lt-ENTRY-clause-there c =
    nowhere_told c.args.directory.now c.args.fault c.nowhere_if.result c.is_of_entry.result
    c.nowhere_if.ensures.told (λ t. (c.is_of_entry.ensures.bad t, c.if-directory-lt-ENTRY.true))

pub returns-then-directory-lt-ENTRY-clause-nowhere : goal.returns-then-directory-lt-ENTRY-clause-nowhere
returns-then-directory-lt-ENTRY-clause-nowhere c = λ own.
    none_in_none c.args.directory.now c.args.fault c.nowhere_if.result c.is_of_entry.result
    (omega (arith, c.requires.1, c.if-directory-lt-ENTRY.true)) c.is_of_entry.ensures.other own
    c.nowhere_if.ensures.other

pub returns-then-is_of_links-clause-nowhere : goal.returns-then-is_of_links-clause-nowhere
returns-then-is_of_links-clause-nowhere c = λ own. absurd (own (c.is_of_links.ensures.told c.if-is_of_links.true))

pub returns-in-Ok-Some-clause-there : goal.returns-in-Ok-Some-clause-there
returns-in-Ok-Some-clause-there c =
    let dir : List ℕ = c.args.directory.now in
    let h : IsWay dir c.in-Ok-Some.way.items × IsWayAtFault dir c.args.fault c.in-Ok-Some.way.items =
    some_gives (λ (way : Vec ℕ Global). IsWay dir way.items × IsWayAtFault dir c.args.fault way.items)
    c.in-Ok-Some.field-0 c.in-Ok-Some.way c.in-Ok-Some.field-0-is c.in-Ok-Some.ensures.there in
    (h.0, way_told dir c.in-Ok-Some.way.items c.args.fault h.1)

pub returns-in-Ok-None-clause-nowhere : goal.returns-in-Ok-None-clause-nowhere
returns-in-Ok-None-clause-nowhere c = λ own.
    let dir : List ℕ = c.args.directory.now in
    no_entry dir c.args.fault own (λ short. absurd (omega (arith, short, c.if-directory-lt-ENTRY.false)))
    (none_gives ((way : List ℕ) → IsWay dir way → IsWayAtFault dir c.args.fault way → ⊥) c.in-Ok-None.field-0
    c.in-Ok-None.field-0-is c.in-Ok-None.ensures.nowhere)
