use Rattle.cfb_chains.proofs.Results.{refused_with}
use Rattle.cfb_entries.specs.Entries.{EntriesValue, child, entry_at}
use Rattle.read_directories.specs.Reached.{AreReached}
use Rattle.cfb_entries.proofs.Marked.{children_kept}
use Rattle.read_files.specs.Reads.{MayRefuseStorage, MayWant, directory_fault}
use Rattle.read_files.proofs.ReadingMemory.{by_children, when_found}
use Rattle.read_files.proofs.ReadingRefused.{children_below, directory_memory, names_below}
use Rattle.read_files.proofs.ReadingSorted.{names_not_refused, names_reached, sorted_met}
use Rattle.read_files.proofs.ReadingSteps.{AreTheChildren, children_of, children_readable}
use Rattle.read_files.proofs.read.Reader.sorted_children.Goals as goal

pub returns-in_err-ids-clause-there : goal.returns-in_err-ids-clause-there
returns-in_err-ids-clause-there c = λ depth t new h.
    let o : AreTheChildren depth c.args.id c.args.self.now new = children_of depth c.args.id t c.args.self.now new h in
    directory_memory c.from_residual.result c.in_err-ids.field-0.0 c.from_residual.ensures.1
    (children_kept c.args.self.now.entries c.args.id o.sorted.reached c.in_err-ids.field-0.0 c.requires.inside
    o.sorted.linked o.sorted.free c.in_err-ids.ensures.refused)

pub returns-in_err-ids-clause-refused : goal.returns-in_err-ids-clause-refused
returns-in_err-ids-clause-refused c = λ b room pending s at.
    refused_with c.from_residual.result (directory_fault c.in_err-ids.field-0.0) (MayRefuseStorage b)
    c.from_residual.ensures.1
    (children_below b room c.args.id pending c.args.self.now at s c.in_err-ids.field-0.0 c.requires.inside
    c.in_err-ids.ensures.refused)

-- what was found where names are refused
pub returns-in_err-sorted-clause-there : goal.returns-in_err-sorted-clause-there
returns-in_err-sorted-clause-there c = λ depth t new h.
    let e : EntriesValue = c.args.self.now.entries in
    let found : AreReached e c.in_order.new.self (child (entry_at e.directory c.args.id)) c.in_ok-ids.ids.items =
    c.in_ok-ids.ensures.reached in
    let o : AreTheChildren depth c.args.id c.args.self.now new = children_of depth c.args.id t c.args.self.now new h in
    absurd (names_not_refused e c.args.id found.reached o.ids c.in_err-sorted.field-0.0 c.requires.root_marked
    found.linked o.sorted (children_readable depth c.args.id c.args.self.now new o)
    (names_reached found c.in_err-sorted.field-0.0 c.in_err-sorted.ensures.refused))

pub returns-in_err-sorted-clause-refused : goal.returns-in_err-sorted-clause-refused
returns-in_err-sorted-clause-refused c = λ b room pending s at.
    let e : EntriesValue = c.args.self.now.entries in
    let found : AreReached e c.in_order.new.self (child (entry_at e.directory c.args.id)) c.in_ok-ids.ids.items =
    c.in_ok-ids.ensures.reached in
    refused_with c.from_residual-in_err-sorted.result (directory_fault c.in_err-sorted.field-0.0)
    (MayRefuseStorage b) c.from_residual-in_err-sorted.ensures.1
    (names_below b room c.args.id pending c.args.self.now at s found.reached found.linked found.free
    c.in_err-sorted.field-0.0
    (names_reached found c.in_err-sorted.field-0.0 c.in_err-sorted.ensures.refused))

pub returns-clause-sorted : goal.returns-clause-sorted
returns-clause-sorted c =
    sorted_met c.args.self.now c.args.id c.in_ok-ids.ids.items c.in_ok-sorted.sorted.items c.in_order.new.self
    c.in_ok-ids.ensures.reached
    c.in_ok-sorted.ensures.ordered c.in_ok-sorted.ensures.same

pub returns-in_err-ids-clause-memory : goal.returns-in_err-ids-clause-memory
returns-in_err-ids-clause-memory c =
    refused_with c.from_residual.result (directory_fault c.in_err-ids.field-0.0)
    (MayWant c.args.self.now.entries c.args.id) c.from_residual.ensures.1
    (by_children c.args.self.now.entries c.args.id c.in_err-ids.field-0.0 c.in_err-ids.ensures.refused)

pub returns-in_err-list-clause-memory : goal.returns-in_err-list-clause-memory
returns-in_err-list-clause-memory c =
    let e : EntriesValue = c.args.self.now.entries in
    let found : AreReached e c.in_order.new.self (child (entry_at e.directory c.args.id)) c.in_ok-ids.ids.items =
    c.in_ok-ids.ensures.reached in
    when_found e c.args.id c.from_residual-in_err-list.result found.reached c.requires.inside found.linked found.free

pub returns-in_err-sorted-clause-memory : goal.returns-in_err-sorted-clause-memory
returns-in_err-sorted-clause-memory c =
    let e : EntriesValue = c.args.self.now.entries in
    let found : AreReached e c.in_order.new.self (child (entry_at e.directory c.args.id)) c.in_ok-ids.ids.items =
    c.in_ok-ids.ensures.reached in
    when_found e c.args.id c.from_residual-in_err-sorted.result found.reached c.requires.inside found.linked found.free
