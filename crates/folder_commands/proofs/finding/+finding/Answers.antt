use Rattle.std.proofs.Common.{◌∙◌, ◌-◌, ℕ, List, ap, arith, drop, length, sym}
use Rattle.std.proofs.lemmas.List.{length-drop, length-take}
use Rattle.tree_storage.proofs.Entries.{look-here, look-stream, path-cons}
use Rattle.tree_storage.specs.Change.{bytes, look}
use Rattle.read_outlines.specs.View.{shown, shown_part, shown_parts}
use Rattle.read_outlines.proofs.Outlines.{shown-nested, shown-out, shown-stream}
use Rattle.folder_commands.specs.Chosen.{standing}
use Rattle.folder_commands.proofs.Found.{stands_below, stands_none}
use Rattle.folder_commands.proofs.finding.+finding.Goals as goal

pub find_at-find_in-requires : goal.find_at-find_in-requires
find_at-find_in-requires t c =
    let all : List (List ℕ) = c.args.path.now in (
      omega (
        arith,
        c.decreases,
        c.in-len1-up.len_at_least,
        length-take (length all - 1) (drop 1 all),
        length-drop 1 all,
      ),
      tt,
    )

pub find_at-returns-in-Some : goal.find_at-returns-in-Some
find_at-returns-in-Some t c = λ content.
    let o = c.args.outline.now in
    let there = c.in-Some.ensures.found content in
    c.find_in.ensures content
    ∙ stands_below c.args.path.now c.name-item.result _ (shown content o) o.class o.state
    (shown_parts content o.parts.items) there.0 (shown_part content c.in-Some.part.now)
    (path-cons c.args.path.now c.name-item.result c.name-item.is c.in-len1-up.len_at_least) (shown-out content o)
    there.1

pub find_at-returns-in-None : goal.find_at-returns-in-None
find_at-returns-in-None t c = λ content.
    let o = c.args.outline.now in
    stands_none c.args.path.now c.name-item.result _ (shown content o) o.class o.state
    (shown_parts content o.parts.items)
    (path-cons c.args.path.now c.name-item.result c.name-item.is c.in-len1-up.len_at_least) (shown-out content o)
    (c.in-None.ensures.none content)

pub find_in-returns-then-not-is_empty : goal.find_in-returns-then-not-is_empty
find_in-returns-then-not-is_empty t c = λ content.
    ap standing (look-stream c.args.path.now (content c.in-Stream.field-0) c.if-not-is_empty.ensures)
    ∙ ap (λ s. standing (look c.args.path.now s))
    (sym (ap (shown_part content) c.in-Stream.is ∙ shown-stream content c.in-Stream.field-0))

pub find_in-returns-else-not-is_empty : goal.find_in-returns-else-not-is_empty
find_in-returns-else-not-is_empty t c = λ content.
    ap standing (look-here c.args.path.now (bytes (content c.in-Stream.field-0)) c.if-not-is_empty.ensures)
    ∙ ap (λ s. standing (look c.args.path.now s))
    (sym (ap (shown_part content) c.in-Stream.is ∙ shown-stream content c.in-Stream.field-0))

pub find_in-returns-in-Storage : goal.find_in-returns-in-Storage
find_in-returns-in-Storage t c = λ content.
    c.find_at.ensures content ∙ ap (λ s. standing (look c.args.path.now s))
    (sym (ap (shown_part content) c.in-Storage.is ∙ shown-nested content c.in-Storage.inner))
