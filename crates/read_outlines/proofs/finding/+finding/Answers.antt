use Rattle.std.proofs.Common.{◌∙◌, ◌-◌, ℕ, List, ap, arith, drop, length, sym}
use Rattle.std.proofs.lemmas.List.{length-drop, length-take}
use Rattle.tree_storage.proofs.Entries.{look-here, look-stream, path-cons}
use Rattle.tree_storage.specs.Change.{bytes, look, on_ok}
use Rattle.read_outlines.specs.Streams.{stream_bytes}
use Rattle.read_outlines.specs.View.{shown, shown_part, shown_parts}
use Rattle.read_outlines.proofs.Found.{stream-below, stream-none}
use Rattle.read_outlines.proofs.Outlines.{shown-out, shown-stream}
use Rattle.read_outlines.proofs.finding.+finding.Goals as goal

pub place_at-place_in-requires : goal.place_at-place_in-requires
place_at-place_in-requires t c =
    let all : List (List ℕ) = c.args.path.now in (
      omega (
        arith,
        c.decreases,
        c.in-len1-up.len_at_least,
        length-take (length all - 1) (drop 1 all),
        length-drop 1 all,
      ),
      tt,
    )

pub place_at-returns-in-Some : goal.place_at-returns-in-Some
place_at-returns-in-Some t c = λ content.
    let o = c.args.outline.now in
    let there = c.in-Some.ensures.found content in
    c.place_in.ensures content
    ∙ stream-below c.args.path.now c.name-item.result _ (shown content o) o.class o.state
    (shown_parts content o.parts.items) there.0 (shown_part content c.in-Some.part.now)
    (path-cons c.args.path.now c.name-item.result c.name-item.is c.in-len1-up.len_at_least) (shown-out content o)
    there.1

pub place_at-returns-in-None : goal.place_at-returns-in-None
place_at-returns-in-None t c = λ content.
    let o = c.args.outline.now in
    stream-none c.args.path.now c.name-item.result _ (shown content o) o.class o.state
    (shown_parts content o.parts.items)
    (path-cons c.args.path.now c.name-item.result c.name-item.is c.in-len1-up.len_at_least) (shown-out content o)
    (c.in-None.ensures.none content)

pub place_in-returns-then-not-is_empty : goal.place_in-returns-then-not-is_empty
place_in-returns-then-not-is_empty t c = λ content.
    ap (on_ok stream_bytes) (look-stream c.args.path.now (content c.in-Stream.place) c.if-not-is_empty.ensures)
    ∙ ap (λ s. on_ok stream_bytes (look c.args.path.now s))
    (sym (ap (shown_part content) c.in-Stream.is ∙ shown-stream content c.in-Stream.place))

pub place_in-returns-else-not-is_empty : goal.place_in-returns-else-not-is_empty
place_in-returns-else-not-is_empty t c = λ content.
    ap (on_ok stream_bytes) (look-here c.args.path.now (bytes (content c.in-Stream.place)) c.if-not-is_empty.ensures)
    ∙ ap (λ s. on_ok stream_bytes (look c.args.path.now s))
    (sym (ap (shown_part content) c.in-Stream.is ∙ shown-stream content c.in-Stream.place))
