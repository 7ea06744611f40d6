use Rattle.std.proofs.Common.{◌≡◌, ◌++◌, ◌∙◌, ℕ, List, ap}
use Rattle.tell_entries.specs.Ways.{end_of}
use Rattle.tell_checks.specs.Lines.{owner_text, path_part, stream_link_text, stream_number_text}
use Rattle.tell_checks.proofs.Told.{four, ok_map}
use Rattle.tell_checks.proofs.lines.push_stream.Goals as goal

pub returns : goal.returns
returns c =
    let old : List ℕ = c.args.text.now.items in
    let first : List ℕ = c.push_stream_number.new.text.items in
    let id : ℕ = end_of c.args.place.now.way.items in
    let numbered : first ≡ old ++ stream_number_text id = c.in_ok-push_stream_number.ensures
    ∙ ap (λ (x : ℕ). old ++ stream_number_text x) (c.end_of.ensures ∙ ap end_of c.deref.ensures.value) in
    ok_map c.push_owner.result _ _
    (λ last. four old first c.push_path.new.text.items c.push_stream_link.new.text.items c.push_owner.new.text.items
    (stream_number_text id) (path_part c.args.path.now)
    (stream_link_text c.args.place.now.is_mini c.args.place.now.link) (owner_text c.args.place.now.owner) numbered
    c.in_ok-push_path.ensures c.in_ok-push_stream_link.ensures last) c.push_owner.ensures
