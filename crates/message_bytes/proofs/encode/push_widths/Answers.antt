use Rattle.std.proofs.Common.{◌≡◌, ◌≤◌, [], ◌++◌, arith, rules, length, drop, ap, sym, ◌∙◌}
use Rattle.std.proofs.lemmas.List.{append-nil, nil_from_length, length-drop}
use Rattle.message_model.specs.Spelling.{widths}
use Rattle.message_model.proofs.Lengths.{length-widths}
use Rattle.message_bytes.proofs.encode.push_widths.Goals as goal

pub returns-clause-added : goal.returns-clause-added
returns-clause-added c =
    let four : length c.args.border.now ≡ 4 = search rules in
    let end : length c.args.border.now ≤ c.loop-width.width-index = omega arith in
    let over : drop c.loop-width.width-index c.args.border.now ≡ [] =
    nil_from_length _ (omega (arith, length-drop c.loop-width.width-index c.args.border.now)) in
    record {
      added = sym (append-nil c.loop-width.out.items) ∙ ap (λ r. c.loop-width.out.items ++ widths r) (sym over)
          ∙ c.loop-width.invariant.added;
      short = omega (arith, length-widths c.args.border.now);
    }
