use Rattle.std.proofs.Common.{arith, ◌≡◌, ap, ◌∙◌, ◌++◌, ◌∷◌, [], ◌+◌, ◌%◌, ◌/◌}
use Rattle.std.specs.Fmt.{decimal}
use Rattle.object_kinds.proofs.Written.{number_one, number_more}
use Rattle.object_kinds.proofs.table_lines.+push_number.Goals as goal
use Rattle.object_kinds.proofs.table_lines.+push_number.Goals.{then-number-ge10+in_ok-push_number, else-number-ge10}

pub returns : goal.returns
returns t c =
    let pushed : c.push.new.self.items ≡ c.if-number-ge10.out.items ++ (48 + c.args.number % 10) ∷ [] =
    c.in_ok-push.ensures.items in
    elim c.if-number-ge10.branch [
      | then-number-ge10+in_ok-push_number w ↦
          (let front : c.if-number-ge10.out.items ≡ c.args.out.now.items ++ decimal (c.args.number / 10) =
          ap (λ v. v.items) w.out-is ∙ w.in_ok-push_number.ensures in
          number_more c.args.number c.args.out.now.items c.if-number-ge10.out.items c.push.new.self.items
          (omega arith) (omega arith) front pushed)
      | else-number-ge10 w ↦
          (let front : c.if-number-ge10.out.items ≡ c.args.out.now.items = ap (λ v. v.items) w.out-is in
          number_one c.args.number c.args.out.now.items c.push.new.self.items (omega arith)
          (pushed ∙ ap (λ l. l ++ (48 + c.args.number % 10) ∷ []) front))
    ]
