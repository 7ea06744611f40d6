use Rattle.std.proofs.Common.{◌≡◌, ◌-◌, ◌*◌, length, min, refl, arith}
use Rattle.std.proofs.lemmas.Grind.{common_steps}
use Rattle.tell_maps.proofs.Rows.{row_pushed}
use Rattle.tell_maps.proofs.telling.push_row.Goals as goal

pub returns : goal.returns
returns c =
    let least : c.min.result ≡ min 64 (length c.args.cells.now - 64 * c.args.k) =
    grind (arith, common_steps, c.min.ensures) in
    row_pushed c.args.text.now.items c.push_right.new.text.items c.extend_from_slice.new.self.items
    c.extend_from_slice-2.new.self.items c.push.new.self.items c.args.cells.now _ _ _ c.args.k c.min.result
    least c.in_ok-push_right.ensures c.as_slice.ensures c.in_ok-extend_from_slice.ensures.items refl
    c.in_ok-extend_from_slice-2.ensures.items refl c.in_ok-push.ensures.items
