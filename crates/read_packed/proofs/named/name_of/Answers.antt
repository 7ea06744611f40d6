use Rattle.std.proofs.Common.{◌-◌, ◌/◌, ◌∙◌, ap, subst, sym, arith}
use Rattle.cfb_names.specs.View.{IsHeld, name_held}
use Rattle.read_packed.proofs.ReadNames.{held, told}
use Rattle.read_packed.proofs.named.name_of.Goals as goal

pub from_units-requires : goal.from_units-requires
from_units-requires c =
    subst IsHeld (sym c.units_of.ensures)
    (held c.args.characters (c.args.len / 2 - 1) c.fits-characters.0 (omega arith) (omega arith)
    (c.holds_name.ensures c.if-not-holds_name.false))

pub returns : goal.returns
returns c =
    told c.args.characters (c.args.len / 2 - 1) c.fits-characters.0 (omega arith) (omega arith)
    (c.holds_name.ensures c.if-not-holds_name.false) c.args.len
    c.from_units.result (c.from_units.ensures ∙ ap name_held c.units_of.ensures) (omega arith)
