use Rattle.std.proofs.Common.{◌∙◌, ap}
use Rattle.cfb_names.specs.Names.{key}
use Rattle.cfb_names.proofs.Keys.{key-held}
use Rattle.cfb_names.proofs.name.key.Goals as goal

pub returns : goal.returns
returns c = c.new.ensures ∙ c.upper.ensures ∙ key-held c.name.inside.units c.name.invariant ∙ ap key c.name.view_is
