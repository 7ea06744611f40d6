use Rattle.std.proofs.Common.{◌∙◌}
use Rattle.cfb_names.specs.Names.{key_cmp}
use Rattle.cfb_names.proofs.Keys.{keys_agree}
use Rattle.cfb_names.proofs.name.Name.cmp.Goals as goal

pub returns : goal.returns
returns c = c.cmp.ensures ∙ (λ t. key_cmp (c.key.ensures t) (c.key-2.ensures t))
    ∙ keys_agree c.args.self.now c.args.other.now
