use Rattle.cfb_names.proofs.Keys.{keys_agree}
use Rattle.cfb_names.proofs.name.keys_agree.Goals as goal

pub returns : goal.returns
returns c = λ a b ha hb. keys_agree a b
