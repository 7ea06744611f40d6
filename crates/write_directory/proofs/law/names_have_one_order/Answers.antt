use Rattle.std.proofs.Common.{subst}
use Rattle.std.proofs.lemmas.Cmp.{nat_list_cmp_total, on_total}
use Rattle.std.specs.Cmp.{IsTotalOrder}
use Rattle.cfb_names.specs.Names.{key}
use Rattle.cfb_names.proofs.Keys.{keys_agree}
use Rattle.write_directory.proofs.law.names_have_one_order.Goals as goal

pub returns : goal.returns
returns c = subst IsTotalOrder (λ i a b. keys_agree a b i) (on_total key nat_list_cmp_total)
