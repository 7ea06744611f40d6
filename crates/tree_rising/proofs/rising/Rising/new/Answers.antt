use Rattle.tree_rising.proofs.Ascending.{none-ascending, none-whole}
use Rattle.tree_rising.proofs.rising.Rising.new.Goals as goal

pub invariant_of-result : goal.invariant_of-result
invariant_of-result c = record {
  ascending = none-ascending c.new.result c.new.ensures;
  whole = ∣ none-whole c.args.class c.args.state c.new.result c.new.ensures ∣₁;
}
