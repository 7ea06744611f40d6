use Rattle.std.proofs.Common.{arith}
use Rattle.std.proofs.lemmas.Grind.{common_steps}
use Rattle.container_links.proofs.AskingAll.{installed_done, installed_more}
use Rattle.container_links.proofs.asking.install_all.Goals as goal

pub loop-i-preserved : goal.loop-i-preserved
loop-i-preserved c = record {
  each = grind (arith, common_steps);
  done = installed_more c.loop-i.takes.items c.loop-i.objects _ c.loop-i.i c.index_mut.result.now
      c.replace-take.new.dest c.replace-take.result c.index_mut.result.now c.index-objects-i.result
      c.install.new.object
      (omega arith) c.loop-i.invariant.each c.loop-i.invariant.done c.replace-take.ensures.value
      c.index_mut.ensures.value c.install.ensures;
}

pub returns : goal.returns
returns c = λ f op h. installed_done c.loop-i.takes.items c.args.takes.items c.loop-i.objects c.args.objects.now
    c.loop-i.i f op (omega arith) c.loop-i.invariant.done h
