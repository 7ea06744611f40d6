use Rattle.cfb_chains.specs.Fat.{FatValue, marked}
use Rattle.read_chains.specs.View.{bytes_of, start_of, width_of}
use Rattle.std.proofs.Common.{◌≡◌, ap, take, ◌∙◌, sym, arith}
use Rattle.std.proofs.lemmas.List.{take_all, take_more}
use Rattle.cfb_chains.proofs.Marks.{clear_all, clear_all-append, set_and_cleared}
use Rattle.read_chains.proofs.fat.Fat.clear.Goals as goal

pub loop-n-preserved : goal.loop-n-preserved
loop-n-preserved c = record {
  next = c.loop-n.invariant.next;
  pieces = c.loop-n.invariant.pieces;
  used = rw c.loop-n.invariant.used
      (rw (take_more c.args.sectors.now c.loop-n.n-index 0 (omega arith))
      (sym (clear_all-append c.self.inside.used.items (take c.loop-n.n-index c.args.sectors.now) _)));
}

pub returns : goal.returns
returns c = λ f made free.
    let ns = c.args.sectors.now in
    let v : record {
      bytes = bytes_of c.self.inside.pieces;
      start = start_of c.self.inside.pieces;
      width = width_of c.self.inside.pieces;
      table = c.self.inside.next;
      used = c.self.inside.used.items;
    }
    ≡ marked f ns = c.self.view_is ∙ made in
    let all : take c.loop-n.n-index ns ≡ ns = take_all c.loop-n.n-index ns (omega arith) in
    let used : c.loop-n.self-inside.used.items ≡ f.used =
    c.loop-n.invariant.used ∙ (λ i. clear_all (v i).used (all i))
    ∙ set_and_cleared f.used ns (λ k d l. (free.free k d l).1) in
    λ i. record {
      bytes = (ap bytes_of c.loop-n.invariant.pieces ∙ ap (λ (x : FatValue). x.bytes) v) i;
      start = (ap start_of c.loop-n.invariant.pieces ∙ ap (λ (x : FatValue). x.start) v) i;
      width = (ap width_of c.loop-n.invariant.pieces ∙ ap (λ (x : FatValue). x.width) v) i;
      table = (c.loop-n.invariant.next ∙ ap (λ (x : FatValue). x.table) v) i;
      used = used i;
    }
