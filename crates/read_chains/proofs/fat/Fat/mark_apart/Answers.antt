use Rattle.std.proofs.Common.{◌≡◌, Bool, ap, true, false, take, get_or, ◌∙◌, sym, arith, refl}
use Rattle.std.proofs.lemmas.Grind.{common_steps}
use Rattle.std.proofs.lemmas.List.{take_more, get_or_default}
use Rattle.cfb_chains.specs.Fat.{FatValue, set_all}
use Rattle.cfb_chains.proofs.Marks.{clash, free_more, set_all-append}
use Rattle.read_chains.proofs.fat.Fat.mark_apart.Goals as goal

pub returns-then-index-clause-refused : goal.returns-then-index-clause-refused
returns-then-index-clause-refused c =
    let f = c.args.self.now in
    let ns = c.args.sectors.now in
    let i = c.loop-n.n-index in
    let same : c.self.inside.used.items ≡ f.used = ap (λ (x : FatValue). x.used) c.self.view_is in
    let now : c.loop-n.self-inside.used.items ≡ set_all f.used (take i ns) = c.loop-n.invariant.used
    ∙ ap (λ u. set_all u (take i ns)) same in
    let t : get_or c.loop-n.self-inside.used.items (get_or ns i 0) true ≡ true =
    grind (arith, common_steps, c.index.ensures, get_or_default {X = Bool}) in
    (refl, λ g. clash f ns i 0 (omega arith) g (ap (λ u. get_or u (get_or ns i 0) true) (sym now) ∙ t))

pub loop-n-preserved : goal.loop-n-preserved
loop-n-preserved c =
    let f = c.args.self.now in
    let ns = c.args.sectors.now in
    let i = c.loop-n.n-index in
    let same : c.self.inside.used.items ≡ f.used = ap (λ (x : FatValue). x.used) c.self.view_is in
    let now : c.loop-n.self-inside.used.items ≡ set_all f.used (take i ns) = c.loop-n.invariant.used
    ∙ ap (λ u. set_all u (take i ns)) same in
    let t : get_or c.loop-n.self-inside.used.items (get_or ns i 0) true ≡ false =
    grind (arith, common_steps, c.index.ensures, get_or_default {X = Bool}) in
    record {
      next = c.loop-n.invariant.next;
      pieces = c.loop-n.invariant.pieces;
      used = rw c.loop-n.invariant.used
          (rw (take_more ns i 0 (omega arith)) (sym (set_all-append c.self.inside.used.items (take i ns) _)));
      free = rw (take_more ns i 0 (omega arith))
          (free_more f (take i ns) (get_or ns i 0) c.loop-n.invariant.free (c.requires i 0 (omega arith))
          (ap (λ u. get_or u (get_or ns i 0) true) (sym now) ∙ t));
    }
