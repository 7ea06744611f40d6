use Rattle.std.proofs.Common.{◌<◌, ◌∙◌, List, ℕ, ap, length, subst, sym}
use Rattle.std.specs.List.{All}
use Rattle.cfb_chains.specs.Fat.{IsMiniTable, MayRefuse, marked, store_of}
use Rattle.cfb_chains.proofs.Chains.{chain_below}
use Rattle.cfb_chains.proofs.Results.{refused_with}
use Rattle.read_chains.proofs.fat.Fat.mini_table.Goals as goal

pub mini_over-requires-clause-there : goal.mini_over-requires-clause-there
mini_over-requires-clause-there c =
    let f = c.args.self.now in
    subst (All (λ n. n < length f.table)) (sym c.deref.ensures.value)
    (chain_below (store_of f) c.args.start c.args.size c.in_ok-mini_stream.mini_stream.items
    c.in_ok-mini_stream.ensures.found.chain)

pub mark-requires : goal.mark-requires
mark-requires c =
    let f = c.args.self.now in
    subst (All (λ n. n < length f.table)) (sym c.deref-2.ensures.value)
    (chain_below (store_of f) c.args.start c.args.size c.in_ok-mini_stream.mini_stream.items
    c.in_ok-mini_stream.ensures.found.chain)

pub returns-in_err-mini_stream-clause-refused : goal.returns-in_err-mini_stream-clause-refused
returns-in_err-mini_stream-clause-refused c =
    refused_with c.from_residual.result c.in_err-mini_stream.field-0.0
    (MayRefuse c.args.self.now c.args.start c.args.size) c.from_residual.ensures.1
    c.in_err-mini_stream.ensures.refused

pub returns-clause-found : goal.returns-clause-found
returns-clause-found c =
    let f = c.args.self.now in
    let ns = c.in_ok-mini_stream.mini_stream.items in (
      ns,
      c.in_ok-mini_stream.ensures.found,
      subst (λ (xs : List ℕ). IsMiniTable f c.args.mini_fat.now xs c.args.size c.in_ok-mini.mini)
          c.deref.ensures.value c.in_ok-mini.ensures,
      c.mark.ensures ∙ ap (marked f) c.deref-2.ensures.value,
    )
