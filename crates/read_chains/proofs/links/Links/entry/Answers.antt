use Rattle.std.proofs.Common.{◌≡◌, ◌<◌, ◌*◌, ◌∙◌, ap, arith, get_or, length, subst, sym}
use Rattle.std.proofs.lemmas.List.FromFn.{get_or-map-range_with_len, length-map-range_with_len}
use Rattle.cfb_header.specs.Bytes.{u32_at}
use Rattle.read_chains.specs.Links.{AreWhole, entries_of}
use Rattle.read_chains.proofs.links.Links.entry.Goals as goal

pub entry_in-requires-clause-whole : goal.entry_in-requires-clause-whole
entry_in-requires-clause-whole c = subst AreWhole c.in-Run.is c.self.invariant

pub entry_in-requires-clause-there : goal.entry_in-requires-clause-there
entry_in-requires-clause-there c =
    let counted : length c.args.self.now ≡ c.in-Run.count =
    ap length (sym c.self.view_is ∙ ap entries_of c.in-Run.is) ∙ length-map-range_with_len
    (λ k. u32_at c.in-Run.bytes.now (4 * k)) 0 c.in-Run.count in
    omega (arith, c.requires, counted)

pub returns-in-Run : goal.returns-in-Run
returns-in-Run c =
    let counted : length c.args.self.now ≡ c.in-Run.count =
    ap length (sym c.self.view_is ∙ ap entries_of c.in-Run.is) ∙ length-map-range_with_len
    (λ k. u32_at c.in-Run.bytes.now (4 * k)) 0 c.in-Run.count in
    let there : c.args.n < c.in-Run.count = omega (arith, c.requires, counted) in
    c.entry_in.ensures
    ∙ sym (get_or-map-range_with_len (λ k. u32_at c.in-Run.bytes.now (4 * k)) 0 c.in-Run.count c.args.n c.args.n 0
    there (omega arith))
    ∙ ap (λ xs. get_or xs c.args.n 0) (sym (ap entries_of c.in-Run.is) ∙ c.self.view_is)
