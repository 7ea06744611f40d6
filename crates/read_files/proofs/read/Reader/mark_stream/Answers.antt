use Rattle.std.proofs.Common.{◌∙◌, Bool, true, false, subst, sym, if◌then◌else◌}
use Rattle.cfb_chains.proofs.Results.{refused_with}
use Rattle.cfb_chains.specs.Fat.{IsFound}
use Rattle.read_files.specs.Reads.{MayRefusePlace, chain_fault}
use Rattle.read_files.proofs.ReadingRefused.{chain_memory, place_at_fault}
use Rattle.read_files.proofs.read.Reader.mark_stream.Goals as goal

pub returns-in_err-mark_chain-clause-there : goal.returns-in_err-mark_chain-clause-there
returns-in_err-mark_chain-clause-there c = λ ns found.
    let P : Bool → Type 0 = λ b. IsFound (if b then c.args.self.now.mini else c.args.self.now.fat)
    c.args.place.first c.args.place.size ns in
    chain_memory c.from_residual.result c.in_err-mark_chain.field-0.0 c.from_residual.ensures.1
    (c.in_err-mark_chain.ensures.there ns (subst P (sym c.is_short.ensures ∙ c.if-is_short.true) found))

pub returns-in_err-mark_chain-2-clause-there : goal.returns-in_err-mark_chain-2-clause-there
returns-in_err-mark_chain-2-clause-there c = λ ns found.
    let P : Bool → Type 0 = λ b. IsFound (if b then c.args.self.now.mini else c.args.self.now.fat)
    c.args.place.first c.args.place.size ns in
    chain_memory c.from_residual-in_err-mark_chain-2.result c.in_err-mark_chain-2.field-0.0
    c.from_residual-in_err-mark_chain-2.ensures.1
    (c.in_err-mark_chain-2.ensures.there ns (subst P (sym c.is_short.ensures ∙ c.if-is_short.false) found))

pub returns-in_err-mark_chain-clause-refused : goal.returns-in_err-mark_chain-clause-refused
returns-in_err-mark_chain-clause-refused c =
    refused_with c.from_residual.result (chain_fault c.in_err-mark_chain.field-0.0)
    (MayRefusePlace c.args.self.now c.args.place.first c.args.place.size) c.from_residual.ensures.1
    (place_at_fault c.args.self.now true c.args.place.first c.args.place.size c.in_err-mark_chain.field-0.0
    (sym c.is_short.ensures ∙ c.if-is_short.true)
    c.in_err-mark_chain.ensures.told c.in_err-mark_chain.ensures.there c.in_err-mark_chain.ensures.refused)

pub returns-in_err-mark_chain-2-clause-refused : goal.returns-in_err-mark_chain-2-clause-refused
returns-in_err-mark_chain-2-clause-refused c =
    refused_with c.from_residual-in_err-mark_chain-2.result (chain_fault c.in_err-mark_chain-2.field-0.0)
    (MayRefusePlace c.args.self.now c.args.place.first c.args.place.size)
    c.from_residual-in_err-mark_chain-2.ensures.1
    (place_at_fault c.args.self.now false c.args.place.first c.args.place.size c.in_err-mark_chain-2.field-0.0
    (sym c.is_short.ensures ∙ c.if-is_short.false)
    c.in_err-mark_chain-2.ensures.told c.in_err-mark_chain-2.ensures.there c.in_err-mark_chain-2.ensures.refused)
