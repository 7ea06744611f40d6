use Rattle.std.proofs.Common.{IfNone, IfOk, subst, sym}
use Rattle.tell_checks.specs.Spots.{IsNowhere}
use Rattle.tell_checks.proofs.Promised.{chain_nowhere, directory_nowhere}
use Rattle.tell_checks.proofs.spot.place_of.Goals as goal
use Rattle.read_files.specs.declared.fault.ReadFault.{ReadFault}

pub returns-in-Directory-clause-nowhere : goal.returns-in-Directory-clause-nowhere
returns-in-Directory-clause-nowhere c = λ is.
    subst (λ (x : ReadFault). IfOk c.place_in_directory.result (λ p. IfNone p (IsNowhere c.args.file.now x)))
    (sym c.in-Directory.is)
    (directory_nowhere c.args.file.now c.in-Directory.directory c.place_in_directory.result
    (λ own. c.place_in_directory.ensures.nowhere is own))

pub returns-in-Chain-clause-nowhere : goal.returns-in-Chain-clause-nowhere
returns-in-Chain-clause-nowhere c = λ is.
    subst (λ (x : ReadFault). IfOk c.place_in_chains.result (λ p. IfNone p (IsNowhere c.args.file.now x)))
    (sym c.in-Chain.is)
    (chain_nowhere c.args.file.now c.in-Chain.chain c.place_in_chains.result (c.place_in_chains.ensures.nowhere is)
    (λ other. c.place_in_chains.ensures.streams is other))
