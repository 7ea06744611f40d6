use Rattle.std.proofs.lemmas.Result.{IfOk-weaker}
use Rattle.std.proofs.Common.{List, ℕ}
use Rattle.cfb_file.specs.Denotes.{IsLaidOut, Layout}
use Rattle.tell_faults.proofs.Held.{none_gives, some_gives}
use Rattle.tell_chains.specs.Streams.{ArePartsOf}
use Rattle.tell_chains.proofs.Laid.{whole_directory}
use Rattle.tell_chains.proofs.Owned.{file_found, file_spared, no_file}
use Rattle.tell_chains.proofs.chains.find_stream.Goals as goal

pub find_in_streams-requires-clause-few : goal.find_in_streams-requires-clause-few
find_in_streams-requires-clause-few c =
    (some_gives (ArePartsOf c.args.file.now) c.in_ok-found.found c.in-Some.parts c.in-Some.is
    c.in_ok-found.ensures.there).0

pub find_in_streams-requires-clause-whole : goal.find_in_streams-requires-clause-whole
find_in_streams-requires-clause-whole c =
    whole_directory c.args.file.now c.in-Some.parts
    (some_gives (ArePartsOf c.args.file.now) c.in_ok-found.found c.in-Some.parts c.in-Some.is
    c.in_ok-found.ensures.there)

pub returns-clause-there : goal.returns-clause-there
returns-clause-there c =
    IfOk-weaker c.find_in_streams.result _ _ (λ v e. file_found c.args.file.now c.args.fault c.in-Some.parts v
    (some_gives (ArePartsOf c.args.file.now) c.in_ok-found.found c.in-Some.parts c.in-Some.is
    c.in_ok-found.ensures.there) e) c.find_in_streams.ensures.there

pub returns-clause-nowhere : goal.returns-clause-nowhere
returns-clause-nowhere c = λ is other.
    IfOk-weaker c.find_in_streams.result _ _ (λ v e. file_spared c.args.file.now c.args.fault c.in-Some.parts v
    (some_gives (ArePartsOf c.args.file.now) c.in_ok-found.found c.in-Some.parts c.in-Some.is
    c.in_ok-found.ensures.there) e) (c.find_in_streams.ensures.nowhere other)
