use Rattle.std.proofs.Common.{◌≡◌, length}
use Rattle.std.specs.Io.KnownBytes.{Keeps}
use Rattle.server_links.proofs.fronts.read_again.Given as goal

abbrev pub invariant-loop : goal.invariant-loop
invariant-loop g l = (length l.into ≡ length l.initial.into)
    × Keeps (g.R.Read.remaining l.initial.reader) (g.R.Read.remaining l.reader)
