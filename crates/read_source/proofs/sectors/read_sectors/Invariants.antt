use Rattle.std.proofs.Common.{◌≡◌, ◌≤◌, ◌-◌, IfSome, length}
use Rattle.cfb_bytes.specs.Bytes.{block}
use Rattle.read_source.proofs.Filling.{IsReadSoFar}
use Rattle.read_source.proofs.sectors.read_sectors.Given as goal

abbrev pub invariant-loop-at : goal.invariant-loop-at
invariant-loop-at g l =
    (l.at ≤ length l.sectors) × (length l.file ≡ length l.initial.file)
    × (block 512 l.file 0 ≡ block 512 l.initial.file 0)
    × (g.S.Source.bytes l.source ≡ g.S.Source.bytes l.initial.source)
    × IfSome (g.S.Source.bytes l.initial.source) (λ a. length a ≡ length l.initial.file
    → IsReadSoFar a l.initial.file l.file l.sectors l.at)

abbrev pub decreases-loop-at : goal.decreases-loop-at
decreases-loop-at g l = length l.sectors - l.at
