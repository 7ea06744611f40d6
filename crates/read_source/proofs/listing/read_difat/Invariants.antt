use Rattle.std.proofs.Common.{◌≡◌, ◌-◌, IfSome, length}
use Rattle.cfb_bytes.specs.Bytes.{block}
use Rattle.cfb_header.specs.Header.{difat_by}
use Rattle.read_source.proofs.Filling.{IsDifatSoFar}
use Rattle.read_source.proofs.listing.read_difat.Given as goal

abbrev pub invariant-loop : goal.invariant-loop
invariant-loop g l =
    (length l.file ≡ length l.initial.file) × (block 512 l.file 0 ≡ block 512 l.initial.file 0)
    × (g.S.Source.bytes l.source ≡ g.S.Source.bytes l.initial.source)
    × IfSome (g.S.Source.bytes l.initial.source) (λ a. length a ≡ length l.initial.file
    → IsDifatSoFar a l.initial.file l.file (difat_by a l.header) (l.end - l.counter) l.at)
