use Rattle.std.proofs.Common.{◌≡◌, IfSome, length, take}
use Rattle.cfb_bytes.specs.Bytes.{block}
use Rattle.cfb_header.specs.Bytes.{joined}
use Rattle.read_streams.proofs.filling.read_minis.Given as goal

abbrev pub invariant-loop-at : goal.invariant-loop-at
invariant-loop-at g l = record {
  read : IfSome (g.S.Source.bytes l.fn.source) (λ a. length a ≡ l.len
      → l.out.items ≡ joined (block 64 a) (take l.at-index l.places));
  kept : g.S.Source.bytes l.source ≡ g.S.Source.bytes l.fn.source;
}
