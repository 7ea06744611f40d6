use Rattle.std.proofs.Common.{◌≡◌, ◌++◌, ◌-◌, ◌*◌, length}
use Rattle.ole_model.specs.Fields.{map_ok}
use Rattle.ole_model.specs.Layouts.{areas_read}
use Rattle.ole_streams.proofs.layout.take_areas.Given as goal

abbrev pub invariant-loop-index : goal.invariant-loop-index
invariant-loop-index l = record {
  value : map_ok (λ areas. l.areas.items ++ areas) (areas_read (l.count - l.index) l.rest)
      ≡ areas_read l.count l.fn.bytes;
  size : length l.rest ≡ 8 * (l.count - l.index);
  len : length l.areas.items ≡ l.index;
}
