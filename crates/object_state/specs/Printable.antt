-- Printable ASCII.
use Rattle.std.specs.Prelude.{ℕ, Bool, ◌&&◌, nat_le}

abbrev pub is_printable : ℕ → Bool
is_printable byte = nat_le 32 byte && nat_le byte 126
