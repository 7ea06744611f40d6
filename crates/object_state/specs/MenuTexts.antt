-- The menu texts of an object.
use Rattle.std.specs.Prelude.{ℕ, Bool, ◌&&◌, List, length, nat_le}
use Rattle.std.specs.List.{list_all}
use Rattle.object_state.specs.Printable.{is_printable}

abbrev pub is_menu_text : List ℕ → Bool
is_menu_text text = nat_le (length text) 16 && list_all is_printable text
