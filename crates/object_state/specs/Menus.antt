-- The menus of an object.
use Rattle.std.specs.Prelude.{ℕ, ◌&&◌, List, Option, Some, None, if◌then◌else◌}
use Rattle.object_state.specs.declared.menu_texts.Menus.{Menus}
use Rattle.object_state.specs.MenuTexts.{is_menu_text}

abbrev pub menus_of : List ℕ → List ℕ → List ℕ → Option Menus
menus_of edit object help =
    if is_menu_text edit && is_menu_text object && is_menu_text help
    then Some (record { edit = edit; object = object; help = help })
    else None
