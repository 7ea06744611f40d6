-- What is written of the three streams is read again.
use Rattle.std.specs.Prelude.{ℕ, ◌≡◌, ◌<◌, List, length, Ok, Some}
use Rattle.ole_model.specs.CompObjs.{CLASS_BYTES, PAST_USER_TYPE, comp_obj_bytes, user_type_read}
use Rattle.ole_model.specs.OleStreams.{ole_bytes, ole_read}
use Rattle.ole_model.specs.Presentations.{lines_written, presentation}
use Rattle.ole_model.specs.declared.presentation.Presentation.TheVariants.{Text}

abbrev pub OleIsReadAgain : Type 0
OleIsReadAgain = ole_read ole_bytes ≡ Ok tt

abbrev pub UserTypeIsReadAgain : Type 0
UserTypeIsReadAgain = (class user_type : List ℕ) → length class ≡ CLASS_BYTES → length user_type < PAST_USER_TYPE
    → user_type_read (comp_obj_bytes class user_type) ≡ Ok user_type

abbrev pub LinesAreReadAgain : Type 0
LinesAreReadAgain = (lines bytes : List ℕ) → lines_written lines ≡ Some bytes → presentation bytes ≡ Text lines
