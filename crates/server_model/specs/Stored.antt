-- Laws of what is stored.
use Rattle.std.specs.Prelude.{◌≡◌, ◌≢◌, true, []}
use Rattle.tree_streams.specs.Limits.{is_within}
use Rattle.ole_model.specs.Presentations.{presentation}
use Rattle.ole_model.specs.declared.presentation.Presentation.TheVariants.{Text}
use Rattle.object_core.specs.Content.{Content, is_content}
use Rattle.object_core.specs.Pictures.{picture_bytes}
use Rattle.server_model.specs.Pictures.{picture_of}
use Rattle.server_model.specs.Server.{stored_of}

-- what is stored of a content is within what may be stored of an object
abbrev pub StoredIsWithin : Type 0
StoredIsWithin = (c : Content) → is_content c ≡ true → is_within (stored_of c) ≡ true

-- of the picture that is stored, just the lines that the object shows are read, where there are some
abbrev pub PicturesAreRead : Type 0
PicturesAreRead = (c : Content) → is_content c ≡ true → picture_bytes c ≢ []
    → presentation (picture_of c) ≡ Text (picture_bytes c)
