-- What is told of an outline, as it is asked for.
use Rattle.std.specs.Prelude.{ℕ, Bool, true, false, List}
use Rattle.read_outlines.specs.View.{outline_view}
use Rattle.read_outlines.specs.declared.outline.Outline.{Outline}
use Rattle.tell_forms.specs.Json.{json_listed}
use Rattle.tell_forms.specs.Lines.{listed}
use Rattle.tell_forms.specs.Long.{long_listed}
use Rattle.tell_forms.specs.Placed.{placed_view}
use Rattle.tell_forms.specs.declared.asked_listings.Listing.{Listing}
use Rattle.tell_forms.specs.declared.asked_listings.Listing.TheVariants as form

-- the listing that is asked for: JSON before columns, and columns before lines
abbrev pub listing_of : Bool → Bool → Listing
listing_of true is_long = form.Json
listing_of false true = form.Long
listing_of false false = form.Lines

-- the bytes of the listing of an outline
abbrev pub told : Listing → Outline → List ℕ
told form.Lines = λ o. listed (outline_view o)
told form.Json = λ o. json_listed (placed_view o)
told form.Long = λ o. long_listed (outline_view o)
