use Rattle.std.proofs.Common.{List, Option, ℕ}
use Rattle.tell_forms.specs.declared.asked_listings.Listing.TheVariants.{Lines}
use Rattle.tell_lists.specs.Lists.{Lists, ListsAs}
use Rattle.tell_lists.proofs.Listed.{in_lines, some_map}
use Rattle.tell_lists.proofs.listing.list_file.Goals as goal

pub returns-in-Ok-clause-listed : goal.returns-in-Ok-clause-listed
returns-in-Ok-clause-listed g c =
    let old : Option (List ℕ) = g.W.Write.contents c.args.writer.now in
    let new : Option (List ℕ) = g.W.Write.contents c.list_as.new.writer in
    some_map (g.S.Source.bytes c.args.source.now) (λ a. ListsAs Lines a old new) (λ a. Lists a old new)
    (λ a l. in_lines a old new l) c.in-Ok.ensures.listed
