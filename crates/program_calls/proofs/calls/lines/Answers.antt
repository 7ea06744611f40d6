use Rattle.std.proofs.Common.{ℕ, List}
use Rattle.tell_forms.specs.Listings.{told}
use Rattle.tell_forms.specs.declared.asked_listings.Listing.TheVariants.{Lines}
use Rattle.program_calls.specs.Calls.{IsListed, IsListedAs, IsRefusedList}
use Rattle.program_calls.proofs.Answered.{answers_of, in_lines}
use Rattle.program_calls.proofs.calls.lines.Goals as goal

pub returns : goal.returns
returns c =
    let file : List ℕ = c.args.file.now in
    answers_of c.list.result c.args.out.now c.list.new.out c.list.new.needed (IsListedAs (told Lines) file)
    (IsListed file)
    (IsRefusedList file) (IsRefusedList file) (in_lines file) (λ fault. fault) c.list.ensures
