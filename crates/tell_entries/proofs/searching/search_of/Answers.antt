use Rattle.std.proofs.Common.{◌≡◌, ◌∷◌, ◌∙◌, [], arith, rules}
use Rattle.tell_entries.proofs.Searches.{begun}
use Rattle.tell_entries.proofs.searching.search_of.Goals as goal

pub returns : goal.returns
returns c = λ fault sound.
    begun c.args.directory.now fault c.in_ok-ids.ids.items c.in_ok-parents.parents.items c.in_ok-seen.seen.items
    c.in_ok-ahead.ahead.items _ (search (rules, c.in_ok-ids.ensures)) (search (rules, c.in_ok-parents.ensures))
    (search (rules, c.in_ok-seen.ensures)) (omega (arith, c.requires.whole.1))
    c.in_ok-ahead.ensures.links c.in_ok-ahead.ensures.child sound
