use Rattle.cfb_names.specs.declared.fault.DirFault.TheVariants as directory
use Rattle.tell_entries.proofs.Searches.{all_met}
use Rattle.tell_entries.proofs.searching.meet_all.Goals as goal

pub follow-requires : goal.follow-requires
follow-requires c = record { is = c.in_ok-search.ensures directory.NoMemory (λ h. h) }

pub returns : goal.returns
returns c =
    all_met c.args.directory.now c.follow.new.search.ids.items c.follow.new.search.parents.items
    c.follow.new.search.seen.items c.follow.new.search.unseen _ c.in_ok-follow.ensures.met c.in_ok-follow.ensures.all
