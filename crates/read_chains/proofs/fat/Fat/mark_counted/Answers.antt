use Rattle.cfb_chains.proofs.Followed.{held_found, held_long}
use Rattle.read_chains.proofs.fat.Fat.mark_counted.Goals as goal

pub returns-clause-holds : goal.returns-clause-holds
returns-clause-holds c = λ ns h. held_found c.args.self.now c.args.start c.args.len ns c.room.ensures.few h

pub returns-clause-long : goal.returns-clause-long
returns-clause-long c =
    let there = c.in_ok-count.ensures.counted c.requires in
    held_long c.args.self.now c.args.start c.args.len there.0 c.room.ensures.few there.2
