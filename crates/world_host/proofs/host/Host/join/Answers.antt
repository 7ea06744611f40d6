use Rattle.std.proofs.Common.{◌≡◌, ◌∙◌, ◌++◌, ◌+◌, ◌-◌, ap, length, map, arith}
use Rattle.std.specs.List.{range_with_len}
use Rattle.world_model.specs.World.{messages_of, commits_of, of_container}
use Rattle.world_host.specs.Servers.{ends_of, starts_of}
use Rattle.world_host.specs.View.{bare}
use Rattle.world_host.proofs.Joins.{joins, starts_few}
use Rattle.world_host.proofs.host.Host.join.Goals as goal

pub returns-clause-joined : goal.returns-clause-joined
returns-clause-joined c =
    let same = c.into_vec.ensures in
    let before : c.len-before.result ≡ length c.args.self.now.sent.items = c.len-before.ensures
    ∙ c.args.self.now.sent.ok.0 in
    let count : c.len.result - c.len-before.result ≡ length (messages_of c.args.answer.actions) =
    rw (← ap (λ acts. length (messages_of acts)) same) (omega arith) in
    joins (bare c.args.self.now) c.args.answer _ _ c.number.new.places.items c.share.new.commits.items _ _
    (c.share.ensures.sent ∙ ap (λ acts. c.args.self.now.sent.items ++ map of_container (messages_of acts)) same)
    (c.taken_from-4.ensures
    ∙ (c.share.ensures.starts ∙ (ap (λ xs. xs ++ starts_of c.into_vec.result.items) c.requires.room.no_starts
    ∙ ap starts_of same)))
    (c.number.ensures ∙ (ap (λ n. range_with_len (n + 1) (c.len.result - c.len-before.result)) before
    ∙ ap (λ n. range_with_len (length c.args.self.now.sent.items + 1) n) count))
    (c.share.ensures.commits ∙ (ap (λ xs. xs ++ commits_of c.into_vec.result.items) c.requires.room.no_commits
    ∙ ap commits_of same))
    (rw (← (c.from_vec.ensures ∙ c.taken_from.ensures), ← (c.from_vec-2.ensures ∙ c.taken_from-2.ensures))
    c.add.ensures.added)
    c.add_uncounted.ensures

pub returns-clause-few : goal.returns-clause-few
returns-clause-few c =
    let e = c.taken_from-4.ensures
    ∙ (c.share.ensures.starts ∙ (ap (λ xs. xs ++ starts_of c.into_vec.result.items) c.requires.room.no_starts
    ∙ ap starts_of c.into_vec.ensures)) in
    rw e (starts_few c.args.answer.actions)

pub returns-clause-ends : goal.returns-clause-ends
returns-clause-ends c = c.taken_from-3.ensures
    ∙ (c.share.ensures.ends ∙ (ap (λ xs. xs ++ ends_of c.into_vec.result.items) c.requires.room.no_ends
    ∙ ap ends_of c.into_vec.ensures))
