use Rattle.std.proofs.Common.{◌∙◌, ap, take}
use Rattle.script_links.proofs.Paces.{read_pace}
use Rattle.script_links.proofs.Served.{piece_heard}
use Rattle.script_links.specs.Apart.{others}
use Rattle.script_links.proofs.Apart.{by_heard}
use Rattle.script_links.proofs.links.read_some.Goals as goal

pub returns-in-Ok-feed-clause-served : goal.returns-in-Ok-feed-clause-served
returns-in-Ok-feed-clause-served g c =
    piece_heard (g.H.Host.told c.args.host.now) (g.H.Host.told c.read.new.self) c.args.link.now c.feed.new.self
    (take c.in-Ok.n c.read.new.into) c.feed.result (λ is. absurd (cc)) c.feed.ensures.fed c.in-Ok.ensures.told
    c.requires.served

pub returns-in_default-clause-served : goal.returns-in_default-clause-served
returns-in_default-clause-served g c =
    piece_heard (g.H.Host.told c.args.host.now) (g.H.Host.told c.read.new.self) c.args.link.now c.feed.new.self
    (take c.in-Ok.n c.read.new.into) c.feed.result (λ is. c.in_default.not-NoMemory (cc)) c.feed.ensures.fed
    c.in-Ok.ensures.told c.requires.served

pub returns-in-Err-Failed-clause-read : goal.returns-in-Err-Failed-clause-read
returns-in-Err-Failed-clause-read g c = read_pace (g.H.Host.told c.args.host.now) (g.H.Host.told c.read.new.self)
    c.args.link.now.inc _ _ c.in-Err-Failed.ensures.told

pub returns-in-Err-NoMemory-clause-read : goal.returns-in-Err-NoMemory-clause-read
returns-in-Err-NoMemory-clause-read g c = read_pace (g.H.Host.told c.args.host.now) (g.H.Host.told c.read.new.self)
    c.args.link.now.inc _ _ c.in-Err-NoMemory.ensures.told

pub returns-then-n-eq0-clause-read : goal.returns-then-n-eq0-clause-read
returns-then-n-eq0-clause-read g c = read_pace (g.H.Host.told c.args.host.now) (g.H.Host.told c.read.new.self)
    c.args.link.now.inc _ _ c.in-Ok.ensures.told

pub returns-in-Ok-feed-clause-read : goal.returns-in-Ok-feed-clause-read
returns-in-Ok-feed-clause-read g c = read_pace (g.H.Host.told c.args.host.now) (g.H.Host.told c.read.new.self)
    c.args.link.now.inc _ _ c.in-Ok.ensures.told

pub returns-in-NoMemory-clause-read : goal.returns-in-NoMemory-clause-read
returns-in-NoMemory-clause-read g c = read_pace (g.H.Host.told c.args.host.now) (g.H.Host.told c.read.new.self)
    c.args.link.now.inc _ _ c.in-Ok.ensures.told

pub returns-in_default-clause-read : goal.returns-in_default-clause-read
returns-in_default-clause-read g c = read_pace (g.H.Host.told c.args.host.now) (g.H.Host.told c.read.new.self)
    c.args.link.now.inc _ _ c.in-Ok.ensures.told

pub returns-in-Err-Failed-clause-apart : goal.returns-in-Err-Failed-clause-apart
returns-in-Err-Failed-clause-apart g c = ap (others c.args.link.now.inc c.args.link.now.held)
    c.in-Err-Failed.ensures.told
    ∙ by_heard c.args.link.now.inc c.args.link.now.held (g.H.Host.told c.args.host.now) _ _

pub returns-in-Err-NoMemory-clause-apart : goal.returns-in-Err-NoMemory-clause-apart
returns-in-Err-NoMemory-clause-apart g c = ap (others c.args.link.now.inc c.args.link.now.held)
    c.in-Err-NoMemory.ensures.told
    ∙ by_heard c.args.link.now.inc c.args.link.now.held (g.H.Host.told c.args.host.now) _ _

pub returns-then-n-eq0-clause-apart : goal.returns-then-n-eq0-clause-apart
returns-then-n-eq0-clause-apart g c = ap (others c.args.link.now.inc c.args.link.now.held) c.in-Ok.ensures.told
    ∙ by_heard c.args.link.now.inc c.args.link.now.held (g.H.Host.told c.args.host.now) _ _

pub returns-in-Ok-feed-clause-apart : goal.returns-in-Ok-feed-clause-apart
returns-in-Ok-feed-clause-apart g c = ap (others c.args.link.now.inc c.args.link.now.held) c.in-Ok.ensures.told
    ∙ by_heard c.args.link.now.inc c.args.link.now.held (g.H.Host.told c.args.host.now) _ _

pub returns-in-NoMemory-clause-apart : goal.returns-in-NoMemory-clause-apart
returns-in-NoMemory-clause-apart g c = ap (others c.args.link.now.inc c.args.link.now.held) c.in-Ok.ensures.told
    ∙ by_heard c.args.link.now.inc c.args.link.now.held (g.H.Host.told c.args.host.now) _ _

pub returns-in_default-clause-apart : goal.returns-in_default-clause-apart
returns-in_default-clause-apart g c = ap (others c.args.link.now.inc c.args.link.now.held) c.in-Ok.ensures.told
    ∙ by_heard c.args.link.now.inc c.args.link.now.held (g.H.Host.told c.args.host.now) _ _
