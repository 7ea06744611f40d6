use Rattle.std.proofs.Common.{◌≡◌, ◌∙◌, ℕ, ap, rules}
use Rattle.std.specs.Result.{IsErrAnd}
use Rattle.script_model.specs.Bounds.{pace}
use Rattle.script_container.proofs.Known.{stopped_on}
use Rattle.script_links.proofs.Apart.{apart_then}
use Rattle.script_links.proofs.Going.{known_still}
use Rattle.script_links.proofs.Paces.{may_read, paced_on, read_on}
use Rattle.script_links.proofs.links.hear.Goals as goal

pub read_some-requires-clause-within : goal.read_some-requires-clause-within
read_some-requires-clause-within g c =
    may_read (pace c.args.link.now.inc (g.H.Host.told c.args.host.now))
    (pace c.take_frames.new.link.inc (g.H.Host.told c.take_frames.new.host)) c.loop-reads.reads
    c.requires.within
    (paced_on (pace c.args.link.now.inc (g.H.Host.told c.args.host.now))
    (pace c.loop-reads.link.inc (g.H.Host.told c.loop-reads.host))
    (pace c.take_frames.new.link.inc (g.H.Host.told c.take_frames.new.host)) c.loop-reads.reads
    (ap (λ (i : ℕ). pace i (g.H.Host.told c.take_frames.new.host)) c.take_frames.ensures.same
    ∙ c.take_frames.ensures.paced) c.loop-reads.invariant.on)
    c.loop-reads-test.true

pub loop-reads-preserved : goal.loop-reads-preserved
loop-reads-preserved g c = record {
  known = known_still g.H.Disk.Disk c.take_frames.new.noticed
      (c.read_some.ensures.told c.take_frames.new.core c.in_ok-heard.ensures.leaves.told) c.read_some.ensures.noticed
      c.in_ok-heard.ensures.leaves.seen;
  same = c.read_some.ensures.same ∙ c.take_frames.ensures.same ∙ c.loop-reads.invariant.same;
  holding = c.read_some.ensures.holding ∙ c.take_frames.ensures.holding ∙ c.loop-reads.invariant.holding;
  on = read_on (pace c.args.link.now.inc (g.H.Host.told c.args.host.now))
      (pace c.take_frames.new.link.inc (g.H.Host.told c.take_frames.new.host))
      (pace c.read_some.new.link.inc (g.H.Host.told c.read_some.new.host)) c.loop-reads.reads
      c.read_some.ensures.read c.loop-reads-test.true
      (paced_on (pace c.args.link.now.inc (g.H.Host.told c.args.host.now))
      (pace c.loop-reads.link.inc (g.H.Host.told c.loop-reads.host))
      (pace c.take_frames.new.link.inc (g.H.Host.told c.take_frames.new.host)) c.loop-reads.reads
      (ap (λ (i : ℕ). pace i (g.H.Host.told c.take_frames.new.host)) c.take_frames.ensures.same
      ∙ c.take_frames.ensures.paced) c.loop-reads.invariant.on);
  served = c.in_ok-read_some.ensures.served;
  apart = apart_then (g.H.Host.told c.args.host.now) (g.H.Host.told c.take_frames.new.host)
      (g.H.Host.told c.read_some.new.host) c.args.link.now.inc c.take_frames.new.link.inc c.args.link.now.held
      c.take_frames.new.link.held (c.take_frames.ensures.same ∙ c.loop-reads.invariant.same)
      (c.take_frames.ensures.holding ∙ c.loop-reads.invariant.holding) c.read_some.ensures.apart
      (apart_then (g.H.Host.told c.args.host.now) (g.H.Host.told c.loop-reads.host)
      (g.H.Host.told c.take_frames.new.host) c.args.link.now.inc c.loop-reads.link.inc c.args.link.now.held
      c.loop-reads.link.held c.loop-reads.invariant.same c.loop-reads.invariant.holding c.take_frames.ensures.apart
      c.loop-reads.invariant.apart);
}

pub returns-in_err-heard-clause-leaves : goal.returns-in_err-heard-clause-leaves
returns-in_err-heard-clause-leaves g c =
    let again : IsErrAnd c.from_residual.result (λ x. x ≡ c.in_err-heard.field-0.0) = search rules in
    stopped_on g.H.Disk.Disk c.from_residual.result c.in_err-heard.field-0.0 (g.H.Host.told c.take_frames.new.host)
    c.take_frames.new.core c.take_frames.new.noticed again c.in_err-heard.ensures.leaves

pub returns-in_err-read_some-clause-leaves : goal.returns-in_err-read_some-clause-leaves
returns-in_err-read_some-clause-leaves g c =
    let again : IsErrAnd c.from_residual-in_err-read_some.result (λ x. x ≡ c.in_err-read_some.field-0.0) =
    search rules in
    stopped_on g.H.Disk.Disk c.from_residual-in_err-read_some.result c.in_err-read_some.field-0.0
    (g.H.Host.told c.read_some.new.host) c.take_frames.new.core c.take_frames.new.noticed again (record {
      told = c.read_some.ensures.told c.take_frames.new.core c.in_ok-heard.ensures.leaves.told;
      shown = c.in_err-read_some.ensures.shown;
    })

pub returns-then-not-branch-clause-leaves : goal.returns-then-not-branch-clause-leaves
returns-then-not-branch-clause-leaves g c = known_still g.H.Disk.Disk c.take_frames.new.noticed
    (c.read_some.ensures.told c.take_frames.new.core c.in_ok-heard.ensures.leaves.told) c.read_some.ensures.noticed
    c.in_ok-heard.ensures.leaves.seen
