use Rattle.std.proofs.Common.{◌≡◌, ◌∙◌, ap, rules, sym}
use Rattle.std.specs.Result.{IsErrAnd}
use Rattle.cfb_chains.proofs.Results.{refused_with}
use Rattle.read_outlines.specs.Keeping.{wanted}
use Rattle.read_files.specs.Reads.{MayRefuseStorage}
use Rattle.read_files.proofs.ReadingLent.{lent_left, lent_pushed, lent_refused}
use Rattle.read_files.proofs.read.Reader.push_stream.Goals as goal

pub returns-in_err-mark_stream-clause-refused : goal.returns-in_err-mark_stream-clause-refused
returns-in_err-mark_stream-clause-refused c = λ b depth pending at.
    let again : IsErrAnd c.from_residual.result (λ x. x ≡ c.in_err-mark_stream.field-0.0) = search rules in
    refused_with c.from_residual.result c.in_err-mark_stream.field-0.0 (MayRefuseStorage b) again
    (lent_refused c.args.id c.args.stream c.args.self.now c.requires.said c.requires.below_root b depth pending at
    c.in_err-mark_stream.field-0.0 c.in_err-mark_stream.ensures.refused)

pub returns-in-Nothing-clause-outlined : goal.returns-in-Nothing-clause-outlined
returns-in-Nothing-clause-outlined c = λ depth.
    lent_left c.args.id c.args.stream c.args.self.now c.requires.said c.requires.below_root c.mark_stream.new.self
    c.in_ok-mark_stream.ensures.found
    c.in_ok-mark_stream.ensures.long depth (wanted c.args.keep) c.args.parts.now.items
    (sym c.below.ensures ∙ ap wanted c.in-Nothing.is)

pub returns-in_ok-push-in_default : goal.returns-in_ok-push-in_default
returns-in_ok-push-in_default c = record {
  outlined = λ depth.
      lent_pushed c.args.id c.args.stream c.args.self.now c.requires.said c.requires.below_root
      c.mark_stream.new.self c.in_ok-mark_stream.ensures.found
      c.in_ok-mark_stream.ensures.long depth (wanted c.args.keep) c.copy.result c.args.parts.now.items
      c.push.new.self.items c.copy.ensures c.in_ok-push-in_default.ensures.items;
  there = λ depth k name s new h. tt;
  refused = λ b depth pending at. tt;
}
