use Rattle.std.proofs.Common.{sym, ap, ◌∙◌}
use Rattle.text_words.specs.Words.{number_read}
use Rattle.text_worlds.specs.Moments.{numbers_of}
use Rattle.text_worlds.proofs.Stops.{behind, behind_none, one_more}
use Rattle.text_worlds.proofs.moments.collect_numbers.Goals as goal

pub loop-word-init : goal.loop-word-init
loop-word-init c = record {
  same = ap (λ ns. behind ns (numbers_of c.new-left.result)) c.new-numbers.ensures
      ∙ behind_none (numbers_of c.new-left.result) ∙ ap numbers_of c.new-left.ensures;
}

pub loop-word-preserved : goal.loop-word-preserved
loop-word-preserved c = record {
  same = ap (λ ns. behind ns (numbers_of c.next_piece.new.self)) c.in_ok-push-in-Some-number.ensures.pushed
      ∙ sym (one_more c.loop-word.numbers (number_read c.in-Some.word.now) c.in-Some-number.one
      (numbers_of c.next_piece.new.self) (sym c.in-Some-number.ensures))
      ∙ ap (λ ws. behind c.loop-word.numbers (numbers_of ws)) (sym c.in-Some.ensures) ∙ c.loop-word.invariant.same;
}
