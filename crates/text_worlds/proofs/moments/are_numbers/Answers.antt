use Rattle.std.proofs.Common.{is_some, sym, ap, ◌∙◌}
use Rattle.text_words.specs.Words.{number_read}
use Rattle.text_worlds.specs.Moments.{numbers_of}
use Rattle.text_worlds.proofs.Stops.{one_is}
use Rattle.text_worlds.proofs.moments.are_numbers.Goals as goal

pub loop-word-init : goal.loop-word-init
loop-word-init c = record { same = ap (λ ws. is_some (numbers_of ws)) c.new-left.ensures }

pub loop-word-preserved : goal.loop-word-preserved
loop-word-preserved c = record {
  same = sym (one_is (number_read c.in-Some.word.now) _ (numbers_of c.next_piece.new.self)
      (sym c.in-Some-number.ensures))
      ∙ ap (λ ws. is_some (numbers_of ws)) (sym c.in-Some.ensures) ∙ c.loop-word.invariant.same;
}
