-- Want of memory at a line behind lines that spell moments.
use Rattle.std.proofs.Common.{◌≡◌, ◌+◌, ◌-◌, ℕ, List, ◌∷◌, Some, Ok, false, drop, take, slice_get, IsTrue, ap, ◌∙◌}
use Rattle.std.proofs.Common.{arith}
use Rattle.text_words.specs.Words.{lines, words}
use Rattle.text_io.specs.Lines.{is_skipped, lines_read}
use Rattle.text_io.proofs.LineByLine.{Stands, ok_is, stands}
use Rattle.text_worlds.specs.Events.{event_of, is_forge}
use Rattle.world_model.specs.declared.moment.Moment.{Moment}
use Rattle.text_worlds.specs.Moments.{MayWantAny, may_want_any, moment_of, moment_read, stop_in}
use Rattle.text_worlds.proofs.Stops.{moment_wants}

pub spelled_wants : (line : List ℕ) (m : Moment) → Some m ≡ moment_of line → IsTrue (may_want_any line)
spelled_wants line m is = moment_wants (stop_in (words line)) (event_of line) (is_forge (words line)) m is

pub wanting : (text : List ℕ) (k : ℕ) (line : List ℕ) (rest : List (List ℕ)) (front : List Moment)
    → drop k (lines text) ≡ line ∷ rest → lines_read moment_read 1 (take k (lines text)) ≡ Ok front
    → is_skipped line ≡ false → IsTrue (may_want_any line) → MayWantAny text (k + 1)
wanting text k line rest front left so says wants =
    let at : Stands (lines text) k line rest = stands (lines text) k line rest left in
    let same : k + 1 - 1 ≡ k = omega arith in
    record {
      line = line;
      stands = ap (slice_get (lines text)) same ∙ at.here;
      asks = says;
      before = ok_is moment_read (lines_read moment_read 1 (take (k + 1 - 1) (lines text))) front
          (ap (λ n. lines_read moment_read 1 (take n (lines text))) same ∙ so);
      wants = wants;
    }
