-- Want of memory at a line behind lines that spell events.
use Rattle.std.proofs.Common.{◌≡◌, ◌+◌, ◌-◌, ◌||◌, ℕ, Bool, List, ◌∷◌, Option, Some, None, Result, Ok, false, drop}
use Rattle.std.proofs.Common.{take, is_some, slice_get, IsOk, IsTrue, refl, sym, ap, ◌∙◌, subst, arith}
use Rattle.text_words.specs.Words.{lines, words}
use Rattle.text_io.specs.Lines.{is_skipped, lines_read}
use Rattle.text_io.specs.declared.lines.SyntaxFault.{SyntaxFault}
use Rattle.text_io.proofs.LineByLine.{Stands, stands}
use Rattle.world_model.specs.declared.event.Event.{Event}
use Rattle.text_worlds.specs.Events.{MayWantMemory, event_of, is_forge, line_read, may_want}

some_wants : (e : Option Event) (b : Bool) (x : Event) → Some x ≡ e → IsTrue (is_some e || b)
some_wants None b x e = absurd cc
some_wants (Some y) b x e = refl

-- a line that spells an event may want memory
pub spelled_wants : (line : List ℕ) (x : Event) → Some x ≡ event_of line → IsTrue (may_want line)
spelled_wants line x e = some_wants (event_of line) (is_forge (words line)) x e

ok_is : (r : Result (List Event) (ℕ × SyntaxFault)) (xs : List Event) → r ≡ Ok xs → IsOk r
ok_is r xs is = let P : Result (List Event) (ℕ × SyntaxFault) → Type 0 = IsOk in subst P (sym is) refl

pub wanting : (text : List ℕ) (k : ℕ) (line : List ℕ) (rest : List (List ℕ)) (front : List Event)
    → drop k (lines text) ≡ line ∷ rest → lines_read line_read 1 (take k (lines text)) ≡ Ok front
    → is_skipped line ≡ false → IsTrue (may_want line) → MayWantMemory text (k + 1)
wanting text k line rest front left so says wants =
    let at : Stands (lines text) k line rest = stands (lines text) k line rest left in
    let same : k + 1 - 1 ≡ k = omega arith in
    record {
      line = line;
      stands = ap (slice_get (lines text)) same ∙ at.here;
      asks = says;
      before = ok_is (lines_read line_read 1 (take (k + 1 - 1) (lines text))) front
          (ap (λ n. lines_read line_read 1 (take n (lines text))) same ∙ so);
      wants = wants;
    }
