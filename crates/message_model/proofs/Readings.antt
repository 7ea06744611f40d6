-- Byte forms are apart, so bytes are read in one way.
use Rattle.std.proofs.Common.{◌≡◌, ℕ, ◌≤◌, List, [], ◌∷◌, ◌++◌, length, take, drop, Some, refl, sym, ap, ◌∙◌}
use Rattle.std.proofs.Common.{append_assoc, arith}
use Rattle.std.specs.List.{AllByRecursion}
use Rattle.std.proofs.lemmas.List.{take_at, drop_at, append-nil}
use Rattle.message_model.specs.declared.frame.Frame.{Frame}
use Rattle.message_model.specs.Spelling as spelling
use Rattle.message_model.specs.Spelling.{four_bytes, body, head, spell, joined}
use Rattle.message_model.specs.Frames.{IsFrame, number_in, shown, SpellingsAreApart, ReadingIsOne, FramesAreLongest}
use Rattle.message_model.specs.Frames.{SpelledIsRead}
use Rattle.message_model.specs.Reading.{read_body}
use Rattle.message_model.proofs.Fields.{some_is, length-four_bytes, number_in-four_bytes}
use Rattle.message_model.proofs.Bodies.{kind_in, kind_in-number, same_kind, body_again}
use Rattle.message_model.proofs.Lengths.{length-body}

-- fronts of one length
pub same_front : (a b x y : List ℕ) → length a ≡ length b → a ++ x ≡ b ++ y → a ≡ b
same_front a b x y len e = sym (take_at a x (length a) refl) ∙ ap (take (length a)) e ∙ take_at b y (length a) (sym len)

pub same_back : (a b x y : List ℕ) → length a ≡ length b → a ++ x ≡ b ++ y → x ≡ y
same_back a b x y len e = sym (drop_at a x (length a) refl) ∙ ap (drop (length a)) e ∙ drop_at b y (length a) (sym len)

pub record AreHeadsAlike (k : ℕ) (cells : List ℕ) (x : List ℕ) (l : ℕ) (lens : List ℕ) (y : List ℕ) : Type 0 where
  pub kinds : k ≡ l
  pub lengths : cells ≡ lens
  pub behind : x ≡ y

-- the byte forms of frames are equal where heads and bodies are
pub heads_alike : (k l : ℕ) (cells lens x y : List ℕ) → length cells ≡ 4 → length lens ≡ 4
    → (79 ∷ 76 ∷ 67 ∷ 77 ∷ 2 ∷ k ∷ cells) ++ x ≡ (79 ∷ 76 ∷ 67 ∷ 77 ∷ 2 ∷ l ∷ lens) ++ y
    → AreHeadsAlike k cells x l lens y
heads_alike k l cells lens x y p q e =
    let same : length cells ≡ length lens = p ∙ sym q in
    let kinds : k ≡ l = cc in
    let rests : cells ++ x ≡ lens ++ y = cc in
    record {
      kinds = kinds;
      lengths = same_front cells lens x y same rests;
      behind = same_back cells lens x y same rests;
    }

pub spell-parts : (f : Frame) (x : List ℕ) → spell f ++ x
    ≡ (79 ∷ 76 ∷ 67 ∷ 77 ∷ 2 ∷ spelling.kind f ∷ four_bytes (length (body f))) ++ (body f ++ x)
spell-parts f x = append_assoc (head (spelling.kind f) (length (body f))) (body f) x

pub record AreAlike (f g : Frame) (x y : List ℕ) : Type 0 where
  pub frames : f ≡ g
  pub rests : x ≡ y

pub apart : (f g : Frame) (x y : List ℕ) → IsFrame f → IsFrame g → spell f ++ x ≡ spell g ++ y → AreAlike f g x y
apart f g x y p q e =
    let h : AreHeadsAlike (spelling.kind f) (four_bytes (length (body f))) (body f ++ x) (spelling.kind g)
    (four_bytes (length (body g))) (body g ++ y) = heads_alike _ _ _ _ _ _ (length-four_bytes (length (body f)))
    (length-four_bytes (length (body g))) (sym (spell-parts f x) ∙ e ∙ spell-parts g y) in
    let sf : length (body f) ≤ 1048576 = length-body f p in
    let sg : length (body g) ≤ 1048576 = length-body g q in
    let len : length (body f) ≡ length (body g) = sym (number_in-four_bytes (length (body f)) (omega arith))
    ∙ ap number_in h.lengths ∙ number_in-four_bytes (length (body g)) (omega arith) in
    let bodies : body f ≡ body g = same_front (body f) (body g) x y len h.behind in
    let kinds : kind_in f ≡ kind_in g = same_kind (kind_in f) (kind_in g)
    (sym (kind_in-number f) ∙ h.kinds ∙ kind_in-number g) in
    let both_read : Some f ≡ Some g = sym (body_again f p) ∙ ap (read_body (kind_in f)) bodies
    ∙ ap (λ k. read_body k (body g)) kinds ∙ body_again g q in
    record { frames = some_is f g both_read; rests = same_back (body f) (body g) x y len h.behind }

pub spellings_are_apart : SpellingsAreApart
spellings_are_apart f g more p q e =
    let a : AreAlike f g more [] = apart f g more [] p q (e ∙ sym (append-nil (spell g))) in
    (a.rests, a.frames)

-- no frame's byte form begins these bytes
abbrev pub BeginsNone : List ℕ → Type 0
BeginsNone rest = (f : Frame) (more : List ℕ) → IsFrame f → rest ≡ spell f ++ more → ⊥

pub record AreSame (fs gs : List Frame) (x y : List ℕ) : Type 0 where
  pub frames : fs ≡ gs
  pub rests : x ≡ y

same : (fs gs : List Frame) (x y : List ℕ) → AllByRecursion IsFrame fs → AllByRecursion IsFrame gs → BeginsNone x
    → BeginsNone y → joined fs ++ x ≡ joined gs ++ y → AreSame fs gs x y
same [] [] x y p q nx ny e = record { frames = refl; rests = e }
same [] (g ∷ gs) x y p q nx ny e = absurd (nx g (joined gs ++ y) q.0 (e ∙ append_assoc (spell g) (joined gs) y))
same (f ∷ fs) [] x y p q nx ny e = absurd (ny f (joined fs ++ x) p.0 (sym e ∙ append_assoc (spell f) (joined fs) x))
same (f ∷ fs) (g ∷ gs) x y p q nx ny e =
    let a : AreAlike f g (joined fs ++ x) (joined gs ++ y) = apart f g (joined fs ++ x) (joined gs ++ y) p.0 q.0
    (sym (append_assoc (spell f) (joined fs) x) ∙ e ∙ append_assoc (spell g) (joined gs) y) in
    let s : AreSame fs gs x y = same fs gs x y p.1 q.1 nx ny a.rests in
    record { frames = λ i. a.frames i ∷ s.frames i; rests = s.rests }

pub reading_is_one : ReadingIsOne
reading_is_one bytes fs gs e d r t =
    let s : AreSame fs gs r.rest t.rest = same fs gs r.rest t.rest r.each t.each r.last t.last
    (sym r.whole ∙ t.whole) in
    (s.frames, sym r.shows ∙ ap shown s.rests ∙ t.shows)

longest : (fs gs : List Frame) (x y : List ℕ) → AllByRecursion IsFrame fs → AllByRecursion IsFrame gs → BeginsNone x
    → joined fs ++ x ≡ joined gs ++ y → (others : List Frame) × (fs ≡ gs ++ others)
longest fs [] x y p q nx e = (fs, refl)
longest [] (g ∷ gs) x y p q nx e = absurd (nx g (joined gs ++ y) q.0 (e ∙ append_assoc (spell g) (joined gs) y))
longest (f ∷ fs) (g ∷ gs) x y p q nx e =
    let a : AreAlike f g (joined fs ++ x) (joined gs ++ y) = apart f g (joined fs ++ x) (joined gs ++ y) p.0 q.0
    (sym (append_assoc (spell f) (joined fs) x) ∙ e ∙ append_assoc (spell g) (joined gs) y) in
    let l = longest fs gs x y p.1 q.1 nx a.rests in
    (l.0, λ i. a.frames i ∷ l.1 i)

pub frames_are_longest : FramesAreLongest
frames_are_longest bytes fs gs fault more r each e = longest fs gs r.rest more r.each each r.last (sym r.whole ∙ e)

nothing : BeginsNone []
nothing f more h e = absurd cc

pub spelled_is_read : SpelledIsRead
spelled_is_read fs each = record {
  rest = [];
  whole = sym (append-nil (joined fs));
  each = each;
  last = nothing;
  shows = refl;
}
