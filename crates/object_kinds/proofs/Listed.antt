-- Shapes that are read from lines.
use Rattle.std.proofs.Common.{◌≡◌, ◌+◌, ◌≤◌, ◌<◌, ◌&&◌, ℕ, suc, Bool, true, false, cond, List, [], ◌∷◌, length, refl}
use Rattle.std.proofs.Common.{ap, sym, subst, ◌∙◌, arith, nat_le}
use Rattle.std.specs.Prelude.{Option, Some, None, Result, Ok, Err, IsSome, is_ok, option_map, option_and_then}
use Rattle.std.specs.List.{join_with_byte, list_all}
use Rattle.std.proofs.lemmas.List.Splits.{join_with_byte-slice_split}
use Rattle.std.proofs.lemmas.Bool.Decides.{nat_tests}
use Rattle.object_core.specs.Content.{Shape, Content, drawing, is_shape}
use Rattle.object_core.specs.Kinds.{Drawing}
use Rattle.object_core.specs.Objects.{load_told}
use Rattle.object_core.specs.Reading.{content_of, each, lines_of, shape_in, whole_lines}
use Rattle.text_words.specs.Words.{pieces, words}
use Rattle.object_core.specs.declared.fault.EmbedFault.{EmbedFault}
use Rattle.object_core.specs.declared.fault.EmbedFault.TheVariants.{BadContent}
use Rattle.text_words.proofs.Cuts.{pieces-known}
use Rattle.object_kinds.specs.Lines.{in_range, shape_on, shapes_on}

-- whether shapes behind so many others are there, and no more than a drawing has
abbrev pub are_few : ℕ → Option (List Shape) → Bool
are_few n None = false
are_few n (Some ss) = nat_le (n + length ss) 256

pub are_few-next : (n : ℕ) (s : Shape) (found : Option (List Shape))
    → are_few n (option_map (λ more. s ∷ more) found) ≡ are_few (n + 1) found
are_few-next n s None = refl
are_few-next n s (Some ss) = ap (λ m. nat_le m 256) (let e : n + suc (length ss) ≡ n + 1 + length ss = omega arith in e)

pub are_few-full : (s : Shape) (found : Option (List Shape)) → are_few 256 (option_map (λ more. s ∷ more) found) ≡ false
are_few-full s None = refl
are_few-full s (Some ss) = grind (arith, nat_tests)

pub are_few-none : (n : ℕ) → n ≤ 256 → are_few n (Some []) ≡ true
are_few-none n h = grind (arith, nat_tests)

whole_lines-more : (l m : List ℕ) (more : List (List ℕ)) → whole_lines (l ∷ m ∷ more)
    ≡ option_map (λ ls. l ∷ ls) (whole_lines (m ∷ more))
whole_lines-more [] m more = refl
whole_lines-more (x ∷ l) m more = refl

lines_of-cut : (bytes l rest : List ℕ) → pieces 10 bytes ≡ l ∷ pieces 10 rest
    → lines_of bytes ≡ option_map (λ ls. l ∷ ls) (lines_of rest)
lines_of-cut bytes l rest cut =
    ap whole_lines cut
    ∙ pieces-known 10 rest (λ ls. whole_lines (l ∷ ls)) (option_map (λ ls. l ∷ ls) (lines_of rest))
    (λ p ps e. whole_lines-more l p ps ∙ ap (λ found. option_map (λ ls. l ∷ ls) (whole_lines found)) (sym e))

no_more : (o : Option Shape) → None ≡ option_and_then (λ s. option_map (λ more. s ∷ more) None) o
no_more None = refl
no_more (Some s) = refl

each_line : (f : List ℕ → Option Shape) (l : List ℕ) (found : Option (List (List ℕ)))
    → option_and_then (each f) (option_map (λ ls. l ∷ ls) found)
    ≡ option_and_then (λ s. option_map (λ more. s ∷ more) (option_and_then (each f) found)) (f l)
each_line f l (Some ls) = refl
each_line f l None = no_more (f l)

-- the shapes of bytes of which the first line was cut off
pub shapes_on-cut : (bytes l rest : List ℕ) → pieces 10 bytes ≡ l ∷ pieces 10 rest
    → shapes_on bytes ≡ option_and_then (λ s. option_map (λ more. s ∷ more) (shapes_on rest)) (shape_on l)
shapes_on-cut bytes l rest cut = ap (option_and_then (each shape_on)) (lines_of-cut bytes l rest cut)
    ∙ each_line shape_on l (lines_of rest)

last_line : (l : List ℕ) → 0 < length l → whole_lines (l ∷ []) ≡ None
last_line [] h = absurd (omega arith)
last_line (x ∷ l) h = refl

-- bytes that have something, but no line feed
pub shapes_on-unended : (bytes l : List ℕ) → 0 < length bytes → pieces 10 bytes ≡ l ∷ [] → shapes_on bytes ≡ None
shapes_on-unended bytes l some cut =
    let whole : l ≡ bytes = sym (ap (join_with_byte 10) cut) ∙ join_with_byte-slice_split 10 bytes in
    let P : List ℕ → Type 0 = λ t. 0 < length t in
    ap (option_and_then (each shape_on)) (ap whole_lines cut ∙ last_line l (subst P (sym whole) some))

-- the first line spells a shape in range, or none
pub shapes_on-first : (bytes l rest : List ℕ) (o : Option Shape) → pieces 10 bytes ≡ l ∷ pieces 10 rest → o ≡ shape_on l
    → shapes_on bytes ≡ option_and_then (λ s. option_map (λ more. s ∷ more) (shapes_on rest)) o
shapes_on-first bytes l rest o cut is =
    shapes_on-cut bytes l rest cut ∙ ap (option_and_then (λ s. option_map (λ more. s ∷ more) (shapes_on rest))) (sym is)

-- all shapes are in range
abbrev all_in_range : Option (List Shape) → Option (List Shape)
all_in_range None = None
all_in_range (Some ss) = cond (list_all is_shape ss) (Some ss) None

rest_in_range : (all first : Bool) (s : Shape) (ss : List Shape) → first ≡ true
    → option_map (λ more. s ∷ more) (cond all (Some ss) None) ≡ cond (first && all) (Some (s ∷ ss)) None
rest_in_range true first s ss e = ap (λ b. cond {A = Option (List Shape)} (b && true) (Some (s ∷ ss)) None) (sym e)
rest_in_range false first s ss e = ap (λ b. cond {A = Option (List Shape)} (b && false) (Some (s ∷ ss)) None) (sym e)

first_in_range : (b : Bool) (s : Shape) (found : Option (List Shape)) → is_shape s ≡ b
    → option_and_then (λ a. option_map (λ more. a ∷ more) (all_in_range found)) (cond b (Some s) None)
    ≡ all_in_range (option_map (λ more. s ∷ more) found)
first_in_range true s None e = refl
first_in_range false s None e = refl
first_in_range true s (Some ss) e = rest_in_range (list_all is_shape ss) (is_shape s) s ss e
first_in_range false s (Some ss) e =
    ap (λ b. cond {A = Option (List Shape)} (b && list_all is_shape ss) (Some (s ∷ ss)) None) (sym e)

line_in_range : (o : Option Shape) (found : Option (List Shape))
    → option_and_then (λ a. option_map (λ more. a ∷ more) (all_in_range found)) (in_range o)
    ≡ all_in_range (option_and_then (λ a. option_map (λ more. a ∷ more) found) o)
line_in_range None found = refl
line_in_range (Some s) found = first_in_range (is_shape s) s found refl

-- each line alone is in range
each_in_range : (ls : List (List ℕ)) → each shape_on ls ≡ all_in_range (each (λ l. shape_in (words l)) ls)
each_in_range [] = refl
each_in_range (l ∷ ls) =
    ap (λ found. option_and_then (λ a. option_map (λ more. a ∷ more) found) (shape_on l)) (each_in_range ls)
    ∙ line_in_range (shape_in (words l)) (each (λ m. shape_in (words m)) ls)

-- the content that shapes in range are
abbrev pub made : Option (List Shape) → Result Content EmbedFault
made None = Err BadContent
made (Some ss) = cond (nat_le (length ss) 256) (Ok (drawing ss)) (Err BadContent)

and_true : (few : Bool) (ss : List Shape)
    → cond {A = Result Content EmbedFault} (few && true) (Ok (drawing ss)) (Err BadContent)
    ≡ cond few (Ok (drawing ss)) (Err BadContent)
and_true true ss = refl
and_true false ss = refl

both_tested : (few all : Bool) (ss : List Shape) → few ≡ nat_le (length ss) 256
    → cond {A = Result Content EmbedFault} (few && all) (Ok (drawing ss)) (Err BadContent)
    ≡ made (cond all (Some ss) None)
both_tested few true ss e = and_true few ss
    ∙ ap (λ b. cond {A = Result Content EmbedFault} b (Ok (drawing ss)) (Err BadContent)) e
both_tested true false ss e = refl
both_tested false false ss e = refl

shapes_made : (found : Option (List Shape)) → load_told (option_map drawing found) ≡ made (all_in_range found)
shapes_made None = refl
shapes_made (Some ss) = both_tested (nat_le (length ss) 256) (list_all is_shape ss) ss refl

lines_made : (found : Option (List (List ℕ)))
    → load_told (option_and_then (λ ls. option_map drawing (each (λ l. shape_in (words l)) ls)) found)
    ≡ made (option_and_then (each shape_on) found)
lines_made None = refl
lines_made (Some ls) = shapes_made (each (λ l. shape_in (words l)) ls) ∙ ap made (sym (each_in_range ls))

-- what bytes are loaded as is what the shapes on their lines make
pub loaded : (bytes : List ℕ) → load_told (content_of Drawing bytes) ≡ made (shapes_on bytes)
loaded bytes = lines_made (lines_of bytes)

made-ok : (few : Bool) (c : Content) → is_ok (cond {A = Result Content EmbedFault} few (Ok c) (Err BadContent)) ≡ few
made-ok true c = refl
made-ok false c = refl

few_made : (found : Option (List Shape)) → are_few 0 found ≡ is_ok (made found)
few_made None = refl
few_made (Some ss) = ap (λ n. nat_le n 256) (let e : 0 + length ss ≡ length ss = omega arith in e)
    ∙ sym (made-ok (nat_le (length ss) 256) (drawing ss))

-- whether bytes are loaded
pub is_loaded : (bytes : List ℕ) → are_few 0 (shapes_on bytes) ≡ is_ok (load_told (content_of Drawing bytes))
is_loaded bytes = few_made (shapes_on bytes) ∙ ap is_ok (sym (loaded bytes))

few_some : (found : Option (List Shape)) → is_ok (made found) ≡ true → IsSome found
few_some None h = cc
few_some (Some ss) h = refl

-- what is loaded has shapes on its lines
pub loaded_some : (bytes : List ℕ) → is_ok (load_told (content_of Drawing bytes)) ≡ true → IsSome (shapes_on bytes)
loaded_some bytes h = few_some (shapes_on bytes) (ap is_ok (sym (loaded bytes)) ∙ h)

ok_made : (few : Bool) (c : Content) → is_ok (cond {A = Result Content EmbedFault} few (Ok c) (Err BadContent))
    ≡ true → cond {A = Result Content EmbedFault} few (Ok c) (Err BadContent) ≡ Ok c
ok_made true c h = refl
ok_made false c h = cc

-- and is those
pub loaded_as : (bytes : List ℕ) (ss : List Shape) → is_ok (load_told (content_of Drawing bytes)) ≡ true
    → shapes_on bytes ≡ Some ss
    → load_told (content_of Drawing bytes) ≡ Ok (drawing ss)
loaded_as bytes ss h is =
    let was : load_told (content_of Drawing bytes) ≡ made (Some ss) = loaded bytes ∙ ap made is in
    was ∙ ok_made (nat_le (length ss) 256) (drawing ss) (ap is_ok (sym was) ∙ h)

pub shapes_on-none : (bytes : List ℕ) → length bytes ≡ 0 → shapes_on bytes ≡ Some []
shapes_on-none [] h = refl
shapes_on-none (x ∷ bytes) h = absurd (omega arith)
