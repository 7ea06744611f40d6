-- Streams that are asked for.
use Rattle.std.proofs.Common.{◌≡◌, ◌⊎◌, ◌++◌, ℕ, Bool, List, Option, Some, None, Ok, Result, [], ◌∷◌, ◌∙◌, ap, arith}
use Rattle.std.proofs.Common.{cond, inl, inr, is_some, nat_eq, sym, true, false, refl, rules}
use Rattle.std.specs.Prelude.{IsSome, codes}
use Rattle.cfb_names.specs.declared.fault.DirFault.{DirFault}
use Rattle.text_spelling.specs.Paths.{path_read}
use Rattle.std.specs.List.{onto_first}
use Rattle.text_words.specs.Words.{words}
use Rattle.text_spelling.specs.Words.{content_read, hex_digit, hex_read, onto, pair_value}
use Rattle.tree_descriptions.specs.Commands.{line_read, stream_of, stream_read}

-- none, where the path is spelled wrongly, or where the bytes are
pub no_path : (path : Option (Result (List (List ℕ)) DirFault)) (bytes : Option (List ℕ)) → false ≡ is_some path
    → None ≡ stream_of path bytes
no_path None bytes a = refl
no_path (Some path) bytes a = absurd (search rules)

pub no_bytes : (path : Option (Result (List (List ℕ)) DirFault)) (bytes : Option (List ℕ)) → false ≡ is_some bytes
    → None ≡ stream_of path bytes
no_bytes None bytes a = refl
no_bytes (Some path) None a = refl
no_bytes (Some path) (Some bytes) a = absurd (search rules)

-- a stream of a path and of bytes that are spelled
pub stream_within : (path : Option (Result (List (List ℕ)) DirFault)) (bytes : Option (List ℕ))
    → true ≡ is_some path → true ≡ is_some bytes → IsSome (stream_of path bytes)
stream_within (Some path) (Some bytes) a b = refl
stream_within (Some path) None a b = absurd (search rules)
stream_within None bytes a b = absurd (search rules)

-- whether a text has a space
abbrev has_space : List ℕ → Bool
has_space [] = false
has_space (c ∷ cs) = cond (nat_eq c 32) true (has_space cs)

equal : (a b : ℕ) → nat_eq a b ≡ true → a ≡ b
equal a b h = grind (arith, h)

no-low : (high : Option ℕ) → pair_value high None ≡ None
no-low None = refl
no-low (Some n) = refl

onto-none : (byte : Option ℕ) → onto byte None ≡ None
onto-none None = refl
onto-none (Some n) = refl

-- with a space it spells no bytes
no-hex : (bs : List ℕ) → has_space bs ≡ true → hex_read bs ≡ None
no-hex [] h = absurd (search rules)
no-hex (a ∷ []) h = refl
no-hex (a ∷ b ∷ cs) h = elim (nat_eq a 32) as (λ t. nat_eq a 32 ≡ t → cond t true (has_space (b ∷ cs)) ≡ true
    → hex_read (a ∷ b ∷ cs) ≡ None) [
      | true ↦ λ e g. ap (λ x. onto (pair_value (hex_digit x) (hex_digit b)) (hex_read cs)) (equal a 32 e)
      | false ↦ λ e g. elim (nat_eq b 32) as (λ t. nat_eq b 32 ≡ t → cond t true (has_space cs) ≡ true
          → hex_read (a ∷ b ∷ cs) ≡ None) [
            | true ↦ λ f i. ap (λ x. onto (pair_value (hex_digit a) (hex_digit x)) (hex_read cs)) (equal b 32 f)
                ∙ ap (λ x. onto x (hex_read cs)) (no-low (hex_digit a))
            | false ↦ λ f i. ap (onto (pair_value (hex_digit a) (hex_digit b))) (no-hex cs i)
                ∙ onto-none (pair_value (hex_digit a) (hex_digit b))
          ] refl g
    ] refl h

no-content : (bs : List ℕ) → has_space bs ≡ true → content_read bs ≡ None
no-content [] h = absurd (search rules)
no-content (c ∷ []) h = elim (nat_eq c 32) as (λ t. nat_eq c 32 ≡ t → cond t true false ≡ true
    → content_read (c ∷ []) ≡ None) [
      | true ↦ λ e g. ap (λ x. cond (nat_eq x 45) (Some []) None) (equal c 32 e)
      | false ↦ λ e g. absurd (search rules)
    ] refl h
no-content (c ∷ d ∷ ds) h = no-hex (c ∷ d ∷ ds) h

-- a text is one word, or it has a space and is more
abbrev AreMore : List ℕ → List (List ℕ) → Type 0
AreMore bs parts = (has_space bs ≡ true) × (p : List ℕ) × (q : List ℕ) × (ps : List (List ℕ)) × (parts ≡ p ∷ q ∷ ps)

some-piece : (bs : List ℕ) → (p : List ℕ) × (ps : List (List ℕ)) × (words bs ≡ p ∷ ps)
some-piece [] = ([], [], refl)
some-piece (x ∷ xs) = elim (nat_eq x 32) as (λ t. (p : List ℕ) × (ps : List (List ℕ))
    × (cond t ([] ∷ words xs) (onto_first x (words xs)) ≡ p ∷ ps)) [
      | true ↦ ([], words xs, refl)
      | false ↦ let more = some-piece xs in (x ∷ more.0, more.1, ap (onto_first x) more.2)
    ]

one-or-more : (bs : List ℕ) → (words bs ≡ bs ∷ []) ⊎ AreMore bs (words bs)
one-or-more [] = inl refl
one-or-more (x ∷ xs) =
    elim (nat_eq x 32) as (λ t. (cond t ([] ∷ words xs) (onto_first x (words xs)) ≡ (x ∷ xs) ∷ [])
    ⊎ ((cond t true (has_space xs) ≡ true) × (p : List ℕ) × (q : List ℕ) × (ps : List (List ℕ))
    × (cond t ([] ∷ words xs) (onto_first x (words xs)) ≡ p ∷ q ∷ ps))) [
      | true ↦ let more = some-piece xs in inr (refl, [], more.0, more.1, ap (λ ws. [] ∷ ws) more.2)
      | false ↦ elim (one-or-more xs) [
        | inl is ↦ inl (ap (onto_first x) is)
        | inr more ↦ inr (more.0, x ∷ more.1, more.2, more.3, ap (onto_first x) more.4)
      ]
    ]

no-stream : (path : Option (Result (List (List ℕ)) DirFault)) (bytes : Option (List ℕ)) → bytes ≡ None
    → stream_of path bytes ≡ None
no-stream path bytes is = ap (stream_of path) is ∙ without path where
  without : (p : Option (Result (List (List ℕ)) DirFault)) → stream_of p None ≡ None
  without None = refl
  without (Some names) = refl

-- what a path and the text behind it ask for
uncut : (path bytes : List ℕ) → stream_read (path ∷ words bytes) ≡ stream_of (path_read path) (content_read bytes)
uncut path bytes = elim (one-or-more bytes) [
  | inl is ↦ ap (λ ws. stream_read (path ∷ ws)) is
  | inr more ↦ ap (λ ws. stream_read (path ∷ ws)) more.4
      ∙ sym (no-stream (path_read path) (content_read bytes) (no-content bytes more.0))
]

pub asked : (rest path bytes : List ℕ) (behind : List (List ℕ)) → words rest ≡ path ∷ behind → behind ≡ words bytes
    → stream_of (path_read path) (content_read bytes) ≡ stream_read (words rest)
asked rest path bytes behind is are = sym (ap stream_read (is ∙ ap (λ ws. path ∷ ws) are) ∙ uncut path bytes)

-- the stream that a line of a plain name asks for
pub told : (line rest name behind : List ℕ) → line ≡ codes "stream " ++ rest → words rest ≡ name ∷ words behind
    → path_read name ≡ Some (Ok (name ∷ [])) → line_read line ≡ stream_of (Some (Ok (name ∷ []))) (content_read behind)
told line rest name behind is cut read =
    ap line_read is
    ∙ ap stream_read cut
    ∙ uncut name behind
    ∙ ap (λ p. stream_of p (content_read behind)) read
