-- What lies in blocks that grow.
use Rattle.std.proofs.Common.{◌≡◌, ◌+◌, ◌≤◌, ◌∙◌, ◌++◌, ℕ, List, [], ◌∷◌, Result, Ok, Err, OnErr, ap, arith, drop}
use Rattle.std.proofs.Common.{get_or, length, map, refl, subst, sym, take}
use Rattle.std.proofs.lemmas.List.{drop-append-le, drop_at, get_or_at, length-append, length-drop, map-append}
use Rattle.std.proofs.lemmas.List.{take-append-drop, take-append-le, take_all}
use Rattle.std.proofs.lemmas.List.Elements.{All-head, All-push, All-tail, All-weaker}
use Rattle.std.specs.List.{All}
use Rattle.tree_rising.specs.Laid.{Grows, laid}
use Rattle.tree_rising.specs.Spots.{Holds, LiesIn, bytes_at}
use Rattle.tree_rising.specs.declared.blocks.Spot.{Spot}
use Rattle.tree_rising.proofs.Growing.{get_or-laid, laid-within, longer}

-- Bytes that lie in a list lie there in a longer one.
part-kept : (start len : ℕ) (x y : List ℕ) → take (length x) y ≡ x → start + len ≤ length x
    → take len (drop start y) ≡ take len (drop start x)
part-kept start len x y is h =
    let n : ℕ = length x in
    let split : y ≡ x ++ drop n y = sym (take-append-drop n y) ∙ ap (λ front. front ++ drop n y) is in
    ap (λ bs. take len (drop start bs)) split
    ∙ ap (take len) (drop-append-le start x (drop n y) (omega (arith, h)))
    ∙ take-append-le len (drop start x) (drop n y) (omega (arith, h, length-drop start x))

bytes-kept : (old new : List (List ℕ)) (spot : Spot) → Grows old new → LiesIn old spot
    → bytes_at new spot ≡ bytes_at old spot
bytes-kept old new spot g lies = part-kept spot.start spot.len (get_or old spot.block []) (get_or new spot.block [])
    (g.kept spot.block lies.there) lies.inside

still-lies : (old new : List (List ℕ)) → Grows old new → (spot : Spot) → LiesIn old spot → LiesIn new spot
still-lies old new g spot lies = record {
  there = omega (arith, lies.there, g.more);
  inside = omega (
    arith,
    lies.inside,
    longer (get_or old spot.block []) (get_or new spot.block [])
        (g.kept spot.block lies.there),
  );
}

pub all-lie : (old new : List (List ℕ)) (spots : List Spot) → Grows old new → All (LiesIn old) spots
    → All (LiesIn new) spots
all-lie old new spots g all = All-weaker (LiesIn old) (LiesIn new) (still-lies old new g) spots all

-- Blocks that grow leave what lies in them as it was.
pub all-kept : (old new : List (List ℕ)) (spots : List Spot) → Grows old new → All (LiesIn old) spots
    → map (bytes_at new) spots ≡ map (bytes_at old) spots
all-kept old new [] g all = refl
all-kept old new (spot ∷ spots) g all =
    ap (λ x. x ∷ map (bytes_at new) spots) (bytes-kept old new spot g (All-head (LiesIn old) spot spots all))
    ∙ ap (λ xs. bytes_at old spot ∷ xs) (all-kept old new spots g (All-tail (LiesIn old) spot spots all))

-- and what is put there comes behind it
pub all-added : (old new : List (List ℕ)) (spots more : List Spot) (spot : Spot) (bytes : List ℕ) → Grows old new
    → All (LiesIn old) spots → Holds new spot bytes → more ≡ spots ++ spot ∷ []
    → map (bytes_at new) more ≡ map (bytes_at old) spots ++ bytes ∷ []
all-added old new spots more spot bytes g all here is =
    ap (map (bytes_at new)) is
    ∙ map-append (bytes_at new) spots (spot ∷ [])
    ∙ ap (λ xs. xs ++ bytes_at new spot ∷ []) (all-kept old new spots g all)
    ∙ ap (λ x. map (bytes_at old) spots ++ x ∷ []) here.is

pub all-lie-added : (old new : List (List ℕ)) (spots more : List Spot) (spot : Spot) (bytes : List ℕ)
    → Grows old new → All (LiesIn old) spots → Holds new spot bytes → more ≡ spots ++ spot ∷ []
    → All (LiesIn new) more
all-lie-added old new spots more spot bytes g all here is =
    subst (All (LiesIn new)) (sym is) (All-push (LiesIn new) spots spot (all-lie old new spots g all) here.lies)

-- Bytes behind those of the block that is filled lie there.
pub appended-lies : (bs : List (List ℕ)) (at n len : ℕ) (x bytes : List ℕ) → at ≤ length bs → n ≡ length x
    → len ≡ length bytes
    → Holds (laid bs at (x ++ bytes)) (record { block = at; start = n; len = len }) bytes
appended-lies bs at n len x bytes h begins long =
    let whole : get_or (laid bs at (x ++ bytes)) at [] ≡ x ++ bytes = get_or-laid bs at (x ++ bytes) [] h in
    record {
      lies = record {
        there = laid-within bs at (x ++ bytes) h;
        inside = omega (arith, begins, long, ap length whole, length-append x bytes);
      };
      is = ap (λ xs. take len (drop n xs)) whole ∙ ap (take len) (drop_at x bytes n (sym begins))
          ∙ take_all len bytes (omega (arith, long));
    }

-- So does a block of its own.
pub behind-lies : (bs : List (List ℕ)) (n len : ℕ) (bytes : List ℕ) → n ≡ length bs → len ≡ length bytes
    → Holds (bs ++ bytes ∷ []) (record { block = n; start = 0; len = len }) bytes
behind-lies bs n len bytes at long =
    let whole : get_or (bs ++ bytes ∷ []) n [] ≡ bytes = get_or_at bs bytes [] [] n (sym at) in
    record {
      lies = record {
        there = omega (arith, at, length-append bs (bytes ∷ []));
        inside = omega (arith, long, ap length whole);
      };
      is = ap (λ xs. take len (drop 0 xs)) whole ∙ take_all len bytes (omega (arith, long));
    }

-- what holds anyhow holds on an error
pub on_err : {A E P : Type 0} (r : Result A E) → P → OnErr r P
on_err (Ok x) p = tt
on_err (Err e) p = p
