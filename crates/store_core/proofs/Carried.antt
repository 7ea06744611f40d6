-- The blocks of an open journal are written, a run at a time.
use Rattle.std.proofs.Common.{◌≡◌, ◌<◌, ◌≤◌, ◌+◌, ◌-◌, ◌*◌, inr, ⊎_elim, ℕ, suc, List, [], ◌∷◌, ◌++◌, length, take}
use Rattle.std.proofs.Common.{drop, true, refl, sym, ◌∙◌, ap, subst, arith, length-drop, length-take}
use Rattle.std.proofs.lemmas.List.{append-nil}
use Rattle.store_model.specs.Image.{Image, put}
use Rattle.store_model.specs.Journal.{block_at, blocks_from, blocks_in, changed_document, count_in, fit, form_in}
use Rattle.store_model.specs.Journal.{is_whole, number_at, size_in}
use Rattle.store_model.specs.Patches.{Agrees, Follow, IsTold, Misses, Tell, joined}
use Rattle.store_model.proofs.Installed.{IsBlocksImage, IsWholeImage, blocks_make, whole_forms}
use Rattle.store_model.proofs.Patched.{Makes, agreed}
use Rattle.store_model.proofs.Runs.{FitsSomewhere, blocks_more, blocks_read, fit_behind, follow_covers, follow_more}
use Rattle.store_model.proofs.Runs.{joined_more, length_blocks, misses_behind, misses_front, number_part, reaches}
use Rattle.store_model.proofs.Runs.{run_agrees, tell_behind}
use Rattle.store_model.proofs.Spelled.{blocks_whole}

-- one block more behind so many
pub blocks_push : (n at : ℕ) (journal : List ℕ) → blocks_from (n + 1) at journal ≡ blocks_from n at journal
    ++ block_at (at + 516 * n) journal ∷ []
blocks_push n at journal = blocks_more n 1 at journal

pub gathered : (entries run later : List ℕ) (taken first m : ℕ) → m ≡ 512 → 516 * (taken + 1) ≤ length entries
    → Follow first (blocks_from taken 0 entries) → (block_at (516 * taken) entries).number ≡ first + taken
    → take (512 * taken) run ≡ joined (blocks_from taken 0 entries)
    → take (512 * taken + length (take m (drop (516 * taken + 4) entries))) later ≡ take (512 * taken) run
    ++ take m (drop (516 * taken + 4) entries)
    → Follow first (blocks_from (taken + 1) 0 entries)
    × (take (512 * (taken + 1)) later ≡ joined (blocks_from (taken + 1) 0 entries))
gathered entries run later taken first m is room follow number so_far step =
    let here : 0 + 516 * taken ≡ 516 * taken = omega arith in
    let next : blocks_from (taken + 1) 0 entries ≡ blocks_from taken 0 entries ++ block_at (516 * taken) entries ∷ [] =
    blocks_push taken 0 entries ∙ ap (λ (at : ℕ). blocks_from taken 0 entries ++ block_at at entries ∷ []) here in
    let long : length (take m (drop (516 * taken + 4) entries)) ≡ 512 =
    omega (
      arith,
      room,
      is,
      length-take m (drop (516 * taken + 4) entries),
      length-drop (516 * taken + 4)
          entries,
    ) in
    let bytes : take m (drop (516 * taken + 4) entries) ≡ take 512 (drop (516 * taken + 4) entries) =
    ap (λ (n : ℕ). take n (drop (516 * taken + 4) entries)) is in
    let sum : 512 * (taken + 1) ≡ 512 * taken + length (take m (drop (516 * taken + 4) entries)) =
    omega (arith, long) in (
      subst (λ bs. Follow first bs) (sym next)
          (follow_more first (blocks_from taken 0 entries) (block_at (516 * taken) entries) follow
          (number ∙ ap (λ (n : ℕ). first + n) (sym (length_blocks taken 0 entries)))),
      ap (λ (n : ℕ). take n later) sum ∙ step ∙ ap (λ (l : List ℕ). l ++ take m (drop (516 * taken + 4) entries))
          so_far ∙ ap (λ (l : List ℕ). joined (blocks_from taken 0 entries) ++ l) bytes
          ∙ sym (ap (λ bs. joined bs) next ∙ joined_more (blocks_from taken 0 entries)
          (block_at (516 * taken) entries ∷ []) ∙ ap (λ (l : List ℕ). joined (blocks_from taken 0 entries) ++ l)
          (append-nil (take 512 (drop (516 * taken + 4) entries)))),
    )

-- blocks that were read from the journal
pub read_follow : (journal : List ℕ) (n m at : ℕ) → 516 * n ≤ m → 4 ≤ m
    → Follow (number_at 0 (take m (drop at journal))) (blocks_from n 0 (take m (drop at journal)))
    → Follow (number_at at journal) (blocks_from n at journal)
read_follow journal n m at room some follow =
    let here : at + 0 ≡ at = omega arith in
    let number : number_at 0 (take m (drop at journal)) ≡ number_at at journal = number_part 0 m at journal some
    ∙ ap (λ (x : ℕ). number_at x journal) here in
    subst (λ (x : ℕ). Follow x (blocks_from n at journal)) number
    (subst (λ bs. Follow (number_at 0 (take m (drop at journal))) bs)
    (blocks_read n 0 m at journal (omega (arith, room)) ∙ ap (λ (x : ℕ). blocks_from n x journal) here) follow)

pub read_joined : (journal : List ℕ) (n m at : ℕ) → 516 * n ≤ m
    → joined (blocks_from n 0 (take m (drop at journal))) ≡ joined (blocks_from n at journal)
read_joined journal n m at room =
    let here : at + 0 ≡ at = omega arith in
    ap (λ bs. joined bs) (blocks_read n 0 m at journal (omega (arith, room))
    ∙ ap (λ (x : ℕ). blocks_from n x journal) here)

pub read_first : (journal : List ℕ) (m at : ℕ) → 4 ≤ m → number_at 0 (take m (drop at journal)) ≡ number_at at journal
read_first journal m at some = let here : at + 0 ≡ at = omega arith in number_part 0 m at journal some
    ∙ ap (λ (x : ℕ). number_at x journal) here

-- a run is told by the journal
pub run_told : (journal : List ℕ) (index n first : ℕ) → index + n ≤ count_in journal
    → Follow first (blocks_from n (13 + 516 * index) journal) → IsTold journal (512 * first) (512 * n)
run_told journal index n first room follow = inr (λ p from to misses.
    let rest : ℕ = count_in journal - (index + n) in
    let all : index + (n + rest) ≡ count_in journal = omega (arith, room) in
    let split : blocks_in journal ≡ blocks_from index 13 journal
    ++ (blocks_from n (13 + 516 * index) journal ++ blocks_from rest (13 + 516 * index + 516 * n) journal) =
    ap (λ (k : ℕ). blocks_from k 13 journal) (sym all) ∙ blocks_more index (n + rest) 13 journal
    ∙ ap (λ bs. blocks_from index 13 journal ++ bs) (blocks_more n rest (13 + 516 * index) journal) in
    let part = misses_front p (blocks_from n (13 + 516 * index) journal)
    (blocks_from rest (13 + 516 * index + 516 * n) journal)
    (misses_behind p (blocks_from index 13 journal)
    (blocks_from n (13 + 516 * index) journal ++ blocks_from rest (13 + 516 * index + 516 * n) journal)
    (subst (λ bs. Misses p bs) split misses)) in
    follow_covers first p (blocks_from n (13 + 516 * index) journal) follow from
    (let long = length_blocks n (13 + 516 * index) journal in omega (arith, to, long)) part)

-- an open journal in form 1
pub is_blocks : (image : Image) → is_whole image ≡ true → form_in image.journal ≡ 1 → IsBlocksImage image
is_blocks image whole form = ⊎_elim (λ other. let no : 0 ≡ 1 = sym other.form ∙ form in
    let none : ⊥ = omega (arith, no) in absurd none) (λ is. is) (whole_forms image whole)

pub is_image : (image : Image) → is_whole image ≡ true → form_in image.journal ≡ 0 → IsWholeImage image
is_image image whole form = ⊎_elim (λ is. is) (λ other. let no : 1 ≡ 0 = sym other.form ∙ form in
    let none : ⊥ = omega (arith, no) in absurd none) (whole_forms image whole)

pub base_makes : (image : Image) → is_whole image ≡ true → form_in image.journal ≡ 1
    → Makes (changed_document image) (size_in image.journal) (blocks_in image.journal) image.document
base_makes image whole form = blocks_make image (changed_document image) (is_blocks image whole form) refl

-- the next block begins in the area, or at its end
pub run_reached : (image : Image) (size all done : ℕ) (area : List ℕ) → is_whole image ≡ true
    → form_in image.journal ≡ 1 → all ≡ count_in image.journal → size ≡ size_in image.journal
    → done < all → Agrees (changed_document image) size (blocks_from (all - done) (13 + 516 * done) image.journal) area
    → 512 * number_at (13 + 516 * done) image.journal ≤ length area
run_reached image size all done area whole form is_all is_size some agrees =
    let J : List ℕ = image.journal in
    let X : List ℕ = changed_document image in
    let parts = is_blocks image whole form in
    let at : ℕ = 13 + 516 * done in
    let split : blocks_in J ≡ blocks_from done 13 J ++ blocks_from (all - done) at J =
    ap (λ (m : ℕ). blocks_from m 13 J) (let sum : count_in J ≡ done + (all - done) = omega (arith, is_all, some) in
    sum) ∙ blocks_more done (all - done) 13 J in
    let somewhere : FitsSomewhere size (blocks_from (all - done) at J) =
    subst (λ (m : ℕ). FitsSomewhere m (blocks_from (all - done) at J)) (sym is_size)
    (fit_behind (size_in J) 0 (length image.document) (blocks_from done 13 J) (blocks_from (all - done) at J)
    (subst (λ bs. fit (size_in J) 0 (length image.document) bs ≡ true) split parts.fits)) in
    let one : all - done ≡ suc (all - done - 1) = omega (arith, some) in
    reaches X size (block_at at J) (blocks_from (all - done - 1) (at + 516) J) area
    (subst (λ (m : ℕ). FitsSomewhere size (blocks_from m at J)) one somewhere)
    (subst (λ (m : ℕ). Agrees X size (blocks_from m at J) area) one agrees)

pub run_step : (image : Image) (size all done n number : ℕ) (area later : List ℕ) → is_whole image ≡ true
    → form_in image.journal ≡ 1 → all ≡ count_in image.journal → size ≡ size_in image.journal
    → 1 ≤ n → done + n ≤ all → number ≡ number_at (13 + 516 * done) image.journal
    → Follow number (blocks_from n (13 + 516 * done) image.journal)
    → Agrees (changed_document image) size (blocks_from (all - done) (13 + 516 * done) image.journal) area
    → later ≡ put area (512 * number) (joined (blocks_from n (13 + 516 * done) image.journal))
    → Agrees (changed_document image) size (blocks_from (all - (done + n)) (13 + 516 * (done + n)) image.journal) later
run_step image size all done n number area later whole form is_all is_size some room is_number follow agrees written =
    let J : List ℕ = image.journal in
    let X : List ℕ = changed_document image in
    let parts = is_blocks image whole form in
    let makes = base_makes image whole form in
    let at : ℕ = 13 + 516 * done in
    let k : ℕ = all - (done + n) in
    let split : blocks_in J ≡ blocks_from done 13 J ++ blocks_from (all - done) at J =
    ap (λ (m : ℕ). blocks_from m 13 J) (let sum : count_in J ≡ done + (all - done) = omega (arith, is_all, room) in
    sum) ∙ blocks_more done (all - done) 13 J in
    let tells : Tell X size (blocks_from (all - done) at J) =
    subst (λ (m : ℕ). Tell X m (blocks_from (all - done) at J)) (sym is_size)
    (tell_behind X (size_in J) (blocks_from done 13 J) (blocks_from (all - done) at J)
    (subst (λ bs. Tell X (size_in J) bs) split makes.tells)) in
    let two : all - done ≡ n + k = omega (arith, room) in
    let apart : blocks_from (all - done) at J ≡ blocks_from n at J ++ blocks_from k (at + 516 * n) J =
    ap (λ (m : ℕ). blocks_from m at J) two ∙ blocks_more n k at J in
    let reached : 512 * number ≤ length area = subst (λ (m : ℕ). 512 * m ≤ length area) (sym is_number)
    (run_reached image size all done area whole form is_all is_size (omega (arith, some, room)) agrees) in
    let bound : at + 516 * n ≤ length J = let head = parts.room in omega (arith, head, is_all, room) in
    let ends : at + 516 * n ≡ 13 + 516 * (done + n) = omega arith in
    let step = run_agrees X size number (blocks_from n at J) (blocks_from k (at + 516 * n) J) area follow
    (blocks_whole n at J bound) (subst (λ bs. Tell X size bs) apart tells)
    (subst (λ bs. Agrees X size bs area) apart agrees) reached in
    subst (λ (l : List ℕ). Agrees X size (blocks_from k (13 + 516 * (done + n)) J) l) (sym written)
    (subst (λ (m : ℕ). Agrees X size (blocks_from k m J) (put area (512 * number) (joined (blocks_from n at J))))
    ends step)

pub runs_end : (image : Image) (size all done : ℕ) (area : List ℕ) → is_whole image ≡ true
    → form_in image.journal ≡ 1 → size ≡ size_in image.journal → all ≤ done
    → Agrees (changed_document image) size (blocks_from (all - done) (13 + 516 * done) image.journal) area
    → take size area ≡ changed_document image
runs_end image size all done area whole form is_size ended agrees =
    let none : all - done ≡ 0 = omega (arith, ended) in
    let makes = base_makes image whole form in
    agreed (changed_document image) area size (makes.long ∙ sym is_size)
    (subst (λ (m : ℕ). Agrees (changed_document image) size (blocks_from m (13 + 516 * done) image.journal)
    area) none agrees)
