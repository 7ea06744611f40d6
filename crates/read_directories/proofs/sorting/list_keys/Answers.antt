use Rattle.std.proofs.Common.{◌≡◌, ◌+◌, ℕ, List, [], ◌∷◌, ◌++◌, length, take, get_or, sym, ◌∙◌, ap, arith}
use Rattle.std.proofs.lemmas.List.{length-take-le, map-append, take_more}
use Rattle.cfb_faults.specs.Faults.{key_at}
use Rattle.read_directories.specs.Sorting.{keyed}
use Rattle.read_directories.proofs.SortedNames.{as_keyed, key_and_id, name_key}
use Rattle.read_directories.proofs.sorting.list_keys.Goals as goal

pub push_within-requires : goal.push_within-requires
push_within-requires c =
    let i : ℕ = c.loop-id.id-index in
    let dir : List ℕ = c.args.entries.now.directory in
    omega (
      arith,
      ap length c.loop-id.invariant.0,
      as_keyed dir (take i c.args.ids.now),
      length-take-le i
          c.args.ids.now (omega (arith, c.loop-id-test.true)),
      c.loop-id.invariant.1,
      c.loop-id-test.true,
    )

pub loop-id-preserved : goal.loop-id-preserved
loop-id-preserved c =
    let i : ℕ = c.loop-id.id-index in
    let ids : List ℕ = c.args.ids.now in
    let dir : List ℕ = c.args.entries.now.directory in
    let id : ℕ = get_or ids i 0 in
    let is : c.key.result ≡ key_at dir id =
    c.key.ensures ∙ name_key dir id c.in-Ok.name (c.requires.below_root i 0 c.loop-id-test.true) c.in-Ok.ensures.read in
    let more : take (i + 1) ids ≡ take i ids ++ id ∷ [] = take_more ids i 0 c.loop-id-test.true in (
      c.push_within.ensures.items
          ∙ (λ t. c.loop-id.invariant.0 t ++ (is t, id) ∷ [])
          ∙ sym (map-append (key_and_id dir) (take i ids) (id ∷ []))
          ∙ ap (keyed dir) (sym more),
      omega (arith, c.loop-id.invariant.1, c.push_within.ensures.room),
    )
