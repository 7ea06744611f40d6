use Rattle.std.proofs.Common.{rules, arith, ◌≡◌, ◌+◌, ◌-◌, [], ◌∷◌, ◌++◌, ◌∙◌, List, ℕ, ap, length, drop, refl, take}
use Rattle.std.proofs.Common.{true}
use Rattle.std.proofs.lemmas.List.{length-append, take_at}
use Rattle.message_bytes.proofs.Adding.{patched}
use Rattle.message_model.specs.Frames.{fits}
use Rattle.message_model.specs.Spelling.{body, kind}
use Rattle.message_bytes.proofs.encode.encode_into.Goals as goal

pub returns-in-Ok : goal.returns-in-Ok
returns-in-Ok c =
    let may : fits c.args.frame.now ≡ true = search rules in
    let here : c.len-at.result ≡ length c.args.out.now.items = search rules in
    let head : List ℕ = 79 ∷ 76 ∷ 67 ∷ 77 ∷ 2 ∷ kind c.args.frame.now ∷ 0 ∷ 0 ∷ 0 ∷ 0 ∷ [] in
    let begun : List ℕ = c.args.out.now.items ++ head in
    let whole : c.deref_mut.result.now ≡ begun ++ body c.args.frame.now = c.deref_mut.ensures.value
    ∙ c.in-Ok.ensures.added.added in
    let many : length c.deref_mut.result.now ≡ length begun + length (body c.args.frame.now) =
    ap length whole ∙ length-append begun (body c.args.frame.now) in
    let before : length begun ≡ length c.args.out.now.items + 10 = length-append c.args.out.now.items head in
    let same : c.len.result - c.len-at.result - 10 ≡ length (body c.args.frame.now) =
    omega (arith, here, many, before, c.deref_mut.ensures.len, c.len.ensures) in (
      may,
      take_at c.set_length.new.out (drop (length c.set_length.new.out) c.push_frame.new.out.items)
          c.push_frame.new.out.len (c.set_length.auto.out ∙ c.deref_mut.ensures.len)
          ∙ patched c.args.out.now.items begun c.deref_mut.result.now c.set_length.new.out (body c.args.frame.now)
          (kind c.args.frame.now) c.len-at.result _ here refl whole c.set_length.ensures same,
    )

pub returns-in-Err : goal.returns-in-Err
returns-in-Err c =
    let may : fits c.args.frame.now ≡ true = search rules in
    let here : c.len-at.result ≡ length c.args.out.now.items = search rules in (
      may,
      c.truncate.ensures.items ∙ ap (λ n. take n c.push_frame.new.out.items) here
          ∙ c.push_frame.ensures.begins.same,
    )
