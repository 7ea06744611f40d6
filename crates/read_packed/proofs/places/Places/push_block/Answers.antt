use Rattle.std.proofs.Common.{◌≡◌, ◌≤◌, ◌+◌, ◌-◌, ◌*◌, ◌/◌, ◌++◌, ◌∙◌, ℕ, List, ap, arith, drop, get_or, length}
use Rattle.std.proofs.Common.{length-drop, min, sym, take}
use Rattle.std.proofs.lemmas.List.{length-take}
use Rattle.read_packed.specs.Places.{filled}
use Rattle.read_packed.proofs.Placed.{get_filled, part_at, part_fits, pushed}
use Rattle.read_packed.proofs.places.Places.push_block.Goals as goal

pub push_bytes-requires-clause-there : goal.push_bytes-requires-clause-there
push_bytes-requires-clause-there c =
    let places : List ℕ = filled (c.self.inside.len / 512 + 1) c.self.inside.places.items in
    let at_is : c.place_at-at.result ≡ get_or places c.args.n 0 =
    c.place_at-at.ensures.there ∙ ap (λ xs. get_or xs c.args.n 0) c.deref.ensures.value
    ∙ sym (get_filled (c.self.inside.len / 512 + 1) c.self.inside.places.items c.args.n) in
    let size_is : c.min-size.result ≡ min (c.self.inside.len - 512 * c.args.n) 512 = c.min-size.ensures
    ∙ ap (λ m. min m 512) c.saturating_sub.ensures in
    part_fits c.self.inside.len c.self.inside.pool places c.args.n c.place_at-at.result c.min-size.result
    c.self.invariant at_is size_is

pub returns : goal.returns
returns c =
    let places : List ℕ = filled (c.self.inside.len / 512 + 1) c.self.inside.places.items in
    let at : ℕ = c.place_at-at.result in
    let size : ℕ = c.min-size.result in
    let part : List ℕ = take size (drop at c.self.inside.pool) in
    let at_is : at ≡ get_or places c.args.n 0 =
    c.place_at-at.ensures.there ∙ ap (λ xs. get_or xs c.args.n 0) c.deref.ensures.value
    ∙ sym (get_filled (c.self.inside.len / 512 + 1) c.self.inside.places.items c.args.n) in
    let size_is : size ≡ min (c.self.inside.len - 512 * c.args.n) 512 = c.min-size.ensures
    ∙ ap (λ m. min m 512) c.saturating_sub.ensures in
    let fits : at + size ≤ length c.self.inside.pool = part_fits c.self.inside.len c.self.inside.pool places
    c.args.n at size c.self.invariant at_is size_is in
    let long : length part ≡ size =
    omega (arith, length-take size (drop at c.self.inside.pool), length-drop at c.self.inside.pool, fits) in
    pushed c.args.out.now.items c.push_bytes.new.out.items c.resize.new.self.items part size
    (c.len-end.result + 512) c.push_bytes.new.out.len
    c.in_ok-push_bytes.ensures long (omega (arith, size_is)) (omega (arith, c.len-end.ensures, c.args.out.now.ok.0))
    c.push_bytes.new.out.ok.0 c.in_ok-resize.ensures.items
    ∙ ap (λ xs. c.args.out.now.items ++ xs)
    (part_at c.self.inside.len c.self.inside.pool places c.args.self.now c.args.n at size c.self.invariant
    c.self.view_is at_is size_is)
