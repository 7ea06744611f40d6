use Rattle.std.proofs.Common.{◌≡◌, ◌∙◌, ◌+◌, ◌*◌, ◌/◌, ap, arith, length, set, subst, sym}
use Rattle.cfb_bytes.specs.Bytes.{block}
use Rattle.read_packed.specs.Places.{IsPlaced, filled, placed, whole}
use Rattle.read_packed.proofs.Placed.{has_place, length_placed, pool_grown, put_elsewhere, put_len, put_placed}
use Rattle.read_packed.proofs.Placed.{put_there}
use Rattle.read_packed.proofs.places.Places.put.Goals as goal
use Rattle.read_packed.proofs.places.Places.put.Goals.{In_ok-put, In_ok-set_place}

at_is : (c : In_ok-put) → c.in-Ok.at ≡ length c.self.inside.pool
at_is c = omega (arith, c.in-Ok.ensures.1, c.len.ensures)

placed_anew : (c : In_ok-set_place) → filled (c.self.inside.len / 512 + 1) c.set_place.new.places.items
    ≡ set (filled (c.self.inside.len / 512 + 1) c.self.inside.places.items) c.args.n c.in-Ok.at
placed_anew c =
    c.in_ok-set_place.ensures.put (c.self.inside.len / 512 + 1)
    (has_place c.self.inside.len c.self.inside.pool
    (filled (c.self.inside.len / 512 + 1) c.self.inside.places.items) c.args.self.now c.args.n c.self.invariant
    c.self.view_is c.requires.inside)

pub returns-in_err-put-clause-len : goal.returns-in_err-put-clause-len
returns-in_err-put-clause-len c =
    ap (λ pool. length
    (placed c.self.inside.len pool (filled (c.self.inside.len / 512 + 1) c.self.inside.places.items)))
    c.in_err-put.ensures.kept
    ∙ ap length c.self.view_is

pub returns-in_err-set_place-clause-len : goal.returns-in_err-set_place-clause-len
returns-in_err-set_place-clause-len d =
    ap (λ xs. length (placed d.self.inside.len d.put.new.self (filled (d.self.inside.len / 512 + 1) xs)))
    d.in_err-set_place.ensures.kept
    ∙ length_placed d.self.inside.len d.put.new.self (filled (d.self.inside.len / 512 + 1) d.self.inside.places.items)
    (pool_grown d.self.inside.len d.self.inside.pool
    (filled (d.self.inside.len / 512 + 1) d.self.inside.places.items) (whole d.args.bytes.now) d.put.new.self
    d.self.invariant d.in_ok-put.ensures.added)
    ∙ sym (length_placed d.self.inside.len d.self.inside.pool
    (filled (d.self.inside.len / 512 + 1) d.self.inside.places.items) d.self.invariant)
    ∙ ap length d.self.view_is

pub invariant_of-self-2 : goal.invariant_of-self-2
invariant_of-self-2 d =
    let r = (goal.at.invariant_of-self-2 d).In_ok-put in
    let c = (goal.at.invariant_of-self-2 d).In_ok-set_place in
    subst (IsPlaced c.self.inside.len c.put.new.self) (sym (placed_anew c))
    (put_placed c.self.inside.len c.self.inside.pool
    (filled (c.self.inside.len / 512 + 1) c.self.inside.places.items) c.args.bytes.now c.put.new.self
    c.args.self.now c.args.n c.in-Ok.at
    c.self.invariant c.in_ok-put.ensures.added (at_is r) c.self.view_is c.requires.whole)

pub returns-clause-len : goal.returns-clause-len
returns-clause-len d =
    let r = (goal.at.returns-clause-len d).In_ok-put in
    let c = (goal.at.returns-clause-len d).In_ok-set_place in
    ap (λ ps. length (placed c.self.inside.len c.put.new.self ps)) (placed_anew c)
    ∙ put_len c.self.inside.len c.self.inside.pool (filled (c.self.inside.len / 512 + 1) c.self.inside.places.items)
    c.args.bytes.now c.put.new.self c.args.self.now c.args.n c.in-Ok.at
    c.self.invariant c.in_ok-put.ensures.added (at_is r) c.self.view_is c.requires.whole

pub returns-clause-here : goal.returns-clause-here
returns-clause-here d =
    let r = (goal.at.returns-clause-here d).In_ok-put in
    let c = (goal.at.returns-clause-here d).In_ok-set_place in
    ap (λ ps. block 512 (placed c.self.inside.len c.put.new.self ps) (512 * c.args.n)) (placed_anew c)
    ∙ put_there c.self.inside.len c.self.inside.pool
    (filled (c.self.inside.len / 512 + 1) c.self.inside.places.items) c.args.bytes.now c.put.new.self
    c.args.self.now c.args.n c.in-Ok.at
    c.self.invariant c.in_ok-put.ensures.added (at_is r) c.self.view_is c.requires.whole c.requires.inside

pub returns-clause-apart : goal.returns-clause-apart
returns-clause-apart d =
    let r = (goal.at.returns-clause-apart d).In_ok-put in
    let c = (goal.at.returns-clause-apart d).In_ok-set_place in
    λ m other.
    ap (λ ps. block 512 (placed c.self.inside.len c.put.new.self ps) (512 * m)) (placed_anew c)
    ∙ put_elsewhere c.self.inside.len c.self.inside.pool
    (filled (c.self.inside.len / 512 + 1) c.self.inside.places.items) c.args.bytes.now c.put.new.self
    c.args.self.now c.args.n c.in-Ok.at
    c.self.invariant c.in_ok-put.ensures.added (at_is r) c.self.view_is c.requires.whole m other
