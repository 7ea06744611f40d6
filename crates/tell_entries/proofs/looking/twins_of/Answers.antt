use Rattle.std.proofs.Common.{◌≡◌, ℕ, List, refl, subst, sym}
use Rattle.std.specs.List.{Contains}
use Rattle.cfb_faults.specs.Faults.{IsChild, key_at}
use Rattle.tell_entries.specs.Ways.{IsWay, end_of}
use Rattle.tell_entries.proofs.looking.twins_of.Goals as goal

pub returns-then-are_twins_of : goal.returns-then-are_twins_of
returns-then-are_twins_of c =
    let dir : List ℕ = c.args.directory.now in
    let way : List ℕ = c.args.way.now in
    let e : c.in_ok-way.way.items ≡ way = c.in_ok-way.ensures.items in
    let m : ℕ = c.in-Some.m in
    let n : ℕ = c.in-Some.n in
    let q = c.are_twins_of.ensures c.if-are_twins_of.true in
    let child : (k : ℕ) → Contains c.args.children.now k → IsChild dir (end_of c.in_ok-way.way.items) k =
    λ k there. subst (λ (w : List ℕ). IsChild dir (end_of w) k) (sym e)
    (subst (IsChild dir (end_of way)) there.2 (c.requires.children there.0 k there.1)) in (
      refl,
      subst (IsWay dir) (sym e) c.requires.way,
      child m q.0,
      child n q.1,
      q.2,
      subst (λ (d : List ℕ). key_at d m ≡ key_at d n) c.requires.same q.3,
    )
