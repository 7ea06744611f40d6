use Rattle.std.proofs.Common.{◌≡◌, ◌⊎◌, ℕ, List, subst, sym}
use Rattle.cfb_entries.specs.Entries.{MayRefuseEntry}
use Rattle.tell_entries.specs.Ways.{IsStorageAtFault, IsWay, end_of}
use Rattle.tell_entries.proofs.looking.at_fault.Goals as goal

pub returns-then-is_there : goal.returns-then-is_there
returns-then-is_there c =
    let dir : List ℕ = c.args.directory.now in
    let e : c.in_ok-way.way.items ≡ c.args.way.now = c.in_ok-way.ensures.items in (
      subst (IsWay dir) (sym e) c.requires.way,
      subst (λ (w : List ℕ). MayRefuseEntry dir (end_of w) c.args.fault ⊎ IsStorageAtFault dir w c.args.fault)
          (sym e) (c.requires.there c.if-is_there.true),
    )
