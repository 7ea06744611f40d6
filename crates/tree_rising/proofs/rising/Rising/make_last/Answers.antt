use Rattle.std.proofs.Common.{[], ap}
use Rattle.std.proofs.Math.Logic.{∥∥₁_map}
use Rattle.tree_storage.specs.Change.{Seen, map_ok}
use Rattle.tree_storage.specs.Kept.{tree_of}
use Rattle.cfb_entries.specs.Tree.{tree}
use Rattle.tree_storage.specs.View.{children}
use Rattle.tree_rising.specs.Row.{entries_of}
use Rattle.tree_rising.proofs.Ascending.{left-ascending, left-made, left-whole}
use Rattle.tree_rising.proofs.rising.Rising.make_last.Goals as goal

pub invariant_of-self : goal.invariant_of-self
invariant_of-self c =
    let s = c.args.self.now in
    let h = c.is_behind.ensures.behind.0 c.if-not-is_behind.false in
    record {
      ascending = left-ascending s.class s.state s.streams c.push.new.self c.args.name.now c.copy.result
          c.args.bytes.now c.copy.ensures h c.push.result c.push.ensures.added c.push.ensures.kept s.ascending;
      whole = ∥∥₁_map s.whole (left-whole s.class s.state s.streams c.push.new.self c.args.name.now c.copy.result
          c.args.bytes.now c.copy.ensures h c.push.result c.push.ensures.added c.push.ensures.kept
          c.is_behind.ensures.valid);
    }

pub returns : goal.returns
returns c =
    let s = c.args.self.now in
    let h = c.is_behind.ensures.behind.0 c.if-not-is_behind.false in (
      h,
      ap (map_ok (λ (x : Seen). record {
        now = tree_of x (tree s.class s.state (children (entries_of s.streams)));
        saved = [];
      }))
          (left-made s.class s.state s.streams c.push.new.self c.args.name.now c.copy.result c.args.bytes.now
          c.copy.ensures h c.in_ok-push.ensures.added),
    )
