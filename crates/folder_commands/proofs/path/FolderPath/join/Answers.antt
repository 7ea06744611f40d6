use Rattle.folder_commands.proofs.Components.{joined_here}
use Rattle.folder_commands.proofs.path.FolderPath.join.Goals as goal

pub invariant_of-result : goal.invariant_of-result
invariant_of-result c =
    joined_here c.self.inside.bytes.items c.deref.result.now c.in_ok-bytes.bytes.items
    c.push_component.new.text.items c.args.name.now
    c.deref.ensures.value c.in_ok-bytes.ensures c.in_ok-push_component.ensures c.self.invariant c.hold.ensures
