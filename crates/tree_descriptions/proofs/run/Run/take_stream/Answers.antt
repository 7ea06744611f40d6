use Rattle.std.proofs.Common.{◌≡◌, List, ℕ, Ok, arith, subst, sym}
use Rattle.tree_storage.specs.Kept.{Kept}
use Rattle.tree_descriptions.specs.Description.{stream_made}
use Rattle.tree_descriptions.specs.Run.{IsRun}
use Rattle.tree_descriptions.specs.declared.run.Run.{Run}
use Rattle.tree_descriptions.proofs.Runs.{one, put-behind}
use Rattle.tree_descriptions.proofs.run.Run.take_stream.Goals as goal

pub returns : goal.returns
returns c = λ k run.
    let self = c.args.self.now in
    let name = c.name-item.result in
    let left : Run = record { tree = c.make_last_whole.new.self; spent = c.in-Some.spent; buffer = self.buffer } in
    subst (λ (path : List (List ℕ)). (next : Kept) × (stream_made c.args.bytes k path ≡ Ok next) × IsRun left next)
    (sym (one c.args.path.now name c.name-item.is c.in-len1.len_at_least c.in-len1.len_below))
    (put-behind self left k name c.args.bytes run (rw c.if-not-made.false at c.in-Ok.ensures).1
    (omega (arith, c.in-Some.ensures.0, c.len.ensures)) c.in-Some.ensures.1)
