-- Run: an activation begins.
use Rattle.std.proofs.Common.{◌≡◌, ℕ, ◌+◌, true, List, [], ◌∷◌, Some, refl, sym, ap, ◌∙◌, subst}
use Rattle.message_values.specs.Found.{find, put, nth}
use Rattle.message_values.specs.declared.operation.Operation.{Operation}
use Rattle.tree_streams.specs.declared.streams.NamedStream.{NamedStream}
use Rattle.container_model.specs.declared.record.Object.{Object}
use Rattle.container_model.specs.Record.{Record, is_object, is_alive}
use Rattle.container_model.specs.Commands.{run, run_made, first_operation, begun_link}
use Rattle.container_queues.specs.Steady.{Steady}
use Rattle.container_steady.specs.Taken.{IsReadyAt, IsRun}
use Rattle.world_model.specs.declared.life.Life.{Life}
use Rattle.world_model.specs.Safe.{links_of}
use Rattle.world_facts.specs.Words.{Lives, sayings_of}
use Rattle.world_facts.specs.Shapes.{IsQuiet, Begins}
use Rattle.world_steps.specs.Steps.{IsBegun}
use Rattle.world_steps.proofs.Objects.{found_number, link_was, put_here, put_there}

first_quiet : (o : Object) (ss : List NamedStream) → IsQuiet (first_operation o ss)
first_quiet o [] = λ k storage e. cc
first_quiet o (s ∷ ss) = λ k storage e. cc

pub run_begins : (r : Record) (lives : Lives) (owners : List ℕ) (n inc : ℕ) (at : IsReadyAt r n)
    → IsRun r at.object inc → Steady r
    → nth owners (r.last_act + 1) ≡ Some n → (is_alive r inc ≡ true → (life : Life) × (lives inc ≡ Some life))
    → IsBegun r lives owners n (run_made r at.object inc)
run_begins r lives owners n inc at run s ow ho =
    let x : Object = at.object in
    let op : Operation = first_operation x x.work.streams in
    let new = begun_link r.session inc (r.last_act + 1) op in
    let a : Object = record x { link = Some new } in
    let test = is_object x.number in
    let here : find test r.objects ≡ Some x = at.own in
    let xn : x.number ≡ n = found_number r.objects n x at.found in
    let made : Begins (links_of r.objects) (links_of (put test a r.objects)) lives owners r.last_act x.number
    (sayings_of (run_made r x inc).answer.actions) = record {
      session = r.session;
      inc = inc;
      op = op;
      was = link_was r.objects test x a s.order here refl ∙ run.passive;
      is = put_here r.objects test x a s.order here refl;
      others = λ k ne. put_there r.objects test x a s.order here refl k ne;
      quiet = first_quiet x x.work.streams;
      owner = ow ∙ ap Some (sym xn);
      hosted = ho run.alive;
      sends = refl;
    } in
    record {
      begins = subst (λ k. Begins (links_of r.objects) (links_of (put test a r.objects)) lives owners r.last_act k
          (sayings_of (run_made r x inc).answer.actions)) xn made;
      last_act = refl;
      servers = refl;
      starts = λ session numbers. refl;
      ends = λ is. refl;
    }
