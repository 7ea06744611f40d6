use Rattle.std.proofs.Common.{ap}
use Rattle.container_model.specs.Record.{Record}
use Rattle.container_model.specs.declared.record.Object.{Object}
use Rattle.container_state.proofs.Drawn.{number_past}
use Rattle.container_state.proofs.state.State.insert_numbered.Goals as goal

pub push-requires : goal.push-requires
push-requires c =
    let s : Record = record {
      session = c.self.inside.session;
      frames = c.self.inside.frames;
      objects = c.self.inside.objects.list.items;
      servers = c.self.inside.servers;
      last_object = c.self.inside.last_object;
      last_act = c.self.inside.last_act;
      last_g = c.self.inside.last_g;
      numbers = c.self.inside.numbers;
    } in
    number_past s c.args.self.now c.self.view_is c.requires.steady c.self.inside.objects.rising
    c.in_ok-object.object.number c.args.number (ap (λ (o : Object). o.number) c.in_ok-object.ensures)
    c.requires.number
