use Rattle.std.proofs.Common.{◌≡◌, Some, slice_get, ap, subst, sym, ◌∙◌}
use Rattle.std.proofs.lemmas.Option.{slice_get-get_or}
use Rattle.message_values.specs.Found.{IsPlace}
use Rattle.container_model.specs.Record.{Record, is_linked}
use Rattle.container_commands.proofs.WritesMade.{write_made, write_refused}
use Rattle.container_checks.proofs.Numbers.{one_kept}
use Rattle.container_state.proofs.state.State.write_at.Goals as goal

pub returns-clause-taken : goal.returns-clause-taken
returns-clause-taken c =
    let r : Record = record {
      session = c.self.inside.session;
      frames = c.self.inside.frames;
      objects = c.self.inside.objects.list.items;
      servers = c.self.inside.servers;
      last_object = c.self.inside.last_object;
      last_act = c.self.inside.last_act;
      last_g = c.self.inside.last_g;
      numbers = c.self.inside.numbers;
    } in
    let v : c.args.self.now ≡ r = sym c.self.view_is in
    let p : IsPlace (is_linked c.args.inc c.args.act) r.objects c.args.place =
    subst (λ (x : Record). IsPlace (is_linked c.args.inc c.args.act) x.objects c.args.place) v c.requires in
    let g : slice_get r.objects c.args.place ≡ Some c.index_mut.result.now =
    slice_get-get_or r.objects c.args.place c.index_mut.result.now p.fits
    ∙ ap Some (sym c.index_mut.ensures.value) in
    rw v (write_made r c.args.inc c.args.act c.args.s c.args.w c.args.content c.index_mut.result.now
    c.write_one.new.object _ c.content_taken.result (p.found ∙ g)
    (c.in-Ok.ensures.taken r c.args.inc c.args.act) (p.puts c.write_one.new.object) c.content_taken.ensures)

pub returns-in-Err-clause-refused : goal.returns-in-Err-clause-refused
returns-in-Err-clause-refused c =
    let r : Record = record {
      session = c.self.inside.session;
      frames = c.self.inside.frames;
      objects = c.self.inside.objects.list.items;
      servers = c.self.inside.servers;
      last_object = c.self.inside.last_object;
      last_act = c.self.inside.last_act;
      last_g = c.self.inside.last_g;
      numbers = c.self.inside.numbers;
    } in
    let v : c.args.self.now ≡ r = sym c.self.view_is in
    let p : IsPlace (is_linked c.args.inc c.args.act) r.objects c.args.place =
    subst (λ (x : Record). IsPlace (is_linked c.args.inc c.args.act) x.objects c.args.place) v c.requires in
    let g : slice_get r.objects c.args.place ≡ Some c.index_mut.result.now =
    slice_get-get_or r.objects c.args.place c.index_mut.result.now p.fits
    ∙ ap Some (sym c.index_mut.ensures.value) in
    rw v (write_refused r c.args.inc c.args.act c.args.s c.args.w c.args.content c.index_mut.result.now
    c.in-Err.fault (p.found ∙ g) (c.in-Err.ensures.refused r c.args.inc c.args.act))

pub invariant_of-self-inside : goal.invariant_of-self-inside
invariant_of-self-inside c = record {
  rising = one_kept c.self.inside.objects.list.items c.args.place c.write_one.new.object c.index_mut.result.now
      c.self.inside.objects.rising c.index_mut.ensures.value c.write_one.ensures.same;
}
