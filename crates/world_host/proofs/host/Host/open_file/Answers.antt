use Rattle.std.proofs.Common.{◌≡◌, ◌∙◌, ap, rules, subst, sym}
use Rattle.std.specs.Prelude.{option_copied}
use Rattle.container_model.specs.Commands.{is_named}
use Rattle.container_model.specs.Opens.{IsReadAs}
use Rattle.world_model.specs.World.{World, file_of}
use Rattle.world_host.specs.Servers.{ends_in}
use Rattle.world_host.specs.View.{bare}
use Rattle.world_host.proofs.Opening.{opens_end_none, unopened}
use Rattle.world_host.proofs.host.Host.open_file.Goals as goal

pub returns-in-Ok-clause-ends : goal.returns-in-Ok-clause-ends
returns-in-Ok-clause-ends c = (let t = c.in-Ok.ensures.taken in
    c.join.ensures.ends ∙ (sym (ap ends_in t.2) ∙ opens_end_none c.make_room.new.self.core c.in_ok-copied.copied
    c.args.width c.args.height t.0))

pub returns-in-Err : goal.returns-in-Err
returns-in-Err c =
    let u = unopened _ _ _ _ _ _ (search rules) c.in-Err.ensures.refused in
    let copied : c.in_ok-copied.copied ≡ c.args.name.now = search rules in
    let frames : c.make_room.new.self.core.frames ≡ c.args.self.now.core.frames =
    ap (λ (w : World). w.rec.frames) c.make_room.ensures.kept in
    let file : option_copied c.file_bytes-file.result ≡ file_of (bare c.args.self.now) c.args.name.now = search rules in
    record {
      taken = (
        u.given,
        (λ p q. subst (λ f. IsReadAs f u.given) file
            (u.read (ap (λ n. is_named n c.make_room.new.self.core.frames) copied
            ∙ (ap (is_named c.args.name.now) frames ∙ p)) q)),
        search rules,
      );
      ends = search rules;
      few = search rules;
      kept = tt;
    }
