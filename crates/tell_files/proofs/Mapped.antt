-- What is written of the sectors of a file of which was read what its listing needs.
use Rattle.std.proofs.Common.{◌≤◌, ℕ, List, Option, length, subst}
use Rattle.std.specs.Io.KnownBytes.{Appends}
use Rattle.cfb_entries.specs.Tree.{Tree}
use Rattle.cfb_file.specs.Alike.{Alike}
use Rattle.cfb_file.specs.Denotes.{Denotes, directory_of}
use Rattle.cfb_file.specs.Outline as model
use Rattle.read_outlines.specs.Places.{IsPlaced, IsTold}
use Rattle.read_outlines.specs.View.{outline_view}
use Rattle.read_outlines.specs.declared.outline.Outline.{Outline}
use Rattle.text_io.specs.Input.{most}
use Rattle.tell_files.specs.Maps.{Maps}
use Rattle.tell_lists.proofs.Placed.{placed_alike}
use Rattle.tell_maps.specs.Maps.{mapped}

pub maps : (a b : List ℕ) (o : Outline) (old new : Option (List ℕ)) → Alike a b → length a ≤ most
    → (t : Tree) × IsPlaced b t o
    → ((c : List ℕ) → Alike c b → (t : Tree) → (d : Denotes c t) → IsTold (directory_of c d.layout) 0 o
    → Appends old new (mapped c d.layout d.used.sectors (outline_view o))) → Maps a old new
maps a b o old new h few p w =
    let q : (t : Tree) × IsPlaced a t o = placed_alike a b o h p in
    let d : Denotes a q.0 = q.1.denotes in
    record {
      t = q.0;
      few = few;
      written =
          ∣ (
            d,
            subst (λ (x : model.Outline). Appends old new (mapped a d.layout d.used.sectors x)) q.1.outlined
                (w a h q.0 d q.1.told),
          ) ∣₁;
    }
