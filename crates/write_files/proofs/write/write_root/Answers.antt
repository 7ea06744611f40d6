use Rattle.std.proofs.Common.{◌≡◌, ◌++◌, ◌∙◌, ap, subst, sym, List, ℕ}
use Rattle.std.proofs.Math.Logic.{∥∥₁_map}
use Rattle.tree_storage.specs.View.{view}
use Rattle.cfb_file.specs.Denotes.{Denotes}
use Rattle.cfb_layout.specs.Directory.{balanced, parts_of}
use Rattle.cfb_layout.specs.Image.{image}
use Rattle.write_parts.proofs.Denoted.{file_denotes}
use Rattle.write_files.proofs.write.write_root.Goals as goal

pub returns-in-Ok-clause-denotes : goal.returns-in-Ok-clause-denotes
returns-in-Ok-clause-denotes c =
    let file : List ℕ = image c.in_ok-counts.counts.fat
    (parts_of balanced c.in_ok-counts.counts.fat (view c.args.root.now)) in
    let is : c.send_all.new.writer.items ≡ file = c.in-Ok.ensures.sent
    ∙ ap (λ xs. xs ++ file) c.in_ok-file.ensures.items in
    ∥∥₁_map c.requires
    (λ whole. subst (λ (bytes : List ℕ). Denotes bytes (view c.args.root.now)) (sym is)
    (file_denotes c.in_ok-counts.counts (view c.args.root.now) c.in_ok-counts.ensures.counted
    c.in_ok-front.ensures.directory.spelled whole))

pub returns-in-Ok-clause-laid_out : goal.returns-in-Ok-clause-laid_out
returns-in-Ok-clause-laid_out c =
    let file : List ℕ = image c.in_ok-counts.counts.fat
    (parts_of balanced c.in_ok-counts.counts.fat (view c.args.root.now)) in
    c.in-Ok.ensures.sent ∙ ap (λ xs. xs ++ file) c.in_ok-file.ensures.items
    ∙ ap (λ f. image f (parts_of balanced f (view c.args.root.now))) c.in_ok-counts.ensures.counted.least
