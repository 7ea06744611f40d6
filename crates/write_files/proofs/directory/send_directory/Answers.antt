use Rattle.std.proofs.Common.{◌≡◌, ◌∙◌, ◌+◌, ◌-◌, ◌*◌, ◌++◌, ℕ, List, Option, ap, length, replicate, subst, sym}
use Rattle.std.specs.List.{concat}
use Rattle.cfb_entries.specs.Entries.{root_name}
use Rattle.cfb_entries.specs.Written.{entry_bytes, free_entry_bytes}
use Rattle.cfb_entries.specs.Tree.{Tree}
use Rattle.cfb_file.specs.Need.{directory_sectors, pieces}
use Rattle.cfb_layout.specs.Directory.{balanced, entries_below, long_start}
use Rattle.write_parts.specs.Leads.{led_below}
use Rattle.write_parts.specs.Sends.{Sends}
use Rattle.write_parts.proofs.Led.{led-all}
use Rattle.write_parts.proofs.Length.{length-directory}
use Rattle.write_parts.proofs.Sent.{sends_both}
use Rattle.write_files.proofs.directory.send_directory.Goals as goal

pub returns-clause-sent : goal.returns-clause-sent
returns-clause-sent g c =
    let w : Option (List ℕ) = g.W.Write.contents c.args.writer.now in
    let v : Option (List ℕ) = g.W.Write.contents c.send_entry.new.writer in
    let u : Option (List ℕ) = g.W.Write.contents c.send_below.new.writer in
    let last : Option (List ℕ) = g.W.Write.contents c.send_unused.new.writer in
    let waited : List ℕ = c.args.waiting.now.items in
    let first : List ℕ = c.send_entry.new.waiting.items in
    let more : List ℕ = c.send_below.new.waiting.items in
    let waits : List ℕ = c.send_unused.new.waiting.items in
    let t : Tree = g.B.Branch.tree c.args.root in
    let f : ℕ = c.args.counts.fat in
    let named : c.as_bytes.result.now ≡ root_name = c.as_bytes.ensures.spelled ∙ c.root-name.ensures in
    let below : led_below c.deref.result.now 0 t ≡ entries_below balanced 0 0 (long_start f t) t =
    led-all c.deref.result.now 0 0 (long_start f t) t c.requires.directory.spelled
    (c.deref.ensures.value ∙ c.requires.directory.leads) in
    let sectors : c.directory_sectors.result ≡ directory_sectors t = c.directory_sectors.ensures
    ∙ ap (λ n. pieces 4 (1 + n)) c.requires.counts.entries_counted in
    let free : List ℕ = concat (replicate (4 * c.directory_sectors.result - (1 + c.args.counts.entries))
    free_entry_bytes) in
    let root : List ℕ = entry_bytes c.as_bytes.result.now c.args.directory.now.root in
    subst (λ (zs : List ℕ). Sends w last waited waits zs)
    (λ i. entry_bytes (named i) (c.requires.directory.root i)
    ++ (below i ++ concat (replicate (4 * sectors i - (1 + c.requires.counts.entries_counted i))
    free_entry_bytes)))
    (sends_both w v last waited first waits root (led_below c.deref.result.now 0 t ++ free)
    c.in_ok-send_entry.ensures.sent
    (sends_both v u last first more waits (led_below c.deref.result.now 0 t) free c.in_ok-send_below.ensures.sent
    c.in_ok-send_unused.ensures))

pub returns-clause-long : goal.returns-clause-long
returns-clause-long g c =
    let t : Tree = g.B.Branch.tree c.args.root in
    let f : ℕ = c.args.counts.fat in
    let below : led_below c.deref.result.now 0 t ≡ entries_below balanced 0 0 (long_start f t) t =
    led-all c.deref.result.now 0 0 (long_start f t) t c.requires.directory.spelled
    (c.deref.ensures.value ∙ c.requires.directory.leads) in
    length-directory f t (ap (λ e. length e.class) (sym c.requires.directory.root) ∙ c.send_entry.ensures.class_id)
    (ap length (sym below) ∙ c.in_ok-send_below.ensures.long)
