use Rattle.std.proofs.Common.{◌++◌, ◌∙◌, [], ℕ, List, Option, refl, subst}
use Rattle.cfb_layout.specs.Directory.{balanced, directory_of_tree}
use Rattle.cfb_layout.proofs.Tables.{numbers_bytes}
use Rattle.cfb_entries.specs.Tree.{Tree}
use Rattle.write_parts.specs.Sends.{Sends}
use Rattle.write_parts.proofs.Sent.{sends_both, sends_wait}
use Rattle.write_files.proofs.sent_streams.send_front.Goals as goal

pub returns-clause-sent : goal.returns-clause-sent
returns-clause-sent g c =
    let w0 : Option (List ℕ) = g.W.Write.contents c.args.writer.now in
    let w1 : Option (List ℕ) = g.W.Write.contents c.send_numbers.new.writer in
    let w2 : Option (List ℕ) = g.W.Write.contents c.send_numbers-2.new.writer in
    let w3 : Option (List ℕ) = g.W.Write.contents c.send_directory.new.writer in
    let w4 : Option (List ℕ) = g.W.Write.contents c.send_numbers-3.new.writer in
    let b1 : List ℕ = c.send_numbers.new.waiting.items in
    let b2 : List ℕ = c.send_numbers-2.new.waiting.items in
    let b3 : List ℕ = c.send_directory.new.waiting.items in
    let b4 : List ℕ = c.send_numbers-3.new.waiting.items in
    let f : ℕ = c.args.counts.fat in
    let t : Tree = g.B.Branch.tree c.args.root in
    let header : List ℕ = c.args.front.header.items in
    let fat : List ℕ = numbers_bytes c.deref.result.now in
    let difat : List ℕ = numbers_bytes c.deref-2.result.now in
    let directory : List ℕ = directory_of_tree balanced f t in
    let minis : List ℕ = numbers_bytes c.deref-3.result.now in
    let s1 : Sends w0 w1 [] b1 (header ++ fat) = sends_both w0 w0 w1 [] header b1 header fat
    (sends_wait w0 [] header header refl) c.in_ok-send_numbers.ensures in
    let s2 : Sends w0 w2 [] b2 (header ++ fat ++ difat) = sends_both w0 w1 w2 [] b1 b2 (header ++ fat) difat s1
    c.in_ok-send_numbers-2.ensures in
    let s3 : Sends w0 w3 [] b3 (header ++ fat ++ difat ++ directory) =
    sends_both w0 w2 w3 [] b2 b3 (header ++ fat ++ difat) directory s2 c.in_ok-send_directory.ensures.sent in
    let s4 : Sends w0 w4 [] b4 (header ++ fat ++ difat ++ directory ++ minis) =
    sends_both w0 w3 w4 [] b3 b4 (header ++ fat ++ difat ++ directory) minis s3 c.in_ok-send_numbers-3.ensures in
    subst (λ (zs : List ℕ). Sends w0 w4 [] b4 zs)
    (λ i. c.requires.front.header i ++ numbers_bytes ((c.deref.ensures.value ∙ c.requires.front.fat) i)
    ++ numbers_bytes ((c.deref-2.ensures.value ∙ c.requires.front.difat) i)
    ++ directory ++ numbers_bytes ((c.deref-3.ensures.value ∙ c.requires.front.minis) i))
    s4
