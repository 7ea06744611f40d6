-- What a description describes has a file where its sectors are few enough: class ids, state bits and streams are as
-- long as a file spells them.
use Rattle.std.proofs.Common.{◌≡◌, ◌≤◌, ◌<◌, ◌^◌, ◌∙◌, ℕ, cond, List, Option, Some, None, Result, Ok, Err, IfSome}
use Rattle.std.proofs.Common.{length, refl, sym, ap, subst, inl, inr, arith, lt-ltb}
use Rattle.std.proofs.Math.Logic.{∥∥₁_map}
use Rattle.std.proofs.lemmas.Bool.{cases_lt}
use Rattle.cfb_entries.specs.Tree.{Tree, Children, tree, none, stream, storage}
use Rattle.tree_storage.specs.Kept.{Kept}
use Rattle.cfb_entries.specs.Whole.{IsTree}
use Rattle.cfb_file.specs.Denotes.{Denotes}
use Rattle.cfb_file.specs.Limits.{MOST_FAT_SECTORS}
use Rattle.cfb_file.specs.Need.{data_sectors, fat_sectors, over_streams, over_streams_of}
use Rattle.cfb_file.specs.Refusals.{writable}
use Rattle.cfb_file.specs.declared.fault.WriteFault.{WriteFault}
use Rattle.cfb_file.specs.declared.fault.WriteFault.TheVariants.{TooBig}
use Rattle.cfb_file.proofs.LeastFat.{covers}
use Rattle.cfb_layout.specs.Directory.{AreSpelled, IsSpelled}
use Rattle.cfb_layout.proofs.Contents.{image-denotes}
use Rattle.write_files.specs.Laid.{IsLaidOut, file_of}
use Rattle.write_files.specs.Sending.{MayRefuseSend, WritesFile}
use Rattle.write_files.specs.declared.sending.SendFault.{SendFault}
use Rattle.write_files.specs.declared.sending.SendFault.TheVariants as send
use Rattle.tree_descriptions.specs.Building.{room}
use Rattle.tree_descriptions.specs.Description.{described}
use Rattle.tree_descriptions.proofs.Classed.{AreClassed, IsClassed, described-classed}
use Rattle.tree_descriptions.proofs.Room.{too_large}
use Rattle.write_described.specs.Faults.{of_send_fault}
use Rattle.write_described.specs.Run.{IsMade, Makes, MayRefuseMake}

-- ---- its sectors
mutual
  spelled : (t : Tree) → IsClassed t → over_streams length t < 2 ^ 32 → IsSpelled t
  spelled (tree class state cs) i few = (i.0, i.1, are-spelled cs i.2 few)

  are-spelled : (cs : Children) → AreClassed cs → over_streams_of length cs < 2 ^ 32 → AreSpelled cs
  are-spelled none j few = tt
  are-spelled (stream k n b cs) j few = (omega (arith, few), are-spelled cs j (omega (arith, few)))
  are-spelled (storage k n t cs) j few = (spelled t j.0 (omega (arith, few)), are-spelled cs j.1 (omega (arith, few)))

clash : ◌≡◌ {A = Result (Unit {0}) WriteFault} (Err TooBig) (Ok tt) → ⊥
clash h = cc

allowed : (r : Result (Unit {0}) WriteFault) → r ≡ Ok tt → r ≡ Err TooBig → ⊥
allowed r is told = clash (sym told ∙ is)

few-bytes : (t : Tree) → writable t ≡ Ok tt → over_streams length t < 2 ^ 32
few-bytes t is =
    elim (cases_lt room (over_streams length t)) [
      | inl much ↦ absurd (allowed (writable t) is (too_large t much))
      | inr few ↦ omega (arith, few)
    ]

few-sectors : (t : Tree) → writable t ≡ Ok tt → fat_sectors (data_sectors t) ≤ MOST_FAT_SECTORS
few-sectors t is =
    elim (cases_lt MOST_FAT_SECTORS (fat_sectors (data_sectors t))) [
      | inl many ↦
          absurd
          (allowed (writable t) is (ap (λ b. cond b (Err TooBig) (Ok tt))
          (lt-ltb MOST_FAT_SECTORS (fat_sectors (data_sectors t)) many)))
      | inr few ↦ few
    ]

-- the file of the described tree
file_made : (text : List ℕ) (k : Kept) → described text ≡ Ok k → ∥ IsTree 32 k.now ∥₁ → writable k.now ≡ Ok tt
    → (file : List ℕ) × IsMade text file
file_made text k is whole fits =
    let t : Tree = k.now in (
      file_of t,
      record {
        k = k;
        describes = is;
        denotes = ∥∥₁_map whole (λ w. image-denotes (fat_sectors (data_sectors t)) t (record {
          whole = w;
          spelled = spelled t (described-classed text k is) (few-bytes t fits);
          few = few-sectors t fits;
          covered = covers (data_sectors t);
        }));
        laid_out = refl;
      },
    )

-- ---- what was sent, told of the text
makes : (text : List ℕ) (k : Kept) (t : Tree) (old new : Option (List ℕ)) (count : ℕ) → described text ≡ Ok k
    → t ≡ k.now → ∥ IsTree 32 t ∥₁ → WritesFile t old new count → Makes text old new count
makes text k t old new count is same whole sent = record {
  file = sent.file;
  made = record {
    k = k;
    describes = is;
    denotes = subst (λ x. ∥ Denotes sent.file x ∥₁) same (sent.denotes whole);
    laid_out = subst (λ x. IsLaidOut x sent.file) same sent.laid_out;
  };
  written = sent.written;
  counted = sent.counted;
}

pub known_makes : (known : Option (List ℕ)) (k : Kept) (t : Tree) (old new : Option (List ℕ)) (count : ℕ)
    → IfSome known (λ text. described text ≡ Ok k) → t ≡ k.now → ∥ IsTree 32 t ∥₁
    → WritesFile t old new count → IfSome known (λ text. Makes text old new count)
known_makes None k t old new count is same whole sent = tt
known_makes (Some text) k t old new count is same whole sent = makes text k t old new count is same whole sent

refused : (text : List ℕ) (k : Kept) (fault : SendFault) → described text ≡ Ok k → ∥ IsTree 32 k.now ∥₁
    → MayRefuseSend k.now fault → MayRefuseMake text (of_send_fault fault)
refused text k (send.Write fault) is whole r = (k, is, r)
refused text k send.Unwritable is whole r = file_made text k is whole r

pub known_refused : (known : Option (List ℕ)) (k : Kept) (t : Tree) (fault : SendFault)
    → IfSome known (λ text. described text ≡ Ok k) → t ≡ k.now → ∥ IsTree 32 t ∥₁ → MayRefuseSend t fault
    → IfSome known (λ text. MayRefuseMake text (of_send_fault fault))
known_refused None k t fault is same whole r = tt
known_refused (Some text) k t fault is same whole r =
    refused text k fault is (subst (λ u. ∥ IsTree 32 u ∥₁) same whole) (subst (λ u. MayRefuseSend u fault) same r)
