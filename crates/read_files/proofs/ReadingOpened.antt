-- What a file's calls answer, up to the storage of the root.
use Rattle.std.proofs.Common.{◌≡◌, ◌/◌, ℕ, suc, false, List, [], ◌∷◌, ◌++◌, length, replicate, inl, inr, refl, subst}
use Rattle.std.proofs.Common.{arith}
use Rattle.cfb_chains.specs.Fat.{FatValue, set_all, store_of}
use Rattle.cfb_names.specs.declared.fault.DirFault.TheVariants as directory
use Rattle.cfb_file.specs.Denotes.{Layout, minis, sectors}
use Rattle.cfb_faults.specs.Faults.{Base, IsDirectory, base_in, in_stream}
use Rattle.cfb_faults.proofs.Chains.{AreAgreed, agree_same, below_carried, stream_carried}
use Rattle.read_files.specs.Marks.{IsMet, IsNext}
use Rattle.read_files.specs.Reads.{MayRefuseFile, MayRefuseStorage, base_of, directory_in}
use Rattle.read_files.specs.declared.fault.ReadFault.{ReadFault}
use Rattle.read_files.specs.declared.fault.ReadFault.TheVariants as told
use Rattle.read_files.specs.declared.read.Reader.{Reader}
use Rattle.cfb_faults.proofs.Opened.{IsOpened, IsReady}
use Rattle.read_files.proofs.ReadingHeld.{only_one}
use Rattle.cfb_faults.proofs.Lists.{contains-none}
use Rattle.cfb_faults.proofs.There.{root_marked}
use Rattle.read_files.proofs.ReadingThere.{root_alone}

abbrev pub directory_is : (file : List ℕ) (fat : FatValue) (sectors bytes : List ℕ)
    → IsOpened file fat sectors bytes → IsDirectory file bytes
directory_is file fat sectors bytes o = record {
  is_fat = o.is_fat;
  sectors = sectors;
  is_chain = o.chain;
  bytes_are = o.bytes_are;
}

-- ---- the storage of the root
module _ (file : List ℕ) (l : Layout) (r : Reader) (h : IsReady file l r.fat r.mini (directory_in r)) where
  -- is to be read next
  pub root_next : r.entries.used ≡ set_all (replicate (length (directory_in r) / 128) false) (0 ∷ [])
      → IsNext (base_of (l.fat ++ l.difat ++ l.directory ++ l.mini_fat ++ l.mini_stream) r) 33 0 [] r
  root_next loaded =
      let marked : IsMet r 0 = root_marked r.entries (length (directory_in r) / 128) loaded in
      record {
        levels = 0;
        deep = refl;
        stands = record {
          below = record { way = []; long = refl; leads = refl; once = λ i j d lt k. absurd (omega arith) };
          met = λ n c. subst (IsMet r) (only_one 0 n c) marked;
        };
        underway = record {
          base = refl;
          once = λ i j d lt k. absurd (omega arith);
          waiting = λ n c. subst (IsMet r) (only_one 0 n c) marked;
          met = λ n lt m. inl (root_alone file l r h loaded n lt m);
          taken = λ n t. inl (h.marks.only n t);
          taken_minis = λ n t. absurd (contains-none n (h.mini_marks.only n t));
        };
      }

  agreed : AreAgreed (base_of (l.fat ++ l.difat ++ l.directory ++ l.mini_fat ++ l.mini_stream) r) (base_in file l)
  agreed = record {
    directory = h.bytes_are;
    sectors = agree_same (store_of r.fat) (sectors file l) h.same;
    minis = agree_same (store_of r.mini) (minis file l) h.same_minis;
    own = refl;
  }

  -- is refused
  module _ (d : IsDirectory file (directory_in r)) where
    pub file_storage : (fault : ReadFault)
        → MayRefuseStorage (base_of (l.fat ++ l.difat ++ l.directory ++ l.mini_fat ++ l.mini_stream) r) fault
        → MayRefuseFile file fault
    file_storage (told.Chain fault) q =
        let b : Base = base_of (l.fat ++ l.difat ++ l.directory ++ l.mini_fat ++ l.mini_stream) r in
        in_stream l h.laid_out q.0 q.1 (below_carried b (base_in file l) agreed (suc q.0) q.1 q.2)
        (stream_carried b (base_in file l) agreed q.1 fault q.3)
    file_storage (told.Directory directory.BadEntry) q = (directory_in r, d, inr (inr q))
    file_storage (told.Directory fault) q = (directory_in r, d, q)
    file_storage told.NoMemory q = tt
