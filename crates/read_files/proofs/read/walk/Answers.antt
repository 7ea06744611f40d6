use Rattle.std.proofs.Common.{◌≡◌, ◌/◌, ◌++◌, List, [], ◌∷◌, ℕ, inl, true, false, length, replicate, get_or, refl, sym}
use Rattle.std.proofs.Common.{◌∙◌, ap, subst, rules}
use Rattle.std.specs.Result.{IsErrAnd}
use Rattle.cfb_chains.proofs.Results.{refused_with}
use Rattle.cfb_chains.specs.Chain.{IsChain}
use Rattle.cfb_chains.specs.Fat.{AreFree, FatValue, set_all, store_of}
use Rattle.cfb_header.specs.Header.{HeaderValue, IsHeader, difat, header_of, listed}
use Rattle.read_chains.specs.View.{image_bytes}
use Rattle.read_directories.specs.Held.{held}
use Rattle.cfb_entries.specs.Entries.{EntriesValue}
use Rattle.cfb_entries.specs.Tree.{Tree}
use Rattle.cfb_file.specs.Denotes.{Denotes, Layout, directory_of}
use Rattle.read_files.specs.Reads.{IsOutlined, IsStorageRead, MayLack, MayRefuseFile, base_of, chain_fault}
use Rattle.read_files.specs.Reads.{directory_fault}
use Rattle.read_outlines.specs.Places.{IsPlaced, IsTold}
use Rattle.read_outlines.specs.Keeping.{wanted}
use Rattle.read_files.specs.declared.read.Reader.{Reader}
use Rattle.cfb_faults.proofs.Chains.{directory_refused, mini_refused, table_refused}
use Rattle.cfb_faults.proofs.Opened.{IsOpened, IsReady, opened_at, read_header, ready}
use Rattle.read_files.proofs.ReadingFile.{denoted}
use Rattle.read_files.proofs.ReadingLists.{fat_lacks, lacking, lists_there}
use Rattle.read_files.proofs.ReadingOpened.{directory_is, file_storage, root_next}
use Rattle.read_files.proofs.ReadingRefused.{chain_memory, directory_memory, file_chain, file_load, file_root}
use Rattle.read_files.proofs.ReadingRefused.{same_memory}
use Rattle.cfb_faults.proofs.There.{directory_there, load_not_refused, mini_there, root_marked, root_not_refused}
use Rattle.read_files.proofs.ReadingThere.{storage_read}
use Rattle.read_outlines.specs.View.{contents, shown}
use Rattle.read_files.specs.View.{directory_bytes}
use Rattle.read_outlines.specs.declared.outline.Place.{Place}
use Rattle.read_files.proofs.ReadingKept.{kept_storage}
use Rattle.read_files.proofs.read.walk.Goals as goal

pub returns-in_err-chain-clause-reads : goal.returns-in_err-chain-clause-reads
returns-in_err-chain-clause-reads c = λ t d.
    let file : List ℕ = image_bytes c.args.file in
    let h : HeaderValue = c.args.header.now in
    let is : h ≡ header_of file = read_header file h d.header (sym c.requires.read) in
    let there : (ns : List ℕ) × IsChain (store_of c.in_ok-fat.fat) h.first_directory 0 ns × AreFree c.in_ok-fat.fat ns =
    directory_there file t d h c.in_ok-fat.fat is c.in_ok-fat.ensures.table in
    chain_memory c.from_residual-in_err-chain.result c.in_err-chain.field-0.0 c.from_residual-in_err-chain.ensures.1
    (c.in_err-chain.ensures.there there.0
    (subst (λ (x : ℕ). IsChain (store_of c.in_ok-fat.fat) x 0 there.0) (sym c.first_directory.ensures) there.1) there.2)

pub returns-in_err-entries-clause-reads : goal.returns-in_err-entries-clause-reads
returns-in_err-entries-clause-reads c = λ t d.
    let file : List ℕ = image_bytes c.args.file in
    let h : HeaderValue = c.args.header.now in
    let is : h ≡ header_of file = read_header file h d.header (sym c.requires.read) in
    let o : IsOpened file c.chain.new.self c.in_ok-chain.chain.items (held c.lent.result) =
    opened_at file h c.in_ok-fat.fat c.chain.new.self c.first_directory.result c.in_ok-chain.chain.items
    c.deref.result.now (directory_bytes c.in_ok-directory.directory)
    (held c.lent.result) is c.in_ok-fat.ensures.table c.first_directory.ensures c.in_ok-chain.ensures.linked
    c.in_ok-chain.ensures.free c.in_ok-chain.ensures.marks
    c.deref.ensures.value c.in_ok-directory.ensures.bytes c.lent.ensures in
    directory_memory c.from_residual-in_err-entries.result c.in_err-entries.field-0.0
    c.from_residual-in_err-entries.ensures.1
    (load_not_refused file t d c.chain.new.self c.in_ok-chain.chain.items (held c.lent.result) o
    c.in_err-entries.field-0.0 c.in_err-entries.ensures.refused)

pub returns-in_err-root-clause-reads : goal.returns-in_err-root-clause-reads
returns-in_err-root-clause-reads c = λ t d.
    let file : List ℕ = image_bytes c.args.file in
    let h : HeaderValue = c.args.header.now in
    let e : EntriesValue = c.in_ok-entries.entries in
    let is : h ≡ header_of file = read_header file h d.header (sym c.requires.read) in
    let o : IsOpened file c.chain.new.self c.in_ok-chain.chain.items e.directory =
    opened_at file h c.in_ok-fat.fat c.chain.new.self c.first_directory.result c.in_ok-chain.chain.items
    c.deref.result.now (directory_bytes c.in_ok-directory.directory)
    e.directory is c.in_ok-fat.ensures.table c.first_directory.ensures c.in_ok-chain.ensures.linked
    c.in_ok-chain.ensures.free c.in_ok-chain.ensures.marks
    c.deref.ensures.value c.in_ok-directory.ensures.bytes
    (ap (λ (x : EntriesValue). x.directory) c.in_ok-entries.ensures.loaded ∙ c.lent.ensures) in
    absurd (root_not_refused file t d c.chain.new.self c.in_ok-chain.chain.items e.directory o
    c.in_err-root.field-0.0 c.in_err-root.ensures.refused)

pub returns-in_err-mini-clause-reads : goal.returns-in_err-mini-clause-reads
returns-in_err-mini-clause-reads c = λ t d.
    let file : List ℕ = image_bytes c.args.file in
    let h : HeaderValue = c.args.header.now in
    let e : EntriesValue = c.in_ok-entries.entries in
    let is : h ≡ header_of file = read_header file h d.header (sym c.requires.read) in
    let o : IsOpened file c.chain.new.self c.in_ok-chain.chain.items e.directory =
    opened_at file h c.in_ok-fat.fat c.chain.new.self c.first_directory.result c.in_ok-chain.chain.items
    c.deref.result.now (directory_bytes c.in_ok-directory.directory)
    e.directory is c.in_ok-fat.ensures.table c.first_directory.ensures c.in_ok-chain.ensures.linked
    c.in_ok-chain.ensures.free c.in_ok-chain.ensures.marks
    c.deref.ensures.value c.in_ok-directory.ensures.bytes
    (ap (λ (x : EntriesValue). x.directory) c.in_ok-entries.ensures.loaded ∙ c.lent.ensures) in
    chain_memory c.from_residual-in_err-mini.result c.in_err-mini.field-0.0 c.from_residual-in_err-mini.ensures.1
    (c.in_err-mini.ensures.there d.layout.mini_fat d.layout.mini_stream
    (mini_there file t d c.chain.new.self c.in_ok-chain.chain.items e.directory o h c.in_ok-root.root.first
    c.in_ok-root.root.size is
    c.in_ok-root.ensures.read.first c.in_ok-root.ensures.read.size))

pub storage_outline-requires-clause-storage : goal.storage_outline-requires-clause-storage
storage_outline-requires-clause-storage c = inl (refl, c.in_ok-root.ensures.read.allowed)

pub storage_outline-requires-clause-root_marked : goal.storage_outline-requires-clause-root_marked
storage_outline-requires-clause-root_marked c =
    root_marked c.in_ok-entries.entries (length (held c.lent.result) / 128)
    (ap (λ (x : EntriesValue). x.used) c.in_ok-entries.ensures.loaded)

pub returns-in_err-outline-clause-reads : goal.returns-in_err-outline-clause-reads
returns-in_err-outline-clause-reads c = λ t d.
    let file : List ℕ = image_bytes c.args.file in
    let h : HeaderValue = c.args.header.now in
    let e : EntriesValue = c.in_ok-entries.entries in
    let is_header : IsHeader file = c.requires.whole in
    let is : h ≡ header_of file = read_header file h is_header (sym c.requires.read) in
    let o : IsOpened file c.chain.new.self c.in_ok-chain.chain.items e.directory =
    opened_at file h c.in_ok-fat.fat c.chain.new.self c.first_directory.result c.in_ok-chain.chain.items
    c.deref.result.now (directory_bytes c.in_ok-directory.directory)
    e.directory is c.in_ok-fat.ensures.table c.first_directory.ensures c.in_ok-chain.ensures.linked
    c.in_ok-chain.ensures.free c.in_ok-chain.ensures.marks
    c.deref.ensures.value c.in_ok-directory.ensures.bytes
    (ap (λ (x : EntriesValue). x.directory) c.in_ok-entries.ensures.loaded ∙ c.lent.ensures) in
    let mini_fat : List ℕ = c.in_ok-mini.ensures.found.0 in
    let mini_stream : List ℕ = c.in_ok-mini.ensures.found.1 in
    let l : Layout = record {
      fat = listed file;
      difat = difat file;
      directory = c.in_ok-chain.chain.items;
      mini_fat = mini_fat;
      mini_stream = mini_stream;
    } in
    let r : IsReady file l c.mini.new.self c.in_ok-mini.mini e.directory =
    ready file h c.chain.new.self c.mini.new.self c.in_ok-mini.mini c.in_ok-chain.chain.items e.directory
    c.in_ok-root.root.first c.in_ok-root.root.size
    mini_fat mini_stream is o c.in_ok-root.ensures.read.first c.in_ok-root.ensures.read.size
    c.in_ok-mini.ensures.found.2 c.in_ok-mini.ensures.found.3 c.in_ok-mini.ensures.found.4 in
    let start : Reader = record { fat = c.mini.new.self; mini = c.in_ok-mini.mini; entries = e } in
    let used : e.used ≡ set_all (replicate (length e.directory / 128) false) (0 ∷ []) =
    ap (λ (x : EntriesValue). x.used) c.in_ok-entries.ensures.loaded
    ∙ ap (λ (xs : List ℕ). set_all (replicate (length xs / 128) false) (0 ∷ []))
    (sym (ap (λ (x : EntriesValue). x.directory) c.in_ok-entries.ensures.loaded)) in
    let there : (new : Reader) × IsStorageRead 32 0 t start new = storage_read file l start r used t d in
    let again : IsErrAnd c.from_residual-in_err-outline.result (λ x. x ≡ c.in_err-outline.field-0.0) = search rules in
    same_memory c.from_residual-in_err-outline.result c.in_err-outline.field-0.0 again
    (c.in_err-outline.ensures.there t there.0 there.1)

pub returns : goal.returns
returns c =
    let file : List ℕ = image_bytes c.args.file in
    let h : HeaderValue = c.args.header.now in
    let e : EntriesValue = c.in_ok-entries.entries in
    let is_header : IsHeader file = c.requires.whole in
    let is : h ≡ header_of file = read_header file h is_header (sym c.requires.read) in
    let o : IsOpened file c.chain.new.self c.in_ok-chain.chain.items e.directory =
    opened_at file h c.in_ok-fat.fat c.chain.new.self c.first_directory.result c.in_ok-chain.chain.items
    c.deref.result.now (directory_bytes c.in_ok-directory.directory)
    e.directory is c.in_ok-fat.ensures.table c.first_directory.ensures c.in_ok-chain.ensures.linked
    c.in_ok-chain.ensures.free c.in_ok-chain.ensures.marks
    c.deref.ensures.value c.in_ok-directory.ensures.bytes
    (ap (λ (x : EntriesValue). x.directory) c.in_ok-entries.ensures.loaded ∙ c.lent.ensures) in
    let mini_fat : List ℕ = c.in_ok-mini.ensures.found.0 in
    let mini_stream : List ℕ = c.in_ok-mini.ensures.found.1 in
    let l : Layout = record {
      fat = listed file;
      difat = difat file;
      directory = c.in_ok-chain.chain.items;
      mini_fat = mini_fat;
      mini_stream = mini_stream;
    } in
    let r : IsReady file l c.mini.new.self c.in_ok-mini.mini e.directory =
    ready file h c.chain.new.self c.mini.new.self c.in_ok-mini.mini c.in_ok-chain.chain.items e.directory
    c.in_ok-root.root.first c.in_ok-root.root.size
    mini_fat mini_stream is o c.in_ok-root.ensures.read.first c.in_ok-root.ensures.read.size
    c.in_ok-mini.ensures.found.2 c.in_ok-mini.ensures.found.3 c.in_ok-mini.ensures.found.4 in
    let start : Reader = record { fat = c.mini.new.self; mini = c.in_ok-mini.mini; entries = e } in
    let marked : get_or e.used 0 true ≡ true = root_marked e (length (held c.lent.result) / 128)
    (ap (λ (x : EntriesValue). x.used) c.in_ok-entries.ensures.loaded) in
    let before : Place → List ℕ = contents c.mini.new.self c.in_ok-mini.mini in
    let told : IsOutlined 32 0 (wanted c.args.keep) c.in_ok-outline.outline start c.storage_outline.new.self =
    c.in_ok-outline.ensures.outlined in
    let t : Tree = shown before told.whole in
    let kept : contents c.storage_outline.new.self.fat c.storage_outline.new.self.mini ≡ before =
    (kept_storage 32 0 t start c.storage_outline.new.self told.is_read).content in
    let denotes : (d : Denotes file t) × (d.layout ≡ l) =
    denoted file l start c.storage_outline.new.self t is_header r marked c.in_ok-root.ensures.read.allowed
    told.is_read in
    let directory : e.directory ≡ directory_of file denotes.0.layout = r.bytes_are
    ∙ ap (directory_of file) (sym denotes.1) in
    let placed : IsPlaced file t told.whole = record {
      outlined = sym told.sized;
      denotes = denotes.0;
      told = subst (λ (x : List ℕ). IsTold x 0 told.whole) directory told.told;
    } in
    let lies : IsPlaced file (shown (contents c.storage_outline.new.self.fat c.storage_outline.new.self.mini)
    told.whole) told.whole =
    subst (λ (f : Place → List ℕ). IsPlaced file (shown f told.whole) told.whole) (sym kept) placed in
    record {
      walked = record { whole = told.whole; placed = lies; is_kept = told.is_kept };
      reads = λ t d. tt;
      refused = tt;
      lists = lists_there file h is is_header c.in_ok-fat.ensures.table.is_fat;
      memory = tt;
    }

pub returns-in_err-fat-clause-refused : goal.returns-in_err-fat-clause-refused
returns-in_err-fat-clause-refused c =
    let file : List ℕ = image_bytes c.args.file in
    let h : HeaderValue = c.args.header.now in
    let is_header : IsHeader file = c.requires.whole in
    let is : h ≡ header_of file = read_header file h is_header (sym c.requires.read) in
    refused_with c.from_residual.result (chain_fault c.in_err-fat.field-0.0) (MayRefuseFile file)
    c.from_residual.ensures.1
    (file_chain file c.in_err-fat.field-0.0
    (table_refused file h c.in_err-fat.field-0.0 is c.in_err-fat.ensures.refused))

pub returns-in_err-chain-clause-refused : goal.returns-in_err-chain-clause-refused
returns-in_err-chain-clause-refused c =
    let file : List ℕ = image_bytes c.args.file in
    let h : HeaderValue = c.args.header.now in
    let f : FatValue = c.in_ok-fat.fat in
    let is_header : IsHeader file = c.requires.whole in
    let is : h ≡ header_of file = read_header file h is_header (sym c.requires.read) in
    refused_with c.from_residual-in_err-chain.result (chain_fault c.in_err-chain.field-0.0) (MayRefuseFile file)
    c.from_residual-in_err-chain.ensures.1
    (file_chain file c.in_err-chain.field-0.0
    (directory_refused file h f c.first_directory.result c.in_err-chain.field-0.0 is c.first_directory.ensures
    c.in_ok-fat.ensures.table c.in_err-chain.ensures.refused))

pub returns-in_err-directory-clause-refused : goal.returns-in_err-directory-clause-refused
returns-in_err-directory-clause-refused c =
    let again : IsErrAnd c.from_residual-in_err-directory.result (λ x. x ≡ c.in_err-directory.field-0.0) =
    search rules in
    refused_with c.from_residual-in_err-directory.result c.in_err-directory.field-0.0
    (MayRefuseFile (image_bytes c.args.file)) again
    (subst (MayRefuseFile (image_bytes c.args.file)) (sym c.in_err-directory.ensures.refused) tt)

pub returns-in_err-entries-clause-refused : goal.returns-in_err-entries-clause-refused
returns-in_err-entries-clause-refused c =
    let file : List ℕ = image_bytes c.args.file in
    let h : HeaderValue = c.args.header.now in
    let is_header : IsHeader file = c.requires.whole in
    let is : h ≡ header_of file = read_header file h is_header (sym c.requires.read) in
    let o : IsOpened file c.chain.new.self c.in_ok-chain.chain.items (held c.lent.result) =
    opened_at file h c.in_ok-fat.fat c.chain.new.self c.first_directory.result c.in_ok-chain.chain.items
    c.deref.result.now (directory_bytes c.in_ok-directory.directory)
    (held c.lent.result) is c.in_ok-fat.ensures.table c.first_directory.ensures c.in_ok-chain.ensures.linked
    c.in_ok-chain.ensures.free c.in_ok-chain.ensures.marks
    c.deref.ensures.value c.in_ok-directory.ensures.bytes c.lent.ensures in
    refused_with c.from_residual-in_err-entries.result (directory_fault c.in_err-entries.field-0.0)
    (MayRefuseFile file) c.from_residual-in_err-entries.ensures.1
    (file_load file (held c.lent.result) c.in_err-entries.field-0.0
    (directory_is file c.chain.new.self c.in_ok-chain.chain.items (held c.lent.result) o)
    c.in_err-entries.ensures.refused)

pub returns-in_err-root-clause-refused : goal.returns-in_err-root-clause-refused
returns-in_err-root-clause-refused c =
    let file : List ℕ = image_bytes c.args.file in
    let h : HeaderValue = c.args.header.now in
    let e : EntriesValue = c.in_ok-entries.entries in
    let is_header : IsHeader file = c.requires.whole in
    let is : h ≡ header_of file = read_header file h is_header (sym c.requires.read) in
    let o : IsOpened file c.chain.new.self c.in_ok-chain.chain.items e.directory =
    opened_at file h c.in_ok-fat.fat c.chain.new.self c.first_directory.result c.in_ok-chain.chain.items
    c.deref.result.now (directory_bytes c.in_ok-directory.directory)
    e.directory is c.in_ok-fat.ensures.table c.first_directory.ensures c.in_ok-chain.ensures.linked
    c.in_ok-chain.ensures.free c.in_ok-chain.ensures.marks
    c.deref.ensures.value c.in_ok-directory.ensures.bytes
    (ap (λ (x : EntriesValue). x.directory) c.in_ok-entries.ensures.loaded ∙ c.lent.ensures) in
    refused_with c.from_residual-in_err-root.result (directory_fault c.in_err-root.field-0.0) (MayRefuseFile file)
    c.from_residual-in_err-root.ensures.1
    (file_root file e.directory c.in_err-root.field-0.0
    (directory_is file c.chain.new.self c.in_ok-chain.chain.items e.directory o) c.in_err-root.ensures.refused)

pub returns-in_err-mini-clause-refused : goal.returns-in_err-mini-clause-refused
returns-in_err-mini-clause-refused c =
    let file : List ℕ = image_bytes c.args.file in
    let h : HeaderValue = c.args.header.now in
    let e : EntriesValue = c.in_ok-entries.entries in
    let is_header : IsHeader file = c.requires.whole in
    let is : h ≡ header_of file = read_header file h is_header (sym c.requires.read) in
    let o : IsOpened file c.chain.new.self c.in_ok-chain.chain.items e.directory =
    opened_at file h c.in_ok-fat.fat c.chain.new.self c.first_directory.result c.in_ok-chain.chain.items
    c.deref.result.now (directory_bytes c.in_ok-directory.directory)
    e.directory is c.in_ok-fat.ensures.table c.first_directory.ensures c.in_ok-chain.ensures.linked
    c.in_ok-chain.ensures.free c.in_ok-chain.ensures.marks
    c.deref.ensures.value c.in_ok-directory.ensures.bytes
    (ap (λ (x : EntriesValue). x.directory) c.in_ok-entries.ensures.loaded ∙ c.lent.ensures) in
    refused_with c.from_residual-in_err-mini.result (chain_fault c.in_err-mini.field-0.0) (MayRefuseFile file)
    c.from_residual-in_err-mini.ensures.1
    (file_chain file c.in_err-mini.field-0.0
    (mini_refused file h c.chain.new.self e.directory is
    (directory_is file c.chain.new.self c.in_ok-chain.chain.items e.directory o) o.same o.marks
    c.in_ok-root.root.first c.in_ok-root.root.size c.in_err-mini.field-0.0 c.in_ok-root.ensures.read.first
    c.in_ok-root.ensures.read.size
    c.in_err-mini.ensures.there c.in_err-mini.ensures.refused))

pub returns-in_err-outline-clause-refused : goal.returns-in_err-outline-clause-refused
returns-in_err-outline-clause-refused c =
    let file : List ℕ = image_bytes c.args.file in
    let h : HeaderValue = c.args.header.now in
    let e : EntriesValue = c.in_ok-entries.entries in
    let is_header : IsHeader file = c.requires.whole in
    let is : h ≡ header_of file = read_header file h is_header (sym c.requires.read) in
    let o : IsOpened file c.chain.new.self c.in_ok-chain.chain.items e.directory =
    opened_at file h c.in_ok-fat.fat c.chain.new.self c.first_directory.result c.in_ok-chain.chain.items
    c.deref.result.now (directory_bytes c.in_ok-directory.directory)
    e.directory is c.in_ok-fat.ensures.table c.first_directory.ensures c.in_ok-chain.ensures.linked
    c.in_ok-chain.ensures.free c.in_ok-chain.ensures.marks
    c.deref.ensures.value c.in_ok-directory.ensures.bytes
    (ap (λ (x : EntriesValue). x.directory) c.in_ok-entries.ensures.loaded ∙ c.lent.ensures) in
    let mini_fat : List ℕ = c.in_ok-mini.ensures.found.0 in
    let mini_stream : List ℕ = c.in_ok-mini.ensures.found.1 in
    let l : Layout = record {
      fat = listed file;
      difat = difat file;
      directory = c.in_ok-chain.chain.items;
      mini_fat = mini_fat;
      mini_stream = mini_stream;
    } in
    let r : IsReady file l c.mini.new.self c.in_ok-mini.mini e.directory =
    ready file h c.chain.new.self c.mini.new.self c.in_ok-mini.mini c.in_ok-chain.chain.items e.directory
    c.in_ok-root.root.first c.in_ok-root.root.size
    mini_fat mini_stream is o c.in_ok-root.ensures.read.first c.in_ok-root.ensures.read.size
    c.in_ok-mini.ensures.found.2 c.in_ok-mini.ensures.found.3 c.in_ok-mini.ensures.found.4 in
    let start : Reader = record { fat = c.mini.new.self; mini = c.in_ok-mini.mini; entries = e } in
    let used : e.used ≡ set_all (replicate (length e.directory / 128) false) (0 ∷ []) =
    ap (λ (x : EntriesValue). x.used) c.in_ok-entries.ensures.loaded
    ∙ ap (λ (xs : List ℕ). set_all (replicate (length xs / 128) false) (0 ∷ []))
    (sym (ap (λ (x : EntriesValue). x.directory) c.in_ok-entries.ensures.loaded)) in
    let again : IsErrAnd c.from_residual-in_err-outline.result (λ x. x ≡ c.in_err-outline.field-0.0) = search rules in
    refused_with c.from_residual-in_err-outline.result c.in_err-outline.field-0.0 (MayRefuseFile file) again
    (file_storage file l start r (directory_is file c.chain.new.self c.in_ok-chain.chain.items e.directory o)
    c.in_err-outline.field-0.0
    (c.in_err-outline.ensures.refused (base_of (l.fat ++ l.difat ++ l.directory ++ l.mini_fat ++ l.mini_stream)
    start) [] (root_next file l start r used)))

-- want of memory is told only past the lists of the FAT
pub returns-in_err-fat-clause-memory : goal.returns-in_err-fat-clause-memory
returns-in_err-fat-clause-memory c =
    let file : List ℕ = image_bytes c.args.file in
    let h : HeaderValue = c.args.header.now in
    let is : h ≡ header_of file = read_header file h c.requires.whole (sym c.requires.read) in
    refused_with c.from_residual.result (chain_fault c.in_err-fat.field-0.0) (MayLack file) c.from_residual.ensures.1
    (fat_lacks file h c.in_err-fat.field-0.0 is c.requires.whole c.in_err-fat.ensures.refused)

pub returns-in_err-chain-clause-memory : goal.returns-in_err-chain-clause-memory
returns-in_err-chain-clause-memory c =
    let file : List ℕ = image_bytes c.args.file in
    let h : HeaderValue = c.args.header.now in
    let is : h ≡ header_of file = read_header file h c.requires.whole (sym c.requires.read) in
    lacking file c.from_residual-in_err-chain.result
    (lists_there file h is c.requires.whole c.in_ok-fat.ensures.table.is_fat)

pub returns-in_err-directory-clause-memory : goal.returns-in_err-directory-clause-memory
returns-in_err-directory-clause-memory c =
    let file : List ℕ = image_bytes c.args.file in
    let h : HeaderValue = c.args.header.now in
    let is : h ≡ header_of file = read_header file h c.requires.whole (sym c.requires.read) in
    lacking file c.from_residual-in_err-directory.result
    (lists_there file h is c.requires.whole c.in_ok-fat.ensures.table.is_fat)

pub returns-in_err-entries-clause-memory : goal.returns-in_err-entries-clause-memory
returns-in_err-entries-clause-memory c =
    let file : List ℕ = image_bytes c.args.file in
    let h : HeaderValue = c.args.header.now in
    let is : h ≡ header_of file = read_header file h c.requires.whole (sym c.requires.read) in
    lacking file c.from_residual-in_err-entries.result
    (lists_there file h is c.requires.whole c.in_ok-fat.ensures.table.is_fat)

pub returns-in_err-root-clause-memory : goal.returns-in_err-root-clause-memory
returns-in_err-root-clause-memory c =
    let file : List ℕ = image_bytes c.args.file in
    let h : HeaderValue = c.args.header.now in
    let is : h ≡ header_of file = read_header file h c.requires.whole (sym c.requires.read) in
    lacking file c.from_residual-in_err-root.result
    (lists_there file h is c.requires.whole c.in_ok-fat.ensures.table.is_fat)

pub returns-in_err-mini-clause-memory : goal.returns-in_err-mini-clause-memory
returns-in_err-mini-clause-memory c =
    let file : List ℕ = image_bytes c.args.file in
    let h : HeaderValue = c.args.header.now in
    let is : h ≡ header_of file = read_header file h c.requires.whole (sym c.requires.read) in
    lacking file c.from_residual-in_err-mini.result
    (lists_there file h is c.requires.whole c.in_ok-fat.ensures.table.is_fat)

pub returns-in_err-outline-clause-memory : goal.returns-in_err-outline-clause-memory
returns-in_err-outline-clause-memory c =
    let file : List ℕ = image_bytes c.args.file in
    let h : HeaderValue = c.args.header.now in
    let is : h ≡ header_of file = read_header file h c.requires.whole (sym c.requires.read) in
    lacking file c.from_residual-in_err-outline.result
    (lists_there file h is c.requires.whole c.in_ok-fat.ensures.table.is_fat)
