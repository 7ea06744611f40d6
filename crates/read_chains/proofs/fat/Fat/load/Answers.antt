use Rattle.std.proofs.Common.{◌<◌, ◌≤◌, ◌≡◌, ◌++◌, ◌*◌, ℕ, List, arith, false, length, refl, replicate, ap, ◌∙◌, sym}
use Rattle.std.proofs.Common.{subst, min}
use Rattle.cfb_header.specs.Bytes.{joined, sector}
use Rattle.cfb_chains.specs.Chain.{AreDistinct}
use Rattle.std.specs.List.{All, Contains}
use Rattle.cfb_chains.specs.Fat.{AreFree, FatValue, MayRefuseFat, marked, sectors_in}
use Rattle.cfb_header.specs.Header.{HeaderValue, difat_by, fat_by}
use Rattle.cfb_header.specs.declared.fault.ChainFault.TheVariants.{NoMemory}
use Rattle.read_chains.specs.View.{image_bytes}
use Rattle.cfb_chains.proofs.Chains.{refused_not_fat}
use Rattle.cfb_chains.proofs.Results.{refused_with}
use Rattle.cfb_chains.proofs.Tables.{absent, all_listed, all_present, crossed, difat_refused, few_listed, header_listed}
use Rattle.cfb_chains.proofs.Tables.{loaded}
use Rattle.read_chains.proofs.fat.Fat.load.Goals as goal

pub returns-in_err-check_room-clause-refused : goal.returns-in_err-check_room-clause-refused
returns-in_err-check_room-clause-refused c =
    let file : List ℕ = image_bytes c.args.file in
    let h : HeaderValue = c.args.header.now in
    let r = c.in_err-check_room.ensures.refused in
    refused_with c.from_residual.result c.in_err-check_room.field-0.0 (MayRefuseFat file h) c.from_residual.ensures.1
    (subst (MayRefuseFat file h) (sym r.0) (few_listed file h r.1))

pub returns-in_err-check_room-clause-there : goal.returns-in_err-check_room-clause-there
returns-in_err-check_room-clause-there c = λ g.
    let file : List ℕ = image_bytes c.args.file in
    let h : HeaderValue = c.args.header.now in
    let r = c.in_err-check_room.ensures.refused in
    refused_with c.from_residual.result c.in_err-check_room.field-0.0 (λ e. e ≡ NoMemory) c.from_residual.ensures.1
    (refused_not_fat file h c.in_err-check_room.field-0.0 g
    (subst (MayRefuseFat file h) (sym r.0) (few_listed file h r.1)))

pub returns-in_err-check_present-clause-refused : goal.returns-in_err-check_present-clause-refused
returns-in_err-check_present-clause-refused c =
    let file : List ℕ = image_bytes c.args.file in
    let h : HeaderValue = c.args.header.now in
    let whole : length (fat_by file h) ≡ h.fat_count = all_listed file h c.in_ok-check_room.ensures.enough in
    let counted : c.count_entries-count.result ≡ min (128 * h.fat_count) (sectors_in file) =
    c.count_entries-count.ensures ∙ ap (λ n. min (128 * n) (sectors_in file)) c.fat_count.ensures.count in
    let few : h.fat_count ≤ 1125 = omega (arith, c.fat_count.ensures.few, c.fat_count.ensures.count) in
    let r = c.in_err-check_present.ensures.refused in
    refused_with c.from_residual-in_err-check_present.result c.in_err-check_present.field-0.0 (MayRefuseFat file h)
    c.from_residual-in_err-check_present.ensures.1
    (subst (MayRefuseFat file h) (sym r.0)
    (absent file h (fat_by file h ++ difat_by file h) refl whole c.count_entries-count.result counted r.1.0
    (header_listed file h r.1.0 (omega (arith, c.fat_count.ensures.first, c.fat_count.ensures.count))
    (subst (λ xs. Contains xs r.1.0) c.fat.ensures r.1.1)) r.1.2))

pub returns-in_err-check_present-clause-there : goal.returns-in_err-check_present-clause-there
returns-in_err-check_present-clause-there c = λ g.
    let file : List ℕ = image_bytes c.args.file in
    let h : HeaderValue = c.args.header.now in
    let whole : length (fat_by file h) ≡ h.fat_count = all_listed file h c.in_ok-check_room.ensures.enough in
    let counted : c.count_entries-count.result ≡ min (128 * h.fat_count) (sectors_in file) =
    c.count_entries-count.ensures ∙ ap (λ n. min (128 * n) (sectors_in file)) c.fat_count.ensures.count in
    let few : h.fat_count ≤ 1125 = omega (arith, c.fat_count.ensures.few, c.fat_count.ensures.count) in
    let r = c.in_err-check_present.ensures.refused in
    refused_with c.from_residual-in_err-check_present.result c.in_err-check_present.field-0.0 (λ e. e ≡ NoMemory)
    c.from_residual-in_err-check_present.ensures.1
    (refused_not_fat file h c.in_err-check_present.field-0.0 g
    (subst (MayRefuseFat file h) (sym r.0)
    (absent file h (fat_by file h ++ difat_by file h) refl whole c.count_entries-count.result counted r.1.0
    (header_listed file h r.1.0 (omega (arith, c.fat_count.ensures.first, c.fat_count.ensures.count))
    (subst (λ xs. Contains xs r.1.0) c.fat.ensures r.1.1)) r.1.2)))

pub returns-in_err-check_difat-clause-refused : goal.returns-in_err-check_difat-clause-refused
returns-in_err-check_difat-clause-refused c =
    let file : List ℕ = image_bytes c.args.file in
    let h : HeaderValue = c.args.header.now in
    let whole : length (fat_by file h) ≡ h.fat_count = all_listed file h c.in_ok-check_room.ensures.enough in
    let counted : c.count_entries-count.result ≡ min (128 * h.fat_count) (sectors_in file) =
    c.count_entries-count.ensures ∙ ap (λ n. min (128 * n) (sectors_in file)) c.fat_count.ensures.count in
    let few : h.fat_count ≤ 1125 = omega (arith, c.fat_count.ensures.few, c.fat_count.ensures.count) in
    let refused : MayRefuseFat file h c.in_err-check_difat.field-0.0 =
    difat_refused file h (fat_by file h ++ difat_by file h) refl whole c.count_entries-count.result counted
    c.in_err-check_difat.field-0.0 c.deref.result.now few
    (c.deref.ensures.value ∙ c.in_ok-sectors.ensures.difat) c.in_err-check_difat.ensures.refused in
    refused_with c.from_residual-in_err-check_difat.result c.in_err-check_difat.field-0.0 (MayRefuseFat file h)
    c.from_residual-in_err-check_difat.ensures.1 refused

pub returns-in_err-check_difat-clause-there : goal.returns-in_err-check_difat-clause-there
returns-in_err-check_difat-clause-there c = λ g.
    let file : List ℕ = image_bytes c.args.file in
    let h : HeaderValue = c.args.header.now in
    let whole : length (fat_by file h) ≡ h.fat_count = all_listed file h c.in_ok-check_room.ensures.enough in
    let counted : c.count_entries-count.result ≡ min (128 * h.fat_count) (sectors_in file) =
    c.count_entries-count.ensures ∙ ap (λ n. min (128 * n) (sectors_in file)) c.fat_count.ensures.count in
    let few : h.fat_count ≤ 1125 = omega (arith, c.fat_count.ensures.few, c.fat_count.ensures.count) in
    let refused : MayRefuseFat file h c.in_err-check_difat.field-0.0 =
    difat_refused file h (fat_by file h ++ difat_by file h) refl whole c.count_entries-count.result counted
    c.in_err-check_difat.field-0.0 c.deref.result.now few
    (c.deref.ensures.value ∙ c.in_ok-sectors.ensures.difat) c.in_err-check_difat.ensures.refused in
    refused_with c.from_residual-in_err-check_difat.result c.in_err-check_difat.field-0.0 (λ e. e ≡ NoMemory)
    c.from_residual-in_err-check_difat.ensures.1
    (refused_not_fat file h c.in_err-check_difat.field-0.0 g refused)

pub returns-in_err-check_present-2-clause-refused : goal.returns-in_err-check_present-2-clause-refused
returns-in_err-check_present-2-clause-refused c =
    let file : List ℕ = image_bytes c.args.file in
    let h : HeaderValue = c.args.header.now in
    let whole : length (fat_by file h) ≡ h.fat_count = all_listed file h c.in_ok-check_room.ensures.enough in
    let counted : c.count_entries-count.result ≡ min (128 * h.fat_count) (sectors_in file) =
    c.count_entries-count.ensures ∙ ap (λ n. min (128 * n) (sectors_in file)) c.fat_count.ensures.count in
    let few : h.fat_count ≤ 1125 = omega (arith, c.fat_count.ensures.few, c.fat_count.ensures.count) in
    let own_is : c.in_ok-own.own.items ≡ fat_by file h ++ difat_by file h =
    c.in_ok-own.ensures ∙ (λ i. c.in_ok-sectors.ensures.fat i ++ c.in_ok-sectors.ensures.difat i) in
    let r = c.in_err-check_present-2.ensures.refused in
    refused_with c.from_residual-in_err-check_present-2.result c.in_err-check_present-2.field-0.0
    (MayRefuseFat file h) c.from_residual-in_err-check_present-2.ensures.1
    (subst (MayRefuseFat file h) (sym r.0)
    (absent file h c.in_ok-own.own.items own_is whole c.count_entries-count.result counted r.1.0
    (subst (λ xs. Contains xs r.1.0) (c.deref-2.ensures.value ∙ own_is) r.1.1) r.1.2))

pub returns-in_err-check_present-2-clause-there : goal.returns-in_err-check_present-2-clause-there
returns-in_err-check_present-2-clause-there c = λ g.
    let file : List ℕ = image_bytes c.args.file in
    let h : HeaderValue = c.args.header.now in
    let whole : length (fat_by file h) ≡ h.fat_count = all_listed file h c.in_ok-check_room.ensures.enough in
    let counted : c.count_entries-count.result ≡ min (128 * h.fat_count) (sectors_in file) =
    c.count_entries-count.ensures ∙ ap (λ n. min (128 * n) (sectors_in file)) c.fat_count.ensures.count in
    let few : h.fat_count ≤ 1125 = omega (arith, c.fat_count.ensures.few, c.fat_count.ensures.count) in
    let own_is : c.in_ok-own.own.items ≡ fat_by file h ++ difat_by file h =
    c.in_ok-own.ensures ∙ (λ i. c.in_ok-sectors.ensures.fat i ++ c.in_ok-sectors.ensures.difat i) in
    let r = c.in_err-check_present-2.ensures.refused in
    refused_with c.from_residual-in_err-check_present-2.result c.in_err-check_present-2.field-0.0
    (λ e. e ≡ NoMemory) c.from_residual-in_err-check_present-2.ensures.1
    (refused_not_fat file h c.in_err-check_present-2.field-0.0 g
    (subst (MayRefuseFat file h) (sym r.0)
    (absent file h c.in_ok-own.own.items own_is whole c.count_entries-count.result counted r.1.0
    (subst (λ xs. Contains xs r.1.0) (c.deref-2.ensures.value ∙ own_is) r.1.1) r.1.2)))

pub returns-in_err-mark_apart-clause-refused : goal.returns-in_err-mark_apart-clause-refused
returns-in_err-mark_apart-clause-refused c =
    let file : List ℕ = image_bytes c.args.file in
    let h : HeaderValue = c.args.header.now in
    let whole : length (fat_by file h) ≡ h.fat_count = all_listed file h c.in_ok-check_room.ensures.enough in
    let counted : c.count_entries-count.result ≡ min (128 * h.fat_count) (sectors_in file) =
    c.count_entries-count.ensures ∙ ap (λ n. min (128 * n) (sectors_in file)) c.fat_count.ensures.count in
    let few : h.fat_count ≤ 1125 = omega (arith, c.fat_count.ensures.few, c.fat_count.ensures.count) in
    let own_is : c.in_ok-own.own.items ≡ fat_by file h ++ difat_by file h =
    c.in_ok-own.ensures ∙ (λ i. c.in_ok-sectors.ensures.fat i ++ c.in_ok-sectors.ensures.difat i) in
    let difat_is : c.deref.result.now ≡ difat_by file h = c.deref.ensures.value ∙ c.in_ok-sectors.ensures.difat in
    let r = c.in_err-mark_apart.ensures.refused in
    refused_with c.from_residual-in_err-mark_apart.result c.in_err-mark_apart.field-0.0 (MayRefuseFat file h)
    c.from_residual-in_err-mark_apart.ensures.1
    (subst (MayRefuseFat file h) (sym r.0)
    (crossed file h c.deref-4.result.now (c.deref-4.ensures.value ∙ own_is) whole c.count_entries-count.result counted
    c.in_ok-fat.fat.table (replicate c.count_entries-count.result false) few c.in_ok-fat.ensures.count refl
    (subst (λ xs. All (λ n. n < c.count_entries-count.result) xs)
    (c.deref-2.ensures.value ∙ sym c.deref-4.ensures.value) c.in_ok-check_present-2.ensures.present)
    (subst (λ xs. All (λ n. n < c.count_entries-count.result) xs) difat_is c.in_ok-check_difat.ensures.present)
    (subst AreDistinct difat_is c.in_ok-check_difat.ensures.apart)
    (subst (λ (f : FatValue). AreFree f c.deref-4.result.now → ⊥) c.in_ok-fat.ensures.made r.1)))

pub returns-in_err-mark_apart-clause-there : goal.returns-in_err-mark_apart-clause-there
returns-in_err-mark_apart-clause-there c = λ g.
    let file : List ℕ = image_bytes c.args.file in
    let h : HeaderValue = c.args.header.now in
    let whole : length (fat_by file h) ≡ h.fat_count = all_listed file h c.in_ok-check_room.ensures.enough in
    let counted : c.count_entries-count.result ≡ min (128 * h.fat_count) (sectors_in file) =
    c.count_entries-count.ensures ∙ ap (λ n. min (128 * n) (sectors_in file)) c.fat_count.ensures.count in
    let few : h.fat_count ≤ 1125 = omega (arith, c.fat_count.ensures.few, c.fat_count.ensures.count) in
    let own_is : c.in_ok-own.own.items ≡ fat_by file h ++ difat_by file h =
    c.in_ok-own.ensures ∙ (λ i. c.in_ok-sectors.ensures.fat i ++ c.in_ok-sectors.ensures.difat i) in
    let difat_is : c.deref.result.now ≡ difat_by file h = c.deref.ensures.value ∙ c.in_ok-sectors.ensures.difat in
    let r = c.in_err-mark_apart.ensures.refused in
    refused_with c.from_residual-in_err-mark_apart.result c.in_err-mark_apart.field-0.0 (λ e. e ≡ NoMemory)
    c.from_residual-in_err-mark_apart.ensures.1
    (refused_not_fat file h c.in_err-mark_apart.field-0.0 g
    (subst (MayRefuseFat file h) (sym r.0)
    (crossed file h c.deref-4.result.now (c.deref-4.ensures.value ∙ own_is) whole c.count_entries-count.result counted
    c.in_ok-fat.fat.table (replicate c.count_entries-count.result false) few c.in_ok-fat.ensures.count refl
    (subst (λ xs. All (λ n. n < c.count_entries-count.result) xs)
    (c.deref-2.ensures.value ∙ sym c.deref-4.ensures.value) c.in_ok-check_present-2.ensures.present)
    (subst (λ xs. All (λ n. n < c.count_entries-count.result) xs) difat_is c.in_ok-check_difat.ensures.present)
    (subst AreDistinct difat_is c.in_ok-check_difat.ensures.apart)
    (subst (λ (f : FatValue). AreFree f c.deref-4.result.now → ⊥) c.in_ok-fat.ensures.made r.1))))

pub returns-in_err-sectors-clause-refused : goal.returns-in_err-sectors-clause-refused
returns-in_err-sectors-clause-refused c =
    let file : List ℕ = image_bytes c.args.file in
    let h : HeaderValue = c.args.header.now in
    let whole : length (fat_by file h) ≡ h.fat_count = all_listed file h c.in_ok-check_room.ensures.enough in
    let counted : c.count_entries-count.result ≡ min (128 * h.fat_count) (sectors_in file) =
    c.count_entries-count.ensures ∙ ap (λ n. min (128 * n) (sectors_in file)) c.fat_count.ensures.count in
    let few : h.fat_count ≤ 1125 = omega (arith, c.fat_count.ensures.few, c.fat_count.ensures.count) in
    refused_with c.from_residual-in_err-sectors.result NoMemory (MayRefuseFat file h)
    c.from_residual-in_err-sectors.ensures.1 (
      whole,
      all_present file h (fat_by file h ++ difat_by file h) refl whole c.count_entries-count.result counted h.fat few
          (subst (λ xs. All (λ n. n < c.count_entries-count.result) xs) c.fat.ensures
          c.in_ok-check_present.ensures.present),
    )

pub returns-in_err-own-clause-refused : goal.returns-in_err-own-clause-refused
returns-in_err-own-clause-refused c =
    let file : List ℕ = image_bytes c.args.file in
    let h : HeaderValue = c.args.header.now in
    let whole : length (fat_by file h) ≡ h.fat_count = all_listed file h c.in_ok-check_room.ensures.enough in
    let counted : c.count_entries-count.result ≡ min (128 * h.fat_count) (sectors_in file) =
    c.count_entries-count.ensures ∙ ap (λ n. min (128 * n) (sectors_in file)) c.fat_count.ensures.count in
    let few : h.fat_count ≤ 1125 = omega (arith, c.fat_count.ensures.few, c.fat_count.ensures.count) in
    refused_with c.from_residual-in_err-own.result NoMemory (MayRefuseFat file h) c.from_residual-in_err-own.ensures.1 (
      whole,
      all_present file h (fat_by file h ++ difat_by file h) refl whole c.count_entries-count.result counted h.fat few
          (subst (λ xs. All (λ n. n < c.count_entries-count.result) xs) c.fat.ensures
          c.in_ok-check_present.ensures.present),
    )

pub returns-in_err-fat-clause-refused : goal.returns-in_err-fat-clause-refused
returns-in_err-fat-clause-refused c =
    let file : List ℕ = image_bytes c.args.file in
    let h : HeaderValue = c.args.header.now in
    let whole : length (fat_by file h) ≡ h.fat_count = all_listed file h c.in_ok-check_room.ensures.enough in
    let counted : c.count_entries-count.result ≡ min (128 * h.fat_count) (sectors_in file) =
    c.count_entries-count.ensures ∙ ap (λ n. min (128 * n) (sectors_in file)) c.fat_count.ensures.count in
    let few : h.fat_count ≤ 1125 = omega (arith, c.fat_count.ensures.few, c.fat_count.ensures.count) in
    refused_with c.from_residual-in_err-fat.result NoMemory (MayRefuseFat file h) c.from_residual-in_err-fat.ensures.1 (
      whole,
      all_present file h (fat_by file h ++ difat_by file h) refl whole c.count_entries-count.result counted h.fat few
          (subst (λ xs. All (λ n. n < c.count_entries-count.result) xs) c.fat.ensures
          c.in_ok-check_present.ensures.present),
    )

pub returns-clause-table : goal.returns-clause-table
returns-clause-table c =
    let file : List ℕ = image_bytes c.args.file in
    let h : HeaderValue = c.args.header.now in
    let whole : length (fat_by file h) ≡ h.fat_count = all_listed file h c.in_ok-check_room.ensures.enough in
    let counted : c.count_entries-count.result ≡ min (128 * h.fat_count) (sectors_in file) =
    c.count_entries-count.ensures ∙ ap (λ n. min (128 * n) (sectors_in file)) c.fat_count.ensures.count in
    let few : h.fat_count ≤ 1125 = omega (arith, c.fat_count.ensures.few, c.fat_count.ensures.count) in
    let own_is : c.in_ok-own.own.items ≡ fat_by file h ++ difat_by file h =
    c.in_ok-own.ensures ∙ (λ i. c.in_ok-sectors.ensures.fat i ++ c.in_ok-sectors.ensures.difat i) in
    loaded file h c.deref-4.result.now (c.deref-4.ensures.value ∙ own_is) whole c.count_entries-count.result counted
    c.in_ok-fat.fat.table (replicate c.count_entries-count.result false) (joined (sector file) c.deref-3.result.now)
    c.mark_apart.new.self few
    (subst (λ xs. All (λ n. n < c.count_entries-count.result) xs)
    (c.deref-2.ensures.value ∙ sym c.deref-4.ensures.value) c.in_ok-check_present-2.ensures.present)
    (ap (joined (sector file)) (c.deref-3.ensures.value ∙ c.in_ok-sectors.ensures.fat)) c.in_ok-fat.ensures.count
    c.in_ok-fat.ensures.each
    refl
    (subst (λ (f : FatValue). AreFree f c.deref-4.result.now) c.in_ok-fat.ensures.made c.in_ok-mark_apart.ensures.free)
    (c.in_ok-mark_apart.ensures.marks ∙ ap (λ f. marked f c.deref-4.result.now) c.in_ok-fat.ensures.made)
