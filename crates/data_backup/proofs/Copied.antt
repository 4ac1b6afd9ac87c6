-- What copying a page and sealing leave.
--     left_after, left_count, none_left      the pages that are left after the first was copied
--     all_left      all pages, before the first was copied
--     agree_torn, agree_then_torn      calls that write nothing, and a write after them
--     all_copied, all_counted      what a run has appended that has no page left
--     fresh_copied, copied_on      a run that has copied nothing, and one page more
--     copying_kept, writing_agree      calls that leave the medium alone
use Rattle.std.proofs.Common.{◌≡◌, refl, sym, ap, subst, ◌∙◌, ℕ, ◌+◌, ◌-◌, ◌<◌, List, [], ◌∷◌, ◌++◌, length, Option, None, Some, arith}
use Rattle.std.specs.FinMap.{len, entries, entries_sorted, len-entries}
use Rattle.std.proofs.lemmas.List.{append_assoc, append-nil}
use Rattle.mdb_model.specs.Images.{Image}
use Rattle.mdb_model.specs.Pages.{Page, PageMap, written_after}
use Rattle.mdb_model.specs.declared.fault.Device.{Device}
use Rattle.mdb_host.specs.Disk.{Disk, Goes, Agree, Torn}
use Rattle.mdb_host.proofs.Moments.{chain, widen, torn_agree, torn_none}
use Rattle.mdb_bytes.specs.WholeBackups.{pages_spelled}
use Rattle.medium_file.specs.Writing.{IsWriting}
use Rattle.medium_file.proofs.Writers.{writing_kept}
use Rattle.mdb_model.specs.declared.fault.Device.TheVariants.{Medium}
use Rattle.data_backup.specs.declared.run.BackupRun.{BackupRun}
use Rattle.data_backup.specs.Frozen.{pages_left, IsFirstOf}
use Rattle.data_backup.specs.Copying.{bytes_of_pages, HasLeft, HasCopied, IsCopying}
use Rattle.data_backup.proofs.Order.{every_page, next_left}

-- a list of no length
nothing : (es : List (ℕ × Page)) → length es ≡ 0 → es ≡ []
nothing [] is = refl
nothing (e ∷ es) is = absurd (omega (arith, is))

-- the others are left after the first
pub left_after : (base : ℕ) (last : Option ℕ) (pages : PageMap) (e : ℕ × Page) (rest : List (ℕ × Page)) → pages_left base last pages ≡ e ∷ rest → pages_left base (Some e.0) pages ≡ rest
left_after base last pages e rest is = next_left last (entries (written_after base pages)) (entries_sorted (written_after base pages)) e rest is

-- one page fewer is left
pub left_count : (base left : ℕ) (last : Option ℕ) (pages : PageMap) (number : ℕ) → IsFirstOf (Some number) (pages_left base last pages) → length (pages_left base last pages) ≡ left
    → length (pages_left base (Some number) pages) ≡ left - 1
left_count base left last pages number first is =
    let here = ap length first.2 in
    ap length (left_after base last pages (number, first.0) first.1 first.2) ∙ omega (arith, here, is)

-- there is a page where some are left
pub none_left : (pages : List (ℕ × Page)) (n : ℕ) → length pages ≡ n → 0 < n → IsFirstOf None pages → ⊥
none_left pages n is some none = omega (arith, ap length none, is, some)

-- all pages, before the first is copied
pub all_left : (base : ℕ) (pages : PageMap) → pages_left base None pages ≡ entries (written_after base pages)
all_left base pages = every_page (entries (written_after base pages))

-- calls that write nothing
pub agree_torn : (d : Device) (at n : ℕ) (old new : Disk) → Goes old new Agree → Goes old new (Torn d at n)
agree_torn d at n old new goes = widen old new Agree (Torn d at n) goes (λ a b left same. torn_agree d at n a a b (torn_none d at n a) same)

-- calls that write nothing, and then a write
pub agree_then_torn : (d : Device) (at n : ℕ) (old mid new : Disk) → Goes old mid Agree → Goes mid new (Torn d at n) → Goes old new (Torn d at n)
agree_then_torn d at n old mid new one two = chain old mid new Agree (Torn d at n) (Torn d at n) one two (λ a b left same. torn_agree d at n a a b (torn_none d at n a) same)
    (λ a b c left same left2 torn. subst (λ (i : Image). Torn d at n i c) (λ i e. same e i) torn)

-- what a run has appended that has no page left
pub all_copied : (run : BackupRun) (pages : PageMap) (content : List ℕ) → HasLeft run pages → run.left ≡ 0 → HasCopied run pages content → content ≡ pages_spelled (written_after run.base pages)
all_copied run pages content has none copied =
    let gone = nothing (pages_left run.base run.last pages) (has ∙ none) in
    sym (append-nil content) ∙ sym (ap (λ (l : List (ℕ × Page)). content ++ bytes_of_pages l) gone) ∙ copied.bytes ∙ ap bytes_of_pages (all_left run.base pages)

-- and how many pages these are
pub all_counted : (run : BackupRun) (pages : PageMap) (content : List ℕ) → HasLeft run pages → run.left ≡ 0 → HasCopied run pages content → run.writer.appended ≡ len (written_after run.base pages)
all_counted run pages content has none copied = let e = copied.count in omega (arith, has, none, e)

-- a run that has copied nothing
pub fresh_copied : (run : BackupRun) (pages : PageMap) → run.last ≡ None → run.writer.appended ≡ 0 → HasCopied run pages []
fresh_copied run pages first none = record {
  bytes = ap (λ (o : Option ℕ). bytes_of_pages (pages_left run.base o pages)) first;
  count = let e = ap (λ (o : Option ℕ). length (pages_left run.base o pages)) first ∙ ap length (all_left run.base pages) in omega (arith, none, e, len-entries (written_after run.base pages));
}

-- one page more
pub copied_on : (run now : BackupRun) (pages : PageMap) (content page : List ℕ) (e : ℕ × Page) (rest : List (ℕ × Page)) → now.base ≡ run.base → now.last ≡ Some e.0 → now.writer.appended ≡ run.writer.appended + 1
    → pages_left run.base run.last pages ≡ e ∷ rest → page ≡ e.1.bytes → HasCopied run pages content → HasCopied now pages (content ++ page)
copied_on run now pages content page e rest base last more is here copied =
    let next : pages_left now.base now.last pages ≡ rest = ap (λ (b : ℕ). pages_left b now.last pages) base ∙ ap (λ (o : Option ℕ). pages_left run.base o pages) last ∙ left_after run.base run.last pages e rest is in
    record {
      bytes =
          append_assoc content page (bytes_of_pages (pages_left now.base now.last pages)) ∙ ap (λ (l : List (ℕ × Page)). content ++ (page ++ bytes_of_pages l)) next
          ∙ ap (λ (l : List ℕ). content ++ (l ++ bytes_of_pages rest)) here ∙ sym (ap (λ (l : List (ℕ × Page)). content ++ bytes_of_pages l) is) ∙ copied.bytes
          ∙ sym (ap (λ (b : ℕ). bytes_of_pages (pages_left b None pages)) base);
      count =
          let e1 = ap length next in
          let e2 = ap length is in
          let e3 = copied.count in
          let e4 = ap (λ (b : ℕ). len (written_after b pages)) base in
          omega (arith, e1, e2, e3, e4, more);
    }

-- the same run after calls that leave its medium alone
pub copying_kept : (run : BackupRun) (pages : PageMap) (old new : Disk) → ((content : List ℕ) → IsWriting run.writer content old → IsWriting run.writer content new) → IsCopying run pages old → IsCopying run pages new
copying_kept run pages old new kept copying = record { content = copying.content; writing = kept copying.content copying.writing; copied = copying.copied }

-- calls that change no device
pub writing_agree : (run : BackupRun) (content : List ℕ) (old new : Disk) → Goes old new Agree → Agree old.seen new.seen → IsWriting run.writer content old → IsWriting run.writer content new
writing_agree run content old new goes same writing = writing_kept run.writer content old new Agree goes (λ a b agree. agree (Medium run.writer.medium)) (same (Medium run.writer.medium)) writing
