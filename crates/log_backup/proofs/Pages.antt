-- Pages that are filled and appended.
--     writes_page, writes_none, writes_reads, writes_on      calls that write pages of a medium
--     writes_same      the same of a writer with the same medium
--     on_ok_both      two facts of a call that went well
--     packs_full, packs_more, packs_filled      what was packed, after them
use Rattle.std.proofs.Common.{◌≡◌, refl, sym, ap, subst, Result, Ok, Err, OnOk, ◌∙◌, ℕ, ◌+◌, ◌-◌, ◌*◌, ◌/◌, ◌<◌, ◌≤◌, List, ◌++◌, length, take, replicate, arith, append_assoc, length-append}
use Rattle.std.proofs.lemmas.List.{append-nil, take_all, length-take-le, length-replicate}
use Rattle.mdb_model.specs.declared.fault.Device.TheVariants.{Medium}
use Rattle.mdb_host.specs.Disk.{Disk, Agree, Calls, Torn}
use Rattle.mdb_host.specs.Reads.{ReadsOnly}
use Rattle.mdb_host.specs.declared.host.Host as host
use Rattle.mdb_host.proofs.Moments.{widen, onward, torn_twice, torn_none, torn_agree, stays}
use Rattle.mdb_bytes.specs.Parts.{page_len}
use Rattle.medium_file.specs.declared.writer.MediumWriter.{MediumWriter}
use Rattle.medium_file.specs.Writing.{IsWriting}
use Rattle.medium_file.proofs.Places.{torn_within}
use Rattle.log_backup.specs.declared.packing.Packing.{Packing}
use Rattle.log_backup.specs.Packing.{packed_len, filled, SameMedium, PagesTorn, WritesPages, Packs}

-- a page that is appended is one of these pages
pub writes_page : {H : Type 0} (h : host.Ghosts H) (m pages at n : ℕ) (a b : H) → page_len ≤ at → at + n ≤ page_len + page_len * (pages - 1) → (h.tells → Calls (h.disk a) (h.disk b) (Torn (Medium m) at n)) → h.faults a ≤ h.faults b
    → h.say_faults b ≡ h.say_faults a → WritesPages h m pages a b
writes_page h m pages at n a b from upto calls later say = record {
  goes = λ told. widen (h.disk a) (h.disk b) (Torn (Medium m) at n) (PagesTorn m pages) (calls told).goes (λ x y left torn. torn_within (Medium m) at n page_len (page_len * (pages - 1)) x y from upto torn);
  seen = λ told. torn_within (Medium m) at n page_len (page_len * (pages - 1)) (h.disk a).seen (h.disk b).seen from upto (calls told).seen;
  later = later;
  say_faults = say;
}

-- where nothing is called, none is written
pub writes_none : {H : Type 0} (h : host.Ghosts H) (m pages : ℕ) (a : H) → WritesPages h m pages a a
writes_none h m pages a = record {
  goes = λ told. stays (h.disk a) (PagesTorn m pages) (torn_none (Medium m) page_len (page_len * (pages - 1)));
  seen = λ told. torn_none (Medium m) page_len (page_len * (pages - 1)) (h.disk a).seen;
  later = omega arith;
  say_faults = refl;
}

-- calls that only read write none
pub writes_reads : {H : Type 0} (h : host.Ghosts H) (m pages : ℕ) (a b : H) → ReadsOnly h a b → WritesPages h m pages a b
writes_reads h m pages a b reads = record {
  goes = λ told. widen (h.disk a) (h.disk b) Agree (PagesTorn m pages) (reads.calm told) (λ x y left same. torn_agree (Medium m) page_len (page_len * (pages - 1)) x x y (torn_none (Medium m) page_len (page_len * (pages - 1)) x) same);
  seen = λ told. torn_agree (Medium m) page_len (page_len * (pages - 1)) (h.disk a).seen (h.disk a).seen (h.disk b).seen (torn_none (Medium m) page_len (page_len * (pages - 1)) (h.disk a).seen) (reads.seen told);
  later = reads.later;
  say_faults = reads.say_faults;
}

-- one call after another
pub writes_on : {H : Type 0} (h : host.Ghosts H) (m pages : ℕ) (a b c : H) → WritesPages h m pages a b → WritesPages h m pages b c → WritesPages h m pages a c
writes_on h m pages a b c one two = record {
  goes = λ told. onward (h.disk a) (h.disk b) (h.disk c) (PagesTorn m pages) (torn_twice (Medium m) page_len (page_len * (pages - 1))) (one.goes told) (two.goes told);
  seen = λ told. torn_twice (Medium m) page_len (page_len * (pages - 1)) (h.disk a).seen (h.disk b).seen (h.disk c).seen (one.seen told) (two.seen told);
  later = omega (arith, one.later, two.later);
  say_faults = two.say_faults ∙ one.say_faults;
}

-- a full page that was appended
pub packs_full : (packing : Packing) (now : MediumWriter) (page bytes : List ℕ) (old new : Disk) → length page ≤ packing.used → ((content : List ℕ) → IsWriting packing.writer content old → IsWriting now (content ++ page) new)
    → Packs packing page bytes old → Packs (record { writer = now; used = 0 }) page bytes new
packs_full packing now page bytes old new full grows packs = record {
  content = packs.content ++ page;
  writing = grows packs.content packs.writing;
  parts = packs.parts ∙ ap (λ (l : List ℕ). packs.content ++ l) (take_all packing.used page full) ∙ sym (append-nil (packs.content ++ page));
}

-- bytes that were put into the page
pub packs_more : (packing : Packing) (used : ℕ) (page now bytes more : List ℕ) (disk : Disk) → take used now ≡ take packing.used page ++ more → Packs packing page bytes disk → Packs (record packing { used = used }) now (bytes ++ more) disk
packs_more packing used page now bytes more disk put packs = record {
  content = packs.content;
  writing = packs.writing;
  parts = ap (λ (l : List ℕ). l ++ more) packs.parts ∙ append_assoc packs.content (take packing.used page) more ∙ ap (λ (l : List ℕ). packs.content ++ l) (sym put);
}

-- how many bytes were packed
pub packs_len : (packing : Packing) (page bytes : List ℕ) (disk : Disk) → packing.used ≤ length page → Packs packing page bytes disk → length bytes ≡ packed_len packing
packs_len packing page bytes disk short packs =
    ap length packs.parts ∙ length-append packs.content (take packing.used page) ∙ omega (arith, packs.writing.count, length-take-le packing.used page short)

-- a full page of what was packed and zeros is all of it
pub packs_filled : (packing now : Packing) (page page2 bytes : List ℕ) (old new : Disk) → 0 < packing.used → packing.used ≤ page_len → length page ≡ page_len → page2 ≡ take packing.used page ++ replicate (page_len - packing.used) 0
    → now.used ≡ 0 → Packs packing page bytes old
    → (Packs (record packing { used = page_len }) page2 (bytes ++ replicate (page_len - packing.used) 0) old → Packs now page2 (bytes ++ replicate (page_len - packing.used) 0) new)
    → IsWriting now.writer (filled bytes) new
packs_filled packing now page page2 bytes old new some short long is none packs grows =
    let zeros : List ℕ = replicate (page_len - packing.used) 0 in
    let long2 : length page2 ≤ page_len = omega (arith, ap length is, length-append (take packing.used page) zeros, length-take-le packing.used page (omega (arith, short, long)), length-replicate {A = ℕ} (page_len - packing.used) 0, short) in
    let done = grows (packs_more packing page_len page page2 bytes zeros old (take_all page_len page2 long2 ∙ is) packs) in
    let whole : bytes ++ zeros ≡ done.content = done.parts ∙ ap (λ (n : ℕ). done.content ++ take n page2) none ∙ append-nil done.content in
    let count : page_len * ((length bytes + page_len - 1) / page_len) - length bytes ≡ page_len - packing.used = omega (arith, packs_len packing page bytes old (omega (arith, short, long)) packs, some, short) in
    subst (λ (l : List ℕ). IsWriting now.writer l new) (sym (ap (λ (n : ℕ). bytes ++ replicate n 0) count ∙ whole)) done.writing

-- a call on a writer with the same medium
pub writes_same : {H : Type 0} (h : host.Ghosts H) (first now : MediumWriter) (a b : H) → SameMedium first now → WritesPages h now.medium now.pages a b → WritesPages h first.medium first.pages a b
writes_same h first now a b same writes = subst (λ (n : ℕ). WritesPages h first.medium n a b) same.pages (subst (λ (n : ℕ). WritesPages h n now.pages a b) same.medium writes)

-- one such call after another
pub writes_on_same : {H : Type 0} (h : host.Ghosts H) (first now : MediumWriter) (a b c : H) → SameMedium first now → WritesPages h first.medium first.pages a b → WritesPages h now.medium now.pages b c → WritesPages h first.medium first.pages a c
writes_on_same h first now a b c same one two = writes_on h first.medium first.pages a b c one (writes_same h first now b c same two)

-- one backup after another is the same
pub same_twice : (a b c : MediumWriter) → SameMedium a b → SameMedium b c → SameMedium a c
same_twice a b c one two = record { medium = two.medium ∙ one.medium; pages = two.pages ∙ one.pages }

-- two facts of a call that went well
pub on_ok_both : {T E : Type 0} (result : Result T E) (P Q R : Type 0) → (P → Q → R) → OnOk result P → OnOk result Q → OnOk result R
on_ok_both (Ok v) P Q R to p q = to p q
on_ok_both (Err e) P Q R to p q = tt
