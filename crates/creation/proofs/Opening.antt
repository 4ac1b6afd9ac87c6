-- The records that are put in force, in images of which all else is written.
--     written_of      what the first pages make of new devices
--     logged_of      what the log info makes of them
--     stands_of      what the restart record makes of them
use Rattle.std.proofs.Common.{◌≡◌, inl, inr, refl, sym, ap, subst, ◌∙◌, ℕ, zero, suc, ◌+◌, ◌-◌, ◌*◌, ◌%◌, ◌<◌, ◌≤◌, List, [], ◌∷◌, length, get_or, sum, replicate, Option, Some, None, arith}
use Rattle.std.proofs.lemmas.Bool.{cases_lt}
use Rattle.mdb_model.specs.declared.fault.Device.TheVariants.{Data, Log, Medium}
use Rattle.mdb_model.specs.Images.{Image, size_of, byte_at}
use Rattle.mdb_host.specs.Disk.{Torn}
use Rattle.mdb_bytes.specs.Firsts.{first_restart, first_log_info, first_root_block}
use Rattle.gate_slots.specs.declared.body.SlotBody.{SlotBody}
use Rattle.gate_slots.specs.declared.body.SlotBody.TheVariants.{Restart, Log as LogBody}
use Rattle.gate_slots.specs.declared.place.Slot.{Slot}
use Rattle.gate_slots.specs.declared.place.Slot.TheVariants.{First, Second}
use Rattle.gate_slots.specs.declared.place.SlotPlace.{SlotPlace}
use Rattle.gate_slots.specs.declared.slots.Slots.{Slots}
use Rattle.gate_slots.specs.Slots.{gate_in, slot_in, in_force, IsBlank, IsReady}
use Rattle.gate_slots.specs.Steps.{Begun}
use Rattle.gate_slots.proofs.Forces.{ready_force}
use Rattle.gate_slots.proofs.Kept.{force_device}
use Rattle.gate_slots.proofs.Places.{slot_shut}
use Rattle.volume_disk.specs.Blocks.{place, device_page, block_at, Writes}
use Rattle.volume_disk.proofs.Pages.{page_agrees, page_kept, data_is}
use Rattle.volume_disk.proofs.Places.{place_here, place_on, at_least, place_is}
use Rattle.creation.specs.Making.{HasZeroVolumes, HasFirstPages, HasAllButRecords, IsLogged}
use Rattle.standing.specs.Standing.{Site, IsSite, AreVolumes, IsNew, ring_of, data_slots, log_slots}
use Rattle.creation.proofs.Fresh.{data_apart, medium_apart, medium_data, log_data}
use Rattle.creation.proofs.Zeros.{zeros_device, zeros_len, byte_of_page}

-- slots whose gates are zero hold nothing
shut : (image : Image) (place : SlotPlace) (slot : Slot) → gate_in image place slot ≡ 0 → slot_in image place slot ≡ None
shut image place slot is = slot_shut image place slot (λ e. let z : 0 ≡ 79 = sym is ∙ e in absurd (omega (arith, z)))

blank_log : (seen image : Image) → ((k : ℕ) → byte_at (seen Log) k ≡ 0) → ((k : ℕ) → byte_at (image Log) k ≡ 0) → IsBlank seen log_slots image
blank_log seen image seen_zero zero_bytes = record { none = none; gates = gates } where
  none : (slot : Slot) → slot_in image log_slots slot ≡ None
  none First = shut image log_slots First (zero_bytes _)
  none Second = shut image log_slots Second (zero_bytes _)

  gates : (slot : Slot) → gate_in image log_slots slot ≡ gate_in seen log_slots slot
  gates First = zero_bytes _ ∙ sym (seen_zero _)
  gates Second = zero_bytes _ ∙ sym (seen_zero _)

blank_data : (seen image : Image) → ((k : ℕ) → k < 16384 → byte_at (seen (Data 1)) k ≡ 0) → ((k : ℕ) → k < 16384 → byte_at (image (Data 1)) k ≡ 0) → IsBlank seen data_slots image
blank_data seen image seen_zero zero_bytes = record { none = none; gates = gates } where
  none : (slot : Slot) → slot_in image data_slots slot ≡ None
  none First = shut image data_slots First (zero_bytes 8191 (omega arith))
  none Second = shut image data_slots Second (zero_bytes 16383 (omega arith))

  gates : (slot : Slot) → gate_in image data_slots slot ≡ gate_in seen data_slots slot
  gates First = zero_bytes 8191 (omega arith) ∙ sym (seen_zero 8191 (omega arith))
  gates Second = zero_bytes 16383 (omega arith) ∙ sym (seen_zero 16383 (omega arith))

-- the first pages have their blocks in the area
root_inside : (blocks : ℕ) → 512 ≤ blocks → first_root_block blocks < blocks
root_inside blocks least = omega (arith, least)

-- blocks of volumes that are the same
blocks_agree : (volumes : List ℕ) → AreVolumes volumes → (a b : Image) → ((i : ℕ) → i < 8 → b (Data (i + 1)) ≡ a (Data (i + 1))) → HasFirstPages volumes a → HasFirstPages volumes b
blocks_agree volumes are a b same pages block low high =
    let at = place_is 1 volumes block (omega (arith, high, root_inside (sum volumes) are.least)) in
    page_agrees a b (Data (place 1 volumes block).0) (place 1 volumes block).1
    (subst (λ (v : ℕ). b (Data v) ≡ a (Data v)) (sym (at.volume ∙ omega arith)) (same at.i (omega (arith, at.there, are.few))))
    ∙ pages block low high

-- a block from 2 on stands behind the slots
kept_block : (volumes : List ℕ) (a b : Image) → Torn (Data 1) 0 16384 a b → (block : ℕ) → 2 ≤ block → block < sum volumes → block_at volumes b block ≡ block_at volumes a block
kept_block [] a b torn block low there = absurd (omega (arith, there))
kept_block (n ∷ ns) a b torn block low there = elim (cases_lt block n) [
  | inl here ↦ subst (λ (p : ℕ × ℕ). device_page b (Data p.0) p.1 ≡ device_page a (Data p.0) p.1) (sym (place_here 1 n ns block here))
      (page_kept a b (Data 1) block torn.size (λ k from to. torn.outside k (inr (omega (arith, low, from)))))
  | inr on ↦ subst (λ (p : ℕ × ℕ). device_page b (Data p.0) p.1 ≡ device_page a (Data p.0) p.1) (sym (place_on 1 n ns block on))
      (page_agrees a b (Data (place 2 ns (block - n)).0) (place 2 ns (block - n)).1 (torn.others (Data (place 2 ns (block - n)).0) (λ e. let v = data_is (place 2 ns (block - n)).0 1 e in absurd (omega (arith, v, at_least 2 ns (block - n))))))
]

-- what the first pages make of new devices
module _ (site : Site) (are : AreVolumes site.volumes) (a b : Image) (fresh : HasZeroVolumes site (length site.volumes) a) (writes : Writes site.volumes (λ block. 2 ≤ block) a b) (pages : HasFirstPages site.volumes b) where
  -- a block of the slots
  slot_page : (p : ℕ) → p < 2 → device_page b (Data 1) p ≡ device_page a (Data 1) p
  slot_page p small =
      let first : 64 ≤ get_or site.volumes 0 0 = are.each 0 (omega (arith, are.some)) in
      subst (λ (q : ℕ × ℕ). device_page b (Data q.0) q.1 ≡ device_page a (Data q.0) q.1) (at_front site.volumes p (omega (arith, small, first)))
      (writes.outside p (omega (arith, small, are.least)) (λ low. absurd (omega (arith, low, small))))
    where
      at_front : (volumes : List ℕ) (p : ℕ) → p < get_or volumes 0 0 → place 1 volumes p ≡ (1, p)
      at_front [] p less = absurd (omega (arith, less))
      at_front (n ∷ ns) p less = place_here 1 n ns p less

  slot_byte : (p k : ℕ) → p < 2 → k < 8192 → byte_at (b (Data 1)) (8192 * p + k) ≡ 0
  slot_byte p k small inside =
      sym (byte_of_page b (Data 1) p k inside) ∙ ap (λ (xs : List ℕ). get_or xs k 0) (slot_page p small) ∙ byte_of_page a (Data 1) p k inside
      ∙ zeros_device (a (Data 1)) (8192 * get_or site.volumes 0 0) (8192 * p + k) (fresh.volumes 0 (omega (arith, are.some)))

  sized : (o : Option (List ℕ)) (n : ℕ) → o ≡ Some (replicate (8192 * n) 0) → size_of o ≡ Some (n * 8192)
  sized o n is = ap size_of is ∙ ap Some (zeros_len (8192 * n) ∙ omega arith)

  log_same : b Log ≡ a Log
  log_same = writes.others Log (λ i inside e. log_data (i + 1) e)

  pub written_of : HasAllButRecords site b
  written_of = record {
    sizes = record {
      volumes = λ i inside. writes.same_sizes (Data (i + 1)) ∙ sized (a (Data (i + 1))) (get_or site.volumes i 0) (fresh.volumes i inside);
      log = ap size_of log_same ∙ sized (a Log) site.log_pages fresh.log;
      media = λ m low high. writes.others (Medium m) (λ i inside e. medium_data m (i + 1) e) ∙ fresh.media m low high;
    };
    log = λ k. ap (λ (o : Option (List ℕ)). byte_at o k) log_same ∙ zeros_device (a Log) (8192 * site.log_pages) k fresh.log;
    slots = λ k small. elim (cases_lt k 8192) [
      | inl first ↦ subst (λ (n : ℕ). byte_at (b (Data 1)) n ≡ 0) (omega arith) (slot_byte 0 k (omega arith) first)
      | inr second ↦ let at : 8192 * 1 + (k - 8192) ≡ k = omega (arith, second) in subst (λ (n : ℕ). byte_at (b (Data 1)) n ≡ 0) at (slot_byte 1 (k - 8192) (omega arith) (omega (arith, small, second)))
    ];
    pages = pages;
  }

-- what the log info makes of them
pub logged_of : (site : Site) (seen a b : Image) (slots : Slots) (body : SlotBody) → slots.place ≡ log_slots → body ≡ LogBody (first_log_info site.birth site.log_pages) → AreVolumes site.volumes
    → HasAllButRecords site seen → HasAllButRecords site a → Begun seen slots body a b → IsLogged site b
logged_of site seen a b slots body at is are seen_was was begun =
    let torn : Torn Log 0 16384 a b = subst (λ (p : SlotPlace). Torn p.device (8192 * p.page) 16384 a b) at begun.torn in
    let ready : IsReady slots body b = begun.ready (subst (λ (p : SlotPlace). IsBlank seen p a) (sym at) (blank_log seen a seen_was.log was.log)) in
    record {
      sizes = record {
        volumes = λ i inside. ap size_of (torn.others (Data (i + 1)) (data_apart (i + 1))) ∙ was.sizes.volumes i inside;
        log = torn.size ∙ was.sizes.log;
        media = λ m low high. torn.others (Medium m) (medium_apart m) ∙ was.sizes.media m low high;
      };
      log = λ k far. torn.outside k (inr far) ∙ was.log k;
      log_info = subst (λ (x : SlotPlace × SlotBody). in_force b x.0 ≡ Some x.1) (λ i. (at i, is i)) (ready_force slots body b ready);
      slots = λ k small. ap (λ (o : Option (List ℕ)). byte_at o k) (torn.others (Data 1) (data_apart 1)) ∙ was.slots k small;
      pages = blocks_agree site.volumes are a b (λ i small. torn.others (Data (i + 1)) (data_apart (i + 1))) was.pages;
    }

-- what the restart record makes of them
pub stands_of : (site : Site) (seen a b : Image) (slots : Slots) (body : SlotBody) → slots.place ≡ data_slots → body ≡ Restart (first_restart site.birth site.volumes) → IsSite site
    → IsLogged site seen → IsLogged site a → Begun seen slots body a b → IsNew site b
stands_of site seen a b slots body at is limits seen_was was begun =
    let torn : Torn (Data 1) 0 16384 a b = subst (λ (p : SlotPlace). Torn p.device (8192 * p.page) 16384 a b) at begun.torn in
    let ready : IsReady slots body b = begun.ready (subst (λ (p : SlotPlace). IsBlank seen p a) (sym at) (blank_data seen a seen_was.slots was.slots)) in
    let same_log : b Log ≡ a Log = torn.others Log (λ e. log_data 1 e) in
    record {
      records = record {
        limits = limits;
        volumes = λ i inside. volume_size torn i ∙ was.sizes.volumes i inside;
        log = ap size_of same_log ∙ was.sizes.log;
        media = λ m low high. torn.others (Medium m) (λ e. medium_data m 1 e) ∙ was.sizes.media m low high;
        restart = subst (λ (x : SlotPlace × SlotBody). in_force b x.0 ≡ Some x.1) (λ i. (at i, is i)) (ready_force slots body b ready);
        log_info = force_device log_slots a b same_log ∙ was.log_info;
        pages = λ block low high. kept_block site.volumes a b torn block low (omega (arith, high, root_inside (sum site.volumes) limits.volumes.least)) ∙ was.pages block low high;
      };
      log = λ e. let z : 0 ≡ 79 = sym (ap (λ (o : Option (List ℕ)). byte_at o (16384 + 0 % ring_of site)) same_log ∙ was.log (16384 + 0 % ring_of site) (omega arith)) ∙ e in absurd (omega (arith, z));
    }
  where
    volume_size : Torn (Data 1) 0 16384 a b → (i : ℕ) → size_of (b (Data (i + 1))) ≡ size_of (a (Data (i + 1)))
    volume_size torn zero = torn.size
    volume_size torn (suc i) = ap size_of (torn.others (Data (suc i + 1)) (λ e. let v = data_is (suc i + 1) 1 e in absurd (omega (arith, v))))
