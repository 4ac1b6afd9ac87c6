-- Bodies of slots as records.
--     decodes_is      what decodes is what the bytes spell
--     restart_encoded, log_encoded      bytes that spell a record are its body
--     part_is, part_same      a part of bytes by its places
use Rattle.std.proofs.Common.{◌≡◌, refl, sym, ap, subst, ◌∙◌, ℕ, ◌+◌, ◌-◌, ◌<◌, ◌≤◌, min, List, length, get_or, take, drop, Option, Some, None, arith, length-take, length-drop}
use Rattle.std.specs.Prelude.{option_map}
use Rattle.std.proofs.lemmas.Grind.{same_number_lists}
use Rattle.std.proofs.lemmas.List.{get_or-take, get_or-drop}
use Rattle.mdb_model.specs.declared.fault.Device.{Device}
use Rattle.mdb_model.specs.declared.fault.Device.TheVariants.{Data, Log, Medium}
use Rattle.mdb_bytes.specs.declared.log_info.LogInfo.{LogInfo}
use Rattle.mdb_bytes.specs.declared.restart_record.RestartRecord.{RestartRecord}
use Rattle.mdb_bytes.specs.Fields.{Format, Spells, Decodes, ReadsBack, decoded}
use Rattle.mdb_bytes.specs.SlotRecords.{log_info_format, restart_format}
use Rattle.mdb_bytes.proofs.Decoding.{decoded-spells, spelled-decoded}
use Rattle.mdb_bytes.proofs.SlotRecordLaws.{log_info_again, restart_again}
use Rattle.gate_slots.specs.declared.body.SlotBody.{SlotBody}
use Rattle.gate_slots.specs.declared.body.SlotBody.TheVariants.{Restart, Log as LogBody}
use Rattle.gate_slots.specs.Slots.{decoded_body, IsFor}

-- what was decoded exactly is what the bytes spell
pub decodes_is : {X : Type 0} (format : Format X) → ReadsBack format → (bytes : List ℕ) (o : Option X) → Decodes format bytes o → o ≡ decoded format bytes
decodes_is format again bytes (Some v) spells = sym (spelled-decoded format again bytes v spells)
decodes_is format again bytes None none =
    elim (decoded format bytes) as (λ o. decoded format bytes ≡ o → None ≡ o) [
      | Some v ↦ λ e. absurd (none v (decoded-spells format bytes v e))
      | None ↦ λ e. refl
    ] refl

-- the bytes of a restart record, on each device that holds one
restart_spelled : (restart : RestartRecord) (bytes : List ℕ) → Spells restart_format restart bytes → (device : Device) → IsFor device (Restart restart) → decoded_body device bytes ≡ Some (Restart restart)
restart_spelled restart bytes spells (Data volume) kind = ap (option_map Restart) (spelled-decoded restart_format restart_again bytes restart spells)
restart_spelled restart bytes spells Log kind = absurd kind
restart_spelled restart bytes spells (Medium medium) kind = absurd kind

-- the same of a body that is one
pub restart_encoded : (body : SlotBody) (restart : RestartRecord) (bytes : List ℕ) → body ≡ Restart restart → Spells restart_format restart bytes
    → (device : Device) → IsFor device body → decoded_body device bytes ≡ Some body
restart_encoded body restart bytes is spells =
    subst (λ (b : SlotBody). (device : Device) → IsFor device b → decoded_body device bytes ≡ Some b) (sym is) (restart_spelled restart bytes spells)

-- the bytes of a log info, on each device that holds one
log_spelled : (info : LogInfo) (bytes : List ℕ) → Spells log_info_format info bytes → (device : Device) → IsFor device (LogBody info) → decoded_body device bytes ≡ Some (LogBody info)
log_spelled info bytes spells (Data volume) kind = absurd kind
log_spelled info bytes spells Log kind = ap (option_map LogBody) (spelled-decoded log_info_format log_info_again bytes info spells)
log_spelled info bytes spells (Medium medium) kind = absurd kind

-- the same of a body that is one
pub log_encoded : (body : SlotBody) (info : LogInfo) (bytes : List ℕ) → body ≡ LogBody info → Spells log_info_format info bytes
    → (device : Device) → IsFor device body → decoded_body device bytes ≡ Some body
log_encoded body info bytes is spells =
    subst (λ (b : SlotBody). (device : Device) → IsFor device b → decoded_body device bytes ≡ Some b) (sym is) (log_spelled info bytes spells)

-- what decodes on a data volume
pub data_decoded : (device : Device) (volume : ℕ) (bytes : List ℕ) (o : Option RestartRecord) → device ≡ Data volume → Decodes restart_format bytes o
    → option_map Restart o ≡ decoded_body device bytes
data_decoded device volume bytes o is decodes =
    ap (option_map Restart) (decodes_is restart_format restart_again bytes o decodes) ∙ ap (λ (d : Device). decoded_body d bytes) (sym is)

-- what decodes on the log volume
pub log_decoded : (device : Device) (bytes : List ℕ) (o : Option LogInfo) → device ≡ Log → Decodes log_info_format bytes o → option_map LogBody o ≡ decoded_body device bytes
log_decoded device bytes o is decodes =
    ap (option_map LogBody) (decodes_is log_info_format log_info_again bytes o decodes) ∙ ap (λ (d : Device). decoded_body d bytes) (sym is)

-- Parts of bytes, of any length: a long literal would be unfolded

-- how many bytes a part has
length-part : (n at : ℕ) (xs : List ℕ) → length (take n (drop at xs)) ≡ min n (length xs - at)
length-part n at xs = length-take n (drop at xs) ∙ ap (min n) (length-drop at xs)

-- one byte of a part
at-part : (n at : ℕ) (xs : List ℕ) (k : ℕ) → k < length (take n (drop at xs)) → get_or (take n (drop at xs)) k 0 ≡ get_or xs (at + k) 0
at-part n at xs k lt =
    let short : k < n = omega (arith, lt, length-part n at xs) in
    get_or-take n (drop at xs) k 0 short ∙ get_or-drop at xs k 0

-- parts of bytes that are the same there
pub part_same : (n at : ℕ) (xs ys : List ℕ) → length xs ≡ length ys → ((k : ℕ) → at ≤ k → k < at + n → get_or xs k 0 ≡ get_or ys k 0) → take n (drop at xs) ≡ take n (drop at ys)
part_same n at xs ys len same =
    same_number_lists (take n (drop at xs)) (take n (drop at ys))
    (length-part n at xs ∙ ap (λ l. min n (l - at)) len ∙ sym (length-part n at ys))
    (λ k lt. (
    let short : k < n = omega (arith, lt, length-part n at xs) in
    let other : k < length (take n (drop at ys)) = omega (arith, lt, length-part n at xs, length-part n at ys, len) in
    at-part n at xs k lt ∙ same (at + k) (omega arith) (omega (arith, short)) ∙ sym (at-part n at ys k other)
    ))

-- a part of bytes that stand there
pub part_is : (n at : ℕ) (xs bytes : List ℕ) → length bytes ≡ n → at + n ≤ length xs → ((k : ℕ) → k < length bytes → get_or xs (at + k) 0 ≡ get_or bytes k 0) → take n (drop at xs) ≡ bytes
part_is n at xs bytes len fits has =
    let long : length (take n (drop at xs)) ≡ length bytes = length-part n at xs ∙ omega (arith, len, fits) in
    same_number_lists (take n (drop at xs)) bytes long (λ k lt. at-part n at xs k lt ∙ has k (omega (arith, lt, long)))
