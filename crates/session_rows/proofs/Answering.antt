-- The lines of sessions, by what their transactions give.
--     scan_changes      a scan leaves all changes as they are
--     get_answered, put_answered, del_answered, scan_answered, rollback_answered      a line is answered as the machine answers it
use Rattle.std.proofs.Common.{◌≡◌, refl, sym, subst, ap, ◌∙◌, ℕ, ◌-◌, ◌<◌, ◌≤◌, Bool, true, false, min, List, Option, Some, None, is_some, Result, Ok, Err, IfOk, IsTrue, arith}
use Rattle.std.specs.Prelude.{OnOk}
use Rattle.std.specs.Ordering.{nat_cmp}
use Rattle.std.specs.FinMap.{FinMap, get, values}
use Rattle.mdb_model.specs.declared.change.Change.{Change}
use Rattle.mdb_model.specs.declared.change.Change.TheVariants.{Put, Del}
use Rattle.mdb_model.specs.declared.fault.PageFault.{PageFault}
use Rattle.mdb_model.specs.declared.name.Session.{Session}
use Rattle.mdb_model.specs.declared.name.Table.{Table}
use Rattle.mdb_model.specs.declared.name.State.TheVariants.{Online}
use Rattle.mdb_model.specs.declared.script.Command.{Command}
use Rattle.mdb_model.specs.declared.script.Command.TheVariants.{GetRow, PutRow, DelRow, ScanTable, RollbackWork}
use Rattle.mdb_model.specs.declared.script.Refusal.TheVariants.{Locked, TransactionLarge, MemoryWanting}
use Rattle.mdb_model.specs.declared.script.Reply.{Reply}
use Rattle.mdb_model.specs.declared.script.Reply.TheVariants.{RolledBack, PutDone, DelDone, NoRow, ScanOpen}
use Rattle.mdb_model.specs.Script.{is_session}
use Rattle.mdb_model.specs.Tables.{Tables, Place, place_cmp, with_changes}
use Rattle.mdb_model.specs.History.{tables_of}
use Rattle.mdb_model.specs.Pages.{PageReading}
use Rattle.mdb_model.specs.Worlds.{World, Transaction, Lock, ShareKey, ExclusiveKey, ShareTable, transaction, without_transaction}
use Rattle.mdb_model.specs.Sessions.{holder, visible, net_changes, group_bytes}
use Rattle.mdb_model.specs.Steps.{rows_of, locked, changed}
use Rattle.mdb_model.specs.Answers.{Answer, plain, refused, row_reply}
use Rattle.mdb_model.specs.Runs.{may_want_memory}
use Rattle.mdb_bytes.specs.Held.{IsFoundRow, Holding}
use Rattle.record_locks.specs.Holders.{holder_in}
use Rattle.transactions.specs.declared.fault.TxFault.{TxFault}
use Rattle.transactions.specs.declared.fault.TxFault.TheVariants as tx
use Rattle.transactions.specs.Calls.{TakesLock, PutDoes, DelDoes, UnlessPage, bytes_with}
use Rattle.transactions.specs.Net.{seen_row}
use Rattle.transactions.specs.Ongoing.{Ongoing, changes_of, AddsLock, AddsChange, EndsTransaction}
use Rattle.transactions.specs.Standing.{MatchesWorld}
use Rattle.transactions.proofs.Machine.{same-holder, same-row, same-bytes, stands-took, stands-changed, stands-ended}
use Rattle.session_rows.specs.declared.room.Room.{Room}
use Rattle.session_rows.specs.declared.room.Room.TheVariants.{Enough, Full}
use Rattle.session_rows.specs.Replies.{is_enough_room, full_refusal, reply_of, got, was_put, deleted, scan_reply, scan_answer}
use Rattle.session_rows.specs.Scan.{seen_rows}
use Rattle.session_rows.specs.Serving.{IsServed, IsAnswered, with_sessions, room_cause, full_cause, RoomIs}
use Rattle.session_rows.proofs.Calls.{kept_answer}
use Rattle.session_rows.proofs.Entries.{OneStep, entry_starved}
use Rattle.session_rows.proofs.Lines as line
use Rattle.session_rows.proofs.Lines.{online, after_change}
use Rattle.session_rows.proofs.NetRows.{net_rows}

-- what holds of a world with its state set to Online holds of one that is in Online
pub whole : (P : World → Type 0) (w : World) → w.state ≡ Online → P (online w) → P w
whole P w is p = subst P (λ i. record w { state = sym is i }) p

-- a lock on a table changes no rows
pub scan_changes : (old new : Ongoing) (session : ℕ) (table : Table) (result : Result (Unit {0}) TxFault) → TakesLock old new session (ShareTable table.0) result → ((fault : PageFault) → result ≡ Err (tx.Page fault) → ⊥)
    → new.changes ≡ old.changes
scan_changes old new session table (Ok done) takes no_page = takes.1.changes
scan_changes old new session table (Err (tx.Locked other)) takes no_page = ap (λ (x : Ongoing). x.changes) takes.1
scan_changes old new session table (Err tx.Memory) takes no_page = ap (λ (x : Ongoing). x.changes) takes.1
scan_changes old new session table (Err (tx.TooLarge bytes)) takes no_page = absurd takes
scan_changes old new session table (Err tx.Full) takes no_page = absurd takes
scan_changes old new session table (Err (tx.Page fault)) takes no_page = absurd (no_page fault refl)

-- bounds along equal numbers
within : (a b most limit : ℕ) → a ≤ most → most ≡ limit → a ≡ b → b ≤ limit
within a b most limit small is same = omega arith

beyond : (n a b most limit : ℕ) → n ≡ a → most < n → most ≡ limit → a ≡ b → limit < b
beyond n a b most limit counted large is same = omega arith

-- what the space rule says, by its test
room_enough : (room : Room) → is_enough_room room ≡ true → room_cause room ≡ None
room_enough Enough is = refl
room_enough (Full want blocks) is = cc

room_full : (room : Room) → is_enough_room room ≡ false → room_cause room ≡ Some (full_refusal room)
room_full Enough is = cc
room_full (Full want blocks) is = refl

-- In a world that is in Online

module _ (reading : PageReading) (rows : Tables) (old new : Ongoing) (w : World) (s : IsServed rows old (online w)) where
  -- the sessions go on
  goes_on : (line : Command) (answer : Answer) (sessions : FinMap nat_cmp Transaction)
      → OneStep reading (online w) line answer (with_sessions (online w) sessions)
      → MatchesWorld new (with_sessions (online w) sessions) → new.most ≡ old.most
      → IsAnswered reading (online w) line answer (IsServed rows new)
  goes_on line answer sessions step stands most = record {
    sessions = sessions;
    entry = step;
    served = record { online = refl; tables = s.tables; keys = s.keys; stands = stands; most = most ∙ s.most };
  }

  -- all stays as it is
  stays : (line : Command) (answer : Answer) → new ≡ old → OneStep reading (online w) line answer (online w)
      → IsAnswered reading (online w) line answer (IsServed rows new)
  stays line answer is step =
      goes_on line answer w.sessions step (subst (λ (x : Ongoing). MatchesWorld x (online w)) (sym is) s.stands) (ap (λ (x : Ongoing). x.most) is)

  starves : (line : Command) → IsTrue (may_want_memory (online w) (Some line)) → new ≡ old
      → IsAnswered reading (online w) line (refused MemoryWanting) (IsServed rows new)
  starves line may is = stays line (refused MemoryWanting) is (entry_starved reading (online w) line may)

  module _ (session : Session) (is_one : IsTrue (is_session session.0)) where
    -- who keeps a lock off in the machine
    held : (lock : Lock) (found : Option ℕ) → holder_in old.locks session.0 lock ≡ found → holder (online w) session.0 lock ≡ found
    held lock found is = sym (same-holder old (online w) s.stands session.0 lock) ∙ is

    took : (lock : Lock) → AddsLock old new session.0 lock → MatchesWorld new (locked (online w) session.0 lock)
    took lock taken = stands-took old new (online w) s.stands session.0 is_one lock taken

    changes : (change : Change) → AddsChange old new session.0 change → MatchesWorld new (changed (online w) session.0 change)
    changes change done = stands-changed old new (online w) s.stands session.0 is_one change done

    -- with one more lock
    locks : (line : Command) (answer : Answer) (lock : Lock) → OneStep reading (online w) line answer (locked (online w) session.0 lock) → AddsLock old new session.0 lock
        → IsAnswered reading (online w) line answer (IsServed rows new)
    locks line answer lock step taken = goes_on line answer (locked (online w) session.0 lock).sessions step (took lock taken) taken.most

    -- the row that the session sees
    row : (place : Place) → seen_row (get (changes_of old session.0) place) (get rows place) ≡ get (visible (online w) session.0) place
    row place =
        (λ i. seen_row (get (changes_of old session.0) place) (get (sym s.tables i) place))
        ∙ same-row old (online w) s.stands session.0 is_one place

    -- the bytes of its commit with one more change
    bytes : (change : Change) → bytes_with old session.0 change ≡ line.bytes_with reading w session.0 change
    bytes change =
        same-bytes old (online w) s.stands session.0 is_one change
        ∙ (λ i. group_bytes (net_changes (after_change reading w session.0 change i)))

    -- they are few enough, or too many, in the machine
    few : (change : Change) → bytes_with old session.0 change ≤ old.most → line.bytes_with reading w session.0 change ≤ min 1048576 (w.ring - 1)
    few change small =
        within (bytes_with old session.0 change) (line.bytes_with reading w session.0 change) old.most (min 1048576 (w.ring - 1)) small s.most (bytes change)

    many : (change : Change) (n : ℕ) → n ≡ bytes_with old session.0 change → old.most < n → min 1048576 (w.ring - 1) < line.bytes_with reading w session.0 change
    many change n counted large =
        beyond n (bytes_with old session.0 change) (line.bytes_with reading w session.0 change) old.most (min 1048576 (w.ring - 1)) counted large s.most (bytes change)

    module _ (table : Table) (key : List ℕ) where
      get_found : (answer : Option (List ℕ)) → seen_row (get (changes_of old session.0) (table.0, key)) (get rows (table.0, key)) ≡ answer
          → holder_in old.locks session.0 (ShareKey (table.0, key)) ≡ None → AddsLock old new session.0 (ShareKey (table.0, key))
          → IsAnswered reading (online w) (GetRow session table key) (plain (row_reply answer)) (IsServed rows new)
      get_found answer is free taken =
          locks (GetRow session table key) (plain (row_reply answer)) (ShareKey (table.0, key))
          (subst (λ (r : Option (List ℕ)). OneStep reading (online w) (GetRow session table key) (plain (row_reply r)) (locked (online w) session.0 (ShareKey (table.0, key))))
          (sym (row (table.0, key)) ∙ is) (line.get_step reading w session table key (held (ShareKey (table.0, key)) None free))) taken

      get_online : (value : List ℕ) (result : Result Bool TxFault) → TakesLock old new session.0 (ShareKey (table.0, key)) result
          → IfOk result (λ found. IsFoundRow found (seen_row (get (changes_of old session.0) (table.0, key)) (get rows (table.0, key))) value)
          → IfOk (reply_of (got value) Enough result) (λ reply. IsAnswered reading (online w) (GetRow session table key) (plain reply) (IsServed rows new))
      get_online value (Ok true) takes found = get_found (Some value) found takes.0 takes.1
      get_online value (Ok false) takes found = get_found None found takes.0 takes.1
      get_online value (Err (tx.Locked other)) takes found =
          stays (GetRow session table key) (refused (Locked other)) takes.1
          (line.get_locked reading w session table key other.0 (held (ShareKey (table.0, key)) (Some other.0) takes.0))
      get_online value (Err tx.Memory) takes found = starves (GetRow session table key) refl takes.1
      get_online value (Err (tx.TooLarge bytes)) takes found = absurd takes
      get_online value (Err tx.Full) takes found = absurd takes
      get_online value (Err (tx.Page fault)) takes found = tt

    scan_online : (table : Table) (result : Result (Unit {0}) TxFault) → TakesLock old new session.0 (ShareTable table.0) result → ((fault : PageFault) → result ≡ Err (tx.Page fault) → ⊥)
        → IsAnswered reading (online w) (ScanTable session table) (scan_answer (seen_rows rows new session.0) table (scan_reply result)) (IsServed rows new)
    scan_online table (Ok done) takes no_page =
        locks (ScanTable session table) (scan_answer (seen_rows rows new session.0) table ScanOpen) (ShareTable table.0)
        (subst (λ (t : Tables). OneStep reading (online w) (ScanTable session table) (record { items = rows_of t table.0; reply = ScanOpen }) (locked (online w) session.0 (ShareTable table.0)))
        seen (line.scan_step reading w session table (held (ShareTable table.0) None takes.0))) takes.1
      where
        changes_in : List (FinMap place_cmp Change) → FinMap place_cmp Change
        changes_in list = changes_of (record new { changes = list }) session.0

        seen : visible (online w) session.0 ≡ seen_rows rows new session.0
        seen =
            sym (net_rows (transaction (online w) session.0).changes (tables_of w.history))
            ∙ (λ i. with_changes (values (sym (s.stands.changes session.0 is_one) i)) (s.tables i))
            ∙ (λ i. with_changes (values (changes_in (sym takes.1.changes i))) rows)
    scan_online table (Err (tx.Locked other)) takes no_page =
        stays (ScanTable session table) (refused (Locked other)) takes.1
        (line.scan_locked reading w session table other.0 (held (ShareTable table.0) (Some other.0) takes.0))
    scan_online table (Err tx.Memory) takes no_page = starves (ScanTable session table) refl takes.1
    scan_online table (Err (tx.TooLarge bytes)) takes no_page = absurd takes
    scan_online table (Err tx.Full) takes no_page = absurd takes
    scan_online table (Err (tx.Page fault)) takes no_page = absurd (no_page fault refl)

    module _ (room : Room) (table : Table) (key value : List ℕ) (rule : RoomIs reading room (online w) (PutRow session table key value)) where
      put_online : (result : Result (Unit {0}) TxFault) → PutDoes old new session.0 (Put table key value) (is_enough_room room) result
          → IfOk (reply_of was_put room result) (λ reply. IsAnswered reading (online w) (PutRow session table key value) (plain reply) (IsServed rows new))
      put_online (Ok done) does =
          goes_on (PutRow session table key value) (plain PutDone) (changed (online w) session.0 (Put table key value)).sessions
          (line.put_step reading w session table key value (held (ExclusiveKey (table.0, key)) None does.0.0) (few (Put table key value) does.0.1) (rule refl ∙ room_enough room does.1))
          (changes (Put table key value) does.2) does.2.most
      put_online (Err (tx.Locked other)) does =
          stays (PutRow session table key value) (refused (Locked other)) does.1
          (line.put_locked reading w session table key value other.0 (held (ExclusiveKey (table.0, key)) (Some other.0) does.0))
      put_online (Err (tx.TooLarge n)) does =
          stays (PutRow session table key value) (refused (TransactionLarge n)) does.3
          (subst (λ (m : ℕ). OneStep reading (online w) (PutRow session table key value) (refused (TransactionLarge m)) (online w)) (sym (does.1 ∙ bytes (Put table key value)))
          (line.put_large reading w session table key value (held (ExclusiveKey (table.0, key)) None does.0) (many (Put table key value) n does.1 does.2)))
      put_online (Err tx.Memory) does = starves (PutRow session table key value) refl does.1
      put_online (Err tx.Full) does =
          stays (PutRow session table key value) (refused (full_refusal room)) does.2
          (line.put_full reading w session table key value (held (ExclusiveKey (table.0, key)) None does.0.0) (few (Put table key value) does.0.1) (full_refusal room) (rule refl ∙ room_full room does.1))
      put_online (Err (tx.Page fault)) does = absurd does

    module _ (room : Room) (table : Table) (key : List ℕ) (rule : RoomIs reading room (online w) (DelRow session table key)) where
      -- whether there is a row in the machine
      seen : (there : Bool) → there ≡ is_some (seen_row (get (changes_of old session.0) (table.0, key)) (get rows (table.0, key)))
          → is_some (get (visible (online w) session.0) (table.0, key)) ≡ there
      seen there is = sym (is ∙ ap is_some (row (table.0, key)))

      -- then its deletion is a change
      ruled : is_some (get (visible (online w) session.0) (table.0, key)) ≡ true → full_cause reading (online w) (DelRow session table key) ≡ room_cause room
      ruled there = rule (λ i. is_some (line.del_session reading w session table key (there i)))

      del_locked : (other : Session) → holder_in old.locks session.0 (ExclusiveKey (table.0, key)) ≡ Some other.0 → new ≡ old
          → IsAnswered reading (online w) (DelRow session table key) (refused (Locked other)) (IsServed rows new)
      del_locked other is kept =
          stays (DelRow session table key) (refused (Locked other)) kept
          (line.del_locked reading w session table key other.0 (held (ExclusiveKey (table.0, key)) (Some other.0) is))

      del_seen : (result : Result Bool TxFault) → DelDoes old new session.0 (Del table key) (is_enough_room room) true result
          → is_some (get (visible (online w) session.0) (table.0, key)) ≡ true
          → IfOk (reply_of deleted room result) (λ reply. IsAnswered reading (online w) (DelRow session table key) (plain reply) (IsServed rows new))
      del_seen (Ok true) does there =
          goes_on (DelRow session table key) (plain DelDone) (changed (online w) session.0 (Del table key)).sessions
          (line.del_step reading w session table key (held (ExclusiveKey (table.0, key)) None does.0.0) there (few (Del table key) does.0.1) (ruled there ∙ room_enough room does.1))
          (changes (Del table key) does.2) does.2.most
      del_seen (Ok false) does there = absurd does
      del_seen (Err (tx.Locked other)) does there = del_locked other does.0 does.1
      del_seen (Err (tx.TooLarge n)) does there =
          stays (DelRow session table key) (refused (TransactionLarge n)) does.3
          (subst (λ (m : ℕ). OneStep reading (online w) (DelRow session table key) (refused (TransactionLarge m)) (online w)) (sym (does.1 ∙ bytes (Del table key)))
          (line.del_large reading w session table key (held (ExclusiveKey (table.0, key)) None does.0) there (many (Del table key) n does.1 does.2)))
      del_seen (Err tx.Memory) does there = starves (DelRow session table key) refl does.1
      del_seen (Err tx.Full) does there =
          stays (DelRow session table key) (refused (full_refusal room)) does.2
          (line.del_full reading w session table key (held (ExclusiveKey (table.0, key)) None does.0.0) there (few (Del table key) does.0.1) (full_refusal room) (ruled there ∙ room_full room does.1))
      del_seen (Err (tx.Page fault)) does there = tt

      del_unseen : (result : Result Bool TxFault) → DelDoes old new session.0 (Del table key) (is_enough_room room) false result
          → is_some (get (visible (online w) session.0) (table.0, key)) ≡ false
          → IfOk (reply_of deleted room result) (λ reply. IsAnswered reading (online w) (DelRow session table key) (plain reply) (IsServed rows new))
      del_unseen (Ok true) does there = absurd does
      del_unseen (Ok false) does there =
          locks (DelRow session table key) (plain NoRow) (ExclusiveKey (table.0, key))
          (line.del_none reading w session table key (held (ExclusiveKey (table.0, key)) None does.0) there) does.1
      del_unseen (Err (tx.Locked other)) does there = del_locked other does.0 does.1
      del_unseen (Err (tx.TooLarge n)) does there = absurd does
      del_unseen (Err tx.Memory) does there = starves (DelRow session table key) refl does.1
      del_unseen (Err tx.Full) does there = absurd does
      del_unseen (Err (tx.Page fault)) does there = tt

      del_online : (there : Bool) (result : Result Bool TxFault) → DelDoes old new session.0 (Del table key) (is_enough_room room) there result
          → there ≡ is_some (seen_row (get (changes_of old session.0) (table.0, key)) (get rows (table.0, key)))
          → IfOk (reply_of deleted room result) (λ reply. IsAnswered reading (online w) (DelRow session table key) (plain reply) (IsServed rows new))
      del_online true result does is = del_seen result does (seen true is)
      del_online false result does is = del_unseen result does (seen false is)

    rollback_online : EndsTransaction old new session.0 → IsAnswered reading (online w) (RollbackWork session) (plain RolledBack) (IsServed rows new)
    rollback_online end =
        goes_on (RollbackWork session) (plain RolledBack) (without_transaction (online w) session.0).sessions (line.rollback_step reading w session)
        (stands-ended old new (online w) s.stands session.0 is_one end) end.most

-- In a world

module _ (reading : PageReading) (known : Type 0) (held held2 : Holding) (old new : Ongoing) (w : World) (s : IsServed held.rows old w) (session : Session) (is_one : IsTrue (is_session session.0)) where
  -- the rows stay as they are
  kept : {T : Type 0} (said : T → Reply) (room : Room) (line : Command) (result : Result T TxFault) → UnlessPage result (known × (held2 ≡ held))
      → IfOk (reply_of said room result) (λ reply. IsAnswered reading w line (plain reply) (IsServed held.rows new))
      → IfOk (reply_of said room result) (λ reply. IsAnswered reading w line (plain reply) (IsServed held2.rows new))
  kept said room line result same is = by_answer (reply_of said room result) (kept_answer said room (known × (held2 ≡ held)) result same) is
    where
      by_answer : (answer : Result Reply PageFault) → OnOk answer (known × (held2 ≡ held)) → IfOk answer (λ reply. IsAnswered reading w line (plain reply) (IsServed held.rows new))
          → IfOk answer (λ reply. IsAnswered reading w line (plain reply) (IsServed held2.rows new))
      by_answer (Ok reply) same is = subst (λ (h : Holding). IsAnswered reading w line (plain reply) (IsServed h.rows new)) (sym same.1) is
      by_answer (Err fault) same is = tt

  pub get_answered : (table : Table) (key value : List ℕ) (result : Result Bool TxFault) → TakesLock old new session.0 (ShareKey (table.0, key)) result
      → IfOk result (λ found. IsFoundRow found (seen_row (get (changes_of old session.0) (table.0, key)) (get held.rows (table.0, key))) value)
      → UnlessPage result (known × (held2 ≡ held))
      → IfOk (reply_of (got value) Enough result) (λ reply. IsAnswered reading w (GetRow session table key) (plain reply) (IsServed held2.rows new))
  get_answered table key value result takes found same =
      kept (got value) Enough (GetRow session table key) result same
      (whole (λ v. IsServed held.rows old v → IfOk (reply_of (got value) Enough result) (λ reply. IsAnswered reading v (GetRow session table key) (plain reply) (IsServed held.rows new))) w s.online
      (λ served. get_online reading held.rows old new w served session is_one table key value result takes found) s)

  pub del_answered : (room : Room) (table : Table) (key : List ℕ) (there : Bool) (result : Result Bool TxFault) → RoomIs reading room w (DelRow session table key)
      → DelDoes old new session.0 (Del table key) (is_enough_room room) there result
      → there ≡ is_some (seen_row (get (changes_of old session.0) (table.0, key)) (get held.rows (table.0, key)))
      → UnlessPage result (known × (held2 ≡ held))
      → IfOk (reply_of deleted room result) (λ reply. IsAnswered reading w (DelRow session table key) (plain reply) (IsServed held2.rows new))
  del_answered room table key there result rule does is same =
      kept deleted room (DelRow session table key) result same
      (whole (λ v. IsServed held.rows old v → RoomIs reading room v (DelRow session table key) → IfOk (reply_of deleted room result) (λ reply. IsAnswered reading v (DelRow session table key) (plain reply) (IsServed held.rows new))) w s.online
      (λ served rule. del_online reading held.rows old new w served session is_one room table key rule there result does is) s rule)

module _ (reading : PageReading) (rows : Tables) (old new : Ongoing) (w : World) (s : IsServed rows old w) (session : Session) (is_one : IsTrue (is_session session.0)) where
  pub put_answered : (room : Room) (table : Table) (key value : List ℕ) (result : Result (Unit {0}) TxFault) → RoomIs reading room w (PutRow session table key value)
      → PutDoes old new session.0 (Put table key value) (is_enough_room room) result
      → IfOk (reply_of was_put room result) (λ reply. IsAnswered reading w (PutRow session table key value) (plain reply) (IsServed rows new))
  put_answered room table key value result rule does =
      whole (λ v. IsServed rows old v → RoomIs reading room v (PutRow session table key value) → IfOk (reply_of was_put room result) (λ reply. IsAnswered reading v (PutRow session table key value) (plain reply) (IsServed rows new))) w s.online
      (λ served rule. put_online reading rows old new w served session is_one room table key value rule result does) s rule

  -- for the value of a row there is no memory
  pub get_starved : (table : Table) (key : List ℕ) → new ≡ old → IsAnswered reading w (GetRow session table key) (refused MemoryWanting) (IsServed rows new)
  get_starved table key is =
      whole (λ v. IsServed rows old v → IsAnswered reading v (GetRow session table key) (refused MemoryWanting) (IsServed rows new)) w s.online
      (λ served. starves reading rows old new w served (GetRow session table key) refl is) s

  pub scan_answered : (table : Table) (result : Result (Unit {0}) TxFault) → TakesLock old new session.0 (ShareTable table.0) result → ((fault : PageFault) → result ≡ Err (tx.Page fault) → ⊥)
      → IsAnswered reading w (ScanTable session table) (scan_answer (seen_rows rows new session.0) table (scan_reply result)) (IsServed rows new)
  scan_answered table result takes no_page =
      whole (λ v. IsServed rows old v → IsAnswered reading v (ScanTable session table) (scan_answer (seen_rows rows new session.0) table (scan_reply result)) (IsServed rows new)) w s.online
      (λ served. scan_online reading rows old new w served session is_one table result takes no_page) s

  pub rollback_answered : EndsTransaction old new session.0 → IsAnswered reading w (RollbackWork session) (plain RolledBack) (IsServed rows new)
  rollback_answered end =
      whole (λ v. IsServed rows old v → IsAnswered reading v (RollbackWork session) (plain RolledBack) (IsServed rows new)) w s.online
      (λ served. rollback_online reading rows old new w served session is_one end) s
