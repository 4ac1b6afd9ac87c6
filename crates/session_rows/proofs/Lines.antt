-- Each line of a session as an entry of a run, from a world in Online.
--     get_step, get_locked, scan_step, scan_locked      a read, and a scan
--     put_step, put_locked, put_large, put_full      a put
--     del_step, del_none, del_locked, del_large, del_full      a deletion
--     rollback_step      the end of a transaction
use Rattle.std.proofs.Common.{◌≡◌, eq-eqb, refl, subst, ap, ◌∙◌, ℕ, ◌+◌, ◌-◌, ◌<◌, ◌≤◌, Bool, true, false, nat_lt, cond, min, List, [], ◌∷◌, ◌++◌, Option, Some, None, option_map, unwrap_or, lt-ltb, le-ltb}
use Rattle.std.specs.Prelude.{if◌then◌else◌, option_and_then}
use Rattle.std.specs.Ordering.{nat_cmp, eq_by_cmp}
use Rattle.std.specs.FinMap.{get, contains_key, get-insert}
use Rattle.std.specs.Cmp.{nat_cmp_total, unsigned_tied}
use Rattle.std.proofs.lemmas.List.Elements.{All-cons, All-nil}
use Rattle.mdb_model.specs.declared.change.Change.{Change}
use Rattle.mdb_model.specs.declared.change.Change.TheVariants.{Put, Del}
use Rattle.mdb_model.specs.declared.name.Session.{Session}
use Rattle.mdb_model.specs.declared.name.Table.{Table}
use Rattle.mdb_model.specs.declared.name.State.TheVariants.{Online}
use Rattle.mdb_model.specs.declared.script.Command.{Command}
use Rattle.mdb_model.specs.declared.script.Command.TheVariants.{GetRow, PutRow, DelRow, ScanTable, RollbackWork}
use Rattle.mdb_model.specs.declared.script.Refusal.{Refusal}
use Rattle.mdb_model.specs.declared.script.Refusal.TheVariants.{Locked, TransactionLarge, DataFull}
use Rattle.mdb_model.specs.declared.script.Reply.TheVariants.{NoRow, PutDone, DelDone, ScanOpen, RolledBack}
use Rattle.mdb_model.specs.Tables.{place_of}
use Rattle.mdb_model.specs.Pages.{PageReading}
use Rattle.mdb_model.specs.Worlds.{World, Transaction, Lock, ShareKey, ExclusiveKey, ShareTable, transaction, no_transaction, without_transaction}
use Rattle.mdb_model.specs.Sessions.{net_changes, holder, group_bytes, visible}
use Rattle.mdb_model.specs.Space.{need}
use Rattle.mdb_model.specs.Answers.{Answer, plain, refused, row_reply}
use Rattle.mdb_model.specs.Stages.{rows_in_memory}
use Rattle.mdb_model.specs.Steps.{done, locked, changed, rows_of}
use Rattle.mdb_model.specs.Refusals.{refusal, first_cause, refuse_if, too_large}
use Rattle.session_rows.specs.Serving.{no_facts, full_cause}
use Rattle.session_rows.proofs.Entries.{OneStep, entry_refused, entry_done}

-- a world, in Online
abbrev pub online : World → World
online w = record w { state = Online }

module _ (reading : PageReading) (outside : World) where
  abbrev here : World
  here = online outside

  -- who keeps a lock from a session
  abbrev pub held_by : ℕ → Lock → Option Refusal
  held_by session lock = option_map (λ other. Locked (record { 0 = other })) (holder here session lock)

  held : (session : ℕ) (lock : Lock) (other : ℕ) → holder here session lock ≡ Some other → held_by session lock ≡ Some (Locked (record { 0 = other }))
  held session lock other is = ap (option_map (λ other. Locked (record { 0 = other }))) is

  free : (session : ℕ) (lock : Lock) → holder here session lock ≡ None → held_by session lock ≡ None
  free session lock is = ap (option_map (λ other. Locked (record { 0 = other }))) is

  -- a line that is refused
  kept_off : (line : Command) (cause : Refusal) → refusal reading here no_facts line ≡ Some cause → OneStep reading here line (refused cause) here
  kept_off line cause is =
      entry_refused reading (here ∷ []) line cause
      (All-cons (λ w. refusal reading w no_facts line ≡ Some cause) here [] is (All-nil (λ w. refusal reading w no_facts line ≡ Some cause)))

  only_first : (cause : Option Refusal) → first_cause (cause ∷ None ∷ None ∷ None ∷ []) ≡ cause
  only_first None = refl
  only_first (Some cause) = refl

  -- a read, and a scan

  get_refusal : (session : Session) (table : Table) (key : List ℕ) → refusal reading here no_facts (GetRow session table key) ≡ held_by session.0 (ShareKey (table.0, key))
  get_refusal session table key = only_first (held_by session.0 (ShareKey (table.0, key)))

  pub get_locked : (session : Session) (table : Table) (key : List ℕ) (other : ℕ) → holder here session.0 (ShareKey (table.0, key)) ≡ Some other
      → OneStep reading here (GetRow session table key) (refused (Locked (record { 0 = other }))) here
  get_locked session table key other is = kept_off (GetRow session table key) (Locked (record { 0 = other })) (get_refusal session table key ∙ held session.0 (ShareKey (table.0, key)) other is)

  pub get_step : (session : Session) (table : Table) (key : List ℕ) → holder here session.0 (ShareKey (table.0, key)) ≡ None
      → OneStep reading here (GetRow session table key) (plain (row_reply (get (visible here session.0) (table.0, key)))) (locked here session.0 (ShareKey (table.0, key)))
  get_step session table key is =
      entry_done reading here (GetRow session table key) (get_refusal session table key ∙ free session.0 (ShareKey (table.0, key)) is) refl tt

  scan_refusal : (session : Session) (table : Table) → refusal reading here no_facts (ScanTable session table) ≡ held_by session.0 (ShareTable table.0)
  scan_refusal session table = only_first (held_by session.0 (ShareTable table.0))

  pub scan_locked : (session : Session) (table : Table) (other : ℕ) → holder here session.0 (ShareTable table.0) ≡ Some other
      → OneStep reading here (ScanTable session table) (refused (Locked (record { 0 = other }))) here
  scan_locked session table other is = kept_off (ScanTable session table) (Locked (record { 0 = other })) (scan_refusal session table ∙ held session.0 (ShareTable table.0) other is)

  pub scan_step : (session : Session) (table : Table) → holder here session.0 (ShareTable table.0) ≡ None
      → OneStep reading here (ScanTable session table) (record { items = rows_of (visible here session.0) table.0; reply = ScanOpen }) (locked here session.0 (ShareTable table.0))
  scan_step session table is =
      entry_done reading here (ScanTable session table) (scan_refusal session table ∙ free session.0 (ShareTable table.0) is) refl tt

  -- a change

  -- the bytes that a commit of the session has with one more change
  abbrev pub bytes_with : ℕ → Change → ℕ
  bytes_with session change = group_bytes (net_changes ((transaction here session).changes ++ change ∷ []))

  -- the changes of a session with one more
  pub after_change : (session : ℕ) (change : Change) → (transaction (changed here session change) session).changes ≡ (transaction here session).changes ++ change ∷ []
  after_change session change =
      ap (λ (o : Option Transaction). (unwrap_or o no_transaction).changes)
      (get-insert nat_cmp_total here.sessions session with_it session ∙ (λ i. cond (itself session i) (Some with_it) (get here.sessions session)))
    where
      with_it : Transaction
      with_it = record { changes = (transaction here session).changes ++ change ∷ []; locks = ExclusiveKey (place_of change) ∷ (transaction here session).locks }

      itself : (n : ℕ) → eq_by_cmp nat_cmp n n ≡ true
      itself n = unsigned_tied n n ∙ eq-eqb n n refl

  abbrev size_cause : ℕ → Option Refusal
  size_cause bytes = refuse_if (nat_lt (min 1048576 (here.ring - 1)) bytes) (TransactionLarge bytes)

  too_many : (bytes : ℕ) → min 1048576 (here.ring - 1) < bytes → size_cause bytes ≡ Some (TransactionLarge bytes)
  too_many bytes large = let t : nat_lt (min 1048576 (here.ring - 1)) bytes ≡ true = lt-ltb _ _ large in λ i. refuse_if (t i) (TransactionLarge bytes)

  not_too_many : (bytes : ℕ) → bytes ≤ min 1048576 (here.ring - 1) → size_cause bytes ≡ None
  not_too_many bytes small = let t : nat_lt (min 1048576 (here.ring - 1)) bytes ≡ false = le-ltb _ _ small in λ i. refuse_if (t i) (TransactionLarge bytes)

  -- the first of three causes: a lock, the size, the room

  first_lock : (lock size room : Option Refusal) (cause : Refusal) → lock ≡ Some cause → first_cause (lock ∷ size ∷ room ∷ None ∷ []) ≡ Some cause
  first_lock lock size room cause is i = first_cause (is i ∷ size ∷ room ∷ None ∷ [])

  then_size : (lock size room : Option Refusal) (cause : Refusal) → lock ≡ None → size ≡ Some cause → first_cause (lock ∷ size ∷ room ∷ None ∷ []) ≡ Some cause
  then_size lock size room cause no_lock is i = first_cause (no_lock i ∷ is i ∷ room ∷ None ∷ [])

  then_room : (lock size room cause : Option Refusal) → lock ≡ None → size ≡ None → room ≡ cause → first_cause (lock ∷ size ∷ room ∷ None ∷ []) ≡ cause
  then_room lock size room cause no_lock no_size is = (λ i. first_cause (no_lock i ∷ no_size i ∷ is i ∷ None ∷ [])) ∙ alone cause
    where
      alone : (cause : Option Refusal) → first_cause (None ∷ None ∷ cause ∷ None ∷ []) ≡ cause
      alone None = refl
      alone (Some cause) = refl

  module _ (session : Session) (table : Table) (key value : List ℕ) where
    put_size : too_large reading here no_facts (PutRow session table key value) ≡ size_cause (bytes_with session.0 (Put table key value))
    put_size i = size_cause (group_bytes (net_changes (after_change session.0 (Put table key value) i)))

    pub put_locked : (other : ℕ) → holder here session.0 (ExclusiveKey (table.0, key)) ≡ Some other
        → OneStep reading here (PutRow session table key value) (refused (Locked (record { 0 = other }))) here
    put_locked other is =
        kept_off (PutRow session table key value) (Locked (record { 0 = other }))
        (first_lock (held_by session.0 (ExclusiveKey (table.0, key))) (too_large reading here no_facts (PutRow session table key value)) (full_cause reading here (PutRow session table key value)) (Locked (record { 0 = other })) (held session.0 (ExclusiveKey (table.0, key)) other is))

    module _ (is : holder here session.0 (ExclusiveKey (table.0, key)) ≡ None) where
      pub put_large : min 1048576 (here.ring - 1) < bytes_with session.0 (Put table key value)
          → OneStep reading here (PutRow session table key value) (refused (TransactionLarge (bytes_with session.0 (Put table key value)))) here
      put_large too =
          kept_off (PutRow session table key value) (TransactionLarge (bytes_with session.0 (Put table key value)))
          (then_size (held_by session.0 (ExclusiveKey (table.0, key))) (too_large reading here no_facts (PutRow session table key value)) (full_cause reading here (PutRow session table key value)) (TransactionLarge (bytes_with session.0 (Put table key value))) (free session.0 (ExclusiveKey (table.0, key)) is) (put_size ∙ too_many (bytes_with session.0 (Put table key value)) too))

      module _ (small : bytes_with session.0 (Put table key value) ≤ min 1048576 (here.ring - 1)) where
        put_room : (cause : Option Refusal) → full_cause reading here (PutRow session table key value) ≡ cause → refusal reading here no_facts (PutRow session table key value) ≡ cause
        put_room cause full =
            then_room (held_by session.0 (ExclusiveKey (table.0, key))) (too_large reading here no_facts (PutRow session table key value)) (full_cause reading here (PutRow session table key value)) cause (free session.0 (ExclusiveKey (table.0, key)) is) (put_size ∙ not_too_many (bytes_with session.0 (Put table key value)) small) full

        pub put_full : (cause : Refusal) → full_cause reading here (PutRow session table key value) ≡ Some cause → OneStep reading here (PutRow session table key value) (refused cause) here
        put_full cause full = kept_off (PutRow session table key value) cause (put_room (Some cause) full)

        pub put_step : full_cause reading here (PutRow session table key value) ≡ None → OneStep reading here (PutRow session table key value) (plain PutDone) (changed here session.0 (Put table key value))
        put_step room = entry_done reading here (PutRow session table key value) (put_room None room) refl tt

  module _ (session : Session) (table : Table) (key : List ℕ) where
    -- what a deletion gives, by whether there is a row
    abbrev del_pair : Bool → Answer × World
    del_pair row = if row then (plain DelDone, changed here session.0 (Del table key)) else (plain NoRow, locked here session.0 (ExclusiveKey (table.0, key)))

    abbrev del_done : Bool → Answer × World
    del_done true = (plain DelDone, changed here session.0 (Del table key))
    del_done false = (plain NoRow, locked here session.0 (ExclusiveKey (table.0, key)))

    abbrev del_size : Bool → Option Refusal
    del_size true = size_cause (bytes_with session.0 (Del table key))
    del_size false = None

    -- whose changes grow, by whether there is a row
    abbrev pub del_session : Bool → Option ℕ
    del_session row = if row then Some session.0 else None

    -- the size of the changes
    abbrev del_size_by : Bool → Option Refusal
    del_size_by row = option_and_then (λ s. size_cause (group_bytes (net_changes (transaction (del_pair row).1 s).changes))) (del_session row)

    -- the room for the change
    abbrev del_full_by : Bool → Option Refusal
    del_full_by row =
        if rows_in_memory then None
        else option_and_then (λ reserve.
        let want = need (del_pair row).1 + reserve in
        refuse_if (nat_lt here.blocks want) (DataFull want here.blocks))
        (option_map (λ session. 160) (del_session row))

    -- whether the session sees a row there
    module _ (row : Bool) (seen : contains_key (visible here session.0) (table.0, key) ≡ row) where
      del_done_is : done reading here no_facts (DelRow session table key) ≡ del_done row
      del_done_is = (λ i. del_pair (seen i)) ∙ by_row row
        where
          by_row : (b : Bool) → del_pair b ≡ del_done b
          by_row true = refl
          by_row false = refl

      del_size_is : too_large reading here no_facts (DelRow session table key) ≡ del_size row
      del_size_is = (λ i. del_size_by (seen i)) ∙ by_row row
        where
          by_row : (b : Bool) → del_size_by b ≡ del_size b
          by_row true = λ i. size_cause (group_bytes (net_changes (after_change session.0 (Del table key) i)))
          by_row false = refl

    pub del_locked : (other : ℕ) → holder here session.0 (ExclusiveKey (table.0, key)) ≡ Some other
        → OneStep reading here (DelRow session table key) (refused (Locked (record { 0 = other }))) here
    del_locked other is =
        kept_off (DelRow session table key) (Locked (record { 0 = other }))
        (first_lock (held_by session.0 (ExclusiveKey (table.0, key))) (too_large reading here no_facts (DelRow session table key)) (full_cause reading here (DelRow session table key)) (Locked (record { 0 = other })) (held session.0 (ExclusiveKey (table.0, key)) other is))

    module _ (is : holder here session.0 (ExclusiveKey (table.0, key)) ≡ None) where
      module _ (row : Bool) (seen : contains_key (visible here session.0) (table.0, key) ≡ row) where
        del_room : (cause : Option Refusal) → del_size row ≡ None → full_cause reading here (DelRow session table key) ≡ cause → refusal reading here no_facts (DelRow session table key) ≡ cause
        del_room cause small full =
            then_room (held_by session.0 (ExclusiveKey (table.0, key))) (too_large reading here no_facts (DelRow session table key)) (full_cause reading here (DelRow session table key)) cause (free session.0 (ExclusiveKey (table.0, key)) is) (del_size_is row seen ∙ small) full

        del_entry : del_size row ≡ None → full_cause reading here (DelRow session table key) ≡ None → OneStep reading here (DelRow session table key) (del_done row).0 (del_done row).1
        del_entry small room =
            subst (λ (p : Answer × World). OneStep reading here (DelRow session table key) p.0 p.1) (del_done_is row seen)
            (entry_done reading here (DelRow session table key) (del_room None small room) refl tt)

      module _ (seen : contains_key (visible here session.0) (table.0, key) ≡ true) where
        pub del_large : min 1048576 (here.ring - 1) < bytes_with session.0 (Del table key)
            → OneStep reading here (DelRow session table key) (refused (TransactionLarge (bytes_with session.0 (Del table key)))) here
        del_large too =
            kept_off (DelRow session table key) (TransactionLarge (bytes_with session.0 (Del table key)))
            (then_size (held_by session.0 (ExclusiveKey (table.0, key))) (too_large reading here no_facts (DelRow session table key)) (full_cause reading here (DelRow session table key)) (TransactionLarge (bytes_with session.0 (Del table key))) (free session.0 (ExclusiveKey (table.0, key)) is)
            (del_size_is true seen ∙ too_many (bytes_with session.0 (Del table key)) too))

        module _ (small : bytes_with session.0 (Del table key) ≤ min 1048576 (here.ring - 1)) where
          pub del_full : (cause : Refusal) → full_cause reading here (DelRow session table key) ≡ Some cause → OneStep reading here (DelRow session table key) (refused cause) here
          del_full cause full = kept_off (DelRow session table key) cause (del_room true seen (Some cause) (not_too_many (bytes_with session.0 (Del table key)) small) full)

          pub del_step : full_cause reading here (DelRow session table key) ≡ None → OneStep reading here (DelRow session table key) (plain DelDone) (changed here session.0 (Del table key))
          del_step room = del_entry true seen (not_too_many (bytes_with session.0 (Del table key)) small) room

      pub del_none : contains_key (visible here session.0) (table.0, key) ≡ false
          → OneStep reading here (DelRow session table key) (plain NoRow) (locked here session.0 (ExclusiveKey (table.0, key)))
      del_none seen = del_entry false seen refl (λ i. del_full_by (seen i))

  -- the end of a transaction
  pub rollback_step : (session : Session) → OneStep reading here (RollbackWork session) (plain RolledBack) (without_transaction here session.0)
  rollback_step session = entry_done reading here (RollbackWork session) refl refl tt
