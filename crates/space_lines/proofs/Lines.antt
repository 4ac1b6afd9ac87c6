-- Lines that change a row, from a world that is counted.
--     Serves      a world that sessions work on, and that is counted
--     widen      what holds of the world after a line
--     starved      a line that memory is short for
--     moved      the rows stay as they are
--     put_done, put_refused      a put
--     del_none, del_done, del_refused      a deletion
use Rattle.std.proofs.Common.{◌≡◌, refl, sym, ap, ◌∙◌, subst, ℕ, ◌+◌, ◌≤◌, Bool, true, false, List, Option, Some, None, is_some, Result, Ok, Err, IfOk, IsTrue, length, arith}
use Rattle.std.specs.Prelude.{option_map, slice_index_or}
use Rattle.std.specs.Ordering.{nat_cmp}
use Rattle.std.specs.FinMap.{FinMap, empty, get, contains_key}
use Rattle.mdb_model.specs.declared.change.Change.{Change}
use Rattle.mdb_model.specs.declared.change.Change.TheVariants.{Put, Del}
use Rattle.mdb_model.specs.declared.name.Session.{Session}
use Rattle.mdb_model.specs.declared.name.Table.{Table}
use Rattle.mdb_model.specs.declared.script.Command.{Command}
use Rattle.mdb_model.specs.declared.script.Command.TheVariants.{PutRow, DelRow}
use Rattle.mdb_model.specs.declared.script.Refusal.TheVariants.{MemoryWanting}
use Rattle.mdb_model.specs.declared.script.Reply.TheVariants.{PutDone, DelDone, NoRow, Refused}
use Rattle.mdb_model.specs.Answers.{Answer, plain, refused}
use Rattle.mdb_model.specs.Runs.{may_want_memory}
use Rattle.mdb_model.specs.Script.{is_session}
use Rattle.mdb_model.specs.Sessions.{visible}
use Rattle.mdb_model.specs.Space.{need}
use Rattle.mdb_model.specs.Steps.{changed}
use Rattle.mdb_model.specs.Tables.{Place, Tables, place_cmp, place_of}
use Rattle.mdb_model.specs.Worlds.{World, Transaction, ExclusiveKey}
use Rattle.mdb_bytes.specs.Held.{Holding}
use Rattle.record_locks.specs.Holders.{holder_in}
use Rattle.transactions.specs.declared.fault.TxFault.{TxFault}
use Rattle.transactions.specs.declared.fault.TxFault.TheVariants as tx
use Rattle.transactions.specs.Calls.{PutDoes, DelDoes}
use Rattle.transactions.specs.Locked.{AreLocked}
use Rattle.transactions.specs.Net.{seen_row, seen_length}
use Rattle.transactions.specs.Ongoing.{Ongoing, changes_of, AddsChange}
use Rattle.transactions.proofs.Machine.{stands-changed}
use Rattle.session_rows.specs.declared.room.Room.{Room}
use Rattle.session_rows.specs.declared.room.Room.TheVariants.{Enough}
use Rattle.session_rows.specs.Replies.{is_enough_room, full_refusal, refusal_of, reply_of, was_put, deleted}
use Rattle.session_rows.specs.Serving.{no_pages, IsServed, IsAnswered, with_sessions}
use Rattle.session_rows.proofs.Answering.{put_answered, del_answered}
use Rattle.session_rows.proofs.Entries.{entry_starved}
use Rattle.space_rule.specs.KnownCosts.{KnownCosts, need_of, noted, prepared_for}
use Rattle.space_lines.specs.Counted.{AreaIsCounted, IsCounted}
use Rattle.space_lines.specs.Weighed.{room_for}
use Rattle.space_lines.proofs.Alike.{counted_matched}
use Rattle.space_lines.proofs.Counting.{counted_prepared, seen_is, need_changed, counted_changed}
use Rattle.space_lines.proofs.Room.{enough, put_rule, del_rule, none_rule}

-- a world that sessions work on, and that is counted
abbrev pub Serves : Tables → Ongoing → KnownCosts → World → Type 0
Serves rows x known after = IsServed rows x after × IsCounted known after

-- what holds of the world after a line
pub widen : (w : World) (line : Command) (answer : Answer) (P Q : World → Type 0) → ((sessions : FinMap nat_cmp Transaction) → P (with_sessions w sessions) → Q (with_sessions w sessions))
    → IsAnswered no_pages w line answer P → IsAnswered no_pages w line answer Q
widen w line answer P Q more a = record { sessions = a.sessions; entry = a.entry; served = more a.sessions a.served }

-- the rows stay as they are
pub moved : (w : World) (line : Command) (answer : Answer) (x : Ongoing) (known : KnownCosts) (held held2 : Holding) → held2 ≡ held
    → IsAnswered no_pages w line answer (Serves held.rows x known) → IsAnswered no_pages w line answer (Serves held2.rows x known)
moved w line answer x known held held2 same a = subst (λ (h : Holding). IsAnswered no_pages w line answer (Serves h.rows x known)) (sym same) a

-- some value has a length
is_some-length : (o : Option (List ℕ)) → is_some (option_map (λ value. length value) o) ≡ is_some o
is_some-length None = refl
is_some-length (Some value) = refl

module _ (held : Holding) (old new : Ongoing) (w : World) (s : IsServed held.rows old w) (known : KnownCosts) (c : IsCounted known w) where
  -- memory was short, and nothing was done
  pub starved : (line : Command) → IsTrue (may_want_memory w (Some line)) → (p : Option Place) → IsAnswered no_pages w line (refused MemoryWanting) (Serves held.rows old (prepared_for known p))
  starved line may p = record { sessions = w.sessions; entry = entry_starved no_pages w line may; served = (s, counted_prepared known p w c) }

  -- the sessions have changed nothing more
  unchanged : (line : Command) (answer : Answer) (known2 : KnownCosts) → ((after : World) → IsCounted known after → IsCounted known2 after)
      → new.changes ≡ old.changes → IsAnswered no_pages w line answer (IsServed held.rows new) → IsAnswered no_pages w line answer (Serves held.rows new known2)
  unchanged line answer known2 more same =
      widen w line answer (IsServed held.rows new) (Serves held.rows new known2) (λ sessions served. (
        served,
        more (with_sessions w sessions) (counted_matched new w
            (λ number is. ap (λ (l : List (FinMap place_cmp Change)). slice_index_or l number empty) same ∙ s.stands.changes number is)
            s.stands.numbered sessions served.stands known c),
      ))

  -- nothing was done
  kept : (line : Command) (answer : Answer) (p : Option Place) → new ≡ old → IsAnswered no_pages w line answer (IsServed held.rows new) → IsAnswered no_pages w line answer (Serves held.rows new (prepared_for known p))
  kept line answer p same = unchanged line answer (prepared_for known p) (λ after is. counted_prepared known p after is) (ap (λ (x : Ongoing). x.changes) same)

  module _ (session : Session) (is_one : IsTrue (is_session session.0)) (locked : AreLocked old.locks old.changes) (table : Table) (key : List ℕ) (counted : AreaIsCounted)
      (before : Option ℕ) (seen : before ≡ seen_length (get (changes_of old session.0) (table.0, key)) (get held.rows (table.0, key))) where
    -- where the row stands
    abbrev place : Place
    place = (table.0, key)

    seen_there : before ≡ option_map (λ value. length value) (get (visible w session.0) place)
    seen_there = seen ∙ seen_is held.rows old w s session.0 is_one place

    abbrev IsFree : Type 0
    IsFree = holder_in old.locks session.0 (ExclusiveKey place) ≡ None

    -- a change that was made, with room for it
    made : (line : Command) (answer : Answer) (change : Change) → place_of change ≡ place → (reserve : ℕ) → 160 ≤ reserve
        → (is : before ≡ option_map (λ value. length value) (get (visible w session.0) (place_of change))) → holder_in old.locks session.0 (ExclusiveKey (place_of change)) ≡ None
        → need_of (noted known session.0 change before) + reserve ≤ known.blocks → AddsChange old new session.0 change
        → IsAnswered no_pages w line answer (IsServed held.rows new) → IsAnswered no_pages w line answer (Serves held.rows new (noted known session.0 change before))
    made line answer change at reserve many is free fits done =
        widen w line answer (IsServed held.rows new) (Serves held.rows new (noted known session.0 change before)) (λ sessions served. (
          served,
          (let stands = stands-changed old new w s.stands session.0 is_one change done in
              counted_matched new (changed w session.0 change) (λ number is. stands.changes number is) stands.numbered sessions served.stands (noted known session.0 change before)
              (counted_changed old w s.stands locked known c session.0 is_one change before is free (omega (arith, many, fits)))),
        ))

    module _ (value : List ℕ) (room : Room) (weighs : room ≡ room_for (need_of (noted known session.0 (Put table key value) before) + 224) known.blocks) where
      abbrev put : Change
      put = Put table key value

      abbrev put_line : Command
      put_line = PutRow session table key value

      -- what the machine says
      abbrev put_room : Room
      put_room = room_for (need (changed w session.0 put) + 224) w.blocks

      put_same : IsFree → room ≡ put_room
      put_same free =
          weighs ∙ (λ i. room_for (need_changed old w s.stands locked known c session.0 is_one put before seen_there free i + 224) (c.known_of.blocks i))

      put_base : (result : Result (Unit {0}) TxFault) → PutDoes old new session.0 put (is_enough_room put_room) result
          → IfOk (reply_of was_put put_room result) (λ reply. IsAnswered no_pages w put_line (plain reply) (IsServed held.rows new))
      put_base result does = put_answered no_pages held.rows old new w s session is_one put_room table key value result (put_rule counted w session table key value) does

      pub put_done : PutDoes old new session.0 put (is_enough_room room) (Ok tt) → IsAnswered no_pages w put_line (plain PutDone) (Serves held.rows new (noted known session.0 put before))
      put_done does =
          made put_line (plain PutDone) put refl 224 (omega arith) seen_there does.0.0
          (enough (need_of (noted known session.0 put before) + 224) known.blocks (ap is_enough_room (sym weighs) ∙ does.1)) does.2
          (put_base (Ok tt) (subst (λ (r : Room). PutDoes old new session.0 put (is_enough_room r) (Ok tt)) (put_same does.0.0) does))

      pub put_refused : (fault : TxFault) → PutDoes old new session.0 put (is_enough_room room) (Err fault) → (p : Option Place)
          → IfOk (refusal_of room fault) (λ reply. IsAnswered no_pages w put_line (plain reply) (Serves held.rows new (prepared_for known p)))
      put_refused (tx.Locked other) does p = kept put_line _ p does.1 (put_base (Err (tx.Locked other)) does)
      put_refused (tx.TooLarge bytes) does p = kept put_line _ p does.3 (put_base (Err (tx.TooLarge bytes)) does)
      put_refused tx.Memory does p = kept put_line _ p does.1 (put_base (Err tx.Memory) does)
      put_refused tx.Full does p =
          kept put_line (plain (Refused (full_refusal room))) p does.2
          (subst (λ (r : Room). IsAnswered no_pages w put_line (plain (Refused (full_refusal r))) (IsServed held.rows new)) (sym (put_same does.0.0))
          (put_base (Err tx.Full) (subst (λ (r : Room). PutDoes old new session.0 put (is_enough_room r) (Err tx.Full)) (put_same does.0.0) does)))
      put_refused (tx.Page fault) does p = absurd does

    abbrev del : Change
    del = Del table key

    abbrev del_line : Command
    del_line = DelRow session table key

    -- whether the session sees a row
    row_is : is_some before ≡ is_some (seen_row (get (changes_of old session.0) place) (get held.rows place))
    row_is = ap is_some seen ∙ is_some-length (seen_row (get (changes_of old session.0) place) (get held.rows place))

    there_is : contains_key (visible w session.0) place ≡ is_some before
    there_is = sym (ap is_some seen_there ∙ is_some-length (get (visible w session.0) place))

    -- where it sees none, the key is locked
    pub del_none : is_some before ≡ false → (result : Result Bool TxFault) → DelDoes old new session.0 del true false result
        → IfOk (reply_of deleted Enough result) (λ reply. IsAnswered no_pages w del_line (plain reply) (Serves held.rows new known))
    del_none none result does = by_result result does (base result does) where
      base : (result : Result Bool TxFault) → DelDoes old new session.0 del true false result
          → IfOk (reply_of deleted Enough result) (λ reply. IsAnswered no_pages w del_line (plain reply) (IsServed held.rows new))
      base (Ok b) does = del_answered no_pages (Unit {0}) held held old new w s session is_one Enough table key false (Ok b) (none_rule counted w session table key (there_is ∙ none)) does (sym none ∙ row_is) (tt, refl)
      base (Err (tx.Locked other)) does = del_answered no_pages (Unit {0}) held held old new w s session is_one Enough table key false (Err (tx.Locked other)) (none_rule counted w session table key (there_is ∙ none)) does (sym none ∙ row_is) (tt, refl)
      base (Err tx.Memory) does = del_answered no_pages (Unit {0}) held held old new w s session is_one Enough table key false (Err tx.Memory) (none_rule counted w session table key (there_is ∙ none)) does (sym none ∙ row_is) (tt, refl)
      base (Err (tx.TooLarge bytes)) does = absurd does
      base (Err tx.Full) does = absurd does
      base (Err (tx.Page fault)) does = tt

      by_result : (result : Result Bool TxFault) → DelDoes old new session.0 del true false result
          → IfOk (reply_of deleted Enough result) (λ reply. IsAnswered no_pages w del_line (plain reply) (IsServed held.rows new))
          → IfOk (reply_of deleted Enough result) (λ reply. IsAnswered no_pages w del_line (plain reply) (Serves held.rows new known))
      by_result (Ok true) does is = absurd does
      by_result (Ok false) does is = unchanged del_line (plain NoRow) known (λ after counted. counted) does.1.changes is
      by_result (Err (tx.Locked other)) does is = unchanged del_line _ known (λ after counted. counted) (ap (λ (x : Ongoing). x.changes) does.1) is
      by_result (Err tx.Memory) does is = unchanged del_line _ known (λ after counted. counted) (ap (λ (x : Ongoing). x.changes) does.1) is
      by_result (Err (tx.TooLarge bytes)) does is = absurd does
      by_result (Err tx.Full) does is = absurd does
      by_result (Err (tx.Page fault)) does is = tt

    module _ (there : is_some before ≡ true) (room : Room) (weighs : room ≡ room_for (need_of (noted known session.0 del before) + 160) known.blocks) where
      -- what the machine says
      abbrev del_room : Room
      del_room = room_for (need (changed w session.0 del) + 160) w.blocks

      del_same : IsFree → room ≡ del_room
      del_same free =
          weighs ∙ (λ i. room_for (need_changed old w s.stands locked known c session.0 is_one del before seen_there free i + 160) (c.known_of.blocks i))

      del_base : (result : Result Bool TxFault) → DelDoes old new session.0 del (is_enough_room del_room) true result
          → IfOk (reply_of deleted del_room result) (λ reply. IsAnswered no_pages w del_line (plain reply) (IsServed held.rows new))
      del_base (Ok b) does = del_answered no_pages (Unit {0}) held held old new w s session is_one del_room table key true (Ok b) (del_rule counted w session table key (there_is ∙ there)) does (sym there ∙ row_is) (tt, refl)
      del_base (Err (tx.Locked other)) does = del_answered no_pages (Unit {0}) held held old new w s session is_one del_room table key true (Err (tx.Locked other)) (del_rule counted w session table key (there_is ∙ there)) does (sym there ∙ row_is) (tt, refl)
      del_base (Err (tx.TooLarge bytes)) does = del_answered no_pages (Unit {0}) held held old new w s session is_one del_room table key true (Err (tx.TooLarge bytes)) (del_rule counted w session table key (there_is ∙ there)) does (sym there ∙ row_is) (tt, refl)
      del_base (Err tx.Memory) does = del_answered no_pages (Unit {0}) held held old new w s session is_one del_room table key true (Err tx.Memory) (del_rule counted w session table key (there_is ∙ there)) does (sym there ∙ row_is) (tt, refl)
      del_base (Err tx.Full) does = del_answered no_pages (Unit {0}) held held old new w s session is_one del_room table key true (Err tx.Full) (del_rule counted w session table key (there_is ∙ there)) does (sym there ∙ row_is) (tt, refl)
      del_base (Err (tx.Page fault)) does = tt

      pub del_done : (b : Bool) → DelDoes old new session.0 del (is_enough_room room) true (Ok b) → IsAnswered no_pages w del_line (plain DelDone) (Serves held.rows new (noted known session.0 del before))
      del_done false does = absurd does
      del_done true does =
          made del_line (plain DelDone) del refl 160 (omega arith) seen_there does.0.0
          (enough (need_of (noted known session.0 del before) + 160) known.blocks (ap is_enough_room (sym weighs) ∙ does.1)) does.2
          (del_base (Ok true) (subst (λ (r : Room). PutDoes old new session.0 del (is_enough_room r) (Ok tt)) (del_same does.0.0) does))

      pub del_refused : (fault : TxFault) → DelDoes old new session.0 del (is_enough_room room) true (Err fault) → (p : Option Place)
          → IfOk (refusal_of room fault) (λ reply. IsAnswered no_pages w del_line (plain reply) (Serves held.rows new (prepared_for known p)))
      del_refused (tx.Locked other) does p = kept del_line _ p does.1 (del_base (Err (tx.Locked other)) does)
      del_refused (tx.TooLarge bytes) does p = kept del_line _ p does.3 (del_base (Err (tx.TooLarge bytes)) does)
      del_refused tx.Memory does p = kept del_line _ p does.1 (del_base (Err tx.Memory) does)
      del_refused tx.Full does p =
          kept del_line (plain (Refused (full_refusal room))) p does.2
          (subst (λ (r : Room). IsAnswered no_pages w del_line (plain (Refused (full_refusal r))) (IsServed held.rows new)) (sym (del_same does.0.0))
          (del_base (Err tx.Full) (subst (λ (r : Room). PutDoes old new session.0 del (is_enough_room r) (Err tx.Full)) (del_same does.0.0) does)))
      del_refused (tx.Page fault) does p = tt
