-- What the space rule says of a change, against the machine.
--     enough      what suffices
--     put_rule, del_rule, none_rule      what is wanted of a put, of a deletion, and where there is no row
use Rattle.std.proofs.Common.{◌≡◌, refl, sym, ap, ◌∙◌, ℕ, ◌+◌, ◌≤◌, Bool, true, false, nat_lt, is_some, List, Option, Some, None}
use Rattle.std.specs.Prelude.{if◌then◌else◌, option_and_then, option_map}
use Rattle.std.specs.FinMap.{contains_key}
use Rattle.std.proofs.lemmas.Bool.{false≢true, ltb-false}
use Rattle.mdb_model.specs.declared.change.Change.TheVariants.{Put, Del}
use Rattle.mdb_model.specs.declared.name.Session.{Session}
use Rattle.mdb_model.specs.declared.name.Table.{Table}
use Rattle.mdb_model.specs.declared.script.Command.{Command}
use Rattle.mdb_model.specs.declared.script.Command.TheVariants.{PutRow, DelRow}
use Rattle.mdb_model.specs.declared.script.Refusal.{Refusal}
use Rattle.mdb_model.specs.declared.script.Refusal.TheVariants.{DataFull}
use Rattle.mdb_model.specs.declared.script.Reply.TheVariants.{DelDone, NoRow}
use Rattle.mdb_model.specs.Answers.{Answer, plain}
use Rattle.mdb_model.specs.Refusals.{refuse_if, data_full}
use Rattle.mdb_model.specs.Sessions.{visible}
use Rattle.mdb_model.specs.Space.{need}
use Rattle.mdb_model.specs.Steps.{changed, locked}
use Rattle.mdb_model.specs.Worlds.{World, ExclusiveKey}
use Rattle.session_rows.specs.declared.room.Room.TheVariants.{Enough, Full}
use Rattle.session_rows.specs.Replies.{is_enough_room}
use Rattle.session_rows.specs.Serving.{no_pages, no_facts, room_cause, full_cause, RoomIs}
use Rattle.space_lines.specs.Counted.{AreaIsCounted}
use Rattle.space_lines.specs.Weighed.{room_for}

-- where there is room, no more is wanted than there is
pub enough : (want blocks : ℕ) → is_enough_room (room_for want blocks) ≡ true → want ≤ blocks
enough want blocks is = by_test (nat_lt blocks want) refl is where
  by_test : (b : Bool) → nat_lt blocks want ≡ b → is_enough_room (if b then Full want blocks else Enough) ≡ true → want ≤ blocks
  by_test true more is = cc
  by_test false less is = ltb-false blocks want less

-- it is the cause that the machine has
cause_is : (want blocks : ℕ) → room_cause (room_for want blocks) ≡ refuse_if (nat_lt blocks want) (DataFull want blocks)
cause_is want blocks = by_test (nat_lt blocks want) where
  by_test : (b : Bool) → room_cause (if b then Full want blocks else Enough) ≡ refuse_if b (DataFull want blocks)
  by_test true = refl
  by_test false = refl

module _ (counted : AreaIsCounted) (w : World) where
  -- at the stage at which an area may be full
  asked : (line : Command) → full_cause no_pages w line ≡ data_full no_pages w no_facts line
  asked line = ap (λ (b : Bool). if b then None else data_full no_pages w no_facts line) counted

  module _ (session : Session) (table : Table) (key : List ℕ) where
    pub put_rule : (value : List ℕ) → RoomIs no_pages (room_for (need (changed w session.0 (Put table key value)) + 224) w.blocks) w (PutRow session table key value)
    put_rule value some =
        asked (PutRow session table key value) ∙ sym (cause_is (need (changed w session.0 (Put table key value)) + 224) w.blocks)

    -- what is wanted of a deletion, by whether there is a row
    abbrev wanted : Bool → Option Refusal
    wanted row =
        option_and_then (λ reserve.
        let want = need (if row then changed w session.0 (Del table key) else locked w session.0 (ExclusiveKey (table.0, key))) + reserve in
        refuse_if (nat_lt w.blocks want) (DataFull want w.blocks))
        (option_map (λ s. 160) (if row then Some session.0 else None))

    -- what a deletion gives
    abbrev del_pair : Bool → Answer × World
    del_pair row = if row then (plain DelDone, changed w session.0 (Del table key)) else (plain NoRow, locked w session.0 (ExclusiveKey (table.0, key)))

    abbrev by_pair : Bool → Option Refusal
    by_pair row =
        option_and_then (λ reserve.
        let want = need (del_pair row).1 + reserve in
        refuse_if (nat_lt w.blocks want) (DataFull want w.blocks))
        (option_map (λ s. 160) (if row then Some session.0 else None))

    by_row : (b : Bool) → by_pair b ≡ wanted b
    by_row true = refl
    by_row false = refl

    pub del_rule : contains_key (visible w session.0) (table.0, key) ≡ true → RoomIs no_pages (room_for (need (changed w session.0 (Del table key)) + 160) w.blocks) w (DelRow session table key)
    del_rule there some =
        asked (DelRow session table key) ∙ by_row (contains_key (visible w session.0) (table.0, key)) ∙ ap wanted there
        ∙ sym (cause_is (need (changed w session.0 (Del table key)) + 160) w.blocks)

    pub none_rule : contains_key (visible w session.0) (table.0, key) ≡ false → RoomIs no_pages Enough w (DelRow session table key)
    none_rule none some = absurd (false≢true (sym (ap (λ (b : Bool). is_some (if b then Some session.0 else None)) none) ∙ some))
