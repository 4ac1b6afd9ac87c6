-- The lines of sessions on an open database, against the world that it serves.
--     still_moments      where no device is called each image stands for the world
--     served, still_served      the world that sessions work on; the database serves the one after
--     answered_line, line_does      a line that was answered as the machine answers it
--     counted_read      a line that only locks leaves the world counted
--     scan_reply_is      the reply of the answer to a scan
--     serves_on      the database serves the same world, over a store with the same rows
--     refused_in_admin      a line for the sessions, where they are not let in
use Rattle.std.proofs.Common.{◌≡◌, refl, sym, subst, ap, ◌∙◌, true, false, List, [], ◌∷◌, Some, Result, Ok, Err, IfOk, IfErr}
use Rattle.std.specs.Prelude.{OnOk}
use Rattle.std.specs.List.{list_any}
use Rattle.std.specs.Ordering.{nat_cmp}
use Rattle.std.specs.FinMap.{FinMap}
use Rattle.mdb_model.specs.declared.fault.PageFault.{PageFault}
use Rattle.mdb_model.specs.declared.fault.PageFault.TheVariants.{Failed, Damaged}
use Rattle.mdb_model.specs.declared.fault.Damage.{Damage}
use Rattle.mdb_model.specs.declared.name.State.TheVariants as state
use Rattle.mdb_model.specs.declared.name.Table.{Table}
use Rattle.mdb_model.specs.declared.script.Command.{Command}
use Rattle.mdb_model.specs.declared.script.Refusal.TheVariants.{WrongState, DeviceFailed}
use Rattle.mdb_model.specs.declared.script.Reply.{Reply}
use Rattle.mdb_model.specs.declared.script.Reply.TheVariants.{Refused, ScanOpen}
use Rattle.mdb_model.specs.Answers.{Answer, refused}
use Rattle.mdb_model.specs.Refusals.{states_of, same_state}
use Rattle.mdb_model.specs.Runs.{Entry}
use Rattle.mdb_model.specs.Stages.{is_built}
use Rattle.mdb_model.specs.Tables.{Tables}
use Rattle.mdb_model.specs.Worlds.{World, Transaction, off}
use Rattle.mdb_host.specs.Disk.{Disk}
use Rattle.kept_worlds.specs.InService.{AllStand}
use Rattle.transactions.specs.Ongoing.{Ongoing}
use Rattle.transactions.specs.Standing.{MatchesWorld}
use Rattle.session_rows.specs.Serving.{no_pages, with_sessions, HasKeys, IsServed, IsAnswered}
use Rattle.session_rows.specs.Replies.{IsOfSession, scan_answer}
use Rattle.session_rows.proofs.AnyPages.{IsOfSessions, answered_read}
use Rattle.space_rule.specs.KnownCosts.{KnownCosts}
use Rattle.space_rule.specs.Spaces.{known_costs}
use Rattle.space_lines.specs.Counted.{IsCounted}
use Rattle.store_rows.specs.StoredRows.{stored_rows}
use Rattle.live_area.specs.Serving.{ServesWorld}
use Rattle.open_database.specs.declared.database.Access.{Access}
use Rattle.open_database.specs.declared.database.Access.TheVariants.{Admin, Online}
use Rattle.open_database.specs.declared.database.Database.{Database}
use Rattle.open_database.specs.Outside.{page_reading, StandsFor}
use Rattle.open_database.specs.Serving.{open_state, Serves, FitsOpen, AreOff, LineDoes}
use Rattle.open_database.specs.Stretch.{Completes}
use Rattle.open_database.proofs.Doing.{StandsThroughout, ties_nothing, session_fails, entry_state}
use Rattle.open_database.proofs.Stretches.{moments_still, completes_same, completes_still}

-- where no device is called each image stands for the world
pub still_moments : (d : Disk) (w : World) → AllStand (off w) d → StandsThroughout d d w
still_moments d w stand = moments_still d (λ image. StandsFor image (off w)) stand

-- the database serves a world, on an area as it is now
abbrev pub AreaServes : (tells : Type 0) → Database → Disk → World → Type 0
AreaServes tells database d w = ServesWorld tells database.area.in_force.slots database.area.in_force.record database.area.store database.area.ring d (off w)

-- what the world after a line of a session is
abbrev pub IsAfter : Tables → Ongoing → KnownCosts → World → Type 0
IsAfter rows ongoing known after = IsServed rows ongoing after × IsCounted known after

admin_not_online : (a : Access) → a ≡ Admin → a ≡ Online → ⊥
admin_not_online a one two = cc

module _ (tells : Type 0) (old : Database) (d : Disk) (w : World) (s : Serves tells old d w) (online : old.access ≡ Online) where
  -- the sessions work on it
  pub served : IsServed (stored_rows old.area.store d.seen) old.transactions w
  served = record {
    online = s.state ∙ ap open_state online;
    tables = sym s.area.all_set;
    keys = subst HasKeys (sym s.area.all_set) s.keys;
    stands = s.matches;
    most = s.most;
  }

  module _ (new : Database) (e : Disk) (access : new.access ≡ old.access) (area : AreaServes tells new e w) where
    -- the database serves the one with other transactions
    pub still_served : (rows : Tables) (sessions : FinMap nat_cmp Transaction) → IsAfter rows new.transactions (known_costs new.space) (with_sessions w sessions) → Serves tells new e (with_sessions w sessions)
    still_served rows sessions after = record {
      area = area;
      state = s.state ∙ ap open_state (sym access);
      alone = λ admin. absurd (admin_not_online new.access admin (access ∙ online));
      no_savepoint = s.no_savepoint;
      no_backup = s.no_backup;
      keys = s.keys;
      matches = after.0.stands;
      most = after.0.most;
      counted = after.1;
    }

    -- a line that was answered as the machine answers it
    pub answered_line : (rows : Tables) (line : Command) (answer : Answer) → IsOfSessions line → StandsThroughout d e w
        → IsAnswered no_pages w line answer (IsAfter rows new.transactions (known_costs new.space))
        → Completes page_reading StandsFor d e (w ∷ []) (Some line) answer (FitsOpen tells new e)
    answered_line rows line answer is moments a =
        let b = answered_read page_reading line is w answer (IsAfter rows new.transactions (known_costs new.space)) a in
        completes_same d e w (with_sessions w b.sessions) (Some line) answer (FitsOpen tells new e) moments b.entry refl (λ image left. ties_nothing line is answer.reply w (with_sessions w b.sessions) image)
        (record { w = with_sessions w b.sessions; is = refl; serves = still_served rows b.sessions b.served })

not_failed : (damage : Damage) → Damaged damage ≡ Failed → ⊥
not_failed damage is = cc

-- the line is done, or a device failed
pub line_does : (tells : Type 0) (old new : Database) (d e : Disk) (ws : List World) (fit : FitsOpen tells old d ws) → old.access ≡ Online → new.access ≡ old.access
    → (line : Command) (answer : Reply → Answer) → IsOfSessions line → StandsThroughout d e fit.w → (rows : Tables) (result : Result Reply PageFault)
    → OnOk result (AreaServes tells new e fit.w) → IfErr result (λ fault. fault ≡ Failed)
    → IfOk result (λ reply. IsAnswered no_pages fit.w line (answer reply) (IsAfter rows new.transactions (known_costs new.space)))
    → LineDoes tells d e ws line answer new result
line_does tells old new d e ws fit online access line answer is moments rows (Ok reply) area whole answered =
    subst (λ (vs : List World). Completes page_reading StandsFor d e vs (Some line) (answer reply) (FitsOpen tells new e)) (sym fit.is)
    (answered_line tells old d fit.w fit.serves online new e access area rows line (answer reply) is moments answered)
line_does tells old new d e ws fit online access line answer is moments rows (Err Failed) area whole answered =
    subst (λ (vs : List World). Completes page_reading StandsFor d e vs (Some line) (refused DeviceFailed) AreOff) (sym fit.is) (session_fails d e fit.w line is moments)
line_does tells old new d e ws fit online access line answer is moments rows (Err (Damaged damage)) area whole answered = absurd (not_failed damage whole)

-- what only locks leaves the world counted
pub counted_read : (w : World) (line : Command) (answer : Answer) (rows : Tables) (ongoing : Ongoing) (known : KnownCosts)
    → ((after : World) → Entry no_pages (w ∷ []) (Some line) answer (after ∷ []) → IsCounted known after)
    → IsAnswered no_pages w line answer (IsServed rows ongoing) → IsAnswered no_pages w line answer (IsAfter rows ongoing known)
counted_read w line answer rows ongoing known law a = record {
  sessions = a.sessions;
  entry = a.entry;
  served = (a.served, law (with_sessions w a.sessions) a.entry);
}

pub counted_reads : (w : World) (line : Command) (answer : Reply → Answer) (rows : Tables) (ongoing : Ongoing) (known : KnownCosts) (result : Result Reply PageFault)
    → ((reply : Reply) (after : World) → IsOfSession reply → Entry no_pages (w ∷ []) (Some line) (answer reply) (after ∷ []) → IsCounted known after)
    → IfOk result IsOfSession → IfOk result (λ reply. IsAnswered no_pages w line (answer reply) (IsServed rows ongoing))
    → IfOk result (λ reply. IsAnswered no_pages w line (answer reply) (IsAfter rows ongoing known))
counted_reads w line answer rows ongoing known (Ok reply) law inside a = counted_read w line (answer reply) rows ongoing known (λ after entry. law reply after inside entry) a
counted_reads w line answer rows ongoing known (Err fault) law inside a = tt

-- the reply of the answer to a scan
pub scan_reply_is : (tables : Tables) (table : Table) (reply : Reply) → (scan_answer tables table reply).reply ≡ reply
scan_reply_is tables table ScanOpen = refl
scan_reply_is tables table _ = refl

-- the database serves the same world, over a store with the same rows
pub serves_on : (tells : Type 0) (old new : Database) (d e : Disk) (w : World) → Serves tells old d w → new.access ≡ old.access → new.transactions ≡ old.transactions
    → known_costs new.space ≡ known_costs old.space → AreaServes tells new e w → Serves tells new e w
serves_on tells old new d e w s access transactions space area = record {
  area = area;
  state = s.state ∙ ap open_state (sym access);
  alone = λ admin. s.alone (sym access ∙ admin);
  no_savepoint = s.no_savepoint;
  no_backup = s.no_backup;
  keys = s.keys;
  matches = subst (λ (x : Ongoing). MatchesWorld x w) (sym transactions) s.matches;
  most = ap (λ (x : Ongoing). x.most) transactions ∙ s.most;
  counted = subst (λ (known : KnownCosts). IsCounted known w) (sym space) s.counted;
}

-- a line for the sessions, where they are not let in
pub refused_in_admin : (tells : Type 0) (database : Database) (d : Disk) → database.access ≡ Admin → (ws : List World) (line : Command) → IsOfSessions line
    → is_built line ≡ true → list_any (same_state state.Admin) (states_of line) ≡ false → FitsOpen tells database d ws
    → Completes page_reading StandsFor d d ws (Some line) (refused (WrongState state.Admin)) (FitsOpen tells database d)
refused_in_admin tells database d admin ws line is built not_admitted fit =
    subst (λ (vs : List World). Completes page_reading StandsFor d d vs (Some line) (refused (WrongState state.Admin)) (FitsOpen tells database d)) (sym fit.is)
    (completes_still d fit.w fit.w (Some line) (refused (WrongState state.Admin)) (FitsOpen tells database d) fit.serves.area.stand
    (entry_state fit.w line state.Admin built not_admitted (fit.serves.state ∙ ap open_state admin)) refl
    (λ image left. ties_nothing line is (Refused (WrongState state.Admin)) fit.w fit.w image) (record { w = fit.w; is = refl; serves = fit.serves }))
