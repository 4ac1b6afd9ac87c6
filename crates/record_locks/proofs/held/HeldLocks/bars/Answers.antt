use Rattle.std.proofs.Common.{◌≡◌, refl, sym, ap, ◌∙◌, Bool, true, false, ◌||◌, ◌==◌, List}
use Rattle.std.specs.List.{list_any}
use Rattle.mdb_model.specs.Tables.{Place}
use Rattle.mdb_model.specs.Worlds.{Lock, ShareKey, ExclusiveKey, ShareTable}
use Rattle.mdb_model.specs.Sessions.{conflict, same_place}
use Rattle.record_locks.specs.Holding.{wanted_lock}
use Rattle.record_locks.proofs.SessionLocks.{share-barred, exclusive-barred, table-barred}
use Rattle.record_locks.proofs.held.HeldLocks.bars.Goals as goal
use Rattle.record_locks.proofs.held.HeldLocks.bars.Goals.{then-contains, else-contains}

pub returns-in-ShareKey : goal.returns-in-ShareKey
returns-in-ShareKey c =
    let p : Place = (c.in-ShareKey.table.0, c.in-ShareKey.key.now) in
    c.contains.ensures
    ∙ sym (share-barred c.self.inside.shared c.self.inside.exclusive c.self.inside.tables p)
    ∙ ap (λ (locks : List Lock). list_any (conflict (ShareKey p)) locks) c.self.view_is
    ∙ ap (λ wanted. list_any (conflict (wanted_lock wanted)) c.args.self.now) (sym c.in-ShareKey.is)

-- a lock in one of the first two parts
earlier : (a b either rest : Bool) → either ≡ (a || b) → either ≡ true → either ≡ (a || (b || rest))
earlier true b either rest is holds = holds
earlier false true either rest is holds = holds
earlier false false either rest is holds = cc

-- none in the first two
later : (a b either rest : Bool) → either ≡ (a || b) → either ≡ false → rest ≡ (a || (b || rest))
later true b either rest is none = cc
later false true either rest is none = cc
later false false either rest is none = refl

first_of : (a b either : Bool) → either ≡ true → a ≡ true → either ≡ (a || b)
first_of true b either is holds = is
first_of false b either is holds = cc

second_of : (a b either : Bool) → either ≡ b → a ≡ false → either ≡ (a || b)
second_of true b either is none = cc
second_of false b either is none = is

pub returns-then-contains-2 : goal.returns-then-contains-2
returns-then-contains-2 c =
    let p : Place = (c.in-ExclusiveKey.table.0, c.in-ExclusiveKey.key.now) in
    let a : Bool = list_any (same_place p) c.self.inside.shared in
    let b : Bool = list_any (same_place p) c.self.inside.exclusive in
    let either : c.if-contains.value ≡ (a || b) = elim c.if-contains.branch [
      | then-contains w ↦ first_of a b c.if-contains.value (w.value-is ∙ w.if-contains.true) (sym w.if-contains.ensures)
      | else-contains w ↦ second_of a b c.if-contains.value (w.value-is ∙ w.contains-else-contains.ensures) (sym w.if-contains.ensures)
    ] in
    earlier a b c.if-contains.value (list_any (λ t. p.0 == t) c.self.inside.tables) either c.if-contains-2.true
    ∙ sym (exclusive-barred c.self.inside.shared c.self.inside.exclusive c.self.inside.tables p)
    ∙ ap (λ (locks : List Lock). list_any (conflict (ExclusiveKey p)) locks) c.self.view_is
    ∙ ap (λ wanted. list_any (conflict (wanted_lock wanted)) c.args.self.now) (sym c.in-ExclusiveKey.is)

pub returns-else-contains-2 : goal.returns-else-contains-2
returns-else-contains-2 c =
    let p : Place = (c.in-ExclusiveKey.table.0, c.in-ExclusiveKey.key.now) in
    let a : Bool = list_any (same_place p) c.self.inside.shared in
    let b : Bool = list_any (same_place p) c.self.inside.exclusive in
    let either : c.if-contains.value ≡ (a || b) = elim c.if-contains.branch [
      | then-contains w ↦ first_of a b c.if-contains.value (w.value-is ∙ w.if-contains.true) (sym w.if-contains.ensures)
      | else-contains w ↦ second_of a b c.if-contains.value (w.value-is ∙ w.contains-else-contains.ensures) (sym w.if-contains.ensures)
    ] in
    c.contains-else-contains-2.ensures
    ∙ later a b c.if-contains.value (list_any (λ t. p.0 == t) c.self.inside.tables) either c.if-contains-2.false
    ∙ sym (exclusive-barred c.self.inside.shared c.self.inside.exclusive c.self.inside.tables p)
    ∙ ap (λ (locks : List Lock). list_any (conflict (ExclusiveKey p)) locks) c.self.view_is
    ∙ ap (λ wanted. list_any (conflict (wanted_lock wanted)) c.args.self.now) (sym c.in-ExclusiveKey.is)

pub returns-in-ShareTable : goal.returns-in-ShareTable
returns-in-ShareTable c =
    let inside = c.self.inside in
    let t = c.in-ShareTable.table.0 in
    c.has_table.ensures
    ∙ sym (table-barred inside.shared inside.exclusive inside.tables t)
    ∙ ap (λ (locks : List Lock). list_any (conflict (ShareTable t)) locks) c.self.view_is
    ∙ ap (λ wanted. list_any (conflict (wanted_lock wanted)) c.args.self.now) (sym c.in-ShareTable.is)
