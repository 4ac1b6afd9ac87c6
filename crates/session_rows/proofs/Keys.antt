-- No row has an empty key.
--     keys_after      changes within their limits leave it so
use Rattle.std.proofs.Common.{◌≡◌, ◌≢◌, sym, ap, ◌∙◌, subst, ℕ, Bool, true, false, ◌&&◌, List, [], ◌∷◌, IsTrue}
use Rattle.std.specs.List.{list_all}
use Rattle.mdb_model.specs.declared.change.Change.{Change}
use Rattle.mdb_model.specs.declared.change.Change.TheVariants.{Put, Del}
use Rattle.mdb_model.specs.Script.{is_table, is_key, is_value}
use Rattle.mdb_model.specs.Tables.{Place, Tables, place_of, with_change, with_changes}
use Rattle.mdb_model.proofs.SerialPlaces.{with_change-apart}
use Rattle.mdb_bytes.specs.Groups.{change_fits}
use Rattle.session_rows.specs.Serving.{HasKeys}

first : (a b : Bool) → IsTrue (a && b) → IsTrue a
first true b p = cc
first false b p = cc

second : (a b : Bool) → IsTrue (a && b) → IsTrue b
second true b p = p
second false b p = cc

-- a change within its limits has a key
keyed : (change : Change) → IsTrue (change_fits change) → (table : ℕ) → (table, []) ≢ place_of change
keyed (Put t key value) fits table same =
    let empty : [] ≡ key = ap (λ (p : Place). p.1) same in
    let none : IsTrue (is_key []) = subst (λ (k : List ℕ). IsTrue (is_key k)) (sym empty) (second (is_table t.0) (is_key key) (first (is_table t.0 && is_key key) (is_value value) fits)) in
    cc
keyed (Del t key) fits table same =
    let empty : [] ≡ key = ap (λ (p : Place). p.1) same in
    let none : IsTrue (is_key []) = subst (λ (k : List ℕ). IsTrue (is_key k)) (sym empty) (second (is_table t.0) (is_key key) fits) in
    cc

pub keys_after : (changes : List Change) (tables : Tables) → IsTrue (list_all change_fits changes) → HasKeys tables → HasKeys (with_changes changes tables)
keys_after [] tables fit keys = keys
keys_after (change ∷ changes) tables fit keys =
    keys_after changes (with_change change tables) (second (change_fits change) (list_all change_fits changes) fit)
    (λ table. with_change-apart change tables (table, []) (keyed change (first (change_fits change) (list_all change_fits changes) fit) table) ∙ keys table)
