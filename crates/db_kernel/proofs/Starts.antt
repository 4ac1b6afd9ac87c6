-- A database that is off, without backups, is sound, and agrees with the history that it has itself.
--     is_sound, agrees      the two
--     starts      so a call may start where each image stands for one
use Rattle.std.proofs.Common.{◌≡◌, refl, sym, ap, subst, ◌∙◌, ℕ, ◌≤◌, zero, suc, Bool, true, false, cond, List, [], ◌∷◌, length, map, Option, Some, None, arith}
use Rattle.std.specs.Prelude.{All, Contains, filter_map, unwrap_or}
use Rattle.std.specs.Ordering.{nat_cmp, eq_by_cmp, ordering_then, is_eq}
use Rattle.std.specs.declared.cmp.Ordering.{Ordering}
use Rattle.std.specs.declared.cmp.Ordering.TheVariants.{Less, Equal, Greater}
use Rattle.std.specs.Cmp.{then_total, on_total, nat_cmp_total, IsTotalOrder, tied_itself}
use Rattle.std.proofs.lemmas.Map.Lookups.{exact_unsigned}
use Rattle.std.specs.FinMap.{FinMap, get, insert, empty, values, get-empty, get-insert}
use Rattle.mdb_model.specs.declared.name.Name.{Name}
use Rattle.mdb_model.specs.declared.name.State.TheVariants.{Offline}
use Rattle.mdb_model.specs.Agreement.{IsSound, Ages, Agrees, IsPageChain, name_cmp}
use Rattle.mdb_model.specs.Headline.{CanStart}
use Rattle.mdb_model.specs.Images.{Image}
use Rattle.mdb_model.specs.Backups.{Backup, Medium}
use Rattle.mdb_model.specs.History.{History, last}
use Rattle.mdb_model.specs.Pages.{PageReading}
use Rattle.mdb_model.specs.Steps.{backups_of}
use Rattle.mdb_model.specs.Worlds.{World, Lock, Transaction, transaction, no_transaction, off}
use Rattle.mdb_model.proofs.Computing.{entries-empty}
use Rattle.db_kernel.specs.Starting.{own_age}
use Rattle.open_database.specs.Outside.{page_reading, StandsFor}

-- Names are in a total order.
names_total : IsTotalOrder name_cmp
names_total = then_total (on_total (λ name. name.birth) nat_cmp_total) (on_total (λ name. name.generation) nat_cmp_total)

none_in : {X : Type 0} {x : X} (xs : List X) → xs ≡ [] → Contains xs x → ⊥
none_in xs none has = absurd (omega (arith, has.1, ap length none))

-- what holds of one thing holds of a list of it alone
all_one : {X : Type 0} (P : X → Type 0) (x : X) → P x → All P (x ∷ [])
all_one P x p zero d less = p
all_one P x p (suc k) d less = absurd (omega (arith, less))

-- of equal pairs the second parts are equal
second_tied : (a b : Ordering) → is_eq (ordering_then a b) ≡ true → b ≡ Equal
second_tied Less b h = absurd cc
second_tied Equal Less h = absurd cc
second_tied Equal Equal h = refl
second_tied Equal Greater h = absurd cc
second_tied Greater b h = absurd cc

-- a map of one name has this one alone
only_name : (name : Name) (h other : History) (q : Name) → get (insert (empty {R = name_cmp}) name h) q ≡ Some other → eq_by_cmp name_cmp q name ≡ true
only_name name h other q found = by_test (eq_by_cmp name_cmp q name) (sym (get-insert names_total empty name h q) ∙ found) where
  by_test : (b : Bool) → cond b (Some h) (get (empty {X = History} {R = name_cmp}) q) ≡ Some other → b ≡ true
  by_test true there = refl
  by_test false there = let none : ◌≡◌ {A = Option History} None (Some other) = sym (get-empty name_cmp q) ∙ there in cc

module _ (reading : PageReading) (w : World) (bare : backups_of w ≡ []) (from : w.history.first ≤ w.saved) (to : w.saved ≤ last w.history) where
  no_media : backups_of (off w) ≡ []
  no_media = bare

  no_transactions : (session : ℕ) → transaction (off w) session ≡ no_transaction
  no_transactions session = ap (λ o. unwrap_or o no_transaction) (get-empty nat_cmp session)

  no_locks : (session : ℕ) (a : Lock) → Contains (transaction (off w) session).locks a → ⊥
  no_locks session a = none_in (transaction (off w) session).locks (ap (λ (x : Transaction). x.locks) (no_transactions session))

  pub is_sound : IsSound reading (off w)
  is_sound = record {
    saved_from = from;
    saved_to = to;
    locks = λ s t a b differ has other. absurd (no_locks s a has);
    at_rest = λ state. (refl, refl, refl);
    in_order = λ state. absurd (state refl);
    backup = tt;
  }

  -- no page backups, so no chain
  no_chain : (links : List Backup) (end : Backup) → IsPageChain reading (off w) links end → ⊥
  no_chain [] end chain = let none : ◌≡◌ {A = Option Backup} None (Some end) = chain.ends in cc
  no_chain (link ∷ links) end chain = none_in (backups_of (off w)) no_media (chain.on_media 0 link (omega arith))

  pub agrees : Agrees reading (off w) (own_age (off w))
  agrees = record {
    own = get-insert names_total empty w.name w.history w.name
        ∙ ap (λ b. cond b (Some w.history) (get (empty {X = History} {R = name_cmp}) w.name)) (ap is_eq (tied_itself names_total w.name));
    no_later_medium = λ k d less. absurd (omega (arith, less, ap length no_media));
    no_later_age = λ generation h found.
        let tied = second_tied (nat_cmp w.name.birth w.name.birth) (nat_cmp generation w.name.generation)
        (only_name w.name w.history h record { birth = w.name.birth; generation = generation } found) in
        let same : generation ≡ w.name.generation = exact_unsigned generation w.name.generation tied in
        omega (arith, same);
    page_chains = λ links end chain. absurd (no_chain links end chain);
    logs = λ name from to commits blocks has. absurd (none_in (backups_of (off w)) no_media has);
    base = λ links end chain. absurd (no_chain links end chain);
  }

-- a call may start on images that stand for one world that is off
pub starts : (said : ℕ → List ℕ) (may_leave : ℕ → Image → Type 0) (now : ℕ) (w : World) → off w ≡ w → backups_of w ≡ [] → w.history.first ≤ w.saved → w.saved ≤ last w.history
    → ((image : Image) → may_leave now image → StandsFor image w)
    → CanStart page_reading said may_leave StandsFor now ((w, own_age w) ∷ [])
starts said may_leave now w rest bare from to stand =
    let Fits : World → Type 0 = λ w. IsSound page_reading w × (w.state ≡ Offline) × Agrees page_reading w (own_age w) in
    let fits : Fits w = subst Fits rest (is_sound page_reading w bare from to, refl, agrees page_reading w bare from to) in
    record {
      worlds = all_one (λ (e : World × Ages). IsSound page_reading e.0 × (e.0.state ≡ Offline) × Agrees page_reading e.0 e.1) (w, own_age w) fits;
      images = λ image may. ((w, own_age w), (0, omega arith, refl), stand image may);
    }
