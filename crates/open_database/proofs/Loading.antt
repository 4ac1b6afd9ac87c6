-- What the space rule knows, while the costs of tables are told and while sessions are dismissed.
--     loaded_itself, loaded_more      one more cost was told
--     loaded_same      a call that told nothing
--     costs_more, cost_is      so the costs up to it are known
--     nothing_open, nothing_long      what nothing known says
--     loaded_blocks, loaded_kept, loaded_none, loaded_tables, loaded_numbers      the costs were told
--         where nothing was known before
--     forgot_none, forgot_more      one more session was dismissed
--     rose_after, passed_fault      the causes of a failure
use Rattle.std.proofs.Common.{◌≡◌, ◌⊎◌, inl, inr, refl, sym, ap, ◌∙◌, ℕ, ◌+◌, ◌<◌, ◌≤◌, List, [], length, replicate, false, Result, Ok, Err, arith}
use Rattle.std.proofs.lemmas.Bool.{cases_lt}
use Rattle.std.proofs.lemmas.List.{get_or-set_same, get_or-set_other, get_or-replicate, get_or_past, length-set, length-replicate}
use Rattle.std.specs.Prelude.{IsErrAnd, slice_index, slice_set}
use Rattle.mdb_model.specs.Causes.{Rose}
use Rattle.mdb_model.specs.Space.{table_cost}
use Rattle.mdb_model.specs.Tables.{Tables}
use Rattle.mdb_model.specs.declared.fault.PageFault.{PageFault}
use Rattle.space_rule.specs.declared.open_change.OpenChange.{OpenChange}
use Rattle.space_rule.specs.KnownCosts.{KnownCosts, changes_at, loaded, ended}
use Rattle.known_needs.specs.KnownNeeds.{nothing_known}
use Rattle.open_database.specs.Costs.{IsLoaded, IsForgotten}

-- The costs

pub loaded_itself : (known : KnownCosts) → IsLoaded known known
loaded_itself known = record { blocks = refl; kept = refl; sessions = refl; long = refl }

pub loaded_more : (a b c : KnownCosts) (table cost : ℕ) → IsLoaded a b → c ≡ loaded b table cost → IsLoaded a c
loaded_more a b c table cost is told = record {
  blocks = ap (λ (k : KnownCosts). k.blocks) told ∙ is.blocks;
  kept = ap (λ (k : KnownCosts). k.kept) told ∙ is.kept;
  sessions = ap (λ (k : KnownCosts). k.sessions) told ∙ is.sessions;
  long = ap (λ (k : KnownCosts). length k.committed) told ∙ length-set b.committed table cost ∙ is.long;
}

-- a call that told nothing
pub loaded_same : (a b c : KnownCosts) → IsLoaded a b → c ≡ b → IsLoaded a c
loaded_same a b c is same = record {
  blocks = ap (λ (k : KnownCosts). k.blocks) same ∙ is.blocks;
  kept = ap (λ (k : KnownCosts). k.kept) same ∙ is.kept;
  sessions = ap (λ (k : KnownCosts). k.sessions) same ∙ is.sessions;
  long = ap (λ (k : KnownCosts). length k.committed) same ∙ is.long;
}

-- the cost of this table is known, beside those of the tables before it
pub costs_more : (b c : KnownCosts) (number cost : ℕ) (cost_of : ℕ → ℕ) → number < length b.committed → c ≡ loaded b number cost → cost ≡ cost_of number
    → ((table : ℕ) → 1 ≤ table → table < number → slice_index b.committed table ≡ cost_of table)
    → (table : ℕ) → 1 ≤ table → table < number + 1 → slice_index c.committed table ≡ cost_of table
costs_more b c number cost cost_of inside told is before table from upto =
    ap (λ (k : KnownCosts). slice_index k.committed table) told ∙ by_table (cases_lt table number)
  where
    by_table : (table < number) ⊎ (number ≤ table) → slice_index (slice_set b.committed number cost) table ≡ cost_of table
    by_table (inl early) = get_or-set_other b.committed number table cost 0 (λ same. absurd (omega (arith, early, same))) ∙ before table from early
    by_table (inr late) =
        let same : table ≡ number = omega (arith, late, upto) in
        ap (λ (t : ℕ). slice_index (slice_set b.committed number cost) t) same
        ∙ get_or-set_same b.committed number cost 0 inside ∙ is ∙ ap cost_of (sym same)

-- a cost by the rows as they were first
pub cost_is : (cost table : ℕ) (here first : Tables) → cost ≡ table_cost here here table → here ≡ first → cost ≡ table_cost first first table
cost_is cost table here first is same = is ∙ ap (λ (rows : Tables). table_cost rows rows table) same

-- Where nothing was known

none_at : (n session : ℕ) → changes_at (replicate n []) session ≡ []
none_at n session = by_number (cases_lt session n)
  where
    by_number : (session < n) ⊎ (n ≤ session) → changes_at (replicate n []) session ≡ []
    by_number (inl inside) = get_or-replicate {A = List OpenChange} n session [] [] inside
    by_number (inr past) =
        let none : List (List OpenChange) = replicate n [] in
        let long : length none ≡ n = length-replicate {A = List OpenChange} n [] in
        get_or_past none session [] (omega (arith, long, past))

pub nothing_open : (a : KnownCosts) (blocks : ℕ) → a ≡ nothing_known blocks → (session : ℕ) → changes_at a.sessions session ≡ []
nothing_open a blocks first session = ap (λ (k : KnownCosts). changes_at k.sessions session) first ∙ none_at 65 session

pub nothing_long : (a : KnownCosts) (blocks : ℕ) → a ≡ nothing_known blocks → length a.committed ≡ 501
nothing_long a blocks first = ap (λ (k : KnownCosts). length k.committed) first ∙ length-replicate {A = ℕ} 501 0

module _ (a b : KnownCosts) (blocks : ℕ) (first : a ≡ nothing_known blocks) (is : IsLoaded a b) where
  pub loaded_blocks : b.blocks ≡ blocks
  loaded_blocks = is.blocks ∙ ap (λ (k : KnownCosts). k.blocks) first

  pub loaded_kept : b.kept ≡ 0
  loaded_kept = is.kept ∙ ap (λ (k : KnownCosts). k.kept) first

  pub loaded_none : (session : ℕ) → changes_at b.sessions session ≡ []
  loaded_none session = ap (λ (sessions : List (List OpenChange)). changes_at sessions session) is.sessions ∙ nothing_open a blocks first session

  pub loaded_tables : 500 < length b.committed
  loaded_tables = (let long : length b.committed ≡ 501 = is.long ∙ nothing_long a blocks first in omega (arith, long))

  pub loaded_numbers : 64 < length b.sessions
  loaded_numbers =
      let long : length b.sessions ≡ 65 = ap (λ (sessions : List (List OpenChange)). length sessions) is.sessions ∙ ap (λ (k : KnownCosts). length k.sessions) first ∙ length-replicate {A = List OpenChange} 65 [] in
      omega (arith, long)

-- The sessions

pub forgot_none : (known : KnownCosts) → IsForgotten known known 0
forgot_none known = record {
  blocks = refl;
  kept = refl;
  committed = refl;
  long = refl;
  gone = λ session from upto. absurd (omega (arith, from, upto));
  others = λ session after. refl;
  first = refl;
}

set_here : (sessions : List (List OpenChange)) (session : ℕ) → changes_at (slice_set sessions session []) session ≡ []
set_here sessions session = by_number (cases_lt session (length sessions))
  where
    by_number : (session < length sessions) ⊎ (length sessions ≤ session) → changes_at (slice_set sessions session []) session ≡ []
    by_number (inl inside) = get_or-set_same sessions session [] [] inside
    by_number (inr past) =
        let long : length (slice_set sessions session []) ≡ length sessions = length-set sessions session [] in
        get_or_past (slice_set sessions session []) session [] (omega (arith, long, past))

set_there : (sessions : List (List OpenChange)) (session other : ℕ) → (other ≡ session → ⊥) → changes_at (slice_set sessions session []) other ≡ changes_at sessions other
set_there sessions session other apart = get_or-set_other sessions session other [] [] apart

-- the session after the last one was dismissed
pub forgot_more : (a b c : KnownCosts) (last session : ℕ) → session ≡ last + 1 → IsForgotten a b last → c ≡ ended b session false → IsForgotten a c session
forgot_more a b c last session next is done = record {
  blocks = ap (λ (k : KnownCosts). k.blocks) done ∙ is.blocks;
  kept = ap (λ (k : KnownCosts). k.kept) done ∙ is.kept;
  committed = ap (λ (k : KnownCosts). k.committed) done ∙ is.committed;
  long = ap (λ (k : KnownCosts). length k.sessions) done ∙ length-set b.sessions session [] ∙ is.long;
  gone = λ other from upto. now other ∙ gone_by other from upto (cases_lt other session);
  others = λ other after. now other ∙ set_there b.sessions session other (λ same. absurd (omega (arith, after, same))) ∙ is.others other (omega (arith, after, next));
  first = now 0 ∙ set_there b.sessions session 0 (λ same. absurd (omega (arith, next, same))) ∙ is.first;
}
  where
    now : (other : ℕ) → changes_at c.sessions other ≡ changes_at (slice_set b.sessions session []) other
    now other = ap (λ (k : KnownCosts). changes_at k.sessions other) done

    gone_by : (other : ℕ) → 1 ≤ other → other ≤ session → (other < session) ⊎ (session ≤ other) → changes_at (slice_set b.sessions session []) other ≡ []
    gone_by other from upto (inl early) =
        set_there b.sessions session other (λ same. absurd (omega (arith, early, same))) ∙ is.gone other from (omega (arith, early, next))
    gone_by other from upto (inr late) =
        let same : other ≡ session = omega (arith, late, upto) in
        ap (λ (k : ℕ). changes_at (slice_set b.sessions session []) k) same ∙ set_here b.sessions session

-- The causes

pub rose_after : (a b c : ℕ) → a ≤ b → Rose b c → Rose a c
rose_after a b c later rose = omega (arith, later, rose)

-- a fault that was passed on
pub passed_fault : {T : Type 0} (result : Result T PageFault) (fault other : PageFault) → IsErrAnd result (λ passed. passed ≡ fault) → result ≡ Err other → fault ≡ other
passed_fault (Ok value) fault other is failed = absurd is
passed_fault (Err passed) fault other is failed = cc
