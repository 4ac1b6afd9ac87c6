-- What links lead to, and what the calls answer.
--     IsReached      what links that follow one another lead to
--     Follows, MediaAnswer      whether more links can follow
--     Answers      the plan, or why there is none
use Rattle.std.specs.Prelude.{◌≡◌, ℕ, ◌+◌, ◌≤◌, List, ◌++◌, Option, Some, None, Result, Ok, Err, length, slice_get, option_map, option_and_then}
use Rattle.mdb_model.specs.Backups.{Backup, name_of}
use Rattle.mdb_model.specs.Chains.{Chain, Gap as HasGap, Outside, Plan as HasPlan, gap, gap_after, page_part, last_link, savepoint_of, lowest, reached}
use Rattle.restore_chain.specs.declared.fault.ChainFault.{ChainFault}
use Rattle.restore_chain.specs.declared.fault.ChainFault.TheVariants.{Gap, Until}
use Rattle.restore_chain.specs.declared.links.Plan.{Plan}
use Rattle.restore_chain.specs.declared.reached.Reached.{Reached}

-- each of the links can follow those before it, and this is what they lead to
pub record IsReached (links : List Backup) (state : Reached) : Type 0 where
  pub no_gap : (rest : List Backup) → gap (links ++ rest) ≡ gap_after links rest
  pub named : option_map name_of (slice_get links 0) ≡ Some state.name
  pub counted : state.pages ≡ length (page_part links)
  pub few : state.pages ≤ length links
  pub only_pages : (savepoint : ℕ) → state.savepoint ≡ Some savepoint → page_part links ≡ links
  pub last : state.savepoint ≡ option_and_then savepoint_of (last_link links)
  pub low : state.lo ≡ lowest links
  pub high : state.reach ≡ reached links

-- what more links lead to after those before, or the first of them cannot follow
abbrev pub Follows : (links more : List Backup) → Option Reached → Type 0
Follows links more (Some state) = IsReached (links ++ more) state
Follows links more None =
    (rest : List Backup) → gap (links ++ (more ++ rest)) ≡ Some (length links + 1)

-- what the links lead to, or the first that cannot follow, whatever comes after them
abbrev pub MediaAnswer : List Backup → Result Reached ChainFault → Type 0
MediaAnswer links (Ok state) = IsReached links state
MediaAnswer links (Err (Gap number)) = (rest : List Backup) → gap (links ++ rest) ≡ Some number
MediaAnswer links (Err (Until lo hi)) = ⊥

-- the answer is that of the chain
abbrev pub Answers : Chain → Result Plan ChainFault → Type 0
Answers chain (Ok plan) = chain ≡ HasPlan plan.pages plan.reach
Answers chain (Err (Gap number)) = chain ≡ HasGap number
Answers chain (Err (Until lo hi)) = chain ≡ Outside lo hi
