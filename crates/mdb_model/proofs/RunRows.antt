-- A worked run, computed: a put, a commit, a stop, and a restart that finds it.
use Rattle.std.proofs.Common.{◌≡◌, refl, ap, subst, ◌∙◌, ℕ, ◌+◌, nat_lt, true, false, if◌then◌else◌, List, [], ◌∷◌, None, Some, codes}
use Rattle.mdb_model.specs.declared.script.Command.{Command}
use Rattle.mdb_model.specs.declared.script.Command.TheVariants.{GetRow, PutRow, CommitWork, DbOnline, Kill}
use Rattle.mdb_model.specs.declared.script.Refusal.TheVariants.{WrongState, DataFull}
use Rattle.mdb_model.specs.declared.script.Reply.TheVariants.{Found, OnlineAt, PutDone, Committed, NothingToCommit, OfflineNow}
use Rattle.mdb_model.specs.declared.name.State.TheVariants.{Offline}
use Rattle.mdb_model.specs.Pages.{PageReading}
use Rattle.mdb_model.specs.Worlds.{World, created, without_transaction}
use Rattle.mdb_model.specs.Answers.{Answer, plain}
use Rattle.mdb_model.proofs.StepLemmas.{CommandStep-done}
use Rattle.mdb_model.specs.Steps.{Facts, done, committed_by, has_changes, Fits}
use Rattle.mdb_model.specs.Refusals.{refusal, medium_full, data_full, too_large, is_locked, refuse_if, first_cause}
use Rattle.mdb_model.specs.Runs.{Run, TakenLine, Entry, Stepped}
use Rattle.mdb_model.proofs.Computing.{maps, list_pages, tree_pages-lists, need-parts}
use Rattle.mdb_model.specs.Space.{need, every_table}
use Rattle.mdb_model.specs.declared.name.Session.{Session}
use Rattle.mdb_model.specs.declared.name.Table.{Table}

-- one row
abbrev k : List ℕ
k = codes "k"

abbrev v : List ℕ
v = codes "v"

abbrev one : Session
one = record { 0 = 1 }

abbrev table : Table
table = record { 0 = 1 }

module _ (reading : PageReading) (facts : Facts) (in_reach : facts.record_past_end ≡ false) where
  -- the worlds of the run
  abbrev fresh : World
  fresh = created 7 512 16384

  abbrev opened : World
  opened = (done reading fresh facts DbOnline).1

  abbrev with_put : World
  with_put = (done reading opened facts (PutRow one table k v)).1

  abbrev with_commit : World
  with_commit = committed_by with_put 1

  abbrev stopped : World
  stopped = (done reading with_commit facts Kill).1

  abbrev again : World
  again = (done reading stopped facts DbOnline).1

  first_online : refusal reading fresh facts DbOnline ≡ None
  first_online = simp in_reach refl

  too_early : refusal reading fresh facts (GetRow one table k) ≡ Some (WrongState Offline)
  too_early = refl

  -- the tables do not have the row yet, and the present ones do: 1 page, 2 undo pages
  one_page : list_pages [] (((1, k), v) ∷ []) ≡ 1
  unfolding every_table
  one_page = refl

  need_with_put : need with_put ≡ 11
  need_with_put =
      need-parts with_put 1 2 0 0
      (tree_pages-lists _ _ [] (((1, k), v) ∷ []) (simp maps refl) (simp maps refl) ∙ one_page)
      (simp maps refl) (simp maps refl) refl

  put_fits : data_full reading opened facts (PutRow one table k v) ≡ None
  put_fits = ap (λ n. refuse_if (nat_lt 512 (n + 224)) (DataFull (n + 224) 512)) need_with_put

  put_is_small : too_large reading opened facts (PutRow one table k v) ≡ None
  put_is_small = simp maps refl

  put_is_free : is_locked opened (PutRow one table k v) ≡ None
  put_is_free = simp maps refl

  put_is_admitted : refusal reading opened facts (PutRow one table k v) ≡ None
  put_is_admitted i = first_cause (put_is_free i ∷ put_is_small i ∷ put_fits i ∷ None ∷ [])

  commit_is_admitted : refusal reading with_put facts (CommitWork one) ≡ None
  commit_is_admitted = simp maps refl

  changes_there : has_changes with_put 1 ≡ true
  changes_there = simp maps refl

  commit_leads : done reading with_put facts (CommitWork one) ≡ (plain (Committed 1), with_commit)
  commit_leads = ap (λ there. if there then (plain (Committed 1), with_commit) else (plain NothingToCommit, without_transaction with_put 1)) changes_there

  kill_is_admitted : refusal reading with_commit facts Kill ≡ None
  kill_is_admitted = refl

  again_online : refusal reading stopped facts DbOnline ≡ None
  again_online = simp in_reach refl

  again_at_one : (done reading stopped facts DbOnline).0 ≡ plain (OnlineAt 1)
  again_at_one = refl

  get_is_admitted : refusal reading again facts (GetRow one table k) ≡ None
  get_is_admitted = simp maps refl

  get_finds : (done reading again facts (GetRow one table k)).0 ≡ plain (Found v)
  get_finds = simp maps refl

  abbrev taken : Command → Answer → World → TakenLine
  taken line answer w = record { line = Some line; answer = answer; worlds = w ∷ [] }

  step : (w : World) (line : Command) → refusal reading w facts line ≡ None → medium_full w facts line ≡ None → Fits reading w facts line
      → Entry reading (w ∷ []) (Some line) (done reading w facts line).0 ((done reading w facts line).1 ∷ [])
  step w line admitted fit fits = Stepped ((facts, CommandStep-done reading w facts line admitted fit fits), tt)

  commit_step : Entry reading (with_put ∷ []) (Some (CommitWork one)) (plain (Committed 1)) (with_commit ∷ [])
  commit_step = subst (λ (e : Answer × World). Entry reading (with_put ∷ []) (Some (CommitWork one)) e.0 (e.1 ∷ [])) commit_leads
      (step with_put (CommitWork one) commit_is_admitted refl tt)

  get_step : Entry reading (again ∷ []) (Some (GetRow one table k)) (plain (Found v)) ((done reading again facts (GetRow one table k)).1 ∷ [])
  get_step = subst (λ answer. Entry reading (again ∷ []) (Some (GetRow one table k)) answer ((done reading again facts (GetRow one table k)).1 ∷ [])) get_finds
      (step again (GetRow one table k) get_is_admitted refl tt)

  -- the whole run
  whole : Run reading (fresh ∷ []) (
      taken DbOnline (plain (OnlineAt 0)) opened
      ∷ taken (PutRow one table k v) (plain PutDone) with_put
      ∷ taken (CommitWork one) (plain (Committed 1)) with_commit
      ∷ taken Kill (plain OfflineNow) stopped
      ∷ taken DbOnline (plain (OnlineAt 1)) again
      ∷ taken (GetRow one table k) (plain (Found v)) (done reading again facts (GetRow one table k)).1
      ∷ [])
  whole = (
    step fresh DbOnline first_online refl tt,
    (
      step opened (PutRow one table k v) put_is_admitted refl tt,
      (
        commit_step,
        (
          step with_commit Kill kill_is_admitted refl tt,
          (
            step stopped DbOnline again_online refl tt,
            (get_step, tt),
          ),
        ),
      ),
    ),
  )
