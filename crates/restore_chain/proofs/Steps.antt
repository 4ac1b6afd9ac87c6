-- What one more link leads to.
--     log_follows, changes_follow      whether it can follow
--     after_log, after_pages      what it leads to
use Rattle.std.proofs.Common.{◌≡◌, refl, sym, ap, ◌∙◌, ℕ, ◌+◌, List, [], ◌∷◌, ◌++◌, length, length-append, append_assoc, eq-eqb, Bool, true, false, ◌&&◌, ◌==◌, max, cond, Option, Some, None, option_map, arith}
use Rattle.std.specs.Prelude.{nat_le, unwrap_or, fold, option_and_then, if◌then◌else◌}
use Rattle.std.specs.Ordering.{nat_cmp}
use Rattle.std.specs.FinSet.{FinSet}
use Rattle.std.proofs.lemmas.List.Sums.{fold-append, take_while-cons}
use Rattle.mdb_model.specs.declared.change.Commit.{Commit}
use Rattle.mdb_model.specs.declared.name.Name.{Name}
use Rattle.mdb_model.specs.Backups.{Backup, ChangedPages, LogGroups, name_of, same_name}
use Rattle.mdb_model.specs.Pages.{PageMap}
use Rattle.mdb_model.specs.Chains.{gap, gap_after, can_follow, is_page_backup, page_part, last_link, savepoint_of, commit_of, lowest, reached}
use Rattle.restore_chain.specs.declared.reached.Reached.{Reached}
use Rattle.restore_chain.specs.Following.{IsReached}
use Rattle.restore_chain.proofs.Ends.{later, last-append, first-append, take_while-fails, take_while-passes}

-- Whether a link can follow

-- log can follow where it has the name and begins early enough
pub log_follows : (links : List Backup) (state : Reached) (name : Name) (from to : ℕ) (commits : List Commit) (blocks : ℕ) → IsReached links state
    → can_follow links (LogGroups name from to commits blocks) ≡ (same_name state.name name && nat_le from (state.reach + 1))
log_follows [] state name from to commits blocks r = absurd (let e : None ≡ Some state.name = r.named in cc)
log_follows (head ∷ before) state name from to commits blocks r =
    let named : Some (name_of head) ≡ Some state.name = r.named in
    let same : name_of head ≡ state.name = cc in
    let high : reached (head ∷ before) ≡ state.reach = sym r.high in
    ap (λ (n : Name). same_name n name && nat_le from (reached (head ∷ before) + 1)) same
    ∙ ap (λ (n : ℕ). same_name state.name name && nat_le from (n + 1)) high

-- changed pages can follow where they have the name and their base is the savepoint of the last link
pub changes_follow : (links : List Backup) (state : Reached) (name : Name) (savepoint base commit : ℕ) (changed : PageMap) (live : FinSet nat_cmp) (blocks : ℕ) → IsReached links state
    → can_follow links (ChangedPages name savepoint base commit changed live blocks) ≡ (same_name state.name name && unwrap_or (option_map (λ s. s == base) state.savepoint) false)
changes_follow [] state name savepoint base commit changed live blocks r = absurd (let e : None ≡ Some state.name = r.named in cc)
changes_follow (head ∷ before) state name savepoint base commit changed live blocks r =
    let named : Some (name_of head) ≡ Some state.name = r.named in
    let same : name_of head ≡ state.name = cc in
    ap (λ (n : Name). same_name n name && unwrap_or (option_map (λ s. s == base) (option_and_then savepoint_of (last_link (head ∷ before)))) false) same
    ∙ ap (λ (o : Option ℕ). same_name state.name name && unwrap_or (option_map (λ s. s == base) o) false) (sym r.last)

-- the base is the savepoint of the last link
pub is_base : (savepoint : Option ℕ) (base : ℕ) → savepoint ≡ Some base → unwrap_or (option_map (λ s. s == base) savepoint) false ≡ true
is_base savepoint base is = ap (λ o. unwrap_or (option_map (λ s. s == base) o) false) is ∙ eq-eqb base base refl

-- What it leads to

-- the links after this one, where it can follow
no_gap_more : (links : List Backup) (link : Backup) → ((rest : List Backup) → gap (links ++ rest) ≡ gap_after links rest) → can_follow links link ≡ true
    → (rest : List Backup) → gap ((links ++ link ∷ []) ++ rest) ≡ gap_after (links ++ link ∷ []) rest
no_gap_more links link none follows rest =
    ap gap (append_assoc links (link ∷ []) rest) ∙ none (link ∷ rest)
    ∙ ap (λ (b : Bool). if b then gap_after (links ++ link ∷ []) rest else Some (length links + 1)) follows

-- page backups leave the number as it was
pages-later : (n : ℕ) (links : List Backup) → page_part links ≡ links → fold later n links ≡ n
pages-later n [] all = refl
pages-later n (link ∷ links) all =
    elim (is_page_backup link) as (λ b. cond b (link ∷ page_part links) [] ≡ link ∷ links → fold later (if b then n else max n (commit_of link)) links ≡ n) [
      | true ↦ λ e. let rest : page_part links ≡ links = cc in pages-later n links rest
      | false ↦ λ e. absurd (cc)
    ] (sym (take_while-cons is_page_backup link links) ∙ all)

-- what log leads to
pub after_log : (links : List Backup) (state : Reached) (name : Name) (from to : ℕ) (commits : List Commit) (blocks high : ℕ) → IsReached links state
    → can_follow links (LogGroups name from to commits blocks) ≡ true → high ≡ max state.reach to
    → IsReached (links ++ LogGroups name from to commits blocks ∷ []) (record { name = state.name; pages = state.pages; savepoint = None; lo = state.lo; reach = high })
after_log links state name from to commits blocks high r follows is =
    let link : Backup = LogGroups name from to commits blocks in
    let part : page_part (links ++ link ∷ []) ≡ page_part links = take_while-fails is_page_backup links link refl in
    let low : lowest (links ++ link ∷ []) ≡ lowest links = ap (λ l. unwrap_or (option_map commit_of (last_link l)) 0) part in
    record {
      no_gap = no_gap_more links link r.no_gap follows;
      named = first-append links (link ∷ []) state.name r.named;
      counted = r.counted ∙ ap length (sym part);
      few = omega (arith, r.few, length-append links (link ∷ []));
      only_pages = λ savepoint e. absurd (cc);
      last = sym (ap (λ o. option_and_then savepoint_of o) (last-append links link));
      low = r.low ∙ sym low;
      high = is ∙ ap (λ n. max n to) r.high ∙ sym (ap (λ n. fold later n (links ++ link ∷ [])) low ∙ fold-append later (lowest links) links (link ∷ []));
    }

-- what a page backup leads to
pub after_pages : (links : List Backup) (state : Reached) (page : Backup) (savepoint : ℕ) → IsReached links state → is_page_backup page ≡ true → can_follow links page ≡ true
    → page_part links ≡ links → savepoint_of page ≡ Some savepoint
    → IsReached (links ++ page ∷ []) (record { name = state.name; pages = state.pages + 1; savepoint = Some savepoint; lo = commit_of page; reach = commit_of page })
after_pages links state page savepoint r is follows all at =
    let part : page_part (links ++ page ∷ []) ≡ links ++ page ∷ [] = take_while-passes is_page_backup links page all is in
    let low : lowest (links ++ page ∷ []) ≡ commit_of page =
    ap (λ l. unwrap_or (option_map commit_of (last_link l)) 0) part ∙ ap (λ o. unwrap_or (option_map commit_of o) 0) (last-append links page) in
    record {
      no_gap = no_gap_more links page r.no_gap follows;
      named = first-append links (page ∷ []) state.name r.named;
      counted = omega (arith, r.counted, ap length all, ap length part, length-append links (page ∷ []));
      few = omega (arith, r.few, length-append links (page ∷ []));
      only_pages = λ s e. part;
      last = sym at ∙ sym (ap (λ o. option_and_then savepoint_of o) (last-append links page));
      low = sym low;
      high = sym (ap (λ n. fold later n (links ++ page ∷ [])) low ∙ pages-later (commit_of page) (links ++ page ∷ []) part);
    }
