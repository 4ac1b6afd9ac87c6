-- A chain depends on no content.
--     chain-bare      it is that of the links without their content
use Rattle.std.proofs.Common.{◌≡◌, refl, sym, ap, ◌∙◌, ℕ, ◌+◌, ◌-◌, List, [], ◌∷◌, ◌++◌, length, true, false, cond, ◌&&◌, ◌==◌, Option, Some, None, option_map, map}
use Rattle.std.specs.Prelude.{nat_le, unwrap_or, fold, slice_get, option_and_then, if◌then◌else◌}
use Rattle.std.proofs.lemmas.List.{length-map, map-append}
use Rattle.std.proofs.lemmas.List.Sums.{take_while-cons}
use Rattle.std.proofs.lemmas.Option.{slice_get-map}
use Rattle.mdb_model.specs.Backups.{Backup, CompletePages, ChangedPages, LogGroups, name_of, same_name}
use Rattle.mdb_model.specs.Chains.{gap, gap_after, can_follow, is_page_backup, page_part, last_link, savepoint_of, commit_of, lowest, reached, unless_gap, plan, chain}
use Rattle.restore_chain.specs.Links.{bare}
use Rattle.restore_chain.proofs.Ends.{later}

-- a link has its kind without its content
is_page_backup-bare : (link : Backup) → is_page_backup (bare link) ≡ is_page_backup link
is_page_backup-bare (CompletePages name savepoint commit pages blocks) = refl
is_page_backup-bare (ChangedPages name savepoint base commit changed live blocks) = refl
is_page_backup-bare (LogGroups name from to commits blocks) = refl

-- and its savepoint
savepoint_of-bare : (link : Backup) → savepoint_of (bare link) ≡ savepoint_of link
savepoint_of-bare (CompletePages name savepoint commit pages blocks) = refl
savepoint_of-bare (ChangedPages name savepoint base commit changed live blocks) = refl
savepoint_of-bare (LogGroups name from to commits blocks) = refl

-- and its commit
commit_of-bare : (link : Backup) → commit_of (bare link) ≡ commit_of link
commit_of-bare (CompletePages name savepoint commit pages blocks) = refl
commit_of-bare (ChangedPages name savepoint base commit changed live blocks) = refl
commit_of-bare (LogGroups name from to commits blocks) = refl

-- and its name
name_of-bare : (link : Backup) → name_of (bare link) ≡ name_of link
name_of-bare (CompletePages name savepoint commit pages blocks) = refl
name_of-bare (ChangedPages name savepoint base commit changed live blocks) = refl
name_of-bare (LogGroups name from to commits blocks) = refl

-- the page backups in front
page_part-bare : (links : List Backup) → page_part (map bare links) ≡ map bare (page_part links)
page_part-bare [] = refl
page_part-bare (link ∷ links) =
    take_while-cons is_page_backup (bare link) (map bare links)
    ∙ ap (λ b. cond b (bare link ∷ page_part (map bare links)) []) (is_page_backup-bare link)
    ∙ ap (λ l. cond (is_page_backup link) (bare link ∷ l) []) (page_part-bare links)
    ∙ elim (is_page_backup link) as (λ b. cond b (bare link ∷ map bare (page_part links)) [] ≡ map bare (cond b (link ∷ page_part links) [])) [
      | true ↦ refl
      | false ↦ refl
    ]
    ∙ ap (map bare) (sym (take_while-cons is_page_backup link links))

-- the last of them
last_link-bare : (links : List Backup) → last_link (map bare links) ≡ option_map bare (last_link links)
last_link-bare links =
    ap (λ n. slice_get (map bare links) (n - 1)) (length-map links bare) ∙ slice_get-map bare links (length links - 1)

-- what is known of a link without its content is known of the link
option_map-bare : {X : Type 0} (f : Backup → X) → ((link : Backup) → f (bare link) ≡ f link) → (o : Option Backup) → option_map f (option_map bare o) ≡ option_map f o
option_map-bare f same None = refl
option_map-bare f same (Some link) = ap Some (same link)

-- the savepoint of the last link
last_savepoint-bare : (links : List Backup) → option_and_then savepoint_of (last_link (map bare links)) ≡ option_and_then savepoint_of (last_link links)
last_savepoint-bare links =
    ap (option_and_then savepoint_of) (last_link-bare links)
    ∙ elim (last_link links) as (λ o. option_and_then savepoint_of (option_map bare o) ≡ option_and_then savepoint_of o) [
      | None ↦ refl
      | Some link ↦ savepoint_of-bare link
    ]

-- the commit of the last page backup
lowest-bare : (links : List Backup) → lowest (map bare links) ≡ lowest links
lowest-bare links =
    ap (λ l. unwrap_or (option_map commit_of (last_link l)) 0) (page_part-bare links)
    ∙ ap (λ o. unwrap_or (option_map commit_of o) 0) (last_link-bare (page_part links))
    ∙ ap (λ o. unwrap_or o 0) (option_map-bare commit_of commit_of-bare (last_link (page_part links)))

-- the number after one more link
later-bare : (n : ℕ) (link : Backup) → later n (bare link) ≡ later n link
later-bare n (CompletePages name savepoint commit pages blocks) = refl
later-bare n (ChangedPages name savepoint base commit changed live blocks) = refl
later-bare n (LogGroups name from to commits blocks) = refl

-- and after more of them
fold-bare : (n : ℕ) (links : List Backup) → fold later n (map bare links) ≡ fold later n links
fold-bare n [] = refl
fold-bare n (link ∷ links) = ap (λ m. fold later m (map bare links)) (later-bare n link) ∙ fold-bare (later n link) links

-- the last commit that is reached
reached-bare : (links : List Backup) → reached (map bare links) ≡ reached links
reached-bare links = ap (λ n. fold later n (map bare links)) (lowest-bare links) ∙ fold-bare (lowest links) links

-- whether a link can follow
can_follow-bare : (links : List Backup) (link : Backup) → can_follow (map bare links) (bare link) ≡ can_follow links link
can_follow-bare [] (CompletePages name savepoint commit pages blocks) = refl
can_follow-bare [] (ChangedPages name savepoint base commit changed live blocks) = refl
can_follow-bare [] (LogGroups name from to commits blocks) = refl
can_follow-bare (head ∷ before) (CompletePages name savepoint commit pages blocks) = refl
can_follow-bare (head ∷ before) (ChangedPages name savepoint base commit changed live blocks) =
    ap (λ n. same_name n name && unwrap_or (option_map (λ s. s == base) (option_and_then savepoint_of (last_link (map bare (head ∷ before))))) false) (name_of-bare head)
    ∙ ap (λ o. same_name (name_of head) name && unwrap_or (option_map (λ s. s == base) o) false) (last_savepoint-bare (head ∷ before))
can_follow-bare (head ∷ before) (LogGroups name from to commits blocks) =
    ap (λ n. same_name n name && nat_le from (reached (map bare (head ∷ before)) + 1)) (name_of-bare head)
    ∙ ap (λ n. same_name (name_of head) name && nat_le from (n + 1)) (reached-bare (head ∷ before))

-- the first that cannot
gap_after-bare : (before links : List Backup) → gap_after (map bare before) (map bare links) ≡ gap_after before links
gap_after-bare before [] = refl
gap_after-bare before (link ∷ links) =
    ap (λ b. if b then gap_after (map bare before ++ bare link ∷ []) (map bare links) else Some (length (map bare before) + 1)) (can_follow-bare before link)
    ∙ ap (λ n. if can_follow before link then gap_after (map bare before ++ bare link ∷ []) (map bare links) else Some (n + 1)) (length-map before bare)
    ∙ ap (λ o. if can_follow before link then o else Some (length before + 1))
    (ap (λ l. gap_after l (map bare links)) (sym (map-append bare before (link ∷ []))) ∙ gap_after-bare (before ++ link ∷ []) links)

-- the answer is that of the links without their content
pub chain-bare : (links : List Backup) (until : Option ℕ) → chain (map bare links) until ≡ chain links until
chain-bare links until =
    ap (λ g. unless_gap g (plan (length (page_part (map bare links))) (lowest (map bare links)) (reached (map bare links)) (unwrap_or until (reached (map bare links))))) (gap_after-bare [] links)
    ∙ ap (λ l. unless_gap (gap links) (plan (length l) (lowest (map bare links)) (reached (map bare links)) (unwrap_or until (reached (map bare links))))) (page_part-bare links)
    ∙ ap (λ n. unless_gap (gap links) (plan n (lowest (map bare links)) (reached (map bare links)) (unwrap_or until (reached (map bare links))))) (length-map (page_part links) bare)
    ∙ ap (λ n. unless_gap (gap links) (plan (length (page_part links)) n (reached (map bare links)) (unwrap_or until (reached (map bare links))))) (lowest-bare links)
    ∙ ap (λ n. unless_gap (gap links) (plan (length (page_part links)) (lowest links) n (unwrap_or until n))) (reached-bare links)
