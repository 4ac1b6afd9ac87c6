-- The media one after another, and the chain of all links.
--     more_taken, more_fails      the next medium can follow, or is the first that fails
--     chain_fails, chain_planned      the answer
use Rattle.std.proofs.Common.{◌≡◌, sym, ap, ◌∙◌, ℕ, ◌+◌, ◌-◌, ◌<◌, List, [], ◌∷◌, ◌++◌, length, get_or, take, drop, map, Option, Some, None, arith, append_assoc, length-take, length-drop}
use Rattle.std.specs.Prelude.{unwrap_or}
use Rattle.std.proofs.lemmas.Grind.{common_steps}
use Rattle.std.proofs.lemmas.List.{map_more, map-append, length-map, take-append-drop, append-nil}
use Rattle.mdb_model.specs.Backups.{Backup}
use Rattle.mdb_model.specs.Chains.{Gap as HasGap, gap, page_part, lowest, reached, unless_gap, plan, chain}
use Rattle.mdb_bytes.specs.declared.medium_pages.MediumHeader.{MediumHeader}
use Rattle.restore_chain.specs.declared.reached.Reached.{Reached}
use Rattle.restore_chain.specs.Links.{link_of}
use Rattle.restore_chain.specs.Following.{IsReached}

-- the headers behind the first
abbrev pub later_headers : List MediumHeader → List MediumHeader
later_headers headers = take (length headers - 1) (drop 1 headers)

-- there is a medium behind those that were taken
is_within : (headers : List MediumHeader) (i : ℕ) → i < length (later_headers headers) → i + 1 < length headers
is_within headers i within = omega (arith, within, length-take (length headers - 1) (drop 1 headers), length-drop 1 headers)

-- it is this one
next_medium : (headers : List MediumHeader) (i : ℕ) (d : MediumHeader) → i < length (later_headers headers) → get_or (later_headers headers) i d ≡ get_or headers (i + 1) d
next_medium headers i d within = grind (arith, common_steps)

-- its link follows those that were taken
next_link : (headers : List MediumHeader) (i : ℕ) (d : MediumHeader) → i < length (later_headers headers)
    → map link_of (take (i + 1 + 1) headers) ≡ map link_of (take (i + 1) headers) ++ link_of (get_or (later_headers headers) i d) ∷ []
next_link headers i d within =
    map_more link_of headers (i + 1) d (is_within headers i within)
    ∙ ap (λ h. map link_of (take (i + 1) headers) ++ link_of h ∷ []) (sym (next_medium headers i d within))

-- where it can follow, this is what they lead to
pub more_taken : (headers : List MediumHeader) (i : ℕ) (d : MediumHeader) (next : Reached) → i < length (later_headers headers)
    → IsReached (map link_of (take (i + 1) headers) ++ link_of (get_or (later_headers headers) i d) ∷ []) next
    → IsReached (map link_of (take (i + 1 + 1) headers)) next
more_taken headers i d next within reached = let e = next_link headers i d within in rw e reached

-- the links of all media
all_links : (headers : List MediumHeader) (i : ℕ) (d : MediumHeader) → i < length (later_headers headers) → (rest : List Backup)
    → map link_of headers ++ rest ≡ map link_of (take (i + 1) headers) ++ (link_of (get_or (later_headers headers) i d) ∷ (map link_of (drop (i + 1 + 1) headers) ++ rest))
all_links headers i d within rest =
    ap (λ l. map link_of l ++ rest) (sym (take-append-drop (i + 1 + 1) headers))
    ∙ ap (λ l. l ++ rest) (map-append link_of (take (i + 1 + 1) headers) (drop (i + 1 + 1) headers))
    ∙ ap (λ l. (l ++ map link_of (drop (i + 1 + 1) headers)) ++ rest) (next_link headers i d within)
    ∙ ap (λ l. l ++ rest) (append_assoc (map link_of (take (i + 1) headers)) (link_of (get_or (later_headers headers) i d) ∷ []) (map link_of (drop (i + 1 + 1) headers)))
    ∙ append_assoc (map link_of (take (i + 1) headers)) (link_of (get_or (later_headers headers) i d) ∷ map link_of (drop (i + 1 + 1) headers)) rest

-- where it cannot, it is the first that fails
pub more_fails : (headers : List MediumHeader) (i : ℕ) (d : MediumHeader) → i < length (later_headers headers)
    → ((rest : List Backup) → gap (map link_of (take (i + 1) headers) ++ (link_of (get_or (later_headers headers) i d) ∷ rest)) ≡ Some (length (map link_of (take (i + 1) headers)) + 1))
    → (rest : List Backup) → gap (map link_of headers ++ rest) ≡ Some (i + 2)
more_fails headers i d within fails rest =
    let long : length (map link_of (take (i + 1) headers)) ≡ i + 1 =
    length-map (take (i + 1) headers) link_of ∙ omega (arith, length-take (i + 1) headers, is_within headers i within) in
    ap gap (all_links headers i d within rest) ∙ fails (map link_of (drop (i + 1 + 1) headers) ++ rest)
    ∙ ap Some (ap (λ n. n + 1) long ∙ omega arith)

-- a link that fails is the answer
pub chain_fails : (links : List Backup) (until : Option ℕ) (number : ℕ) → gap links ≡ Some number → chain links until ≡ HasGap number
chain_fails links until number fails =
    ap (λ g. unless_gap g (plan (length (page_part links)) (lowest links) (reached links) (unwrap_or until (reached links)))) fails

-- else the answer is the plan
pub chain_planned : (links : List Backup) (until : Option ℕ) (state : Reached) → IsReached links state
    → chain links until ≡ plan state.pages state.lo state.reach (unwrap_or until state.reach)
chain_planned links until state r =
    let none : gap links ≡ None = ap gap (sym (append-nil links)) ∙ r.no_gap [] in
    ap (λ g. unless_gap g (plan (length (page_part links)) (lowest links) (reached links) (unwrap_or until (reached links)))) none
    ∙ ap (λ n. plan n (lowest links) (reached links) (unwrap_or until (reached links))) (sym r.counted)
    ∙ ap (λ n. plan state.pages n (reached links) (unwrap_or until (reached links))) (sym r.low)
    ∙ ap (λ n. plan state.pages state.lo n (unwrap_or until n)) (sym r.high)
