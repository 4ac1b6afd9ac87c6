-- The media of a world, by what their devices show.
--     first_is, none_is      the first entry after a number, by what stands at each number
--     line_is, end_is, list_answer      what a list shows is the line of the medium that comes next, or
--         the end
use Rattle.std.proofs.Common.{◌≡◌, refl, sym, ap, ◌∙◌, subst, ℕ, ◌*◌, ◌<◌, ◌≤◌, Bool, true, false, cond, ◌==◌, ◌&&◌, T, List, [], ◌∷◌, Option, Some, None, arith}
use Rattle.std.specs.Prelude.{nat_lt, IsSome, IsTrue, MatchOption, option_map, unwrap_or, Result, Ok, Err, IfOk, IfErr}
use Rattle.std.specs.List.{find as first_of}
use Rattle.std.specs.Cmp.{nat_cmp_total}
use Rattle.std.specs.Ordering.{nat_cmp}
use Rattle.std.specs.declared.cmp.Ordering.TheVariants.{Less, Equal, Greater}
use Rattle.std.specs.FinMap.{get, entries, entries_sorted, get-entries, nat_cmp-IsAntisymmetric}
use Rattle.std.specs.FinMap.Entries.{find, is_sorted}
use Rattle.std.proofs.lemmas.Bool.{ltb-true, ltb-false, lt-ltb}
use Rattle.std.proofs.lemmas.Bool.Decides.{nat_tests}
use Rattle.std.proofs.lemmas.Option.{same_Some}
use Rattle.mdb_model.specs.Backups.{Medium}
use Rattle.mdb_model.specs.declared.fault.Device.TheVariants.{Medium as OnMedium}
use Rattle.mdb_model.specs.declared.fault.PageFault.{PageFault}
use Rattle.mdb_model.specs.declared.fault.PageFault.TheVariants.{Failed, Damaged}
use Rattle.mdb_model.specs.declared.script.MediumLine.{MediumLine}
use Rattle.mdb_model.specs.declared.script.MediumState.TheVariants.{Blank}
use Rattle.mdb_bytes.specs.declared.medium_pages.MediumHeader.{MediumHeader}
use Rattle.mdb_bytes.specs.Groups.{open_gate}
use Rattle.mdb_host.specs.Disk.{IsThere}
use Rattle.mdb_model.specs.Script.{is_medium}
use Rattle.mdb_model.specs.Images.{Image, size_of}
use Rattle.mdb_model.specs.Steps.{backups_of, medium_state}
use Rattle.mdb_model.specs.Worlds.{World, is_busy, off}
use Rattle.mdb_bytes.specs.Parts.{page_len}
use Rattle.medium_file.specs.Calls.{IsLine, ListAnswer, NoMediumAbove, shown}
use Rattle.medium_file.specs.Media.{BreaksHeader, Holds}
use Rattle.known_needs.proofs.Found.{none_below, below_too, find_first, find_other, others_sorted}
use Rattle.standing.specs.Looks.{look, open_medium}
use Rattle.standing.specs.WholeStanding.{StandsWhole, MediumStands}
use Rattle.open_database.specs.Media.{medium_line, next_medium, IsNextLine}
use Rattle.open_database.proofs.MediaLines.{each_holds}

some_not_none : {X : Type 0} (x : X) → Some x ≡ None → ⊥
some_not_none x e = cc

less_is : (a b : ℕ) → a < b → nat_cmp a b ≡ Less
less_is a b lower = ap (λ c. cond c Less (cond (a == b) Equal Greater)) (lt-ltb a b lower)

module _ {X : Type 0} where
  -- a number below the first key is at none
  lower_none : (e : ℕ × X) (es : List (ℕ × X)) → T (is_sorted nat_cmp (e ∷ es)) → (k : ℕ) → k < e.0 → find nat_cmp k (e ∷ es) ≡ None
  lower_none e es sorted k lower =
      none_below nat_cmp nat_cmp_total nat_cmp-IsAntisymmetric k (e ∷ es) (below_too nat_cmp nat_cmp_total nat_cmp-IsAntisymmetric k e es sorted (less_is k e.0 lower))

  others : (e : ℕ × X) (es : List (ℕ × X)) → T (is_sorted nat_cmp (e ∷ es)) → T (is_sorted nat_cmp es)
  others = others_sorted nat_cmp nat_cmp_total nat_cmp-IsAntisymmetric

  at_first : (e : ℕ × X) (es : List (ℕ × X)) → find nat_cmp e.0 (e ∷ es) ≡ Some e.1
  at_first = find_first nat_cmp nat_cmp_total nat_cmp-IsAntisymmetric

  past_first : (e : ℕ × X) (es : List (ℕ × X)) (n : ℕ) → e.0 < n → find nat_cmp n (e ∷ es) ≡ find nat_cmp n es
  past_first e es n lower = find_other nat_cmp nat_cmp_total nat_cmp-IsAntisymmetric e es n (λ same. absurd (omega (arith, same, lower)))

  pub first_is : (es : List (ℕ × X)) (after k : ℕ) (x : X) → T (is_sorted nat_cmp es) → find nat_cmp k es ≡ Some x → after < k → ((n : ℕ) → after < n → n < k → find nat_cmp n es ≡ None)
      → first_of (λ (e : ℕ × X). nat_lt after e.0) es ≡ Some (k, x)
  first_is [] after k x sorted there above least = absurd cc
  first_is (e ∷ es) after k x sorted there above least =
      by_after (λ behind. first_is es after k x (others e es sorted) (sym (past_first e es k (omega (arith, behind, above))) ∙ there) above
      (λ n low high. sym (past_first e es n (omega (arith, behind, low))) ∙ least n low high)) (nat_lt after e.0) refl
    where
      same_place : e.0 ≤ k → k ≤ e.0 → Some e ≡ Some (k, x)
      same_place low high =
          let at : e.0 ≡ k = omega (arith, low, high) in
          let value : e.1 ≡ x = same_Some e.1 x (sym (at_first e es) ∙ ap (λ n. find nat_cmp n (e ∷ es)) at ∙ there) in
          λ i. Some (at i, value i)

      not_higher : after < e.0 → e.0 < k → ⊥
      not_higher lower higher = some_not_none e.1 (sym (at_first e es) ∙ least e.0 lower higher)

      not_lower : k < e.0 → ⊥
      not_lower lower = some_not_none x (sym there ∙ lower_none e es sorted k lower)

      here : after < e.0 → (b c : Bool) → nat_lt e.0 k ≡ b → nat_lt k e.0 ≡ c → Some e ≡ Some (k, x)
      here lower true c high low = absurd (not_higher lower (ltb-true e.0 k high))
      here lower false true high low = absurd (not_lower (ltb-true k e.0 low))
      here lower false false high low = same_place (ltb-false k e.0 low) (ltb-false e.0 k high)

      by_after : (e.0 ≤ after → first_of (λ (e : ℕ × X). nat_lt after e.0) es ≡ Some (k, x)) → (b : Bool) → nat_lt after e.0 ≡ b → cond b (Some e) (first_of (λ (e : ℕ × X). nat_lt after e.0) es) ≡ Some (k, x)
      by_after rest true is = here (ltb-true after e.0 is) (nat_lt e.0 k) (nat_lt k e.0) refl refl
      by_after rest false is = rest (ltb-false after e.0 is)

  pub none_is : (es : List (ℕ × X)) (after : ℕ) → T (is_sorted nat_cmp es) → ((n : ℕ) → after < n → find nat_cmp n es ≡ None) → first_of (λ (e : ℕ × X). nat_lt after e.0) es ≡ None
  none_is [] after sorted none = refl
  none_is (e ∷ es) after sorted none =
      by_after (λ behind. none_is es after (others e es sorted) (λ n low. sym (past_first e es n (omega (arith, behind, low))) ∙ none n low)) (nat_lt after e.0) refl
    where
      by_after : (e.0 ≤ after → first_of (λ (e : ℕ × X). nat_lt after e.0) es ≡ None) → (b : Bool) → nat_lt after e.0 ≡ b → cond b (Some e) (first_of (λ (e : ℕ × X). nat_lt after e.0) es) ≡ None
      by_after rest true is = absurd (some_not_none e.1 (sym (at_first e es) ∙ none e.0 (ltb-true after e.0 is)))
      by_after rest false is = rest (ltb-false after e.0 is)

medium_is : (n : ℕ) → 1 ≤ n → n ≤ 99 → IsTrue (is_medium n)
medium_is n from to = grind (arith, nat_tests)

-- The media

module _ (image : Image) (w : World) (stands : StandsWhole image (off w)) (none : backups_of (off w) ≡ []) (idle : w.backup_task ≡ None) where
  -- where no device is, there is no medium
  absent_medium : (n : ℕ) → 1 ≤ n → n ≤ 99 → image (OnMedium n) ≡ None → get w.media n ≡ None
  absent_medium n from to gone = by_medium (get w.media n) (stands.media.each n from to) where
    by_medium : (o : Option Medium) → MatchOption o (size_of (image (OnMedium n)) ≡ None) (MediumStands (look image) n) → o ≡ None
    by_medium None p = refl
    by_medium (Some medium) p = let wrong : size_of None ≡ Some (medium.pages * page_len) = sym (ap size_of gone) ∙ p.there in absurd cc

  past_last : (n : ℕ) → 99 < n → get w.media n ≡ None
  past_last n high = by_medium (get w.media n) refl where
    by_medium : (o : Option Medium) → get w.media n ≡ o → o ≡ None
    by_medium None is = refl
    by_medium (Some medium) is = let range = stands.media.numbers n (subst IsSome (sym is) refl) in absurd (omega (arith, range, high))

  -- there is no medium above a number
  pub end_is : (after : ℕ) → NoMediumAbove image after → next_medium w after ≡ None
  end_is after gone =
      none_is (entries w.media) after (entries_sorted w.media) (λ n above. sym (get-entries w.media n) ∙ by_range n above (nat_lt 99 n) refl)
    where
      by_range : (n : ℕ) → after < n → (b : Bool) → nat_lt 99 n ≡ b → get w.media n ≡ None
      by_range n above true is = past_last n (ltb-true 99 n is)
      by_range n above false is = absent_medium n (omega (arith, above)) (ltb-false 99 n is) (gone n above (ltb-false 99 n is))

  -- a medium that is blank shows nothing else
  blank_shows : (n : ℕ) → 1 ≤ n → n ≤ 99 → IsThere image (OnMedium n) → open_medium image n ≡ None → (found : Option MediumHeader) → Holds image n found → shown found ≡ Blank
  blank_shows n from to there shut None held = refl
  blank_shows n from to there shut (Some header) held =
      let opened : image (OnMedium n) ≡ None =
      (λ i. cond (sym (medium_is n from to) i && (sym held.0 i == open_gate)) (image (OnMedium n)) None) ∙ shut in
      let wrong : size_of None ≡ Some there.0 = sym (ap size_of opened) ∙ there.1 in
      absurd cc

  pub line_is : (after : ℕ) (line : MediumLine) → IsLine image after None line → IsNextLine w after (Some line)
  line_is after line is = by_medium (get w.media line.medium) refl (stands.media.each line.medium (omega (arith, is.next.above)) is.next.most) where
    -- each medium that comes before is not there
    least : (n : ℕ) → after < n → n < line.medium → find nat_cmp n (entries w.media) ≡ None
    least n above lower = sym (get-entries w.media n) ∙ absent_medium n (omega (arith, above)) (omega (arith, lower, is.next.most)) (is.next.least n above lower)

    shows : (medium : Medium) → get w.media line.medium ≡ Some medium → MediumStands (look image) line.medium medium → line ≡ medium_line w (line.medium, medium)
    shows medium at p =
        let same_bytes : is.pages.0 * page_len ≡ medium.pages * page_len = ap (λ (o : Option ℕ). unwrap_or o 0) (sym is.pages.1 ∙ p.there) in
        let pages : line.pages ≡ medium.pages = omega (arith, same_bytes, is.pages.2, p.most) in
        let empty : medium.holds ≡ None = each_holds (entries w.media) line.medium medium none (sym (get-entries w.media line.medium) ∙ at) in
        let holds : line.holds ≡ medium_state medium.holds (is_busy w line.medium) =
        is.holds.2 ∙ blank_shows line.medium (omega (arith, is.next.above)) is.next.most is.next.there (p.blank empty) is.holds.0 is.holds.1
        ∙ (λ i. medium_state (sym empty i) (unwrap_or (option_map (λ task. task.medium == line.medium) (sym idle i)) false)) in
        λ i. record { medium = line.medium; pages = pages i; holds = holds i }

    by_medium : (o : Option Medium) → get w.media line.medium ≡ o → MatchOption o (size_of (image (OnMedium line.medium)) ≡ None) (MediumStands (look image) line.medium) → IsNextLine w after (Some line)
    by_medium None at p = let wrong : None ≡ Some is.next.there.0 = sym p ∙ is.next.there.1 in absurd cc
    by_medium (Some medium) at p = (
      (line.medium, medium),
      first_is (entries w.media) after line.medium medium (entries_sorted w.media) (sym (get-entries w.media line.medium) ∙ at) is.next.above least,
      shows medium at p,
    )

  -- the answer of a list, of which damage is none
  pub list_answer : (after : ℕ) (result : Result (Option MediumLine) PageFault) → ListAnswer image after None result → IfOk result (IsNextLine w after) × IfErr result (λ fault. fault ≡ Failed)
  list_answer after (Ok None) is = (end_is after is, tt)
  list_answer after (Ok (Some line)) is = (line_is after line is, tt)
  list_answer after (Err Failed) is = (tt, refl)
  list_answer after (Err (Damaged damage)) is =
      let next = is.2.next in
      absurd (never_broken is.0 (omega (arith, next.above)) next.most next.there is.2.breaks)
    where
      never_broken : (n : ℕ) → 1 ≤ n → n ≤ 99 → IsThere image (OnMedium n) → BreaksHeader image n → ⊥
      never_broken n from to there breaks = by_medium (get w.media n) refl (stands.media.each n from to) where
        by_medium : (o : Option Medium) → get w.media n ≡ o → MatchOption o (size_of (image (OnMedium n)) ≡ None) (MediumStands (look image) n) → ⊥
        by_medium None at p = let wrong : None ≡ Some there.0 = sym p ∙ there.1 in cc
        by_medium (Some medium) at p =
            let empty : medium.holds ≡ None = each_holds (entries w.media) n medium none (sym (get-entries w.media n) ∙ at) in
            let opened : image (OnMedium n) ≡ None =
            (λ i. cond (sym (medium_is n from to) i && (sym breaks.gate i == open_gate)) (image (OnMedium n)) None) ∙ p.blank empty in
            let wrong : size_of None ≡ Some there.0 = sym (ap size_of opened) ∙ there.1 in
            cc
