-- What changes with one page.
use Rattle.std.proofs.Common.{◌≡◌, ◌≢◌, ◌⊎◌, inl, inr, ℕ, ◌+◌, ◌<◌, ◌≤◌, List, length, get_or, set, Bool, true, false, Option, Some, None, refl, ap, sym, subst, ◌∙◌, arith, length-set}
use Rattle.std.specs.Prelude.{unwrap_or}
use Rattle.std.proofs.lemmas.Bool.{cases_eq, false≢true}
use Rattle.std.proofs.lemmas.List.{get_or-set_same, get_or-set_other}
use Rattle.std.proofs.lemmas.Option.{same_Some}
use Rattle.mdb_model.specs.Images.{Image}
use Rattle.free_blocks.specs.Free.{IsFree}
use Rattle.free_blocks.specs.Marked.{IsMarked}
use Rattle.mdb_bytes.specs.declared.converter_pages.ConverterEntry.{ConverterEntry}
use Rattle.mdb_bytes.specs.Firsts.{no_entry}
use Rattle.volume_disk.specs.Blocks.{block_at}
use Rattle.converter.specs.Maps.{block_of, entry_at, KeepsAt, IsKept, IsSoundMaps}
use Rattle.page_store.specs.Store.{Store, block_count, page_block, frame_of, has_changed, block_bytes, IsHeld, IsStore, FramesMatch}
use Rattle.page_store.specs.Stamps.{page_entry, AreStamped, stays_same, is_newest, is_dead}
use Rattle.page_store.specs.Steps.{KeepsMaps, IsElse, OnePage, Fills, with_frame, moved_to, newer_at, without_page, given_block}
use Rattle.page_store.specs.StepLaws.{keeps_same, kept_on, keeps_on, page_steps_on}
use Rattle.page_store.proofs.Moves.{not_used, entry_here, other_entry, used_before, is_below, gone_entry, gone_here, spot_entry, has_before}

pub kept_back : (a b : Store) (x : ℕ) → KeepsMaps a b → IsKept b.maps x → IsKept a.maps x
kept_back a b x keeps kept = (
  kept.0,
  elim kept.1 [
    | inl saved ↦ inl (ap (λ (l : List ConverterEntry). block_of l kept.0) (sym keeps.saved) ∙ saved)
    | inr frozen ↦ inr (ap (λ (l : List ConverterEntry). block_of l kept.0) (sym keeps.frozen) ∙ frozen)
  ],
)

pub held_on : (a b : Store) (x : ℕ) → KeepsMaps a b → IsHeld a x → IsHeld b x
held_on a b x keeps held = elim held [
  | inl kept ↦ inl (kept_on a b x keeps kept)
  | inr marked ↦ inr (subst (λ (l : List (List Bool)). IsMarked l x) (sym keeps.marks) marked)
]

pub held_back : (a b : Store) (x : ℕ) → KeepsMaps a b → IsHeld b x → IsHeld a x
held_back a b x keeps held = elim held [
  | inl kept ↦ inl (kept_back a b x keeps kept)
  | inr marked ↦ inr (subst (λ (l : List (List Bool)). IsMarked l x) keeps.marks marked)
]

-- the block of another page
pub other_block : {T : Type 0} {a b : Store} {page : ℕ} {seen : Image} → OnePage T a b page seen → (p : ℕ) → p ≢ page → page_block b p ≡ page_block a p
other_block one p away = ap (λ (e : ConverterEntry). e.block) (one.others p away)

-- the same maps and marks
pub same_stamps : (a b : Store) → b.maps ≡ a.maps → b.marks ≡ a.marks → b.next ≡ a.next → AreStamped a → AreStamped b
same_stamps a b maps marks next is =
    let here : record a { maps = b.maps; marks = b.marks; next = b.next } ≡ a = λ i. record a { maps = maps i; marks = marks i; next = next i } in
    let now : AreStamped record a { maps = b.maps; marks = b.marks; next = b.next } = subst AreStamped (sym here) is in
    record { present = now.present; frozen = now.frozen; saved = now.saved; own = now.own }

-- all entries but one are as they were
stamps_on : (a b : Store) (page : ℕ) → KeepsMaps a b → ((p : ℕ) → p ≢ page → page_entry b p ≡ page_entry a p) → (page_entry b page).stamp ≤ a.next
    → (0 < page_block b page → IsHeld a (page_block b page) ⊎ ((page_entry b page).stamp ≡ a.next)) → AreStamped a → AreStamped b
stamps_on a b page keeps others small own is = record {
  present = λ p. elim (cases_eq p page) [
    | inl at ↦ let e = ap (λ (x : ℕ). (page_entry b x).stamp) at in omega (arith, keeps.next, e, small)
    | inr away ↦ let e = ap (λ (x : ConverterEntry). x.stamp) (others p away) in omega (arith, keeps.next, e, is.present p)
  ];
  frozen = λ p. let e : (entry_at b.maps.frozen (b.maps.conv + p)).stamp ≡ (entry_at a.maps.frozen (a.maps.conv + p)).stamp = λ i. (entry_at (keeps.frozen i) (keeps.conv i + p)).stamp in omega (arith, keeps.next, e, is.frozen p);
  saved = λ p. let e : (entry_at b.maps.saved (b.maps.conv + p)).stamp ≡ (entry_at a.maps.saved (a.maps.conv + p)).stamp = λ i. (entry_at (keeps.saved i) (keeps.conv i + p)).stamp in omega (arith, keeps.next, e, is.saved p);
  own = λ p. elim (cases_eq p page) [
    | inl at ↦ subst (λ (x : ℕ). 0 < page_block b x → IsHeld b (page_block b x) ⊎ ((page_entry b x).stamp ≡ b.next)) (sym at) (λ some. kept page (own some))
    | inr away ↦ λ some. kept p (subst (λ (e : ConverterEntry). 0 < e.block → IsHeld a e.block ⊎ (e.stamp ≡ a.next)) (sym (others p away)) (is.own p) some)
  ];
}
  where
    kept : (p : ℕ) → IsHeld a (page_block b p) ⊎ ((page_entry b p).stamp ≡ a.next) → IsHeld b (page_block b p) ⊎ ((page_entry b p).stamp ≡ b.next)
    kept p held = elim held [
      | inl held ↦ inl (held_on a b (page_block b p) keeps held)
      | inr at ↦ inr (at ∙ sym keeps.next)
    ]

pub else_on : (T : Type 0) (a b : Store) (page x : ℕ) (seen : Image) → OnePage T a b page seen → IsElse a page x → IsElse b page x
else_on T a b page x seen one is = (
  is.0,
  elim is.1 [
    | inl held ↦ inl (held_on a b x one.keeps held)
    | inr (p, away, at) ↦ inr (p, away, other_block one p away ∙ at)
  ],
)

-- one call after the other on the same page
pub page_on : (T : Type 0) (a b c : Store) (page : ℕ) (seen : Image) → OnePage T a b page seen → OnePage T b c page seen → OnePage T a c page seen
page_on T a b c page seen one two = record {
  keeps = keeps_on a b c one.keeps two.keeps;
  others = λ p away. two.others p away ∙ one.others p away;
  known = λ known. two.known (one.known known);
  elsewhere = λ known x is. two.elsewhere (one.known known) x (else_on T a b page x seen one is) ∙ one.elsewhere known x is;
  stamped = λ is. two.stamped (one.stamped is);
  here = λ is. page_steps_on _ _ a b c seen seen seen page one.keeps.next one.known (one.here is) (two.here (one.stamped is));
}

pub page_none : (T : Type 0) (s : Store) (page : ℕ) (seen : Image) → OnePage T s s page seen
page_none T s page seen = record {
  keeps = keeps_same s;
  others = λ p away. refl;
  known = λ known. known;
  elsewhere = λ known x is. refl;
  stamped = λ is. is;
  here = λ is. stays_same refl (λ known. refl);
}

-- a frame that was filled
filled_bytes : (s : Store) (b c : ℕ) (bytes : List ℕ) (seen : Image) → b < length s.frames → bytes ≡ block_bytes s seen b → block_bytes (with_frame s b bytes) seen c ≡ block_bytes s seen c
filled_bytes s b c bytes seen lt is = elim (cases_eq c b) [
  | inl same ↦
      ap (λ (x : ℕ). block_bytes (with_frame s b bytes) seen x) same
      ∙ ap (λ (o : Option (List ℕ)). unwrap_or o (block_at s.sizes seen b)) (get_or-set_same s.frames b (Some bytes) None lt)
      ∙ is ∙ ap (block_bytes s seen) (sym same)
  | inr other ↦ ap (λ (o : Option (List ℕ)). unwrap_or o (block_at s.sizes seen c)) (get_or-set_other s.frames b c (Some bytes) None other)
]

filled_reads : (s : Store) (b : ℕ) (bytes : List ℕ) (seen : Image) → b < length s.frames → bytes ≡ block_bytes s seen b → FramesMatch s seen → FramesMatch (with_frame s b bytes) seen
filled_reads s b bytes seen lt is reads q c x page some has same frame = elim (cases_eq c b) [
  | inl at ↦
      let mine : x ≡ bytes = same_Some x bytes (sym frame ∙ ap (λ (y : ℕ). get_or (set s.frames b (Some bytes)) y None) at ∙ get_or-set_same s.frames b (Some bytes) None lt) in
      elim (frame_of s c) as (λ (o : Option (List ℕ)). frame_of s c ≡ o → block_at s.sizes seen c ≡ x) [
        | None ↦ λ none. ap (λ (o : Option (List ℕ)). unwrap_or o (block_at s.sizes seen c)) (sym none) ∙ ap (block_bytes s seen) at ∙ sym is ∙ sym mine
        | Some old ↦ λ there.
            reads q c old page some has same there
            ∙ ap (λ (o : Option (List ℕ)). unwrap_or o (block_at s.sizes seen c)) (sym there) ∙ ap (block_bytes s seen) at ∙ sym is ∙ sym mine
      ] refl
  | inr other ↦ reads q c x page some has same (sym (get_or-set_other s.frames b c (Some bytes) None other) ∙ frame)
]

pub filled_page : (T : Type 0) (s new : Store) (page b : ℕ) (seen : Image) → IsStore s → b < block_count s → Fills T s new b seen → OnePage T s new page seen
filled_page T s new page b seen store lt fills =
    let at : b < length s.frames = omega (arith, store.frames_long, lt) in
    subst (λ (t : Store). OnePage T s t page seen) (sym fills.is) record {
      keeps = record { conv = refl; saved = refl; frozen = refl; frozen_at = refl; area = refl; marks = refl; sizes = refl; next = refl; pinned = refl; written = λ c kept is. is };
      others = λ p away. refl;
      known = λ known. record { told = known.told; reads = filled_reads s b fills.bytes seen at (fills.same known.told known.there) known.reads; there = known.there };
      elsewhere = λ known c is. filled_bytes s b c fills.bytes seen at (fills.same known.told known.there);
      stamped = same_stamps s (with_frame s b fills.bytes) refl refl refl;
      here = λ is. stays_same refl (λ known. filled_bytes s b (page_block s page) fills.bytes seen at (fills.same known.told known.there));
    }

-- a frame that is newer than its block
pub newer_page : (T : Type 0) (s : Store) (page b : ℕ) (seen : Image) → b < length s.changed → (IsHeld s b → ⊥) → OnePage T s (newer_at s b) page seen
newer_page T s page b seen lt owned = record {
  keeps = record {
    conv = refl;
    saved = refl;
    frozen = refl;
    frozen_at = refl;
    area = refl;
    marks = refl;
    sizes = refl;
    next = refl;
    pinned = refl;
    written = λ c kept is. get_or-set_other s.changed b c true false (λ same. owned (inl (subst (λ (x : ℕ). IsKept s.maps x) same kept))) ∙ is;
  };
  others = λ p away. refl;
  known = λ known. record {
    told = known.told;
    reads = λ q c x page some has same frame. elim (cases_eq c b) [
      | inl at ↦ absurd (false≢true (sym same ∙ ap (λ (y : ℕ). get_or (set s.changed b true) y false) at ∙ get_or-set_same s.changed b true false lt))
      | inr other ↦ known.reads q c x page some has (sym (get_or-set_other s.changed b c true false other) ∙ same) frame
    ];
    there = known.there;
  };
  elsewhere = λ known c is. refl;
  stamped = same_stamps s (newer_at s b) refl refl refl;
  here = λ is. stays_same refl (λ known. refl);
}

-- a page that has a free block now
pub moved_page : (T : Type 0) (s : Store) (page b : ℕ) (bytes : List ℕ) (seen : Image) → IsSoundMaps s.maps → IsStore s → page < block_count s → IsFree s.free b → (page_block s page ≡ 0) ⊎ IsHeld s (page_block s page)
    → OnePage T s (moved_to s page b bytes) page seen
moved_page T s page b bytes seen sound store below free left =
    let place = s.maps.conv + page in
    let unused = not_used s page b bytes sound store below free left in
    let unheld : (c : ℕ) → IsHeld s c → c ≢ b = λ c held same. elim held [
      | inl kept ↦ unused (kept.0, inr (subst (λ (x : ℕ). KeepsAt s.maps kept.0 x) same kept.1))
      | inr marked ↦ store.unmarked b free (subst (λ (x : ℕ). IsMarked s.marks x) same marked)
    ] in
    let lt : b < length s.changed = omega (arith, store.changed_long, is_below s page b bytes sound store below free left) in
    let keeps : KeepsMaps s (moved_to s page b bytes) = record {
      conv = refl;
      saved = refl;
      frozen = refl;
      frozen_at = refl;
      area = length-set s.maps.owner b place;
      marks = refl;
      sizes = refl;
      next = refl;
      pinned = refl;
      written = λ c kept is. get_or-set_other s.changed b c true false (unheld c (inl kept)) ∙ is;
    } in
    let others : (p : ℕ) → p ≢ page → page_entry (moved_to s page b bytes) p ≡ page_entry s p =
    λ p away. other_entry s page b bytes sound store below free left (s.maps.conv + p) (λ same. away (omega (arith, same))) in
    let newest : (page_entry (moved_to s page b bytes) page).stamp ≡ s.next = ap (λ (e : ConverterEntry). e.stamp) (entry_here s page b bytes sound store below free left) in
    record {
      keeps = keeps;
      others = others;
      known = λ known. record {
        told = known.told;
        reads = λ q c x le some has same frame. elim (cases_eq c b) [
          | inl at ↦ absurd (false≢true (sym same ∙ ap (λ (y : ℕ). get_or (set s.changed b true) y false) at ∙ get_or-set_same s.changed b true false lt))
          | inr other ↦
              known.reads q c x le some (used_before s page b bytes sound store below free left c q other has)
              (sym (get_or-set_other s.changed b c true false other) ∙ same) (sym (get_or-set_other s.frames b c (Some bytes) None other) ∙ frame)
        ];
        there = known.there;
      };
      elsewhere = λ known c is.
          let other : c ≢ b = elim is.1 [
            | inl held ↦ unheld c held
            | inr (p, away, at) ↦ λ same. unused (s.maps.conv + p, inl (at ∙ same))
          ] in
          ap (λ (o : Option (List ℕ)). unwrap_or o (block_at s.sizes seen c)) (get_or-set_other s.frames b c (Some bytes) None other);
      stamped = stamps_on s (moved_to s page b bytes) page keeps others (omega (arith, newest)) (λ some. inr newest);
      here = λ is. is_newest newest;
    }

-- a page that has no block any more
module _ (T : Type 0) (s : Store) (page : ℕ) (seen : Image) (sound : IsSoundMaps s.maps) (store : IsStore s) (below : page < block_count s) (lives : 0 < page_block s page) where
  bare_others : (p : ℕ) → p ≢ page → page_entry (without_page s page) p ≡ page_entry s p
  bare_others p away = spot_entry s page sound store below lives (s.maps.conv + p) (λ same. away (omega (arith, same)))

  gone : page_block (without_page s page) page ≡ 0
  gone = gone_here s page sound store below lives

  no_stamp : (page_entry (without_page s page) page).stamp ≡ 0
  no_stamp = ap (λ (e : ConverterEntry). e.stamp) (gone_entry s page sound store below lives)

  bare_keeps : KeepsMaps s (without_page s page)
  bare_keeps = record { conv = refl; saved = refl; frozen = refl; frozen_at = refl; area = refl; marks = refl; sizes = refl; next = refl; pinned = refl; written = λ c kept is. is }

  bare_stamped : AreStamped s → AreStamped (without_page s page)
  bare_stamped = stamps_on s (without_page s page) page bare_keeps bare_others (omega (arith, no_stamp)) (λ some. absurd (omega (arith, some, gone)))

  pub bare_page : OnePage T s (without_page s page) page seen
  bare_page = record {
    keeps = bare_keeps;
    others = bare_others;
    known = λ known. record {
      told = known.told;
      reads = λ q c x le some has same frame. known.reads q c x le some (has_before s page sound store below lives c q some has) same frame;
      there = known.there;
    };
    elsewhere = λ known c is. refl;
    stamped = bare_stamped;
    here = λ is. is_dead gone;
  }

  pub given_page : (b : ℕ) → page_block s page ≡ b → (IsHeld s b → ⊥) → OnePage T s (given_block (without_page s page) b) page seen
  given_page b is owned = record {
    keeps = record {
      conv = refl;
      saved = refl;
      frozen = refl;
      frozen_at = refl;
      area = refl;
      marks = refl;
      sizes = refl;
      next = refl;
      pinned = refl;
      written = λ c kept same. get_or-set_other s.changed b c false false (λ at. owned (inl (subst (λ (x : ℕ). IsKept s.maps x) at kept))) ∙ same;
    };
    others = bare_others;
    known = λ known. record {
      told = known.told;
      reads = λ q c x le some has same frame. elim (cases_eq c b) [
        | inl at ↦ absurd (elim has [
          | inl present ↦
              let was = has_before s page sound store below lives c q some (inl present) in
              let one = sound.owned q c some was in
              let two = sound.owned (s.maps.conv + page) c some (inl (is ∙ sym at)) in
              let none : c ≡ 0 = sym present ∙ ap (λ (y : ℕ). block_of (set s.maps.present (s.maps.conv + page) no_entry) y) (sym one ∙ two) ∙ gone_here s page sound store below lives in
              omega (arith, none, some)
          | inr kept ↦ owned (inl (q, subst (λ (y : ℕ). KeepsAt s.maps q y) at kept))
        ])
        | inr other ↦
            known.reads q c x le some (has_before s page sound store below lives c q some has)
            (sym (get_or-set_other s.changed b c false false other) ∙ same) (sym (get_or-set_other s.frames b c None None other) ∙ frame)
      ];
      there = known.there;
    };
    elsewhere = λ known c else.
        let other : c ≢ b = elim else.1 [
          | inl held ↦ λ same. owned (subst (λ (y : ℕ). IsHeld s y) same held)
          | inr (p, away, at) ↦ λ same.
              let one = sound.owned (s.maps.conv + p) c else.0 (inl at) in
              let two = sound.owned (s.maps.conv + page) c else.0 (inl (is ∙ sym same)) in
              away (omega (arith, one, two))
        ] in
        ap (λ (o : Option (List ℕ)). unwrap_or o (block_at s.sizes seen c)) (get_or-set_other s.frames b c None None other);
    stamped = λ is. same_stamps (without_page s page) (given_block (without_page s page) b) refl refl refl (bare_stamped is);
    here = λ is. is_dead gone;
  }

-- a page whose frame has other bytes
pub lent_page : (T : Type 0) (s : Store) (page b : ℕ) (bytes : List ℕ) (seen : Image) → IsSoundMaps s.maps → 0 < b → page_block s page ≡ b → has_changed s b ≡ true → (IsHeld s b → ⊥) → OnePage T s (with_frame s b bytes) page seen
lent_page T s page b bytes seen sound some is newer owned = record {
  keeps = record { conv = refl; saved = refl; frozen = refl; frozen_at = refl; area = refl; marks = refl; sizes = refl; next = refl; pinned = refl; written = λ c kept is. is };
  others = λ p away. refl;
  known = λ known. record {
    told = known.told;
    reads = λ q c x le more has same frame. elim (cases_eq c b) [
      | inl at ↦ absurd (false≢true (sym same ∙ ap (has_changed s) at ∙ newer))
      | inr other ↦ known.reads q c x le more has same (sym (get_or-set_other s.frames b c (Some bytes) None other) ∙ frame)
    ];
    there = known.there;
  };
  elsewhere = λ known c else.
      let other : c ≢ b = elim else.1 [
        | inl held ↦ λ same. owned (subst (λ (y : ℕ). IsHeld s y) same held)
        | inr (p, away, at) ↦ λ same.
            let one = sound.owned (s.maps.conv + p) c else.0 (inl at) in
            let two = sound.owned (s.maps.conv + page) c else.0 (inl (is ∙ sym same)) in
            away (omega (arith, one, two))
      ] in
      ap (λ (o : Option (List ℕ)). unwrap_or o (block_at s.sizes seen c)) (get_or-set_other s.frames b c (Some bytes) None other);
  stamped = same_stamps s (with_frame s b bytes) refl refl refl;
  here = λ stamped. elim (stamped.own page (omega (arith, some, is))) [
    | inl held ↦ absurd (owned (subst (λ (x : ℕ). IsHeld s x) is held))
    | inr newest ↦ is_newest newest
  ];
}
