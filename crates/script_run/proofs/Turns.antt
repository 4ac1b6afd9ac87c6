-- The turns of the loop over the lines, and the whole call.
use Rattle.std.proofs.Common.{◌≡◌, refl, sym, subst, ap, ◌∙◌, ℕ, zero, suc, ◌+◌, ◌-◌, List, [], ◌∷◌, ◌++◌, Option, None, Contains, All, length, take, map, arith, append_assoc}
use Rattle.std.specs.List.{concat}
use Rattle.std.specs.FinMap.{empty}
use Rattle.std.proofs.lemmas.List.{append-nil, length-append}
use Rattle.std.proofs.lemmas.List.Elements.{All-contains, All-map, All-weaker}
use Rattle.mdb_host.specs.Disk.{Disk, Keeps}
use Rattle.mdb_host.proofs.Moments.{keeps_all}
use Rattle.mdb_model.specs.declared.name.State.TheVariants.{Offline, Online}
use Rattle.mdb_model.specs.declared.status.Status.{Status}
use Rattle.mdb_model.specs.declared.status.Status.TheVariants.{SayFault}
use Rattle.mdb_model.specs.Images.{Image}
use Rattle.mdb_model.specs.Pages.{PageReading}
use Rattle.mdb_model.specs.Worlds.{World, off}
use Rattle.mdb_model.specs.Text.{text_of}
use Rattle.mdb_model.specs.Runs.{Line, TakenLine, Run, last_worlds}
use Rattle.mdb_model.specs.Serial.{IsSerial}
use Rattle.mdb_model.proofs.SerialLaw.{serial}
use Rattle.mdb_model.specs.Agreement.{Ages, IsSound, Agrees}
use Rattle.mdb_model.specs.Headline.{IsPrefix, CrashesStand, CanStart, Instant, IsCaused, AreCaused, ScriptIsRead, RepliesAreSaid, texts_of, lines_of, RecordsAreTied}
use Rattle.db_kernel.specs.Damages.{past_end_in}
use Rattle.open_database.specs.Stretch.{LeavesOnly}
use Rattle.standing.specs.WholeStanding.{pages_in, savepoint_in, commit_number_in}
use Rattle.script_run.specs.Along.{instant, AreTied, Passes, Taken, TakenWhole, Served, KeepsSerialRun}
use Rattle.script_run.proofs.Caused.{caused_push}
use Rattle.script_run.proofs.Texts.{said_all, said_then, lines-append}
use Rattle.script_run.proofs.Join.{join, join_said, begins, last-append}

pub contains_map : {A B : Type 0} (f : A → B) (xs : List A) (x : A) → Contains xs x → Contains (map f xs) (f x)
contains_map f [] x (k, inside, is) = absurd (omega arith)
contains_map f (y ∷ xs) x (zero, inside, is) = (zero, omega arith, ap f is)
contains_map f (y ∷ xs) x (suc k, inside, is) =
    let rest = contains_map f xs x (k, omega arith, is) in
    (suc rest.0, omega (arith, rest.1), rest.2)

module _ (reading : PageReading) (stands : Image → World → Type 0) where
  pub served_none : (disk : Disk) (f : ℕ) (ws : List World) (fits : List World → Type 0) → fits ws → LeavesOnly reading stands disk ws → Served reading stands disk disk f f ws [] fits
  served_none disk f ws fits fit stand = record {
    run = [];
    lines_are = refl;
    instants = [];
    causes = (omega arith, omega arith);
    passes = begins reading stands disk ws stand (keeps_all disk);
    said = sym (append-nil (disk.said disk.now));
    fit = fit;
    stand = stand;
  }

  module _ (d0 d1 d2 : Disk) (f0 f1 f2 : ℕ) (ws : List World) (lines : List Line) (line : Line) (before after : List World → Type 0)
      (so_far : Served reading stands d0 d1 f0 f1 ws lines before) where
    pub served_next : TakenWhole reading stands d1 d2 f1 f2 (last_worlds reading ws so_far.run) line after → Served reading stands d0 d2 f0 f2 ws (lines ++ line ∷ []) after
    served_next next =
        let last = last-append reading ws so_far.run (next.entry ∷ []) in
        record {
          run = so_far.run ++ next.entry ∷ [];
          lines_are = lines-append so_far.run (next.entry ∷ []) ∙ (λ k. so_far.lines_are k ++ next.is k ∷ []);
          instants = so_far.instants ++ next.causes.at ∷ [];
          causes = caused_push reading stands d1 d2 next.passes.keeps f1 f2 ws (d0.said d0.now) (instant d0.now f0) so_far.instants so_far.run next.entry next.causes.at so_far.causes
              (subst (λ (text : List ℕ). IsCaused reading d2.said d2.may_leave stands past_end_in (last_worlds reading ws so_far.run) text (instant d1.now f1) next.entry next.causes.at) so_far.said next.causes.caused)
              next.causes.within next.causes.counted;
          passes = join reading stands d0 d1 d2 ws so_far.run (next.entry ∷ []) so_far.passes so_far.said next.passes;
          said = join_said reading stands d0 d1 d2 ws so_far.run (next.entry ∷ []) so_far.passes so_far.said next.passes (text_of next.entry.answer) next.said
              ∙ (λ k. d0.said d0.now ++ (concat (texts_of so_far.run) ++ sym (append-nil (text_of next.entry.answer)) k))
              ∙ (λ k. d0.said d0.now ++ sym (said_all so_far.run (next.entry ∷ [])) k);
          fit = subst after (sym last) next.fit;
          stand = subst (λ (vs : List World). LeavesOnly reading stands d2 vs) (sym last) next.stand;
        }

  -- The whole call

  module _ (d0 dn : Disk) (f0 fn : ℕ) (old : List (World × Ages))
      (serial_of : (run : List TakenLine) → Run reading (map (λ (e : World × Ages). e.0) old) run → IsSerial run)
      (records_of : (run : List TakenLine) → Run reading (map (λ (e : World × Ages). e.0) old) run → AreTied reading stands d0 dn (map (λ (e : World × Ages). e.0) old) run
      → RecordsAreTied reading dn.said dn.may_leave stands pages_in savepoint_in commit_number_in d0.now dn.now (map (λ (e : World × Ages). e.0) old) run) where
    abbrev pub worlds : List World
    worlds = map (λ (e : World × Ages). e.0) old

    crashes_of : (run : List TakenLine) → Passes reading stands d0 dn worlds run → CrashesStand reading dn.said dn.may_leave stands d0.now dn.now worlds run
    crashes_of run passes t from upto_end = let at = passes.moments t from upto_end in (at.count, at.said, at.stand)

    -- the causes since the start of the call
    causes_of : (keeps : Keeps d0 dn) (run : List TakenLine) (instants : List Instant)
        → AreCaused reading dn.said dn.may_leave stands past_end_in (instant dn.now fn) worlds (d0.said d0.now) (instant d0.now f0) instants run
        → AreCaused reading dn.said dn.may_leave stands past_end_in (instant dn.now fn) worlds (dn.said d0.now) (instant d0.now f0) instants run
    causes_of keeps run instants causes =
        subst (λ (text : List ℕ). AreCaused reading dn.said dn.may_leave stands past_end_in (instant dn.now fn) worlds text (instant d0.now f0) instants run)
        (sym (keeps.said d0.now (omega arith))) causes

    -- all replies were said
    pub promise_whole : (status : Status) (left_before left : Option (List ℕ)) (lines : List Line) (fits : List World → Type 0)
        → ((before said : List ℕ) (run : List TakenLine) → said ≡ before ++ concat (texts_of run) → RepliesAreSaid status before said run)
        → ((run : List TakenLine) → lines_of run ≡ lines → ScriptIsRead status left_before left run)
        → Served reading stands d0 dn f0 fn worlds lines fits → KeepsSerialRun reading stands d0 dn f0 fn old status left_before left
    promise_whole status left_before left lines fits said_so read_so served = record {
      kept = record {
        run = served.run;
        follows = served.passes.follows;
        replies = said_so (dn.said d0.now) (dn.said dn.now) served.run (served.said ∙ (λ k. sym (served.passes.keeps.said d0.now (omega arith)) k ++ concat (texts_of served.run)));
        script = read_so served.run served.lines_are;
        crashes = crashes_of served.run served.passes;
        instants = served.instants;
        causes = causes_of served.passes.keeps served.run served.instants served.causes;
      };
      serial = serial_of served.run served.passes.follows;
      records = records_of served.run served.passes.follows served.passes.ties;
    }

    -- the reply to one could not be said
    module _ (d1 : Disk) (f1 : ℕ) (lines : List Line) (line : Line) (before : List World → Type 0)
        (so_far : Served reading stands d0 d1 f0 f1 worlds lines before)
        (next : Taken reading stands d1 dn f1 fn (last_worlds reading worlds so_far.run) line) where
      both : Passes reading stands d0 dn worlds (so_far.run ++ next.entry ∷ [])
      both = join reading stands d0 d1 dn worlds so_far.run (next.entry ∷ []) so_far.passes so_far.said next.passes

      said_so : dn.said dn.now ≡ dn.said d0.now ++ (concat (texts_of so_far.run) ++ next.part)
      said_so = join_said reading stands d0 d1 dn worlds so_far.run (next.entry ∷ []) so_far.passes so_far.said next.passes next.part next.said
          ∙ (λ k. sym (both.keeps.said d0.now (omega arith)) k ++ (concat (texts_of so_far.run) ++ next.part))

      upto_last : IsPrefix (concat (texts_of so_far.run) ++ next.part) (concat (texts_of (so_far.run ++ next.entry ∷ [])))
      upto_last = (
        next.prefix.0,
        append_assoc (concat (texts_of so_far.run)) next.part next.prefix.0
            ∙ (λ k. concat (texts_of so_far.run) ++ next.prefix.1 k)
            ∙ (λ k. concat (texts_of so_far.run) ++ sym (append-nil (text_of next.entry.answer)) k)
            ∙ sym (said_all so_far.run (next.entry ∷ [])),
      )

      from_last : IsPrefix (concat (take (length (so_far.run ++ next.entry ∷ []) - 1) (texts_of (so_far.run ++ next.entry ∷ [])))) (concat (texts_of so_far.run) ++ next.part)
      from_last =
          let n : length (so_far.run ++ next.entry ∷ []) - 1 ≡ length so_far.run + 0 = omega (arith, length-append so_far.run (next.entry ∷ [])) in
          let whole_texts = said_then so_far.run (next.entry ∷ []) (length (so_far.run ++ next.entry ∷ []) - 1) 0 n ∙ append-nil (concat (texts_of so_far.run)) in
          (next.part, λ k. whole_texts k ++ next.part)

      pub promise_cut : (left_before left : Option (List ℕ)) → ((run : List TakenLine) → lines_of run ≡ lines ++ line ∷ [] → ScriptIsRead SayFault left_before left run)
          → KeepsSerialRun reading stands d0 dn f0 fn old SayFault left_before left
      promise_cut left_before left read_so = record {
        kept = record {
          run = so_far.run ++ next.entry ∷ [];
          follows = both.follows;
          replies = (concat (texts_of so_far.run) ++ next.part, said_so, upto_last, from_last);
          script = read_so (so_far.run ++ next.entry ∷ []) (lines-append so_far.run (next.entry ∷ []) ∙ (λ k. so_far.lines_are k ++ next.is k ∷ []));
          crashes = crashes_of (so_far.run ++ next.entry ∷ []) both;
          instants = so_far.instants ++ next.causes.at ∷ [];
          causes = causes_of both.keeps (so_far.run ++ next.entry ∷ []) (so_far.instants ++ next.causes.at ∷ [])
              (caused_push reading stands d1 dn next.passes.keeps f1 fn worlds (d0.said d0.now) (instant d0.now f0) so_far.instants so_far.run next.entry next.causes.at so_far.causes
              (subst (λ (text : List ℕ). IsCaused reading dn.said dn.may_leave stands past_end_in (last_worlds reading worlds so_far.run) text (instant d1.now f1) next.entry next.causes.at) so_far.said next.causes.caused)
              next.causes.within next.causes.counted);
        };
        serial = serial_of (so_far.run ++ next.entry ∷ []) both.follows;
        records = records_of (so_far.run ++ next.entry ∷ []) both.follows both.ties;
      }

  -- What a call starts from

  off_is : (w : World) → w.state ≡ Offline → (w.sessions ≡ empty) × (w.savepoint_task ≡ None) × (w.backup_task ≡ None) → off w ≡ w
  off_is w state rest i = record w { state = sym state i; sessions = sym rest.0 i; savepoint_task = sym rest.1 i; backup_task = sym rest.2 i }

  module _ (d0 : Disk) (old : List (World × Ages)) (can : CanStart reading d0.said d0.may_leave stands d0.now old) where
    abbrev CanBe : World × Ages → Type 0
    CanBe e = IsSound reading e.0 × (e.0.state ≡ Offline) × Agrees reading e.0 e.1

    at_rest : (e : World × Ages) → IsSound reading e.0 × (e.0.state ≡ Offline) × Agrees reading e.0 e.1 → off e.0 ≡ e.0
    at_rest e is = off_is e.0 is.1 (is.0.at_rest (λ online. offline_not (sym is.1 ∙ online)))
      where
        offline_not : Offline ≡ Online → ⊥
        offline_not same = cc

    pub start_stand : LeavesOnly reading stands d0 (map (λ e. e.0) old)
    start_stand image left =
        let e = can.images image left in
        let rest = at_rest e.0 (All-contains CanBe old e.0 can.worlds e.1) in
        (e.0.0, contains_map (λ (f : World × Ages). f.0) old e.0 e.1, subst (λ (w : World). stands image w) (sym rest) e.2)

    pub start_rest : All (λ w. off w ≡ w) (map (λ e. e.0) old)
    start_rest = All-map (λ w. off w ≡ w) (λ (e : World × Ages). e.0) old (All-weaker CanBe (λ e. off e.0 ≡ e.0) at_rest old can.worlds)

    -- the worlds are sound, so each run from them is serial
    pub start_serial : (run : List TakenLine) → Run reading (map (λ (e : World × Ages). e.0) old) run → IsSerial run
    start_serial run goes =
        serial reading (map (λ (e : World × Ages). e.0) old) run goes
        (All-map (λ w. IsSound reading w × (w.state ≡ Offline)) (λ (e : World × Ages). e.0) old (All-weaker CanBe (λ e. IsSound reading e.0 × (e.0.state ≡ Offline)) (λ e is. (is.0, is.1)) old can.worlds))
