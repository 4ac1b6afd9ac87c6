-- The loop over the lines of a script.
use Rattle.std.proofs.Common.{◌≡◌, refl, sym, subst, ap, ◌∙◌, ℕ, ◌+◌, ◌<◌, ◌≤◌, Bool, true, false, List, [], ◌∷◌, ◌++◌, Option, Some, Ok, Err, length, map, arith, append_assoc, append-nil}
use Rattle.std.specs.List.{AllZip, concat}
use Rattle.std.specs.Str.Lines.{lines}
use Rattle.std.proofs.lemmas.List.{length-append}
use Rattle.mdb_host.specs.Disk.{Disk}
use Rattle.mdb_model.specs.declared.fault.Failed.{Failed as SourceFault}
use Rattle.mdb_model.specs.declared.status.Status.{Status}
use Rattle.mdb_model.specs.declared.status.Status.TheVariants.{Done, ScriptFault, SayFault, LinesEnd, Memory}
use Rattle.mdb_model.specs.Agreement.{Ages}
use Rattle.mdb_model.specs.Headline.{AreRead, AreWithinLimit, LinesAreRead, ScriptIsRead, RepliesAreSaid, lines_of, texts_of, ended_part, answered_lines}
use Rattle.mdb_model.specs.Runs.{Line, TakenLine, Run, last_worlds}
use Rattle.mdb_model.specs.Serial.{IsSerial}
use Rattle.mdb_model.specs.Script.{Reads, is_skipped, line_weight, script_lines, most_lines}
use Rattle.mdb_model.specs.Worlds.{World}
use Rattle.open_database.specs.declared.database.Database.{Database}
use Rattle.db_kernel.specs.Kept.{FitsWorlds}
use Rattle.open_database.specs.Stretch.{LeavesOnly}
use Rattle.script_run.specs.Along.{Taken, KeepsSerialRun}
use Rattle.script_lines.specs.declared.lines.LineKind.{LineKind}
use Rattle.script_lines.specs.declared.lines.LineKind.TheVariants.{Text, TooLong, End}
use Rattle.script_run.specs.Progress.{ReadsAs, HandlesLine, IsLineText, is_end, weight_in, HasReadLines, Progress}
use Rattle.script_lines.specs.Reading.{Reading, HasRead, FindsNextLine, Advances, kept, weight_of}
use Rattle.script_lines.proofs.ReadingLaws.{weight-text, script_at_end, script_at_failure, weight-push, limit_answered, limit_shorter, kept-skipped, kept-answered, AreRead-begins}
use Rattle.script_lines.proofs.ReadingSteps.{HasRead-lines}
use Rattle.script_run.proofs.Turns.{served_none, served_next, promise_whole, promise_cut}
use Rattle.script_run.proofs.TiedRecords.{records_in}
use Rattle.open_database.specs.Outside.{page_reading, StandsFor}

-- one more line and what it reads as
reads_push : (texts : List (List ℕ)) (ls : List Line) (text : List ℕ) (line : Line) → AllZip Reads texts ls → Reads text line → AllZip Reads (texts ++ text ∷ []) (ls ++ line ∷ [])
reads_push [] [] text line h reads = (reads, tt)
reads_push [] (l ∷ ls) text line h reads = absurd h
reads_push (t ∷ texts) [] text line h reads = absurd h
reads_push (t ∷ texts) (l ∷ ls) text line h reads = (h.0, reads_push texts ls text line h.1 reads)

-- each line counts as one or more
pub weighs : (kind : LineKind) → 1 ≤ weight_in kind
weighs Text = omega arith
weighs (TooLong lines) = omega arith
weighs End = omega arith

-- before the first line
pub progress_first : (d : Disk) (f : ℕ) (ws : List World) (database : Option Database) (reader : Reading) (told : Option (List ℕ)) → ((left : List ℕ) → HasRead reader [] left []) → FitsWorlds database d ws → LeavesOnly page_reading StandsFor d ws
    → Progress d d f f ws database reader told told 0
progress_first d f ws database reader told read fit stand = record {
  lines = [];
  served = served_none page_reading StandsFor d f ws (FitsWorlds database d) fit stand;
  script = λ bytes is. record {
    given = [];
    left = bytes;
    done = [];
    all = refl;
    is_left = is;
    read = read bytes;
    weight = refl;
    are = tt;
  };
}

-- the bytes are the same, however many of them are given
all_on : (given left more rest bytes : List ℕ) → given ++ left ≡ bytes → left ≡ more ++ rest → (given ++ more) ++ rest ≡ bytes
all_on given left more rest bytes all split = append_assoc given more rest ∙ (λ i. given ++ sym split i) ∙ all

-- The lines that are read of the bytes that a source tells

module _ (bytes : List ℕ) (reader : Reading) (told : Option (List ℕ)) (count : ℕ) (ls : List Line) (p : HasReadLines bytes reader told count ls)
    (more rest : List ℕ) (split : p.left ≡ more ++ rest) (told2 : Option (List ℕ)) (is_left : told2 ≡ Some rest) where
  all_here : (p.given ++ more) ++ rest ≡ bytes
  all_here = all_on p.given p.left more rest bytes p.all split

  -- the next line is skipped
  pub read_skipped : (reader2 : Reading) (text : List ℕ) (count2 : ℕ) → HasRead reader2 (p.given ++ more) rest (p.done ++ text ∷ []) → count2 ≡ count + line_weight text → is_skipped text ≡ true
      → HasReadLines bytes reader2 told2 count2 ls
  read_skipped reader2 text count2 read weight skipped = record {
    given = p.given ++ more;
    left = rest;
    done = p.done ++ text ∷ [];
    all = all_here;
    is_left = is_left;
    read = read;
    weight = omega (arith, weight, p.weight, weight-push p.done text);
    are = subst (λ (texts : List (List ℕ)). AllZip Reads texts ls) (sym (kept-skipped p.done text skipped)) p.are;
  }

  -- the next line is answered
  pub read_answered : (reader2 : Reading) (text : List ℕ) (count2 : ℕ) → HasRead reader2 (p.given ++ more) rest (p.done ++ text ∷ []) → count2 ≡ count + line_weight text
      → (line : Line) → (is_skipped text ≡ false) × Reads text line → HasReadLines bytes reader2 told2 count2 (ls ++ line ∷ [])
  read_answered reader2 text count2 read weight line reads = record {
    given = p.given ++ more;
    left = rest;
    done = p.done ++ text ∷ [];
    all = all_here;
    is_left = is_left;
    read = read;
    weight = omega (arith, weight, p.weight, weight-push p.done text);
    are = subst (λ (texts : List (List ℕ)). AllZip Reads texts (ls ++ line ∷ [])) (sym (kept-answered p.done text reads.0)) (reads_push (kept p.done) ls text line p.are reads.1);
  }

  -- How the call ends

  -- a run whose lines are those that are answered has read these texts
  read_of : (texts : List (List ℕ)) (run : List TakenLine) → texts ≡ kept p.done → lines_of run ≡ ls → AreRead texts run
  read_of texts run is lines_are = subst (λ (q : List (List ℕ) × List Line). AllZip Reads q.0 q.1) (λ i. (sym is i, sym lines_are i)) p.are

  -- what the call gave and has left
  abbrev Reads-so : Status → List TakenLine → Type 0
  Reads-so status run = (given : List ℕ) × ((left : List ℕ) × (given ++ left ≡ bytes) × (told2 ≡ Some left) × LinesAreRead status bytes given left run)

  low : count ≤ 16777216 → weight_of p.done ≤ most_lines
  low small = omega (arith, p.weight, small)

  -- the script came to its end
  pub read_to_end : rest ≡ [] → lines (p.given ++ more) ≡ p.done → count ≤ 16777216 → (run : List TakenLine) → lines_of run ≡ ls → Reads-so Done run
  read_to_end none found small run lines_are =
      let is : lines bytes ≡ p.done = ap lines (sym all_here ∙ ap (λ bs. (p.given ++ more) ++ bs) none ∙ append-nil (p.given ++ more)) ∙ found in (
        p.given ++ more,
        (
          rest,
          all_here,
          is_left,
          (
            read_of (script_lines bytes) run (script_at_end bytes (p.given ++ more) rest p.done all_here none found) lines_are,
            subst (λ (texts : List (List ℕ)). AreWithinLimit texts) (sym is) (low small),
            none,
          ),
        ),
      )

  -- the source failed
  pub read_to_fault : lines (ended_part (p.given ++ more)) ≡ p.done → count ≤ 16777216 → (run : List TakenLine) → lines_of run ≡ ls → Reads-so ScriptFault run
  read_to_fault found small run lines_are = (
    p.given ++ more,
    (
      rest,
      all_here,
      is_left,
      (
        read_of (script_lines (ended_part (p.given ++ more))) run (script_at_failure (p.given ++ more) p.done found) lines_are,
        subst (λ (texts : List (List ℕ)). AreWithinLimit texts) (sym found) (low small),
      ),
    ),
  )

  -- the next line is one too many
  pub read_to_limit : (text : List ℕ) (others : List (List ℕ)) → lines ((p.given ++ more) ++ rest) ≡ (p.done ++ text ∷ []) ++ others → count ≤ 16777216 → 16777216 < count + line_weight text
      → (run : List TakenLine) → lines_of run ≡ ls → Reads-so LinesEnd run
  read_to_limit text others are small high run lines_are =
      let is : lines bytes ≡ (p.done ++ text ∷ []) ++ others = sym (ap lines all_here) ∙ are in
      let over : most_lines < weight_of p.done + line_weight text = omega (arith, p.weight, high) in (
        p.given ++ more,
        (
          rest,
          all_here,
          is_left,
          (
            read_of (answered_lines bytes) run (limit_answered bytes p.done text others is (low small) over) lines_are,
            limit_shorter bytes p.done text others is (low small) over,
          ),
        ),
      )

  -- the reply to the next line could not be said
  pub read_to_reply : (text : List ℕ) (others : List (List ℕ)) → lines ((p.given ++ more) ++ rest) ≡ (p.done ++ text ∷ []) ++ others → count + line_weight text ≤ 16777216
      → (line : Line) → (is_skipped text ≡ false) × Reads text line → (run : List TakenLine) → lines_of run ≡ ls ++ line ∷ [] → Reads-so SayFault run
  read_to_reply text others are small line reads run lines_are =
      let is : lines bytes ≡ (p.done ++ text ∷ []) ++ others = sym (ap lines all_here) ∙ are in
      let within : weight_of (p.done ++ text ∷ []) ≤ most_lines = omega (arith, p.weight, weight-push p.done text, small) in
      let both : AllZip Reads (kept (p.done ++ text ∷ [])) (ls ++ line ∷ []) =
      subst (λ (texts : List (List ℕ)). AllZip Reads texts (ls ++ line ∷ [])) (sym (kept-answered p.done text reads.0)) (reads_push (kept p.done) ls text line p.are reads.1) in (
        p.given ++ more,
        (
          rest,
          all_here,
          is_left,
          (
            AreRead-begins bytes (p.done ++ text ∷ []) others run is within (subst (λ (l : List Line). AllZip Reads (kept (p.done ++ text ∷ [])) l) (sym lines_are) both),
            some_line run ls line lines_are,
          ),
        ),
      )
    where
      some_line : (run : List TakenLine) (ls : List Line) (l : Line) → lines_of run ≡ ls ++ l ∷ [] → 0 < length run
      some_line [] ls l is = omega (arith, ap (λ (x : List Line). length x) is, length-append ls (l ∷ []))
      some_line (e ∷ run) ls l is = omega arith

-- What the reader found

pub finds_end : (kind : LineKind) (reader : Reading) (given left : List ℕ) (done : List (List ℕ)) → is_end kind ≡ true → FindsNextLine kind reader given left done → (left ≡ []) × (lines given ≡ done)
finds_end End reader given left done end found = (found.0, found.1)
finds_end Text reader given left done end found = cc
finds_end (TooLong weight) reader given left done end found = cc

-- a line, and what it counts as
pub record FoundLine (kind : LineKind) (reader : Reading) (given left : List ℕ) (done : List (List ℕ)) (weight : ℕ) : Type 0 where
  pub text : List ℕ
  pub is : IsLineText kind reader.text text
  pub more : List (List ℕ)
  pub are : lines (given ++ left) ≡ (done ++ text ∷ []) ++ more
  pub past : (n : ℕ) → n ≤ 16777216 → 16777216 < n + weight → 16777216 < n + line_weight text
  pub exact : weight ≤ 16777216 → weight ≡ line_weight text
  pub read : weight ≤ 16777216 → HasRead reader given left (done ++ text ∷ [])

pub finds_line : (kind : LineKind) (reader : Reading) (given left : List ℕ) (done : List (List ℕ)) → is_end kind ≡ false → FindsNextLine kind reader given left done → FoundLine kind reader given left done (weight_in kind)
finds_line End reader given left done end found = cc
finds_line Text reader given left done end found = record {
  text = reader.text;
  is = refl;
  more = lines (reader.rest ++ left);
  are = HasRead-lines reader given left (done ++ reader.text ∷ []) found.1;
  past = λ n low high. omega (arith, low, high, weight-text reader.text found.0);
  exact = λ low. sym (weight-text reader.text found.0);
  read = λ low. found.1;
}
finds_line (TooLong weight) reader given left done end found = record {
  text = found.0;
  is = found.1;
  more = found.3.0;
  are = found.3.1;
  past = λ n low high. omega (arith, low, high, found.2);
  exact = λ low. omega (arith, low, found.2);
  read = λ low. found.4 (omega (arith, low));
}

-- One turn of the loop

-- what the reader advanced to, where the source tells its bytes: some bytes more were given, and the next line is found
pub record FindsLine (bytes : List ℕ) (reader : Reading) (told : Option (List ℕ)) (count : ℕ) (ls : List Line) (p : HasReadLines bytes reader told count ls)
    (kind : LineKind) (reader2 : Reading) (told2 : Option (List ℕ)) (weight : ℕ) : Type 0 where
  pub more : List ℕ
  pub rest : List ℕ
  pub split : p.left ≡ more ++ rest
  pub is_left : told2 ≡ Some rest
  pub found : FoundLine kind reader2 (p.given ++ more) rest p.done weight

pub line_found : (bytes : List ℕ) (reader : Reading) (told : Option (List ℕ)) (count : ℕ) (ls : List Line) (p : HasReadLines bytes reader told count ls)
    → (kind : LineKind) (reader2 : Reading) (told2 : Option (List ℕ)) → is_end kind ≡ false → Advances told told2 reader reader2 (Ok kind)
    → FindsLine bytes reader told count ls p kind reader2 told2 (weight_in kind)
line_found bytes reader told count ls p kind reader2 told2 not_end advances =
    let a = advances p.given p.left p.done p.is_left p.read in
    record {
      more = a.0;
      rest = a.1;
      split = a.2;
      is_left = a.3;
      found = finds_line kind reader2 (p.given ++ a.0) a.1 p.done not_end a.4;
    }

module _ (d0 d1 : Disk) (f0 f1 : ℕ) (ws : List World) (database : Option Database) (reader : Reading) (told0 told : Option (List ℕ)) (count : ℕ)
    (p : Progress d0 d1 f0 f1 ws database reader told0 told count)
    (kind : LineKind) (reader2 : Reading) (told2 : Option (List ℕ)) (not_end : is_end kind ≡ false) (advances : Advances told told2 reader reader2 (Ok kind))
    (small : weight_in kind ≤ 16777216) where
  here : (bytes : List ℕ) (is : told0 ≡ Some bytes) → FindsLine bytes reader told count p.lines (p.script bytes is) kind reader2 told2 (weight_in kind)
  here bytes is = line_found bytes reader told count p.lines (p.script bytes is) kind reader2 told2 not_end advances

  -- the next line was answered, or skipped
  pub progress_turned : (d2 : Disk) (f2 : ℕ) (database2 : Option Database) (answered : Bool)
      → HandlesLine d1 d2 f1 f2 (last_worlds page_reading ws p.served.run) (IsLineText kind reader2.text) database2 (Ok answered)
      → (answered ≡ false → Progress d0 d1 f0 f1 ws database reader2 told0 told2 (count + weight_in kind) → Progress d0 d2 f0 f2 ws database2 reader2 told0 told2 (count + weight_in kind))
      → Progress d0 d2 f0 f2 ws database2 reader2 told0 told2 (count + weight_in kind)
  progress_turned d2 f2 database2 true m still = record {
    lines = p.lines ++ m.0 ∷ [];
    served = served_next page_reading StandsFor d0 d1 d2 f0 f1 f2 ws p.lines m.0 (FitsWorlds database d1) (FitsWorlds database2 d2) p.served m.2;
    script = λ bytes is.
        let h = here bytes is in
        read_answered bytes reader told count p.lines (p.script bytes is) h.more h.rest h.split told2 h.is_left reader2 h.found.text (count + weight_in kind) (h.found.read small)
        (omega (arith, h.found.exact small)) m.0 (m.1 h.found.text h.found.is);
  }
  progress_turned d2 f2 database2 false m still = still refl (record {
    lines = p.lines;
    served = p.served;
    script = λ bytes is.
        let h = here bytes is in
        read_skipped bytes reader told count p.lines (p.script bytes is) h.more h.rest h.split told2 h.is_left reader2 h.found.text (count + weight_in kind) (h.found.read small)
        (omega (arith, h.found.exact small)) (m h.found.text h.found.is);
  })

-- How the call ends

module _ (from : List (World × Ages)) (serial_of : (run : List TakenLine) → Run page_reading (map (λ (e : World × Ages). e.0) from) run → IsSerial run)
    (d0 d1 : Disk) (f0 f1 : ℕ) (database : Option Database) (reader : Reading) (told0 told : Option (List ℕ)) (count : ℕ)
    (p : Progress d0 d1 f0 f1 (map (λ (e : World × Ages). e.0) from) database reader told0 told count) (low_count : count ≤ 16777216)
    (reader2 : Reading) (told2 : Option (List ℕ)) where
  whole : (status : Status) → ((before said : List ℕ) (run : List TakenLine) → said ≡ before ++ concat (texts_of run) → RepliesAreSaid status before said run)
      → ((run : List TakenLine) → lines_of run ≡ p.lines → ScriptIsRead status told0 told2 run) → KeepsSerialRun page_reading StandsFor d0 d1 f0 f1 from status told0 told2
  whole status said_so read_so = promise_whole page_reading StandsFor d0 d1 f0 f1 from serial_of (records_in d0 d1 (map (λ (e : World × Ages). e.0) from)) status told0 told2 p.lines (FitsWorlds database d1) said_so read_so p.served

  pub ends_done : (kind : LineKind) → is_end kind ≡ true → Advances told told2 reader reader2 (Ok kind) → KeepsSerialRun page_reading StandsFor d0 d1 f0 f1 from Done told0 told2
  ends_done kind end advances = whole Done (λ before said run is. is) (λ run lines_are bytes is.
      let q = p.script bytes is in
      let a = advances q.given q.left q.done q.is_left q.read in
      let found = finds_end kind reader2 (q.given ++ a.0) a.1 q.done end a.4 in
      read_to_end bytes reader told count p.lines q a.0 a.1 a.2 told2 a.3 found.0 found.1 low_count run lines_are)

  pub ends_script : (fault : SourceFault) → Advances told told2 reader reader2 (Err fault) → KeepsSerialRun page_reading StandsFor d0 d1 f0 f1 from ScriptFault told0 told2
  ends_script fault advances = whole ScriptFault (λ before said run is. is) (λ run lines_are bytes is.
      let q = p.script bytes is in
      let a = advances q.given q.left q.done q.is_left q.read in
      read_to_fault bytes reader told count p.lines q a.0 a.1 a.2 told2 a.3 a.4 low_count run lines_are)

  pub ends_limit : (kind : LineKind) → is_end kind ≡ false → Advances told told2 reader reader2 (Ok kind) → 16777216 < count + weight_in kind → KeepsSerialRun page_reading StandsFor d0 d1 f0 f1 from LinesEnd told0 told2
  ends_limit kind not_end advances high = whole LinesEnd (λ before said run is. is) (λ run lines_are bytes is.
      let q = p.script bytes is in
      let h = line_found bytes reader told count p.lines q kind reader2 told2 not_end advances in
      read_to_limit bytes reader told count p.lines q h.more h.rest h.split told2 h.is_left h.found.text h.found.more h.found.are low_count (h.found.past count low_count high) run lines_are)

  pub ends_say : (kind : LineKind) → is_end kind ≡ false → Advances told told2 reader reader2 (Ok kind) → weight_in kind ≤ 16777216 → count + weight_in kind ≤ 16777216
      → (dn : Disk) (fn : ℕ) (line : Line) → ReadsAs (IsLineText kind reader2.text) line
      → Taken page_reading StandsFor d1 dn f1 fn (last_worlds page_reading (map (λ (e : World × Ages). e.0) from) p.served.run) line
      → KeepsSerialRun page_reading StandsFor d0 dn f0 fn from SayFault told0 told2
  ends_say kind not_end advances small fits dn fn line reads next =
      promise_cut page_reading StandsFor d0 dn f0 fn from serial_of (records_in d0 dn (map (λ (e : World × Ages). e.0) from)) d1 f1 p.lines line (FitsWorlds database d1) p.served next told0 told2 (λ run lines_are bytes is.
      let q = p.script bytes is in
      let h = line_found bytes reader told count p.lines q kind reader2 told2 not_end advances in
      read_to_reply bytes reader told count p.lines q h.more h.rest h.split told2 h.is_left h.found.text h.found.more h.found.are
      (omega (arith, fits, h.found.exact small)) line (reads h.found.text h.found.is) run lines_are)

-- nothing was read
pub ends_memory : (from : List (World × Ages)) (serial_of : (run : List TakenLine) → Run page_reading (map (λ (e : World × Ages). e.0) from) run → IsSerial run) (d : Disk) (f : ℕ) (told : Option (List ℕ))
    → LeavesOnly page_reading StandsFor d (map (λ (e : World × Ages). e.0) from) → KeepsSerialRun page_reading StandsFor d d f f from Memory told told
ends_memory from serial_of d f told stand =
    promise_whole page_reading StandsFor d d f f from serial_of (records_in d d (map (λ (e : World × Ages). e.0) from)) Memory told told [] (λ vs. Unit {0}) (λ before said run is. is) (λ run lines_are bytes is. ([], (bytes, refl, is, no_run run lines_are)))
    (served_none page_reading StandsFor d f (map (λ (e : World × Ages). e.0) from) (λ vs. Unit {0}) tt stand)
  where
    no_run : (run : List TakenLine) → lines_of run ≡ [] → run ≡ []
    no_run [] is = refl
    no_run (e ∷ run) is = absurd (omega (arith, ap (λ (x : List Line). length x) is))
