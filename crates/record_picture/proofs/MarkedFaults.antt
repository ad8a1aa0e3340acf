-- What marks a fault stands where the faulty entry does, and the verdict is told in words.
use Rattle.std.proofs.Common.{◌≡◌, ◌≢◌, ℕ, ◌+◌, ◌-◌, ◌*◌, ◌<◌, ◌≤◌, true, List, [], ◌++◌, length, take, refl, sym, ap, ◌∙◌, inl, inr, arith}
use Rattle.std.specs.Prelude.{codes, nat_le, Some, slice_get}
use Rattle.std.specs.Fmt.{decimal, digits}
use Rattle.std.proofs.lemmas.Bool.{cases_Bool}
use Rattle.std.proofs.lemmas.Bool.Decides.{nat_tests}
use Rattle.std.proofs.lemmas.List.{append_assoc, append-nil}
use Rattle.std.proofs.lemmas.Option.{slice_get_past}
use Rattle.script_text.specs.declared.script.Script.{Script}
use Rattle.k42_kinds.specs.declared.operation.Reply.{Reply}
use Rattle.k42_kinds.specs.declared.entry.Answer.{Answer}
use Rattle.k42_kinds.specs.declared.entry.Answer.TheVariants.{Replied, Swapped, Busy, Spent, Gone, Abandoned}
use Rattle.record_text.specs.Rules.{rule_number, rule_of_answer}
use Rattle.record_text.specs.declared.record.Record.{Record}
use Rattle.record_text.specs.declared.record.RecordLine.{RecordLine}
use Rattle.record_picture.specs.Boxes.{boxes}
use Rattle.record_picture.specs.Faults.{fault_frame, veil, fault_at, fault_on, fault}
use Rattle.record_picture.specs.Head.{opening, verdict_line, head}
use Rattle.record_picture.specs.Marked.{FramesBox, VeilsBehind, answer_meaning, fault_words}
use Rattle.record_picture.specs.Measures.{column_left, lane_top, height_of}
use Rattle.record_picture.specs.Picture.{ground, entries, picture}
use Rattle.record_picture.specs.Pieces.{numbered}
use Rattle.record_picture.specs.Placed.{StandsIn}
use Rattle.record_picture.specs.Style.{style}
use Rattle.record_picture.specs.Verdicts.{rule_words}
use Rattle.record_picture.specs.Windows.{shown}
use Rattle.record_picture.specs.declared.verdict.Verdict.{Verdict}
use Rattle.record_picture.specs.declared.verdict.Verdict.TheVariants.{Lawful, Unlawful}
use Rattle.record_picture.specs.declared.window.Window.{Window}
use Rattle.record_picture.proofs.PlacedPieces.{stands-before, stands-behind}

stands-itself : (text : List ℕ) → StandsIn text text
stands-itself text = record { front = []; back = []; spelled = sym (append-nil text) }

-- ---- the frame

frame-front : codes "<rect class='x' width='" ++ decimal 150 ++ codes "' height='" ++ decimal 68 ++ codes "' rx='4' x='" ≡ codes "<rect class='x' width='150' height='68' rx='4' x='"
unfolding digits
frame-front = refl

frame-joined : (a l y t e : List ℕ) → (a ++ l) ++ (y ++ t) ++ e ≡ a ++ l ++ y ++ t ++ e
frame-joined a l y t e = simp append_assoc refl

frame-spelled : (column lane : ℕ) → fault_frame column lane ≡
    codes "<rect class='x' width='" ++ decimal 150 ++ codes "' height='" ++ decimal 68
    ++ codes "' rx='4' x='" ++ decimal (column_left column - 2) ++ codes "' y='" ++ decimal (lane_top lane + 2) ++ codes "'/>"
unfolding fault_frame numbered
frame-spelled column lane =
    frame-joined (codes "<rect class='x' width='150' height='68' rx='4' x='") (decimal (column_left column - 2)) (codes "' y='") (decimal (lane_top lane + 2)) (codes "'/>")
    ∙ ap (λ front. front ++ decimal (column_left column - 2) ++ codes "' y='" ++ decimal (lane_top lane + 2) ++ codes "'/>") (sym frame-front)

frame-around : (column lane : ℕ) → FramesBox column lane (fault_frame column lane)
frame-around column lane = record {
  area = record { left = column_left column - 2; top = lane_top lane + 2; width = 150; height = 68 };
  drawn = record { spelled = frame-spelled column lane };
  around = record { left = omega arith; right = omega arith; top = omega arith; bottom = omega arith };
  former = λ other any before. omega (arith, before);
  later = λ other any behind. omega (arith, behind);
  upper = λ other any above. omega (arith, above);
  lower = λ other any below. omega (arith, below);
}

-- ---- the veil

veil-front : codes "<rect class='y' y='" ++ decimal 28 ++ codes "' x='" ≡ codes "<rect class='y' y='28' x='"
unfolding digits
veil-front = refl

veil-joined : (a l w n h m e : List ℕ) → (a ++ l) ++ (w ++ n) ++ (h ++ m) ++ e ≡ a ++ l ++ w ++ n ++ h ++ m ++ e
veil-joined a l w n h m e = simp append_assoc refl

veil-spelled : (column columns lanes : ℕ) → veil column columns lanes ≡
    codes "<rect class='y' y='" ++ decimal 28 ++ codes "' x='" ++ decimal (column_left column - 3)
    ++ codes "' width='" ++ decimal (152 * columns) ++ codes "' height='" ++ decimal (height_of lanes) ++ codes "'/>\n"
unfolding veil numbered
veil-spelled column columns lanes =
    veil-joined (codes "<rect class='y' y='28' x='") (decimal (column_left column - 3)) (codes "' width='") (decimal (152 * columns)) (codes "' height='") (decimal (height_of lanes)) (codes "'/>\n")
    ∙ ap (λ front. front ++ decimal (column_left column - 3) ++ codes "' width='" ++ decimal (152 * columns) ++ codes "' height='" ++ decimal (height_of lanes) ++ codes "'/>\n") (sym veil-front)

veil-behind : (column columns lanes : ℕ) → VeilsBehind column columns lanes (veil (column + 1) (columns - (column + 1)) lanes)
veil-behind column columns lanes = record {
  area = record { left = column_left (column + 1) - 3; top = 28; width = 152 * (columns - (column + 1)); height = height_of lanes };
  drawn = record { spelled = veil-spelled (column + 1) (columns - (column + 1)) lanes };
  bare = λ other any before. omega (arith, before);
  covered = λ other any behind shown there. record { left = omega (arith, behind); right = omega (arith, behind, shown); top = omega arith; bottom = omega (arith, there) };
}

-- ---- what stands in a picture

fault_on-found : (lanes before : ℕ) (lines : List RecordLine) (place : ℕ) (line : RecordLine) → slice_get lines place ≡ Some line →
    fault_on lanes before lines (before + place + 2) ≡ fault_at lanes (length lines) place line
fault_on-found lanes before lines place line found =
    let within : nat_le (before + 2) (before + place + 2) ≡ true = grind (arith, nat_tests) in
    let here : (before + place + 2) - (before + 2) ≡ place = omega arith in
    rw (within, here, found) refl

module _ (script : Script) (written : Record) (window : Window) where
  stands-in_entries : {part : List ℕ} (verdict : Verdict) → StandsIn part (fault (length script.workers) window.before (shown window written.lines) verdict) →
      StandsIn part (picture script written verdict window)
  unfolding entries
  stands-in_entries verdict stands =
      let lines : List RecordLine = shown window written.lines in
      stands-behind (head verdict (length written.lines) (length lines) (length script.workers) ++ ground script (take window.before written.lines) lines)
      (stands-before (codes "</svg>\n") (stands-behind (boxes script window.before lines) stands))

  module _ (place rule : ℕ) (line : RecordLine) (found : slice_get (shown window written.lines) place ≡ Some line) where
    stands-in_fault : {part : List ℕ} → StandsIn part (fault_at (length script.workers) (length (shown window written.lines)) place line) →
        StandsIn part (picture script written (Unlawful (window.before + place + 2) rule) window)
    stands-in_fault stands = stands-in_entries (Unlawful (window.before + place + 2) rule)
        (rw (fault_on-found (length script.workers) window.before (shown window written.lines) place line found) stands)

    pub framed : (text : List ℕ) × FramesBox place line.worker text × StandsIn text (picture script written (Unlawful (window.before + place + 2) rule) window)
    unfolding fault_at
    framed = (fault_frame place line.worker, frame-around place line.worker, stands-in_fault (stands-before _ (stands-itself (fault_frame place line.worker))))

    pub veiled : (text : List ℕ) × VeilsBehind place (length (shown window written.lines)) (length script.workers) text
        × StandsIn text (picture script written (Unlawful (window.before + place + 2) rule) window)
    unfolding fault_at
    veiled =
        let columns : ℕ = length (shown window written.lines) in
        let lanes : ℕ = length script.workers in (
          veil (place + 1) (columns - (place + 1)) lanes,
          veil-behind place columns lanes,
          stands-in_fault (stands-behind (fault_frame place line.worker) (stands-itself (veil (place + 1) (columns - (place + 1)) lanes))),
        )

-- ---- where nothing is marked

pub unmarked : (lanes before : ℕ) (lines : List RecordLine) (line rule : ℕ) → ((place : ℕ) → place < length lines → line ≢ before + place + 2) → fault lanes before lines (Unlawful line rule) ≡ []
unmarked lanes before lines line rule elsewhere = elim (cases_Bool (nat_le (before + 2) line)) [
  | inl is ↦
      let from : before + 2 ≤ line = grind (arith, nat_tests, is) in
      let column : ℕ = line - (before + 2) in
      let here : line ≡ before + column + 2 = omega (arith, from) in
      let past : length lines ≤ column = elim (cases_Bool (nat_le (length lines) column)) [
        | inl past ↦ grind (arith, nat_tests, past)
        | inr within ↦ absurd (elsewhere column (grind (arith, nat_tests, within)) here)
      ] in
      rw (is, slice_get_past lines column past) refl
  | inr is ↦ rw is refl
]

-- ---- the words

pub words-answer : (answer : Answer Reply) → rule_words (rule_number (rule_of_answer answer)) ≡ codes ", " ++ answer_meaning answer
words-answer (Replied reply) = refl
words-answer (Swapped number) = refl
words-answer (Busy number) = refl
words-answer Spent = refl
words-answer Gone = refl
words-answer (Abandoned number) = refl

lawful-joined : (front quote word n end feed : List ℕ) → ((front ++ quote) ++ (word ++ n)) ++ (end ++ feed) ≡ front ++ ((quote ++ word) ++ n ++ end) ++ feed
lawful-joined front quote word n end feed = simp append_assoc refl

unlawful-joined : (front quote word n colon m comma means end feed : List ℕ) →
    ((front ++ quote) ++ ((word ++ n) ++ (colon ++ m) ++ (comma ++ means))) ++ (end ++ feed) ≡ front ++ ((quote ++ word) ++ n ++ colon ++ m ++ comma ++ means ++ end) ++ feed
unlawful-joined front quote word n colon m comma means end feed = simp append_assoc refl

verdict_front : List ℕ
verdict_front = codes "<rect width='100%' height='100%' fill='#fff'/>\n<text class='v' x='8' y='20"

module _ (script : Script) (written : Record) (window : Window) where
  stands-in_head : {part : List ℕ} (verdict : Verdict) → StandsIn part (verdict_line verdict (length written.lines)) → StandsIn part (picture script written verdict window)
  unfolding head
  stands-in_head verdict stands =
      let lines : List RecordLine = shown window written.lines in
      stands-before (entries script window.before lines verdict) (stands-before (ground script (take window.before written.lines) lines)
      (stands-behind (opening (length lines) (length script.workers) ++ style) stands))

  pub lawful_told : StandsIn (codes "'>lawful " ++ decimal (length written.lines) ++ codes "</text>") (picture script written Lawful window)
  unfolding verdict_line numbered verdict_front
  lawful_told = stands-in_head Lawful (record {
    front = verdict_front;
    back = codes "\n";
    spelled = lawful-joined verdict_front (codes "'>") (codes "lawful ") (decimal (length written.lines)) (codes "</text>") (codes "\n");
  })

  pub unlawful_told : (line rule : ℕ) (means : List ℕ) → rule_words rule ≡ codes ", " ++ means → StandsIn (fault_words line rule means) (picture script written (Unlawful line rule) window)
  unfolding verdict_line numbered verdict_front
  unlawful_told line rule means told = stands-in_head (Unlawful line rule) (record {
    front = verdict_front;
    back = codes "\n";
    spelled = rw told
        (unlawful-joined verdict_front (codes "'>") (codes "line ") (decimal line) (codes ": rule ") (decimal rule) (codes ", ") means (codes "</text>") (codes "\n"));
  })
