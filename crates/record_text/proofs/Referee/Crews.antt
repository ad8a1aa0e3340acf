-- What a worker's course says of a line is what the record and the script say.
use Rattle.std.proofs.Common.{◌≡◌, ◌≢◌, ℕ, ◌+◌, ◌<◌, ◌≤◌, Bool, List, [], ◌∷◌, ◌++◌, length, drop, map, set, refl, sym, ap, ◌∙◌, subst, inl, inr, arith}
use Rattle.std.specs.Prelude.{Option, Some, None, IfSome, slice_get, slice_index_or}
use Rattle.std.specs.Bool.{Decides}
use Rattle.std.specs.Option.{option_map_or}
use Rattle.std.proofs.lemmas.Bool.{eq-eqb, ne_eqb, cases_lt}
use Rattle.std.proofs.lemmas.List.{length-set, length-map, length-drop, map-append, append-nil}
use Rattle.std.proofs.lemmas.List.Elements.{filter-append}
use Rattle.std.proofs.lemmas.Option.{same_Some, slice_get_within, slice_get_past}
use Rattle.std.proofs.Math.ListN.{drop_of_length-le}
use Rattle.script_text.specs.Lawful.{call_lines}
use Rattle.script_text.specs.declared.script.Item.{Item}
use Rattle.script_text.specs.declared.script.Script.{Script}
use Rattle.script_text.specs.declared.script.WorkerLines.{WorkerLines}
use Rattle.record_text.specs.Histories.{calls_of}
use Rattle.record_text.specs.Told.{answered, lines_by, generations_by, told_generation, block_at, blocks_of, processor_of}
use Rattle.record_text.specs.Referee.Courses.{IsWalked, IsAtLine, StandsAtLine, IsInStepWith, MayTell}
use Rattle.record_text.specs.Referee.Pasts.{AreWalked, Stands}
use Rattle.record_text.specs.Rules.{IsNextLine, KeepsGenerations}
use Rattle.record_text.specs.declared.record.Extra.{Extra}
use Rattle.record_text.specs.declared.record.RecordLine.{RecordLine}
use Rattle.record_text.specs.declared.judging.course.Course.{Course}
use Rattle.k42_places.proofs.Written.{at_set}
use Rattle.record_text.proofs.Referee.Walking.{next_call}

-- one more line of a worker, or of another
pub by-push_own : (worker : ℕ) (before : List RecordLine) (line : RecordLine) → line.worker ≡ worker → lines_by worker (before ++ line ∷ []) ≡ lines_by worker before ++ line ∷ []
by-push_own worker before line own = filter-append _ before (line ∷ []) ∙ rw (eq-eqb line.worker worker own) refl

pub by-push_other : (worker : ℕ) (before : List RecordLine) (line : RecordLine) → line.worker ≢ worker → lines_by worker (before ++ line ∷ []) ≡ lines_by worker before
by-push_other worker before line other = filter-append _ before (line ∷ []) ∙ rw (ne_eqb line.worker worker other) (append-nil (lines_by worker before))

generation_in : RecordLine → Option ℕ
generation_in line = told_generation line.extra

generations-push_own : (worker : ℕ) (before : List RecordLine) (line : RecordLine) → line.worker ≡ worker → generations_by worker (before ++ line ∷ []) ≡ generations_by worker before ++ told_generation line.extra ∷ []
generations-push_own worker before line own = ap (map (λ (l : RecordLine). told_generation l.extra)) (by-push_own worker before line own) ∙ map-append (λ (l : RecordLine). told_generation l.extra) (lines_by worker before) (line ∷ [])

generations-push_other : (worker : ℕ) (before : List RecordLine) (line : RecordLine) → line.worker ≢ worker → generations_by worker (before ++ line ∷ []) ≡ generations_by worker before
generations-push_other worker before line other = ap (map (λ (l : RecordLine). told_generation l.extra)) (by-push_other worker before line other)

pub length_generations : (worker : ℕ) (before : List RecordLine) → length (generations_by worker before) ≡ length (lines_by worker before)
length_generations worker before = length-map (lines_by worker before) (λ (l : RecordLine). told_generation l.extra)

module _ (script : Script) (before : List RecordLine) (courses : List Course) (worker : ℕ) (new : Course) (walked : AreWalked script before courses) where
  -- one course is another's after as many lines
  pub walked_set : ((lines : WorkerLines) → slice_get script.workers worker ≡ Some lines → IsWalked lines.items (generations_by worker before) new) → AreWalked script before (set courses worker new)
  walked_set own = record {
    size = length-set courses worker new ∙ walked.size;
    each = λ other lines course found there. elim (at_set courses worker other new course there) [
      | inl here ↦ subst (λ (c : Course). IsWalked lines.items (generations_by other before) c) here.1
          (subst (λ (w : ℕ). IsWalked lines.items (generations_by w before) new) (sym here.0) (own lines (ap (slice_get script.workers) (sym here.0) ∙ found)))
      | inr apart ↦ walked.each other lines course found apart.1
    ];
  }

  -- and after one more line
  pub walked_more : (line : RecordLine) → line.worker ≡ worker → ((lines : WorkerLines) → slice_get script.workers worker ≡ Some lines → IsWalked lines.items (generations_by worker before ++ told_generation line.extra ∷ []) new) → AreWalked script (before ++ line ∷ []) (set courses worker new)
  walked_more line is own = record {
    size = length-set courses worker new ∙ walked.size;
    each = λ other lines course found there. elim (at_set courses worker other new course there) [
      | inl here ↦ subst (λ (c : Course). IsWalked lines.items (generations_by other (before ++ line ∷ [])) c) here.1
          (rw (generations-push_own other before line (is ∙ sym here.0))
          (subst (λ (w : ℕ). IsWalked lines.items (generations_by w before ++ told_generation line.extra ∷ []) new) (sym here.0) (own lines (ap (slice_get script.workers) (sym here.0) ∙ found))))
      | inr apart ↦ rw (generations-push_other other before line (λ same. apart.0 (sym same ∙ is))) (walked.each other lines course found apart.1)
    ];
  }

module _ (script : Script) (before : List RecordLine) (line : RecordLine) (lines : WorkerLines) (found : slice_get script.workers line.worker ≡ Some lines) where
  -- the next line of a worker by its course is the next by the record
  pub next_of : (result : Bool) → Decides result (slice_get (call_lines lines.items) (length (generations_by line.worker before)) ≡ Some (answered line)) → Decides result (IsNextLine script before line)
  next_of result decides = rw (found, ← length_generations line.worker before) decides

  module _ (told : List (Option ℕ)) (told_is : told ≡ generations_by line.worker before) where
    blocks_are : (place : ℕ) → block_at script line.worker place ≡ slice_index_or (blocks_of lines.items) place 0
    blocks_are place = ap (λ (l : Option WorkerLines). option_map_or (λ (w : WorkerLines). slice_index_or (blocks_of w.items) place 0) l 0) found

    length_is : length told ≡ length (lines_by line.worker before)
    length_is = ap length told_is ∙ length_generations line.worker before

    processor_is : processor_of script line.worker ≡ lines.proc
    processor_is = ap (λ (l : Option WorkerLines). option_map_or (λ (w : WorkerLines). w.proc) l 0) found

    processor_to : (extra : Option Extra) → IfSome extra (λ extra. extra.proc ≡ lines.proc) → IfSome extra (λ extra. extra.proc ≡ processor_of script line.worker)
    processor_to (Some extra) same = same ∙ sym processor_is
    processor_to None same = tt

    processor_from : (extra : Option Extra) → IfSome extra (λ extra. extra.proc ≡ processor_of script line.worker) → IfSome extra (λ extra. extra.proc ≡ lines.proc)
    processor_from (Some extra) same = same ∙ processor_is
    processor_from None same = tt

    step_to : (extra : Option Extra) (generation : ℕ) → told_generation extra ≡ Some generation → IfSome (told_generation extra) (IsInStepWith lines.items told) → IsInStepWith lines.items told generation
    step_to extra generation is step = rw is at step

    step_from : (t : Option ℕ) → ((generation : ℕ) → t ≡ Some generation → IsInStepWith lines.items told generation) → IfSome t (IsInStepWith lines.items told)
    step_from (Some generation) each = each generation refl
    step_from None each = tt

    -- what a line may tell by its worker's course, it may tell by the rules
    pub tells_to : MayTell lines.items told lines.proc line.extra → KeepsGenerations script before line
    tells_to may = record {
      processor = processor_to line.extra may.processor;
      generation = λ generation is earlier former there.
          rw (blocks_are earlier, blocks_are (length (lines_by line.worker before)), ← length_is) (step_to line.extra generation is may.generation earlier former (rw told_is there));
    }

    pub tells_from : KeepsGenerations script before line → MayTell lines.items told lines.proc line.extra
    tells_from keeps = record {
      processor = processor_from line.extra keeps.processor;
      generation = step_from (told_generation line.extra) (λ generation is earlier former there.
          rw (← blocks_are earlier, ← blocks_are (length told), length_is) (keeps.generation generation is earlier former (rw (← told_is) there)));
    }

    pub tells_decided : (result : Bool) → Decides result (MayTell lines.items told lines.proc line.extra) → Decides result (KeepsGenerations script before line)
    tells_decided result decides = (λ yes. tells_to (decides.0 yes), λ keeps. decides.1 (tells_from keeps))

-- a worker that has no line left has passed them all
pub none_left : (items : List Item) (told : List (Option ℕ)) (course : Course) → IsWalked items told course → length items ≤ course.at → length (call_lines items) ≤ length told
none_left items told course walked past =
    let none : drop (length told) (call_lines items) ≡ [] = sym walked.calls ∙ ap call_lines (drop_of_length-le items {i = course.at} past) in
    omega (arith, sym (length-drop (length told) (call_lines items)) ∙ ap length none)

pub one_left : (items : List Item) (told : List (Option ℕ)) (course : Course) → IsWalked items told course → IsAtLine items course → course.at < length items → length told < length (call_lines items)
one_left items told course walked at_line before =
    let standing = at_line before in
    slice_get_within (call_lines items) (length told) standing.line (next_call items told course walked standing.line standing.here)

-- where a line of the worker comes next, it comes next for its course
pub standing_here : (script : Script) (worker : ℕ) (courses : List Course) → Stands script worker courses → (lines : WorkerLines) (course : Course) → slice_get script.workers worker ≡ Some lines → slice_get courses worker ≡ Some course → StandsAtLine lines.items course
standing_here script worker courses stands lines course found there =
    let lines_is : stands.lines ≡ lines = same_Some stands.lines lines (sym stands.found ∙ found) in
    let course_is : stands.course ≡ course = same_Some stands.course course (sym stands.there ∙ there) in
    rw (← lines_is, ← course_is) stands.standing

-- whether a worker has passed all its lines
pub done_decided : (items : List Item) (told : List (Option ℕ)) (course : Course) (result : Bool) → IsWalked items told course → IsAtLine items course → Decides result (length items ≤ course.at) → Decides result (length (call_lines items) ≤ length told)
done_decided items told course result walked at_line decides = (
  λ yes. none_left items told course walked (decides.0 yes),
  λ done. decides.1 (elim (cases_lt course.at (length items)) [
    | inl before ↦ absurd (omega (arith, done, one_left items told course walked at_line before))
    | inr past ↦ past
  ]),
)

module _ (script : Script) (lines : List RecordLine) where
  -- so many workers have passed all their lines
  abbrev pub AllDoneBelow : ℕ → Type 0
  AllDoneBelow number = (worker : ℕ) → worker < number → length (calls_of script worker) ≤ length (lines_by worker lines)

  calls_are : (worker : ℕ) (own : WorkerLines) → slice_get script.workers worker ≡ Some own → calls_of script worker ≡ call_lines own.items
  calls_are worker own found = ap (λ (l : Option WorkerLines). option_map_or (λ (w : WorkerLines). call_lines w.items) l []) found

  pub done_here : (worker : ℕ) (own : WorkerLines) → slice_get script.workers worker ≡ Some own → length (call_lines own.items) ≤ length (generations_by worker lines) → length (calls_of script worker) ≤ length (lines_by worker lines)
  done_here worker own found done = rw (calls_are worker own found, ← length_generations worker lines) done

  pub here_done : (worker : ℕ) (own : WorkerLines) → slice_get script.workers worker ≡ Some own → length (calls_of script worker) ≤ length (lines_by worker lines) → length (call_lines own.items) ≤ length (generations_by worker lines)
  here_done worker own found done = rw (← calls_are worker own found, length_generations worker lines) done

  pub done_more : (number worker : ℕ) → AllDoneBelow number → worker ≡ number → length (calls_of script worker) ≤ length (lines_by worker lines) → AllDoneBelow (number + 1)
  done_more number worker below is here other within = elim (cases_lt other number) [
    | inl before ↦ below other before
    | inr past ↦ let same : worker ≡ other = omega (arith, past, within, is) in rw (← same) here
  ]

  pub done_all : (number : ℕ) → length script.workers ≤ number → AllDoneBelow number → (worker : ℕ) → length (calls_of script worker) ≤ length (lines_by worker lines)
  done_all number past below worker = elim (cases_lt worker number) [
    | inl before ↦ below worker before
    | inr beyond ↦ rw (ap length (ap (λ (l : Option WorkerLines). option_map_or (λ (w : WorkerLines). call_lines w.items) l []) (slice_get_past script.workers worker (omega (arith, past, beyond))))) (omega arith)
  ]
