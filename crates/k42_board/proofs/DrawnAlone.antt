-- An entry that is drawn at no cell: where it may be drawn, and what the step owes to the rule.
use Rattle.std.proofs.Common.{◌≡◌, ℕ, ◌+◌, ◌<◌, ◌≤◌, ◌||◌, Bool, true, false, cond, List, [], ◌∷◌, Option, Some, None, length, get_or, set, sym, refl, ap, ◌∙◌, subst, arith, get_or-set_other, get_or-set_same}
use Rattle.std.specs.Prelude.{max}
use Rattle.std.proofs.lemmas.Bool.{eq-eqb, not-true}
use Rattle.std.proofs.lemmas.List.{length_push, set-get_or}
use mathlib.Core.Option.{some}
use lib.ListN.{get_elem?}
use Rattle.atomic_table.specs.Table.{State}
use Rattle.k42_limits.specs.declared.TheConstants.{PASS_ENTRIES}
use Rattle.k42_kinds.specs.declared.entry.Act.{Act}
use Rattle.k42_kinds.specs.declared.entry.Answer.{Answer}
use Rattle.k42_kinds.specs.declared.entry.Answer.TheVariants.{Replied, Swapped, Busy, Spent, Gone, Abandoned}
use Rattle.k42_kinds.specs.declared.entry.Entry.{Entry}
use Rattle.k42_places.proofs.EachPlaces.{EachPlace-set}
use Rattle.phase_core.specs.Plain.{Object}
use Rattle.phase_core.specs.Stages.{named_by, object_named}
use Rattle.phase_core.specs.declared.caller.SwapAt.{SwapAt}
use Rattle.phase_core.specs.declared.caller.SwapAt.TheVariants.{Idle, Refused, Begun, Interposing, Interposed, Draining, Drained, Blocking, Moved, Opening, Reopening, Opened}
use Rattle.turn_core.specs.Events as turns
use Rattle.turn_core.specs.Events.{caller_drawn}
use Rattle.turn_core.specs.Plain.{Caller, Turns}
use Rattle.turn_core.specs.State.{cell_at, caller_at, fresh_caller}
use Rattle.turn_core.specs.declared.event.TurnEvent.TheVariants.{Alone}
use Rattle.turn_core.proofs.Later.{later_drawn}
use Rattle.k42_stamp.specs.Laws.{AreLaws}
use Rattle.k42_stamp.specs.Layouts.{Layouts}
use Rattle.k42_joined.specs.Answers.{is_turned}
use Rattle.k42_joined.specs.Effects.{effect, kept_drawn}
use Rattle.k42_joined.specs.Event.{AtCells}
use Rattle.k42_joined.specs.Plain.{Kept, Joined}
use Rattle.k42_joined.specs.Possible.{IsPossible}
use Rattle.k42_joined.specs.Refusals.{IsAnsweredAlone, is_given_up, tells_abandoned}
use Rattle.k42_joined.specs.State.{object, incarnation, swap_of, kept_of, nothing_kept}
use Rattle.k42_joined.proofs.Kept.{joined_keeps}
use Rattle.k42_board.specs.Cells.{Slot, KnowsCells}
use Rattle.k42_board.specs.Drawing.{MayDrawAlone, IsAnswerAlone, gives_up, entry_alone, alone_view}
use Rattle.k42_board.specs.Rule.{KnowsPass, Rule}
use Rattle.k42_board.specs.Values.{incarnation_in}
use Rattle.k42_board.specs.Views.{begun_of, object_begun, word_begun, answer_begun, live_at}
use Rattle.k42_board.specs.Words.{role_word}
use Rattle.k42_board.specs.declared.view.LastBegin.{LastBegin}
use Rattle.k42_board.specs.declared.view.PassView.{PassView}
use Rattle.k42_board.specs.declared.view.View.{View}
use Rattle.k42_board.specs.declared.view.View.TheVariants.{Crew}
use Rattle.k42_board.proofs.CellsMoved.{part_stays, same_told', LeavesCells, others_stay}
use Rattle.k42_board.proofs.Drawers.{pass_drawn, is_next_of}
use Rattle.k42_board.proofs.Moves.{Moves}
use Rattle.k42_board.proofs.OnePass.{with_pass, known, moved}
use Rattle.k42_board.proofs.KnownStamps.{known_after}

-- what is kept of a Begin tells its object
begun_some : (last : Option LastBegin) (o : ℕ) → begun_of last ≡ Some o → object_begun last ≡ o
begun_some None o e = absurd (cc)
begun_some (Some begin) o e = cc

pub begun_found : {R : Type 0} (live : ℕ → ℕ) (last : Option LastBegin) (answer : Answer R) → answer_begun live last ≡ Some answer → begun_of last ≡ Some (object_begun last)
begun_found live None answer e = absurd (cc)
begun_found live (Some begin) answer e = refl

-- a swap that is given up names its object, and was not turned over
record GivesUp (swap : SwapAt) (turned : Bool) (k : Object) : Type 0 where
  named : named_by swap ≡ Some (object_named swap)
  kept : turned ≡ false
  given : is_given_up swap k (object_named swap) ≡ true

gives_one : (swap : SwapAt) (turned : Bool) (k : Object) → turned ≡ is_turned swap k → gives_up swap turned ≡ true → GivesUp swap turned k
gives_one (Reopening o p) turned k is e = record { named = refl; kept = is; given = eq-eqb o o refl }
gives_one (Opened o) turned k is e =
    let not_turned : turned ≡ false = not-true turned e in
    let unturned : k.complete ≡ false = sym is ∙ not_turned in
    record { named = refl; kept = not_turned; given = let same = eq-eqb o o refl in rw (same, unturned) refl }
gives_one Idle turned k is e = absurd (cc)
gives_one (Refused o) turned k is e = absurd (cc)
gives_one (Begun o) turned k is e = absurd (cc)
gives_one (Interposing o p) turned k is e = absurd (cc)
gives_one (Interposed o) turned k is e = absurd (cc)
gives_one (Draining o) turned k is e = absurd (cc)
gives_one (Drained o) turned k is e = absurd (cc)
gives_one (Blocking o) turned k is e = absurd (cc)
gives_one (Moved o) turned k is e = absurd (cc)
gives_one (Opening o p) turned k is e = absurd (cc)

module _ {S L P O R : Type 0} (F : Layouts S L P O R) (laws : AreLaws F) (declared : List L)
    (table : State (Slot P O R) (View P O R)) (r : Rule F declared table) (id : ℕ) (v : PassView P O R)
    (at : get_elem? table.views id ≡ some (Crew (v ∷ []))) (act : Act O) (answer : Answer R) (may : MayDrawAlone act answer v) where
  abbrev s : Joined L O R
  s = r.state

  abbrev c : ℕ
  c = v.number

  abbrev entry : Entry O R
  entry = entry_alone v act answer

  k : KnowsPass F.tag_of s r.beside id v
  k = known F declared table r id v at

  swap_is : swap_of s c ≡ v.visitor.swap
  swap_is = ap (λ x. x.swap) k.phases.visitor

  no_generation : entry.generation ≡ None
  no_generation = ap (λ b. cond b v.turn.active None) may.act_is

  -- what its last Begin found, or the swap that it gives up
  record IsBeside (told : Answer R) : Type 0 where
    begun : begun_of v.last ≡ Some (object_begun v.last)
    answered : IsAnsweredAlone s c (entry_alone v act told) told

  beside_busy : (number : ℕ) → v.found ≡ Some (Busy number) → IsBeside (Busy number)
  beside_busy number found =
      let begun = begun_found (live_at v) v.last (Busy number) (k.trace.found (Busy number) found) in
      let kept_begun : (kept_of s c).begun ≡ Some (object_begun v.last) = ap (λ (z : Kept R). z.begun) k.trace.kept ∙ begun in
      let kept_found : (kept_of s c).found ≡ Some (Busy number) = ap (λ (z : Kept R). z.found) k.trace.kept ∙ found in
      let some_number = ((r.sound.answers c k.there).found (object_begun v.last) (Busy number) kept_begun kept_found).some number refl in
      record { begun = begun; answered = record { found = kept_found; before = omega (arith, some_number) } }

  beside_given_up : (number : ℕ) → gives_up v.visitor.swap v.turned ≡ true → v.abandoned ≡ false → number ≡ incarnation_in (word_begun v.last) + 1
      → IsBeside (Abandoned number)
  beside_given_up number gives fresh is =
      let swap = v.visitor.swap in
      let o = object_named swap in
      let one = gives_one swap v.turned (object s o) k.phases.swap.turned gives in
      let kept_begun : begun_of v.last ≡ Some o = sym (ap (λ (z : Kept R). z.begun) k.trace.kept) ∙ (r.sound.answers c k.there).kept.begun o (ap named_by swap_is ∙ one.named) in
      let same : object_begun v.last ≡ o = begun_some v.last o kept_begun in
      let there : incarnation_in (word_begun v.last) ≡ incarnation s o = k.phases.swap.begun o one.named one.kept in
      record {
        begun = kept_begun ∙ ap Some (sym same);
        answered = record {
          next = is ∙ ap (λ n. n + 1) (there ∙ ap (incarnation s) (sym same));
          present = omega (arith, is) ∙ there ∙ ap (incarnation s) (sym same);
          given_up = ap (λ z. is_given_up z (object s (object_begun v.last)) (object_begun v.last)) swap_is
              ∙ ap (λ q. is_given_up swap (object s q) q) same ∙ one.given;
          once = ap (λ (z : Kept R). z.abandoned) k.trace.kept ∙ fresh;
        };
      }

  beside : (told : Answer R) → IsAnswerAlone v told → IsBeside told
  beside (Busy number) is = beside_busy number is
  beside (Abandoned number) is = beside_given_up number is.0 is.1 is.2
  beside (Replied reply) is = absurd is
  beside (Swapped number) is = absurd is
  beside Spent is = absurd is
  beside Gone is = absurd is

  mine_is : (caller_at s.turns c).mine ≡ v.taker.mine
  mine_is = ap (λ (x : Caller O R). x.mine) k.cells.taker

  possible : IsPossible F declared s (AtCells (Alone c entry))
  possible =
      let is = beside answer may.answer_is in
      record {
        caller = k.there;
        may = record {
          core = is_next_of s.turns c [] entry refl (ap length (sym mine_is)) (ap (λ (x : Caller O R). max x.clock 0 + 1) (sym k.cells.taker));
          beside = record {
            bears = record { proc = ap (λ x. x.proc) (sym k.generations.turn); cell = refl };
            begun = ap (λ (z : Kept R). z.begun) k.trace.kept ∙ is.begun;
            act = may.act_is;
            answer = is.answered;
            generation = no_generation;
          };
        };
      }

  abbrev t : Turns O R
  t = turns.effect s.turns (Alone c entry)

  abbrev kept : List (Kept R)
  kept = kept_drawn s c (tells_abandoned answer)

  c_there : c < length s.turns.callers
  c_there = let many = r.sound.cells.locks.many.callers in let lt = k.there in omega (arith, many, lt)

  kept_there : c < length s.kept
  kept_there = let many = r.sound.cells.locks.many.kept in let lt = k.there in omega (arith, many, lt)

  leaves : LeavesCells F declared table r id v at t kept r.beside.contents
  leaves = record {
    callers = λ d not. get_or-set_other s.turns.callers c d (caller_drawn entry (caller_at s.turns c)) fresh_caller not;
    keeps = λ d not. get_or-set_other s.kept c d _ nothing_kept not;
    held = λ n d not lock. record { cell = refl; part = refl; out = refl };
    holds = λ n d not lock. record { cell = refl; part = refl; out = refl };
    drawn = λ stamp known.
        known_after s.turns c (caller_drawn entry (caller_at s.turns c)) stamp
        (omega (arith, later_drawn s.turns (Alone c entry) entry possible.may.core refl)) known;
  }

  knows : KnowsCells t r.beside.contents (alone_view entry v)
  knows = record {
    taker =
        get_or-set_same s.turns.callers c (caller_drawn entry (caller_at s.turns c)) fresh_caller c_there
        ∙ ap (caller_drawn entry) k.cells.taker;
    notes = λ place note e.
        let old = k.cells.notes place note e in
        record { held = old.held; away = old.away; history = old.history; closed = old.closed; part = old.part };
    noted = k.cells.noted;
    out = λ n e. let old = k.cells.out n e in record { held = old.held; away = old.away; out = old.out };
    only = k.cells.only;
  }

  pass_after : KnowsPass F.tag_of (effect s (AtCells (Alone c entry))) r.beside id (alone_view entry v)
  pass_after =
      pass_drawn F.tag_of s t s.hands kept r.beside r.beside.contents id v k entry v.notes (tells_abandoned answer || v.abandoned) v.handed v.untold
      (record {
        cells = knows;
        kept_is =
            get_or-set_same s.kept c _ nothing_kept kept_there
            ∙ ap (λ (z : Kept R). record z { found = None; abandoned = tells_abandoned answer || z.abandoned }) k.trace.kept;
        timely = λ generation e. let no = no_generation in absurd (cc);
        handed_is = k.trace.handed;
        unhanded = k.trace.unhanded;
      })

  -- the rule after the step, and its state
  pub alone_draws : (i : ℕ) → (after : Rule F declared (with_pass table (set table.words i (get_or table.words i 0)) table.homes id (alone_view entry v)))
      × (after.state ≡ effect s (AtCells (Alone c entry))) × IsPossible F declared s (AtCells (Alone c entry))
  alone_draws i =
      let after =
      subst (λ (words : List ℕ). (after : Rule F declared (with_pass table words table.homes id (alone_view entry v))) × (after.state ≡ effect s (AtCells (Alone c entry))))
      (sym (set-get_or table.words i 0))
      (moved F declared table r id v at (effect s (AtCells (Alone c entry))) r.beside table.words table.homes (alone_view entry v)
      (others_stay F declared table r id v at t kept r.beside.contents leaves)
      (joined_keeps F laws declared s r.sound (AtCells (Alone c entry)) possible)
      (record {
        many_words = r.shows.many_words;
        many_slots = r.shows.many_slots;
        few_objects = r.shows.few_objects;
        few_entries = EachPlace-set (λ d (x : Caller O R). length x.mine ≤ PASS_ENTRIES) s.turns.callers c (caller_drawn entry (caller_at s.turns c)) r.shows.few_entries
            (let less = may.few in let more = length_push (caller_at s.turns c).mine entry in let same = ap length mine_is in omega (arith, less, more, same));
        generations = r.shows.generations;
        objects = r.shows.objects;
        cells = r.shows.cells;
      })
      (λ n lt. part_stays s t kept (λ m. same_told' (cell_at s.turns m)) F declared n (r.beside.contents.part n) (r.parts n lt))
      pass_after) in
      (after.0, after.1, possible)

pub alone_moves : {S L P O R : Type 0} (F : Layouts S L P O R) → AreLaws F → (declared : List L) (id : ℕ) (v : PassView P O R) (entry : Entry O R)
    → MayDrawAlone entry.act entry.answer v × (entry ≡ entry_alone v entry.act entry.answer)
    → Moves F declared (AtCells (Alone v.number entry)) role_word (λ word. word) (λ found. alone_view entry) id v
alone_moves {O} {R} F laws declared id v entry may =
    subst (λ (e : Entry O R). Moves F declared (AtCells (Alone v.number e)) role_word (λ word. word) (λ found. alone_view e) id v) (sym may.1)
    (record { from = λ table r at. alone_draws F laws declared table r id v at entry.act entry.answer may.0 role_word })
