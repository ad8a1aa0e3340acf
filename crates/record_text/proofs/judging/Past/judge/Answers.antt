use Rattle.std.proofs.Common.{◌≡◌, ◌<◌, ◌+◌, ◌++◌, [], ◌∷◌, ◌∙◌, ℕ, get_or, List, Option, Some, length, take, drop, refl, sym, ap, subst, arith}
use Rattle.std.specs.Prelude.{slice_get}
use Rattle.std.specs.Bool.{Decides}
use Rattle.std.proofs.lemmas.List.{length-take-le, take_more}
use Rattle.std.proofs.lemmas.Option.{slice_get_read, slice_get_within, same_Some}
use Rattle.script_text.specs.Lawful.{kinds_of}
use Rattle.script_text.specs.declared.script.Script.{Script}
use Rattle.record_text.specs.Spelling.{HasSpelling}
use Rattle.record_text.specs.Rules.{Rule, BreaksFirst, KeepsAt, IsLegalLine, IsNextLine, all_rules, rule_number, Order, Generations}
use Rattle.record_text.specs.declared.record.RecordLine.{RecordLine}
use Rattle.record_text.proofs.Referee.Faults.{order_broken, legal_broken, generation_broken, all_kept}
use Rattle.record_text.proofs.Referee.Rivalry.{refusal_decided}
use Rattle.record_text.proofs.Referee.Verdicts.{can_take}
use Rattle.record_text.proofs.judging.Past.judge.Goals.{After-index-lines-place, After-may_refuse-refusable, In_ok-tells}
use Rattle.record_text.proofs.judging.Past.judge.Goals as goal

-- what is known of the line at the place
record IsLineAt (script : Script) (lines : List RecordLine) (place : ℕ) (line : RecordLine) : Type 0 where
  there : slice_get lines place ≡ Some line
  front : length (take place lines) ≡ place
  more : take (place + 1) lines ≡ take place lines ++ line ∷ []
  spelled : HasSpelling script line

line_at : (c : After-index-lines-place) → IsLineAt c.args.script.now c.args.lines.now c.args.place c.index-lines-place.result
line_at c =
    let lines = c.args.lines.now in
    let place = c.args.place in
    let line = c.index-lines-place.result in
    let within : place < length lines = c.requires.there in
    let is : line ≡ get_or lines place line = c.index-lines-place.is in
    record {
      there = slice_get_read lines (length lines) place line refl within is;
      front = length-take-le place lines (omega (arith, within));
      more = take_more lines place line within ∙ ap (λ (l : RecordLine). take place lines ++ l ∷ []) (sym is);
      spelled = rw (← is) at (c.requires.spelled place line within);
    }

stamped : (c : After-index-lines-place) → c.index-lines-place.result.stamp ≡ c.args.place + 1 → c.index-lines-place.result.stamp ≡ length (take c.args.place c.args.lines.now) + 1
stamped c stamp = rw (line_at c).front stamp

-- the line that its object judges is the next of its worker's
next_of : (c : After-may_refuse-refusable) → IsNextLine c.args.script.now (take c.args.place c.args.lines.now) c.index-lines-place.result
next_of c = (c.follows.ensures.next (take c.args.place c.args.lines.now) c.requires.past.courses).0 c.if-not-follows.false

-- what the object answers is whether the line is legal
legal_of : (c : In_ok-tells) → IsLineAt c.args.script.now c.args.lines.now c.args.place c.index-lines-place.result → Decides c.in_ok-tells.field-0 (IsLegalLine c.args.script.now (take c.args.place c.args.lines.now) c.index-lines-place.result (drop (c.args.place + 1) c.args.lines.now))
legal_of c at =
    let script = c.args.script.now in
    let lines = c.args.lines.now in
    let place = c.args.place in
    c.in_ok-tells.ensures.legal (kinds_of script) (take place lines) (drop (place + 1) lines) c.requires.past.objects
    (record { kind = at.spelled.kind; declared = at.spelled.of_object; asked = at.spelled.asked; answered = at.spelled.answered })
    (λ number busy. refusal_decided script lines place c.index-lines-place.result number c.may_refuse-refusable.result c.requires.spelled (c.may_refuse-refusable.ensures.small number busy) at.there busy (c.may_refuse-refusable.ensures.refusable number lines busy c.requires.whole c.requires.past.seen at.there))

first_is : (script : Script) (lines : List RecordLine) (place : ℕ) (found rule : Rule) → ◌≡◌ {A = Option Rule} (Some found) (Some rule) → BreaksFirst (KeepsAt script lines place) all_rules (rule_number found) → BreaksFirst (KeepsAt script lines place) all_rules (rule_number rule)
first_is script lines place found rule e broken = subst (λ (r : Rule). BreaksFirst (KeepsAt script lines place) all_rules (rule_number r)) (same_Some found rule e) broken

pub returns-then-not-follows-clause-broken : goal.returns-then-not-follows-clause-broken
returns-then-not-follows-clause-broken c = λ rule e.
    let first = (goal.at.returns-then-not-follows-clause-broken c).After-index-lines-place in
    let script = c.args.script.now in
    let lines = c.args.lines.now in
    let place = c.args.place in
    let next = c.follows.ensures.next (take place lines) c.requires.past.courses in
    first_is script lines place Order rule e (order_broken script lines place c.index-lines-place.result (line_at first).there (stamped first c.if-line-place.false) (λ yes. cc (next.1 yes, c.if-not-follows.true)))

pub tells-requires-clause-there : goal.tells-requires-clause-there
tells-requires-clause-there c =
    let own = (line_at (goal.at.tells-requires-clause-there c).After-index-lines-place).spelled in
    omega (arith, slice_get_within (kinds_of c.args.script.now) c.index-lines-place.result.object own.kind own.of_object, c.requires.past.objects.size, c.args.self.now.objects.ok.0)

pub tells-requires-clause-taken : goal.tells-requires-clause-taken
tells-requires-clause-taken c = λ object found.
    let own = (line_at (goal.at.tells-requires-clause-taken c).After-index-lines-place).spelled in
    let line = c.index-lines-place.result in
    can_take object own.kind line.act (c.requires.past.objects.each line.object own.kind object own.of_object found).kind own.asked

pub returns-then-not-branch-clause-broken : goal.returns-then-not-branch-clause-broken
returns-then-not-branch-clause-broken c = λ rule e.
    let at = goal.at.returns-then-not-branch-clause-broken c in
    let script = c.args.script.now in
    let lines = c.args.lines.now in
    let place = c.args.place in
    let first = at.After-index-lines-place in
    first_is script lines place c.of.result rule e (rw c.of.ensures (legal_broken script lines place c.index-lines-place.result (line_at first).there (stamped first c.if-line-place.false) (next_of at.After-may_refuse-refusable) (λ yes. cc ((legal_of at.In_ok-tells (line_at first)).1 yes, c.if-not-branch.true))))

pub passes-requires-clause-size : goal.passes-requires-clause-size
passes-requires-clause-size c =
    let walked = c.follows.ensures.kept (take c.args.place c.args.lines.now) c.requires.past.courses in
    omega (arith, walked.size, c.follows.new.courses.ok.0)

pub returns-then-not-passes-clause-broken : goal.returns-then-not-passes-clause-broken
returns-then-not-passes-clause-broken c = λ rule e.
    let at = goal.at.returns-then-not-passes-clause-broken c in
    let script = c.args.script.now in
    let lines = c.args.lines.now in
    let place = c.args.place in
    let first = at.After-index-lines-place in
    let told = c.passes.ensures.told (take place lines) (c.follows.ensures.kept (take place lines) c.requires.past.courses) in
    first_is script lines place Generations rule e (generation_broken script lines place c.index-lines-place.result (line_at first).there (stamped first c.if-line-place.false) (next_of at.After-may_refuse-refusable) ((legal_of at.In_ok-tells (line_at first)).0 c.if-not-branch.false) (λ yes. cc (told.1 yes, c.if-not-passes.true)))

pub returns-clause-kept : goal.returns-clause-kept
returns-clause-kept c = λ none.
    let at = goal.at.returns-clause-kept c in
    let script = c.args.script.now in
    let lines = c.args.lines.now in
    let place = c.args.place in
    let first = at.After-index-lines-place in
    let past = c.requires.past in
    let walked = c.follows.ensures.kept (take place lines) past.courses in
    let told = c.passes.ensures.told (take place lines) walked in (
      all_kept script lines place c.index-lines-place.result (line_at first).there (stamped first c.if-line-place.false) (next_of at.After-may_refuse-refusable) ((legal_of at.In_ok-tells (line_at first)).0 c.if-not-branch.false) (told.0 c.if-not-passes.false),
      rw (line_at first).more (record {
        objects = c.in_ok-tells.ensures.kept (kinds_of script) (take place lines) c.if-not-branch.false past.objects;
        courses = c.passes.ensures.kept (take place lines) walked c.if-not-passes.false;
        seen = c.see.ensures (take place lines) past.seen;
      }),
    )
