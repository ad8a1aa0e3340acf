use Rattle.std.proofs.Common.{◌<◌, ◌≤◌, ◌+◌, ℕ, List, length, refl, inl, inr, arith}
use Rattle.std.specs.Prelude.{All}
use Rattle.std.proofs.lemmas.List.{length-map, take_all}
use Rattle.std.proofs.lemmas.List.Elements.{All-weaker}
use Rattle.std.proofs.lemmas.Option.{slice_get_within}
use Rattle.k42_limits.specs.declared.TheConstants.{CALLERS, OBJECTS}
use Rattle.script_text.specs.Lawful.{kinds_of}
use Rattle.script_text.specs.declared.script.Script.{Script}
use Rattle.record_text.specs.Spelling.{HasSpelling}
use Rattle.record_text.specs.Referee.Seen.{IsPlaced}
use Rattle.record_text.specs.Rules.{Rule, KeepsAt, KeepsRules, HasAllLines, BreaksFirst, all_rules, rule_number, IsFaultOfLine, IsFaultOfEnd}
use Rattle.record_text.specs.declared.record.RecordLine.{RecordLine}
use Rattle.record_text.proofs.Rebuilt.{lawful_from_rules}
use Rattle.record_text.proofs.judging.check.Goals as goal

placed : (script : Script) (lines : List RecordLine) → length script.workers ≤ CALLERS → length script.objects ≤ OBJECTS → All (HasSpelling script) lines → All IsPlaced lines
placed script lines workers objects spelled = All-weaker (HasSpelling script) IsPlaced (λ line one. record {
  worker = omega (arith, one.by_worker, workers);
  object = omega (arith, slice_get_within (kinds_of script) line.object one.kind one.of_object, length-map script.objects (λ object. object.kind), objects);
}) lines spelled

module _ (script : Script) (lines : List RecordLine) (place : ℕ) (kept : (earlier : ℕ) → earlier < place → (rule : Rule) → KeepsAt script lines earlier rule) where
  fault_here : (rule : ℕ) → BreaksFirst (KeepsAt script lines place) all_rules rule → IsFaultOfLine script lines (place + 2) rule
  fault_here rule broken = record { place = place; numbered = refl; before = kept; broken = broken }

  all_kept : length lines ≤ place → (other : ℕ) (rule : Rule) → KeepsAt script lines other rule
  all_kept past other rule line there = kept other (omega (arith, slice_get_within lines other line there, past)) rule line there

  kept_to_end : length lines ≤ place → HasAllLines script lines → KeepsRules script lines
  kept_to_end past complete = record { each = all_kept past; complete = complete }

  fault_at_end : length lines ≤ place → (HasAllLines script lines → ⊥) → IsFaultOfEnd script lines (length lines + 2) 8
  fault_at_end past missing = record { numbered = refl; order = refl; before = all_kept past; missing = missing }

pub judge-requires-clause-placed : goal.judge-requires-clause-placed
judge-requires-clause-placed c = rw c.as_slice-lines.ensures (placed c.args.script.now c.args.lines.now.lines c.requires.workers c.requires.objects c.requires.spelled.spelled)

pub returns-in-Some : goal.returns-in-Some
returns-in-Some c =
    let fault : IsFaultOfLine c.args.script.now c.as_slice-lines.result.now (c.loop-place.place + 2) (rule_number c.in-Some.rule) = fault_here c.args.script.now c.as_slice-lines.result.now c.loop-place.place c.loop-place.invariant.kept (rule_number c.in-Some.rule) (c.in_ok-rule.ensures.broken c.in-Some.rule c.in-Some.is) in
    record { verdict = inl (rw c.number.ensures (rw c.as_slice-lines.ensures at fault)) }

pub returns-then-all_done : goal.returns-then-all_done
returns-then-all_done c =
    let script = c.args.script.now in
    let lines = c.as_slice-lines.result.now in
    let past : length lines ≤ c.loop-place.place = omega (arith, c.loop-place-test.false) in
    let now = rw (take_all c.loop-place.place lines past) at c.loop-place.invariant.past in
    let keeps : KeepsRules script lines = kept_to_end script lines c.loop-place.place c.loop-place.invariant.kept past ((c.all_done.ensures lines now.courses).0 c.if-all_done.true) in
    record { verdict = lawful_from_rules script c.args.lines.now c.requires.spelled (rw c.as_slice-lines.ensures at keeps) }

pub returns : goal.returns
returns c =
    let script = c.args.script.now in
    let lines = c.as_slice-lines.result.now in
    let past : length lines ≤ c.loop-place.place = omega (arith, c.loop-place-test.false) in
    let now = rw (take_all c.loop-place.place lines past) at c.loop-place.invariant.past in
    let fault : IsFaultOfEnd script lines (length lines + 2) 8 = fault_at_end script lines c.loop-place.place c.loop-place.invariant.kept past (λ all. cc ((c.all_done.ensures lines now.courses).1 all, c.if-all_done.false)) in
    record { verdict = inr (rw (c.number-else-all_done.ensures, c.as_slice-lines.ensures) (rw c.as_slice-lines.ensures at fault)) }
