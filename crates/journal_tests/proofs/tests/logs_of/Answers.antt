use Rattle.std.proofs.Common.{rules, ◌≡◌, ◌+◌, List, [], ◌∷◌, ◌++◌, length, sym, ap, subst, arith}
use Rattle.std.proofs.lemmas.List.{length-append}
use Rattle.std.proofs.lemmas.List.Sums.{sum_by-cons}
use Rattle.k42_kinds.specs.declared.operation.Op.{Op}
use Rattle.k42_kinds.specs.declared.operation.Reply.{Reply}
use Rattle.k42_log.specs.Logs.{LogSeen}
use Rattle.k42_stamp.specs.Lists.{AreLists}
use Rattle.k42_stamp.specs.Merging.{entries_in}
use Rattle.k42_stamp.proofs.Listed.{lists_push}
use Rattle.k42_journal.specs.Logs.{entries_of, lists_of}
use Rattle.journal_tests.proofs.tests.logs_of.Goals as goal

total_more : (logs : List (LogSeen Op Reply)) (log : LogSeen Op Reply) → entries_in (lists_of (logs ++ log ∷ [])) ≡ entries_in (lists_of logs) + length log.entries
total_more [] log = omega (arith, sum_by-cons length log.entries [])
total_more (one ∷ logs) log =
    omega (arith, total_more logs log, sum_by-cons length one.entries (lists_of logs), sum_by-cons length one.entries (lists_of (logs ++ log ∷ [])))

pub loop-caller-preserved : goal.loop-caller-preserved
loop-caller-preserved g c =
    let logs = c.loop-caller.logs.items in
    let log = c.log_of.result in
    let pushed : c.push_reserved.new.self.items ≡ logs ++ log ∷ [] = c.push_reserved.ensures.items in
    record {
      lists = subst (λ items. AreLists (lists_of items)) (sym pushed)
          (lists_push entries_of logs log c.loop-caller.caller c.loop-caller.invariant.lists c.loop-caller.invariant.many c.log_of.ensures.list);
      many = omega (arith, ap length pushed, length-append logs (log ∷ []), c.loop-caller.invariant.many);
      few = omega (arith, ap (λ items. entries_in (lists_of items)) pushed, total_more logs log, c.loop-caller.invariant.few, c.log_of.ensures.few);
      room = search rules;
    }
