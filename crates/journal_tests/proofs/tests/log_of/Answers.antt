use Rattle.std.proofs.Common.{rules, ◌≡◌, ◌+◌, List, [], ◌∷◌, ◌++◌, length, refl, sym, ap, ◌∙◌, subst, arith}
use Rattle.std.proofs.lemmas.List.{length-append}
use Rattle.k42_kinds.specs.declared.operation.Op.{Op}
use Rattle.k42_kinds.specs.declared.operation.Reply.{Reply}
use Rattle.k42_kinds.specs.declared.entry.Entry.{Entry}
use Rattle.k42_log.specs.Entries.{Owner}
use Rattle.k42_stamp.proofs.Listed.{IsListUpTo, list_push}
use Rattle.journal_tests.proofs.tests.log_of.Goals as goal

length_more : (entry : Entry Op Reply) (old new : List (Entry Op Reply)) → new ≡ old ++ entry ∷ [] → length new ≡ length old + 1
length_more entry old new is = ap length is ∙ length-append old (entry ∷ [])

pub loop-stamp-preserved : goal.loop-stamp-preserved
loop-stamp-preserved g c =
    let log = c.reserve.new.self in
    let kept : log.entries ≡ c.loop-stamp.log.entries = search rules in
    let owner : log.owner ≡ c.loop-stamp.log.owner = search rules in
    let was : IsListUpTo c.args.caller c.loop-stamp.last log.entries = rw kept c.loop-stamp.invariant.list in
    let own = ap (λ (o : Owner). o.caller) owner ∙ c.loop-stamp.invariant.caller in
    record {
      list = subst (IsListUpTo c.args.caller _) (sym c.push_call.ensures.entries) (list_push c.args.caller c.loop-stamp.last log.entries _ was own (search rules));
      caller = ap (λ (o : Owner). o.caller) c.push_call.ensures.owner ∙ own;
      first = search rules;
      few = omega (arith, length_more _ log.entries c.push_call.new.self.entries c.push_call.ensures.entries, ap length kept, c.loop-stamp.invariant.few);
      end = refl;
    }
