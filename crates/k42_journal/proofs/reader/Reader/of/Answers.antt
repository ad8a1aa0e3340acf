use Rattle.std.proofs.Common.{rules, ◌≡◌, ◌+◌, ◌<◌, List, [], ◌∷◌, ◌++◌, length, take, get_or, refl, sym, ap, ◌∙◌, subst}
use Rattle.std.specs.Prelude.{Some, slice_get}
use Rattle.std.specs.Option.{option_map}
use Rattle.std.proofs.lemmas.List.{take_more, map-append}
use Rattle.std.proofs.lemmas.Option.{slice_get-map, slice_get_read}
use Rattle.k42_kinds.specs.declared.entry.Entry.{Entry}
use Rattle.k42_log.specs.Logs.{LogSeen}
use Rattle.k42_stamp.specs.Lists.{IsListOf}
use Rattle.k42_journal.specs.Logs.{entries_of, lists_of}
use Rattle.k42_journal.proofs.Queueing.{queue_more}
use Rattle.k42_journal.proofs.reader.Reader.of.Goals as goal

pub enter_first-requires-clause-ordered : goal.enter_first-requires-clause-ordered
enter_first-requires-clause-ordered g c = c.loop-log.invariant.queue.ordered

pub loop-log-preserved : goal.loop-log-preserved
loop-log-preserved g c =
    let logs = c.args.logs.now in
    let index = c.loop-log.log-index in
    let log = c.log-item.result in
    let lists = c.loop-log.unread.items in
    let rest = c.unread-rest.result in
    let list : rest ≡ log.entries = c.unread-rest.ensures in
    let within : index < length logs = search rules in
    let read : log ≡ get_or logs index log = search rules in
    let there : slice_get logs index ≡ Some log = slice_get_read logs (length logs) index log refl within read in
    let at : slice_get (lists_of logs) index ≡ Some rest = slice_get-map entries_of logs index ∙ (ap (option_map entries_of) there ∙ ap (λ (l : List (Entry _ _)). Some l) (sym list)) in
    let many : index ≡ length lists = sym c.loop-log.invariant.many ∙ c.loop-log.unread.ok.0 in
    let own : IsListOf (length lists) rest = subst (λ n. IsListOf n rest) many (c.requires.are index rest at) in
    let pushed : c.push_reserved.new.self.items ≡ lists ++ rest ∷ [] = c.push_reserved.ensures.items in
    let front : lists_of (take (index + 1) logs) ≡ lists_of (take index logs) ++ log.entries ∷ [] =
    ap lists_of (take_more logs index log within ∙ ap (λ (x : LogSeen _ _). take index logs ++ x ∷ []) (sym read)) ∙ map-append entries_of (take index logs) (log ∷ []) in
    record {
      lists = pushed ∙ (ap (λ l. l ++ rest ∷ []) c.loop-log.invariant.lists ∙ (ap (λ l. lists_of (take index logs) ++ l ∷ []) list ∙ sym front));
      queue = rw pushed (queue_more lists rest c.loop-log.queue.items c.enter_first.new.queue.items c.loop-log.invariant.queue own c.enter_first.ensures.entered);
      few = search rules;
      many = search rules;
      room = search rules;
      rooms = search rules;
      end = refl;
    }
