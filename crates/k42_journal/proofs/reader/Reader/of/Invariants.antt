use Rattle.std.proofs.Common.{◌≡◌, ◌≤◌, length, take, vec_len, vec_capacity}
use Rattle.k42_journal.specs.Logs.{lists_of}
use Rattle.k42_journal.specs.Queues.{IsQueueOf}
use Rattle.k42_journal.proofs.reader.Reader.of.Given as goal

abbrev pub invariant-loop-log : goal.invariant-loop-log
invariant-loop-log g l = record {
  lists : l.unread.items ≡ lists_of (take l.log-index l.logs);
  queue : IsQueueOf l.unread.items l.queue.items;
  few : vec_len l.queue ≤ l.log-index;
  many : vec_len l.unread ≡ l.log-index;
  room : vec_capacity l.queue ≡ length l.logs;
  rooms : vec_capacity l.unread ≡ length l.logs;
  end : l.log-index-end ≡ length l.logs;
}
