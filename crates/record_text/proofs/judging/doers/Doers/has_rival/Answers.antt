use Rattle.std.proofs.Common.{◌≡◌, ◌∙◌, ap}
use Rattle.std.specs.Prelude.{ℕ, ◌<◌, ◌^◌, List, Option, Some, None}
use Rattle.std.specs.Ordering.{nat_cmp}
use Rattle.std.specs.BTreeMap.{get}
use Rattle.record_text.specs.Referee.Doers.{Knows, key_of, has_rival}
use Rattle.record_text.specs.declared.record.RecordLine.{RecordLine}
use Rattle.record_text.specs.declared.judging.doers.Doers.{Doers}
use Rattle.record_text.specs.declared.judging.doers.Doer.{Doer}
use Rattle.record_text.proofs.Referee.Swappers.{rival_known, knows_rival}
use Rattle.record_text.proofs.judging.doers.Doers.has_rival.Goals as goal

told : (doers : Doers) (lines : List RecordLine) → Knows lines doers → (key worker object number : ℕ) (known : Option Doer) → number < 2 ^ 32 → key ≡ key_of object number → known ≡ get nat_cmp doers.known key → knows_rival known worker ≡ has_rival lines worker object number
told doers lines knows key worker object number known fits key_is value = ap (λ (k : Option Doer). knows_rival k worker) (value ∙ rw key_is (knows object number fits)) ∙ rival_known object number worker lines

pub returns-then-doer : goal.returns-then-doer
returns-then-doer c = λ lines knows.
    c.if-doer.true ∙ (rw c.if-doer.true at (told c.args.self.now lines knows c.key_of.result c.args.worker c.args.object c.args.number (Some c.in-Some.doer.now) c.ranges.number.fits c.key_of.ensures c.in-Some.ensures.value))

pub returns-else-doer : goal.returns-else-doer
returns-else-doer c = λ lines knows.
    (rw c.if-doer.false at (told c.args.self.now lines knows c.key_of.result c.args.worker c.args.object c.args.number (Some c.in-Some.doer.now) c.ranges.number.fits c.key_of.ensures c.in-Some.ensures.value))

pub returns-in-None : goal.returns-in-None
returns-in-None c = λ lines knows.
    told c.args.self.now lines knows c.key_of.result c.args.worker c.args.object c.args.number None c.ranges.number.fits c.key_of.ensures c.in-None.ensures.value
