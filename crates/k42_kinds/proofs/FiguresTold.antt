-- Each `seen` of a legal history of watched objects is told its figure.
use Rattle.std.proofs.Common.{◌≡◌, ℕ, ◌+◌, ◌%◌, ◌^◌, ◌<◌, Bool, true, false, cond, not, ◌&&◌, ◌||◌, ◌==◌, if◌then◌else◌, List, [], ◌∷◌, fold, count_by, Option, Some, None, refl, sym, ap, ◌∙◌, subst, arith}
use Rattle.std.specs.List.{list_any}
use Rattle.std.specs.Option.{option_or}
use Rattle.std.proofs.lemmas.Grind.{common_steps}
use Rattle.std.proofs.lemmas.List.Sums.{sum_by-append}
use Rattle.k42_kinds.specs.declared.operation.KindName.{KindName}
use Rattle.k42_kinds.specs.declared.operation.KindName.TheVariants as kinds
use Rattle.k42_kinds.specs.declared.operation.Op.{Op}
use Rattle.k42_kinds.specs.declared.operation.Op.TheVariants.{Add, Get, Drain, Bind, Find, Unbind, Size, Write, Read, Dirty, Clean, Seen}
use Rattle.k42_kinds.specs.declared.operation.Reply.{Reply}
use Rattle.k42_kinds.specs.declared.operation.Reply.TheVariants as replies
use Rattle.k42_kinds.specs.declared.states.AnyState.{AnyState}
use Rattle.k42_kinds.specs.declared.states.AnyState.TheVariants as states
use Rattle.k42_kinds.specs.declared.watch.WatchState.{WatchState}
use Rattle.k42_kinds.specs.declared.entry.Act.{Act}
use Rattle.k42_kinds.specs.declared.entry.Act.TheVariants.{Call, Swap}
use Rattle.k42_kinds.specs.declared.entry.To.TheVariants.{Layout, Dead, Watch, Unwatch}
use Rattle.k42_kinds.specs.declared.entry.Answer.{Answer}
use Rattle.k42_kinds.specs.declared.entry.Answer.TheVariants.{Replied}
use Rattle.k42_kinds.specs.declared.entry.Entry.{Entry}
use Rattle.k42_kinds.specs.Objects.{plain_object, state_after, empty_state, is_dead}
use Rattle.k42_kinds.specs.Histories.{AtEachPlace, state_moved, state_moved_by, state_in, is_carried_out}
use Rattle.k42_kinds.specs.Legal.{IsLegalHistoryOf, IsLegalActOf, IsLegalCallOf}
use Rattle.k42_kinds.specs.Watched.{is_seen, counted, told, seen_after, watch_state, watched_object}
use Rattle.k42_kinds.specs.Figures.{is_watch, is_unwatch, is_destroy, is_counted, destroys, changes_layer, counts, last_such, figure_behind, figure, TellsFigure}

-- only one operation asks for the count
pub only_seen : (op : Op) → is_seen op ≡ true → op ≡ Seen
only_seen (Add amount) is = absurd (cc is)
only_seen Get is = absurd (cc is)
only_seen Drain is = absurd (cc is)
only_seen (Bind key number) is = absurd (cc is)
only_seen (Find key) is = absurd (cc is)
only_seen (Unbind key) is = absurd (cc is)
only_seen Size is = absurd (cc is)
only_seen (Write page text) is = absurd (cc is)
only_seen (Read page) is = absurd (cc is)
only_seen Dirty is = absurd (cc is)
only_seen Clean is = absurd (cc is)
only_seen Seen is = refl

-- an object that is not watched itself leaves its state there
asked_left : (state : AnyState) → state_after state Seen ≡ state
asked_left (states.Counter value) = refl
asked_left (states.Directory names) = refl
asked_left (states.Pages pages) = refl
asked_left states.Dead = refl

-- the count after an act that was carried out or not
abbrev seen_moved : Option ℕ → Act Op → Bool → Option ℕ
seen_moved seen (Call op) carried = if is_seen op then seen else counted seen
seen_moved seen (Swap to) carried = if carried then seen_after seen to else seen

abbrev seen_by : ℕ → Option ℕ → Entry Op Reply → Option ℕ
seen_by number seen entry = if entry.object == number then seen_moved seen entry.act (is_carried_out entry.answer) else seen

call_moved : (kind : KindName) (state : WatchState AnyState) (op : Op) (b : Bool) → is_seen op ≡ b
    → (watched_object kind).after state op ≡ watch_state (state_after state.inner op) (if is_seen op then state.seen else counted state.seen)
call_moved kind state op true is = rw is (ap (λ inner. watch_state inner state.seen) (sym (ap (λ asked. state_after state.inner asked) (only_seen op is) ∙ asked_left state.inner)))
call_moved kind state op false is = rw is refl

-- a watched object is the object within, and beside it the count
act_moved : (kind : KindName) (state : WatchState AnyState) (act : Act Op) (answer : Answer Reply) (carried : Bool) → is_carried_out answer ≡ carried
    → state_moved (watched_object kind) state act answer ≡ watch_state (state_moved (plain_object kind) state.inner act answer) (seen_moved state.seen act (is_carried_out answer))
act_moved kind state (Call op) answer carried is = call_moved kind state op (is_seen op) refl
act_moved kind state (Swap to) answer true is = rw is refl
act_moved kind state (Swap to) answer false is = rw is refl

entry_moved : (kind : KindName) (number : ℕ) (state : WatchState AnyState) (entry : Entry Op Reply) (own : Bool) → (entry.object == number) ≡ own
    → state_moved_by (watched_object kind) number state entry ≡ watch_state (state_moved_by (plain_object kind) number state.inner entry) (seen_by number state.seen entry)
entry_moved kind number state entry true is = rw is (act_moved kind state entry.act entry.answer (is_carried_out entry.answer) refl)
entry_moved kind number state entry false is = rw is refl

history_moved : (kind : KindName) (number : ℕ) (state : WatchState AnyState) (history : List (Entry Op Reply))
    → fold (state_moved_by (watched_object kind) number) state history ≡ watch_state (fold (state_moved_by (plain_object kind) number) state.inner history) (fold (seen_by number) state.seen history)
history_moved kind number state [] = refl
history_moved kind number state (entry ∷ rest) =
    ap (λ (now : WatchState AnyState). fold (state_moved_by (watched_object kind) number) now rest) (entry_moved kind number state entry (entry.object == number) refl)
    ∙ history_moved kind number (watch_state (state_moved_by (plain_object kind) number state.inner entry) (seen_by number state.seen entry)) rest

-- an object is dead where it was, or where an entry destroys it
or-false : (b : Bool) → (b || false) ≡ b
or-false true = refl
or-false false = refl

or-true : (b : Bool) → (b || true) ≡ true
or-true true = refl
or-true false = refl

or-assoc : (a b c : Bool) → ((a || b) || c) ≡ (a || (b || c))
or-assoc true b c = refl
or-assoc false b c = refl

dead_call : (state : AnyState) (op : Op) → is_dead (state_after state op) ≡ is_dead state
dead_call (states.Counter value) op = refl
dead_call (states.Directory names) op = refl
dead_call (states.Pages pages) op = refl
dead_call states.Dead op = refl

-- whether it is dead after an act on it that was carried out or not
dead_act : (kind : KindName) (state : AnyState) (act : Act Op) (answer : Answer Reply) (carried : Bool) → is_carried_out answer ≡ carried
    → is_dead (state_moved (plain_object kind) state act answer) ≡ (is_dead state || (carried && is_destroy act))
dead_act kind state (Call op) answer true is = dead_call state op ∙ sym (or-false (is_dead state))
dead_act kind state (Call op) answer false is = dead_call state op ∙ sym (or-false (is_dead state))
dead_act kind state (Swap to) answer false is = rw is (sym (or-false (is_dead state)))
dead_act kind state (Swap (Layout layout)) answer true is = rw is (sym (or-false (is_dead state)))
dead_act kind state (Swap Dead) answer true is = rw is (sym (or-true (is_dead state)))
dead_act kind state (Swap Watch) answer true is = rw is (sym (or-false (is_dead state)))
dead_act kind state (Swap Unwatch) answer true is = rw is (sym (or-false (is_dead state)))

dead_entry : (kind : KindName) (number : ℕ) (state : AnyState) (entry : Entry Op Reply) (own : Bool) → (entry.object == number) ≡ own
    → is_dead (state_moved_by (plain_object kind) number state entry) ≡ (is_dead state || destroys number entry)
dead_entry kind number state entry true is = rw is (dead_act kind state entry.act entry.answer (is_carried_out entry.answer) refl)
dead_entry kind number state entry false is = rw is (sym (or-false (is_dead state)))

dead_history : (kind : KindName) (number : ℕ) (state : AnyState) (history : List (Entry Op Reply))
    → is_dead (fold (state_moved_by (plain_object kind) number) state history) ≡ (is_dead state || list_any (destroys number) history)
dead_history kind number state [] = sym (or-false (is_dead state))
dead_history kind number state (entry ∷ rest) =
    dead_history kind number (state_moved_by (plain_object kind) number state entry) rest
    ∙ ap (λ dead. dead || list_any (destroys number) rest) (dead_entry kind number state entry (entry.object == number) refl)
    ∙ or-assoc (is_dead state) (destroys number entry) (list_any (destroys number) rest)

starts_alive : (kind : KindName) → is_dead (empty_state kind) ≡ false
starts_alive kinds.Counter = refl
starts_alive kinds.Directory = refl
starts_alive kinds.Pages = refl

-- a count is one of 64 bits
abbrev IsSmall : Option ℕ → Type 0
IsSmall (Some count) = count < 2 ^ 64
IsSmall None = Unit {0}

-- the count after so many calls more
abbrev grown : Option ℕ → ℕ → Option ℕ
grown (Some count) more = Some ((count + more) % 2 ^ 64)
grown None more = None

-- the count after a history, by what is found last in it
abbrev seen_behind : ℕ → Option ℕ → List (Entry Op Reply) → Option (Entry Op Reply × List (Entry Op Reply)) → Option ℕ
seen_behind number seen history (Some last) = if is_watch last.0.act then Some (count_by (counts number) last.1 % 2 ^ 64) else None
seen_behind number seen history None = grown seen (count_by (counts number) history)

-- a watch or an unwatch sets the count
count_set : (own carried : Bool) (act : Act Op) (seen : Option ℕ) → ((own && carried) && (is_watch act || is_unwatch act)) ≡ true
    → (if own then seen_moved seen act carried else seen) ≡ (if is_watch act then Some 0 else None)
count_set false carried act seen is = absurd (cc is)
count_set true false act seen is = absurd (cc is)
count_set true true (Call op) seen is = absurd (cc is)
count_set true true (Swap (Layout layout)) seen is = absurd (cc is)
count_set true true (Swap Dead) seen is = absurd (cc is)
count_set true true (Swap Watch) seen is = refl
count_set true true (Swap Unwatch) seen is = refl

call_counted : (seen : Option ℕ) (b : Bool) → (if b then seen else counted seen) ≡ (if not b then counted seen else seen)
call_counted seen true = refl
call_counted seen false = refl

-- every other entry but a destroy leaves it, or counts
count_moved : (own carried : Bool) (act : Act Op) (seen : Option ℕ) → ((own && carried) && (is_watch act || is_unwatch act)) ≡ false → ((own && carried) && is_destroy act) ≡ false
    → (if own then seen_moved seen act carried else seen) ≡ (if own && is_counted act then counted seen else seen)
count_moved false carried act seen changes destroyed = refl
count_moved true carried (Call op) seen changes destroyed = call_counted seen (is_seen op)
count_moved true false (Swap to) seen changes destroyed = refl
count_moved true true (Swap (Layout layout)) seen changes destroyed = refl
count_moved true true (Swap Dead) seen changes destroyed = absurd (cc destroyed)
count_moved true true (Swap Watch) seen changes destroyed = absurd (cc changes)
count_moved true true (Swap Unwatch) seen changes destroyed = absurd (cc changes)

counted_small : (seen : Option ℕ) → IsSmall (counted seen)
counted_small (Some count) = grind (arith, common_steps)
counted_small None = tt

small_call : (seen : Option ℕ) (b : Bool) → IsSmall seen → IsSmall (if b then seen else counted seen)
small_call seen true small = small
small_call seen false small = counted_small seen

small_moved : (own carried : Bool) (act : Act Op) (seen : Option ℕ) → IsSmall seen → IsSmall (if own then seen_moved seen act carried else seen)
small_moved false carried act seen small = small
small_moved true carried (Call op) seen small = small_call seen (is_seen op) small
small_moved true false (Swap to) seen small = small
small_moved true true (Swap (Layout layout)) seen small = small
small_moved true true (Swap Dead) seen small = tt
small_moved true true (Swap Watch) seen small = omega arith
small_moved true true (Swap Unwatch) seen small = tt

grown-none : (seen : Option ℕ) → IsSmall seen → grown seen 0 ≡ seen
grown-none (Some count) small = ap Some (grind (arith, common_steps, small))
grown-none None small = refl

grown-set : (b : Bool) (more : ℕ) → grown (if b then Some 0 else None) more ≡ (if b then Some (more % 2 ^ 64) else None)
grown-set true more = ap (λ n. Some (n % 2 ^ 64)) (omega arith)
grown-set false more = refl

grown-one : (seen : Option ℕ) (more : ℕ) → grown (counted seen) more ≡ grown seen (1 + more)
grown-one (Some count) more = ap Some (grind (arith, common_steps))
grown-one None more = refl

counts-cons : (number : ℕ) (entry : Entry Op Reply) (rest : List (Entry Op Reply)) → count_by (counts number) (entry ∷ rest) ≡ cond (counts number entry) 1 0 + count_by (counts number) rest
counts-cons number entry rest = omega (arith, sum_by-append (λ one. cond (counts number one) 1 0) (entry ∷ []) rest)

grown-next : (number : ℕ) (entry : Entry Op Reply) (rest : List (Entry Op Reply)) (seen : Option ℕ) (b : Bool) → counts number entry ≡ b
    → grown (if b then counted seen else seen) (count_by (counts number) rest) ≡ grown seen (count_by (counts number) (entry ∷ rest))
grown-next number entry rest seen true is = grown-one seen (count_by (counts number) rest) ∙ ap (grown seen) (sym (counts-cons number entry rest ∙ rw is refl))
grown-next number entry rest seen false is = ap (grown seen) (sym (counts-cons number entry rest ∙ rw is (omega arith)))

or_false : (a b : Bool) → (a || b) ≡ false → a ≡ false
or_false true b is = absurd (cc is)
or_false false b is = refl

or_false_last : (a b : Bool) → (a || b) ≡ false → b ≡ false
or_false_last true b is = absurd (cc is)
or_false_last false b is = is

-- what is found behind one more entry at the front
seen-cons : (number : ℕ) (seen : Option ℕ) (entry : Entry Op Reply) (rest : List (Entry Op Reply)) (found : Option (Entry Op Reply × List (Entry Op Reply))) (b : Bool)
    → changes_layer number entry ≡ b → destroys number entry ≡ false
    → seen_behind number (seen_by number seen entry) rest found ≡ seen_behind number seen (entry ∷ rest) (option_or found (if b then Some (entry, rest) else None))
seen-cons number seen entry rest (Some last) b is kept = refl
seen-cons number seen entry rest None true is kept =
    ap (λ now. grown now (count_by (counts number) rest)) (count_set (entry.object == number) (is_carried_out entry.answer) entry.act seen is)
    ∙ grown-set (is_watch entry.act) (count_by (counts number) rest)
seen-cons number seen entry rest None false is kept =
    ap (λ now. grown now (count_by (counts number) rest)) (count_moved (entry.object == number) (is_carried_out entry.answer) entry.act seen is kept)
    ∙ grown-next number entry rest seen (counts number entry) refl

-- while the object is not destroyed
seen_in_all : (number : ℕ) (seen : Option ℕ) (history : List (Entry Op Reply)) → IsSmall seen → list_any (destroys number) history ≡ false
    → fold (seen_by number) seen history ≡ seen_behind number seen history (last_such (changes_layer number) history)
seen_in_all number seen [] small kept = sym (grown-none seen small)
seen_in_all number seen (entry ∷ rest) small kept =
    seen_in_all number (seen_by number seen entry) rest (small_moved (entry.object == number) (is_carried_out entry.answer) entry.act seen small) (or_false_last (destroys number entry) (list_any (destroys number) rest) kept)
    ∙ seen-cons number seen entry rest (last_such (changes_layer number) rest) (changes_layer number entry) refl (or_false (destroys number entry) (list_any (destroys number) rest) kept)

told-watched : (b : Bool) (count : ℕ) → told false (if b then Some count else None) ≡ (if b then replies.Number count else replies.None)
told-watched true count = refl
told-watched false count = refl

told_behind : (number : ℕ) (history : List (Entry Op Reply)) (found : Option (Entry Op Reply × List (Entry Op Reply))) → told false (seen_behind number None history found) ≡ figure_behind number found
told_behind number history (Some last) = told-watched (is_watch last.0.act) (count_by (counts number) last.1 % 2 ^ 64)
told_behind number history None = refl

told_in_all : (number : ℕ) (history : List (Entry Op Reply)) (b : Bool) → list_any (destroys number) history ≡ b → told b (fold (seen_by number) None history) ≡ figure number history
told_in_all number history true is = rw is refl
told_in_all number history false is =
    ap (λ seen. told false seen) (seen_in_all number None history tt is)
    ∙ told_behind number history (last_such (changes_layer number) history)
    ∙ rw is refl

-- what a watched object tells is its figure, whatever its history
pub figure_told : (kind : KindName) (number : ℕ) (history : List (Entry Op Reply))
    → (watched_object kind).reply (state_in (watched_object kind) number history) Seen ≡ figure number history
figure_told kind number history =
    let dead = dead_history kind number (empty_state kind) history ∙ ap (λ b. b || list_any (destroys number) history) (starts_alive kind) in
    ap (λ (state : WatchState AnyState). told (is_dead state.inner) state.seen) (history_moved kind number (watched_object kind).start history)
    ∙ ap (λ b. told b (fold (seen_by number) None history)) dead
    ∙ told_in_all number history (list_any (destroys number) history) refl

pub figures_told : (kinds : List KindName) (history : List (Entry Op Reply)) → IsLegalHistoryOf watched_object kinds history → AtEachPlace TellsFigure history
figures_told kinds history legal = λ before entry after split. record {
  replied = λ asks.
      let was = legal.legal before entry after split in
      let call : IsLegalCallOf (watched_object was.kind) before entry Seen = subst (λ (act : Act Op). IsLegalActOf (watched_object was.kind) before entry after act) asks was.legal in
      call.replied ∙ ap Replied (figure_told was.kind entry.object before);
}
