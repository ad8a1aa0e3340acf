-- The next entry of a pass, where it is kept, is the next of its log.
use Rattle.std.proofs.Common.{◌≡◌, ℕ, ◌+◌, ◌<◌, ◌≤◌, List, Option, drop, length, refl, sym, ap, ◌∙◌, arith}
use Rattle.std.proofs.lemmas.List.{length-drop}
use Rattle.k42_limits.specs.declared.TheConstants.{OBJECTS, PASS_ENTRIES}
use Rattle.k42_kinds.specs.Histories.{is_call}
use Rattle.k42_kinds.specs.declared.entry.Act.TheVariants.{Call}
use Rattle.k42_kinds.specs.declared.entry.Answer.TheVariants.{Replied}
use Rattle.k42_kinds.specs.declared.entry.Entry.{Entry}
use Rattle.phase_core.specs.Stages.{object_of, row_of}
use Rattle.k42_joined.specs.Drawing.{first_cell}
use Rattle.k42_log.specs.Entries.{Owner}
use Rattle.k42_log.specs.Logs.{LogSeen, IsNextOf, call_entry, next_index}
use Rattle.k42_log.specs.Names.{is_reply}
use Rattle.k42_log.specs.declared.head.TheConstants.{CELLS}
use Rattle.k42_board.specs.Drawing.{entry_at, numbers_of, stamp_next}
use Rattle.k42_board.specs.Seen.{Keeping, Own, kept_of, kept_with, own_in}
use Rattle.k42_board.specs.declared.cell.Content.{Content}
use Rattle.k42_board.specs.declared.keep.Keep.{Keep}
use Rattle.k42_board.specs.declared.keep.Keep.TheVariants as keeps
use Rattle.k42_board.specs.declared.view.PassView.{PassView}
use Rattle.k42_board.proofs.Noted as noted
use Rattle.k42_rule.specs.Keeping.{HasKept, MayKeep, first_of}

module _ {O R : Type 0} (given : ℕ) (mine : List (Entry O R)) (few : given ≤ length mine) where
  dropped : given + length (drop given mine) ≡ length mine
  dropped = let left = length-drop given mine in omega (arith, left, few)

  all_kept : 0 + length mine ≡ length mine
  all_kept = omega arith

  next_within : (what : Keep) (n : ℕ) → n ≡ first_of what given + length (kept_of what given mine) → n ≤ length mine
  next_within keeps.All n is = omega (arith, is)
  next_within keeps.Sections n is = omega (arith, is, dropped)
  next_within keeps.Nothing n is = omega (arith, is)

  next_kept : (what : Keep) (before : List (Entry O R)) (entry : ℕ → Entry O R) (n : ℕ) → n ≡ first_of what given + length (kept_of what given mine)
      → kept_with what before (entry n) ≡ kept_with what before (entry (length mine))
  next_kept keeps.All before entry n is = ap (λ m. kept_with keeps.All before (entry m)) (is ∙ all_kept)
  next_kept keeps.Sections before entry n is = ap (λ m. kept_with keeps.Sections before (entry m)) (is ∙ dropped)
  next_kept keeps.Nothing before entry n is = refl

  next_may : (what : Keep) (log : LogSeen O R) (e : Entry O R) → next_index log ≡ first_of what given + length (kept_of what given mine) → e.index ≡ length mine
      → (next_index log ≡ e.index → IsNextOf log e) → MayKeep what log e
  next_may keeps.All log e is index may = may (is ∙ all_kept ∙ sym index)
  next_may keeps.Sections log e is index may = may (is ∙ dropped ∙ sym index)
  next_may keeps.Nothing log e is index may = tt

module _ {O R : Type 0} (keep : Keeping) (number home : ℕ) (mine : List (Entry O R)) (clock : ℕ) (log : LogSeen O R) (has : HasKept keep number home mine clock log) where
  next_is : next_index log ≡ first_of keep.what keep.given + length (kept_of keep.what keep.given mine)
  next_is = λ i. has.first i + length (has.kept_is i)

  pub index_few : length mine < PASS_ENTRIES → next_index log < PASS_ENTRIES
  index_few few = let within = next_within keep.given mine has.parted.few keep.what (next_index log) next_is in omega (arith, within, few)

  -- an entry of a swap
  pub may_keep : (e : Entry O R) → e.caller ≡ number → e.proc ≡ home → e.index ≡ length mine → length mine < PASS_ENTRIES → e.object < OBJECTS → e.cell < CELLS
      → is_call e.act ≡ is_reply e.answer → MayKeep keep.what log e
  may_keep e caller proc index few object cell answered =
      next_may keep.given mine has.parted.few keep.what log e next_is index
      (λ next. record {
        caller = caller ∙ sym (ap (λ (o : Owner). o.caller) has.owner);
        proc = proc ∙ sym (ap (λ (o : Owner). o.proc) has.owner);
        index = sym next;
        few = omega (arith, index, few);
        object = object;
        cell = cell;
        answered = answered;
      })

  -- and that of a call, which is not made before it is kept
  pub kept_call : {P : Type 0} (v : PassView P O R) (own : Own) (contents : List (Content P O R)) (op : O) (reply : R) (stamp object row cell : ℕ) (generation : Option ℕ)
      → own ≡ own_in v → number ≡ own.number → home ≡ own.turn.proc → mine ≡ v.taker.mine → stamp ≡ stamp_next v (numbers_of contents) → object ≡ object_of own.place
      → row ≡ row_of own.place → cell ≡ first_cell (numbers_of contents) → generation ≡ own.turn.active
      → kept_with keep.what log.entries (call_entry log stamp object row cell generation op reply) ≡ kept_with keep.what log.entries (entry_at contents op reply v)
  kept_call v own contents op reply stamp object row cell generation is number_is home_is mine_is stamped object_is row_is cell_is generation_is =
      next_kept keep.given mine has.parted.few keep.what log.entries
      (λ index. record {
        stamp = stamp;
        index = index;
        caller = log.owner.caller;
        object = object;
        incarnation = row;
        cell = cell;
        act = Call op;
        answer = Replied reply;
        proc = log.owner.proc;
        generation = generation;
      }) (next_index log) next_is
      ∙ ap (kept_with keep.what log.entries)
      (noted.call_entry v contents op reply stamp log.owner.caller (length mine) object row cell log.owner.proc generation stamped
      (ap (λ (o : Owner). o.caller) has.owner ∙ number_is ∙ ap (λ (o : Own). o.number) is) (ap length mine_is)
      (object_is ∙ ap (λ (o : Own). object_of o.place) is) (row_is ∙ ap (λ (o : Own). row_of o.place) is) cell_is
      (ap (λ (o : Owner). o.proc) has.owner ∙ home_is ∙ ap (λ (o : Own). o.turn.proc) is) (generation_is ∙ ap (λ (o : Own). o.turn.active) is))

  -- it has room in its numbers for what it keeps
  pub kept_few : length log.entries ≤ PASS_ENTRIES
  kept_few =
      let within = next_within keep.given mine has.parted.few keep.what (next_index log) next_is in
      let few = has.few in omega (arith, within, few)
