-- What a log has after a push.
use Rattle.std.proofs.Common.{◌≡◌, ◌∙◌, ℕ, false, ◌+◌, ◌-◌, ◌^◌, ◌<◌, ◌≤◌, List, [], ◌∷◌, ◌++◌, Option, length, min, refl, ap, sym, subst, arith, length-append}
use Rattle.std.specs.Prelude.{vec_capacity}
use Rattle.std.specs.List.{slice_get}
use Rattle.k42_limits.specs.declared.TheConstants.{OBJECTS, PASS_ENTRIES}
use Rattle.k42_kinds.specs.declared.packed.Size.{Size}
use Rattle.k42_kinds.specs.declared.entry.Act.{Act}
use Rattle.k42_kinds.specs.declared.entry.Act.TheVariants.{Swap}
use Rattle.k42_kinds.specs.declared.entry.Answer.{Answer}
use Rattle.k42_kinds.specs.declared.entry.Answer.TheVariants.{Replied, Swapped, Busy, Spent, Gone, Abandoned}
use Rattle.k42_kinds.specs.declared.entry.To.{To}
use Rattle.k42_kinds.specs.declared.entry.Entry.{Entry}
use Rattle.k42_kinds.specs.Histories.{is_call}
use Rattle.k42_kinds.specs.Packing.{Packing, IsNoMoreThan, IsPacked}
use Rattle.k42_log.specs.declared.head.Head.{Head}
use Rattle.k42_log.specs.declared.log.Log.TheInside.{Inside}
use Rattle.k42_log.specs.Names.{end_name, is_layout, is_reply, to_name}
use Rattle.k42_log.specs.Details.{Details, details_of, entries_fitting, joined, less_by, no_details}
use Rattle.k42_log.specs.Heads.{act_details, answer_details, answer_small, generation_or_0, head_of, head_with, place_of}
use Rattle.k42_log.specs.Entries.{AreWhole, entries_back}
use Rattle.k42_log.specs.Stored.{details_in, spare_in}
use Rattle.k42_log.specs.Logs.{IsNextOf, call_entry, incarnation_or_0, last_entry, next_index, stamp_or_0}
use Rattle.k42_log.specs.LogFields.{IsSound, entries_in, over_most, owner_in, room_in, seen}
use Rattle.k42_log.proofs.Joining.{joined-none, joined_assoc}
use Rattle.k42_log.proofs.BackAgain.{IsPackedAct, IsPackedAnswer, IsReplyPacked}
use Rattle.k42_log.proofs.Appended.{IsKeepable, entries_back-push, entry_details, length-entries_back}
use Rattle.k42_log.proofs.Lasts.{head_incarnation, head_stamp, incarnation_at, stamp_at}
use Rattle.k42_log.proofs.Sizes.{least_room, room_left, whole_then}

-- heads and details that give one more entry
pub record Gives
    {O R : Type 0} (ops : Packing O) (replies : Packing R) (log : Inside O R) (heads : List Head)
    (details : Details) (entry : Entry O R)
    : Type 0 where
  pub entries :
      entries_back ops replies (owner_in log) log.first heads details ≡ entries_in ops replies log ++ entry ∷ []
  pub whole : AreWhole ops replies heads details

module _ {O R : Type 0} (ops : Packing O) (replies : Packing R) where
  pub length_seen : (log : Inside O R) → length (entries_in ops replies log) ≡ length log.heads.items
  length_seen log = length-entries_back ops replies (owner_in log) log.first log.heads.items (details_in log.stored)

  -- the last place

  last_place : (log : Inside O R) → length (entries_in ops replies log) - 1 ≡ length log.heads.items - 1
  last_place log = ap (λ n. n - 1) (length_seen log)

  pub stamp_seen : (log : Inside O R)
      → head_stamp (slice_get log.heads.items (length log.heads.items - 1)) ≡ stamp_or_0 (last_entry (entries_in ops replies log))
  stamp_seen log =
      sym (ap (λ n. stamp_or_0 (slice_get (entries_in ops replies log) n)) (last_place log)
      ∙ stamp_at ops replies (owner_in log) log.first log.heads.items (details_in log.stored) (length log.heads.items - 1))

  pub incarnation_seen : (log : Inside O R)
      → head_incarnation (slice_get log.heads.items (length log.heads.items - 1)) ≡ incarnation_or_0 (last_entry (entries_in ops replies log))
  incarnation_seen log =
      sym (ap (λ n. incarnation_or_0 (slice_get (entries_in ops replies log) n)) (last_place log)
      ∙ incarnation_at ops replies (owner_in log) log.first log.heads.items (details_in log.stored) (length log.heads.items - 1))

  gives : (log : Inside O R) (entry : Entry O R) → IsSound ops replies log → IsKeepable ops replies (owner_in log) entry
      → entry.index ≡ next_index (seen ops replies log)
      → Gives ops replies log (log.heads.items ++ head_of ops replies entry ∷ []) (joined (details_in log.stored) (entry_details ops replies entry)) entry
  gives log entry sound keeps at = record {
    entries = entries_back-push ops replies (owner_in log) log.first log.heads.items (details_in log.stored) entry sound.whole keeps (at ∙ ap (λ n. log.first + n) (length_seen log));
    whole = whole_then ops replies log.heads.items (details_in log.stored) entry keeps.packed sound.whole;
  }

  pub call_pushed :
      (log : Inside O R) (stamp object row cell : ℕ) (generation : Option ℕ) (op : O) (reply : R) (head : Head) (heads : List Head) (between details : Details)
      → IsSound ops replies log → object < OBJECTS → IsPacked ops op → IsReplyPacked replies reply
      → head ≡ head_of ops replies (call_entry (seen ops replies log) stamp object row cell generation op reply)
      → heads ≡ log.heads.items ++ head ∷ []
      → between ≡ joined (details_in log.stored) (details_of ops op)
      → details ≡ joined between (details_of replies reply)
      → Gives ops replies log heads details (call_entry (seen ops replies log) stamp object row cell generation op reply)
  call_pushed log stamp object row cell generation op reply head heads between details sound few asked told own more first second =
      let entry = call_entry (seen ops replies log) stamp object row cell generation op reply in
      let keeps : IsKeepable ops replies (owner_in log) entry = record { caller = refl; proc = refl; few = few; packed = record { act = asked; answer = told; pair = refl } } in
      let due : joined (details_in log.stored) (entry_details ops replies entry) ≡ details =
      sym (second ∙ ap (λ d. joined d (details_of replies reply)) first ∙ joined_assoc (details_in log.stored) (details_of ops op) (details_of replies reply)) in
      let longer : log.heads.items ++ head_of ops replies entry ∷ [] ≡ heads = sym (more ∙ ap (λ h. log.heads.items ++ h ∷ []) own) in
      subst (λ d. Gives ops replies log heads d entry) due
      (subst (λ hs. Gives ops replies log hs (joined (details_in log.stored) (entry_details ops replies entry)) entry) longer (gives log entry sound keeps refl))

  -- no swap has details
  swap_plain : (to : To) (act : Act O) (answer : Answer R) → act ≡ Swap to → is_call act ≡ is_reply answer
      → joined (act_details ops act) (answer_details replies answer) ≡ no_details
  swap_plain to act (Replied reply) is pair = absurd (let call = sym (ap is_call is) ∙ pair in cc)
  swap_plain to act (Swapped number) is pair = ap (λ a. joined (act_details ops a) no_details) is
  swap_plain to act (Busy number) is pair = ap (λ a. joined (act_details ops a) no_details) is
  swap_plain to act Spent is pair = ap (λ a. joined (act_details ops a) no_details) is
  swap_plain to act Gone is pair = ap (λ a. joined (act_details ops a) no_details) is
  swap_plain to act (Abandoned number) is pair = ap (λ a. joined (act_details ops a) no_details) is

  -- nor is anything of it packed
  swap_packed : (answer : Answer R) → is_reply answer ≡ false → IsPackedAnswer replies answer
  swap_packed (Replied reply) is = absurd (cc is)
  swap_packed (Swapped number) is = tt
  swap_packed (Busy number) is = tt
  swap_packed Spent is = tt
  swap_packed Gone is = tt
  swap_packed (Abandoned number) is = tt

  -- the head of a swap
  abbrev pub swap_head : Entry O R → To → Head
  swap_head entry to = record {
    stamp = entry.stamp;
    incarnation = entry.incarnation;
    generation = generation_or_0 entry.generation;
    small = answer_small entry.answer;
    place = place_of entry.cell entry.object entry.generation;
    act = to_name to;
    answer = end_name (is_layout to) entry.answer;
  }

  swap_head_with : (entry : Entry O R) (to : To) (answer : Answer R) → entry.answer ≡ answer → is_reply answer ≡ false
      → swap_head entry to ≡ head_with ops replies entry (Swap to) answer
  swap_head_with entry to (Replied reply) is swap = absurd (cc swap)
  swap_head_with entry to (Swapped number) is swap = ap (λ (a : Answer R). swap_head (record entry { answer = a }) to) is
  swap_head_with entry to (Busy number) is swap = ap (λ (a : Answer R). swap_head (record entry { answer = a }) to) is
  swap_head_with entry to Spent is swap = ap (λ (a : Answer R). swap_head (record entry { answer = a }) to) is
  swap_head_with entry to Gone is swap = ap (λ (a : Answer R). swap_head (record entry { answer = a }) to) is
  swap_head_with entry to (Abandoned number) is swap = ap (λ (a : Answer R). swap_head (record entry { answer = a }) to) is

  swap_unanswered : (entry : Entry O R) (to : To) → entry.act ≡ Swap to → is_call entry.act ≡ is_reply entry.answer → is_reply entry.answer ≡ false
  swap_unanswered entry to is pair = sym pair ∙ ap is_call is

  swap_head_is : (entry : Entry O R) (to : To) → entry.act ≡ Swap to → is_call entry.act ≡ is_reply entry.answer → swap_head entry to ≡ head_of ops replies entry
  swap_head_is entry to is pair =
      swap_head_with entry to entry.answer refl (swap_unanswered entry to is pair)
      ∙ ap (λ (act : Act O). head_with ops replies entry act entry.answer) (sym is)

  pub swap_pushed : (log : Inside O R) (entry : Entry O R) (to : To) (head : Head) (heads : List Head)
      → IsSound ops replies log → IsNextOf (seen ops replies log) entry → entry.act ≡ Swap to → head ≡ swap_head entry to → heads ≡ log.heads.items ++ head ∷ []
      → Gives ops replies log heads (details_in log.stored) entry
  swap_pushed log entry to head heads sound next is own more =
      let keeps : IsKeepable ops replies (owner_in log) entry = record {
        caller = next.caller;
        proc = next.proc;
        few = next.object;
        packed = record {
          act = subst (IsPackedAct ops) (sym is) tt;
          answer = swap_packed entry.answer (swap_unanswered entry to is next.answered);
          pair = next.answered;
        };
      } in
      let due : joined (details_in log.stored) (entry_details ops replies entry) ≡ details_in log.stored =
      ap (joined (details_in log.stored)) (swap_plain to entry.act entry.answer is next.answered) ∙ joined-none (details_in log.stored) in
      let longer : log.heads.items ++ head_of ops replies entry ∷ [] ≡ heads = sym (more ∙ ap (λ h. log.heads.items ++ h ∷ []) (own ∙ swap_head_is entry to is next.answered)) in
      subst (λ d. Gives ops replies log heads d entry) due
      (subst (λ hs. Gives ops replies log hs (joined (details_in log.stored) (entry_details ops replies entry)) entry) longer (gives log entry sound keeps next.index))

  pub room_pushed : (log new : Inside O R) (head : Head) (act answer : Size) → IsNoMoreThan act ops.most → IsNoMoreThan answer replies.most
      → new.heads.items ≡ log.heads.items ++ head ∷ [] → vec_capacity new.heads ≡ vec_capacity log.heads
      → spare_in new.stored ≡ less_by (less_by (spare_in log.stored) act) answer
      → room_in ops replies log ≤ room_in ops replies new + 1
  room_pushed log new head act answer one two more same less =
      let left : entries_fitting (over_most ops replies) (spare_in log.stored) ≤ entries_fitting (over_most ops replies) (spare_in new.stored) + 1 =
      subst (λ s. entries_fitting (over_most ops replies) (spare_in log.stored) ≤ entries_fitting (over_most ops replies) s + 1) (sym less)
      (room_left ops replies (spare_in log.stored) act answer one two) in
      let longer = ap length more ∙ length-append log.heads.items (head ∷ []) in
      let heads : vec_capacity log.heads - length log.heads.items - 1 ≡ vec_capacity new.heads - length new.heads.items = omega arith in
      subst (λ n. room_in ops replies log ≤ min n (entries_fitting (over_most ops replies) (spare_in new.stored)) + 1) heads (least_room _ _ _ left)

  pub fits_pushed : (log : Inside O R) (head : Head) (heads : List Head) → next_index (seen ops replies log) < PASS_ENTRIES
      → heads ≡ log.heads.items ++ head ∷ [] → log.first + length heads < 2 ^ 64
  fits_pushed log head heads few more =
      let long = length_seen log in
      let longer = ap length more ∙ length-append log.heads.items (head ∷ []) in
      omega arith
