-- One more head, and the details of its entry behind the others, give one more entry.
use Rattle.std.proofs.Common.{◌≡◌, ◌∙◌, ℕ, suc, ◌+◌, ◌<◌, List, [], ◌∷◌, ◌++◌, length, refl, ap, sym, subst, arith, length-drop}
use Rattle.std.proofs.lemmas.List.Sums.{sum_by-cons}
use Rattle.k42_limits.specs.declared.TheConstants.{OBJECTS}
use Rattle.k42_kinds.specs.declared.entry.Entry.{Entry}
use Rattle.k42_kinds.specs.Packing.{Packing}
use Rattle.k42_log.specs.declared.head.Head.{Head}
use Rattle.k42_log.specs.Details.{Details, HasSoMany, behind, front, joined, no_details}
use Rattle.k42_log.specs.Heads.{FitsAct, FitsAnswer, act_back, act_details, act_size, answer_back, answer_details, answer_size, head_of}
use Rattle.k42_log.specs.Entries.{AreWhole, EachFits, FitsHead, Owner, behind_act, behind_entry, entries_back, entry_back}
use Rattle.k42_log.proofs.Joining.{behind-joined, behind_at, front-joined}
use Rattle.k42_log.proofs.BackAgain.{IsPackedEntry, act_fits, act_sized, answer_fits, entry_again}

-- the entry is one of the owner, and can be kept
pub record IsKeepable {O R : Type 0} (ops : Packing O) (replies : Packing R) (owner : Owner) (entry : Entry O R) : Type 0 where
  pub caller : entry.caller ≡ owner.caller
  pub proc : entry.proc ≡ owner.proc
  pub few : entry.object < OBJECTS
  pub packed : IsPackedEntry ops replies entry

-- without heads there are no details
none_whole : {O R : Type 0} (ops : Packing O) (replies : Packing R) (details : Details) → AreWhole ops replies [] details → details ≡ no_details
none_whole ops replies details whole i = record { words = nothing details.words whole.words i; bytes = nothing details.bytes whole.bytes i } where
  nothing : {A : Type 0} (list : List A) → length list ≡ 0 → list ≡ []
  nothing [] none = refl
  nothing (x ∷ xs) none = cc

module _ {O R : Type 0} (ops : Packing O) (replies : Packing R) where
  abbrev pub entry_details : Entry O R → Details
  entry_details entry = joined (act_details ops entry.act) (answer_details replies entry.answer)

  pub length-entries_back : (owner : Owner) (first : ℕ) (heads : List Head) (details : Details)
      → length (entries_back ops replies owner first heads details) ≡ length heads
  length-entries_back owner first [] details = refl
  length-entries_back owner first (head ∷ heads) details =
      ap (λ n. suc n) (length-entries_back owner (first + 1) heads (behind_entry ops replies head details))

  -- the details of the first entry are there, and those of the others behind them

  pub act_has : (head : Head) (heads : List Head) (details : Details) → AreWhole ops replies (head ∷ heads) details
      → HasSoMany (act_size ops head) details
  act_has head heads details whole = record {
    words = omega (arith, whole.words, sum_by-cons {X = Head});
    bytes = omega (arith, whole.bytes, sum_by-cons {X = Head});
  }

  pub answer_has : (head : Head) (heads : List Head) (details : Details) → AreWhole ops replies (head ∷ heads) details
      → HasSoMany (answer_size replies head) (behind_act ops head details)
  answer_has head heads details whole = record {
    words = omega (arith, whole.words, sum_by-cons {X = Head}, length-drop {A = ℕ});
    bytes = omega (arith, whole.bytes, sum_by-cons {X = Head}, length-drop {A = ℕ});
  }

  -- and may stand behind its labels
  pub head_fits : (head : Head) (heads : List Head) (details : Details) → AreWhole ops replies (head ∷ heads) details → FitsHead ops replies head details
  head_fits head heads details whole = whole.fits.0

  pub rest_whole : (head : Head) (heads : List Head) (details : Details) → AreWhole ops replies (head ∷ heads) details
      → AreWhole ops replies heads (behind_entry ops replies head details)
  rest_whole head heads details whole = record {
    words = omega (arith, whole.words, sum_by-cons {X = Head}, length-drop {A = ℕ});
    bytes = omega (arith, whole.bytes, sum_by-cons {X = Head}, length-drop {A = ℕ});
    fits = whole.fits.1;
  }

  entry_back-joined : (owner : Owner) (index : ℕ) (head : Head) (heads : List Head) (details more : Details)
      → AreWhole ops replies (head ∷ heads) details
      → entry_back ops replies owner index head (joined details more) ≡ entry_back ops replies owner index head details
  entry_back-joined owner index head heads details more whole =
      let here = act_has head heads details whole in
      let asked = ap (act_back ops head) (front-joined (act_size ops head) details more here) in
      let told =
      ap (λ (d : Details). answer_back replies head (front (answer_size replies head) d)) (behind-joined (act_size ops head) details more here)
      ∙ ap (answer_back replies head) (front-joined (answer_size replies head) (behind_act ops head details) more (answer_has head heads details whole)) in
      λ i. record (entry_back ops replies owner index head details) { act = asked i; answer = told i }

  behind_entry-joined :
      (head : Head) (heads : List Head) (details more : Details) → AreWhole ops replies (head ∷ heads) details
      → behind_entry ops replies head (joined details more) ≡ joined (behind_entry ops replies head details) more
  behind_entry-joined head heads details more whole =
      ap (behind (answer_size replies head)) (behind-joined (act_size ops head) details more (act_has head heads details whole))
      ∙ behind-joined (answer_size replies head) (behind_act ops head details) more (answer_has head heads details whole)

  -- what may stand there may stand there with more behind it
  head_fits-joined : (head : Head) (heads : List Head) (details more : Details) → AreWhole ops replies (head ∷ heads) details → FitsHead ops replies head (joined details more)
  head_fits-joined head heads details more whole =
      let here = act_has head heads details whole in
      let asked = front-joined (act_size ops head) details more here in
      let told =
      ap (front (answer_size replies head)) (behind-joined (act_size ops head) details more here)
      ∙ front-joined (answer_size replies head) (behind_act ops head details) more (answer_has head heads details whole) in
      record {
        act = subst (FitsAct ops head) (sym asked) whole.fits.0.act;
        answer = subst (FitsAnswer replies head) (sym told) whole.fits.0.answer;
      }

  -- the details of an entry may stand behind the labels of its own head
  own_fits : (entry : Entry O R) → IsPackedEntry ops replies entry → FitsHead ops replies (head_of ops replies entry) (entry_details entry)
  own_fits entry packed =
      let head = head_of ops replies entry in
      let told = answer_details replies entry.answer in
      let behind_is = behind_at (act_size ops head) (act_details ops entry.act) told (act_sized ops replies entry entry.act entry.answer packed.act packed.answer packed.pair) in
      record {
        act = act_fits ops replies entry entry.act entry.answer told packed.act packed.answer packed.pair;
        answer = subst (λ (d : Details). FitsAnswer replies head (front (answer_size replies head) d)) (sym behind_is) (answer_fits ops replies entry entry.act entry.answer packed.answer);
      }

  pub each_fits-push : (heads : List Head) (details : Details) (entry : Entry O R) → IsPackedEntry ops replies entry → AreWhole ops replies heads details
      → EachFits ops replies (heads ++ head_of ops replies entry ∷ []) (joined details (entry_details entry))
  each_fits-push [] details entry packed whole =
      let none = none_whole ops replies details whole in
      (subst (λ d. FitsHead ops replies (head_of ops replies entry) (joined d (entry_details entry))) (sym none) (own_fits entry packed), tt)
  each_fits-push (head ∷ heads) details entry packed whole = (
    head_fits-joined head heads details (entry_details entry) whole,
    subst (EachFits ops replies (heads ++ head_of ops replies entry ∷ [])) (sym (behind_entry-joined head heads details (entry_details entry) whole))
        (each_fits-push heads (behind_entry ops replies head details) entry packed (rest_whole head heads details whole)),
  )

  pub entries_back-push : (owner : Owner) (first : ℕ) (heads : List Head) (details : Details) (entry : Entry O R)
      → AreWhole ops replies heads details → IsKeepable ops replies owner entry → entry.index ≡ first + length heads
      → entries_back ops replies owner first (heads ++ head_of ops replies entry ∷ []) (joined details (entry_details entry)) ≡ entries_back ops replies owner first heads details ++ entry ∷ []
  entries_back-push owner first [] details entry whole keeps at =
      let here : first ≡ entry.index = omega arith in
      ap (λ d. entries_back ops replies owner first (head_of ops replies entry ∷ []) (joined d (entry_details entry))) (none_whole ops replies details whole)
      ∙ ap (λ n. entry_back ops replies owner n (head_of ops replies entry) (entry_details entry) ∷ []) here
      ∙ ap (λ e. e ∷ []) (entry_again ops replies owner entry keeps.caller keeps.proc keeps.few keeps.packed)
  entries_back-push owner first (head ∷ heads) details entry whole keeps at =
      let more = entry_details entry in
      ap (λ e. e ∷ entries_back ops replies owner (first + 1) (heads ++ head_of ops replies entry ∷ []) (behind_entry ops replies head (joined details more)))
      (entry_back-joined owner first head heads details more whole)
      ∙ ap (λ d. entry_back ops replies owner first head details ∷ entries_back ops replies owner (first + 1) (heads ++ head_of ops replies entry ∷ []) d)
      (behind_entry-joined head heads details more whole)
      ∙ ap (λ es. entry_back ops replies owner first head details ∷ es)
      (entries_back-push owner (first + 1) heads (behind_entry ops replies head details) entry (rest_whole head heads details whole) keeps (omega arith))
