-- How a history is shown to be legal: entry by entry from the front, and by one more entry at its end.
use Rattle.std.proofs.Common.{◌≡◌, ℕ, ◌+◌, ◌≤◌, List, [], ◌∷◌, ◌++◌, length, slice_get, All, Some, refl, subst}
use Rattle.std.proofs.lemmas.List.{append_assoc}
use Rattle.std.proofs.lemmas.List.Elements.{All-push}
use Rattle.std.proofs.lemmas.Option.{same_Some}
use Rattle.k42_kinds.specs.declared.operation.KindName.{KindName}
use Rattle.k42_kinds.specs.declared.operation.Op.{Op}
use Rattle.k42_kinds.specs.declared.operation.Reply.{Reply}
use Rattle.k42_kinds.specs.declared.entry.Act.{Act}
use Rattle.k42_kinds.specs.declared.entry.Act.TheVariants.{Call, Swap}
use Rattle.k42_kinds.specs.declared.entry.To.{To}
use Rattle.k42_kinds.specs.declared.entry.Answer.{Answer}
use Rattle.k42_kinds.specs.declared.entry.Answer.TheVariants.{Replied, Swapped, Busy, Spent, Gone, Abandoned}
use Rattle.k42_kinds.specs.declared.entry.Entry.{Entry}
use Rattle.k42_kinds.specs.Legal.{IsLegalHistory, IsLegalAmong, IsLegal, IsLegalAct, IsLegalAnswer, IsLegalRefusal, IsOwn, IsRival, IsTimely}
use Rattle.k42_kinds.proofs.Splits.{EachBehind, each_split, each_split-push, All-at_split, Any-append_left}

-- each stamp is one more than the number of entries before it
abbrev pub AreNumbered : {O R : Type 0} → List (Entry O R) → List (Entry O R) → Type 0
AreNumbered front entries = EachBehind (λ before entry after. entry.stamp ≡ length before + 1) front entries

-- each entry is legal behind the front and the entries before it
abbrev pub AreLegal : List KindName → List (Entry Op Reply) → List (Entry Op Reply) → Type 0
AreLegal kinds front entries = EachBehind (IsLegalAmong kinds) front entries

pub legal_history : (kinds : List KindName) (history : List (Entry Op Reply)) → AreNumbered [] history → AreLegal kinds [] history → IsLegalHistory kinds history
legal_history kinds history numbered legal = record {
  numbered = each_split (λ before entry after. entry.stamp ≡ length before + 1) [] history numbered;
  legal = each_split (IsLegalAmong kinds) [] history legal;
}

-- an entry that is legal among declared objects is legal for the kind that its object has
pub legal_at_kind : (kinds : List KindName) (kind : KindName) (before : List (Entry Op Reply)) (entry : Entry Op Reply) (after : List (Entry Op Reply)) → slice_get kinds entry.object ≡ Some kind → IsLegalAmong kinds before entry after → IsLegal kind before entry after
legal_at_kind kinds kind before entry after declared legal = subst (λ (k : KindName). IsLegal k before entry after) (same_Some legal.kind kind (cc (legal.declared, declared))) legal.legal

-- the number of the swap for whose sake the answer refuses, and 0 for any other answer
abbrev pub refused_for : {R : Type 0} → Answer R → ℕ
refused_for (Busy number) = number
refused_for (Abandoned number) = number
refused_for _ = 0

-- the earlier entry was not refused for the sake of a swap that ends a later implementation than this entry's
abbrev pub AllowsLater : {O R : Type 0} → Entry O R → Entry O R → Type 0
AllowsLater entry other = IsOwn other entry → refused_for other.answer ≤ entry.incarnation + 1

module _ (kind : KindName) (before : List (Entry Op Reply)) (entry : Entry Op Reply) (after : List (Entry Op Reply)) (last : Entry Op Reply) where
  timely-push : (number : ℕ) → (IsOwn entry last → number ≤ last.incarnation + 1) → IsTimely before entry after number → IsTimely before entry (after ++ last ∷ []) number
  timely-push number allowed timely = record {
    incarnation = timely.incarnation;
    earlier = timely.earlier;
    later = All-push (λ other. IsOwn entry other → number ≤ other.incarnation + 1) after last timely.later allowed;
  }

  end-push : (answer : Answer Reply) → (IsOwn entry last → refused_for answer ≤ last.incarnation + 1) → IsLegalAnswer kind before entry after answer → IsLegalAnswer kind before entry (after ++ last ∷ []) answer
  end-push (Swapped number) allowed legal = legal
  end-push Spent allowed legal = legal
  end-push Gone allowed legal = legal
  end-push (Busy number) allowed legal = record {
    timely = timely-push number allowed legal.timely;
    rival = rw (← append_assoc before after (last ∷ [])) (Any-append_left (IsRival entry number) (before ++ after) (last ∷ []) legal.rival);
  }
  end-push (Abandoned number) allowed legal = timely-push number allowed legal
  end-push (Replied reply) allowed legal = legal

  act-push : (act : Act Op) → AllowsLater last entry → IsLegalAct kind before entry after act → IsLegalAct kind before entry (after ++ last ∷ []) act
  act-push (Call op) allowed legal = legal
  act-push (Swap to) allowed legal = end-push entry.answer allowed legal

-- A legal history and one more entry that is legal behind it are a legal history, if the entry has the next stamp
-- and no earlier refusal forbids it.
pub legal-push : (kinds : List KindName) (history : List (Entry Op Reply)) (last : Entry Op Reply) → IsLegalHistory kinds history → last.stamp ≡ length history + 1 → IsLegalAmong kinds history last [] → All (AllowsLater last) history → IsLegalHistory kinds (history ++ last ∷ [])
legal-push kinds history last legal next here allowed = record {
  numbered = each_split-push (λ before entry after. entry.stamp ≡ length before + 1) history last legal.numbered next;
  legal = each_split-push (IsLegalAmong kinds) history last (λ before entry after e.
      let was = legal.legal before entry after e in
      record {
        kind = was.kind;
        declared = was.declared;
        legal = act-push was.kind before entry after last entry.act (All-at_split (AllowsLater last) history allowed before entry after e) was.legal;
      }) here;
}

-- a history is not legal if one of its entries is not
pub illegal_at : (kinds : List KindName) (kind : KindName) (before : List (Entry Op Reply)) (entry : Entry Op Reply) (after : List (Entry Op Reply)) → slice_get kinds entry.object ≡ Some kind → (IsLegal kind before entry after → ⊥) → IsLegalHistory kinds (before ++ entry ∷ after) → ⊥
illegal_at kinds kind before entry after declared illegal history = illegal (legal_at_kind kinds kind before entry after declared (history.legal before entry after refl))

-- what a refused swap has, seen from its entry
pub refusal_of_swap : (kind : KindName) (before : List (Entry Op Reply)) (entry : Entry Op Reply) (after : List (Entry Op Reply)) (to : To) (number : ℕ) → entry.act ≡ Swap to → entry.answer ≡ Busy number → IsLegal kind before entry after → IsLegalRefusal before entry after number
refusal_of_swap kind before entry after to number act answer legal =
    subst (λ (a : Answer Reply). IsLegalAnswer kind before entry after a) answer (subst (λ (a : Act Op). IsLegalAct kind before entry after a) act legal)
