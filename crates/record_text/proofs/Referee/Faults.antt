-- Which rule a line breaks first.
use Rattle.std.proofs.Common.{◌≡◌, ℕ, ◌+◌, List, length, take, drop, refl, sym, ap, ◌∙◌, subst, inl, inr, ◌⊎◌}
use Rattle.std.specs.Prelude.{Some, slice_get}
use Rattle.std.proofs.lemmas.Option.{same_Some}
use Rattle.k42_kinds.specs.declared.operation.Op.{Op}
use Rattle.k42_kinds.specs.declared.operation.Reply.{Reply}
use Rattle.k42_kinds.specs.declared.entry.Act.{Act}
use Rattle.k42_kinds.specs.declared.entry.Act.TheVariants.{Call, Swap}
use Rattle.k42_kinds.specs.declared.entry.Answer.{Answer}
use Rattle.k42_kinds.specs.declared.entry.Answer.TheVariants.{Replied, Swapped, Busy, Spent, Gone, Abandoned}
use Rattle.script_text.specs.declared.script.Script.{Script}
use Rattle.record_text.specs.Rules.{Rule, Stamps, Order, Calls, Swaps, Refusals, Generations, rule_number, all_rules, rule_of_answer, rule_of_act, IsLegalLine, IsNextLine, KeepsGenerations, Keeps, KeepsAt, BreaksFirst}
use Rattle.record_text.specs.declared.record.RecordLine.{RecordLine}

end_rules : (answer : Answer Reply) → (rule_of_answer answer ≡ Swaps) ⊎ (rule_of_answer answer ≡ Refusals)
end_rules (Replied reply) = inl refl
end_rules (Swapped number) = inl refl
end_rules (Busy number) = inr refl
end_rules Spent = inl refl
end_rules Gone = inl refl
end_rules (Abandoned number) = inl refl

pub act_rules : (act : Act Op) (answer : Answer Reply) → (rule_of_act act answer ≡ Calls) ⊎ ((rule_of_act act answer ≡ Swaps) ⊎ (rule_of_act act answer ≡ Refusals))
act_rules (Call op) answer = inl refl
act_rules (Swap to) answer = inr (end_rules answer)

module _ (script : Script) (lines : List RecordLine) (place : ℕ) (line : RecordLine) (there : slice_get lines place ≡ Some line) where
  -- the line keeps the rule, or breaks it, and so does the record at its place
  pub keeps_at : (rule : Rule) → Keeps script (take place lines) line (drop (place + 1) lines) rule → KeepsAt script lines place rule
  keeps_at rule keeps other here = subst (λ (l : RecordLine). Keeps script (take place lines) l (drop (place + 1) lines) rule) (same_Some line other (sym there ∙ here)) keeps

  breaks_at : (rule : Rule) → (Keeps script (take place lines) line (drop (place + 1) lines) rule → ⊥) → KeepsAt script lines place rule → ⊥
  breaks_at rule breaks keeps = breaks (keeps line there)

  abbrev pub FirstBroken : ℕ → Type 0
  FirstBroken number = BreaksFirst (KeepsAt script lines place) all_rules number

  pub stamp_broken : (line.stamp ≡ length (take place lines) + 1 → ⊥) → FirstBroken 2
  stamp_broken breaks = inl (refl, breaks_at Stamps breaks)

  module _ (stamped : line.stamp ≡ length (take place lines) + 1) where
    pub order_broken : (IsNextLine script (take place lines) line → ⊥) → FirstBroken 8
    order_broken breaks = inr (keeps_at Stamps stamped, inl (refl, breaks_at Order breaks))

    module _ (next : IsNextLine script (take place lines) line) where
      abbrev Legal : Type 0
      Legal = IsLegalLine script (take place lines) line (drop (place + 1) lines)

      other_rule : (rule spoken : Rule) → rule_of_act line.act line.answer ≡ spoken → (spoken ≡ rule → ⊥) → (rule_of_act line.act line.answer ≡ rule → Legal)
      other_rule rule spoken is apart same = absurd (apart (sym is ∙ same))

      -- the rule that speaks of the line is the first that it breaks
      pub legal_broken : (Legal → ⊥) → FirstBroken (rule_number (rule_of_act line.act line.answer))
      legal_broken illegal = elim (act_rules line.act line.answer) [
        | inl is ↦ inr (keeps_at Stamps stamped, inr (keeps_at Order next, inl (ap rule_number is, breaks_at Calls (λ keeps. illegal (keeps is)))))
        | inr (inl is) ↦ inr (keeps_at Stamps stamped, inr (keeps_at Order next, inr (keeps_at Calls (other_rule Calls Swaps is (λ e. cc e)), inl (ap rule_number is, breaks_at Swaps (λ keeps. illegal (keeps is))))))
        | inr (inr is) ↦ inr (keeps_at Stamps stamped, inr (keeps_at Order next, inr (keeps_at Calls (other_rule Calls Refusals is (λ e. cc e)), inr (keeps_at Swaps (other_rule Swaps Refusals is (λ e. cc e)), inl (ap rule_number is, breaks_at Refusals (λ keeps. illegal (keeps is)))))))
      ]

      module _ (legal : Legal) where
        pub generation_broken : (KeepsGenerations script (take place lines) line → ⊥) → FirstBroken 21
        generation_broken breaks = inr (keeps_at Stamps stamped, inr (keeps_at Order next, inr (keeps_at Calls (λ _. legal), inr (keeps_at Swaps (λ _. legal), inr (keeps_at Refusals (λ _. legal), inl (refl, breaks_at Generations breaks))))))

        pub all_kept : KeepsGenerations script (take place lines) line → (rule : Rule) → KeepsAt script lines place rule
        all_kept told Stamps = keeps_at Stamps stamped
        all_kept told Order = keeps_at Order next
        all_kept told Calls = keeps_at Calls (λ _. legal)
        all_kept told Swaps = keeps_at Swaps (λ _. legal)
        all_kept told Refusals = keeps_at Refusals (λ _. legal)
        all_kept told Generations = keeps_at Generations told
