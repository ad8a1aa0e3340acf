-- The verdict on a record, in words.
use Rattle.std.specs.Prelude.{ℕ, ◌==◌, if◌then◌else◌, List, [], ◌++◌, codes}
use Rattle.record_picture.specs.Pieces.{numbered}
use Rattle.record_picture.specs.declared.verdict.Verdict.{Verdict}
use Rattle.record_picture.specs.declared.verdict.Verdict.TheVariants.{Lawful, Unlawful}

-- what is wrong with a line that breaks the rule of this number
abbrev pub rule_words : ℕ → List ℕ
rule_words rule =
    if rule == 2 then codes ", the stamp is not the number of the entry"
    else if rule == 8 then codes ", not the next line of its worker, or lines are missing at the end"
    else if rule == 5 then codes ", the object would not have replied so"
    else if rule == 6 then codes ", the swap would not have been answered so"
    else if rule == 7 then codes ", no such swap of another worker was under way"
    else if rule == 21 then codes ", not the processor of the worker, or the generation is out of step"
    else []

-- `lawful N`, or `line N: rule R` and the rule in words
abbrev pub verdict_text : Verdict → ℕ → List ℕ
verdict_text Lawful entries = numbered (codes "lawful ") entries
verdict_text (Unlawful line rule) entries =
    numbered (codes "line ") line ++ numbered (codes ": rule ") rule ++ rule_words rule
