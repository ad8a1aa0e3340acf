use Rattle.std.proofs.Common.{◌≡◌, List, ℕ, length, take, sym, ◌∙◌, ap, arith}
use Rattle.std.proofs.lemmas.List.{take_all}
use Rattle.record_text.specs.Reading.{reading}
use Rattle.script_text.specs.Lines.{lines_of}
use Rattle.k42_input.specs.Separation.{record_part}
use Rattle.k42_input.specs.Verdicts.{input_limit, line_refused, spelling_rule}
use Rattle.k42_input.specs.declared.verdict.Verdict.TheVariants.{Unlawful}
use Rattle.k42_input.proofs.judging.record_in.Goals as goal

pub returns-then-input-gt-INPUT_BYTES : goal.returns-then-input-gt-INPUT_BYTES
returns-then-input-gt-INPUT_BYTES c =
    let input = c.args.input.now in
    let text = c.args.text.now in
    let script = c.args.script.now in
    let read : text ≡ record_part (take input_limit input) = c.requires.part ∙ ap record_part (sym (take_all input_limit input c.requires.read)) in
    record {
      whole = λ short. absurd (omega (arith, short, c.if-input-gt-INPUT_BYTES.true));
      too_long = λ long. ap (λ (line : ℕ). Unlawful line spelling_rule) (c.in_ok-line.ensures ∙ ap (λ (part : List ℕ). line_refused (reading script part) (length (lines_of part))) read);
    }
