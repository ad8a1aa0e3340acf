-- Which layouts the lines of a script name, and how: accepted and refused.
use Rattle.std.proofs.Common.{◌≡◌, ℕ, List, [], ◌∷◌, refl, arith}
use Rattle.std.specs.Prelude.{Option, Some, None, codes}
use Rattle.k42_kinds.specs.declared.operation.KindName.{KindName}
use Rattle.k42_kinds.specs.declared.entry.Act.TheVariants as acts
use Rattle.k42_kinds.specs.declared.entry.To.TheVariants.{Layout}
use Rattle.script_text.specs.Acts.{act_tokens}
use Rattle.script_text.specs.Forms.{form_of}
use Rattle.script_text.specs.Sound.{IsActOn}
use Rattle.script_text.specs.declared.form.Form.{Form}
use Rattle.script_text.specs.declared.form.Form.TheVariants as forms
use Rattle.script_text.specs.declared.form.Request.TheVariants.{Swap}

abbrev said : List ℕ → Option Form
said layout = form_of 1 (codes "swap" ∷ codes "hits" ∷ layout ∷ [])

abbrev swaps_to : ℕ → Option Form
swaps_to number = Some (forms.Asks (Some (codes "hits")) (Swap (Layout number)))

-- the first two layouts are named by their words, and none by its number
shared_is_first : said (codes "shared") ≡ swaps_to 0
shared_is_first = refl

spread_is_second : said (codes "spread") ≡ swaps_to 1
spread_is_second = refl

no_number : said (codes "1") ≡ None
no_number = refl

spelled_by_its_word : act_tokens (codes "hits") (acts.Swap (Layout 1)) ≡ codes "swap" ∷ codes "hits" ∷ codes "spread" ∷ []
spelled_by_its_word = refl

-- an object of every kind may be swapped to these two, and a swap to a third is no act of a script
second_of_each : (kind : KindName) → IsActOn kind (acts.Swap (Layout 1))
second_of_each kind = omega arith

third_of_each : (kind : KindName) → IsActOn kind (acts.Swap (Layout 2)) → ⊥
third_of_each kind asked = omega (arith, asked)
