-- Lines that place a layer, take it away or ask for its count: what they say, of which objects they may ask it, and
-- whether they may stand in an activity.
use Rattle.std.proofs.Common.{◌≡◌, ℕ, true, List, [], ◌∷◌, refl}
use Rattle.std.proofs.lemmas.Bool.{false≢true}
use Rattle.std.specs.Prelude.{Option, Some, None, codes}
use Rattle.k42_kinds.specs.declared.operation.Op.{Op}
use Rattle.k42_kinds.specs.declared.entry.Act.{Act}
use Rattle.k42_kinds.specs.declared.entry.Act.TheVariants as acts
use Rattle.k42_kinds.specs.declared.entry.To.TheVariants.{Watch, Unwatch}
use Rattle.k42_kinds.specs.declared.operation.KindName.{KindName}
use Rattle.k42_kinds.specs.declared.operation.KindName.TheVariants.{Counter}
use Rattle.k42_kinds.specs.declared.operation.Op.TheVariants as operations
use Rattle.script_text.specs.Forms.{form_of}
use Rattle.script_text.specs.Sound.{IsActOn, BlocksMatch}
use Rattle.script_text.specs.declared.form.Form.{Form}
use Rattle.script_text.specs.declared.form.Form.TheVariants as forms
use Rattle.script_text.specs.declared.form.Request.TheVariants.{Swap, Seen}
use Rattle.script_text.specs.declared.script.Item.{Item}
use Rattle.script_text.specs.declared.script.Item.TheVariants.{Line}

abbrev said : List (List ℕ) → Option Form
said tokens = form_of 1 tokens

a_watch : said (codes "watch" ∷ codes "hits" ∷ []) ≡ Some (forms.Asks (Some (codes "hits")) (Swap Watch))
a_watch = refl

an_unwatch : said (codes "unwatch" ∷ codes "hits" ∷ []) ≡ Some (forms.Asks (Some (codes "hits")) (Swap Unwatch))
an_unwatch = refl

its_count : said (codes "hits" ∷ codes "seen" ∷ []) ≡ Some (forms.Asks (Some (codes "hits")) Seen)
its_count = refl

-- a word too few, one too many, and a watch behind its object
no_object : said (codes "watch" ∷ []) ≡ None
no_object = refl

a_layout_too : said (codes "unwatch" ∷ codes "hits" ∷ codes "spread" ∷ []) ≡ None
a_layout_too = refl

behind_its_object : said (codes "hits" ∷ codes "watch" ∷ []) ≡ None
behind_its_object = refl

-- objects of every kind are watched and asked for the count, and only those of its kind for an operation of one
seen_of_each : (kind : KindName) → IsActOn kind (acts.Call operations.Seen)
seen_of_each kind = (refl, tt)

watch_of_each : (kind : KindName) → IsActOn kind (acts.Swap Watch)
watch_of_each kind = tt

size_of_counter : IsActOn Counter (acts.Call operations.Size) → ⊥
size_of_counter asked = false≢true asked.0

-- the count is asked for in an activity, and no layer is placed or taken away in one
abbrev asks : Act Op → Item
asks act = Line (record { line = 5; object = 0; act = act })

seen_inside : BlocksMatch true (asks (acts.Call operations.Seen) ∷ []) true
seen_inside = (λ inside. tt, refl)

watch_inside : BlocksMatch true (asks (acts.Swap Watch) ∷ []) true → ⊥
watch_inside matched = matched.0 refl

unwatch_inside : BlocksMatch true (asks (acts.Swap Unwatch) ∷ []) true → ⊥
unwatch_inside matched = matched.0 refl
