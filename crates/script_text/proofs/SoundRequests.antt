-- What is true of the script after a line that asks something of an object, and after any other.
use Rattle.std.proofs.Common.{◌≡◌, ℕ, ◌+◌, ◌<◌, Bool, true, false, not, ◌&&◌, ◌⊎◌, inl, inr, List, length, get_or, refl, subst, arith}
use Rattle.std.specs.Prelude.{Option, Some, None, slice_get}
use Rattle.std.specs.Str.{bytes_eq}
use Rattle.std.proofs.lemmas.Bool.{not-false}
use Rattle.std.proofs.lemmas.Bool.Decides.{nat_tests}
use Rattle.std.proofs.lemmas.List.{length-map}
use Rattle.std.proofs.lemmas.List.Quantifiers.{position-Some}
use Rattle.std.proofs.lemmas.Option.{same_Some, none-some, slice_get-get_or}
use Rattle.k42_kinds.specs.declared.operation.KindName.{KindName}
use Rattle.k42_kinds.specs.declared.operation.KindName.TheVariants.{Counter}
use Rattle.k42_kinds.specs.declared.operation.Op.{Op}
use Rattle.k42_kinds.specs.declared.entry.Act.{Act}
use Rattle.k42_kinds.specs.declared.entry.Act.TheVariants as acts
use Rattle.k42_kinds.specs.Watched.{watched_object}
use Rattle.script_text.specs.Language.{act_of, with_call, with_form}
use Rattle.script_text.specs.Lawful.{kinds_of}
use Rattle.script_text.specs.Offences.{object_names, place_among, is_in_block, kind_asked, is_swap, is_another_kind, is_unknown, declares_again, asks_other_kind, is_too_many, breaks_block}
use Rattle.script_text.specs.Sound.{NamesPage, IsActOn, IsCall}
use Rattle.script_text.specs.declared.form.Form.{Form}
use Rattle.script_text.specs.declared.form.Form.TheVariants as forms
use Rattle.script_text.specs.declared.form.Request.{Request}
use Rattle.script_text.specs.declared.form.Request.TheVariants.{Swap, Add, Get, Drain, Bind, Find, Unbind, Size, Write, Read, Dirty, Clean, Seen}
use Rattle.script_text.specs.declared.script.Item.TheVariants.{Begin, End, Line}
use Rattle.script_text.specs.declared.script.ObjectLine.{ObjectLine}
use Rattle.script_text.specs.declared.script.Script.{Script}
use Rattle.script_text.proofs.SoundForms.{HasNamed, IsFormed, IsProcs}
use Rattle.script_text.proofs.SoundSteps.{IsSoundSoFar, same_script, keeps_procs, keeps_object, keeps_worker, keeps_item}

-- An act may be asked of an object of this kind, where its request does not ask for another kind.
module _ (kind : KindName) (act : Act Op) where
  called : (op : Op) → Some (acts.Call op) ≡ Some act → not ((watched_object kind).takes op) ≡ false → NamesPage op → IsActOn kind act
  called op spells takes page = subst (IsActOn kind) (same_Some (acts.Call op) act spells) (not-false ((watched_object kind).takes op) takes, page)

  act_of-asked : (request : Request) → act_of request ≡ Some act → HasNamed request → is_another_kind (kind_asked request) (Some kind) ≡ false → IsActOn kind act
  act_of-asked (Swap to) spells page same = subst (IsActOn kind) (same_Some (acts.Swap to) act spells) page
  act_of-asked (Add None) spells page same = absurd (none-some act spells)
  act_of-asked (Add (Some amount)) spells page same = called _ spells same tt
  act_of-asked Get spells page same = called _ spells same tt
  act_of-asked Drain spells page same = called _ spells same tt
  act_of-asked (Bind None None) spells page same = absurd (none-some act spells)
  act_of-asked (Bind None (Some number)) spells page same = absurd (none-some act spells)
  act_of-asked (Bind (Some key) None) spells page same = absurd (none-some act spells)
  act_of-asked (Bind (Some key) (Some number)) spells page same = called _ spells same tt
  act_of-asked (Find None) spells page same = absurd (none-some act spells)
  act_of-asked (Find (Some key)) spells page same = called _ spells same tt
  act_of-asked (Unbind None) spells page same = absurd (none-some act spells)
  act_of-asked (Unbind (Some key)) spells page same = called _ spells same tt
  act_of-asked Size spells page same = called _ spells same tt
  act_of-asked (Write None None) spells page same = absurd (none-some act spells)
  act_of-asked (Write None (Some text)) spells page same = absurd (none-some act spells)
  act_of-asked (Write (Some number) None) spells page same = absurd (none-some act spells)
  act_of-asked (Write (Some number) (Some text)) spells page same = called _ spells same page
  act_of-asked (Read None) spells page same = absurd (none-some act spells)
  act_of-asked (Read (Some number)) spells page same = called _ spells same page
  act_of-asked Dirty spells page same = called _ spells same tt
  act_of-asked Clean spells page same = called _ spells same tt
  act_of-asked Seen spells page same = called _ spells refl tt

-- a request that is no swap spells a call
swap_or_call : (request : Request) (act : Act Op) → act_of request ≡ Some act → (is_swap request ≡ true) ⊎ IsCall act
swap_or_call (Swap to) act spells = inl refl
swap_or_call (Add None) act spells = absurd (none-some act spells)
swap_or_call (Add (Some amount)) act spells = inr (subst IsCall (same_Some _ act spells) tt)
swap_or_call Get act spells = inr (subst IsCall (same_Some _ act spells) tt)
swap_or_call Drain act spells = inr (subst IsCall (same_Some _ act spells) tt)
swap_or_call (Bind None None) act spells = absurd (none-some act spells)
swap_or_call (Bind None (Some number)) act spells = absurd (none-some act spells)
swap_or_call (Bind (Some key) None) act spells = absurd (none-some act spells)
swap_or_call (Bind (Some key) (Some number)) act spells = inr (subst IsCall (same_Some _ act spells) tt)
swap_or_call (Find None) act spells = absurd (none-some act spells)
swap_or_call (Find (Some key)) act spells = inr (subst IsCall (same_Some _ act spells) tt)
swap_or_call (Unbind None) act spells = absurd (none-some act spells)
swap_or_call (Unbind (Some key)) act spells = inr (subst IsCall (same_Some _ act spells) tt)
swap_or_call Size act spells = inr (subst IsCall (same_Some _ act spells) tt)
swap_or_call (Write None None) act spells = absurd (none-some act spells)
swap_or_call (Write None (Some text)) act spells = absurd (none-some act spells)
swap_or_call (Write (Some number) None) act spells = absurd (none-some act spells)
swap_or_call (Write (Some number) (Some text)) act spells = inr (subst IsCall (same_Some _ act spells) tt)
swap_or_call (Read None) act spells = absurd (none-some act spells)
swap_or_call (Read (Some number)) act spells = inr (subst IsCall (same_Some _ act spells) tt)
swap_or_call Dirty act spells = inr (subst IsCall (same_Some _ act spells) tt)
swap_or_call Clean act spells = inr (subst IsCall (same_Some _ act spells) tt)
swap_or_call Seen act spells = inr (subst IsCall (same_Some _ act spells) tt)

-- in an activity, a request that breaks no block spells a call
call_in_block : (in_block swap : Bool) (act : Act Op) → (swap ≡ true) ⊎ IsCall act → (in_block && swap) ≡ false → in_block ≡ true → IsCall act
call_in_block in_block swap act (inl is_swap) kept inside = absurd cc
call_in_block in_block swap act (inr is_call) kept inside = is_call

-- an `end` that breaks no block stands in an activity
open_at_end : (in_block : Bool) → not in_block ≡ false → in_block ≡ true
open_at_end true kept = refl
open_at_end false kept = cc

-- a name that is among these has its place among them
place_among-lt : (names : List (List ℕ)) (name : Option (List ℕ)) (place : ℕ) → place_among names name ≡ Some place → place < length names
place_among-lt names None place there = absurd (none-some place there)
place_among-lt names (Some name) place there = (position-Some (bytes_eq name) names place name there).0

-- what no test refuses in a line of this form
pub record Passes (script : Script) (form : Form) : Type 0 where
  pub known : is_unknown script (Some form) ≡ false
  pub new : declares_again script form ≡ false
  pub own_kind : asks_other_kind script form ≡ false
  pub few : is_too_many script form ≡ false
  pub in_place : breaks_block script form ≡ false

module _ (next : ℕ) (script : Script) (sound : IsSoundSoFar next script) (some : script.procs ≡ 0 → ⊥) (object : Option (List ℕ)) (request : Request) (page : HasNamed request) (passes : Passes script (forms.Asks object request)) where
  keeps_call : (place : Option ℕ) (act : Option (Act Op)) → place_among (object_names script) object ≡ place → act_of request ≡ act → IsSoundSoFar (next + 1) (with_call script next place act)
  keeps_call None None found spells = same_script next script sound
  keeps_call None (Some act) found spells = same_script next script sound
  keeps_call (Some place) None found spells = same_script next script sound
  keeps_call (Some place) (Some act) found spells =
      let within : place < length (kinds_of script) = omega (arith, place_among-lt (object_names script) object place found, length-map script.objects (λ (line : ObjectLine). line.name), length-map script.objects (λ (line : ObjectLine). line.kind)) in
      let kind : KindName = get_or (kinds_of script) place Counter in
      let declared : slice_get (kinds_of script) place ≡ Some kind = slice_get-get_or (kinds_of script) place Counter within in
      let own : is_another_kind (kind_asked request) (Some kind) ≡ false = rw (found, declared) at passes.own_kind in
      keeps_item next script sound (Line (record { line = next; object = place; act = act })) some
      (record { kind = kind; declared = declared; asked = act_of-asked kind act request spells page own }, refl)
      (call_in_block (is_in_block script) (is_swap request) act (swap_or_call request act spells) passes.in_place, refl)
      (grind (arith, nat_tests, passes.few))

module _ (next : ℕ) (script : Script) (sound : IsSoundSoFar next script) where
  -- a line that is not refused
  pub keeps_form : (form : Form) → (script.procs ≡ 0 → IsProcs form) → IsFormed script.procs form → Passes script form → IsSoundSoFar (next + 1) (with_form script next form)
  keeps_form (forms.Procs None) start formed passes = same_script next script sound
  keeps_form (forms.Procs (Some procs)) start formed passes = keeps_procs next script sound procs (grind (arith, nat_tests, passes.known)) formed
  keeps_form (forms.Object None kind layout) start formed passes = same_script next script sound
  keeps_form (forms.Object (Some name) kind layout) start formed passes =
      keeps_object next script sound (record { name = name; kind = kind; layout = layout }) start formed passes.new (grind (arith, nat_tests, passes.few))
  keeps_form (forms.Worker None None) start formed passes = same_script next script sound
  keeps_form (forms.Worker None (Some proc)) start formed passes = same_script next script sound
  keeps_form (forms.Worker (Some name) None) start formed passes = same_script next script sound
  keeps_form (forms.Worker (Some name) (Some proc)) start formed passes =
      keeps_worker next script sound (record { name = name; proc = proc }) start formed.0 formed.1 passes.new (grind (arith, nat_tests, passes.few)) passes.in_place
  keeps_form forms.Begin start formed passes = keeps_item next script sound Begin start tt (passes.in_place, refl) (omega (arith, sound.few))
  keeps_form forms.End start formed passes = keeps_item next script sound End start tt (open_at_end (is_in_block script) passes.in_place, refl) (omega (arith, sound.few))
  keeps_form (forms.Asks object request) start formed passes =
      keeps_call next script sound start object request formed passes (place_among (object_names script) object) (act_of request) refl refl
