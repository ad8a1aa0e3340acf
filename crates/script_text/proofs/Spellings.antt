-- What a line says, where it is spelled as its form is.
use Rattle.std.proofs.Common.{◌≡◌, ℕ, zero, suc, ◌<◌, ◌≤◌, ◌^◌, true, false, ◌&&◌, eqb, List, [], ◌∷◌, length, refl, sym, ap, ◌∙◌, arith}
use Rattle.std.specs.Prelude.{Option, Some, None, codes, nat_le, nat_lt}
use Rattle.std.specs.List.{AllByRecursion, list_all}
use Rattle.std.specs.Fmt.{decimal}
use Rattle.std.specs.Str.{bytes_eq}
use Rattle.std.proofs.lemmas.Bool.{and_parts, or_parts}
use Rattle.std.proofs.lemmas.Bool.Decides.{nat_tests}
use Rattle.std.proofs.lemmas.Fmt.{decimal_nonempty}
use Rattle.std.proofs.lemmas.Option.{same_Some}
use Rattle.k42_kinds.specs.Words.{is_digit, is_lower, is_visible, continues_name, is_name, is_text}
use Rattle.k42_kinds.specs.declared.entry.Act.{Act}
use Rattle.k42_kinds.specs.declared.entry.Act.TheVariants.{Call, Swap}
use Rattle.k42_kinds.specs.declared.entry.To.TheVariants.{Layout, Dead, Watch, Unwatch}
use Rattle.k42_kinds.specs.declared.operation.KindName.{KindName}
use Rattle.k42_kinds.specs.declared.operation.KindName.TheVariants.{Counter, Directory, Pages}
use Rattle.k42_kinds.specs.declared.operation.LayoutName.{LayoutName}
use Rattle.k42_kinds.specs.declared.operation.LayoutName.TheVariants.{Shared, Spread}
use Rattle.k42_kinds.specs.declared.operation.Op.{Op}
use Rattle.k42_kinds.specs.declared.operation.Op.TheVariants.{Add, Get, Drain, Bind, Find, Unbind, Size, Write, Read, Dirty, Clean, Seen}
use Rattle.k42_limits.specs.declared.TheConstants.{PROCESSORS, PAGES, AMOUNTS}
use Rattle.script_text.specs.Acts.{layout_word, numbered_layout_word, HasWord, operation_word, argument_tokens, act_tokens}
use Rattle.script_text.specs.Forms.{is_reserved, name_of, page_of, page_text_of, kind_named, layout_named, head_of, request_of, form_of}
use Rattle.script_text.specs.Language.{act_of, with_line, with_said, with_object, with_worker, with_last_item}
use Rattle.script_text.specs.Numbers.{number_within, number_below}
use Rattle.script_text.specs.Offences.{object_names, place_among}
use Rattle.script_text.specs.Sound.{IsFreeName}
use Rattle.script_text.specs.Spelled.{spaced, IsToken, IsOpInRange, IsInRange, kind_word, procs_tokens, object_tokens, worker_tokens, begin_tokens, end_tokens}
use Rattle.script_text.specs.Tokens.{is_space, tokens_of, is_remark, says_nothing}
use Rattle.script_text.specs.declared.form.Form.{Form}
use Rattle.script_text.specs.declared.form.Form.TheVariants as forms
use Rattle.script_text.specs.declared.form.Head.TheVariants as heads
use Rattle.script_text.specs.declared.form.Request.{Request}
use Rattle.script_text.specs.declared.form.Request.TheVariants as requests
use Rattle.script_text.specs.declared.script.Item.TheVariants as items
use Rattle.script_text.specs.declared.script.ObjectLine.{ObjectLine}
use Rattle.script_text.specs.declared.script.Script.{Script}
use Rattle.script_text.specs.declared.script.WorkerHead.{WorkerHead}
use Rattle.script_text.proofs.DecimalNumbers.{list_all_digits-decimal, number_of-decimal}
use Rattle.script_text.proofs.SoundForms.{free_name-of_free}
use Rattle.script_text.proofs.Spacing.{tokens_of-spaced, list_any_no_space}

-- a line that is spelled with one space between each two tokens says what they say
pub with_line-spaced : (script : Script) (number : ℕ) (tokens : List (List ℕ)) → AllByRecursion IsToken tokens → says_nothing tokens ≡ false → with_line script number (spaced tokens) ≡ with_said script number (form_of script.procs tokens)
with_line-spaced script number tokens all says = rw (tokens_of-spaced tokens all, says) refl

solid_name : (b : ℕ) → continues_name b ≡ true → is_space b ≡ false
solid_name b e = grind (arith, nat_tests, e)

solid_text : (b : ℕ) → is_visible b ≡ true → is_space b ≡ false
solid_text b e = grind (arith, nat_tests, e)

solid_digit : (b : ℕ) → is_digit b ≡ true → is_space b ≡ false
solid_digit b e = grind (arith, nat_tests, e)

solid_lower : (b : ℕ) → is_lower b ≡ true → is_space b ≡ false
solid_lower b e = grind (arith, nat_tests, e)

-- names, texts and numbers are tokens
pub token_name : (name : List ℕ) → is_name name ≡ true → IsToken name
token_name [] is = cc
token_name (b ∷ name) is =
    let parts = and_parts _ (list_all continues_name name) is in
    let first = and_parts _ (is_lower b) parts.0 in
    rw (solid_lower b first.1, list_any_no_space continues_name solid_name name parts.1) refl

-- some visible characters are a token
pub word_token : (word : List ℕ) → 0 < length word → list_all is_visible word ≡ true → IsToken word
word_token [] some all = absurd (omega (arith, some))
word_token (b ∷ word) some all = rw (list_any_no_space is_visible solid_text (b ∷ word) all) refl

pub token_text : (text : List ℕ) → is_text text ≡ true → IsToken text
token_text text is =
    let parts = and_parts _ (list_all is_visible text) is in
    word_token text (grind (arith, nat_tests, parts.0)) parts.1

digits_token : (bytes : List ℕ) → list_all is_digit bytes ≡ true → 0 < length bytes → IsToken bytes
digits_token [] all some = absurd (omega (arith, some))
digits_token (b ∷ bytes) all some = rw (list_any_no_space is_digit solid_digit (b ∷ bytes) all) refl

pub token_decimal : (n : ℕ) → n < 2 ^ 64 → IsToken (decimal n)
token_decimal n small = digits_token (decimal n) (list_all_digits-decimal n small) (decimal_nonempty n small)

-- a number within a range
pub number_within-decimal : (low high n : ℕ) → low ≤ n → n ≤ high → n < 2 ^ 64 → number_within low high (decimal n) ≡ Some n
number_within-decimal low high n above within small =
    let inside : (nat_le low n && nat_le n high) ≡ true = grind (arith, nat_tests, above, within) in
    rw ((number_of-decimal (decimal n) n small).1 refl, inside) refl

pub number_below-decimal : (bound n : ℕ) → n < bound → n < 2 ^ 64 → number_below bound (decimal n) ≡ Some n
number_below-decimal bound n below small =
    let inside : nat_lt n bound ≡ true = grind (arith, nat_tests, below) in
    rw ((number_of-decimal (decimal n) n small).1 refl, inside) refl

-- `procs N`
pub procs_line : (script : Script) (number procs : ℕ) → 1 ≤ procs → procs ≤ PROCESSORS → with_line script number (spaced (procs_tokens procs)) ≡ record script { procs = procs }
procs_line script number procs some few =
    with_line-spaced script number (procs_tokens procs) (refl, (token_decimal procs (omega (arith, few)), tt)) refl
    ∙ rw (number_within-decimal 1 PROCESSORS procs some few (omega (arith, few))) refl

pub kind_named-word : (kind : KindName) → kind_named (kind_word kind) ≡ Some kind
kind_named-word Counter = refl
kind_named-word Directory = refl
kind_named-word Pages = refl

pub layout_named-word : (layout : LayoutName) → layout_named (layout_word layout) ≡ Some layout
layout_named-word Shared = refl
layout_named-word Spread = refl

kind_token : (kind : KindName) → IsToken (kind_word kind)
kind_token Counter = refl
kind_token Directory = refl
kind_token Pages = refl

layout_token : (layout : LayoutName) → IsToken (layout_word layout)
layout_token Shared = refl
layout_token Spread = refl

numbered_layout_token : (number : ℕ) → number < 2 → IsToken (numbered_layout_word number)
numbered_layout_token zero named = refl
numbered_layout_token (suc zero) named = refl
numbered_layout_token (suc (suc number)) named = absurd (omega (arith, named))

-- `object NAME KIND LAYOUT`
pub object_line : (script : Script) (number : ℕ) (object : ObjectLine) → IsFreeName object.name → with_line script number (spaced (object_tokens object)) ≡ with_object script object
object_line script number object free =
    with_line-spaced script number (object_tokens object) (refl, (token_name object.name free.formed, (kind_token object.kind, (layout_token object.layout, tt)))) refl
    ∙ rw (kind_named-word object.kind, layout_named-word object.layout, free_name-of_free object.name free) refl

-- `worker NAME PROC`
pub worker_line : (script : Script) (number : ℕ) (worker : WorkerHead) → IsFreeName worker.name → worker.proc < script.procs → script.procs ≤ PROCESSORS → with_line script number (spaced (worker_tokens worker)) ≡ with_worker script worker
worker_line script number worker free there few =
    with_line-spaced script number (worker_tokens worker) (refl, (token_name worker.name free.formed, (token_decimal worker.proc (omega (arith, there, few)), tt))) refl
    ∙ rw (free_name-of_free worker.name free, number_below-decimal script.procs worker.proc there (omega (arith, there, few))) refl

-- `begin`
pub begin_line : (script : Script) (number : ℕ) → with_line script number (spaced begin_tokens) ≡ with_last_item script items.Begin
begin_line script number = with_line-spaced script number begin_tokens (refl, tt) refl

-- `end`
pub end_line : (script : Script) (number : ℕ) → with_line script number (spaced end_tokens) ≡ with_last_item script items.End
end_line script number = with_line-spaced script number end_tokens (refl, tt) refl

-- a name that may be declared begins no form
pub head_of-free : (name : List ℕ) → is_reserved name ≡ false → head_of name ≡ heads.Call
head_of-free name free =
    let procs = or_parts (bytes_eq name (codes "procs")) _ free in
    let object = or_parts (bytes_eq name (codes "object")) _ procs.1 in
    let worker = or_parts (bytes_eq name (codes "worker")) _ object.1 in
    let begin = or_parts (bytes_eq name (codes "begin")) _ worker.1 in
    let end = or_parts (bytes_eq name (codes "end")) _ begin.1 in
    let swap = or_parts (bytes_eq name (codes "swap")) _ end.1 in
    let destroy = or_parts (bytes_eq name (codes "destroy")) _ swap.1 in
    let watch = or_parts (bytes_eq name (codes "watch")) _ destroy.1 in
    let unwatch = or_parts (bytes_eq name (codes "unwatch")) _ watch.1 in
    rw (procs.0, object.0, worker.0, begin.0, end.0, swap.0, destroy.0, watch.0, unwatch.0) refl

unmarked_lower : (b : ℕ) → is_lower b ≡ true → eqb b 35 ≡ false
unmarked_lower b e = grind (arith, nat_tests, e)

-- nor a remark
says-name : (name : List ℕ) → is_name name ≡ true → is_remark name ≡ false
says-name [] is = cc
says-name (b ∷ name) is =
    let parts = and_parts _ (list_all continues_name name) is in
    unmarked_lower b (and_parts _ (is_lower b) parts.0).1

-- the tokens of an operation
op_tokens : (op : Op) → IsOpInRange op → AllByRecursion IsToken (operation_word op ∷ argument_tokens op)
op_tokens (Add amount) in_range = (refl, (token_decimal amount (omega (arith, in_range)), tt))
op_tokens Get in_range = (refl, tt)
op_tokens Drain in_range = (refl, tt)
op_tokens (Bind key number) in_range = (refl, (token_name key in_range.0, (token_decimal number in_range.1, tt)))
op_tokens (Find key) in_range = (refl, (token_name key in_range, tt))
op_tokens (Unbind key) in_range = (refl, (token_name key in_range, tt))
op_tokens Size in_range = (refl, tt)
op_tokens (Write page text) in_range = (refl, (token_decimal page (omega (arith, in_range.0)), (token_text text in_range.1, tt)))
op_tokens (Read page) in_range = (refl, (token_decimal page (omega (arith, in_range)), tt))
op_tokens Dirty in_range = (refl, tt)
op_tokens Clean in_range = (refl, tt)
op_tokens Seen in_range = (refl, tt)

-- what a line says that spells an operation, whose parts may be out of range
abbrev pub op_said : Op → Request
op_said (Add amount) = requests.Add (number_below AMOUNTS (decimal amount))
op_said Get = requests.Get
op_said Drain = requests.Drain
op_said (Bind key number) = requests.Bind (name_of key) (number_below (2 ^ 64) (decimal number))
op_said (Find key) = requests.Find (name_of key)
op_said (Unbind key) = requests.Unbind (name_of key)
op_said Size = requests.Size
op_said (Write page text) = requests.Write (page_of (decimal page)) (page_text_of text)
op_said (Read page) = requests.Read (page_of (decimal page))
op_said Dirty = requests.Dirty
op_said Clean = requests.Clean
op_said Seen = requests.Seen

request_of-op : (op : Op) → request_of (operation_word op ∷ argument_tokens op) ≡ Some (op_said op)
request_of-op (Add amount) = refl
request_of-op Get = refl
request_of-op Drain = refl
request_of-op (Bind key number) = refl
request_of-op (Find key) = refl
request_of-op (Unbind key) = refl
request_of-op Size = refl
request_of-op (Write page text) = refl
request_of-op (Read page) = refl
request_of-op Dirty = refl
request_of-op Clean = refl
request_of-op Seen = refl

-- it is the operation, where each part is in its range
act_of-op : (op : Op) → IsOpInRange op → act_of (op_said op) ≡ Some (Call op)
act_of-op (Add amount) in_range = rw (number_below-decimal AMOUNTS amount in_range (omega (arith, in_range))) refl
act_of-op Get in_range = refl
act_of-op Drain in_range = refl
act_of-op (Bind key number) in_range = rw (in_range.0, number_below-decimal (2 ^ 64) number in_range.1 in_range.1) refl
act_of-op (Find key) in_range = rw in_range refl
act_of-op (Unbind key) in_range = rw in_range refl
act_of-op Size in_range = refl
act_of-op (Write page text) in_range = rw (in_range.1, number_below-decimal PAGES page in_range.0 (omega (arith, in_range.0))) refl
act_of-op (Read page) in_range = rw (number_below-decimal PAGES page in_range (omega (arith, in_range))) refl
act_of-op Dirty in_range = refl
act_of-op Clean in_range = refl
act_of-op Seen in_range = refl

abbrev pub act_said : Act Op → Request
act_said (Call op) = op_said op
act_said (Swap to) = requests.Swap to

act_of-act : (act : Act Op) → IsInRange act → act_of (act_said act) ≡ Some act
act_of-act (Call op) in_range = act_of-op op in_range
act_of-act (Swap to) in_range = refl

-- a swap is to what has a word
abbrev pub HasItsWord : Act Op → Type 0
HasItsWord (Call op) = Unit {0}
HasItsWord (Swap to) = HasWord to

word_in_range : (act : Act Op) → IsInRange act → HasItsWord act
word_in_range (Call op) in_range = tt
word_in_range (Swap to) in_range = in_range

-- a line that asks something of an object, as its tokens, which are no remark
pub act_says : (name : List ℕ) (act : Act Op) → is_remark name ≡ false → says_nothing (act_tokens name act) ≡ false
act_says name (Call op) said = said
act_says name (Swap (Layout number)) said = refl
act_says name (Swap Dead) said = refl
act_says name (Swap Watch) said = refl
act_says name (Swap Unwatch) said = refl

all_tokens : (name : List ℕ) (act : Act Op) → IsFreeName name → IsInRange act → AllByRecursion IsToken (act_tokens name act)
all_tokens name (Call op) free in_range = (token_name name free.formed, op_tokens op in_range)
all_tokens name (Swap (Layout number)) free in_range = (refl, (token_name name free.formed, (numbered_layout_token number in_range, tt)))
all_tokens name (Swap Dead) free in_range = (refl, (token_name name free.formed, tt))
all_tokens name (Swap Watch) free in_range = (refl, (token_name name free.formed, tt))
all_tokens name (Swap Unwatch) free in_range = (refl, (token_name name free.formed, tt))

pub form_of-act : (procs : ℕ) (name : List ℕ) (act : Act Op) → is_reserved name ≡ false → HasItsWord act → form_of procs (act_tokens name act) ≡ Some (forms.Asks (name_of name) (act_said act))
form_of-act procs name (Call op) free named = rw (head_of-free name free, request_of-op op) refl
form_of-act procs name (Swap (Layout zero)) free named = refl
form_of-act procs name (Swap (Layout (suc zero))) free named = refl
form_of-act procs name (Swap (Layout (suc (suc number)))) free named = absurd (omega (arith, named))
form_of-act procs name (Swap Dead) free named = refl
form_of-act procs name (Swap Watch) free named = refl
form_of-act procs name (Swap Unwatch) free named = refl

pub name_of-name : (name : List ℕ) → is_name name ≡ true → name_of name ≡ Some name
name_of-name name formed = rw formed refl

form_of-named : (procs : ℕ) (name : List ℕ) (act : Act Op) → IsFreeName name → HasItsWord act → form_of procs (act_tokens name act) ≡ Some (forms.Asks (Some name) (act_said act))
form_of-named procs name act free named = form_of-act procs name act free.free named ∙ ap (λ given. Some (forms.Asks given (act_said act))) (name_of-name name free.formed)

-- a line that asks something of an object
pub act_line : (script : Script) (number place : ℕ) (name : List ℕ) (act : Act Op) → IsFreeName name → place_among (object_names script) (Some name) ≡ Some place → IsInRange act → with_line script number (spaced (act_tokens name act)) ≡ with_last_item script (items.Line (record { line = number; object = place; act = act }))
act_line script number place name act free declared in_range =
    with_line-spaced script number (act_tokens name act) (all_tokens name act free in_range) (act_says name act (says-name name free.formed))
    ∙ rw (form_of-named script.procs name act free (word_in_range act in_range), declared, act_of-act act in_range) refl

-- the name and the act that a form says
said_name : Option Form → Option (List ℕ)
said_name (Some (forms.Asks object request)) = object
said_name _ = None

said_act : Option Form → Option (Act Op)
said_act (Some (forms.Asks object request)) = act_of request
said_act _ = None

form_of_text : List ℕ → Option Form
form_of_text text = form_of 1 (tokens_of text)

form_of_text-act : (name : List ℕ) (act : Act Op) → IsFreeName name → IsInRange act → form_of_text (spaced (act_tokens name act)) ≡ Some (forms.Asks (Some name) (act_said act))
unfolding form_of_text
form_of_text-act name act free in_range = rw (tokens_of-spaced (act_tokens name act) (all_tokens name act free in_range)) (form_of-named 1 name act free (word_in_range act in_range))

-- two acts of one spelling are one, on one object
pub act_spelling : (name other : List ℕ) (act another : Act Op) → IsFreeName name → IsFreeName other → IsInRange act → IsInRange another → spaced (act_tokens name act) ≡ spaced (act_tokens other another) → (name ≡ other) × (act ≡ another)
unfolding said_name said_act
act_spelling name other act another free free_other in_range other_in_range same =
    let forms_same = sym (form_of_text-act name act free in_range) ∙ ap form_of_text same ∙ form_of_text-act other another free_other other_in_range in (
      same_Some name other (ap said_name forms_same),
      same_Some act another (sym (act_of-act act in_range) ∙ ap said_act forms_same ∙ act_of-act another other_in_range),
    )
