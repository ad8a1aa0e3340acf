-- An act that is read is spelled so, and what is spelled so is read.
use Rattle.std.proofs.Common.{◌≡◌, ℕ, zero, suc, ◌<◌, Bool, true, false, IsTrue, cond, ◌||◌, List, [], ◌∷◌, ◌++◌, length, get_or, refl, sym, ap, subst, ◌∙◌, arith, inl, inr}
use Rattle.std.specs.Prelude.{Option, Some, None, codes, option_map, slice_get}
use Rattle.std.specs.Str.{bytes_eq}
use Rattle.std.proofs.lemmas.Option.{none-some, same_Some, slice_get_within, slice_get_cases, slice_get-get_or, slice_get-map}
use Rattle.k42_kinds.specs.Watched.{watched_object}
use Rattle.k42_kinds.specs.Words.{is_name}
use Rattle.k42_kinds.specs.declared.operation.KindName.{KindName}
use Rattle.k42_kinds.specs.declared.operation.Op.{Op}
use Rattle.k42_kinds.specs.declared.entry.Act.{Act}
use Rattle.k42_kinds.specs.declared.entry.Act.TheVariants.{Call, Swap}
use Rattle.k42_kinds.specs.declared.entry.To.{To}
use Rattle.k42_kinds.specs.declared.entry.To.TheVariants.{Layout, Dead, Watch, Unwatch}
use Rattle.script_text.specs.Lawful.{kinds_of}
use Rattle.script_text.specs.Sound.{IsActOn, NamesPage, HasDistinctNames, IsFreeName}
use Rattle.script_text.specs.declared.script.ObjectLine.{ObjectLine}
use Rattle.script_text.specs.declared.script.WorkerLines.{WorkerLines}
use Rattle.script_text.specs.declared.script.Script.{Script}
use Rattle.record_text.specs.Acts.{operation_word, argument_tokens, numbered_layout_word, HasWord, act_tokens}
use Rattle.record_text.specs.Texts.{worker_name, object_name}
use Rattle.record_text.specs.Values.{FitsOperation, FitsAct}
use Rattle.record_text.specs.Reader.Parts.{Found, ◌>>=◌, spelled_at}
use Rattle.record_text.specs.Reader.ActParts.{operation_at, layout_of, object_of, worker_of, asked, layout_at, said_before, swap_at, call_at, act_of, act_at}
use Rattle.record_text.specs.declared.reading.acts.Asked.{Asked}
use Rattle.record_text.proofs.Reader.Parts.{step, word_or, pair_is, spelled_takes, spelled_again}
use Rattle.record_text.proofs.Reader.Names.{place_takes, place_again, get_map}
use Rattle.record_text.proofs.Reader.Operations.{operation_takes, operation_again}

-- the object of a name is declared
record IsObject (script : Script) (name : List ℕ) (object : ℕ) : Type 0 where
  line : ObjectLine
  declared : slice_get script.objects object ≡ Some line
  named : name ≡ object_name script object
  kind : slice_get (kinds_of script) object ≡ Some line.kind

object_takes : (script : Script) (name : List ℕ) (object : ℕ) → object_of script name ≡ Some object → IsObject script name object
object_takes script name object e =
    let place = place_takes (λ (line : ObjectLine). line.name) name script.objects object e in
    record {
      line = place.0;
      declared = place.1;
      named = rw place.1 place.2;
      kind = get_map (λ (line : ObjectLine). line.kind) script.objects object place.0 place.1;
    }

pub record IsWorker (script : Script) (name : List ℕ) (worker : ℕ) : Type 0 where
  pub within : worker < length script.workers
  pub named : name ≡ worker_name script worker

pub worker_takes : (script : Script) (name : List ℕ) (worker : ℕ) → worker_of script name ≡ Some worker → IsWorker script name worker
worker_takes script name worker e =
    let place = place_takes (λ (line : WorkerLines). line.name) name script.workers worker e in
    record { within = slice_get_within script.workers worker place.0 place.1; named = rw place.1 place.2 }

-- these tokens are an act on a declared object, and what is left
pub record TakesAct (script : Script) (tokens : List (List ℕ)) (asks : Asked) (rest : List (List ℕ)) : Type 0 where
  pub spelled : tokens ≡ act_tokens (object_name script asks.object) asks.act ++ rest
  pub kind : KindName
  pub of_object : slice_get (kinds_of script) asks.object ≡ Some kind
  pub is_on : IsActOn kind asks.act
  pub fits : FitsAct asks.act

layout_takes : (name word : List ℕ) (to : To) → layout_of word ≡ Some to → (codes "swap" ∷ name ∷ word ∷ [] ≡ act_tokens name (Swap to)) × HasWord to
layout_takes name word to e =
    let behind : List ℕ → List (List ℕ) = λ word. codes "swap" ∷ name ∷ word ∷ [] in
    let spread : Option To = cond (bytes_eq word (codes "spread")) (Some (Layout 1)) None in
    elim (word_or word (codes "shared") (Some (Layout 0)) spread to e) [
      | inl this ↦ (ap behind this.0 ∙ ap (λ (t : To). act_tokens name (Swap t)) (same_Some (Layout 0) to this.1), subst HasWord (same_Some (Layout 0) to this.1) (omega arith))
      | inr more ↦ elim (word_or word (codes "spread") (Some (Layout 1)) None to more) [
        | inl this ↦ (ap behind this.0 ∙ ap (λ (t : To). act_tokens name (Swap t)) (same_Some (Layout 1) to this.1), subst HasWord (same_Some (Layout 1) to this.1) (omega arith))
        | inr none ↦ absurd cc
      ]
    ]

-- behind this word and an object's name, these tokens are a swap to what is read of them, which has a word
abbrev Says : List ℕ → (List (List ℕ) → Found To) → Type 0
Says word to_at =
    (name : List ℕ) (tokens : List (List ℕ)) (to : To) (rest : List (List ℕ)) → to_at tokens ≡ Some (to, rest) → (word ∷ name ∷ tokens ≡ act_tokens name (Swap to) ++ rest) × HasWord to

swap_says : Says (codes "swap") layout_at
swap_says name tokens to rest e =
    let word = spelled_takes layout_of tokens to rest e in
    let takes = layout_takes name word.token to word.means in
    (ap (λ (left : List (List ℕ)). codes "swap" ∷ name ∷ left) word.first ∙ ap (λ (words : List (List ℕ)). words ++ rest) takes.0, takes.1)

-- the word alone says what such a swap is to
named_says : (word : List ℕ) (own : To) → HasWord own → ((name : List ℕ) → act_tokens name (Swap own) ≡ word ∷ name ∷ []) → Says word (said_before own)
named_says word own named spelled name tokens to rest e =
    let same = pair_is own to tokens rest e in
    (ap (λ (left : List (List ℕ)). word ∷ name ∷ left) same.1 ∙ ap (λ (words : List (List ℕ)). words ++ rest) (sym (spelled name)) ∙ ap (λ (t : To). act_tokens name (Swap t) ++ rest) same.0, subst HasWord same.0 named)

destroy_says : Says (codes "destroy") (said_before Dead)
destroy_says = named_says (codes "destroy") Dead tt (λ name. refl)

watch_says : Says (codes "watch") (said_before Watch)
watch_says = named_says (codes "watch") Watch tt (λ name. refl)

unwatch_says : Says (codes "unwatch") (said_before Unwatch)
unwatch_says = named_says (codes "unwatch") Unwatch tt (λ name. refl)

swap_takes : (script : Script) (word : List ℕ) (to_at : List (List ℕ) → Found To) → Says word to_at → (tokens : List (List ℕ)) (asks : Asked) (rest : List (List ℕ)) → swap_at script to_at tokens ≡ Some (asks, rest) → TakesAct script (word ∷ tokens) asks rest
unfolding swap_at
swap_takes script word to_at says tokens asks rest e =
    let first = step (spelled_at (object_of script) tokens) (λ (object : ℕ × List (List ℕ)). to_at object.1 >>= (λ (to : To × List (List ℕ)). Some (asked object.0 (Swap to.0), to.1))) (asks, rest) e in
    let name = spelled_takes (object_of script) tokens first.0.0 first.0.1 first.1 in
    let object = object_takes script name.token first.0.0 name.means in
    let second = step (to_at first.0.1) (λ (to : To × List (List ℕ)). Some (asked first.0.0 (Swap to.0), to.1)) (asks, rest) first.2 in
    let same = pair_is (asked first.0.0 (Swap second.0.0)) asks second.0.1 rest second.2 in
    let said = says (object_name script first.0.0) first.0.1 second.0.0 rest (second.1 ∙ ap (λ (left : List (List ℕ)). Some (second.0.0, left)) same.1) in
    let behind : word ∷ tokens ≡ act_tokens (object_name script first.0.0) (Swap second.0.0) ++ rest =
    ap (λ (left : List (List ℕ)). word ∷ left) (name.first ∙ ap (λ (token : List ℕ). token ∷ first.0.1) object.named) ∙ said.0 in
    subst (λ (a : Asked). TakesAct script (word ∷ tokens) a rest) same.0
    (record { spelled = behind; kind = object.line.kind; of_object = object.kind; is_on = said.1; fits = tt })

call_takes : (script : Script) (name : List ℕ) (tokens : List (List ℕ)) (asks : Asked) (rest : List (List ℕ)) → call_at script name tokens ≡ Some (asks, rest) → TakesAct script (name ∷ tokens) asks rest
unfolding call_at
call_takes script name tokens asks rest e =
    let first = step (object_of script name) (λ (object : ℕ). slice_get (kinds_of script) object >>= (λ (kind : KindName). operation_at kind tokens >>= (λ (op : Op × List (List ℕ)). Some (asked object (Call op.0), op.1)))) (asks, rest) e in
    let object = object_takes script name first.0 first.1 in
    let second = step (slice_get (kinds_of script) first.0) (λ (kind : KindName). operation_at kind tokens >>= (λ (op : Op × List (List ℕ)). Some (asked first.0 (Call op.0), op.1))) (asks, rest) first.2 in
    let third = step (operation_at second.0 tokens) (λ (op : Op × List (List ℕ)). Some (asked first.0 (Call op.0), op.1)) (asks, rest) second.2 in
    let op = operation_takes second.0 tokens third.0.0 third.0.1 third.1 in
    let same = pair_is (asked first.0 (Call third.0.0)) asks third.0.1 rest third.2 in
    let words = operation_word third.0.0 ∷ argument_tokens third.0.0 in
    let behind : name ∷ tokens ≡ object_name script first.0 ∷ words ++ rest =
    ap (λ (token : List ℕ). token ∷ tokens) object.named ∙ ap (λ (left : List (List ℕ)). object_name script first.0 ∷ left) (op.spelled ∙ ap (λ (left : List (List ℕ)). words ++ left) same.1) in
    subst (λ (a : Asked). TakesAct script (name ∷ tokens) a rest) same.0
    (record { spelled = behind; kind = second.0; of_object = second.1; is_on = (op.own, op.page); fits = op.fits })

asked_takes : (script : Script) (word : List ℕ) (tokens : List (List ℕ)) (asks : Asked) (rest : List (List ℕ)) → act_of script word tokens ≡ Some (asks, rest) → TakesAct script (word ∷ tokens) asks rest
asked_takes script word tokens asks rest e =
    let to_end = swap_at script (said_before Dead) tokens in
    let to_watch = swap_at script (said_before Watch) tokens in
    let to_unwatch = swap_at script (said_before Unwatch) tokens in
    let from_unwatch : Found Asked = cond (bytes_eq word (codes "unwatch")) to_unwatch (call_at script word tokens) in
    let from_watch : Found Asked = cond (bytes_eq word (codes "watch")) to_watch from_unwatch in
    let from_destroy : Found Asked = cond (bytes_eq word (codes "destroy")) to_end from_watch in
    elim (word_or word (codes "swap") (swap_at script layout_at tokens) from_destroy (asks, rest) e) [
      | inl this ↦ rw this.0 (swap_takes script (codes "swap") layout_at swap_says tokens asks rest this.1)
      | inr more ↦ elim (word_or word (codes "destroy") to_end from_watch (asks, rest) more) [
        | inl this ↦ rw this.0 (swap_takes script (codes "destroy") (said_before Dead) destroy_says tokens asks rest this.1)
        | inr more ↦ elim (word_or word (codes "watch") to_watch from_unwatch (asks, rest) more) [
          | inl this ↦ rw this.0 (swap_takes script (codes "watch") (said_before Watch) watch_says tokens asks rest this.1)
          | inr more ↦ elim (word_or word (codes "unwatch") to_unwatch (call_at script word tokens) (asks, rest) more) [
            | inl this ↦ rw this.0 (swap_takes script (codes "unwatch") (said_before Unwatch) unwatch_says tokens asks rest this.1)
            | inr call ↦ call_takes script word tokens asks rest call
          ]
        ]
      ]
    ]

pub act_takes : (script : Script) (tokens : List (List ℕ)) (asks : Asked) (rest : List (List ℕ)) → act_at script tokens ≡ Some (asks, rest) → TakesAct script tokens asks rest
unfolding act_at
act_takes script [] asks rest e = absurd cc
act_takes script (word ∷ tokens) asks rest e = asked_takes script word tokens asks rest e

-- ---- what is spelled is read

layout_again : (number : ℕ) → number < 2 → layout_of (numbered_layout_word number) ≡ Some (Layout number)
layout_again zero named = refl
layout_again (suc zero) named = refl
layout_again (suc (suc number)) named = absurd (omega (arith, named))

-- a declared name is none of the words that begin a swap
record IsNoAct (name : List ℕ) : Type 0 where
  swap : bytes_eq name (codes "swap") ≡ false
  destroy : bytes_eq name (codes "destroy") ≡ false
  watch : bytes_eq name (codes "watch") ≡ false
  unwatch : bytes_eq name (codes "unwatch") ≡ false

-- where none of nine holds, the last four do not
last_four : (a b c d e f g h i : Bool) → (a || (b || (c || (d || (e || (f || (g || (h || (i || false))))))))) ≡ false → (f ≡ false) × (g ≡ false) × (h ≡ false) × (i ≡ false)
last_four true b c d e f g h i none = absurd cc
last_four false true c d e f g h i none = absurd cc
last_four false false true d e f g h i none = absurd cc
last_four false false false true e f g h i none = absurd cc
last_four false false false false true f g h i none = absurd cc
last_four false false false false false true g h i none = absurd cc
last_four false false false false false false true h i none = absurd cc
last_four false false false false false false false true i none = absurd cc
last_four false false false false false false false false true none = absurd cc
last_four false false false false false false false false false none = (refl, refl, refl, refl)

free_is_no_act : (name : List ℕ) → IsFreeName name → IsNoAct name
free_is_no_act name free =
    let is = bytes_eq name in
    let four = last_four (is (codes "procs")) (is (codes "object")) (is (codes "worker")) (is (codes "begin")) (is (codes "end")) (is (codes "swap")) (is (codes "destroy")) (is (codes "watch")) (is (codes "unwatch")) free.free in
    record { swap = four.0; destroy = four.1; watch = four.2; unwatch = four.3 }

-- a declared object, by its kind
record IsDeclared (script : Script) (object : ℕ) (kind : KindName) : Type 0 where
  line : ObjectLine
  at : slice_get script.objects object ≡ Some line
  named : object_name script object ≡ line.name
  of_kind : line.kind ≡ kind

declared : (script : Script) (object : ℕ) (kind : KindName) → slice_get (kinds_of script) object ≡ Some kind → IsDeclared script object kind
declared script object kind e =
    elim (slice_get_cases script.objects object).1 [
      | inl is ↦ record {
        line = is.0;
        at = is.2;
        named = rw is.2 refl;
        of_kind = same_Some is.0.kind kind (sym (get_map (λ (line : ObjectLine). line.kind) script.objects object is.0 is.2) ∙ e);
      }
      | inr past ↦ absurd (none-some kind (sym (slice_get-map (λ (line : ObjectLine). line.kind) script.objects object ∙ ap (option_map (λ (line : ObjectLine). line.kind)) past.1) ∙ e))
    ]

-- its name is one that a line may declare
free_line : (script : Script) (object : ℕ) (line : ObjectLine) → HasDistinctNames script → slice_get script.objects object ≡ Some line → IsFreeName line.name
free_line script object line names e = subst (λ (l : ObjectLine). IsFreeName l.name) (same_Some (get_or script.objects object line) line (sym (slice_get-get_or script.objects object line (slice_get_within script.objects object line e)) ∙ e)) (names.free_objects object line (slice_get_within script.objects object line e))

object_again : (script : Script) (object : ℕ) (kind : KindName) → HasDistinctNames script → slice_get (kinds_of script) object ≡ Some kind → object_of script (object_name script object) ≡ Some object
object_again script object kind names e =
    let is = declared script object kind e in
    rw is.named (place_again (λ (line : ObjectLine). line.name) script.objects object is.line names.object_names is.at)

pub worker_again : (script : Script) (worker : ℕ) → HasDistinctNames script → worker < length script.workers → worker_of script (worker_name script worker) ≡ Some worker
worker_again script worker names lt =
    elim (slice_get_cases script.workers worker).1 [
      | inl is ↦ rw is.2 (place_again (λ (line : WorkerLines). line.name) script.workers worker is.0 names.worker_names is.2)
      | inr past ↦ absurd (omega (arith, lt, past.0))
    ]

swap_again : (script : Script) (object : ℕ) (to_at : List (List ℕ) → Found To) (to : To) (tokens rest : List (List ℕ)) → object_of script (object_name script object) ≡ Some object → to_at tokens ≡ Some (to, rest) → swap_at script to_at (object_name script object ∷ tokens) ≡ Some (asked object (Swap to), rest)
unfolding swap_at
swap_again script object to_at to tokens rest found reads = rw (spelled_again (object_of script) (object_name script object) object tokens found, reads) refl

call_again : (script : Script) (object : ℕ) (kind : KindName) (op : Op) (rest : List (List ℕ)) → object_of script (object_name script object) ≡ Some object → slice_get (kinds_of script) object ≡ Some kind → IsTrue ((watched_object kind).takes op) → NamesPage op → FitsOperation op
    → call_at script (object_name script object) ((operation_word op ∷ argument_tokens op) ++ rest) ≡ Some (asked object (Call op), rest)
unfolding call_at
call_again script object kind op rest found is own page fits = rw (found, is, operation_again kind op rest own page fits) refl

-- an act that is spelled is read
pub act_again : (script : Script) (object : ℕ) (kind : KindName) (act : Act Op) (rest : List (List ℕ)) → HasDistinctNames script → slice_get (kinds_of script) object ≡ Some kind → IsActOn kind act → FitsAct act
    → act_at script (act_tokens (object_name script object) act ++ rest) ≡ Some (asked object act, rest)
unfolding act_at
act_again script object kind (Call op) rest names e is_on fits =
    let is = declared script object kind e in
    let none = free_is_no_act is.line.name (free_line script object is.line names is.at) in
    let found = object_again script object kind names e in
    let named : IsNoAct (object_name script object) = rw is.named none in
    rw (named.swap, named.destroy, named.watch, named.unwatch) (call_again script object kind op rest found e is_on.0 is_on.1 fits)
act_again script object kind (Swap (Layout number)) rest names e is_on fits =
    swap_again script object layout_at (Layout number) (numbered_layout_word number ∷ rest) rest (object_again script object kind names e) (spelled_again layout_of (numbered_layout_word number) (Layout number) rest (layout_again number is_on))
act_again script object kind (Swap Dead) rest names e is_on fits = swap_again script object (said_before Dead) Dead rest rest (object_again script object kind names e) refl
act_again script object kind (Swap Watch) rest names e is_on fits = swap_again script object (said_before Watch) Watch rest rest (object_again script object kind names e) refl
act_again script object kind (Swap Unwatch) rest names e is_on fits = swap_again script object (said_before Unwatch) Unwatch rest rest (object_again script object kind names e) refl

-- ---- the names of a script are names

pub object_has_name : (script : Script) (object : ℕ) (kind : KindName) → HasDistinctNames script → slice_get (kinds_of script) object ≡ Some kind → is_name (object_name script object) ≡ true
object_has_name script object kind names e =
    let is = declared script object kind e in
    rw is.named (free_line script object is.line names is.at).formed

pub worker_has_name : (script : Script) (worker : ℕ) → HasDistinctNames script → worker < length script.workers → is_name (worker_name script worker) ≡ true
worker_has_name script worker names lt =
    elim (slice_get_cases script.workers worker).1 [
      | inl is ↦ rw (is.2, ← is.3) (names.free_workers worker is.0 lt).formed
      | inr past ↦ absurd (omega (arith, lt, past.0))
    ]
