-- What is legal of a history is legal of the lines that tell of it, and the other way round.
use Rattle.std.proofs.Common.{◌≡◌, ℕ, ◌+◌, ◌<◌, ◌≤◌, List, [], ◌∷◌, ◌++◌, length, map, get_or, cond, refl, sym, ap, ◌∙◌, subst, All, Any, arith}
use Rattle.std.specs.List.{fold}
use Rattle.std.proofs.lemmas.List.{length-map, map-append, get_or-map, get_or_default}
use Rattle.std.proofs.lemmas.List.Elements.{All-map, All-weaker}
use Rattle.std.proofs.lemmas.List.Folds.{fold-map}
use Rattle.k42_kinds.specs.Watched.{watched_object}
use Rattle.k42_kinds.specs.Histories.{state_of, number_of, moved_by, is_carried_out_on}
use Rattle.k42_kinds.specs.Legal.{IsLegalAct, IsLegalAnswer, IsLegalAmong, IsLegalRefusal, IsTimely, IsOwn, IsNotPast, IsRival}
use Rattle.k42_kinds.specs.declared.operation.KindName.{KindName}
use Rattle.k42_kinds.specs.declared.states.AnyState.{AnyState}
use Rattle.k42_kinds.specs.declared.watch.WatchState.{WatchState}
use Rattle.k42_kinds.specs.declared.operation.Op.{Op}
use Rattle.k42_kinds.specs.declared.operation.Reply.{Reply}
use Rattle.k42_kinds.specs.declared.entry.Act.{Act}
use Rattle.k42_kinds.specs.declared.entry.Act.TheVariants.{Call, Swap}
use Rattle.k42_kinds.specs.declared.entry.Answer.{Answer}
use Rattle.k42_kinds.specs.declared.entry.Answer.TheVariants.{Replied, Swapped, Busy, Spent, Gone, Abandoned}
use Rattle.k42_kinds.specs.declared.entry.Entry.{Entry}
use Rattle.script_text.specs.declared.script.Script.{Script}
use Rattle.record_text.specs.Histories.{line_of}
use Rattle.record_text.specs.Told.{told}

any_map : {X Y : Type 0} (P : X → Type 0) (Q : Y → Type 0) (f : X → Y) (xs : List X) → ((x : X) → P x → Q (f x)) → Any P xs → Any Q (map f xs)
any_map P Q f xs each any = (any.0, f any.1, omega (arith, any.2, length-map xs f), get_or-map f xs any.0 any.1 (f any.1) any.2 ∙ ap f any.3, each any.1 any.4)

any_unmap : {X : Type 0} (P Q : X → Type 0) (f : X → X) (xs : List X) → ((x : X) → Q (f x) → P x) → Any Q (map f xs) → Any P xs
any_unmap {X} P Q f xs each any =
    let within : any.0 < length xs = omega (arith, any.2, length-map xs f) in
    let x = get_or xs any.0 any.1 in
    let same : f x ≡ any.1 = sym (get_or-map f xs any.0 any.1 any.1 within) ∙ any.3 in
    (any.0, x, within, get_or_default xs any.0 x any.1 within, each x (subst (λ (y : X). Q y) (sym same) any.4))

all_unmap : {X : Type 0} (P Q : X → Type 0) (f : X → X) (xs : List X) → ((x : X) → Q (f x) → P x) → All Q (map f xs) → All P xs
all_unmap {X} P Q f xs each all = λ k d within. each (get_or xs k d) (subst (λ (y : X). Q y) (get_or-map f xs k d d within) (all k d (omega (arith, within, length-map xs f))))

module _ (script : Script) (version : ℕ) where
  -- the entry without what its line does not tell
  abbrev pub bare : Entry Op Reply → Entry Op Reply
  bare entry = told (line_of script version entry)

  states_same : (kind : KindName) (object : ℕ) (state : WatchState AnyState) (history : List (Entry Op Reply)) → fold (moved_by kind object) state (map bare history) ≡ fold (moved_by kind object) state history
  states_same kind object state [] = refl
  states_same kind object state (entry ∷ history) = states_same kind object (moved_by kind object state entry) history

  state_same : (kind : KindName) (object : ℕ) (history : List (Entry Op Reply)) → state_of kind object (map bare history) ≡ state_of kind object history
  state_same kind object history = states_same kind object (watched_object kind).start history

  number_same : (object : ℕ) (history : List (Entry Op Reply)) → number_of object (map bare history) ≡ number_of object history
  number_same object history = fold-map (λ (n : ℕ) (entry : Entry Op Reply). n + cond (is_carried_out_on object entry) 1 0) bare 0 history

  module _ (kind : KindName) (before : List (Entry Op Reply)) (entry : Entry Op Reply) (after : List (Entry Op Reply)) where
    abbrev B : List (Entry Op Reply)
    B = map bare before

    abbrev A : List (Entry Op Reply)
    A = map bare after

    abbrev E : Entry Op Reply
    E = bare entry

    own_to : (other : Entry Op Reply) → IsOwn entry other → IsOwn E (bare other)
    own_to other own = record { caller = own.caller; object = own.object }

    own_from : (other : Entry Op Reply) → IsOwn E (bare other) → IsOwn entry other
    own_from other own = record { caller = own.caller; object = own.object }

    past_to : (number : ℕ) (other : Entry Op Reply) → IsNotPast number other → IsNotPast number (bare other)
    past_to number other past = record { incarnation = past.incarnation; carried_out = past.carried_out }

    past_from : (number : ℕ) (other : Entry Op Reply) → IsNotPast number (bare other) → IsNotPast number other
    past_from number other past = record { incarnation = past.incarnation; carried_out = past.carried_out }

    timely_to : (number : ℕ) → IsTimely before entry after number → IsTimely B E A number
    timely_to number timely = record {
      incarnation = timely.incarnation;
      earlier = All-map (λ other. IsOwn E other → IsNotPast number other) bare before (All-weaker (λ other. IsOwn entry other → IsNotPast number other) (λ other. IsOwn E (bare other) → IsNotPast number (bare other)) (λ other h own. past_to number other (h (own_from other own))) before timely.earlier);
      later = All-map (λ other. IsOwn E other → number ≤ other.incarnation + 1) bare after (All-weaker (λ other. IsOwn entry other → number ≤ other.incarnation + 1) (λ other. IsOwn E (bare other) → number ≤ other.incarnation + 1) (λ other h own. h (own_from other own)) after timely.later);
    }

    timely_from : (number : ℕ) → IsTimely B E A number → IsTimely before entry after number
    timely_from number timely = record {
      incarnation = timely.incarnation;
      earlier = all_unmap (λ other. IsOwn entry other → IsNotPast number other) (λ other. IsOwn E other → IsNotPast number other) bare before (λ other h own. past_from number other (h (own_to other own))) timely.earlier;
      later = all_unmap (λ other. IsOwn entry other → number ≤ other.incarnation + 1) (λ other. IsOwn E other → number ≤ other.incarnation + 1) bare after (λ other h own. h (own_to other own)) timely.later;
    }

    rival_to : (number : ℕ) (other : Entry Op Reply) → IsRival entry number other → IsRival E number (bare other)
    rival_to number other rival = record { caller = rival.caller; object = rival.object; settles = rival.settles }

    rival_from : (number : ℕ) (other : Entry Op Reply) → IsRival E number (bare other) → IsRival entry number other
    rival_from number other rival = record { caller = rival.caller; object = rival.object; settles = rival.settles }

    refusal_to : (number : ℕ) → IsLegalRefusal before entry after number → IsLegalRefusal B E A number
    refusal_to number legal = record {
      timely = timely_to number legal.timely;
      rival = rw (← map-append bare before after) (any_map (IsRival entry number) (IsRival E number) bare (before ++ after) (rival_to number) legal.rival);
    }

    refusal_from : (number : ℕ) → IsLegalRefusal B E A number → IsLegalRefusal before entry after number
    refusal_from number legal = record {
      timely = timely_from number legal.timely;
      rival = any_unmap (IsRival entry number) (IsRival E number) bare (before ++ after) (rival_from number) (rw (map-append bare before after) legal.rival);
    }

    S : state_of kind entry.object B ≡ state_of kind entry.object before
    S = state_same kind entry.object before

    N : number_of entry.object B ≡ number_of entry.object before
    N = number_same entry.object before

    answer_to : (answer : Answer Reply) → IsLegalAnswer kind before entry after answer → IsLegalAnswer kind B E A answer
    answer_to (Swapped number) legal = record { next = legal.next ∙ ap (λ (n : ℕ). n + 1) (sym N); alive = ap (watched_object kind).is_ended S ∙ legal.alive; unspent = omega (arith, legal.unspent, N); incarnation = legal.incarnation ∙ sym N }
    answer_to Spent legal = record { alive = ap (watched_object kind).is_ended S ∙ legal.alive; spent = N ∙ legal.spent; incarnation = legal.incarnation ∙ sym N }
    answer_to Gone legal = record { dead = ap (watched_object kind).is_ended S ∙ legal.dead; incarnation = legal.incarnation ∙ sym N }
    answer_to (Busy number) legal = refusal_to number legal
    answer_to (Abandoned number) legal = timely_to number legal
    answer_to (Replied reply) legal = legal

    answer_from : (answer : Answer Reply) → IsLegalAnswer kind B E A answer → IsLegalAnswer kind before entry after answer
    answer_from (Swapped number) legal = record { next = legal.next ∙ ap (λ (n : ℕ). n + 1) N; alive = ap (watched_object kind).is_ended (sym S) ∙ legal.alive; unspent = omega (arith, legal.unspent, N); incarnation = legal.incarnation ∙ N }
    answer_from Spent legal = record { alive = ap (watched_object kind).is_ended (sym S) ∙ legal.alive; spent = sym N ∙ legal.spent; incarnation = legal.incarnation ∙ N }
    answer_from Gone legal = record { dead = ap (watched_object kind).is_ended (sym S) ∙ legal.dead; incarnation = legal.incarnation ∙ N }
    answer_from (Busy number) legal = refusal_from number legal
    answer_from (Abandoned number) legal = timely_from number legal
    answer_from (Replied reply) legal = legal

    act_to : (act : Act Op) → IsLegalAct kind before entry after act → IsLegalAct kind B E A act
    act_to (Call op) legal = record { own_kind = legal.own_kind; replied = legal.replied ∙ ap (λ (s : WatchState AnyState). Replied ((watched_object kind).reply s op)) (sym S); incarnation = legal.incarnation ∙ sym N }
    act_to (Swap to) legal = answer_to entry.answer legal

    act_from : (act : Act Op) → IsLegalAct kind B E A act → IsLegalAct kind before entry after act
    act_from (Call op) legal = record { own_kind = legal.own_kind; replied = legal.replied ∙ ap (λ (s : WatchState AnyState). Replied ((watched_object kind).reply s op)) S; incarnation = legal.incarnation ∙ N }
    act_from (Swap to) legal = answer_from entry.answer legal

  told_all : (history : List (Entry Op Reply)) → map told (map (line_of script version) history) ≡ map bare history
  told_all [] = refl
  told_all (entry ∷ history) = ap (λ (rest : List (Entry Op Reply)). bare entry ∷ rest) (told_all history)

  -- an entry is legal where its line is
  pub legal_to : (kinds : List KindName) (before : List (Entry Op Reply)) (entry : Entry Op Reply) (after : List (Entry Op Reply)) → IsLegalAmong kinds before entry after → IsLegalAmong kinds (map told (map (line_of script version) before)) (told (line_of script version entry)) (map told (map (line_of script version) after))
  legal_to kinds before entry after legal = rw (told_all before, told_all after) (record {
    kind = legal.kind;
    declared = legal.declared;
    legal = act_to legal.kind before entry after entry.act legal.legal;
  })

  pub legal_from : (kinds : List KindName) (before : List (Entry Op Reply)) (entry : Entry Op Reply) (after : List (Entry Op Reply)) → IsLegalAmong kinds (map told (map (line_of script version) before)) (told (line_of script version entry)) (map told (map (line_of script version) after)) → IsLegalAmong kinds before entry after
  legal_from kinds before entry after legal =
      let l : IsLegalAmong kinds (map bare before) (bare entry) (map bare after) = rw (told_all before, told_all after) at legal in
      record {
        kind = l.kind;
        declared = l.declared;
        legal = act_from l.kind before entry after entry.act l.legal;
      }
