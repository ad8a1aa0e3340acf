-- A worker's items, one after the other.
use Rattle.std.proofs.Common.{◌≡◌, ◌≢◌, ℕ, zero, suc, ◌+◌, ◌<◌, ◌≤◌, ◌⊎◌, inl, inr, Bool, true, false, List, [], ◌∷◌, ◌++◌, length, get_or, map, drop, refl, sym, ap, ◌∙◌, subst, arith}
use Rattle.std.specs.Prelude.{Option, Some, None, slice_get}
use Rattle.std.proofs.lemmas.List.{append-nil, append_assoc, map-append, length_push}
use Rattle.std.proofs.lemmas.List.Elements.{All-push, All-nil}
use Rattle.std.proofs.lemmas.Option.{same_Some, none-some, slice_get_within}
use Rattle.std.proofs.Math.ListN.{drop_of_length-le}
use Rattle.std.proofs.Math.Seq.{get_or-append_seam}
use Rattle.k42_places.proofs.Rests.{drop_at}
use Rattle.k42_kinds.specs.declared.operation.Op.{Op}
use Rattle.k42_kinds.specs.declared.operation.Reply.{Reply}
use Rattle.k42_kinds.specs.declared.entry.Act.{Act}
use Rattle.k42_kinds.specs.declared.entry.Act.TheVariants.{Call, Swap}
use Rattle.k42_kinds.specs.declared.entry.Entry.{Entry}
use Rattle.script_text.specs.Lawful.{Deed, call_lines, deed_of, deeds_from}
use Rattle.script_text.specs.Sound.{IsCall, BlocksMatch}
use Rattle.script_text.specs.declared.script.CallLine.{CallLine}
use Rattle.script_text.specs.declared.script.Item.{Item}
use Rattle.script_text.specs.declared.script.Item.TheVariants.{Begin, End, Line}
use Rattle.script_text.specs.declared.script.WorkerLines.{WorkerLines}
use Rattle.record_text.specs.Spelling.{HasGeneration}
use Rattle.record_text.specs.Told.{blocks_from, blocks_of, AreInStep}
use Rattle.k42_workers.specs.Lines.{Standing, IsLatest, GoesOn, left_open, IsTimedCall, IsTimed, AnswersLine, Follows}
use Rattle.k42_workers.specs.UnderWay.{IsUnderWay, block_at}
use Rattle.k42_workers.specs.Workers.{IsMadeBy, HasDoneLines}

-- the entry at a place after one more was put behind the others
at_last_or_before : (entries : List (Entry Op Reply)) (entry : Entry Op Reply) (i : ℕ) (found : Entry Op Reply) → slice_get (entries ++ entry ∷ []) i ≡ Some found → (slice_get entries i ≡ Some found) ⊎ ((i ≡ length entries) × (found ≡ entry))
at_last_or_before [] entry zero found there = inr (refl, sym (same_Some entry found there))
at_last_or_before [] entry (suc i) found there = cc
at_last_or_before (first ∷ entries) entry zero found there = inl there
at_last_or_before (first ∷ entries) entry (suc i) found there = elim (at_last_or_before entries entry i found there) [
  | inl before ↦ inl before
  | inr last ↦ inr (ap suc last.0, last.1)
]

below_or_last : (i n : ℕ) → i < n + 1 → (i < n) ⊎ (i ≡ n)
below_or_last zero zero less = inr refl
below_or_last zero (suc n) less = inl (omega arith)
below_or_last (suc i) zero less = absurd (omega (arith, less))
below_or_last (suc i) (suc n) less = elim (below_or_last i n (omega (arith, less))) [
  | inl below ↦ inl (omega (arith, below))
  | inr last ↦ inr (ap suc last)
]

module _ (worker : WorkerLines) where
  -- before the first
  pub under_way_at_start : BlocksMatch false worker.items false → (standing : Standing) → standing.entries ≡ [] → standing.active ≡ None → IsUnderWay worker 0 false standing
  under_way_at_start matches standing none idle =
      let few : length standing.entries ≡ 0 = ap length none in
      let nothing : (i : ℕ) (entry : Entry Op Reply) → slice_get standing.entries i ≡ Some entry → ⊥ = λ i entry there. omega (arith, few, slice_get_within standing.entries i entry there) in
      record {
        deeds = rw none refl;
        made = rw none (All-nil (IsMadeBy worker));
        in_step = λ i j earlier later less there. absurd (nothing i earlier there);
        begun = 0;
        block = 0;
        done = [];
        blocks = refl;
        many = sym few;
        matches = matches;
        outside = λ out. (refl, idle);
        within = omega arith;
        earlier = λ i less. absurd (omega (arith, few, less));
        latest = λ a active. absurd (none-some a (sym idle ∙ active));
        level = λ some. absurd (some refl);
      }

  -- behind the last
  pub done_at_end : (place : ℕ) (inside : Bool) (standing : Standing) → length worker.items ≤ place → IsUnderWay worker place inside standing → HasDoneLines worker standing.entries
  done_at_end place inside standing past way =
      let none : drop place worker.items ≡ [] = drop_of_length-le worker.items {i = place} past in
      record {
        deeds = sym (append-nil (map deed_of standing.entries)) ∙ (rw none at way.deeds);
        made = way.made;
        in_step = way.in_step;
      }

  -- and then no activity is open
  pub idle_at_end : (place : ℕ) (inside : Bool) (standing : Standing) → length worker.items ≤ place → IsUnderWay worker place inside standing → standing.active ≡ None
  idle_at_end place inside standing past way =
      let none : drop place worker.items ≡ [] = drop_of_length-le worker.items {i = place} past in
      (way.outside (rw none at way.matches)).1

  module _ (place : ℕ) (inside : Bool) (old : Standing) (way : IsUnderWay worker place inside old) where
    -- a block is opened
    begun_on : drop place worker.items ≡ Begin ∷ drop (suc place) worker.items → IsUnderWay worker (suc place) true old
    begun_on here =
        let matches : BlocksMatch inside (Begin ∷ drop (suc place) worker.items) false = rw here at way.matches in
        record {
          deeds = rw here at way.deeds;
          made = way.made;
          in_step = way.in_step;
          begun = way.begun + 1;
          block = way.begun + 1;
          done = way.done;
          blocks = rw here at way.blocks;
          many = way.many;
          matches = matches.1;
          outside = λ out. cc;
          within = omega arith;
          earlier = λ i less. omega (arith, way.earlier i less);
          latest = way.latest;
          level = λ some i entry g there same drawn. absurd (omega (arith, same, way.earlier i (slice_get_within old.entries i entry there)));
        }

    -- and ended
    ended_on : (new : Standing) → new ≡ record old { active = None } → drop place worker.items ≡ End ∷ drop (suc place) worker.items → IsUnderWay worker (suc place) false new
    ended_on new closed here =
        let matches : BlocksMatch inside (End ∷ drop (suc place) worker.items) false = rw here at way.matches in
        subst (IsUnderWay worker (suc place) false) (sym closed) (record {
          deeds = rw here at way.deeds;
          made = way.made;
          in_step = way.in_step;
          begun = way.begun;
          block = 0;
          done = way.done;
          blocks = rw here at way.blocks;
          many = way.many;
          matches = matches.1;
          outside = λ out. (refl, refl);
          within = omega arith;
          earlier = way.earlier;
          latest = λ a active. absurd (none-some a active);
          level = λ some. absurd (some refl);
        })

    -- a call goes on behind all that was drawn before
    risen : (active : Option ℕ) → old.active ≡ active → (generation : ℕ) → GoesOn active old.entries generation → IsLatest generation old.entries
    risen (Some a) now_active generation on = λ i entry there g drawn. omega (arith, on, way.latest a now_active i entry there g drawn)
    risen None now_active generation on = on

    -- and in the activity of its block
    levelled : (active : Option ℕ) → old.active ≡ active → (generation : ℕ) → GoesOn active old.entries generation → way.block ≢ 0
        → (i : ℕ) (entry : Entry Op Reply) (g : ℕ) → slice_get old.entries i ≡ Some entry → block_at worker i ≡ way.block → entry.generation ≡ Some g → g ≡ generation
    levelled (Some a) now_active generation on some i entry g there same drawn = sym (same_Some a g (sym now_active ∙ way.level some i entry g there same drawn)) ∙ sym on
    levelled None now_active generation on some i entry g there same drawn = absurd (none-some g (sym now_active ∙ way.level some i entry g there same drawn))

    -- in a block an activity stays open
    stays : (b : Bool) → inside ≡ b → way.block ≢ 0 → b ≡ true
    stays true is some = refl
    stays false is some = absurd (some (way.outside is).0)

    -- what follows of when an act was made
    record IsPlaced (entry : Entry Op Reply) (after : Option ℕ) : Type 0 where
      generation : HasGeneration entry.act entry.generation
      risen_to : (g : ℕ) → entry.generation ≡ Some g → IsLatest g old.entries
      level_to : (g : ℕ) → entry.generation ≡ Some g → way.block ≢ 0 → (i : ℕ) (other : Entry Op Reply) (f : ℕ) → slice_get old.entries i ≡ Some other → block_at worker i ≡ way.block → other.generation ≡ Some f → f ≡ g
      left : inside ≡ false → after ≡ None
      open_in : (a : ℕ) → after ≡ Some a → entry.generation ≡ Some a
      stays_open : way.block ≢ 0 → (f : ℕ) → entry.generation ≡ Some f → after ≡ Some f
      was_open : way.block ≢ 0 → (i : ℕ) (other : Entry Op Reply) (f : ℕ) → slice_get old.entries i ≡ Some other → block_at worker i ≡ way.block → other.generation ≡ Some f → after ≡ Some f

    shut : (b : Bool) → inside ≡ b → (g : ℕ) → inside ≡ false → left_open b g ≡ None
    shut true is g out = let no : true ≡ false = sym is ∙ out in cc
    shut false is g out = refl

    open_as : (b : Bool) (g a : ℕ) → left_open b g ≡ Some a → g ≡ a
    open_as true g a now_active = same_Some g a now_active
    open_as false g a now_active = absurd (none-some a now_active)

    placed_call : (entry : Entry Op Reply) (after : Option ℕ) → HasGeneration entry.act entry.generation → IsTimedCall inside old entry.generation after → IsPlaced entry after
    placed_call entry after has timed =
        let now = timed.generation in
        let is : (g : ℕ) → entry.generation ≡ Some g → now ≡ g = λ g drawn. same_Some now g (sym timed.drawn_in ∙ drawn) in
        let now_active : way.block ≢ 0 → after ≡ Some now = λ some. timed.left ∙ ap (λ b. left_open b now) (stays inside refl some) in
        let level = levelled old.active refl now timed.goes_on in
        record {
          generation = has;
          risen_to = λ g drawn. subst (λ n. IsLatest n old.entries) (is g drawn) (risen old.active refl now timed.goes_on);
          level_to = λ g drawn some i other f there same before. level some i other f there same before ∙ is g drawn;
          left = λ out. timed.left ∙ shut inside refl now out;
          open_in = λ a same. timed.drawn_in ∙ ap Some (open_as inside now a (sym timed.left ∙ same));
          stays_open = λ some f drawn. now_active some ∙ ap Some (is f drawn);
          was_open = λ some i other f there same before. now_active some ∙ ap Some (sym (level some i other f there same before));
        }

    placed_alone : (entry : Entry Op Reply) (after : Option ℕ) → HasGeneration entry.act entry.generation → (inside ≡ true → ⊥) → entry.generation ≡ None → after ≡ None → IsPlaced entry after
    placed_alone entry after has out none shut_after =
        let never : way.block ≢ 0 → ⊥ = λ some. out (stays inside refl some) in
        record {
          generation = has;
          risen_to = λ g drawn. absurd (none-some g (sym none ∙ drawn));
          level_to = λ g drawn. absurd (none-some g (sym none ∙ drawn));
          left = λ free. shut_after;
          open_in = λ a same. absurd (none-some a (sym shut_after ∙ same));
          stays_open = λ some. absurd (never some);
          was_open = λ some. absurd (never some);
        }

    placed : (act : Act Op) (entry : Entry Op Reply) (after : Option ℕ) → entry.act ≡ act → (inside ≡ true → IsCall act) → IsTimed act inside old entry.generation after → IsPlaced entry after
    placed (Call op) entry after is call timed = placed_call entry after (rw (is, timed.drawn_in) refl) timed
    placed (Swap to) entry after is call timed = placed_alone entry after (rw (is, timed.drawn_in) refl) call timed.drawn_in timed.left

    -- the block of the next line
    block_next : (line : CallLine) → drop place worker.items ≡ Line line ∷ drop (suc place) worker.items → block_at worker (length old.entries) ≡ way.block
    block_next line here =
        let rest = drop (suc place) worker.items in
        let blocks : blocks_of worker.items ≡ way.done ++ way.block ∷ blocks_from way.begun way.block rest = rw here at way.blocks in
        ap (λ (n : ℕ). get_or (blocks_of worker.items) n 0) (sym way.many) ∙ ap (λ (all : List ℕ). get_or all (length way.done) 0) blocks ∙ get_or-append_seam way.done way.block (blocks_from way.begun way.block rest) 0

    -- the deeds after one more
    deeds_after : (line : CallLine) (new : Standing) → (answers : AnswersLine line worker.proc inside old new) → drop place worker.items ≡ Line line ∷ drop (suc place) worker.items
        → map deed_of new.entries ++ deeds_from (length new.entries) (call_lines (drop (suc place) worker.items)) ≡ deeds_from 0 (call_lines worker.items)
    deeds_after line new answers here =
        let entry = answers.entry in
        let rest = call_lines (drop (suc place) worker.items) in
        let before : map deed_of old.entries ++ record { index = length old.entries; object = line.object; act = line.act } ∷ deeds_from (length old.entries + 1) rest ≡ deeds_from 0 (call_lines worker.items) = rw here at way.deeds in
        let count : length new.entries ≡ length old.entries + 1 = ap length answers.drawn ∙ length_push old.entries entry in
        ap (λ (all : List (Entry Op Reply)). map deed_of all ++ deeds_from (length new.entries) rest) answers.drawn
        ∙ ap (λ (n : ℕ). map deed_of (old.entries ++ entry ∷ []) ++ deeds_from n rest) count
        ∙ ap (λ (all : List Deed). all ++ deeds_from (length old.entries + 1) rest) (map-append deed_of old.entries (entry ∷ []))
        ∙ append_assoc (map deed_of old.entries) (deed_of entry ∷ []) (deeds_from (length old.entries + 1) rest)
        ∙ ap (λ (deed : Deed). map deed_of old.entries ++ deed ∷ deeds_from (length old.entries + 1) rest) answers.deed
        ∙ before

    -- the new entry is in step with an earlier one
    step_here : (line : CallLine) (new : Standing) → (answers : AnswersLine line worker.proc inside old new) → drop place worker.items ≡ Line line ∷ drop (suc place) worker.items
        → (i j : ℕ) (first last : Entry Op Reply) (former generation : ℕ) → slice_get old.entries i ≡ Some first → j ≡ length old.entries → last ≡ answers.entry → first.generation ≡ Some former → last.generation ≡ Some generation
        → AreInStep (block_at worker i) (block_at worker j) former generation
    step_here line new answers here i j first last former generation there at is was drawn =
        let entry = answers.entry in
        let matches : BlocksMatch inside (Line line ∷ drop (suc place) worker.items) false = rw here at way.matches in
        let fits = placed line.act entry new.active (ap (λ (deed : Deed). deed.act) answers.deed) matches.0 answers.timed in
        let own : entry.generation ≡ Some generation = sym (ap (λ (e : Entry Op Reply). e.generation) is) ∙ drawn in
        let block : block_at worker j ≡ way.block = ap (block_at worker) at ∙ block_next line here in
        record {
          risen = fits.risen_to generation own i first there former was;
          level = λ some same. fits.level_to generation own (λ none. some (block ∙ none)) i first former there (same ∙ block) was;
        }

    -- a line is answered
    answered_on : (line : CallLine) (new : Standing) → AnswersLine line worker.proc inside old new → drop place worker.items ≡ Line line ∷ drop (suc place) worker.items → IsUnderWay worker (suc place) inside new
    answered_on line new answers here =
        let entry = answers.entry in
        let rest = drop (suc place) worker.items in
        let matches : BlocksMatch inside (Line line ∷ rest) false = rw here at way.matches in
        let act : entry.act ≡ line.act = ap (λ (deed : Deed). deed.act) answers.deed in
        let fits = placed line.act entry new.active act matches.0 answers.timed in
        let blocks : blocks_of worker.items ≡ way.done ++ way.block ∷ blocks_from way.begun way.block rest = rw here at way.blocks in
        let block_here = block_next line here in
        let count : length new.entries ≡ length old.entries + 1 = ap length answers.drawn ∙ length_push old.entries entry in
        let found : (i : ℕ) (one : Entry Op Reply) → slice_get new.entries i ≡ Some one → (slice_get old.entries i ≡ Some one) ⊎ ((i ≡ length old.entries) × (one ≡ entry)) = λ i one there. at_last_or_before old.entries entry i one (rw answers.drawn at there) in
        record {
          deeds = deeds_after line new answers here;
          made = rw answers.drawn (All-push (IsMadeBy worker) old.entries entry way.made (record { processor = answers.processor; kept = answers.kept; generation = fits.generation }));
          in_step = λ i j first last less one other. elim (found j last other) [
            | inl before ↦ elim (found i first one) [
              | inl earlier ↦ way.in_step i j first last less earlier before
              | inr late ↦ absurd (omega (arith, late.0, slice_get_within old.entries j last before, less))
            ]
            | inr late ↦ elim (found i first one) [
              | inl earlier ↦ λ former generation was drawn. step_here line new answers here i j first last former generation earlier late.0 late.1 was drawn
              | inr later ↦ absurd (omega (arith, late.0, later.0, less))
            ]
          ];
          begun = way.begun;
          block = way.block;
          done = way.done ++ way.block ∷ [];
          blocks = blocks ∙ sym (append_assoc way.done (way.block ∷ []) (blocks_from way.begun way.block rest));
          many = omega (arith, length_push way.done way.block, way.many, count);
          matches = matches.1;
          outside = λ out. ((way.outside out).0, fits.left out);
          within = way.within;
          earlier = λ i less. elim (below_or_last i (length old.entries) (omega (arith, less, count))) [
            | inl below ↦ way.earlier i below
            | inr last ↦ omega (arith, ap (block_at worker) last, block_here, way.within)
          ];
          latest = λ a now_active i one there g drawn. elim (found i one there) [
            | inl before ↦ fits.risen_to a (fits.open_in a now_active) i one before g drawn
            | inr late ↦ omega (arith, same_Some g a (sym drawn ∙ ap (λ (e : Entry Op Reply). e.generation) late.1 ∙ fits.open_in a now_active))
          ];
          level = λ some i one g there same drawn. elim (found i one there) [
            | inl before ↦ fits.was_open some i one g before same drawn
            | inr late ↦ fits.stays_open some g (sym (ap (λ (e : Entry Op Reply). e.generation) late.1) ∙ drawn)
          ];
        }

  -- whatever the item is
  followed_on : (place : ℕ) (inside after : Bool) (item : Item) (old new : Standing) → drop place worker.items ≡ item ∷ drop (suc place) worker.items → IsUnderWay worker place inside old → Follows item worker.proc inside after old new → IsUnderWay worker (suc place) after new
  followed_on place inside after Begin old new here way follows = rw (follows.0, follows.1) (begun_on place inside old way here)
  followed_on place inside after End old new here way follows = rw follows.0 (ended_on place inside old way new follows.1 here)
  followed_on place inside after (Line line) old new here way follows = rw follows.0 (answered_on place inside old way line new follows.1 here)

  pub under_way_on : (place : ℕ) (inside after : Bool) (item : Item) (old new : Standing) → slice_get worker.items place ≡ Some item → IsUnderWay worker place inside old → Follows item worker.proc inside after old new → IsUnderWay worker (suc place) after new
  under_way_on place inside after item old new found way follows =
      let next : place + 1 ≡ suc place = omega arith in
      followed_on place inside after item old new (drop_at worker.items place item found ∙ ap (λ n. item ∷ drop n worker.items) next) way follows
