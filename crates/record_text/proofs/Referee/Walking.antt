-- A worker's way through its items.
use Rattle.std.proofs.Common.{◌≡◌, ◌≢◌, ℕ, ◌+◌, ◌≤◌, Bool, true, false, List, [], ◌∷◌, ◌++◌, length, drop, refl, sym, ap, ◌∙◌, inl, inr, arith}
use Rattle.std.specs.Prelude.{Option, Some, None, slice_get, slice_index_or, if◌then◌else◌}
use Rattle.std.specs.Bool.{Decides}
use Rattle.std.proofs.lemmas.List.{length-append}
use Rattle.std.proofs.Math.ListN.{drop_of_length-le}
use Rattle.std.proofs.lemmas.Option.{same_Some}
use Rattle.script_text.specs.Lawful.{call_lines}
use Rattle.script_text.specs.declared.script.CallLine.{CallLine}
use Rattle.script_text.specs.declared.script.Item.{Item}
use Rattle.script_text.specs.declared.script.Item.TheVariants.{Begin, End, Line}
use Rattle.record_text.specs.Told.{blocks_from, blocks_of}
use Rattle.record_text.specs.Referee.Courses.{IsWalked, StandsAtLine, IsInStepWith, TellsAt, Tells, TellsInBlock, open_block}
use Rattle.record_text.specs.declared.judging.course.Course.{Course}
use Rattle.k42_places.proofs.Appended.{slice_get-append_left, slice_get-append_seam, at_push}
use Rattle.k42_places.proofs.Rests.{drop_at, at_drop, rest_drop, none_drop, index_drop}

-- before the first item
pub walked_at_start : (items : List Item) (course : Course) → course.at ≡ 0 → course.in_block ≡ false → course.last ≡ 0 → course.of_block ≡ None → IsWalked items [] course
walked_at_start items course at outside last none = record {
  begun = 0;
  calls = rw at refl;
  blocks = rw (at, outside) refl;
  opened = λ is. cc (is, outside);
  risen = λ place generation there. cc there;
  reached = inl last;
  within = λ place generation there. cc there;
  level = λ place generation there. cc there;
  said = λ generation is. cc (is, none);
}

module _ (items : List Item) (told : List (Option ℕ)) (course : Course) (walked : IsWalked items told course) where
  -- a block is begun
  pub walked_begin : slice_get items course.at ≡ Some Begin → IsWalked items told (record { at = course.at + 1; in_block = true; last = course.last; of_block = None })
  walked_begin here =
      let left = drop_at items course.at Begin here in
      record {
        begun = walked.begun + 1;
        calls = sym (ap call_lines left) ∙ walked.calls;
        blocks = sym (ap (blocks_from walked.begun (open_block course walked.begun)) left) ∙ walked.blocks;
        opened = λ _. omega arith;
        risen = walked.risen;
        reached = walked.reached;
        within = λ place generation there. omega (arith, walked.within place generation there);
        level = λ place generation there same _. absurd (omega (arith, walked.within place generation there, same));
        said = λ generation is. cc is;
      }

  -- it is ended
  pub walked_end : slice_get items course.at ≡ Some End → IsWalked items told (record { at = course.at + 1; in_block = false; last = course.last; of_block = course.of_block })
  walked_end here =
      let left = drop_at items course.at End here in
      record {
        begun = walked.begun;
        calls = sym (ap call_lines left) ∙ walked.calls;
        blocks = sym (ap (blocks_from walked.begun (open_block course walked.begun)) left) ∙ walked.blocks;
        opened = λ is. cc is;
        risen = walked.risen;
        reached = walked.reached;
        within = walked.within;
        level = walked.level;
        said = walked.said;
      }

  -- the line that comes next is that of the same place among the worker's lines
  pub next_call : (line : CallLine) → slice_get items course.at ≡ Some (Line line) → slice_get (call_lines items) (length told) ≡ Some line
  next_call line here = at_drop (call_lines items) (length told) line (call_lines (drop (course.at + 1) items)) (sym walked.calls ∙ ap call_lines (drop_at items course.at (Line line) here))

  -- and is the one of the record where they are one
  pub decides_next : (call line : CallLine) (result : Bool) → slice_get items course.at ≡ Some (Line call) → Decides result (call ≡ line) → Decides result (slice_get (call_lines items) (length told) ≡ Some line)
  decides_next call line result here decides =
      let next = next_call call here in
      (λ yes. next ∙ ap (λ (c : CallLine). Some c) (decides.0 yes), λ same. decides.1 (same_Some call line (sym next ∙ same)))

  -- at the end there is none
  pub no_call : drop course.at items ≡ [] → slice_get (call_lines items) (length told) ≡ None
  no_call none = none_drop (call_lines items) (length told) (sym walked.calls ∙ ap call_lines none)

  pub no_next : (line : CallLine) → length items ≤ course.at → Decides false (slice_get (call_lines items) (length told) ≡ Some line)
  no_next line past = (λ no. cc no, λ some. cc (some, no_call (drop_of_length-le items {i = course.at} past)))

  blocks_left : (line : CallLine) → slice_get items course.at ≡ Some (Line line) → drop (length told) (blocks_of items) ≡ open_block course walked.begun ∷ blocks_from walked.begun (open_block course walked.begun) (drop (course.at + 1) items)
  blocks_left line here = sym walked.blocks ∙ ap (blocks_from walked.begun (open_block course walked.begun)) (drop_at items course.at (Line line) here)

  -- it stands in the block that is open
  pub next_block : (line : CallLine) → slice_get items course.at ≡ Some (Line line) → slice_index_or (blocks_of items) (length told) 0 ≡ open_block course walked.begun
  next_block line here = index_drop (blocks_of items) (length told) (open_block course walked.begun) (blocks_from walked.begun (open_block course walked.begun) (drop (course.at + 1) items)) 0 (blocks_left line here)

  -- what the block that is open told, where it is open
  level_block : (b : Bool) → course.in_block ≡ b → (generation : ℕ) → (course.in_block ≡ true → (former : ℕ) → course.of_block ≡ Some former → former ≡ generation) → (earlier former : ℕ) → TellsAt told earlier former → (if b then walked.begun else 0) ≢ 0 → slice_index_or (blocks_of items) earlier 0 ≡ (if b then walked.begun else 0) → former ≡ generation
  level_block true is generation level earlier former there some same = level is former (walked.level earlier former there same some)
  level_block false is generation level earlier former there some same = absurd (some refl)

  -- a line behind those of a block is in step with them
  pub in_step : (standing : StandsAtLine items course) (generation : ℕ) → course.last ≤ generation → (course.in_block ≡ true → (former : ℕ) → course.of_block ≡ Some former → former ≡ generation) → IsInStepWith items told generation
  in_step standing generation risen level earlier former there =
      let block = next_block standing.line standing.here in
      record {
        risen = omega (arith, walked.risen earlier former there, risen);
        level = λ some same. level_block course.in_block refl generation level earlier former there (λ none. some (block ∙ none)) (same ∙ block);
      }

  -- and is not below the last generation
  pub not_below : (generation : ℕ) → IsInStepWith items told generation → course.last ≤ generation
  not_below generation step = elim walked.reached [
    | inl none ↦ rw none (omega arith)
    | inr tells ↦ (step tells.place course.last tells.there).risen
  ]

  open_is : course.in_block ≡ true → open_block course walked.begun ≡ walked.begun
  open_is is = rw is refl

  -- and has the generation of its block
  pub same_in_block : (standing : StandsAtLine items course) (generation former : ℕ) → course.in_block ≡ true → course.of_block ≡ Some former → IsInStepWith items told generation → former ≡ generation
  same_in_block standing generation former is of step =
      let tells = walked.said former of in
      let block = next_block standing.line standing.here ∙ open_is is in
      (step tells.place former tells.there).level (λ none. walked.opened is (sym block ∙ none)) (tells.inside ∙ sym block)

  length_told : (generation : Option ℕ) → length (told ++ generation ∷ []) ≡ length told + 1
  length_told generation = length-append told (generation ∷ [])

  tells_more : (generation : Option ℕ) (block former : ℕ) → TellsInBlock items told block former → TellsInBlock items (told ++ generation ∷ []) block former
  tells_more generation block former tells = record { place = tells.place; there = slice_get-append_left told (generation ∷ []) tells.place (Some former) tells.there; inside = tells.inside }

  told_more : (generation : Option ℕ) (former : ℕ) → Tells told former → Tells (told ++ generation ∷ []) former
  told_more generation former tells = record { place = tells.place; there = slice_get-append_left told (generation ∷ []) tells.place (Some former) tells.there }

  within_block : (b : Bool) → (if b then walked.begun else 0) ≤ walked.begun
  within_block true = omega arith
  within_block false = omega arith

  module _ (standing : StandsAtLine items course) where
    calls_on : (generation : Option ℕ) → call_lines (drop (course.at + 1) items) ≡ drop (length (told ++ generation ∷ [])) (call_lines items)
    calls_on generation = rw (length_told generation) (sym (rest_drop (call_lines items) (length told) standing.line _ (sym walked.calls ∙ ap call_lines (drop_at items course.at (Line standing.line) standing.here))))

    blocks_on : (generation : Option ℕ) → blocks_from walked.begun (open_block course walked.begun) (drop (course.at + 1) items) ≡ drop (length (told ++ generation ∷ [])) (blocks_of items)
    blocks_on generation = rw (length_told generation) (sym (rest_drop (blocks_of items) (length told) _ _ (blocks_left standing.line standing.here)))

    here_within : slice_index_or (blocks_of items) (length told) 0 ≤ walked.begun
    here_within = rw (next_block standing.line standing.here) (within_block course.in_block)

    within_on : (generation : Option ℕ) (place former : ℕ) → TellsAt (told ++ generation ∷ []) place former → slice_index_or (blocks_of items) place 0 ≤ walked.begun
    within_on generation place former there = elim (at_push told generation place (Some former) there) [
      | inl before ↦ walked.within place former before.1
      | inr last ↦ rw last.0 here_within
    ]

    -- a line that tells no generation is passed
    pub passed_silent : IsWalked items (told ++ None ∷ []) (record { at = course.at + 1; in_block = course.in_block; last = course.last; of_block = course.of_block })
    passed_silent = record {
      begun = walked.begun;
      calls = calls_on None;
      blocks = blocks_on None;
      opened = walked.opened;
      risen = λ place former there. elim (at_push told None place (Some former) there) [ inl before ↦ walked.risen place former before.1 | inr last ↦ cc last.1 ];
      reached = elim walked.reached [ inl none ↦ inl none | inr tells ↦ inr (told_more None course.last tells) ];
      within = within_on None;
      level = λ place former there same some. elim (at_push told None place (Some former) there) [ inl before ↦ walked.level place former before.1 same some | inr last ↦ cc last.1 ];
      said = λ former of. tells_more None walked.begun former (walked.said former of);
    }

    same_number : (generation former : ℕ) → Some generation ≡ Some former → former ≡ generation
    same_number generation former e = sym (same_Some generation former e)

    module _ (generation : ℕ) (step : IsInStepWith items told generation) where
      risen_on : (place former : ℕ) → TellsAt (told ++ Some generation ∷ []) place former → former ≤ generation
      risen_on place former there = elim (at_push told (Some generation) place (Some former) there) [
        | inl before ↦ (step place former before.1).risen
        | inr last ↦ omega (arith, same_number generation former last.1)
      ]

      last_tells : Tells (told ++ Some generation ∷ []) generation
      last_tells = record { place = length told; there = slice_get-append_seam told (Some generation) [] }

      -- a line that tells its generation is passed in a block
      pub passed_inside : course.in_block ≡ true → IsWalked items (told ++ Some generation ∷ []) (record { at = course.at + 1; in_block = course.in_block; last = generation; of_block = Some generation })
      passed_inside is =
          let block = next_block standing.line standing.here ∙ open_is is in
          record {
            begun = walked.begun;
            calls = calls_on (Some generation);
            blocks = blocks_on (Some generation);
            opened = walked.opened;
            risen = risen_on;
            reached = inr last_tells;
            within = within_on (Some generation);
            level = λ place former there same some. elim (at_push told (Some generation) place (Some former) there) [
              | inl before ↦ ap (λ (n : ℕ). Some n) (sym ((step place former before.1).level (λ none. some (sym block ∙ none)) (same ∙ sym block)))
              | inr last ↦ last.1
            ];
            said = λ former of. record { place = length told; there = slice_get-append_seam told (Some generation) [] ∙ ap (λ (g : Option ℕ). Some g) of; inside = block };
          }

      -- or outside
      pub passed_outside : course.in_block ≡ false → IsWalked items (told ++ Some generation ∷ []) (record { at = course.at + 1; in_block = course.in_block; last = generation; of_block = course.of_block })
      passed_outside is =
          let none : open_block course walked.begun ≡ 0 = rw is refl in
          let block = next_block standing.line standing.here ∙ none in
          record {
            begun = walked.begun;
            calls = calls_on (Some generation);
            blocks = blocks_on (Some generation);
            opened = walked.opened;
            risen = risen_on;
            reached = inr last_tells;
            within = within_on (Some generation);
            level = λ place former there same some. elim (at_push told (Some generation) place (Some former) there) [
              | inl before ↦ walked.level place former before.1 same some
              | inr last ↦ absurd (some (sym same ∙ ap (λ (n : ℕ). slice_index_or (blocks_of items) n 0) last.0 ∙ block))
            ];
            said = λ former of. tells_more (Some generation) walked.begun former (walked.said former of);
          }
