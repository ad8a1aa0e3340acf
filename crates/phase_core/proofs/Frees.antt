-- A quiet caller that frees the rows that it noted keeps every fact.
use Rattle.std.proofs.Common.{◌≡◌, ℕ, ◌+◌, ◌<◌, ◌≤◌, ◌∙◌, Bool, true, false, List, Some, set, length-set, sym, refl, ⊎_elim, arith}
use Rattle.std.specs.List.{slice_get}
use Rattle.std.proofs.lemmas.List.{get_or-set_same, get_or-set_other}
use Rattle.std.proofs.lemmas.Option.{same_Some, slice_get_within}
use Rattle.std.proofs.lemmas.Bool.{cases_lt}
use Rattle.gen_core.specs.declared.state.GraceAt.TheVariants as graces
use Rattle.gen_core.specs.Plain.{Caller}
use Rattle.gen_core.specs.Events as turns
use Rattle.gen_core.specs.Sound.{IsHolder}
use Rattle.gen_core.proofs.Frames.{holder_from_grace}
use Rattle.gen_core.proofs.Reached.{holds_from}
use Rattle.phase_core.specs.declared.caller.SwapAt.{SwapAt}
use Rattle.phase_core.specs.declared.caller.SwapAt.TheVariants.{Drained}
use Rattle.phase_core.specs.Callers.{IsOlder, IsSwap, IsFreeing, IsVisitor}
use Rattle.phase_core.specs.Objects.{IsObject}
use Rattle.phase_core.specs.Outlooks.{Outlook, Scene}
use Rattle.phase_core.specs.Plain.{Object, Visitor, Phases}
use Rattle.phase_core.specs.Sound.{IsInScene}
use Rattle.phase_core.specs.Stages.{named_by}
use Rattle.phase_core.specs.State.{note_at, span_at, put_object, put_visitor}
use Rattle.phase_core.proofs.Pairs.{by_object}
use Rattle.phase_core.proofs.Looks.{looking, keeps_look}

abbrev pub freed_look : Outlook → ℕ → Outlook
freed_look look n = record look { freed = n }

module _ (scene : Scene) (s : Phases) (h : IsInScene scene s) (c : ℕ) (g : Caller) (x : Visitor)
    (at_g : slice_get s.turns.callers c ≡ Some g) (at_x : slice_get s.callers c ≡ Some x)
    (o : ℕ) (k : Object) (at_o : slice_get s.objects o ≡ Some k)
    (quiet : g.grace ≡ graces.Quiet) (n : ℕ) (note : note_at x.noted o ≡ Some n) (more : k.freed < n) where
  known : IsVisitor scene c g x
  known = h.visitors c g x at_g at_x

  object : IsObject scene.course.procs scene.course.callers (scene.looks o) o k
  object = h.objects o k at_o

  held : (scene.course.holder ≡ Some c) × IsHolder scene.course g
  held = let t = holder_from_grace scene.course s.turns h.in_course c g at_g (λ idle. absurd (cc)) in (holds_from scene.course.holder c t.0, t.1)

  at_stage : scene.course.stage ≡ graces.Quiet
  at_stage = sym held.1.grace ∙ quiet

  noted : (scene.looks o).noted ≡ Some n
  noted = sym (known.frees_alone.noted held.0 o) ∙ note

  -- nobody was active before the grace
  none_older : (d : ℕ) (z : Caller) → slice_get s.turns.callers d ≡ Some z → IsOlder scene.course z → ⊥
  none_older d z at_z older =
      let active : z.active ≡ Some scene.course.base = older (rw at_stage refl) in
      let step : scene.course.base ≡ scene.course.base + 1 = rw at_stage at (h.in_course.activities_in_step d z at_z scene.course.base active) in
      omega (arith, step)

  unsettled : (scene.looks o).settled ≡ false
  unsettled = by_test (scene.looks o).settled refl where
    by_test : (b : Bool) → (scene.looks o).settled ≡ b → b ≡ false
    by_test true e =
        let all = object.freed_rows.settled e in
        let most = object.freed_rows.noted n noted in
        absurd (omega (arith, all, most, more, object.bits_follow.freed))
    by_test false e = refl

  IsSwap-freed : (d : ℕ) (z : Caller) (swap : SwapAt) → IsSwap scene d z swap → IsSwap (looking scene o (freed_look (scene.looks o) n)) d z swap
  IsSwap-freed d z swap old =
      let look : Outlook = freed_look (scene.looks o) n in
      record {
        there = old.there;
        owned = by_object (λ q l. named_by swap ≡ Some q → (l.swapper ≡ Some d) × (l.stage ≡ swap)) scene.looks o look (old.owned o) (λ q other. old.owned q);
        owner = by_object (λ q l. l.swapper ≡ Some d → named_by swap ≡ Some q) scene.looks o look (old.owner o) (λ q other. old.owner q);
        inactive = old.inactive;
        grace = old.grace;
        settled = by_object (λ q l. swap ≡ Drained q → l.settled ≡ turns.is_idle z.grace) scene.looks o look
            (old.settled o) (λ q other. old.settled q);
      }

  -- the pair of another object stays, that of this one is what was freed
  span_here : span_at (set x.freeing o (k.freed, n)) o ≡ (k.freed, n)
  span_here =
      get_or-set_same x.freeing o (k.freed, n) (0, 0)
      (rw (known.frees_alone.many_freeing, ← h.many_objects) (slice_get_within s.objects o k at_o))

  pub keeps_freed : IsInScene (looking scene o (freed_look (scene.looks o) n))
      (put_object (put_visitor s c (record x { freeing = set x.freeing o (k.freed, n) })) o (record k { freed = n }))
  keeps_freed =
      let look : Outlook = freed_look (scene.looks o) n in
      let spans : List (ℕ × ℕ) = set x.freeing o (k.freed, n) in
      keeps_look scene s h c g x at_g at_x o k at_o look x.noted spans x.swap (record k { freed = n })
      (record {
        bits_follow = record {
          incarnation = object.bits_follow.incarnation;
          freed = refl;
          swap = object.bits_follow.swap;
          named = object.bits_follow.named;
          swapper_there = object.bits_follow.swapper_there;
          bits = object.bits_follow.bits;
          last = object.bits_follow.last;
          layout = object.bits_follow.layout;
          few = object.bits_follow.few;
        };
        within = object.within;
        many_entries = object.many_entries;
        entries_follow = object.entries_follow;
        freed_rows = record {
          freed = object.freed_rows.noted n noted;
          freed_entries = object.freed_rows.noted_entries n noted;
          noted = object.freed_rows.noted;
          noted_entries = object.freed_rows.noted_entries;
          settled = λ e. let not = unsettled in absurd (cc);
          stage = object.freed_rows.stage;
        };
      })
      refl
      (record {
        uncounted = λ z old. (refl, record { draining = old.draining; not_closed = old.not_closed });
        tracked = λ d i y at_y tracked old. (refl, old);
        row = λ d z i at_z old. record {
          kept = ⊎_elim (λ below. absurd (none_older d z at_z (old.older n noted below))) (λ above. above) (cases_lt i n);
          recent = old.recent;
          present = old.present;
          older = old.older;
        };
      })
      (IsSwap-freed c g x.swap known.swap_alone)
      (record {
        many_noted = known.frees_alone.many_noted;
        many_freeing = length-set x.freeing o (k.freed, n) ∙ known.frees_alone.many_freeing;
        noted = λ holds. by_object (λ q l. note_at x.noted q ≡ l.noted) scene.looks o look (known.frees_alone.noted holds o) (λ q other. known.frees_alone.noted holds q);
        freeing = by_object (λ q l. (span_at spans q).0 < (span_at spans q).1
            → (scene.course.holder ≡ Some c) × ((span_at spans q).1 ≤ l.freed) × (l.noted ≡ Some (span_at spans q).1) × (l.settled ≡ false))
            scene.looks o look
            (rw span_here (λ some. (held.0, omega arith, noted, unsettled)))
            (λ q other. rw (get_or-set_other x.freeing o q (k.freed, n) (0, 0) other) (known.frees_alone.freeing q));
      })
      (λ d z y other old. IsSwap-freed d z y.swap old)
      (λ d y other old. record {
        many_noted = old.many_noted;
        many_freeing = old.many_freeing;
        noted = λ holds. absurd (other (same_Some d c (sym holds ∙ held.0)));
        freeing = λ q some. absurd (other (same_Some d c (sym (free_holder d y old q some) ∙ held.0)));
      })
    where
      free_holder : (d : ℕ) (y : Visitor) → IsFreeing scene d y → (q : ℕ) → (span_at y.freeing q).0 < (span_at y.freeing q).1
          → scene.course.holder ≡ Some d
      free_holder d y old q some = (old.freeing q some).0
