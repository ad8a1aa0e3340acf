-- A plan is what a table asks of a start, and its passes are the first of the system.
use Rattle.std.proofs.Common.{◌≡◌, List, [], length, slice_index, refl, ap, ◌∙◌}
use Rattle.std.proofs.lemmas.Bool.{ltb-true}
use Rattle.k42_places.specs.Places.{EachPlace}
use Rattle.phase_core.specs.Stages.{is_out}
use Rattle.k42_board.specs.Plan.{LayoutWords, layouts_of}
use Rattle.k42_board.specs.Seen.{PassSeen, SysSeen, keeping}
use Rattle.k42_board.specs.Starting.{IsStart, IsStarted}
use Rattle.k42_board.specs.declared.view.PassView.{PassView}
use Rattle.k42_rule.specs.Opened.{IsOpened}
use Rattle.k42_rule.specs.Tags.{HasTags, HaveTags}
use Rattle.k42_runtime.specs.Plans.{PlanSeen, IsSoundPlan}
use Rattle.k42_runtime.specs.Systems.{IsFirst, HasStarted, is_live_by}

-- a type that has all layouts of each of its objects has them for these
pub have_all : {S L P O R : Type 0} (words : LayoutWords S L P O R) → ((layout : L) → HasTags words.shapes words.has_tag layout)
    → (layouts : List L) → HaveTags words.shapes words.has_tag layouts
have_all words all layouts o layout at = all layout

module _ {S L P O R : Type 0} (words : LayoutWords S L P O R) where
  pub is_start : (plan : PlanSeen L) → IsSoundPlan (is_live_by words.shapes words.tag_of) plan
      → IsStart words.shapes words.tag_of plan.objects plan.procs plan.callers
  is_start plan sound = record {
    turns = sound.turns;
    some_objects = sound.some_objects;
    few_objects = sound.few_objects;
    live = λ o layout at. ltb-true (words.tag_of layout) (length (words.shapes layout)) (sound.live o layout at);
  }

  -- a system that was started so
  pub started : (plan : PlanSeen L) (sys : SysSeen L) (passes : List (PassSeen P O R)) → IsSoundPlan (is_live_by words.shapes words.tag_of) plan
      → IsStarted plan.objects plan.procs plan.callers sys passes → sys.keep ≡ plan.keep
      → IsOpened (layouts_of words plan.procs plan.callers) plan.objects plan.callers
      → HasStarted words plan (record { sys = sys; plan = plan }) passes
  started plan sys passes sound is keeps opened = record {
    plan_is = refl;
    planned = record { sound = sound; procs = is.procs_are; layouts = is.layouts_are; shaped = is.shaped; callers = is.callers_are; keep = keeps };
    opened = opened;
    many = is.dealt.many;
    each = each;
  } where
    each : EachPlace (λ c pass. IsFirst (record { sys = sys; plan = plan }) c (slice_index plan.callers c) pass) passes
    each c pass at =
        let dealt = is.dealt.each c pass at in record {
          here = record {
            ours = is.passes_are c pass at;
            out = ap (λ (v : PassView P O R). is_out v.visitor.place) dealt.new;
            held = ap (λ (v : PassView P O R). v.taker.held) dealt.new;
            notes = ap (λ (v : PassView P O R). v.notes) dealt.new;
          };
          new = dealt.new;
          rows = dealt.rows;
          keep = dealt.keeps ∙ ap keeping keeps;
        }
