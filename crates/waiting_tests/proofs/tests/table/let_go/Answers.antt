use Rattle.std.proofs.Common.{ℕ, ◌<◌, [], ◌∷◌, length, not, cond, eqb, refl, sym, ap, ◌∙◌, subst}
use Rattle.std.specs.Prelude.{is_some}
use Rattle.std.specs.List.{filter}
use Rattle.std.proofs.lemmas.Bool.{eq-eqb}
use Rattle.gen_core.specs.Events as graces
use Rattle.phase_core.specs.Stages as swaps
use Rattle.k42_board.specs.Phases.{is_served}
use Rattle.k42_board.specs.declared.view.PassView.{PassView}
use Rattle.waiting_tests.proofs.tests.table.let_go.Goals as goal
use Rattle.k42_kinds.specs.declared.operation.Op.{Op}
use Rattle.k42_kinds.specs.declared.operation.Reply.{Reply}

pub returns : goal.returns
returns c =
    let is = c.unlock.ensures 0 in let was = c.requires.served in let n : ℕ = c.args.cell in let knows = is.takes.knows in
    record {
      served = record {
        ours = record {
          table = is.same.table ∙ was.ours.table;
          proc = subst (λ p. p < c.args.system.now.sys.procs) (sym (ap (λ (v : PassView _ Op Reply). v.turn.proc) knows)) was.ours.proc;
          waits = ap (λ (v : PassView _ Op Reply). length v.turn.waits) knows ∙ was.ours.waits;
          objects = ap (λ (v : PassView _ Op Reply). length v.visitor.noted) knows ∙ was.ours.objects;
          shapes = ap (λ (v : PassView _ Op Reply). v.shapes) knows ∙ was.ours.shapes;
          spans = ap (λ (v : PassView _ Op Reply). length v.visitor.freeing) knows ∙ was.ours.spans;
          queue = is.same.queue ∙ was.ours.queue;
          keep = (λ i. (is.same.keep i).what) ∙ was.ours.keep;
        };
        active = ap (λ (v : PassView _ Op Reply). is_some v.turn.active) knows ∙ was.active;
        grace = ap (λ (v : PassView _ Op Reply). graces.is_idle v.turn.grace) knows ∙ was.grace;
        swap = ap (λ (v : PassView _ Op Reply). swaps.is_idle v.visitor.swap) knows ∙ was.swap;
        served = ap (λ (v : PassView _ Op Reply). is_served v.visitor.place) knows ∙ was.served;
        held =
            ap (λ (v : PassView _ Op Reply). v.taker.held) knows ∙ ap (λ ns. filter (λ m. not (eqb m n)) ns) was.held
            ∙ ap (λ b. cond (not b) (n ∷ []) []) (eq-eqb n n refl);
        notes = ap (λ (v : PassView _ Op Reply). v.notes) knows ∙ was.notes;
      };
    }
