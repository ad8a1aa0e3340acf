use Rattle.std.proofs.Common.{rules, refl, ◌<◌, List, length, arith, sym, ap, ◌∙◌, subst}
use Rattle.phase_core.specs.declared.caller.SwapAt.{SwapAt}
use Rattle.k42_limits.specs.declared.TheConstants.{LAST_INCARNATION}
use Rattle.k42_places.specs.Places.{EachPlace}
use Rattle.k42_board.specs.declared.view.Row.{Row}
use Rattle.k42_board.specs.Queueing.{IsTied}
use Rattle.k42_board.specs.Seen.{Own}
use Rattle.phase_core.specs.Stages.{object_named}
use Rattle.k42_board.specs.Swapping.{next_entry}
use Rattle.std.specs.Option.{unwrap_or}
use Rattle.k42_board.specs.Views.{pass_in}
use Rattle.k42_kinds.specs.declared.entry.Entry.{Entry}
use Rattle.k42_rule.specs.Keeping.{HasKept}
use Rattle.k42_rule.proofs.Fitting.{fits_draining}
use Rattle.k42_rule.proofs.RoleTaken.{draining_named, draining_next, noted_anew, role_keeps, role_mirrors, role_shapes}
use Rattle.k42_rule.proofs.ShapesKept.{known_on, fits_on}
use Rattle.k42_rule.proofs.gracing.take_role.Goals as goal

pub note_all-requires-clause-rows : goal.note_all-requires-clause-rows
note_all-requires-clause-rows g c =
    let was = c.pass.invariant in
    subst (EachPlace (λ place (row : Row). row.incarnation < LAST_INCARNATION)) (sym (c.as_slice.ensures.value ∙ ap (λ (o : Own). o.rows) was.0.own_is)) c.take_role_word-found.ensures.takes.finds.rows

pub invariant_of-pass : goal.invariant_of-pass
invariant_of-pass g c =
    let pass = c.pass.inside in let was = c.pass.invariant in let v = pass_in pass.seat.me.0 in
    let same = role_shapes v c.take_role_word-found.new.seat.me c.take_role_word-found.result c.take_role_word-found.ensures.alone c.if-found-eq0.true in
    let swap_is = c.draining-pass-inside.ensures in let many = c.len-pass-inside.ensures ∙ pass.rows.ok.0 in
    let noted = noted_anew v _ was.0.own_is c.as_slice.result.now pass.noted.items c.as_mut_slice.result.now c.note_all.new.noted pass.noted.len c.as_slice.ensures.value refl c.as_mut_slice.ensures.value (search rules) c.note_all.ensures in (
      role_mirrors v _ was.0.own_is c.take_role_word-found.new.seat.me c.take_role_word-found.result _ c.draining-pass-inside.result c.len-pass-inside.result c.take_role_word-found.ensures.alone
          c.if-found-eq0.true was.0.out was.0.told noted swap_is many,
      was.1,
      was.2,
      was.3,
      (let same = ap object_named swap_is ∙ draining_named pass.swap in let few = was.4 in omega (arith, same, few)),
      (let same = ap (λ (swap : SwapAt). unwrap_or (next_entry swap) 0) swap_is ∙ draining_next pass.swap in let few = was.5 in omega (arith, same, few)),
      was.6,
      was.7,
      known_on v.shapes _ _ _ same was.8,
      was.9,
      omega (arith, many),
      (subst (λ (o : Own). 0 < length o.turn.waits) (sym was.0.own_is) c.take_role_word-found.ensures.takes.finds.procs, λ some. absurd (omega (arith, some))),
      omega arith,
      subst (λ (mine : List (Entry _ _)). HasKept (record { what = pass.keep; given = pass.given; since = pass.since }) pass.number pass.home mine pass.clock pass.kept) (sym (role_keeps v c.take_role_word-found.new.seat.me c.take_role_word-found.result c.take_role_word-found.ensures.alone c.if-found-eq0.true)) was.13,
      was.14,
      fits_on v.shapes _ _ _ _ _ same (fits_draining v.shapes pass.swap pass.turned pass.handed pass.last was.15 c.draining-pass-inside.result swap_is),
      was.16,
      was.17,
      subst (λ table. IsTied table pass.post.me.view.client) (sym c.take_role_word-found.ensures.table) was.18,
      was.19,
      was.20,
    )

pub returns-then-found-eq0 : goal.returns-then-found-eq0
returns-then-found-eq0 g c = record {
  same = search rules;
  takes = rw (← c.pass.view_is, ← c.sys.view_is) c.take_role_word-found.ensures.takes;
}

pub returns-else-found-eq0 : goal.returns-else-found-eq0
returns-else-found-eq0 g c = record {
  same = search rules;
  takes = rw (← c.pass.view_is, ← c.sys.view_is) c.take_role_word-found.ensures.takes;
}
