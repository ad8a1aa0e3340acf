use Rattle.std.proofs.Common.{rules, refl, ◌≡◌, ◌<◌, nat_lt, true, List, None, length, arith, ap, sym, ◌∙◌, subst}
use Rattle.std.proofs.lemmas.List.{get_or_default}
use Rattle.std.specs.Option.{unwrap_or}
use Rattle.phase_core.specs.State.{note_at}
use Rattle.k42_board.specs.Seen.{Own}
use Rattle.std.proofs.lemmas.Bool.Decides.{nat_tests}
use Rattle.k42_board.proofs.Notings.{note_there}
use Rattle.k42_board.specs.Freeing.{number_noted}
use Rattle.k42_board.specs.Queueing.{IsTied}
use Rattle.k42_board.specs.Views.{pass_in}
use Rattle.k42_kinds.specs.declared.entry.Entry.{Entry}
use Rattle.k42_rule.specs.Keeping.{HasKept}
use Rattle.k42_rule.proofs.Freed.{free_keeps, free_mirrors}
use Rattle.k42_rule.proofs.ShapesKept.{seat_shapes, known_on, fits_on}
use Rattle.k42_rule.proofs.freeing.free.Goals as goal

pub invariant_of-pass : goal.invariant_of-pass
invariant_of-pass g c =
    let pass = c.pass.inside in let was = c.pass.invariant in let v = pass_in pass.seat.me.0 in
    let me = c.free_word-found.new.seat.me in let o = c.args.object in let found = c.free_word-found.result in let number = c.unwrap_or-number.result in
    let seat = c.free_word-found.ensures.alone in let same = seat_shapes me v _ seat refl in
    let inside : o < length pass.noted.items = search (rules, note_there) in
    let number_is : number ≡ number_noted v o =
    c.unwrap_or-number.ensures
    ∙ ap (λ noted. unwrap_or noted 0) (c.index.ensures ∙ get_or_default pass.noted.items o c.index.result.now None inside ∙ ap (λ (own : Own). note_at own.noted o) was.0.own_is) in
    let less : nat_lt found number ≡ true = grind (arith, nat_tests, c.if-found-from.true) in (
      free_mirrors v _ was.0.own_is me o found number seat less number_is was.0.out was.0.told,
      was.1,
      was.2,
      was.3,
      was.4,
      was.5,
      was.6,
      was.7,
      known_on v.shapes _ _ _ same was.8,
      was.9,
      was.10,
      was.11,
      was.12,
      subst (λ (mine : List (Entry _ _)). HasKept (record { what = pass.keep; given = pass.given; since = pass.since }) pass.number pass.home mine pass.clock pass.kept) (sym (free_keeps v me o found seat)) was.13,
      was.14,
      fits_on v.shapes _ _ _ _ _ same was.15,
      was.16,
      was.17,
      subst (λ table. IsTied table pass.post.me.view.client) (sym c.free_word-found.ensures.table) was.18,
      was.19,
      was.20,
    )

pub index_mut-requires : goal.index_mut-requires
index_mut-requires g c =
    let there = c.free_word-found.ensures.takes.finds.there in let long = c.pass.inside.freeing.ok.0 in
    let same = ap (λ (own : Own). length own.freeing) c.pass.invariant.0.own_is in omega (arith, there, long, same)

pub returns-then-found-from : goal.returns-then-found-from
returns-then-found-from g c = record {
  same = search rules;
  takes = rw (← c.pass.view_is, ← c.sys.view_is) c.free_word-found.ensures.takes;
}

pub returns-else-found-from : goal.returns-else-found-from
returns-else-found-from g c = record {
  same = search rules;
  takes = rw (← c.pass.view_is, ← c.sys.view_is) c.free_word-found.ensures.takes;
}
