use Rattle.std.proofs.Common.{arith, ◌≡◌, IfOk, [], ◌∷◌, refl, sym, ap, subst, ◌∙◌}
use Rattle.k42_kinds.specs.declared.operation.Reply.{Reply}
use Rattle.co_any.specs.declared.part.AnyPart.TheVariants as parts
use Rattle.co_any.proofs.ReachedParts.{at_amount, at_indexed, at_copy, at_pages, at_places, at_dead, directory_takes, pages_take, reached_places, on_ok}
use Rattle.co_any.proofs.layout.AnyLayoutLayout.step_one.Goals as goal

pub step_one-requires-clause-takes : goal.step_one-requires-clause-takes
step_one-requires-clause-takes c = directory_takes c.args.self.now.kind c.args.self.now.tag c.args.op.now c.args.part.now c.requires.reached c.in-Indexed.names c.in-Indexed.is c.requires.takes

pub step_one-requires-clause-reached : goal.step_one-requires-clause-reached
step_one-requires-clause-reached c = record {
  procs = 1;
  proc = 0;
  parts = c.in-Indexed.names ∷ [];
  cell = 0;
  known = omega arith;
  whole = refl;
  needed = refl;
  there = refl;
}

pub step_one-requires-in-Places-clause-takes : goal.step_one-requires-in-Places-clause-takes
step_one-requires-in-Places-clause-takes c = pages_take c.args.self.now.kind c.args.self.now.tag c.args.op.now c.args.part.now c.requires.reached c.in-Places.places c.in-Places.is c.requires.takes

pub step_one-requires-in-Places-clause-reached : goal.step_one-requires-in-Places-clause-reached
step_one-requires-in-Places-clause-reached c = reached_places c.args.self.now.kind c.args.self.now.tag c.args.op.now c.args.part.now c.requires.reached c.in-Places.places c.in-Places.is

pub returns-in-Amount-clause-replied : goal.returns-in-Amount-clause-replied
returns-in-Amount-clause-replied c = c.step_counter.ensures.replied ∙ sym (at_amount c.args.self.now.kind c.args.self.now.tag c.args.op.now c.args.part.now c.requires.reached c.in-Amount.amount c.in-Amount.is).replied

pub returns-in-Amount-clause-moved : goal.returns-in-Amount-clause-moved
returns-in-Amount-clause-moved c = ap parts.Amount c.step_counter.ensures.moved ∙ sym (at_amount c.args.self.now.kind c.args.self.now.tag c.args.op.now c.args.part.now c.requires.reached c.in-Amount.amount c.in-Amount.is).moved

pub returns-in-Indexed-clause-replied : goal.returns-in-Indexed-clause-replied
returns-in-Indexed-clause-replied c =
    let steps = at_indexed c.args.self.now.kind c.args.self.now.tag c.args.op.now c.args.part.now c.requires.reached c.in-Indexed.names c.in-Indexed.is in
    subst (λ (given : Reply). IfOk c.step_one.result (λ reply. reply ≡ given)) (sym steps.replied) c.step_one.ensures.replied

pub returns-in-Indexed-clause-moved : goal.returns-in-Indexed-clause-moved
returns-in-Indexed-clause-moved c =
    let steps = at_indexed c.args.self.now.kind c.args.self.now.tag c.args.op.now c.args.part.now c.requires.reached c.in-Indexed.names c.in-Indexed.is in
    on_ok _ _ c.step_one.result (λ moved. ap parts.Indexed moved ∙ sym steps.moved) c.step_one.ensures.moved

pub returns-in-Copy-clause-replied : goal.returns-in-Copy-clause-replied
returns-in-Copy-clause-replied c =
    let steps = at_copy c.args.self.now.kind c.args.self.now.tag c.args.op.now c.args.part.now c.requires.reached c.in-Copy.names c.in-Copy.is in
    subst (λ (given : Reply). IfOk c.step_directory.result (λ reply. reply ≡ given)) (sym steps.replied) c.step_directory.ensures.replied

pub returns-in-Copy-clause-moved : goal.returns-in-Copy-clause-moved
returns-in-Copy-clause-moved c =
    let steps = at_copy c.args.self.now.kind c.args.self.now.tag c.args.op.now c.args.part.now c.requires.reached c.in-Copy.names c.in-Copy.is in
    on_ok _ _ c.step_directory.result (λ moved. ap parts.Copy moved ∙ sym steps.moved) c.step_directory.ensures.moved

pub returns-in-Pages-clause-replied : goal.returns-in-Pages-clause-replied
returns-in-Pages-clause-replied c =
    let steps = at_pages c.args.self.now.kind c.args.self.now.tag c.args.op.now c.args.part.now c.requires.reached c.in-Pages.pages c.in-Pages.is in
    subst (λ (given : Reply). IfOk c.step_pages.result (λ reply. reply ≡ given)) (sym steps.replied) c.step_pages.ensures.replied

pub returns-in-Pages-clause-moved : goal.returns-in-Pages-clause-moved
returns-in-Pages-clause-moved c =
    let steps = at_pages c.args.self.now.kind c.args.self.now.tag c.args.op.now c.args.part.now c.requires.reached c.in-Pages.pages c.in-Pages.is in
    on_ok _ _ c.step_pages.result (λ moved. ap parts.Pages moved ∙ sym steps.moved) c.step_pages.ensures.moved

pub returns-in-Places-clause-replied : goal.returns-in-Places-clause-replied
returns-in-Places-clause-replied c =
    let steps = at_places c.args.self.now.kind c.args.self.now.tag c.args.op.now c.args.part.now c.requires.reached c.in-Places.places c.in-Places.is in
    subst (λ (given : Reply). IfOk c.step_one-in-Places.result (λ reply. reply ≡ given)) (sym steps.replied) c.step_one-in-Places.ensures.replied

pub returns-in-Places-clause-moved : goal.returns-in-Places-clause-moved
returns-in-Places-clause-moved c =
    let steps = at_places c.args.self.now.kind c.args.self.now.tag c.args.op.now c.args.part.now c.requires.reached c.in-Places.places c.in-Places.is in
    on_ok _ _ c.step_one-in-Places.result (λ moved. ap parts.Places moved ∙ sym steps.moved) c.step_one-in-Places.ensures.moved

pub returns-in-Dead-clause-replied : goal.returns-in-Dead-clause-replied
returns-in-Dead-clause-replied c = sym (at_dead c.args.self.now.kind c.args.self.now.tag c.args.op.now c.args.part.now c.requires.reached c.in-Dead.is).replied

pub returns-in-Dead-clause-moved : goal.returns-in-Dead-clause-moved
returns-in-Dead-clause-moved c = c.in-Dead.is ∙ sym (at_dead c.args.self.now.kind c.args.self.now.tag c.args.op.now c.args.part.now c.requires.reached c.in-Dead.is).moved
