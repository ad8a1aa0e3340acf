use Rattle.std.proofs.Common.{arith, map, ap, ◌∙◌}
use Rattle.co_counter.specs.Counters.{total_of}
use Rattle.co_pages.specs.SpreadRows as spread_rows
use Rattle.k42_kinds.specs.declared.states.AnyState.TheVariants as states
use Rattle.co_any.specs.Layouts.{amount_of, places_of}
use Rattle.co_any.proofs.WholeRows.{some_parts, stands_amounts, stands_indexed, stands_copies, stands_pages, stands_places, stands_dead}
use Rattle.co_any.proofs.layout.AnyLayoutLayout.export.Goals as goal

pub index-requires : goal.index-requires
index-requires c = let some = some_parts c.args.self.now.kind c.args.self.now.tag c.args.parts.now.items c.requires.known c.requires.whole in omega (arith, some, c.args.parts.now.ok.0)

pub returns-in-Amount-clause-state : goal.returns-in-Amount-clause-state
returns-in-Amount-clause-state c = ap states.Counter (c.total.ensures ∙ ap (λ row. total_of (map amount_of row)) c.deref.ensures.value) ∙ stands_amounts c.args.self.now.kind c.args.self.now.tag c.args.parts.now.items c.requires.known c.requires.whole c.index.result.now c.index.ensures c.in-Amount.field-0 c.in-Amount.is

pub returns-in_ok-state-in-Indexed-clause-state : goal.returns-in_ok-state-in-Indexed-clause-state
returns-in_ok-state-in-Indexed-clause-state c = ap states.Directory c.in_ok-state-in-Indexed.ensures ∙ stands_indexed c.args.self.now.kind c.args.self.now.tag c.args.parts.now.items c.requires.known c.requires.whole c.index.result.now c.index.ensures c.in-Indexed.names c.in-Indexed.is

pub returns-in_ok-copied-in-Copy-clause-state : goal.returns-in_ok-copied-in-Copy-clause-state
returns-in_ok-copied-in-Copy-clause-state c = ap states.Directory c.in_ok-copied-in-Copy.ensures ∙ stands_copies c.args.self.now.kind c.args.self.now.tag c.args.parts.now.items c.requires.known c.requires.whole c.index.result.now c.index.ensures c.in-Copy.names c.in-Copy.is

pub returns-in_ok-copied-in-Pages-clause-state : goal.returns-in_ok-copied-in-Pages-clause-state
returns-in_ok-copied-in-Pages-clause-state c = ap states.Pages c.in_ok-copied-in-Pages.ensures ∙ stands_pages c.args.self.now.kind c.args.self.now.tag c.args.parts.now.items c.requires.known c.requires.whole c.index.result.now c.index.ensures c.in-Pages.pages c.in-Pages.is

pub returns-in_ok-collected-in-Places-clause-state : goal.returns-in_ok-collected-in-Places-clause-state
returns-in_ok-collected-in-Places-clause-state c = ap states.Pages (c.in_ok-collected-in-Places.ensures ∙ ap (λ row. spread_rows.collected (map places_of row)) c.deref-in-Places.ensures.value) ∙ stands_places c.args.self.now.kind c.args.self.now.tag c.args.parts.now.items c.requires.known c.requires.whole c.index.result.now c.index.ensures c.in-Places.field-0 c.in-Places.is

pub returns-in-Dead-clause-state : goal.returns-in-Dead-clause-state
returns-in-Dead-clause-state c = stands_dead c.args.self.now.kind c.args.self.now.tag c.args.parts.now.items c.requires.known c.requires.whole c.index.result.now c.index.ensures c.in-Dead.is
