use Rattle.std.proofs.Common.{rules, arith, ◌≡◌, true, None, ◌++◌, map, length, take, drop, is_some, sym, ap, subst, ◌∙◌}
use Rattle.std.proofs.Math.Seq.{take-append_seam}
use Rattle.std.proofs.lemmas.List.{length-map}
use Rattle.std.specs.FinMap as finite
use Rattle.k42_kinds.specs.Objects.{directory_after}
use Rattle.co_directory.proofs.CopyLemmas.{AreUnbound, bound_copies, taken_row, unbound_row, found_row, sized_row}
use Rattle.co_directory.proofs.spread.SpreadDirectoryLayout.step_all.Goals as goal

pub returns-then-is_some-clause-moved : goal.returns-then-is_some-clause-moved
returns-then-is_some-clause-moved c =
    let taken : is_some (finite.get c.index.result.now c.in-Bind.name) ≡ true = search rules in
    taken_row c.requires.whole.procs c.args.parts.now.items c.requires.whole.some c.requires.whole.whole c.index.result.now c.index.ensures c.args.op.now c.in-Bind.name c.in-Bind.number c.in-Bind.is taken

pub bind_in_all-requires : goal.bind_in_all-requires
bind_in_all-requires c =
    let none : finite.get c.index.result.now c.in-Bind.name ≡ None = search rules in
    record { unbound = subst (AreUnbound c.in-Bind.name) (sym c.deref_mut.ensures.value) (unbound_row c.requires.whole.procs c.args.parts.now.items c.requires.whole.some c.requires.whole.whole c.index.result.now c.index.ensures c.in-Bind.name none) }

pub returns-in_ok-bind_in_all-in-Bind-clause-moved : goal.returns-in_ok-bind_in_all-in-Bind-clause-moved
returns-in_ok-bind_in_all-in-Bind-clause-moved c =
    let none : finite.get c.index.result.now c.in-Bind.name ≡ None = search rules in
    let unbound = unbound_row c.requires.whole.procs c.args.parts.now.items c.requires.whole.some c.requires.whole.whole c.index.result.now c.index.ensures c.in-Bind.name none in
    let bound : c.bind_in_all.new.copies ≡ map (λ names. directory_after names c.args.op.now) c.args.parts.now.items =
    c.in_ok-bind_in_all-in-Bind.ensures.ok
    ∙ ap (map (λ names. finite.insert names c.in-Bind.name c.in-Bind.number)) c.deref_mut.ensures.value
    ∙ bound_copies c.in-Bind.name c.in-Bind.number c.args.parts.now.items unbound
    ∙ ap (λ asked. map (λ names. directory_after names asked) c.args.parts.now.items) (sym c.in-Bind.is) in
    let changed = ap length bound ∙ length-map c.args.parts.now.items (λ names. directory_after names c.args.op.now) in
    let as_long : c.args.parts.now.len ≡ length c.bind_in_all.new.copies = omega (arith, changed, c.args.parts.now.ok.0) in
    ap (λ long. take long (c.bind_in_all.new.copies ++ drop (length c.bind_in_all.new.copies) c.args.parts.now.items)) as_long
    ∙ take-append_seam c.bind_in_all.new.copies (drop (length c.bind_in_all.new.copies) c.args.parts.now.items)
    ∙ bound

pub returns-in-Find-clause-moved : goal.returns-in-Find-clause-moved
returns-in-Find-clause-moved c = found_row c.args.parts.now.items c.args.op.now c.in-Find.name c.in-Find.is

pub returns-in-Size-clause-moved : goal.returns-in-Size-clause-moved
returns-in-Size-clause-moved c = sized_row c.args.parts.now.items c.args.op.now c.in-Size.is
