use Rattle.std.proofs.Common.{length, arith, ap, ◌∙◌}
use Rattle.k42_choice.proofs.OwnRows.{own_length}
use Rattle.k42_choice.proofs.ChosenRows.{back_again}
use Rattle.k42_either.specs.EitherRows.{first_parts, second_parts}
use Rattle.k42_either.proofs.EitherParts.{first_row, second_row, own_whole}
use Rattle.k42_either.proofs.either_layout.EitherLayout.export.Goals as goal

pub export-state-requires-clause-whole : goal.export-state-requires-clause-whole
export-state-requires-clause-whole g c =
    let Whole = g.A.Layout.whole c.in-First.layout in
    let row = first_row g.A.Layout.whole g.B.Layout.whole c.args.self.now c.args.parts.now.items c.requires.whole c.in-First.layout c.in-First.is in
    let own = c.in_ok-own-in-First in
    own_whole first_parts Whole c.args.parts.now.items own.own.items row own.ensures.taken

pub put_back-requires : goal.put_back-requires
put_back-requires g c =
    let Whole = g.A.Layout.whole c.in-First.layout in
    let row = first_row g.A.Layout.whole g.B.Layout.whole c.args.self.now c.args.parts.now.items c.requires.whole c.in-First.layout c.in-First.is in
    let own = c.in_ok-own-in-First in
    let long = ap length c.export-state.ensures.kept in
    let taken = ap length own.ensures.taken ∙ own_length first_parts Whole row.procs c.args.parts.now.items row.whole in
    let empty = ap length own.ensures.empty in
    omega (arith, own.ensures.room, c.args.parts.now.ok.0, c.taken.new.parts.ok.0, c.export-state.new.parts.ok.0, long, taken, empty)

pub returns-in_err-state-in-First-clause-kept : goal.returns-in_err-state-in-First-clause-kept
returns-in_err-state-in-First-clause-kept g c =
    let Whole = g.A.Layout.whole c.in-First.layout in
    let row = first_row g.A.Layout.whole g.B.Layout.whole c.args.self.now c.args.parts.now.items c.requires.whole c.in-First.layout c.in-First.is in
    let own = c.in_ok-own-in-First in
    back_again first_parts Whole row.procs c.args.parts.now.items c.taken.new.parts.items c.put_back.new.parts.items own.own.items
    c.export-state.new.parts.items row.whole own.ensures.taken own.ensures.empty c.put_back.ensures c.export-state.ensures.kept

pub returns-in_ok-state-in-First-clause-kept : goal.returns-in_ok-state-in-First-clause-kept
returns-in_ok-state-in-First-clause-kept g c =
    let Whole = g.A.Layout.whole c.in-First.layout in
    let row = first_row g.A.Layout.whole g.B.Layout.whole c.args.self.now c.args.parts.now.items c.requires.whole c.in-First.layout c.in-First.is in
    let own = c.in_ok-own-in-First in
    back_again first_parts Whole row.procs c.args.parts.now.items c.taken.new.parts.items c.put_back.new.parts.items own.own.items
    c.export-state.new.parts.items row.whole own.ensures.taken own.ensures.empty c.put_back.ensures c.export-state.ensures.kept

pub export-state-requires-in-Second-clause-whole : goal.export-state-requires-in-Second-clause-whole
export-state-requires-in-Second-clause-whole g c =
    let Whole = g.B.Layout.whole c.in-Second.layout in
    let row = second_row g.A.Layout.whole g.B.Layout.whole c.args.self.now c.args.parts.now.items c.requires.whole c.in-Second.layout c.in-Second.is in
    let own = c.in_ok-own-in-Second in
    own_whole second_parts Whole c.args.parts.now.items own.own.items row own.ensures.taken

pub put_back-requires-in-Second : goal.put_back-requires-in-Second
put_back-requires-in-Second g c =
    let Whole = g.B.Layout.whole c.in-Second.layout in
    let row = second_row g.A.Layout.whole g.B.Layout.whole c.args.self.now c.args.parts.now.items c.requires.whole c.in-Second.layout c.in-Second.is in
    let own = c.in_ok-own-in-Second in
    let long = ap length c.export-state-in-Second.ensures.kept in
    let taken = ap length own.ensures.taken ∙ own_length second_parts Whole row.procs c.args.parts.now.items row.whole in
    let empty = ap length own.ensures.empty in
    omega (arith, own.ensures.room, c.args.parts.now.ok.0, c.taken-in-Second.new.parts.ok.0, c.export-state-in-Second.new.parts.ok.0, long, taken, empty)

pub returns-in_err-state-in-Second-clause-kept : goal.returns-in_err-state-in-Second-clause-kept
returns-in_err-state-in-Second-clause-kept g c =
    let Whole = g.B.Layout.whole c.in-Second.layout in
    let row = second_row g.A.Layout.whole g.B.Layout.whole c.args.self.now c.args.parts.now.items c.requires.whole c.in-Second.layout c.in-Second.is in
    let own = c.in_ok-own-in-Second in
    back_again second_parts Whole row.procs c.args.parts.now.items c.taken-in-Second.new.parts.items c.put_back-in-Second.new.parts.items own.own.items
    c.export-state-in-Second.new.parts.items row.whole own.ensures.taken own.ensures.empty c.put_back-in-Second.ensures c.export-state-in-Second.ensures.kept

pub returns-in_ok-state-in-Second-clause-kept : goal.returns-in_ok-state-in-Second-clause-kept
returns-in_ok-state-in-Second-clause-kept g c =
    let Whole = g.B.Layout.whole c.in-Second.layout in
    let row = second_row g.A.Layout.whole g.B.Layout.whole c.args.self.now c.args.parts.now.items c.requires.whole c.in-Second.layout c.in-Second.is in
    let own = c.in_ok-own-in-Second in
    back_again second_parts Whole row.procs c.args.parts.now.items c.taken-in-Second.new.parts.items c.put_back-in-Second.new.parts.items own.own.items
    c.export-state-in-Second.new.parts.items row.whole own.ensures.taken own.ensures.empty c.put_back-in-Second.ensures c.export-state-in-Second.ensures.kept
