use Rattle.k42_kinds.specs.declared.operation.KindName.TheVariants as kinds
use Rattle.co_any.proofs.WholeRows.{whole_at}
use Rattle.co_any.proofs.layout.AnyLayoutLayout.step_all.Goals as goal

pub step_own-requires-clause-own : goal.step_own-requires-clause-own
step_own-requires-clause-own c lifetimes = (whole_at c.args.self.now.kind kinds.Counter c.args.self.now.tag 0 c.args.parts.now.items c.in-0-Counter.is-0 c.in-0-Counter.is-1 c.requires.whole).whole.own

pub step_own-requires-clause-whole : goal.step_own-requires-clause-whole
step_own-requires-clause-whole c lifetimes =
    let row = whole_at c.args.self.now.kind kinds.Counter c.args.self.now.tag 0 c.args.parts.now.items c.in-0-Counter.is-0 c.in-0-Counter.is-1 c.requires.whole in
    record { procs = row.procs; some = row.some; whole = row.whole.whole }

pub step_own-requires-in-0-Directory-clause-own : goal.step_own-requires-in-0-Directory-clause-own
step_own-requires-in-0-Directory-clause-own c lifetimes = (whole_at c.args.self.now.kind kinds.Directory c.args.self.now.tag 0 c.args.parts.now.items c.in-0-Directory.is-0 c.in-0-Directory.is-1 c.requires.whole).whole.own

pub step_own-requires-in-0-Directory-clause-whole : goal.step_own-requires-in-0-Directory-clause-whole
step_own-requires-in-0-Directory-clause-whole c lifetimes =
    let row = whole_at c.args.self.now.kind kinds.Directory c.args.self.now.tag 0 c.args.parts.now.items c.in-0-Directory.is-0 c.in-0-Directory.is-1 c.requires.whole in
    record { procs = row.procs; some = row.some; whole = row.whole.whole }

pub step_own-requires-in-0-Pages-clause-own : goal.step_own-requires-in-0-Pages-clause-own
step_own-requires-in-0-Pages-clause-own c lifetimes = (whole_at c.args.self.now.kind kinds.Pages c.args.self.now.tag 0 c.args.parts.now.items c.in-0-Pages.is-0 c.in-0-Pages.is-1 c.requires.whole).whole.own

pub step_own-requires-in-0-Pages-clause-whole : goal.step_own-requires-in-0-Pages-clause-whole
step_own-requires-in-0-Pages-clause-whole c lifetimes =
    let row = whole_at c.args.self.now.kind kinds.Pages c.args.self.now.tag 0 c.args.parts.now.items c.in-0-Pages.is-0 c.in-0-Pages.is-1 c.requires.whole in
    record { procs = row.procs; some = row.some; whole = row.whole.whole }

pub step_own-requires-in-1-Counter-clause-own : goal.step_own-requires-in-1-Counter-clause-own
step_own-requires-in-1-Counter-clause-own c lifetimes = (whole_at c.args.self.now.kind kinds.Counter c.args.self.now.tag 1 c.args.parts.now.items c.in-1-Counter.is-0 c.in-1-Counter.is-1 c.requires.whole).whole.own

pub step_own-requires-in-1-Counter-clause-whole : goal.step_own-requires-in-1-Counter-clause-whole
step_own-requires-in-1-Counter-clause-whole c lifetimes =
    let row = whole_at c.args.self.now.kind kinds.Counter c.args.self.now.tag 1 c.args.parts.now.items c.in-1-Counter.is-0 c.in-1-Counter.is-1 c.requires.whole in
    record { procs = row.procs; some = row.some; whole = row.whole.whole }

pub step_own-requires-in-1-Directory-clause-own : goal.step_own-requires-in-1-Directory-clause-own
step_own-requires-in-1-Directory-clause-own c lifetimes = (whole_at c.args.self.now.kind kinds.Directory c.args.self.now.tag 1 c.args.parts.now.items c.in-1-Directory.is-0 c.in-1-Directory.is-1 c.requires.whole).whole.own

pub step_own-requires-in-1-Directory-clause-whole : goal.step_own-requires-in-1-Directory-clause-whole
step_own-requires-in-1-Directory-clause-whole c lifetimes =
    let row = whole_at c.args.self.now.kind kinds.Directory c.args.self.now.tag 1 c.args.parts.now.items c.in-1-Directory.is-0 c.in-1-Directory.is-1 c.requires.whole in
    record { procs = row.procs; some = row.some; whole = row.whole.whole }

pub step_own-requires-in-1-Pages-clause-own : goal.step_own-requires-in-1-Pages-clause-own
step_own-requires-in-1-Pages-clause-own c lifetimes = (whole_at c.args.self.now.kind kinds.Pages c.args.self.now.tag 1 c.args.parts.now.items c.in-1-Pages.is-0 c.in-1-Pages.is-1 c.requires.whole).whole.own

pub step_own-requires-in-1-Pages-clause-whole : goal.step_own-requires-in-1-Pages-clause-whole
step_own-requires-in-1-Pages-clause-whole c lifetimes =
    let row = whole_at c.args.self.now.kind kinds.Pages c.args.self.now.tag 1 c.args.parts.now.items c.in-1-Pages.is-0 c.in-1-Pages.is-1 c.requires.whole in
    record { procs = row.procs; some = row.some; whole = row.whole.whole }
