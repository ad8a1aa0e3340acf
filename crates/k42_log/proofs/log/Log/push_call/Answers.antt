use Rattle.std.proofs.Common.{◌∙◌, ◌+◌, ◌<◌, ◌≤◌, [], ◌∷◌, ◌++◌, ap, sym, subst}
use Rattle.k42_limits.specs.declared.TheConstants.{PASS_ENTRIES}
use Rattle.k42_log.specs.declared.log.Log.TheInside.{Inside}
use Rattle.k42_log.specs.Details.{details_of, less_by, size_in}
use Rattle.k42_log.specs.Stored.{details_in}
use Rattle.k42_log.specs.Logs.{LogSeen, call_entry, next_index}
use Rattle.k42_log.specs.LogFields.{room_in, seen}
use Rattle.k42_log.proofs.Pushed.{Gives, call_pushed, fits_pushed, room_pushed}
use Rattle.k42_log.proofs.Sizes.{details_few, op_fits, reply_fits}
use Rattle.k42_log.proofs.log.Log.push_call.Goals as goal

given : (g : _) (c : goal.After-push_reserved g)
    → Gives g.O.Packed.packing g.R.Packed.packing c.self.inside c.push_reserved.new.self.items (details_in c.keep-2.new.self)
    (call_entry (seen g.O.Packed.packing g.R.Packed.packing c.self.inside) c.args.stamp c.args.object c.args.row c.args.cell c.args.generation c.args.op.now c.args.reply.now)
given g c =
    call_pushed g.O.Packed.packing g.R.Packed.packing c.self.inside c.args.stamp c.args.object c.args.row c.args.cell c.args.generation c.args.op.now c.args.reply.now
    (record {
      stamp = c.args.stamp;
      incarnation = c.args.row;
      generation = c.generation_or_0.result;
      small = c.label-asked.result.small;
      place = c.place_of.result;
      act = c.label-asked.result.tag;
      answer = c.label-told.result.tag;
    }) _ _ _ c.self.invariant c.requires.object c.label-asked.ensures.packed (record { packed = c.label-told.ensures.packed; low = c.label_is_low.ensures })
    (λ i. record {
      stamp = c.args.stamp;
      incarnation = c.args.row;
      generation = c.generation_or_0.ensures i;
      small = (c.label-asked.ensures.label i).small;
      place = c.place_of.ensures i;
      act = (c.label-asked.ensures.label i).tag;
      answer = (c.label-told.ensures.label i).tag;
    }) c.push_reserved.ensures.items c.keep.ensures.details c.keep-2.ensures.details

pub invariant_of-self : goal.invariant_of-self
invariant_of-self g c = record {
  whole = (given g c).whole;
  fits = fits_pushed g.O.Packed.packing g.R.Packed.packing c.self.inside _ _
      (subst (λ (log : LogSeen _ _). next_index log < PASS_ENTRIES) (sym c.self.view_is) c.requires.few)
      c.push_reserved.ensures.items;
}

pub returns-clause-entries : goal.returns-clause-entries
returns-clause-entries g c =
    (given g c).entries
    ∙ ap (λ (log : LogSeen _ _). log.entries ++ call_entry log c.args.stamp c.args.object c.args.row c.args.cell c.args.generation c.args.op.now c.args.reply.now ∷ []) c.self.view_is

pub keep-requires : goal.keep-requires
keep-requires g c =
    op_fits g.O.Packed.packing g.R.Packed.packing _ _ c.args.op.now
    (subst (λ (log : LogSeen _ _). 0 < log.room) (sym c.self.view_is) c.requires.room) c.label-asked.ensures.packed

pub keep-requires-2 : goal.keep-requires-2
keep-requires-2 g c =
    reply_fits g.O.Packed.packing g.R.Packed.packing _ _ _ c.args.op.now c.args.reply.now
    (subst (λ (log : LogSeen _ _). 0 < log.room) (sym c.self.view_is) c.requires.room) c.label-asked.ensures.packed c.label-told.ensures.packed c.keep.ensures.spare

pub returns-clause-room : goal.returns-clause-room
returns-clause-room g c =
    let new : Inside _ _ = record {
      heads = c.push_reserved.new.self;
      stored = c.keep-2.new.self;
      first = c.self.inside.first;
      caller = c.self.inside.caller;
      proc = c.self.inside.proc;
      of = c.self.inside.of;
    } in
    subst (λ (log : LogSeen _ _). log.room ≤ room_in g.O.Packed.packing g.R.Packed.packing new + 1) c.self.view_is
    (room_pushed g.O.Packed.packing g.R.Packed.packing c.self.inside new _ (size_in (details_of g.O.Packed.packing c.args.op.now)) (size_in (details_of g.R.Packed.packing c.args.reply.now))
    (details_few g.O.Packed.packing c.args.op.now c.label-asked.ensures.packed) (details_few g.R.Packed.packing c.args.reply.now c.label-told.ensures.packed)
    c.push_reserved.ensures.items c.push_reserved.ensures.capacity
    (c.keep-2.ensures.spare ∙ ap (λ s. less_by s (size_in (details_of g.R.Packed.packing c.args.reply.now))) c.keep.ensures.spare))
