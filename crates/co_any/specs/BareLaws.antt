-- The layouts of all kinds know of no layer.
use Rattle.std.specs.Prelude.{◌≡◌, ◌≢◌, ℕ, zero, suc, ◌≤◌, true, refl}
use Rattle.std.proofs.Common.{ap, ◌∙◌, inl, inr, arith}
use Rattle.k42_shapes.specs.Shapes.{IsKnownTag, is_dead_tag, shared_and_spread}
use Rattle.k42_kinds.specs.declared.operation.KindName.{KindName}
use Rattle.k42_kinds.specs.declared.operation.Op.{Op}
use Rattle.k42_kinds.specs.declared.operation.Op.TheVariants.{Add, Get, Drain, Bind, Find, Unbind, Size, Write, Read, Dirty, Clean, Seen}
use Rattle.k42_kinds.specs.declared.operation.Reply.TheVariants.{Gone}
use Rattle.k42_kinds.specs.declared.states.AnyState.{AnyState}
use Rattle.k42_kinds.specs.declared.states.AnyState.TheVariants as states
use Rattle.k42_kinds.specs.declared.entry.To.{To}
use Rattle.k42_kinds.specs.declared.entry.To.TheVariants as tos
use Rattle.k42_kinds.specs.Objects.{plain_object, state_after, reply_of}
use Rattle.k42_kinds.specs.Operations.{takes_operation}
use Rattle.k42_kinds.specs.Watched.{is_seen, seen_asking}
use Rattle.k42_watch.specs.Bare.{TakesNoSeen, KeepsState, AsksByTag}
use Rattle.co_any.specs.Layouts.{act_of}

asked_left : (state : AnyState) → state_after state Seen ≡ state
asked_left (states.Counter value) = refl
asked_left (states.Directory names) = refl
asked_left (states.Pages pages) = refl
asked_left states.Dead = refl

asked_gone : (state : AnyState) → reply_of state Seen ≡ Gone
asked_gone (states.Counter value) = refl
asked_gone (states.Directory names) = refl
asked_gone (states.Pages pages) = refl
asked_gone states.Dead = refl

only_seen : (op : Op) → is_seen op ≡ true → op ≡ Seen
only_seen (Add amount) is = cc
only_seen Get is = cc
only_seen Drain is = cc
only_seen (Bind key number) is = cc
only_seen (Find key) is = cc
only_seen (Unbind key) is = cc
only_seen Size is = cc
only_seen (Write page text) is = cc
only_seen (Read page) is = cc
only_seen Dirty is = cc
only_seen Clean is = cc
only_seen Seen is = refl

pub any_takes_no_seen : (kind : KindName) → TakesNoSeen seen_asking (plain_object kind)
any_takes_no_seen kind = record {
  takes = λ op is. ap (takes_operation kind) (only_seen op is);
  after = λ op is state. ap (λ asked. state_after state asked) (only_seen op is) ∙ asked_left state;
  reply = λ op is state. ap (λ asked. reply_of state asked) (only_seen op is) ∙ asked_gone state;
}

keeps_to : (kind : KindName) (state : AnyState) (to : To) → to ≢ tos.Dead → (plain_object kind).swapped state to ≡ state
keeps_to kind state (tos.Layout layout) live = refl
keeps_to kind state tos.Watch live = refl
keeps_to kind state tos.Unwatch live = refl
keeps_to kind state tos.Dead live = absurd (live refl)

pub any_keeps_state : (kind : KindName) → KeepsState (plain_object kind)
any_keeps_state kind = keeps_to kind

pub any_asks_by_tag : (tag : ℕ) → IsKnownTag shared_and_spread tag → AsksByTag (is_dead_tag shared_and_spread tag) (act_of tag)
any_asks_by_tag zero known = inl (record { live = refl; number = 0; act = refl })
any_asks_by_tag (suc zero) known = inl (record { live = refl; number = 1; act = refl })
any_asks_by_tag (suc (suc zero)) known = inr (record { ended = refl; act = refl })
any_asks_by_tag (suc (suc (suc more))) known = absurd (omega (arith, known))
