-- How the act and the answer of a swap are named by a number. What an object replied to a call has one of
-- the lower numbers, and how a swap was answered one from `REPLY_TAGS` on: the first `ENDS` of them after a
-- swap to a layout, and those behind them after any other.
use Rattle.std.specs.Prelude.{ℕ, ◌+◌, ◌-◌, ◌==◌, Bool, true, false, if◌then◌else◌, nat_lt}
use Rattle.k42_kinds.specs.declared.packed.TheConstants.{REPLY_TAGS}
use Rattle.k42_kinds.specs.declared.entry.Act.{Act}
use Rattle.k42_kinds.specs.declared.entry.Act.TheVariants.{Swap}
use Rattle.k42_kinds.specs.declared.entry.To.{To}
use Rattle.k42_kinds.specs.declared.entry.To.TheVariants as tos
use Rattle.k42_kinds.specs.declared.entry.Answer.{Answer}
use Rattle.k42_kinds.specs.declared.entry.Answer.TheVariants.{Replied, Swapped, Busy, Spent, Gone, Abandoned}
use Rattle.k42_log.specs.declared.name.TheConstants.{ENDS}

-- whether an object is to be kept in a layout
abbrev pub is_layout : To → Bool
is_layout (tos.Layout number) = true
is_layout _ = false

-- whether that was asked
abbrev pub asks_layout : {O : Type 0} → Act O → Bool
asks_layout (Swap to) = is_layout to
asks_layout _ = false

-- a layout has its own number
abbrev pub to_name : To → ℕ
to_name (tos.Layout number) = number
to_name tos.Dead = 0
to_name tos.Watch = 1
to_name tos.Unwatch = 2

abbrev pub to_named : Bool → ℕ → To
to_named true name = tos.Layout name
to_named false name =
    if name == 0 then tos.Dead
    else if name == 1 then tos.Watch
    else tos.Unwatch

-- how a swap to a layout was answered
abbrev pub layout_end : {R : Type 0} → Answer R → ℕ
layout_end (Swapped number) = REPLY_TAGS
layout_end (Busy number) = REPLY_TAGS + 1
layout_end Spent = REPLY_TAGS + 2
layout_end Gone = REPLY_TAGS + 3
layout_end (Abandoned number) = REPLY_TAGS + 4
layout_end (Replied reply) = REPLY_TAGS + 4

-- how a swap was answered, to a layout or not
abbrev pub end_name : {R : Type 0} → Bool → Answer R → ℕ
end_name layout answer = if layout then layout_end answer else layout_end answer + ENDS

-- whether the name of such an answer tells of a layout
abbrev pub names_layout : ℕ → Bool
names_layout name = nat_lt name (REPLY_TAGS + ENDS)

abbrev pub layout_ended : {R : Type 0} → ℕ → ℕ → Answer R
layout_ended name small =
    if name == REPLY_TAGS then Swapped small
    else if name == REPLY_TAGS + 1 then Busy small
    else if name == REPLY_TAGS + 2 then Spent
    else if name == REPLY_TAGS + 3 then Gone
    else Abandoned small

abbrev pub end_named : {R : Type 0} → ℕ → ℕ → Answer R
end_named name small = layout_ended (if names_layout name then name else name - ENDS) small

-- whether the name of an answer is that of a reply
abbrev pub names_reply : ℕ → Bool
names_reply name = nat_lt name REPLY_TAGS

-- whether it is what an object replied to a call
abbrev pub is_reply : {R : Type 0} → Answer R → Bool
is_reply (Replied reply) = true
is_reply _ = false
