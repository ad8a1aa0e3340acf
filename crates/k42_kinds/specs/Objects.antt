-- The objects of one thread: the state before the first operation, and what each operation does
-- and replies.
use Rattle.std.specs.Prelude.{◌≡◌, ℕ, ◌+◌, ◌%◌, ◌^◌, Bool, true, false, Option, Some, None as Absent, if◌then◌else◌}
use Rattle.std.specs.FinMap as finite
use Rattle.std.specs.FinMap.{FinMap}
use Rattle.std.specs.Ordering.{nat_cmp}
use Rattle.std.specs.Cmp.Lexicographic.{slice_cmp}
use Rattle.k42_kinds.specs.OneThread.{OneThread, ends_as}
use Rattle.k42_kinds.specs.Operations.{takes_operation}
use Rattle.k42_kinds.specs.Pages.{written, all_cleaned, dirty_count}
use Rattle.k42_kinds.specs.declared.page.Page.{Page}
use Rattle.k42_kinds.specs.declared.operation.KindName.{KindName}
use Rattle.k42_kinds.specs.declared.operation.KindName.TheVariants as kinds
use Rattle.k42_kinds.specs.declared.operation.Op.{Op}
use Rattle.k42_kinds.specs.declared.operation.Op.TheVariants.{Add, Get, Drain, Bind, Find, Unbind, Size, Write, Read, Dirty, Clean}
use Rattle.k42_kinds.specs.declared.operation.Reply.{Reply}
use Rattle.k42_kinds.specs.declared.operation.Reply.TheVariants.{Done, Taken, None, Number, Text, Zero, Gone}
use Rattle.k42_kinds.specs.declared.states.AnyState.{AnyState}
use Rattle.k42_kinds.specs.declared.states.AnyState.TheVariants as states

-- what a directory binds: names, by their bytes, to numbers
abbrev pub Directory : Type 0
Directory = FinMap (slice_cmp nat_cmp) ℕ

-- the pages that were written, by their numbers
abbrev pub Pages : Type 0
Pages = FinMap nat_cmp Page

-- a counter counts modulo 2 ^ 64
abbrev pub counter_after : ℕ → Op → ℕ
counter_after value (Add amount) = (value + amount) % 2 ^ 64
counter_after value Drain = 0
counter_after value _ = value

-- what a counter replies
abbrev pub counter_reply : ℕ → Op → Reply
counter_reply value (Add amount) = Done
counter_reply value Get = Number value
counter_reply value Drain = Number value
counter_reply value _ = Gone

-- a name keeps the number that it was first bound to, until it is unbound
abbrev pub directory_after : Directory → Op → Directory
directory_after names (Bind key number) =
    if finite.contains_key names key then names else finite.insert names key number
directory_after names (Unbind key) = finite.remove names key
directory_after names _ = names

-- the number that was found, or none
abbrev pub found_number : Option ℕ → Reply
found_number (Some number) = Number number
found_number Absent = None

-- what a directory replies
abbrev pub directory_reply : Directory → Op → Reply
directory_reply names (Bind key number) = if finite.contains_key names key then Taken else Done
directory_reply names (Find key) = found_number (finite.get names key)
directory_reply names (Unbind key) = found_number (finite.get names key)
directory_reply names Size = Number (finite.len names)
directory_reply names _ = Gone

-- a write makes its page dirty, and cleaning takes all marks off
abbrev pub pages_after : Pages → Op → Pages
pages_after pages (Write page text) = finite.insert pages page (written text)
pages_after pages Clean = all_cleaned pages
pages_after pages _ = pages

-- the text of the page, or zero where it was never written
abbrev pub found_text : Option Page → Reply
found_text (Some page) = Text page.text
found_text Absent = Zero

-- what the pages reply
abbrev pub pages_reply : Pages → Op → Reply
pages_reply pages (Write page text) = Done
pages_reply pages (Read page) = found_text (finite.get pages page)
pages_reply pages Dirty = Number (dirty_count pages)
pages_reply pages Clean = Number (dirty_count pages)
pages_reply pages _ = Gone

-- The object of one thread takes the operations of its kind. Another kind's operation leaves its
-- state, and is answered as a dead object answers: no lawful history has one.
abbrev pub state_after : AnyState → Op → AnyState
state_after (states.Counter value) op = states.Counter (counter_after value op)
state_after (states.Directory names) op = states.Directory (directory_after names op)
state_after (states.Pages pages) op = states.Pages (pages_after pages op)
state_after states.Dead op = states.Dead

-- what the object replies
abbrev pub reply_of : AnyState → Op → Reply
reply_of (states.Counter value) op = counter_reply value op
reply_of (states.Directory names) op = directory_reply names op
reply_of (states.Pages pages) op = pages_reply pages op
reply_of states.Dead op = Gone

-- Only a name that was not bound and a page that was never written need memory.
abbrev pub BindsNew : Directory → Op → Type 0
BindsNew names (Bind key number) = finite.get names key ≡ Absent
BindsNew names _ = ⊥

abbrev pub WritesNew : Pages → Op → Type 0
WritesNew pages (Write page text) = finite.get pages page ≡ Absent
WritesNew pages _ = ⊥

abbrev pub NeedsMemory : AnyState → Op → Type 0
NeedsMemory (states.Directory names) op = BindsNew names op
NeedsMemory (states.Pages pages) op = WritesNew pages op
NeedsMemory _ op = ⊥

-- the state before the first operation
abbrev pub empty_state : KindName → AnyState
empty_state kinds.Counter = states.Counter 0
empty_state kinds.Directory = states.Directory finite.empty
empty_state kinds.Pages = states.Pages finite.empty

-- whether the object was destroyed
abbrev pub is_dead : AnyState → Bool
is_dead states.Dead = true
is_dead _ = false

-- the plain object of a kind
abbrev pub plain_object : KindName → OneThread AnyState Op Reply
plain_object kind = record {
  start = empty_state kind;
  takes = takes_operation kind;
  after = state_after;
  reply = reply_of;
  swapped = ends_as states.Dead;
  is_ended = is_dead;
}

-- The objects of each kind alone. They have no end: what was destroyed is no counter, no directory
-- and no pages any more.
abbrev pub counter_object : OneThread ℕ Op Reply
counter_object = record {
  start = 0;
  takes = takes_operation kinds.Counter;
  after = counter_after;
  reply = counter_reply;
  swapped = ends_as 0;
  is_ended = λ value. false;
}

abbrev pub directory_object : OneThread Directory Op Reply
directory_object = record {
  start = finite.empty;
  takes = takes_operation kinds.Directory;
  after = directory_after;
  reply = directory_reply;
  swapped = ends_as finite.empty;
  is_ended = λ names. false;
}

abbrev pub pages_object : OneThread Pages Op Reply
pages_object = record {
  start = finite.empty;
  takes = takes_operation kinds.Pages;
  after = pages_after;
  reply = pages_reply;
  swapped = ends_as finite.empty;
  is_ended = λ pages. false;
}
