-- What a watched object must reply to `seen`, told by the entries before it alone.
use Rattle.std.specs.Prelude.{◌≡◌, ℕ, ◌%◌, ◌^◌, Bool, true, false, not, ◌&&◌, ◌||◌, ◌==◌, if◌then◌else◌, List, [], ◌∷◌, count_by, Option, Some, None as Nothing}
use Rattle.std.specs.List.{list_any}
use Rattle.std.specs.Option.{option_or}
use Rattle.k42_kinds.specs.declared.operation.Op.{Op}
use Rattle.k42_kinds.specs.declared.operation.Op.TheVariants.{Seen}
use Rattle.k42_kinds.specs.declared.operation.Reply.{Reply}
use Rattle.k42_kinds.specs.declared.operation.Reply.TheVariants.{None, Number, Gone}
use Rattle.k42_kinds.specs.declared.entry.Act.{Act}
use Rattle.k42_kinds.specs.declared.entry.Act.TheVariants.{Call, Swap}
use Rattle.k42_kinds.specs.declared.entry.To.TheVariants.{Dead, Watch, Unwatch}
use Rattle.k42_kinds.specs.declared.entry.Answer.TheVariants.{Replied}
use Rattle.k42_kinds.specs.declared.entry.Entry.{Entry}
use Rattle.k42_kinds.specs.Histories.{is_carried_out_on}
use Rattle.k42_kinds.specs.Watched.{is_seen}

abbrev pub is_watch : Act Op → Bool
is_watch (Swap Watch) = true
is_watch _ = false

abbrev pub is_unwatch : Act Op → Bool
is_unwatch (Swap Unwatch) = true
is_unwatch _ = false

abbrev pub is_destroy : Act Op → Bool
is_destroy (Swap Dead) = true
is_destroy _ = false

-- a call of anything but the count
abbrev pub is_counted : Act Op → Bool
is_counted (Call op) = not (is_seen op)
is_counted (Swap to) = false

-- the entry is a destroy of the object that was carried out
abbrev pub destroys : ℕ → Entry Op Reply → Bool
destroys object entry = is_carried_out_on object entry && is_destroy entry.act

-- it is a watch or an unwatch of the object that was carried out
abbrev pub changes_layer : ℕ → Entry Op Reply → Bool
changes_layer object entry =
    is_carried_out_on object entry && (is_watch entry.act || is_unwatch entry.act)

-- it is a call of the object that counts
abbrev pub counts : ℕ → Entry Op Reply → Bool
counts object entry = (entry.object == object) && is_counted entry.act

-- the last entry that is so, and those behind it
abbrev pub last_such : (Entry Op Reply → Bool) → List (Entry Op Reply) → Option (Entry Op Reply × List (Entry Op Reply))
last_such is [] = Nothing
last_such is (entry ∷ rest) =
    option_or (last_such is rest) (if is entry then Some (entry, rest) else Nothing)

-- what is told behind the last watch or unwatch: behind a watch the number of calls, modulo 2 ^ 64
abbrev pub figure_behind : ℕ → Option (Entry Op Reply × List (Entry Op Reply)) → Reply
figure_behind object (Some last) =
    if is_watch last.0.act then Number (count_by (counts object) last.1 % 2 ^ 64) else None
figure_behind object Nothing = None

-- `gone` once the object was destroyed
abbrev pub figure : ℕ → List (Entry Op Reply) → Reply
figure object history =
    if list_any (destroys object) history then Gone
    else figure_behind object (last_such (changes_layer object) history)

-- an entry that asks for the count is replied the figure of its object
pub record TellsFigure (before : List (Entry Op Reply)) (entry : Entry Op Reply) (after : List (Entry Op Reply)) : Type 0 where
  pub replied : entry.act ≡ Call Seen → entry.answer ≡ Replied (figure entry.object before)
