use Rattle.std.proofs.Common.{◌≡◌, ◌++◌, length, map}
use Rattle.std.specs.List.{AllByRecursion, flat_map}
use Rattle.record_text.specs.Histories.{HasLine, line_of}
use Rattle.record_text.specs.Spelling.{HasSpelling}
use Rattle.record_text.specs.Texts.{line_text, first_tokens}
use Rattle.record_text.specs.Tokens.{line_with}
use Rattle.record_text.proofs.printing.print_history.Given as goal

-- with the lines of the entries that are left behind it, what was printed is the first line and those of all
abbrev pub invariant-loop-entry : goal.invariant-loop-entry
invariant-loop-entry g l = record {
  placed : AllByRecursion (HasLine l.script) (g.E.Entries.left l.entries);
  spelled : AllByRecursion (HasSpelling l.script) (map (line_of l.script l.version) (g.E.Entries.left l.entries));
  text :
      l.out.items ++ flat_map (line_text l.script) (map (line_of l.script l.version) (g.E.Entries.left l.entries))
      ≡ line_with (first_tokens l.version) ++ flat_map (line_text l.script) (map (line_of l.script l.version) (g.E.Entries.left l.fn.entries));
}

abbrev pub decreases-loop-entry : goal.decreases-loop-entry
decreases-loop-entry g l = length (g.E.Entries.left l.entries)
