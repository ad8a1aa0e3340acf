-- The plan of a run.
use Rattle.std.specs.Prelude.{Bool, true, false, [], ◌∷◌, map, if◌then◌else◌}
use Rattle.std.specs.List.{list_any}
use Rattle.k42_kinds.specs.declared.operation.KindName.TheVariants.{Counter}
use Rattle.k42_kinds.specs.declared.operation.LayoutName.TheVariants.{Shared}
use Rattle.script_text.specs.declared.script.Item.{Item}
use Rattle.script_text.specs.declared.script.Item.TheVariants.{Begin, End, Line}
use Rattle.script_text.specs.declared.script.ObjectLine.{ObjectLine}
use Rattle.script_text.specs.declared.script.Script.{Script}
use Rattle.script_text.specs.declared.script.WorkerLines.{WorkerLines}
use Rattle.k42_board.specs.declared.keep.Keep.TheVariants.{All}
use Rattle.co_system.specs.Systems.{PlanSeen, SystemLayout, kept_as}

-- how an object of a script starts
abbrev pub layout_of : ObjectLine → SystemLayout
layout_of object = kept_as object.kind object.layout

-- the script's processors, its objects in their kinds and layouts, its workers on their processors, and all entries kept
abbrev pub plan_of : Script → PlanSeen
plan_of script = record {
  procs = script.procs;
  objects = map layout_of script.objects;
  callers = map (λ worker. worker.proc) script.workers;
  keep = All;
}

-- one processor, one shared counter, and one caller that does nothing
abbrev pub idle_plan : PlanSeen
idle_plan = record {
  procs = 1;
  objects = kept_as Counter Shared ∷ [];
  callers = 0 ∷ [];
  keep = All;
}

-- whether the item asks something of an object
abbrev pub is_line : Item → Bool
is_line Begin = false
is_line End = false
is_line (Line line) = true

abbrev pub asks : WorkerLines → Bool
asks worker = list_any is_line worker.items

-- the script's own, where a worker asks something
abbrev pub plan_due : Script → PlanSeen
plan_due script = if list_any asks script.workers then plan_of script else idle_plan
