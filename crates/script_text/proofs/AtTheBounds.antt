-- What is too much for a script, and pages that are there and that are not.
use Rattle.std.proofs.Common.{◌≡◌, arith}
use Rattle.std.specs.Prelude.{length, sum_by}
use Rattle.k42_kinds.specs.declared.operation.Op.TheVariants.{Read}
use Rattle.script_text.specs.Lawful.{call_lines}
use Rattle.script_text.specs.Sound.{IsSound, NamesPage}
use Rattle.script_text.specs.declared.script.Script.{Script}

last_page : NamesPage (Read 1023)
last_page = omega arith

no_page_more : NamesPage (Read 1024) → ⊥
no_page_more there = omega (arith, there)

processors : (script : Script) → script.procs ≡ 9 → IsSound script → ⊥
processors script nine sound = omega (arith, nine, sound.processors)

objects : (script : Script) → length script.objects ≡ 17 → IsSound script → ⊥
objects script seventeen sound = omega (arith, seventeen, sound.objects)

workers : (script : Script) → length script.workers ≡ 17 → IsSound script → ⊥
workers script seventeen sound = omega (arith, seventeen, sound.callers)

calls : (script : Script) → sum_by (λ worker. length (call_lines worker.items)) script.workers ≡ 65537 → IsSound script → ⊥
calls script too_many sound = omega (arith, too_many, sound.few)
