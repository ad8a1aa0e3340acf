use Rattle.std.proofs.Common.{◌≡◌, rules, refl}
use Rattle.std.specs.Arc.{arc_value}
use Rattle.k42_runtime.specs.Swaps.{HasStepped}
use Rattle.k42_runtime.specs.declared.swaps.Step.TheVariants as steps
use Rattle.k42_handles.proofs.Swapped.{made_step}
use Rattle.k42_handles.proofs.swapping.step.Goals as goal

pub returns-in-Again : goal.returns-in-Again
returns-in-Again c =
    let is : c.step.result ≡ steps.Again c.in-Again.cause = search rules in
    let stepped : HasStepped (arc_value c.args.swaps.home).system c.step.result c.args.swaps.swap c.step.new.self c.args.swaps.pass.value c.step.new.pass = search rules in
    made_step c.args.swaps c.step.new.self c.step.new.pass _ _ c.step.result (steps.Again c.in-Again.cause) is stepped refl (_, refl, refl, refl, refl)

pub returns-in-Ended : goal.returns-in-Ended
returns-in-Ended c =
    let is : c.step.result ≡ steps.Ended c.in-Ended.end = search rules in
    let stepped : HasStepped (arc_value c.args.swaps.home).system c.step.result c.args.swaps.swap c.step.new.self c.args.swaps.pass.value c.step.new.pass = search rules in
    made_step c.args.swaps c.step.new.self c.step.new.pass _ _ c.step.result (steps.Ended c.in-Ended.end) is stepped refl (_, refl, refl, refl)

pub returns-in-Memory : goal.returns-in-Memory
returns-in-Memory c =
    let is : c.step.result ≡ steps.Memory = search rules in
    let stepped : HasStepped (arc_value c.args.swaps.home).system c.step.result c.args.swaps.swap c.step.new.self c.args.swaps.pass.value c.step.new.pass = search rules in
    made_step c.args.swaps c.step.new.self c.step.new.pass _ _ c.step.result (steps.Memory) is stepped refl (_, refl, refl, refl)

pub returns-in-Worn : goal.returns-in-Worn
returns-in-Worn c =
    let is : c.step.result ≡ steps.Worn = search rules in
    let stepped : HasStepped (arc_value c.args.swaps.home).system c.step.result c.args.swaps.swap c.step.new.self c.args.swaps.pass.value c.step.new.pass = search rules in
    made_step c.args.swaps c.step.new.self c.step.new.pass _ _ c.step.result (steps.Worn) is stepped refl (_, refl, refl, refl)
