use mathlib.Core.Path.{refl, subst}
use native.Mathlib.Omega.{arith}
use Rattle.session.specs.declared.RunResult.{RunResult}
use Rattle.quadro.specs.Inputs.{InputRun}
use Rattle.quadro.proofs.Inputs.{over_is_the_inputs}
use Rattle.quadro.proofs.run_input.Goals as goal

pub run_turns-requires : goal.run_turns-requires
run_turns-requires c = rw c.fresh_day.ensures ((omega arith, omega arith, omega arith), refl)

pub returns : goal.returns
returns c =
    record {
      run =
          subst (λ (d : RunResult). InputRun d c.run_turns.new.buf c.run_turns.result) c.fresh_day.ensures
          c.run_turns.ensures;
      over = over_is_the_inputs;
    }
