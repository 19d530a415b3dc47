-- Step lines, read (document 01, 'Offers and runs': 'steps, one line each: `ask=offer`, `start=T`, `start=auto` (the offer's lower end),
-- `finish=T`; T is 0..100,000,000,000,000,000 on the run's clock').
use Rattle.std.specs.Prelude.{ℕ, Bool, false, cond, List, ℤ, pos, Result, Ok, Err}
use Rattle.std.proofs.Math.Option.{Option, none, some}
use Rattle.text.specs.Bytes.{bytes}
use Rattle.text.specs.Lines.{after_key}
use Rattle.text.specs.Numbers.{number_in, is_empty}
use Rattle.text.specs.declared.NumberFault.{NumberFault}
use Rattle.lines.specs.declared.Fault.{Fault}
use Rattle.lines.specs.declared.Fault.TheVariants.{Form}
use Rattle.clock.specs.declared.RunTime.{RunTime}
use Rattle.lines.specs.Refusals.{line_lacks}
use Rattle.lines.specs.Reading.{Reader, line}
use Rattle.runs.specs.declared.Step.{Step}
use Rattle.runs.specs.declared.Step.TheVariants.{Ask, Start, Finish}
use Rattle.runs.specs.declared.Choice.TheVariants.{At, Auto}
use Rattle.runs.specs.ValueLimits.{last_time}

-- whether a line is just this text
abbrev pub is_all : Option (List ℕ) → Bool
is_all none = false
is_all (some s) = is_empty s

abbrev pub is_text : List ℕ → List ℕ → Bool
is_text t l = is_all (after_key t l)

-- a step with the time that a number gives
unfoldable pub time_step : (RunTime → Step) → Result ℤ NumberFault → Result Step Fault
time_step f (Ok z) = Ok (f (record { 0 = z }))
time_step f (Err x) = Err (line_lacks x)

abbrev pub step_time : List ℕ → Result ℤ NumberFault
step_time s = number_in (pos 0) last_time s

-- what follows `finish=`
unfoldable pub finish_in : List ℕ → Result Step Fault
finish_in s = time_step Finish (step_time s)

unfoldable pub finish_step : Option (List ℕ) → Result Step Fault
finish_step none = Err Form
finish_step (some s) = finish_in s

-- what follows `start=`
unfoldable pub start_in : List ℕ → Result Step Fault
start_in s = cond (is_text (bytes "auto") s) (Ok (Start Auto)) (time_step (λ t. Start (At t)) (step_time s))

unfoldable pub start_step : List ℕ → Option (List ℕ) → Result Step Fault
start_step l none = finish_step (after_key (bytes "finish=") l)
start_step l (some s) = start_in s

unfoldable pub step_in : List ℕ → Result Step Fault
step_in l = cond (is_text (bytes "ask=offer") l) (Ok Ask) (start_step l (after_key (bytes "start=") l))

unfoldable pub step_line : Reader Step
step_line = line step_in
