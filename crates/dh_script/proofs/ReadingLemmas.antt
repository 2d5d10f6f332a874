-- What reading a script takes, and the fault that it hands on.
use Rattle.std.proofs.Common.{◌≡◌, ℕ, ◌+◌, ◌≤◌, Bool, List, length, Option, Result, Err, IsErrAnd, arith, ap, sym, ◌∙◌}
use Rattle.std.proofs.lemmas.Result.{err_from_is_err_and}
use Rattle.std.specs.Io.KnownBytes.{Consumes}
use Rattle.dh_ports.specs.declared.stop.Stop.{Stop}
use Rattle.dh_ports.specs.declared.stop.Stop.TheVariants.{Read, TooManyTurns, Memory}
use Rattle.dh_ports.specs.Reading.{TookAtMost, most_lost}
use Rattle.dh_ports.proofs.Taking.{took_on}
use Rattle.dh_script.specs.Reading.{is_write, writer_failed}
use Rattle.dh_script.specs.declared.fault.ScriptFault.{ScriptFault}

most_lost-little : (stop : Stop) → most_lost stop ≤ 4096
most_lost-little Read = omega arith
most_lost-little TooManyTurns = omega arith
most_lost-little Memory = omega arith

-- the bytes so far, and at most a piece that was lost
pub stop_took : (most : ℕ) (left now next : Option (List ℕ)) (before : List ℕ) (stop : Stop) → Consumes left now before → length before ≤ most → TookAtMost now next (most_lost stop) → TookAtMost left next (most + 4096)
stop_took most left now next before stop taken within lost =
    let all : TookAtMost left next _ = took_on left now next before (most_lost stop) taken lost in
    (all.0, all.1, omega (arith, all.2, most_lost-little stop))

-- a fault that is handed on
pub failed_on : {T : Type 0} (b : Bool) (e : ScriptFault) (r : Result T ScriptFault) → b ≡ is_write e → IsErrAnd r (λ x. x ≡ e) → b ≡ writer_failed r
failed_on b e r same is =
    let at = err_from_is_err_and r is in
    same ∙ sym (ap (λ (x : Result _ ScriptFault). writer_failed x) (at.1 ∙ ap Err at.2))
